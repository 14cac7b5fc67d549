-- Laws of meeting the slices of a window, as its loop goes up through them.
--     row_part          a row of the table, as a part of it
--     row_asked         the row of a slice is there, and long enough for it
--     Meets             a state meets a slice, by its row
--     meet-last         one slice more
--     meet-front, meet_at     who meets more slices meets fewer, and each of them
--     Fitted            what the loop keeps: the members that meet the slices so far
--     fitted_start, fitted_next, fitted_none, fitted_stop, fitted_end     at the start, after a slice, where nothing is left, and at the end
--     most_end          there are no more slices than all
-- Assumes nothing.
use Rattle.std.specs.Prelude.{None}
use mathlib.Core.Path.{◌≡◌, refl, sym, ap, ap₂, ◌∙◌}
use mathlib.Core.Bool.{Bool, true, false, ◌&&◌, and-true, and_assoc}
use mathlib.Core.List.{List, [], ◌∷◌}
use Prim.Native.Nat.{ℕ, zero, suc, ◌+◌, ◌-◌, ◌*◌, ◌^◌, ◌≤◌, ◌<◌}
use native.Mathlib.Numerals.{add-one}
use native.Mathlib.Omega.{arith}
use lib.ListN.{get_or, length, take, drop}
use lib.Seq.{take_all}
use Rattle.words_bounded.proofs.Tests.{clash, fails, both, and_yes}
use Rattle.search_space.specs.declared.Space.{Space}
use Rattle.search_space.specs.Space.{Member}
use Rattle.search_rows.specs.Rows.{row}
use Rattle.search_rows.proofs.Reading.{row_fits}
use Rattle.machine_slices.specs.declared.TestSlice.{TestSlice}
use Rattle.machine_slices.specs.Slices.{paired, bad_slices}
use Rattle.machine_slices.proofs.Causes.{slice_at}
use Rattle.machine_slices.proofs.Formed.{slices_length, slices_at, slices_each}
use Rattle.window_rows.specs.Meeting.{meets, all_meet}
use Rattle.window_rows.specs.Narrowing.{Narrows, Narrowed}
use Rattle.window_rows.specs.Most.{Most}
use Rattle.window_rows.proofs.Narrowing.{narrows_none, narrows_same, narrows_then}

pub row_part : (c : ℕ) (table : List ℕ) (t : ℕ) → take (t * c + c - t * c) (drop (t * c) table) ≡ row c table t
row_part c table t = let e : t * c + c - t * c ≡ c = omega arith in rw e

pub row_asked : (c : ℕ) (table ps bs : List ℕ) → bad_slices c ps bs ≡ false → length ps * c ≤ length table → (k : ℕ) → k < length ps → ((slice_at ps bs k).specified < 2 ^ c) × (k * c + c ≤ length table)
row_asked c table ps bs b h k l = ((slices_each c ps bs b k l).among, row_fits k (length ps) c (length table) l h)

module _ (c : ℕ) (table : List ℕ) where
  abbrev pub Meets : ℕ → TestSlice → ℕ → Bool
  Meets t x s = meets (row c table t) x.specified x.bits s

  meet-last : (w : List TestSlice) (t k s : ℕ) (d : TestSlice) → k < length w → all_meet c table t (take (suc k) w) s ≡ (all_meet c table t (take k w) s && Meets (t + k) (get_or w k d) s)
  unfolding all_meet
  meet-last [] t k s d h = absurd (omega arith)
  meet-last (x ∷ w) t zero s d h = let e : t + 0 ≡ t = omega arith in rw e (and-true (Meets t x s))
  meet-last (x ∷ w) t (suc k) s d h =
      let e : t + suc k ≡ suc t + k = omega arith in
      rw e (ap (λ (b : Bool). Meets t x s && b) (meet-last w (suc t) k s d (omega arith)) ∙ sym (and_assoc (Meets t x s) (all_meet c table (suc t) (take k w) s) (Meets (suc t + k) (get_or w k d) s)))

  pub meet-front : (w : List TestSlice) (t j k s : ℕ) → j ≤ k → all_meet c table t (take k w) s ≡ true → all_meet c table t (take j w) s ≡ true
  unfolding all_meet
  meet-front w t zero k s h e = refl
  meet-front w t (suc j) zero s h e = absurd (omega arith)
  meet-front [] t (suc j) (suc k) s h e = refl
  meet-front (x ∷ w) t (suc j) (suc k) s h e =
      let a = both (Meets t x s) (all_meet c table (suc t) (take k w) s) e in
      and_yes (Meets t x s) (all_meet c table (suc t) (take j w) s) a.0 (meet-front w (suc t) j k s (omega arith) a.1)

  module _ (w : List TestSlice) (x : Space) (us : List ℕ) where
    abbrev pub Fitted : ℕ → Space → List ℕ → Type 0
    Fitted k y vs = Narrows (all_meet c table 0 (take k w)) x us y vs

    pub fitted_start : Fitted 0 x us
    unfolding all_meet
    fitted_start = narrows_none x us

  module _ (ps bs : List ℕ) (b : bad_slices c ps bs ≡ false) (x : Space) (us : List ℕ) where
    abbrev w : List TestSlice
    w = paired ps bs

    abbrev Q : ℕ → ℕ → Bool
    Q k s = all_meet c table 0 (take k w) s

    long : length w ≡ length ps
    long = slices_length c ps bs b

    pub fitted_next : (k : ℕ) (y : Space) (vs : List ℕ) (z : Space) (ws : List ℕ) → k < length ps → Fitted w x us k y vs → Narrows (Meets k (slice_at ps bs k)) y vs z ws → Fitted w x us (k + 1) z ws
    fitted_next k y vs z ws h f g =
        let d = slice_at ps bs k in
        let e : 0 + k ≡ k = omega arith in
        narrows_same (λ s. Q k s && Meets k d s) (Q (k + 1)) x us z ws
        (λ s. sym (ap (λ (n : ℕ). Q n s) (add-one k) ∙ meet-last w 0 k s d (omega (arith, long)) ∙ ap₂ (λ (n : ℕ) (t : TestSlice). Q k s && Meets n t s) e (slices_at c ps bs b k d h)))
        (narrows_then (Q k) (Meets k d) x us y vs z ws f g)

    -- who meets one slice more meets that slice
    pub meet_at : (k s : ℕ) → k < length ps → Q (k + 1) s ≡ true → Meets k (slice_at ps bs k) s ≡ true
    meet_at k s h t =
        let d = slice_at ps bs k in
        let e : 0 + k ≡ k = omega arith in
        (both (Q k s) (Meets k d s)
        (sym (ap (λ (n : ℕ). Q n s) (add-one k) ∙ meet-last w 0 k s d (omega (arith, long)) ∙ ap₂ (λ (n : ℕ) (t : TestSlice). Q k s && Meets n t s) e (slices_at c ps bs b k d h)) ∙ t)).1

    -- where no member is left after a slice, none meets so many slices or more
    module _ (k : ℕ) (y : Space) (vs out : List ℕ) (h : k < length ps) (f : Fitted w x us k y vs) (g : Narrowed (Meets k (slice_at ps bs k)) y vs None out) where
      pub fitted_none : (j s : ℕ) → k < j → Member x us s → Q j s ≡ false
      fitted_none j s l m = fails (Q j s) (λ q.
          clash (Meets k (slice_at ps bs k) s) (meet_at k s h (meet-front w 0 (k + 1) j s (omega arith) q))
          (g s (f.complete s m (meet-front w 0 k j s (omega arith) q))))

      pub fitted_stop : (new : List ℕ) → Narrowed (all_meet c table 0 w) x us None new
      fitted_stop new = λ s m. sym (ap (λ (v : List TestSlice). all_meet c table 0 v s) (take_all (length ps) w (omega (arith, long)))) ∙ fitted_none (length ps) s h m

    pub fitted_end : (k : ℕ) (z : Space) (ws : List ℕ) → length ps ≤ k → Fitted w x us k z ws → Narrows (all_meet c table 0 w) x us z ws
    fitted_end k z ws l f = narrows_same (Q k) (all_meet c table 0 w) x us z ws (λ s. ap (λ (v : List TestSlice). all_meet c table 0 v s) (take_all k w (omega (arith, long)))) f

pub most_end : (P : List TestSlice → ℕ → Bool) (w : List TestSlice) (cells k : ℕ) → k ≡ length w → Most P w cells k
most_end P w cells k e = record { within = omega arith; more = λ j s l m u. absurd (omega arith) }
