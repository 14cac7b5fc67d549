-- The spaces of the states that meet the first slices of a part, as the loop writes them.
--     Growing            what the loop keeps: the states that meet the slices so far, and the spaces that are written
--     growing_start, growing_next, growing_beyond     at the start, after a slice whose space is written, and after one whose space is not
--     grown_stop, grown_end     where nothing is left, and at the end
--     held_part          a space as that of a part
-- Assumes nothing.
use Rattle.std.specs.Prelude.{None, false}
use mathlib.Core.Path.{◌≡◌, refl, sym, ap, ◌∙◌, subst}
use mathlib.Core.Logic.{⊎_elim}
use mathlib.Core.List.{List}
use Prim.Native.Nat.{ℕ, ◌+◌, ◌-◌, ◌*◌, ◌/◌, ◌≤◌, ◌<◌}
use native.Mathlib.Omega.{arith}
use lib.ListN.{get_or, length, take, drop, length-drop, length-take}
use lib.Seq.{ext_get_or, length-take-le, get_or-drop, get_or-take}
use Rattle.words_bounded.proofs.Tests.{eq_or_not}
use Rattle.search_space.specs.declared.Space.{Space}
use Rattle.machine_slices.specs.declared.TestSlice.{TestSlice}
use Rattle.machine_slices.specs.Slices.{paired, bad_slices}
use Rattle.machine_slices.proofs.Causes.{slice_at}
use Rattle.machine_slices.proofs.Formed.{slices_length, paired-take}
use Rattle.window_rows.specs.Meeting.{all_meet}
use Rattle.window_rows.specs.Narrowing.{all_states, units_of, Narrows, Narrowed}
use Rattle.window_rows.proofs.Fitting.{Meets, Fitted, fitted_start, fitted_none, most_end}
use Rattle.window_rows.proofs.States.{states_complete}
use Rattle.window_spaces.specs.Holding.{held_vectors, Holds}
use Rattle.window_growing.specs.Growing.{HeldAt, Held, Grown}

-- the vectors of a space lie before the place a
held_vectors_lem : (old new : List ℕ) (a b f : ℕ) → b + 66 ≤ a → length new ≡ length old → ((i : ℕ) → i < a → get_or new i 0 ≡ get_or old i 0) → held_vectors new b f ≡ held_vectors old b f
unfolding held_vectors
held_vectors_lem old new a b f h l e = ap (take f) (ext_get_or 0 (take 64 (drop (b + 2) new)) (take 64 (drop (b + 2) old))
    (length-take 64 (drop (b + 2) new) ∙ rw (length-drop (b + 2) new, l, sym (length-drop (b + 2) old)) (sym (length-take 64 (drop (b + 2) old))))
    (λ i k.
    let w : i < 64 = omega (arith, length-take 64 (drop (b + 2) new)) in
    get_or-take 64 (drop (b + 2) new) i 0 w ∙ get_or-drop (b + 2) new i 0 ∙ e (b + 2 + i) (omega arith) ∙ sym (get_or-take 64 (drop (b + 2) old) i 0 w ∙ get_or-drop (b + 2) old i 0)))

module _ (c : ℕ) (table : List ℕ) (w : List TestSlice) (cells : ℕ) where
  abbrev As : ℕ → ℕ → List ℕ → Type 0
  As x f vs = Narrows (all_meet c table 0 w) (all_states cells) (units_of cells) (record { lowest = x; free = f }) vs

  held_same : (old new : List ℕ) (a k : ℕ) → (k - 1) * 66 + 66 ≤ a → length new ≡ length old → ((i : ℕ) → i < a → get_or new i 0 ≡ get_or old i 0)
      → HeldAt c table w cells old k → HeldAt c table w cells new k
  held_same old new a k h l e n =
      let b : ℕ = (k - 1) * 66 in
      let x : get_or old b 0 ≡ get_or new b 0 = sym (e b (omega arith)) in
      let f : get_or old (b + 1) 0 ≡ get_or new (b + 1) 0 = sym (e (b + 1) (omega arith)) in
      let v : held_vectors old b (get_or old (b + 1) 0) ≡ held_vectors new b (get_or new (b + 1) 0) =
      sym (held_vectors_lem old new a b (get_or old (b + 1) 0) h l e) ∙ ap (held_vectors new b) f in
      subst (λ (q : ℕ). As q (get_or new (b + 1) 0) (held_vectors new b (get_or new (b + 1) 0))) x
      (subst (λ (q : ℕ). As (get_or old b 0) q (held_vectors new b (get_or new (b + 1) 0))) f
      (subst (λ (us : List ℕ). As (get_or old b 0) (get_or old (b + 1) 0) us) v n))

  held_new : (new : List ℕ) (k : ℕ) (y : Space) (vs : List ℕ) → Holds new ((k - 1) * 66) y.lowest y.free vs → Narrows (all_meet c table 0 w) (all_states cells) (units_of cells) y vs
      → HeldAt c table w cells new k
  held_new new k y vs h n =
      let b : ℕ = (k - 1) * 66 in
      subst (λ (q : ℕ). As q (get_or new (b + 1) 0) (held_vectors new b (get_or new (b + 1) 0))) (sym h.lowest)
      (subst (λ (q : ℕ). As y.lowest q (held_vectors new b q)) (sym h.free)
      (subst (λ (us : List ℕ). As y.lowest y.free us) (sym h.vectors) n))

module _ (c : ℕ) (table : List ℕ) (w : List TestSlice) (cells : ℕ) where
  pub record Growing (n k : ℕ) (y : Space) (vs spaces : List ℕ) : Type 0 where
    pub long : length spaces ≡ n
    pub fitted : Fitted c table w (all_states cells) (units_of cells) k y vs
    pub held : Held c table w cells spaces k

  pub growing_start : (spaces : List ℕ) → Growing (length spaces) 0 (all_states cells) (units_of cells) spaces
  growing_start spaces = record {
    long = refl;
    fitted = fitted_start c table w (all_states cells) (units_of cells);
    held = λ j h b. absurd (omega arith);
  }

  module _ (n k : ℕ) (y : Space) (vs spaces : List ℕ) (g : Growing n k y vs spaces) (z : Space) (ws : List ℕ) (f : Fitted c table w (all_states cells) (units_of cells) (k + 1) z ws) where
    pub growing_next : (new : List ℕ) → length new ≡ length spaces → ((i : ℕ) → i < k * 66 → get_or new i 0 ≡ get_or spaces i 0) → Holds new (k * 66) z.lowest z.free ws → Growing n (k + 1) z ws new
    growing_next new l s h = record {
      long = l ∙ g.long;
      fitted = f;
      held = λ j p b t. ⊎_elim
          (λ q. subst (λ (i : ℕ). HeldAt c table (take i w) cells new i) (sym q) (held_new c table (take (k + 1) w) cells new (k + 1) z ws (let u : k * 66 ≡ (k + 1 - 1) * 66 = omega arith in subst (λ (a : ℕ). Holds new a z.lowest z.free ws) u h) f))
          (λ ne. held_same c table (take j w) cells spaces new (k * 66) j (omega arith) l s (g.held j p (omega arith) (subst (λ (m : ℕ). j ≤ m / 66) l t)))
          (eq_or_not j (k + 1));
    }

    pub growing_beyond : n / 66 ≤ k → Growing n (k + 1) z ws spaces
    growing_beyond h = record { long = g.long; fitted = f; held = λ j p b t. g.held j p (omega (arith, ap (λ (m : ℕ). m / 66) g.long)) t }

module _ (c : ℕ) (table : List ℕ) (ps bs : List ℕ) (b : bad_slices c ps bs ≡ false) (cells : ℕ) (few : cells ≤ 64) where
  abbrev w : List TestSlice
  w = paired ps bs

  pub grown_stop : (n k : ℕ) (y : Space) (vs spaces out : List ℕ) → k < length ps → Growing c table w cells n k y vs spaces
      → Narrowed (Meets c table k (slice_at ps bs k)) y vs None out → Grown (all_meet c table 0) c table w cells spaces k
  grown_stop n k y vs spaces out h g f = record {
    most = record {
      within = omega (arith, slices_length c ps bs b);
      more = λ j s l m u. fitted_none c table ps bs b (all_states cells) (units_of cells) k y vs out h g.fitted f j s l (states_complete cells few s u);
    };
    held = g.held;
  }

  pub grown_end : (n k : ℕ) (y : Space) (vs spaces : List ℕ) → k ≤ length ps → length ps ≤ k → Growing c table w cells n k y vs spaces → Grown (all_meet c table 0) c table w cells spaces (length ps)
  grown_end n k y vs spaces h l g = record {
    most = most_end (all_meet c table 0) w cells (length ps) (sym (slices_length c ps bs b));
    held = λ j p m t. g.held j p (omega arith) t;
  }

-- a space is that of the slices cut off at its number
pub held_part : (c : ℕ) (table ps bs : List ℕ) (cells : ℕ) (spaces : List ℕ) (k : ℕ) → k ≤ length ps → HeldAt c table (take k (paired ps bs)) cells spaces k
    → HeldAt c table (paired (take k ps) (take k bs)) cells spaces (length (take k ps))
held_part c table ps bs cells spaces k h a =
    subst (λ (j : ℕ). HeldAt c table (paired (take k ps) (take k bs)) cells spaces j) (sym (length-take-le k ps h))
    (subst (λ (v : List TestSlice). HeldAt c table v cells spaces k) (sym (paired-take k ps bs)) a)
