-- A list of states that covers a cutting of a set, expanded with the set's total, is accepted, and its slices agree with the set in order. The last seed ends with the set, whether its window closes with its stop or not.
--     walk_covering      the walk over the seeds from a place on
--     expand_covering    the expanding of the whole list
-- Assumes nothing.
use mathlib.Core.Path.{◌≡◌, refl, sym, ap, subst, ◌∙◌}
use mathlib.Core.Bool.{Bool, true, false, ◌&&◌, not}
use mathlib.Core.List.{List, [], ◌∷◌, ◌++◌}
use Prim.Native.Nat.{ℕ, suc, ◌+◌, ◌-◌, ◌≤◌, ◌<◌, min}
use native.Mathlib.Omega.{arith}
use lib.Dec.{eqb}
use lib.ListN.{length, drop, length-take, length-drop, take-append-drop, drop_of_length-le}
use lib.Seq.{drop-drop}
use borrow.Author.Tests.{eq-eqb, ne_eqb, le-leb, eqb-true}
use Rattle.words_bounded.proofs.Tests.{both}
use Rattle.refusal_causes.specs.Outcome.{fill}
use Rattle.machine_settings.specs.Machine.{Machine}
use Rattle.machine_slices.specs.declared.TestSlice.{TestSlice}
use Rattle.theory_cutting.specs.Cutting.{Covering, without_state, state}
use Rattle.theory_covering.specs.Covering.{covers}
use Rattle.theory_covering.specs.Rules.{Rules}
use Rattle.theory_covering.specs.Windows.{part, closes, covers_part, CoveredBy}
use Rattle.theory_covering.proofs.Places.{placed-parts, far_le}
use Rattle.theory_covering.proofs.Starts.{covering_forward}
use Rattle.expander_meaning.specs.Run.{slices_of, gives, delivers}
use Rattle.expander_meaning.specs.Expanding.{ran, after, is_last, walk, totalled, expanding}
use Rattle.expander_meaning.proofs.OneSeed.{walk_gives}
use Rattle.expander_meaning.proofs.Agreeing.{Agree, agree_none, agree_append, agree_length}
use Rattle.expander_meaning.proofs.Covered.{covers-quiet, covers-stop, covers_agree}
use Rattle.expander_meaning.proofs.Ending.{before, gives_open, gives_closed}

module _ (M : Machine) (R : Rules) (set : List TestSlice) where
  abbrev n : ℕ
  n = length set

  -- the state of the window that ends the set is the last one, and only that
  last_window : {a b : ℕ} {es ss : List ℕ} → Covering (CoveredBy M R set) a es ss b → b ≡ n → is_last ss ≡ eqb a n
  last_window {a} without_state e = sym (eq-eqb a n e)
  last_window (state {a = a} {k = k} c rest) e =
      sym (ne_eqb a n (λ q. omega (arith, (placed-parts R n a k c.place).0, covering_forward M set R rest)))

  module _ (a k s : ℕ) (c : CoveredBy M R set a k s) where
    bounds : (a < k) × (k ≤ n) × (k ≤ a + R.limit)
    bounds =
        let p = placed-parts R n a k c.place in
        let f = far_le R n a in
        (p.0, omega (arith, p.1, f.0), omega (arith, p.1, f.1))

    part_length : length (part a k set) ≡ k - a
    part_length = let b = bounds in simp (length-take, length-drop) (omega arith)

    covered : (closing : Bool) → closes R n k ≡ closing → covers M (R.live a) closing (part a k set) s ≡ true
    unfolding covers_part
    covered closing e = rw e at c.covered

    runs_on : k - a ≤ before M R (R.live a) s
    runs_on = let b = bounds in rw part_length at (covers-quiet M (R.live a) (closes R n k) (part a k set) s (suc R.limit) (omega (arith, part_length)) (covered (closes R n k) refl))

    -- a window that closes ends at its stop; one that ends the set and does not, where the slices end
    window_delivers : (place : ℕ) (last : Bool) → (R.open_end && last) ≡ (R.open_end && eqb k n) → delivers M R (R.live a) place (R.open_end && last) (n - a) s ≡ gives (k - a)
    unfolding closes
    window_delivers place last same = rw same (go (R.open_end && eqb k n) refl)
      where
        go : (o : Bool) → (R.open_end && eqb k n) ≡ o → delivers M R (R.live a) place (R.open_end && eqb k n) (n - a) s ≡ gives (k - a)
        go true o =
            let b = bounds in
            let z = eqb-true k n (both R.open_end (eqb k n) o).1 in
            let m : min (n - a) (before M R (R.live a) s) ≡ k - a = omega (arith, runs_on) in
            rw o (gives_open M R (R.live a) place true (n - a) s c.below (omega (arith, runs_on)) (le-leb (n - a) R.limit (omega arith)) ∙ ap gives m)
        go false o =
            let b = bounds in
            let q = covers-stop M (R.live a) (part a k set) s (suc R.limit) (covered true (ap not o)) (omega (arith, part_length)) ∙ part_length in
            rw o (gives_closed M R (R.live a) place false (n - a) s c.below (omega (arith, runs_on)) refl (omega arith) ∙ ap gives q)

    window_agrees : Agree (part a k set) (slices_of M (k - a) s)
    window_agrees = rw part_length at (covers_agree M (R.live a) (closes R n k) (part a k set) s (covered (closes R n k) refl))

    joined : part a k set ++ drop k set ≡ drop a set
    joined =
        let b = bounds in
        let e : a + (k - a) ≡ k = omega arith in
        ap (λ (m : ℕ). part a k set ++ drop m set) (sym e) ∙ ap (λ (l : List TestSlice). part a k set ++ l) (sym (drop-drop (k - a) a set)) ∙ take-append-drop (k - a) (drop a set)

  walk_more : (place a k s : ℕ) {es ss : List ℕ} (ws : List ℕ) → CoveredBy M R set a k s → Covering (CoveredBy M R set) k es ss n → walk M R n (suc place) k ss ≡ ran ws
      → walk M R n place a (s ∷ ss) ≡ ran (slices_of M (k - a) s ++ ws)
  unfolding after
  walk_more place a k s {ss = ss} ws c rest e =
      let b = bounds a k s c in
      let q : a + (k - a) ≡ k = omega arith in
      walk_gives M R n place a s ss (k - a) (window_delivers a k s c place (is_last ss) (ap (λ (l : Bool). R.open_end && l) (last_window rest refl))) (omega arith) ∙ rw (q, e)

  walk_covering : (place : ℕ) {a b : ℕ} {es ss : List ℕ} → Covering (CoveredBy M R set) a es ss b → b ≡ n
      → (vs : List ℕ) × (walk M R n place a ss ≡ ran vs) × Agree (drop a set) vs
  unfolding walk
  walk_covering place {a} without_state e = ([], refl, rw (drop_of_length-le set {i = a} (omega arith)) agree_none)
  walk_covering place (state {a = a} {b = b} {k = k} {s = s} {es = es} {ss = ss} c rest) e =
      let r = walk_covering (suc place) rest e in
      (slices_of M (k - a) s ++ r.0, walk_more place a k s r.0 c (subst (Covering (CoveredBy M R set) k es ss) e rest) r.1, rw (sym (joined a k s c)) (agree_append (window_agrees a k s c) r.2))

  pub expand_covering : (es ss : List ℕ) → Covering (CoveredBy M R set) 0 es ss n
      → (vs : List ℕ) × ((out : List ℕ) → expanding M R n ss out ≡ fill vs out) × Agree set vs
  unfolding expanding totalled
  expand_covering es ss c =
      let r = walk_covering 0 c refl in
      (r.0, (λ out. rw (r.1, totalled, eq-eqb (length r.0) n (agree_length r.2))), r.2)
