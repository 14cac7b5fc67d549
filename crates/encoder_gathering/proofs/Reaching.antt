-- The longest window from a start of a set is the greedy one, for every rule.
--     part_length     how long the part is that a window may take
--     seed-same       the seed of its first slices is that of the window in the set
--     Reaches         what the longest window says of the set
--     ReachesOr       what the search for it says, by its answer
--     reaches         it says so
-- Assumes nothing.
use Rattle.std.specs.Prelude.{None, Option, Some, unwrap_or}
use mathlib.Core.Path.{◌≡◌, sym, ap, ap₂, ◌∙◌}
use mathlib.Core.Logic.{⊎_elim}
use mathlib.Core.Bool.{Bool, true, false, ◌&&◌, and-false, or-true, or-false}
use mathlib.Core.List.{List}
use Prim.Native.Nat.{ℕ, suc, ◌+◌, ◌-◌, ◌≤◌, ◌<◌}
use native.Mathlib.Omega.{arith}
use lib.Dec.{ltb, eqb}
use lib.ListN.{length, take, drop, length-take, length-drop}
use lib.Seq.{take-take}
use borrow.Author.Tests.{lt-ltb, le-ltb, ltb-true, ne_eqb}
use Rattle.words_bounded.specs.Bounded.{last_below}
use Rattle.words_bounded.proofs.Tests.{clash, fails, both, and_yes, lt_or_le}
use Rattle.words_bounded.proofs.Search.{LastIs, last_is, last_of, last_none}
use Rattle.machine_settings.specs.Machine.{Machine}
use Rattle.machine_slices.specs.declared.TestSlice.{TestSlice}
use Rattle.theory_cutting.specs.Greedy.{reach}
use Rattle.theory_covering.specs.Rules.{Rules}
use Rattle.theory_covering.specs.Covering.{seed_of}
use Rattle.theory_covering.specs.Windows.{part, far, placed, closes, seed_at, found, ok}
use Rattle.theory_covering.proofs.Places.{far_le, placed-parts, parts-placed}
use Rattle.window_lengths.specs.Longest.{closes_at, seed_for, longest, reach_of}
use Rattle.window_lengths.specs.declared.Window.{Window}

module _ (M : Machine) (R : Rules) (set : List TestSlice) (a : ℕ) where
  abbrev n : ℕ
  n = length set

  abbrev e : ℕ
  e = far R n a

  abbrev w : List TestSlice
  w = part a e set

  abbrev last : Bool
  last = closes R n e

  pub part_length : length w ≡ e - a
  part_length = omega (arith, length-take (e - a) (drop a set), length-drop a set, (far_le R n a).0)

  -- a window shorter than the part does not end the set
  closes-same : (k : ℕ) → 0 < k → k ≤ e - a → closes_at last w k ≡ closes R n (a + k)
  unfolding closes
  closes-same k p h = ⊎_elim
      (λ l.
      let q : eqb (a + k) n ≡ false = ne_eqb (a + k) n (λ z. let f = (far_le R n a).0 in omega arith) in
      rw (lt-ltb k (length w) (omega (arith, part_length)), or-true, q, and-false))
      (λ l.
      let q : a + k ≡ e = omega arith in
      rw (le-ltb k (length w) (omega (arith, part_length)), or-false, q))
      (lt_or_le k (e - a))

  seed-same : (k : ℕ) → 0 < k → k ≤ e - a → seed_for M (R.live a) last w k ≡ seed_at M R set a (a + k)
  unfolding seed_for seed_at
  seed-same k p h =
      let q : a + k - a ≡ k = omega arith in
      ap₂ (seed_of M (R.live a)) (closes-same k p h) (take-take k (e - a) (drop a set) h ∙ ap (λ (i : ℕ). take i (drop a set)) (sym q))

  abbrev test : ℕ → Bool
  test k = ltb 0 k && found (seed_for M (R.live a) last w k)

  -- a window of the set passes the test by its length
  passes : (j : ℕ) → ok M R set a j ≡ true → (a < j) × (j ≤ e) × (test (j - a) ≡ true)
  unfolding ok
  passes j t =
      let h = both (placed R n a j) (found (seed_at M R set a j)) t in
      let p = placed-parts R n a j h.0 in
      let lt = p.0 in
      let le = p.1 in
      let q : a + (j - a) ≡ j = omega arith in (
        lt,
        le,
        and_yes (ltb 0 (j - a)) (found (seed_for M (R.live a) last w (j - a))) (lt-ltb 0 (j - a) (omega arith))
            (ap found (seed-same (j - a) (omega arith) (omega arith) ∙ ap (seed_at M R set a) q) ∙ h.1),
      )

  pub record Reaches (r : Window) : Type 0 where
    pub some : 0 < r.slices
    pub end : reach (ok M R set) n a ≡ a + r.slices
    pub within : a + r.slices ≤ n
    pub seed : r.seed ≡ unwrap_or (seed_at M R set a (a + r.slices)) 0

  abbrev pub ReachesOr : Option Window → Type 0
  ReachesOr None = reach (ok M R set) n a ≡ a
  ReachesOr (Some r) = Reaches r

  pub reaches : a ≤ n → ReachesOr (reach_of M (R.live a) last w)
  unfolding reach_of longest reach ok
  reaches start = go (last_below test (suc (length w))) (last_is test (suc (length w)))
    where
      nothing : LastIs test (suc (length w)) None → last_below (ok M R set a) (suc n) ≡ None
      nothing all = last_none (ok M R set a) (suc n) (λ j h. fails (ok M R set a j) (λ t.
          let p = passes j t in
          let le = p.1 in
          clash (test (j - a)) p.2 (all (j - a) (omega (arith, part_length)))))

      go : (o : Option ℕ) → LastIs test (suc (length w)) o
          → ReachesOr (elim o [ None ↦ None | Some k ↦ Some (record { slices = k; seed = unwrap_or (seed_for M (R.live a) last w k) 0 }) ])
      go None all = rw (nothing all)
      go (Some k) l =
          let t = both (ltb 0 k) (found (seed_for M (R.live a) last w k)) l.passes in
          let p = ltb-true 0 k t.0 in
          let h : k ≤ e - a = omega (arith, l.below, part_length) in
          let le = (far_le R n a).0 in
          let is : ok M R set a (a + k) ≡ true = and_yes (placed R n a (a + k)) (found (seed_at M R set a (a + k))) (parts-placed R n a (a + k) (omega arith) (omega arith)) (ap found (sym (seed-same k p h)) ∙ t.1) in
          record {
            some = p;
            end = rw (last_of (ok M R set a) (suc n) (a + k) (omega arith) is (λ j lt b. fails (ok M R set a j) (λ u.
                let q = passes j u in
                let jl = q.1 in
                let g = l.greatest (j - a) (omega (arith, part_length)) q.2 in
                omega arith)));
            within = omega arith;
            seed = ap (λ (o : Option ℕ). unwrap_or o 0) (seed-same k p h);
          }
