-- How many slices a step that sets a position leaves in: none that has the counted bit; at most half of them, since the count of the chosen bit is the greatest, so that the slices that stay are no more than those that go out; and none where the greatest count is 0.
--     none_counted_left         no slice that stays in has the counted bit
--     halves                    at most half of the slices stay in
--     zero_empties              where the greatest count is 0, all slices go out
--     Halved set g              the slices still in, times 2 for each position set, are no more than the set has
--     stage_halved              so it is after each step
--     left_few                  where all positions are set and slices are in, there are at least as many slices as patterns
-- Assumes nothing.
use Rattle.std.specs.Prelude.{None, Option, Some}
use mathlib.Core.Path.{◌≡◌, ap, ◌∙◌}
use mathlib.Core.Bool.{Bool, true, false}
use mathlib.Core.List.{List, [], ◌∷◌}
use Prim.Native.Nat.{ℕ, zero, suc, ◌+◌, ◌-◌, ◌*◌, ◌/◌, ◌%◌, ◌^◌, ◌≤◌}
use native.Mathlib.Nat.{mul_assoc, mul_left_comm, mul-le-mul_left}
use native.Mathlib.Omega.{arith}
use lib.Count.{ones, ones-le}
use lib.ListN.{length}
use lib.Pow.{pow_mono}
use borrow.Author.Tests.{eqb-true}
use Rattle.words_gf2.specs.Words.{digit}
use Rattle.words_gf2.proofs.Ones.{ones_put, ones_all}
use Rattle.machine_slices.specs.declared.TestSlice.{TestSlice}
use Rattle.stop_steps.specs.Steps.{has, count, choice, settle, keep, is_empty, Stage, set_by, advance, stage}
use Rattle.stop_steps.specs.Meaning.{AllSet}
use Rattle.stop_steps.proofs.Filter.{filter_apart, filter_parts}
use Rattle.stop_steps.proofs.Choice.{bits_apart, Chosen, ChoiceIs, choice_is}
use Rattle.stop_steps.proofs.Lookup.{unset_free}
use Rattle.stop_steps.proofs.Stages.{moved}

pub none_counted_left : (q : ℕ) (xs : List TestSlice) → count q (keep q xs) ≡ 0
unfolding count keep
none_counted_left q xs =
    rw (filter_apart (has (q / 2) (1 - q % 2)) (has (q / 2) (q % 2)) (λ x t. bits_apart (q / 2) (q % 2) x (omega arith) t) xs)

-- the slices that stay have the other bit, which is a choice too
module _ (stop : TestSlice) (xs : List TestSlice) (chains q : ℕ) (c : Chosen stop (λ r. count r xs) (2 * chains) q) where
  abbrev other : ℕ
  other = 2 * (q / 2) + (1 - q % 2)

  stay_fewer : length (keep q xs) ≤ count q xs
  unfolding keep count
  stay_fewer =
      let p : other / 2 ≡ q / 2 = omega arith in
      let b : other % 2 ≡ 1 - q % 2 = omega arith in
      let e : count other xs ≡ length (keep q xs) = rw (p, b) in
      omega (arith, c.greatest other (omega (arith, c.below)) (rw p c.unset))

  pub halves : 2 * length (keep q xs) ≤ length xs
  unfolding keep count
  halves = omega (arith, stay_fewer, filter_parts (has (q / 2) (1 - q % 2)) (has (q / 2) (q % 2)) (λ x t. bits_apart (q / 2) (q % 2) x (omega arith) t) xs)

  pub zero_empties : count q xs ≡ 0 → length (keep q xs) ≡ 0
  zero_empties none-counted = omega (arith, stay_fewer)

abbrev pub Halved : List TestSlice → Stage → Type 0
Halved set g = 2 ^ ones g.stop.specified * length g.left ≤ length set

-- one position more is one factor 2 more
doubled : (k m : ℕ) → 2 ^ suc k * m ≡ 2 ^ k * (2 * m)
doubled k m = let e : 2 ^ suc k ≡ 2 * 2 ^ k = omega arith in ap (λ (w : ℕ). w * m) e ∙ mul_assoc 2 (2 ^ k) m ∙ mul_left_comm 2 (2 ^ k) m

module _ (chains : ℕ) (set : List TestSlice) where
  set_halved : (g : Stage) (q : ℕ) → Chosen g.stop (λ r. count r g.left) (2 * chains) q → Halved set g → Halved set (set_by q g)
  unfolding set_by settle
  set_halved g q c h =
      let k = ones g.stop.specified in
      let more = ones_put g.stop.specified (q / 2) (unset_free g.stop (q / 2) c.unset) in
      let m = mul-le-mul_left {m = 2 * length (keep q g.left)} {n = length g.left} (2 ^ k) (halves g.stop g.left chains q c) in
      let t : 2 ^ ones (g.stop.specified + 2 ^ (q / 2)) * length (keep q g.left) ≤ length set = rw more (omega (arith, m, h, doubled k (length (keep q g.left)))) in
      t

  advance_halved : (g : Stage) → Halved set g → Halved set (advance chains g)
  unfolding advance
  advance_halved g h = go (is_empty g.left) (choice g.stop (λ q. count q g.left) (2 * chains)) (choice_is g.stop (λ q. count q g.left) (2 * chains))
    where
      go : (b : Bool) (o : Option ℕ) → ChoiceIs g.stop (λ q. count q g.left) (2 * chains) o → Halved set (moved g b o)
      go true o c = h
      go false None c = h
      go false (Some q) c = set_halved g q c h

  pub stage_halved : (k : ℕ) → Halved set (stage chains set k)
  unfolding stage
  stage_halved zero =
      let z : ones 0 ≡ 0 = omega (arith, ones-le 0 0 (omega arith)) in
      let t : 2 ^ ones 0 * length set ≤ length set = rw z (omega arith) in
      t
  stage_halved (suc k) = advance_halved (stage chains set k) (stage_halved k)

  some_left : (l : List TestSlice) → is_empty l ≡ false → 1 ≤ length l
  some_left [] f = absurd (let z : ◌≡◌ {A = ℕ} 0 1 = cc in omega arith)
  some_left (x ∷ xs) f = omega arith

  pub left_few : (g : Stage) → Halved set g → AllSet chains g.stop → is_empty g.left ≡ false → 2 ^ chains ≤ length set
  left_few g h all f =
      let full : chains ≤ ones g.stop.specified = ones_all chains g.stop.specified (λ p l. eqb-true (digit g.stop.specified p) 1 (all p l)) in
      let grown : 2 ^ chains ≤ 2 ^ ones g.stop.specified = pow_mono full in
      let m = mul-le-mul_left {m = 1} {n = length g.left} (2 ^ ones g.stop.specified) (some_left g.left f) in
      omega arith
