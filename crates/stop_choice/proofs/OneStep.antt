-- One step, as the code takes it: no slice is in, no position is unset, or the choice is set.
--     empty_zero, empty_more               whether no slice is in, by how many are
--     next_empty, next-none, next_some     the stop slice after the step
--     chosen_unset                         the position of the choice is unset
-- Assumes nothing.
use mathlib.Core.Path.{◌≡◌, refl, ap}
use Rattle.std.specs.Prelude.{None, Option, Some, option_map}
use mathlib.Core.Bool.{true, false}
use mathlib.Core.List.{List, [], ◌∷◌}
use Prim.Native.Nat.{ℕ, ◌-◌, ◌*◌, ◌/◌, ◌%◌, ◌≤◌}
use native.Mathlib.Omega.{arith}
use lib.ListN.{length}
use Rattle.machine_slices.specs.declared.TestSlice.{TestSlice}
use Rattle.stop_steps.specs.Steps.{choice, put, settle, is_empty, Stage, set_by}
use Rattle.stop_steps.specs.Lookup.{BitsSpecified, in_count}
use Rattle.stop_counting.specs.Unset.{Unset}
use Rattle.stop_choice.specs.declared.Best.{Best}
use Rattle.stop_choice.specs.Choosing.{counted, tracked, in_of, count_in, chosen, next_of}
use Rattle.stop_steps.proofs.Choice.{Chosen, choice_is}
use Rattle.stop_steps.proofs.Stages.{advanced}

pub empty_zero : (l : List TestSlice) → length l ≡ 0 → is_empty l ≡ true
empty_zero [] e = refl
empty_zero (x ∷ xs) e = absurd (omega arith)

pub empty_more : (l : List TestSlice) → (length l ≡ 0 → ⊥) → is_empty l ≡ false
empty_more [] e = absurd (e refl)
empty_more (x ∷ xs) e = refl

module _ (chains : ℕ) (stop : TestSlice) (specified bits : List ℕ) where
  abbrev counts : ℕ → ℕ
  counts = count_in stop specified bits

  abbrev chosen_by : Option ℕ
  chosen_by = choice stop counts (2 * chains)

  no_choice : chosen chains stop specified bits ≡ None → chosen_by ≡ None
  unfolding chosen
  no_choice e = go chosen_by e
    where
      go : (o : Option ℕ) → tracked counts o ≡ None → o ≡ None
      go None e = refl
      go (Some r) e = absurd (let z : ◌≡◌ {A = ℕ} 0 1 = cc in omega arith)

  the_choice : (q n : ℕ) → chosen chains stop specified bits ≡ counted q n → chosen_by ≡ Some q
  unfolding chosen
  the_choice q n e = go chosen_by e
    where
      go : (o : Option ℕ) → tracked counts o ≡ counted q n → o ≡ Some q
      go None e = absurd (let z : ◌≡◌ {A = ℕ} 0 1 = cc in omega arith)
      go (Some r) e = ap (option_map (λ (b : Best). b.choice)) e

  abbrev here : Stage
  here = record { stop = stop; left = in_of stop specified bits }

  pub next_empty : in_count stop specified bits ≡ 0 → next_of chains stop specified bits ≡ stop
  unfolding in_count next_of
  next_empty e = ap (λ (g : Stage). g.stop) (advanced chains here _ _ (empty_zero (in_of stop specified bits) e) refl)

  pub next-none : (in_count stop specified bits ≡ 0 → ⊥) → chosen chains stop specified bits ≡ None → next_of chains stop specified bits ≡ stop
  unfolding in_count next_of
  next-none f e = ap (λ (g : Stage). g.stop) (advanced chains here _ _ (empty_more (in_of stop specified bits) f) (no_choice e))

  pub next_some : (q n : ℕ) → (in_count stop specified bits ≡ 0 → ⊥) → chosen chains stop specified bits ≡ counted q n
      → next_of chains stop specified bits ≡ put (q / 2) (1 - q % 2) stop
  unfolding in_count next_of set_by settle
  next_some q n f e = ap (λ (g : Stage). g.stop) (advanced chains here _ _ (empty_more (in_of stop specified bits) f) (the_choice q n e))

  pub chosen_unset : (q n : ℕ) → chains ≤ 64 → BitsSpecified stop → chosen chains stop specified bits ≡ counted q n → Unset (q / 2) stop
  chosen_unset q n l f e =
      let c : Chosen stop counts (2 * chains) q = rw (the_choice q n e) at (choice_is stop counts (2 * chains)) in
      record { within = omega (arith, c.below); unset = c.unset; specified = f }
