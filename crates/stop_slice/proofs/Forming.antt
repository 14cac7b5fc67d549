-- The end of the steps, and the spare pattern behind them.
--     stage_specified, next-stage          the stop slice of a stage; one step more
--     form-stop                            the answer when the steps have ended with no slice in
--     form_few, form-spared                and with slices in: there are no more patterns than slices, and the spare pattern is the answer
-- Assumes nothing.
use Rattle.std.specs.Prelude.{None, Ok, Option, Some}
use mathlib.Core.Path.{◌≡◌, sym, ap, ◌∙◌}
use mathlib.Core.Bool.{true, false}
use mathlib.Core.List.{List}
use Prim.Native.Nat.{ℕ, ◌+◌, ◌^◌, ◌≤◌}
use native.Mathlib.Numerals.{add-one}
use native.Mathlib.Omega.{arith}
use lib.ListN.{length}
use Rattle.machine_slices.specs.declared.TestSlice.{TestSlice}
use Rattle.machine_slices.specs.Slices.{paired}
use Rattle.stop_steps.specs.Steps.{is_empty, Stage, advance, stage, ended, steps, stop_for}
use Rattle.stop_steps.specs.Lookup.{BitsSpecified, in_count}
use Rattle.stop_spare.specs.Spare.{spare_stop}
use Rattle.stop_choice.specs.Choosing.{in_of, next_of}
use Rattle.stop_slice.specs.Entry.{stop_or6}
use Rattle.stop_steps.proofs.Stages.{stage_sound, looked_up}
use Rattle.stop_steps.proofs.Meaning.{left_in, decided, spared}
use Rattle.stop_choice.proofs.OneStep.{empty_zero, empty_more}

module _ (chains : ℕ) (specified bits : List ℕ) where
  abbrev set : List TestSlice
  set = paired specified bits

  -- the stage whose slices are looked up
  stage_in : (k : ℕ) → record { stop = (stage chains set k).stop; left = in_of (stage chains set k).stop specified bits } ≡ stage chains set k
  stage_in k = ap (λ (l : List TestSlice). record { stop = (stage chains set k).stop; left = l }) ((looked_up chains set).left_in k)

  pub stage_specified : (k : ℕ) → BitsSpecified (stage chains set k).stop
  stage_specified k = (stage_sound chains set k).specified

  pub next-stage : (k : ℕ) → next_of chains (stage chains set k).stop specified bits ≡ (stage chains set (k + 1)).stop
  unfolding next_of stage
  next-stage k = rw add-one (ap (λ (g : Stage). (advance chains g).stop) (stage_in k))

  -- what the steps give, by whether a slice is in
  by : List TestSlice → Option TestSlice
  by l = elim (is_empty l) [ true ↦ Some (stage chains set chains).stop | false ↦ None ]

  given : steps chains set ≡ by (in_of (stage chains set chains).stop specified bits)
  unfolding steps ended by
  given = ap by (sym ((looked_up chains set).left_in chains))

  module _ (stop : TestSlice) (k : ℕ) (here : stop ≡ (stage chains set k).stop) (last : k ≡ chains) where
    ends : (stage chains set chains).stop ≡ stop
    ends = sym (here ∙ rw last)

    pub form-stop : in_count stop specified bits ≡ 0 → Ok stop ≡ stop_or6 (stop_for chains set)
    unfolding in_count by stop_or6
    form-stop e =
        let d : steps chains set ≡ Some stop = given ∙ rw (ends, empty_zero (in_of stop specified bits) e, by) (ap Some ends) in
        sym (ap stop_or6 (decided chains set stop d))

    steps-none : (in_count stop specified bits ≡ 0 → ⊥) → steps chains set ≡ None
    unfolding in_count by
    steps-none f = given ∙ rw (ends, empty_more (in_of stop specified bits) f, by)

    pub form_few : (in_count stop specified bits ≡ 0 → ⊥) → 2 ^ chains ≤ length set
    form_few f = (left_in chains set (steps-none f)).few

    pub form-spared : (in_count stop specified bits ≡ 0 → ⊥) → stop_or6 (spare_stop chains set) ≡ stop_or6 (stop_for chains set)
    form-spared f = sym (ap stop_or6 (spared chains set (steps-none f)))
