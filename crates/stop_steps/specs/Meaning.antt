-- What the stop slice of a set is good for, where the steps end with slices in, and what refusal 6 says (document 01, "Stop slice steps"; document 02, R-1).
--     AllSet chains stop        no position of the stop slice is unset
--     StopMeaning chains set stop     of a stop slice: it is well-formed, it has a specified position, and no test slice has all its bits
--     NoneGood chains set       no stop slice is so
--     LeftIn chains set         of steps that end with slices in: no position is unset, and there are at least as many slices as patterns
--     SixMeaning chains set     of refusal 6: the fully specified slices take up all patterns, and no stop slice is good
use Rattle.std.specs.Prelude.{◌≡◌, true, false, List, ℕ, ◌^◌, ◌≤◌, ◌<◌, length, get_or}
use Rattle.machine_slices.specs.declared.TestSlice.{TestSlice}
use Rattle.machine_slices.specs.Slices.{bad_stop}
use Rattle.stop_spare.specs.Spare.{taken}
use Rattle.stop_steps.specs.Steps.{is_set, is_empty, stage}
use Rattle.stop_steps.specs.Lookup.{HasAll}

abbrev pub AllSet : ℕ → TestSlice → Type 0
AllSet chains stop = (p : ℕ) → p < chains → is_set p stop ≡ true

pub record StopMeaning (chains : ℕ) (set : List TestSlice) (stop : TestSlice) : Type 0 where
  pub formed : bad_stop chains stop ≡ false
  pub specified : 0 < stop.specified
  pub none_has : (i : ℕ) (d : TestSlice) → i < length set → HasAll stop (get_or set i d) → ⊥

abbrev pub NoneGood : ℕ → List TestSlice → Type 0
NoneGood chains set = (stop : TestSlice) → StopMeaning chains set stop → ⊥

-- So the spare pattern is sought among no more candidates than there are slices, and never for more chains than a set can fill.
pub record LeftIn (chains : ℕ) (set : List TestSlice) : Type 0 where
  pub some_slices_in : is_empty (stage chains set chains).left ≡ false
  pub all_set : AllSet chains (stage chains set chains).stop
  pub few : 2 ^ chains ≤ length set

pub record SixMeaning (chains : ℕ) (set : List TestSlice) : Type 0 where
  pub all_taken : (v : ℕ) → v < 2 ^ chains → taken chains set v ≡ true
  pub none_good : NoneGood chains set
