-- What the answer of the encoding of cubes means (document 01, "Covering and cutting"; document 02, R-1; demands 2 and 3).
--     StoppedMeaning .. stop o     what the outcome o says where there is a stop slice
--     CubesMeaning .. o            what the outcome o of the whole call says
use Rattle.std.specs.Prelude.{◌≡◌, List, ◌↔◌, ℕ, length, Err, None, Ok, Some}
use Rattle.refusal_causes.specs.declared.Cause.{Cause}
use Rattle.refusal_causes.specs.Outcome.{Outcome}
use Rattle.machine_slices.specs.declared.TestSlice.{TestSlice}
use Rattle.machine_settings.specs.declared.Settings.{Settings}
use Rattle.machine_slices.specs.Slices.{paired}
use Rattle.refusal_order.specs.Order.{judged}
use Rattle.refusal_checks.specs.Calls.{set_faults, cubes_faults}
use Rattle.stop_steps.specs.Steps.{stop_for}
use Rattle.stop_steps.specs.Meaning.{StopMeaning, NoneGood, SixMeaning}
use Rattle.encoder_meaning.specs.Meaning.{SetMeaning}
use Rattle.encoder_cubes.specs.Cubes.{CubesOutcome, with_stop}
use Rattle.refusal_causes.specs.declared.Cause.TheVariants as cause

-- What the call for cubes makes of its stop slice: it is the call with that stop slice handed in, which is then well-formed, and hands it back.
pub record StoppedMeaning (g : Settings) (masks : List ℕ) (specified bits out : List ℕ) (stop : TestSlice) (o : CubesOutcome) : Type 0 where
  pub good : StopMeaning (length masks) (paired specified bits) stop
  pub formed : judged (set_faults g masks stop specified bits) ≡ Ok tt
  pub handed : Outcome
  pub outcome : o ≡ with_stop stop handed
  pub meaning : SetMeaning g masks stop specified bits out handed

-- The call for cubes: the first of causes 1 to 4 that holds; then 6 exactly where no stop slice is good for the set; otherwise its stop slice and what the encoding means.
pub record CubesMeaning (g : Settings) (masks : List ℕ) (depth : ℕ) (specified bits out : List ℕ) (o : CubesOutcome) : Type 0 where
  pub refused : (c : Cause) → judged (cubes_faults g masks depth specified bits) ≡ Err c → o ≡ record { answer = Err c; buffer = out }
  pub unstopped : judged (cubes_faults g masks depth specified bits) ≡ Ok tt → stop_for (length masks) (paired specified bits) ≡ None
      → (o ≡ record { answer = Err cause.AllTaken; buffer = out }) × SixMeaning (length masks) (paired specified bits)
  pub stopped : judged (cubes_faults g masks depth specified bits) ≡ Ok tt → (stop : TestSlice) → stop_for (length masks) (paired specified bits) ≡ Some stop
      → StoppedMeaning g masks specified bits out stop o
  pub exactly : judged (cubes_faults g masks depth specified bits) ≡ Ok tt
      → (o ≡ record { answer = Err cause.AllTaken; buffer = out }) ↔ NoneGood (length masks) (paired specified bits)
