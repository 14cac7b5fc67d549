-- The encoding of cubes, as a whole call (document 01's refusal sheet: 1 to 4, then 6, then 8, then 9).
--     CubesOutcome, stopped, with_stop      an answer that carries the stop slice too
--     cubes_encoding g masks specified bits out     the answer and the buffer that the encoding of a set leaves, with its stop slice, or cause 6
--     encode_cubes g masks depth specified bits out     the same of the whole call for cubes of depth slices
use Rattle.encoder_meaning.specs.declared.Encoded.{Encoded}
use Rattle.refusal_causes.specs.declared.Cause.{Cause}
use Rattle.std.specs.Prelude.{List, ℕ, length, Err, None, Ok, Result, Some}
use Rattle.refusal_causes.specs.Outcome.{Outcome}
use Rattle.machine_settings.specs.declared.Settings.{Settings}
use Rattle.machine_settings.specs.Machine.{machine}
use Rattle.machine_slices.specs.declared.TestSlice.{TestSlice}
use Rattle.machine_slices.specs.Slices.{paired}
use Rattle.refusal_order.specs.Order.{judged}
use Rattle.refusal_checks.specs.Calls.{cubes_faults}
use Rattle.stop_steps.specs.Steps.{stop_for}
use Rattle.theory_covering.specs.Rules.{rules}
use Rattle.encoder_meaning.specs.Encoding.{encoding, seeds_with}
use Rattle.refusal_causes.specs.declared.Cause.TheVariants as cause

pub record CubesOutcome : Type 0 where
  pub answer : Result Encoded Cause
  pub buffer : List ℕ

unfoldable pub stopped : TestSlice → Result ℕ Cause → Result Encoded Cause
stopped stop (Ok n) = seeds_with stop n
stopped stop (Err c) = Err c

unfoldable pub with_stop : TestSlice → Outcome → CubesOutcome
with_stop stop o = record { answer = stopped stop o.answer; buffer = o.buffer }

unfoldable pub cubes_encoding : Settings → List ℕ → List ℕ → List ℕ → List ℕ → CubesOutcome
cubes_encoding g masks specified bits out = elim (stop_for (length masks) (paired specified bits)) [
  | None ↦ record { answer = Err cause.AllTaken; buffer = out }
  | Some stop ↦ with_stop stop (encoding (machine g masks) (rules g stop) (paired specified bits) out)
]

unfoldable pub encode_cubes : Settings → List ℕ → ℕ → List ℕ → List ℕ → List ℕ → CubesOutcome
encode_cubes g masks depth specified bits out = elim (judged (cubes_faults g masks depth specified bits)) [
  | Err c ↦ record { answer = Err c; buffer = out }
  | (Ok tt) ↦ cubes_encoding g masks specified bits out
]
