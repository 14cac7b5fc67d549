-- An encoding leaves its buffer as long as it was, and the text of its reply has at most `most_text` bytes.
--     plan_long, stopped_long, encode_long     the buffer
--     list_within                              the text
-- Assumes nothing.
use Rattle.encoder_meaning.specs.declared.Encoded.{Encoded}
use Rattle.std.specs.Prelude.{Err, None, Ok, Option, Result, Some}
use Rattle.refusal_causes.specs.declared.Cause.{Cause}
use mathlib.Core.Path.{◌≡◌, refl}
use mathlib.Core.List.{List}
use Prim.Native.Nat.{ℕ, ◌≤◌}
use native.Mathlib.Omega.{arith}
use lib.ListN.{length, take, length-take}
use Rattle.refusal_causes.specs.declared.Cause.TheVariants.{AllTaken}
use Rattle.refusal_causes.specs.Outcome.{refuse}
use Rattle.refusal_causes.proofs.Outcome.{fill_long}
use Rattle.machine_settings.specs.declared.Settings.{Settings}
use Rattle.machine_settings.specs.Machine.{Machine, machine}
use Rattle.machine_slices.specs.declared.TestSlice.{TestSlice}
use Rattle.machine_slices.specs.Slices.{paired}
use Rattle.refusal_order.specs.Order.{judged}
use Rattle.refusal_checks.specs.Calls.{cubes_faults}
use Rattle.theory_cutting.specs.Greedy.{Plan, done, stuck}
use Rattle.stop_steps.specs.Steps.{stop_for}
use Rattle.theory_covering.specs.Rules.{Rules, rules}
use Rattle.encoder_cubes.specs.Cubes.{CubesOutcome, with_stop, cubes_encoding, encode_cubes}
use Rattle.encoder_meaning.specs.Encoding.{planned, encoding}
use Rattle.text_write_list.proofs.Lengths.{list_length}
use Rattle.text_encode_said.specs.Encoded.{list_reply}
use Rattle.text_bounds.specs.Bounds.{most_text}
use Rattle.text_bounds.proofs.Values.{text_value}
use Rattle.text_replies.proofs.Space.{Within}

plan_long : (M : Machine) (R : Rules) (set : List TestSlice) (out : List ℕ) (p : Plan) → length (planned M R set out p).buffer ≡ length out
unfolding planned refuse
plan_long M R set out (stuck g) = refl
plan_long M R set out (done es) = fill_long _ out

stopped_long : (g : Settings) (masks specified bits out : List ℕ) (o : Option TestSlice) → length (elim o as (λ _. CubesOutcome) [
  | None ↦ record { answer = Err AllTaken; buffer = out }
  | Some stop ↦ with_stop stop (encoding (machine g masks) (rules g stop) (paired specified bits) out)
]).buffer ≡ length out
unfolding with_stop encoding
stopped_long g masks specified bits out None = refl
stopped_long g masks specified bits out (Some stop) = plan_long _ _ _ out _

pub encode_long : (g : Settings) (masks : List ℕ) (depth : ℕ) (specified bits out : List ℕ) → length (encode_cubes g masks depth specified bits out).buffer ≡ length out
unfolding encode_cubes cubes_encoding
encode_long g masks depth specified bits out = go (judged (cubes_faults g masks depth specified bits))
  where
    go : (v : Result (Unit {0}) Cause) → length (elim v as (λ _. CubesOutcome) [ Err c ↦ record { answer = Err c; buffer = out } | (Ok tt) ↦ cubes_encoding g masks specified bits out ]).buffer ≡ length out
    go (Err c) = refl
    go (Ok tt) = stopped_long g masks specified bits out (stop_for (length masks) (paired specified bits))

pub list_within : (head : List ℕ) (chains slices : ℕ) (buffer : List ℕ) (a : Result Encoded Cause) → length head ≤ 65536 → chains ≤ 64 → length buffer ≡ 2048 → Within most_text (list_reply head chains slices buffer a)
unfolding list_reply
list_within head chains slices buffer (Ok a) l h e =
    let few : length (take a.seeds buffer) ≤ 2048 = omega (arith, length-take a.seeds buffer) in
    omega (arith, list_length head chains a.stop slices (take a.seeds buffer) l h few, text_value)
list_within head chains slices buffer (Err c) l h e = tt
