-- The encoding of a set with its stop slice (document 01, "Covering and cutting", and its refusal sheet: 1 to 5, then 8, then 9).
--     seeds_of M R set a ends      the seeds of the windows from the place a on
--     planned M R set out p       the outcome of a plan: the seeds of its windows, cause 8 with the place where it is stuck, or cause 9
--     encoding M R set out        the answer and the buffer that the encoding of a set leaves, by its greedy cutting
--     encode_set g masks stop specified bits out     the same of the whole call
--     seeds_with stop n           the accepted answer of the encoding of cubes: the stop slice, and how many seeds there are
use Rattle.std.specs.Prelude.{List, [], ◌∷◌, ℕ, length, Err, Ok, Result, unwrap_or}
use Rattle.refusal_causes.specs.declared.Cause.{Cause}
use Rattle.refusal_causes.specs.Outcome.{Outcome, refuse, fill}
use Rattle.machine_settings.specs.declared.Settings.{Settings}
use Rattle.machine_settings.specs.Machine.{Machine, machine}
use Rattle.machine_slices.specs.declared.TestSlice.{TestSlice}
use Rattle.machine_slices.specs.Slices.{paired}
use Rattle.refusal_order.specs.Order.{judged}
use Rattle.refusal_checks.specs.Calls.{set_faults}
use Rattle.theory_cutting.specs.Greedy.{Plan, done, stuck, greedy}
use Rattle.theory_covering.specs.Rules.{Rules, rules}
use Rattle.theory_covering.specs.Windows.{seed_at, ok}
use Rattle.refusal_causes.specs.declared.Cause.TheVariants as cause
use Rattle.encoder_meaning.specs.declared.Encoded.{Encoded}

unfoldable pub seeds_of : Machine → Rules → List TestSlice → ℕ → List ℕ → List ℕ
seeds_of M R set a [] = []
seeds_of M R set a (k ∷ es) = unwrap_or (seed_at M R set a k) 0 ∷ seeds_of M R set k es

unfoldable pub planned : Machine → Rules → List TestSlice → List ℕ → Plan → Outcome
planned M R set out (stuck g) = refuse (cause.NoCutting g) out
planned M R set out (done es) = fill (seeds_of M R set 0 es) out

unfoldable pub encoding : Machine → Rules → List TestSlice → List ℕ → Outcome
encoding M R set out = planned M R set out (greedy (ok M R set) (length set))

unfoldable pub encode_set : Settings → List ℕ → TestSlice → List ℕ → List ℕ → List ℕ → Outcome
encode_set g masks stop specified bits out = elim (judged (set_faults g masks stop specified bits)) [
  | Err c ↦ refuse c out
  | (Ok tt) ↦ encoding (machine g masks) (rules g stop) (paired specified bits) out
]

abbrev pub seeds_with : TestSlice → ℕ → Result Encoded Cause
seeds_with stop n = Ok (record { stop = stop; seeds = n })
