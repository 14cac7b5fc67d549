-- An expanding leaves its buffer as long as it was, and the text of its reply has at most `most_text` bytes.
--     walk_long, expand_long     the buffer
--     slices_within              the text
-- Assumes nothing.
use Rattle.std.specs.Prelude.{Err, Ok, Result}
use Rattle.refusal_causes.specs.declared.Cause.{Cause}
use mathlib.Core.Bool.{Bool, true, false}
use mathlib.Core.Path.{◌≡◌, refl}
use mathlib.Core.List.{List}
use Prim.Native.Nat.{ℕ, ◌≤◌}
use native.Mathlib.Omega.{arith}
use lib.Dec.{eqb}
use lib.ListN.{length, take, length-take}
use Rattle.refusal_causes.specs.declared.Cause.TheVariants.{Total}
use Rattle.refusal_causes.specs.Outcome.{Outcome, refuse, fill}
use Rattle.refusal_causes.proofs.Outcome.{fill_long}
use Rattle.machine_settings.specs.declared.Settings.{Settings}
use Rattle.machine_settings.specs.Machine.{machine}
use Rattle.machine_slices.specs.declared.TestSlice.{TestSlice}
use Rattle.refusal_order.specs.Order.{judged}
use Rattle.refusal_checks.specs.Calls.{list_faults}
use Rattle.theory_covering.specs.Rules.{rules}
use Rattle.expander_meaning.specs.Expanding.{Walk, ran, failed, totalled, expanding, expand_list}
use Rattle.text_write_slices.proofs.Slices.{slices_bound}
use Rattle.text_expand_said.specs.Expanded.{slices_reply}
use Rattle.text_bounds.specs.Bounds.{most_text}
use Rattle.text_bounds.proofs.Values.{text_value}
use Rattle.text_replies.proofs.Space.{Within}

walk_long : (n : ℕ) (out : List ℕ) (w : Walk) → length (totalled n out w).buffer ≡ length out
unfolding totalled refuse
walk_long n out (failed c) = refl
walk_long n out (ran vs) = go (eqb (length vs) n)
  where
    go : (b : Bool) → length (elim b as (λ _. Outcome) [ true ↦ fill vs out | false ↦ refuse (Total (length vs)) out ]).buffer ≡ length out
    go true = fill_long vs out
    go false = refl

pub expand_long : (g : Settings) (masks : List ℕ) (stop : TestSlice) (n : ℕ) (seeds out : List ℕ) → length (expand_list g masks stop n seeds out).buffer ≡ length out
unfolding expand_list expanding refuse
expand_long g masks stop n seeds out = go (judged (list_faults g masks stop n (length seeds)))
  where
    go : (v : Result (Unit {0}) Cause) → length (elim v as (λ _. Outcome) [ Err c ↦ refuse c out | (Ok tt) ↦ expanding (machine g masks) (rules g stop) n seeds out ]).buffer ≡ length out
    go (Err c) = refl
    go (Ok tt) = walk_long n out _

pub slices_within : (chains : ℕ) (buffer : List ℕ) (a : Result ℕ Cause) → chains ≤ 64 → length buffer ≡ 2048 → Within most_text (slices_reply chains buffer a)
unfolding slices_reply
slices_within chains buffer (Ok n) h e = omega (arith, slices_bound chains (take n buffer) h (omega (arith, length-take n buffer)), text_value)
slices_within chains buffer (Err c) h e = tt
