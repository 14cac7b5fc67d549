-- What a call that writes leaves behind: its answer and every entry of the lent buffer (document 01, "Covering and cutting" on space, "Refusal sheet" on buffers).
--     Outcome           the answer, and the buffer as the call leaves it
--     refuse c out      refused by the cause c: every entry is as it was
--     fill xs out       the entries xs, then every other entry as it was; where there is no space for them, cause 9 with the entries needed
use Rattle.std.specs.Prelude.{true, false, List, ◌++◌, ℕ, leb, length, drop, Err, Ok, Result}
use Rattle.refusal_causes.specs.declared.Cause.{Cause}
use Rattle.refusal_causes.specs.declared.Cause.TheVariants.{NoSpace}

pub record Outcome : Type 0 where
  pub answer : Result ℕ Cause
  pub buffer : List ℕ

unfoldable pub refuse : Cause → List ℕ → Outcome
refuse c out = record { answer = Err c; buffer = out }

-- There is space when the lent buffer has an entry for each.
unfoldable pub fill : List ℕ → List ℕ → Outcome
fill xs out = elim (leb (length xs) (length out)) [
  | true ↦ record { answer = Ok (length xs); buffer = xs ++ drop (length xs) out }
  | false ↦ refuse (NoSpace (length xs)) out
]
