-- `text_calls::call` meets its contract. The list keeps the entries of the reading, so what is answered is what the text says. Assumes nothing.
use Rattle.std.specs.Prelude.{Err}
use Rattle.std.proofs.lemmas.Result.{err_from_is_err_and}
use mathlib.Core.Path.{ap, ◌∙◌}
use Rattle.text_calls.proofs.Concluding.{kept_entries, few_numbers, call-whole, call_refused}
use Rattle.text_calls.proofs.call.Goals as goal

pub answer_entries-requires : goal.answer_entries-requires
answer_entries-requires c = rw (kept_entries _ _ _ c.scan.ensures.entries) (few_numbers _ _)

pub returns : goal.returns
returns c =
    let e = rw (kept_entries _ _ _ c.scan.ensures.entries) at c.answer_entries.ensures in
    let w = call-whole _ _ _ _ c.scan.ensures.answer c.in_ok-scan.was _ _ (e.answer, e.buffer) in
    record { answer = w.0; buffer = w.1 }

pub returns-in_err-scan : goal.returns-in_err-scan
returns-in_err-scan c =
    let x = err_from_is_err_and _ c.from_residual.ensures.1 in
    let w = call_refused _ _ _ _ c.scan.ensures.answer _ c.in_err-scan.was in
    record { answer = x.1 ∙ ap Err x.2 ∙ w.0; buffer = w.1 }
