-- `stop_slice::stop_slice` meets its contract. Assumes nothing.
use Rattle.std.proofs.lemmas.Result.{err_from_is_err_and}
use Rattle.std.specs.Prelude.{Err, Ok}
use mathlib.Core.Path.{◌≡◌, sym, ◌∙◌, ap}
use Rattle.refusal_order.specs.Order.{judged}
use Rattle.refusal_checks.specs.Calls.{stop_faults}
use Rattle.stop_slice.proofs.Calls.{call_refused, call-formed, few_chains, formed_outcome}
use Rattle.stop_slice.proofs.stop_slice.Goals as goal

pub form-requires : goal.form-requires
form-requires c =
    let a = c.args in
    let w : judged (stop_faults a.chains a.specified.now a.bits.now) ≡ Ok tt = sym c.in_ok-check_stop.ensures in
    few_chains _ _ _ w

pub returns-in_err-check_stop : goal.returns-in_err-check_stop
returns-in_err-check_stop c =
    let a = c.args in
    let w : judged (stop_faults a.chains a.specified.now a.bits.now) ≡ Err c.in_err-check_stop.field-0.0 = sym c.in_err-check_stop.ensures in let x = err_from_is_err_and _ c.from_residual.ensures.1 in let whole = formed_outcome _ _ _ _ (x.1 ∙ ap Err x.2 ∙ sym (call_refused _ _ _ _ w)) in record { answer = whole.0; meaning = whole.1 }

pub returns : goal.returns
returns c =
    let a = c.args in
    let w : judged (stop_faults a.chains a.specified.now a.bits.now) ≡ Ok tt = sym c.in_ok-check_stop.ensures in let whole = formed_outcome _ _ _ _ (c.form.ensures ∙ sym (call-formed _ _ _ w)) in record { answer = whole.0; meaning = whole.1 }
