-- `window_single::window_seed` meets its contract. Assumes nothing.
use Rattle.std.proofs.lemmas.Result.{err_from_is_err_and}
use Rattle.std.specs.Prelude.{Ok, Err}
use mathlib.Core.Path.{◌≡◌, sym, ◌∙◌, ap}
use Rattle.refusal_order.specs.Order.{judged}
use Rattle.refusal_checks.specs.Calls.{window_faults}
use Rattle.theory_covering.proofs.Single.{window_answer, window_well, window_refused}
use Rattle.window_single.proofs.window_seed.Goals as goal

pub seed_of-requires : goal.seed_of-requires
seed_of-requires c = sym c.in_ok-check_window.ensures

pub returns-in_err-check_window : goal.returns-in_err-check_window
returns-in_err-check_window c =
    let a = c.args in
    let x = err_from_is_err_and _ c.from_residual.ensures.1 in let q = sym c.in_err-check_window.ensures in let w = window_answer a.settings a.masks.now a.stop a.specified.now a.bits.now _
    (x.1 ∙ ap Err x.2 ∙ sym (window_refused a.settings a.masks.now a.stop a.specified.now a.bits.now _ q)) in record { answer = w.0; meaning = w.1 }

pub returns : goal.returns
returns c =
    let a = c.args in
    let q : judged (window_faults a.settings a.masks.now a.stop a.specified.now a.bits.now) ≡ Ok tt = sym c.in_ok-check_window.ensures in let w = window_answer a.settings a.masks.now a.stop a.specified.now a.bits.now c.seed_of.result
    (c.seed_of.ensures ∙ sym (window_well a.settings a.masks.now a.stop a.specified.now a.bits.now q)) in record { answer = w.0; meaning = w.1 }
