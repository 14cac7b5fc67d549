-- `encoder_sets::encode_set` meets its contract. Assumes nothing.
use Rattle.std.proofs.lemmas.Result.{err_from_is_err_and}
use Rattle.std.specs.Prelude.{Ok, Err}
use mathlib.Core.Path.{◌≡◌, sym, ap, ◌∙◌}
use Rattle.refusal_causes.specs.Outcome.{Outcome}
use Rattle.refusal_order.specs.Order.{judged}
use Rattle.refusal_checks.specs.Calls.{set_faults}
use Rattle.refusal_causes.proofs.Outcome.{refused_parts}
use Rattle.encoder_meaning.specs.Encoding.{encode_set}
use Rattle.encoder_meaning.proofs.Calls.{set_refused, set_well, set_outcome}
use Rattle.encoder_sets.proofs.encode_set.Goals as goal

pub encode-requires : goal.encode-requires
encode-requires c = sym c.in_ok-check_set.ensures

pub returns-in_err-check_set : goal.returns-in_err-check_set
returns-in_err-check_set c =
    let a = c.args in
    let p = refused_parts (encode_set a.settings a.masks.now a.stop a.specified.now a.bits.now a.out.now) _ a.out.now (set_refused a.settings a.masks.now a.stop a.specified.now a.bits.now a.out.now _ (sym c.in_err-check_set.ensures)) in let x = err_from_is_err_and _ c.from_residual.ensures.1 in let w = set_outcome a.settings a.masks.now a.stop a.specified.now a.bits.now a.out.now _ a.out.now (x.1 ∙ ap Err x.2 ∙ p.0) p.1 in record { answer = w.0; buffer = w.1.0; meaning = w.1.1 }

pub returns : goal.returns
returns c =
    let a = c.args in
    let q : judged (set_faults a.settings a.masks.now a.stop a.specified.now a.bits.now) ≡ Ok tt = sym c.in_ok-check_set.ensures in
    let e = set_well a.settings a.masks.now a.stop a.specified.now a.bits.now a.out.now q in
    let t = c.encode in let w = set_outcome a.settings a.masks.now a.stop a.specified.now a.bits.now a.out.now t.result _ (t.ensures.answer ∙ ap (λ (o : Outcome). o.answer) (sym e)) (t.ensures.buffer ∙ ap (λ (o : Outcome). o.buffer) (sym e)) in record { answer = w.0; buffer = w.1.0; meaning = w.1.1 }
