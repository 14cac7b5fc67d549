-- `encoder_cubes::encode_cubes` meets its contract. Assumes nothing.
use Rattle.std.proofs.lemmas.Result.{err_from_is_err_and}
use Rattle.std.specs.Prelude.{Ok, Err}
use mathlib.Core.Path.{◌≡◌, sym, ap, ◌∙◌}
use Rattle.refusal_order.specs.Order.{judged}
use Rattle.refusal_checks.specs.Calls.{cubes_faults}
use Rattle.encoder_cubes.specs.Cubes.{CubesOutcome}
use Rattle.encoder_cubes.proofs.Formed.{cubes_formed}
use Rattle.encoder_cubes.proofs.Cubes.{cubes_refused, cubes_well, cubes_outcome}
use Rattle.encoder_cubes.proofs.encode_cubes.Goals as goal

pub encode_formed-requires : goal.encode_formed-requires
encode_formed-requires c =
    let a = c.args in
    cubes_formed a.settings a.masks.now a.specified.now a.bits.now _ (sym c.in_ok-check_cubes.ensures)

pub returns-in_err-check_cubes : goal.returns-in_err-check_cubes
returns-in_err-check_cubes c =
    let a = c.args in
    let e = cubes_refused a.settings a.masks.now a.specified.now a.bits.now a.out.now a.depth _ (sym c.in_err-check_cubes.ensures) in let x = err_from_is_err_and _ c.from_residual.ensures.1 in let w = cubes_outcome a.settings a.masks.now a.specified.now a.bits.now a.out.now a.depth _ a.out.now (x.1 ∙ ap Err x.2 ∙ sym (ap (λ (o : CubesOutcome). o.answer) e)) (sym (ap (λ (o : CubesOutcome). o.buffer) e)) in record { answer = w.0; buffer = w.1.0; meaning = w.1.1 }

pub returns : goal.returns
returns c =
    let a = c.args in
    let q : judged (cubes_faults a.settings a.masks.now a.depth a.specified.now a.bits.now) ≡ Ok tt = sym c.in_ok-check_cubes.ensures in
    let e = cubes_well a.settings a.masks.now a.specified.now a.bits.now a.out.now a.depth q in
    let t = c.encode_formed in let w = cubes_outcome a.settings a.masks.now a.specified.now a.bits.now a.out.now a.depth t.result _ (t.ensures.answer ∙ ap (λ (o : CubesOutcome). o.answer) (sym e)) (t.ensures.buffer ∙ ap (λ (o : CubesOutcome). o.buffer) (sym e)) in record { answer = w.0; buffer = w.1.0; meaning = w.1.1 }
