-- `encoder_cubes::encode_formed` meets its contract. Assumes nothing.
use Rattle.std.proofs.lemmas.Result.{err_from_is_err_and}
use Rattle.std.specs.Prelude.{Err}
use mathlib.Core.Path.{sym, ap, ◌∙◌}
use lib.ListN.{length}
use Rattle.encoder_cubes.specs.Cubes.{CubesOutcome, stopped, with_stop}
use Rattle.stop_slice.proofs.Calls.{rule_refused, rule_stop}
use Rattle.encoder_cubes.proofs.Formed.{cubes_stop}
use Rattle.encoder_cubes.proofs.Cubes.{stop-set, cubes_unstopped, cubes_stopped}
use Rattle.encoder_cubes.proofs.encode_formed.Goals as goal

pub encode-requires : goal.encode-requires
encode-requires c =
    let a = c.args in
    let e = rule_stop (length a.masks.now) a.specified.now a.bits.now (cubes_stop a.settings a.masks.now a.specified.now a.bits.now c.requires) _ (sym c.in_ok-stop.ensures.answer) in
    stop-set a.settings a.masks.now a.specified.now a.bits.now c.requires _ e

pub returns-in_err-stop : goal.returns-in_err-stop
returns-in_err-stop c =
    let a = c.args in
    let e = rule_refused (length a.masks.now) a.specified.now a.bits.now (cubes_stop a.settings a.masks.now a.specified.now a.bits.now c.requires) _ (sym c.in_err-stop.ensures.answer) in
    let o = cubes_unstopped a.settings a.masks.now a.specified.now a.bits.now a.out.now e.0 in let x = err_from_is_err_and _ c.from_residual.ensures.1 in record { answer = x.1 ∙ ap Err (x.2 ∙ e.1) ∙ sym (ap (λ (u : CubesOutcome). u.answer) o); buffer = sym (ap (λ (u : CubesOutcome). u.buffer) o) }

pub returns-in_err-seeds : goal.returns-in_err-seeds
unfolding with_stop stopped
returns-in_err-seeds c =
    let a = c.args in
    let t = c.encode in
    let e = rule_stop (length a.masks.now) a.specified.now a.bits.now (cubes_stop a.settings a.masks.now a.specified.now a.bits.now c.requires) _ (sym c.in_ok-stop.ensures.answer) in
    let o = cubes_stopped a.settings a.masks.now a.specified.now a.bits.now a.out.now _ e in let x = err_from_is_err_and _ c.from_residual-in_err-seeds.ensures.1 in record { answer = x.1 ∙ ap Err x.2 ∙ ap (stopped _) (sym c.in_err-seeds.was ∙ t.ensures.answer) ∙ sym (ap (λ (u : CubesOutcome). u.answer) o); buffer = t.ensures.buffer ∙ sym (ap (λ (u : CubesOutcome). u.buffer) o) }

pub returns : goal.returns
unfolding with_stop stopped
returns c =
    let a = c.args in
    let t = c.encode in
    let e = rule_stop (length a.masks.now) a.specified.now a.bits.now (cubes_stop a.settings a.masks.now a.specified.now a.bits.now c.requires) _ (sym c.in_ok-stop.ensures.answer) in
    let o = cubes_stopped a.settings a.masks.now a.specified.now a.bits.now a.out.now _ e in record { answer = ap (stopped _) (sym c.in_ok-seeds.was ∙ t.ensures.answer) ∙ sym (ap (λ (u : CubesOutcome). u.answer) o); buffer = t.ensures.buffer ∙ sym (ap (λ (u : CubesOutcome). u.buffer) o) }
