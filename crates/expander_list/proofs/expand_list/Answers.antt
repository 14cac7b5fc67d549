-- `expander_list::expand_list` meets its contract. Assumes nothing.
use Rattle.std.proofs.lemmas.Result.{err_from_is_err_and}
use Rattle.std.specs.Prelude.{Err}
use mathlib.Core.Path.{sym, ap, ◌∙◌}
use Rattle.refusal_causes.specs.Outcome.{Outcome}
use Rattle.machine_register.proofs.Making.{made_register}
use Rattle.refusal_causes.proofs.Outcome.{refused_parts}
use Rattle.expander_list.proofs.Outcomes.{call_unmade, call_refused, call-formed, call_sized, few_seeds}
use Rattle.expander_list.proofs.expand_list.Goals as goal

pub invariant_of-expander : goal.invariant_of-expander
invariant_of-expander c =
    let a = c.args in
    record {
      ready = call_sized _ _ _ _ a.seeds.now a.out.now (sym c.check_list.ensures ∙ c.in_ok-check_list.was);
      made = (made_register _ _ _ (sym c.new.ensures ∙ c.in_ok-register.was)).1;
    }

pub expand_formed-requires : goal.expand_formed-requires
expand_formed-requires c =
    let a = c.args in
    record { seeds = few_seeds a.settings a.masks.now a.stop a.slices a.seeds.now a.out.now (sym c.check_list.ensures ∙ c.in_ok-check_list.was) }

pub returns-in_err-register : goal.returns-in_err-register
returns-in_err-register c = let w = refused_parts _ _ _ (call_unmade _ _ _ _ _ _ _ (sym c.new.ensures ∙ c.in_err-register.was)) in let x = err_from_is_err_and _ c.from_residual.ensures.1 in record { answer = x.1 ∙ ap Err x.2 ∙ w.0; buffer = w.1 }

pub returns-in_err-check_list : goal.returns-in_err-check_list
returns-in_err-check_list c =
    let a = c.args in let w = refused_parts _ _ _ (call_refused _ _ _ _ a.seeds.now a.out.now _ (sym c.check_list.ensures ∙ c.in_err-check_list.was)) in let x = err_from_is_err_and _ c.from_residual-in_err-check_list.ensures.1 in record { answer = x.1 ∙ ap Err x.2 ∙ w.0; buffer = w.1 }

pub returns : goal.returns
returns c =
    let a = c.args in
    let q = call-formed a.settings a.masks.now a.stop a.slices a.seeds.now a.out.now (sym c.check_list.ensures ∙ c.in_ok-check_list.was) in record { answer = c.expand_formed.ensures.answer ∙ sym (ap (λ (o : Outcome). o.answer) q); buffer = c.expand_formed.ensures.buffer ∙ sym (ap (λ (o : Outcome). o.buffer) q) }
