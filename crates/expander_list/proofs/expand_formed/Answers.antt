-- `expander_list::expand_formed` meets its contract. Assumes nothing.
use Rattle.std.proofs.lemmas.Result.{err_from_is_err_and}
use Rattle.std.specs.Prelude.{Err, Ok}
use mathlib.Core.Path.{◌≡◌, sym, ◌∙◌, ap}
use native.Mathlib.Omega.{arith}
use Rattle.machine_settings.specs.Machine.{machine}
use Rattle.theory_covering.specs.Rules.{rules}
use Rattle.expander_meaning.specs.Expanding.{walk}
use Rattle.expander_total.specs.Tally.{tally}
use Rattle.refusal_causes.proofs.Outcome.{outcome_parts, refused_parts}
use Rattle.expander_list.proofs.Outcomes.{found, found_refused, found-other, found_short, found-whole}
use Rattle.expander_list.proofs.expand_formed.Goals as goal

pub returns-then-total-slices : goal.returns-then-total-slices
returns-then-total-slices c =
    let a = c.args in
    let x = a.expander.now in
    let e = c.total_of.ensures in
    let t = c.in_ok-total.total in
    let k : tally 0 (walk (machine x.settings x.masks.now) (rules x.settings x.stop) a.slices 0 0 a.seeds.now) ≡ Ok t = sym e ∙ c.in_ok-total.was in let w = refused_parts _ _ _ (found-other _ _ _ _ _ t (found _ _ _ _ a.out.now t k) c.if-total-slices.true) in record { answer = w.0; buffer = w.1 }

pub returns-then-out-total : goal.returns-then-out-total
returns-then-out-total c =
    let a = c.args in
    let x = a.expander.now in
    let e = c.total_of.ensures in
    let t = c.in_ok-total.total in
    let k : tally 0 (walk (machine x.settings x.masks.now) (rules x.settings x.stop) a.slices 0 0 a.seeds.now) ≡ Ok t = sym e ∙ c.in_ok-total.was in let w = refused_parts _ _ _ (found_short _ _ _ _ _ t (found _ _ _ _ a.out.now t k) c.if-total-slices.false c.if-out-total.true) in record { answer = w.0; buffer = w.1 }

pub write_all-requires : goal.write_all-requires
write_all-requires c =
    record { space = omega (arith, c.if-total-slices.false, c.if-out-total.false) }

pub returns-in_err-total : goal.returns-in_err-total
returns-in_err-total c =
    let a = c.args in
    let x = a.expander.now in
    let e = c.total_of.ensures in
    let k : tally 0 (walk (machine x.settings x.masks.now) (rules x.settings x.stop) a.slices 0 0 a.seeds.now) ≡ Err c.in_err-total.field-0.0 = sym e ∙ c.in_err-total.was in let w = refused_parts _ _ _ (found_refused _ _ _ _ _ _ k) in let x = err_from_is_err_and _ c.from_residual.ensures.1 in record { answer = x.1 ∙ ap Err x.2 ∙ w.0; buffer = w.1 }

pub returns : goal.returns
returns c =
    let a = c.args in
    let x = a.expander.now in
    let e = c.total_of.ensures in
    let t = c.in_ok-total.total in
    let k : tally 0 (walk (machine x.settings x.masks.now) (rules x.settings x.stop) a.slices 0 0 a.seeds.now) ≡ Ok t = sym e ∙ c.in_ok-total.was in
    let f = found _ _ _ _ a.out.now t k in
    let p = outcome_parts _ _ _ (found-whole _ _ _ _ _ t f c.if-total-slices.false c.if-out-total.false) in record { answer = p.0; buffer = c.write_all.ensures f.slices f.walks (f.count ∙ c.if-total-slices.false) ∙ p.1 }
