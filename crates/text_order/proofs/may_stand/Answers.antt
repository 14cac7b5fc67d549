-- `text_order::may_stand` meets its contract. Assumes nothing.
use mathlib.Core.Path.{sym, ap, ◌∙◌}
use borrow.Author.Tests.{eq-eqb, ne_eqb}
use Rattle.text_order.specs.Sets.{set_of}
use Rattle.text_order.proofs.Standing.{stand_first, stand_chain, stand_after}
use Rattle.text_order.proofs.may_stand.Goals as goal

pub returns-then-place-eq0 : goal.returns-then-place-eq0
returns-then-place-eq0 c = rw (stand_first _ _ (eq-eqb _ _ c.if-place-eq0.true))

pub returns-then-missing : goal.returns-then-missing
returns-then-missing c =
    rw (stand_chain _ _ (ne_eqb _ _ c.if-place-eq0.false) (sym c.missing.ensures ∙ c.if-missing.true))

pub returns : goal.returns
returns c =
    c.after.ensures ∙ sym (ap set_of (stand_after _ _ (ne_eqb _ _ c.if-place-eq0.false) (sym c.missing.ensures ∙ c.if-missing.false)))
