-- `search_rows::shown` meets its contract. Assumes nothing.
use mathlib.Core.Path.{sym, ◌∙◌}
use native.Mathlib.Omega.{arith}
use Rattle.search_rows.specs.Rows.{shown}
use Rattle.search_rows.proofs.Reading.{masks-next, masks_differ, masks_end}
use Rattle.search_rows.proofs.shown.Goals as goal

pub returns-then-odd-bits : goal.returns-then-odd-bits
unfolding shown
returns-then-odd-bits c =
    let l = c.loop-mask in
    masks_differ _ c.args.state l.mask-index l.bits (omega arith) (λ e. c.if-odd-bits.true (c.odd.ensures ∙ e)) ∙ sym l.invariant

pub loop-mask-preserved : goal.loop-mask-preserved
loop-mask-preserved c =
    let l = c.loop-mask in
    l.invariant ∙ masks-next _ c.args.state l.mask-index l.bits (omega arith) (sym c.odd.ensures ∙ c.if-odd-bits.false)

pub returns : goal.returns
unfolding shown
returns c =
    let l = c.loop-mask in
    masks_end _ c.args.state l.mask-index l.bits (omega arith) ∙ sym l.invariant
