-- `text_order::in_order` meets its contract. Assumes nothing.
use Rattle.text_order.specs.Order.{may_stand, in_order}
use Rattle.text_order.proofs.Members.{set-among}
use Rattle.text_order.proofs.in_order.Goals as goal

pub returns : goal.returns
unfolding in_order
returns c =
    let a = c.args in
    rw (c.digit.ensures, c.rank.ensures, c.may_stand.ensures) (set-among (may_stand a.kind a.place) a.key)
