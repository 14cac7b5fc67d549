-- `text_order::may_end` meets its contract. Assumes nothing.
use Rattle.text_order.specs.Order.{last_keys, may_end}
use Rattle.text_order.proofs.Members.{set-among}
use Rattle.text_order.proofs.may_end.Goals as goal

pub returns : goal.returns
unfolding may_end
returns c =
    let a = c.args in
    rw (c.digit.ensures, c.rank.ensures, c.last_keys.ensures) (set-among (last_keys a.kind) a.place.last)
