-- `text_order::after_at` meets its contract. The table in the code is that of the definitions. Assumes nothing.
use mathlib.Core.Path.{◌∙◌}
use mathlib.Core.List.{map}
use lib.ListN.{get_or-map}
use Rattle.text_keys.specs.Keys.{rows, row_at, blank}
use Rattle.text_keys.proofs.Table.{at_default}
use Rattle.text_order.specs.Order.{after}
use Rattle.text_order.specs.Sets.{sets_of}
use Rattle.text_order.proofs.after_at.Goals as goal

pub returns : goal.returns
unfolding rows row_at after
returns c =
    let i = c.args.i in
    at_default (map (λ r. sets_of r.key) rows) i _ (sets_of blank.key) c.requires ∙ get_or-map (λ r. sets_of r.key) rows i blank
