-- `text_keys::spelling_at` meets its contract. The table in the code is the one of the definitions. Assumes nothing.
use mathlib.Core.Path.{◌∙◌}
use mathlib.Core.List.{map}
use lib.ListN.{get_or-map}
use Rattle.text_keys.specs.Keys.{rows, row_at, blank, spelling}
use Rattle.text_keys.proofs.Table.{at_default}
use Rattle.text_keys.proofs.spelling_at.Goals as goal

pub returns : goal.returns
unfolding rows row_at
returns c = let i = c.args.i in at_default (map spelling rows) i _ (spelling blank) c.requires ∙ get_or-map spelling rows i blank
