-- `text_ranges::saying` meets its contract. Assumes nothing.
use mathlib.Core.Path.{sym, ◌∙◌}
use Rattle.text_ranges.proofs.Ranging.{saying-said, saying_refused}
use Rattle.text_ranges.proofs.saying.Goals as goal

pub returns-in_default : goal.returns-in_default
returns-in_default c = let g = c.in_default.is in g ∙ sym (saying_refused _ _ _ _ (sym c.formed-said.ensures ∙ g))

pub returns : goal.returns
returns c =
    c.tested.ensures ∙ sym (saying-said _ _ _ _ (sym c.formed-said.ensures ∙ c.in-Said.is))
