-- `text_lines::characters` meets its contract. Assumes nothing.
use mathlib.Core.Path.{sym, ap, ◌∙◌}
use Rattle.text_lines.specs.Form.{sliced}
use Rattle.text_lines.proofs.Values.{characters_many, characters-other, characters_right}
use Rattle.text_lines.proofs.characters.Goals as goal

pub returns-then-value-gt-MOST_CHAINS : goal.returns-then-value-gt-MOST_CHAINS
returns-then-value-gt-MOST_CHAINS c = sym (characters_many _ _ _ c.if-value-gt-MOST_CHAINS.true)

pub returns-then-value-chains : goal.returns-then-value-chains
returns-then-value-chains c = sym (characters-other _ _ _ c.if-value-gt-MOST_CHAINS.false c.if-value-chains.true)

pub returns : goal.returns
returns c =
    c.sliced.ensures ∙ ap (sliced _) c.slice_of.ensures ∙ sym (characters_right _ _ _ c.if-value-gt-MOST_CHAINS.false c.if-value-chains.false)
