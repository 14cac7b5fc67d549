-- `text_lines::formed` meets its contract. Assumes nothing.
use mathlib.Core.Path.{sym, ◌∙◌}
use Rattle.text_lines.proofs.Values.{formed_known, formed_unknown}
use Rattle.text_lines.proofs.formed.Goals as goal

pub returns-in-Some : goal.returns-in-Some
returns-in-Some c =
    c.keyed.ensures ∙ sym (formed_known _ _ _ (sym c.key_of.ensures ∙ c.in-Some.is))

pub returns-in-None : goal.returns-in-None
returns-in-None c = sym (formed_unknown _ _ (sym c.key_of.ensures ∙ c.in-None.is))
