-- `text_lines::valued` meets its contract. Assumes nothing.
use mathlib.Core.Path.{sym, ap, ◌∙◌}
use Rattle.text_keys.specs.Keys.{notation}
use Rattle.text_lines.specs.Form.{numbered}
use Rattle.text_lines.proofs.Values.{valued_decimal, valued_hexadecimal, valued_chainwise}
use Rattle.text_lines.proofs.valued.Goals as goal

pub returns-in-Decimal : goal.returns-in-Decimal
unfolding notation
returns-in-Decimal c =
    c.numbered.ensures ∙ ap (numbered _) c.number.ensures ∙ sym (valued_decimal _ _ _ (sym (ap (λ x. x.3) c.spelling_of-notation.ensures) ∙ c.in-Decimal.is))

pub returns-in-Hexadecimal : goal.returns-in-Hexadecimal
unfolding notation
returns-in-Hexadecimal c =
    c.numbered-in-Hexadecimal.ensures ∙ ap (numbered _) c.number-in-Hexadecimal.ensures ∙ sym (valued_hexadecimal _ _ _ (sym (ap (λ x. x.3) c.spelling_of-notation.ensures) ∙ c.in-Hexadecimal.is))

pub returns-in-Chainwise : goal.returns-in-Chainwise
unfolding notation
returns-in-Chainwise c =
    c.characters.ensures ∙ sym (valued_chainwise _ _ _ (sym (ap (λ x. x.3) c.spelling_of-notation.ensures) ∙ c.in-Chainwise.is))
