-- `text_characters::is_character` meets its contract. Assumes nothing.
use borrow.Author.Tests.{eq-eqb, ne_eqb}
use Rattle.text_characters.specs.Characters.{is_character}
use Rattle.text_characters.proofs.is_character.Goals as goal

pub returns-then-b-eq48 : goal.returns-then-b-eq48
unfolding is_character
returns-then-b-eq48 c = simp (eq-eqb _ _ c.if-b-eq48.true)

pub returns-then-b-eq49 : goal.returns-then-b-eq49
unfolding is_character
returns-then-b-eq49 c = simp (ne_eqb _ _ c.if-b-eq48.false, eq-eqb _ _ c.if-b-eq49.true)

pub returns : goal.returns
unfolding is_character
returns c = simp (ne_eqb _ _ c.if-b-eq48.false, ne_eqb _ _ c.if-b-eq49.false)
