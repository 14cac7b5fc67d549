-- `text_characters::specified_at` meets its contract. Assumes nothing.
use borrow.Author.Tests.{eq-eqb, ne_eqb}
use Rattle.text_characters.specs.Characters.{specified_at}
use Rattle.text_characters.proofs.specified_at.Goals as goal

pub returns-then-b-eq120 : goal.returns-then-b-eq120
unfolding specified_at
returns-then-b-eq120 c = rw (eq-eqb _ _ c.if-b-eq120.true, specified_at)

pub returns-else-b-eq120 : goal.returns-else-b-eq120
unfolding specified_at
returns-else-b-eq120 c = rw (ne_eqb _ _ c.if-b-eq120.false, specified_at)
