-- `text_characters::bit_at` meets its contract. Assumes nothing.
use borrow.Author.Tests.{eq-eqb, ne_eqb}
use Rattle.text_characters.specs.Characters.{bit_at}
use Rattle.text_characters.proofs.bit_at.Goals as goal

pub returns-then-b-eq49 : goal.returns-then-b-eq49
unfolding bit_at
returns-then-b-eq49 c = rw (eq-eqb _ _ c.if-b-eq49.true, bit_at)

pub returns-else-b-eq49 : goal.returns-else-b-eq49
unfolding bit_at
returns-else-b-eq49 c = rw (ne_eqb _ _ c.if-b-eq49.false, bit_at)
