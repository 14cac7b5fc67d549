-- `search_excluding::lanes_of` meets its contract. Assumes nothing.
use mathlib.Core.Path.{refl}
use Rattle.search_excluding.proofs.Excluding.{lanes_yes, lanes_no}
use Rattle.search_excluding.proofs.lanes_of.Goals as goal

pub returns-then-high-group-eq1 : goal.returns-then-high-group-eq1
returns-then-high-group-eq1 c = let a = c.args in lanes_yes a.words.now a.place a.group _ c.if-high-group-eq1.true refl

pub returns-else-high-group-eq1 : goal.returns-else-high-group-eq1
returns-else-high-group-eq1 c = let a = c.args in lanes_no a.words.now a.place a.group _ c.if-high-group-eq1.false refl
