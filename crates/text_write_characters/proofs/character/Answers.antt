-- `text_write_characters::character` meets its contract. An unspecified position is an x, whatever its bit.
-- Assumes nothing.
use mathlib.Core.Path.{sym, ◌∙◌}
use native.Mathlib.Nat.{add_comm}
use Rattle.text_write_characters.specs.Characters.{character}
use Rattle.text_write_characters.proofs.Characters.{character_specified}
use borrow.Author.Rules.{rules}
use Rattle.text_write_characters.proofs.character.Goals as goal

pub returns-then-specified-eq0 : goal.returns-then-specified-eq0
unfolding character
returns-then-specified-eq0 c = search rules

pub returns-else-specified-eq0 : goal.returns-else-specified-eq0
returns-else-specified-eq0 c = add_comm _ _ ∙ sym (character_specified _ _ c.if-specified-eq0.false)
