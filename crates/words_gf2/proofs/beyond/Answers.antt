-- `words_gf2::beyond` meets its contract: what is left of a word above the width is its quotient. Assumes nothing.
use Rattle.words_gf2.proofs.Digits.{beyond_quotient, beyond_wide}
use mathlib.Core.Path.{sym}
use borrow.Author.Rules.{rules}
use Rattle.words_gf2.proofs.beyond.Goals as goal

pub returns-then-width-lt64 : goal.returns-then-width-lt64
returns-then-width-lt64 c = beyond_quotient _ _

pub returns-else-width-lt64 : goal.returns-else-width-lt64
returns-else-width-lt64 c = sym (beyond_wide 64 _ _ (search rules) (search rules))
