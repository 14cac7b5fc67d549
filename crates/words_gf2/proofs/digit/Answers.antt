-- `words_gf2::digit` meets its contract. Assumes nothing.
use mathlib.Core.Path.{sym}
use Rattle.words_gf2.specs.Words.{digit}
use Rattle.words_gf2.proofs.Digits.{digit_wide}
use borrow.Author.Rules.{rules}
use Rattle.words_gf2.proofs.digit.Goals as goal

pub returns-then-cell-lt64 : goal.returns-then-cell-lt64
unfolding digit
returns-then-cell-lt64 c = search rules

pub returns-else-cell-lt64 : goal.returns-else-cell-lt64
returns-else-cell-lt64 c = sym (digit_wide 64 _ _ (search rules) (search rules))
