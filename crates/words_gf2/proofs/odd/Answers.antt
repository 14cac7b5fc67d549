-- `words_gf2::odd` meets its contract: at most 64 ones fit. Assumes nothing.
use native.Mathlib.Omega.{arith}
use borrow.Author.Rules.{rules}
use lib.Bits.{bit_and, and_le_l}
use lib.Count.{ones-le}
use Rattle.words_gf2.specs.Words.{odd}
use Rattle.words_gf2.proofs.odd.Goals as goal

pub overflow_cast-result : goal.overflow_cast-result
overflow_cast-result c = omega (arith, ones-le 64 (bit_and c.args.state c.args.mask) (omega (arith, and_le_l c.args.state c.args.mask)))

pub returns : goal.returns
unfolding odd
returns c = search rules
