-- `text_write_slices::all_chains` meets its contract. A single bit above the chains, less one; in a word with no bit above them, the largest.
-- Assumes nothing.
use native.Mathlib.Omega.{arith}
use lib.Pow.{pow_pos}
use Rattle.words_gf2.proofs.Digits.{one_shifted}
use Rattle.text_write_slices.proofs.all_chains.Goals as goal

pub returns-then-chains-eq64 : goal.returns-then-chains-eq64
returns-then-chains-eq64 c = rw c.if-chains-eq64.true

pub overflow_sub-result : goal.overflow_sub-result
overflow_sub-result c = let k = c.args.chains in omega (arith, one_shifted k (omega arith), pow_pos k)

pub returns : goal.returns
returns c = let k = c.args.chains in omega (arith, one_shifted k (omega arith))
