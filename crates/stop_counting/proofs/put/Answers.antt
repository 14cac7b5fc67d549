-- `stop_counting::put` meets its contract. Assumes nothing.
use native.Mathlib.Omega.{arith}
use borrow.Author.Rules.{rules}
use Rattle.words_gf2.proofs.Digits.{one_shifted}
use Rattle.stop_counting.proofs.Counting.{put-fits, put_bit_fits}
use Rattle.stop_counting.proofs.put.Goals as goal

pub overflow_add-specified : goal.overflow_add-specified
overflow_add-specified c =
    let a = c.args in
    omega (arith, one_shifted a.position c.requires.unset.within, put-fits a.position a.stop c.requires.unset (search rules))

pub overflow_mul-bits : goal.overflow_mul-bits
overflow_mul-bits c =
    let a = c.args in
    rw (one_shifted a.position c.requires.unset.within) (omega (arith, put_bit_fits a.position a.stop c.requires.unset a.bit c.requires.bit (search rules)))

pub overflow_add-bits : goal.overflow_add-bits
overflow_add-bits c =
    let a = c.args in
    rw (one_shifted a.position c.requires.unset.within) (omega (arith, put_bit_fits a.position a.stop c.requires.unset a.bit c.requires.bit (search rules)))

pub returns : goal.returns
returns c = rw (one_shifted c.args.position c.requires.unset.within)
