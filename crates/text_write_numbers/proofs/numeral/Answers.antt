-- `text_write_numbers::numeral` meets its contract. The invariant: the digits of what is left, before those that stand in the array, are the digits of the number.
-- Assumes nothing.
use mathlib.Core.Path.{sym, ◌∙◌}
use Prim.Native.Nat.{◌≤◌}
use native.Mathlib.Nat.{mod-lt, div-lt_self}
use native.Mathlib.Omega.{arith}
use lib.ListN.{length-set}
use Rattle.text_write_numbers.proofs.Digits.{digit_room, digit_less, digit_go, digit_first, digits-none, word_fits}
use Rattle.text_write_numbers.proofs.numeral.Goals as goal

pub loop-rest-init : goal.loop-rest-init
loop-rest-init c = (omega arith, omega arith, c.requires.2, word_fits _ _ c.requires.0 c.ranges.n.fits, digits-none _ _ c.args.digits.now c.requires.2)

pub overflow_sub-i : goal.overflow_sub-i
overflow_sub-i c = omega arith

pub glyph-requires : goal.glyph-requires
glyph-requires c = omega (arith, mod-lt c.loop-rest.rest {m = c.args.base} (omega arith))

pub bounds-digits-i : goal.bounds-digits-i
bounds-digits-i c = omega arith

pub loop-rest-smaller : goal.loop-rest-smaller
loop-rest-smaller c =
    div-lt_self {n = c.loop-rest.rest} {k = c.args.base} (omega arith) (omega arith)

pub loop-rest-preserved : goal.loop-rest-preserved
loop-rest-preserved c =
    let b = c.args.base in
    let n = c.loop-rest.rest in
    let i = c.loop-rest.i in
    let more : b ≤ n = omega arith in
    let r = digit_room b n i more c.loop-rest.invariant.3 (omega arith) in
    (omega arith, omega arith, simp length-set c.loop-rest.invariant.2, digit_less b n i (omega arith) (omega arith) c.loop-rest.invariant.3, rw c.glyph.ensures (digit_go b n _ i (omega arith) (omega arith) more ∙ c.loop-rest.invariant.4))

pub overflow_sub-i-2 : goal.overflow_sub-i-2
overflow_sub-i-2 c = omega arith

pub glyph-requires-2 : goal.glyph-requires-2
glyph-requires-2 c = omega arith

pub bounds-digits-i-2 : goal.bounds-digits-i-2
bounds-digits-i-2 c = omega arith

pub shape_of-digits : goal.shape_of-digits
shape_of-digits c = simp length-set (c.loop-rest.invariant.2 ∙ sym c.requires.2)

pub returns : goal.returns
returns c =
    (omega arith, rw c.glyph-2.ensures (digit_first _ _ _ c.loop-rest.i (omega arith) (omega arith) c.loop-rest-test.false ∙ c.loop-rest.invariant.4))
