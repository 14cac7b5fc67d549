-- `text_numbers::digits` meets its contract. The invariant: the digits that are left, after v, say what all say from 0; and v is below a power of the base.
-- Assumes nothing.
use mathlib.Core.Path.{refl, sym, ◌∙◌}
use Prim.Native.Nat.{◌+◌, ◌*◌, ◌^◌, ◌<◌}
use native.Mathlib.Nat.{pow-zero}
use native.Mathlib.Omega.{arith}
use Rattle.text_numbers.proofs.Numerals.{digits_go, digits-none, digits_end, below_next, digits-fit}
use Rattle.text_numbers.proofs.digits.Goals as goal
use Rattle.text_numbers.proofs.digits.Goals.{Else-base-d}

-- What is stored fits a word.
fits : (c : Else-base-d) → c.loop-b.v * c.args.base + c.worth-d.result < 2 ^ 64
fits c = digits-fit _ _ _ c.loop-b.b-index _ c.requires.0 c.requires.1 (omega arith) c.loop-b.invariant.0 c.if-base-d.false

pub loop-b-init : goal.loop-b-init
loop-b-init c = (rw pow-zero (omega arith), refl)

pub returns-then-base-d : goal.returns-then-base-d
returns-then-base-d c =
    let q = c.worth-d.ensures in
    sym (digits-none _ c.loop-b.v _ c.loop-b.b-index (omega arith) (omega arith)) ∙ c.loop-b.invariant.1

pub overflow_mul-v : goal.overflow_mul-v
overflow_mul-v c = let f = fits c in omega arith

pub overflow_add-v : goal.overflow_add-v
overflow_add-v c = let f = fits c in omega arith

pub loop-b-preserved : goal.loop-b-preserved
loop-b-preserved c =
    let q = c.worth-d.ensures in
    (below_next _ _ _ c.loop-b.b-index c.loop-b.invariant.0 c.if-base-d.false, rw q (sym (digits_go _ c.loop-b.v _ c.loop-b.b-index (omega arith) (omega arith)) ∙ c.loop-b.invariant.1))

pub returns : goal.returns
returns c = sym (digits_end _ c.loop-b.v _ c.loop-b.b-index (omega arith)) ∙ c.loop-b.invariant.1
