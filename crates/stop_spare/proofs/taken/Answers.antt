-- `stop_spare::taken` meets its contract: no test slice passed over equals the pattern, so what is left decides. Assumes nothing.
use Rattle.std.proofs.Common.{rules, tests}
use mathlib.Core.Path.{refl, sym, ◌∙◌}
use native.Mathlib.Omega.{arith}
use Rattle.stop_spare.specs.Spare.{equals}
use Rattle.stop_spare.proofs.Lookup.{taken_hit, taken_miss, taken-past}
use Rattle.stop_spare.proofs.taken.Goals as goal

pub loop-i-init : goal.loop-i-init
loop-i-init c = (c.min-slices.ensures, omega arith, refl)

pub returns-then-eq : goal.returns-then-eq
unfolding equals
returns-then-eq c =
    let l = c.loop-i in
    sym (l.invariant.2 ∙ taken_hit _ _ _ l.i (omega arith) (search (rules, tests)))

pub loop-i-preserved : goal.loop-i-preserved
unfolding equals
loop-i-preserved c =
    let l = c.loop-i in
    (l.invariant.0, omega arith, l.invariant.2 ∙ taken_miss _ _ _ l.i (omega arith) (search (rules, tests)))

pub returns : goal.returns
returns c =
    let l = c.loop-i in
    sym (l.invariant.2 ∙ taken-past _ _ _ l.i (omega arith))
