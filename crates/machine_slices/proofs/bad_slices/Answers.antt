-- `machine_slices::bad_slices` meets its contract. Assumes nothing.
use mathlib.Core.Path.{sym}
use Rattle.std.proofs.Common.{rules, tests}
use Rattle.std.proofs.lemmas.Iterator.{YieldsList-from_slice, YieldsList-from_zip}
use Rattle.std.proofs.lemmas.Iterator.Search.{any_from_yields_List}
use Rattle.machine_slices.specs.Slices.{bad_slice}
use Rattle.machine_slices.proofs.Paired.{on_pair, paired_any}
use Rattle.machine_slices.proofs.Causes.{slices_unequal, slices_equal_any}
use Rattle.machine_slices.proofs.bad_slices.Goals as goal

pub returns-then-specified-bits : goal.returns-then-specified-bits
returns-then-specified-bits c = sym (slices_unequal _ _ _ c.if-specified-bits.true)

pub returns : goal.returns
returns c =
    let a = c.args in
    rw (slices_equal_any a.chains a.specified.now a.bits.now c.if-specified-bits.false, paired_any (bad_slice a.chains) a.specified.now a.bits.now)
    (any_from_yields_List (on_pair (bad_slice a.chains)) c.any.new.self _ _ c.any.ensures.ran (YieldsList-from_zip (YieldsList-from_slice a.specified.now cc) (YieldsList-from_slice a.bits.now cc)) (λ x b q k. search (rules, tests)))
