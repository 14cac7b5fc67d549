-- `machine_chains::slice` meets its contract: the masks behind those that are left have given their bits. Assumes nothing.
use native.Mathlib.Omega.{arith}
use mathlib.Core.Path.{◌≡◌}
use lib.ListN.{take}
use Rattle.std.specs.Iterator.Adapters.{rev_source}
use Rattle.std.specs.Slice.Iter.{iter_rest}
use Rattle.words_gf2.proofs.Parity.{odd_lt}
use Rattle.machine_chains.proofs.Slices.{read_start, read_next, read_room, read_end}
use Rattle.machine_chains.proofs.slice.Goals as goal

pub loop-mask-init : goal.loop-mask-init
loop-mask-init c =
    let e : iter_rest (rev_source c.into_iter-mask-iterator.result) ≡ take c.min-count.result c.args.masks.now = cc in
    rw e (read_start c.args.masks.now c.args.state c.min-count.result c.min-count.ensures)

pub overflow_mul-bits : goal.overflow_mul-bits
overflow_mul-bits c =
    omega (arith, read_room _ _ _ _ c.loop-mask.invariant _ _ c.in-Some.ensures.steps)

pub overflow_add-bits : goal.overflow_add-bits
overflow_add-bits c =
    omega (arith, read_room _ _ _ _ c.loop-mask.invariant _ _ c.in-Some.ensures.steps, c.odd.ensures, odd_lt)

pub loop-mask-preserved : goal.loop-mask-preserved
loop-mask-preserved c =
    rw c.odd.ensures (read_next _ _ _ _ c.loop-mask.invariant _ _ c.in-Some.ensures.steps)

pub returns : goal.returns
returns c = read_end _ _ _ _ c.loop-mask.invariant c.in-None.ensures.steps.0
