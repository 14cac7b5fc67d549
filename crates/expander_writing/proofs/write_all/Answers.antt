-- `expander_writing::write_all` meets its contract: the slices of the seeds passed are written, and those of the rest complete them. Assumes nothing.
use mathlib.Core.Path.{refl}
use Prim.Native.Nat.{◌-◌}
use native.Mathlib.Omega.{arith}
use lib.ListN.{get_or}
use Rattle.machine_settings.specs.Machine.{machine}
use Rattle.expander_meaning.specs.Until.{until_stop}
use Rattle.expander_meaning.proofs.Until.{until_length}
use Rattle.expander_writing.proofs.Filling.{size_kept, filled_start, filled_next, filled_end}
use Rattle.expander_writing.proofs.write_all.Goals as goal

pub loop-seed-init : goal.loop-seed-init
loop-seed-init c = ((λ vs w h. filled_start _ _ _ _ _ vs _ w h), omega arith, refl)

pub write_run-at-requires : goal.write_run-at-requires
write_run-at-requires c =
    let l = c.loop-seed in record { place = (l.invariant.1, omega (arith, l.invariant.2, c.requires.space)) }

pub loop-seed-preserved : goal.loop-seed-preserved
loop-seed-preserved c =
    let w = c.write_run-at in
    let l = c.loop-seed in
    let a = c.args in
    let x = a.expander.now in
    let there = c.loop-seed-test.true in (
      (λ vs wk h. rw (w.ensures.place, w.ensures.buffer) (filled_next _ _ _ _ _ vs _ l.seed-index l.at l.out (l.invariant.0 vs wk h) there)),
      omega (arith, w.ensures.place, l.invariant.1, until_length (machine x.settings x.masks.now) x.stop (a.slices - l.at) (get_or a.seeds.now l.seed-index 0)),
      size_kept l.out (until_stop (machine x.settings x.masks.now) x.stop (a.slices - l.at) (get_or a.seeds.now l.seed-index 0)) _ l.at _ w.ensures.buffer l.invariant.2,
    )

pub shape_of-out : goal.shape_of-out
shape_of-out c = c.loop-seed.invariant.2

pub returns : goal.returns
returns c =
    let l = c.loop-seed in
    λ vs wk h. filled_end _ _ _ _ _ vs _ l.seed-index l.at l.out (l.invariant.0 vs wk h) c.loop-seed-test.false
