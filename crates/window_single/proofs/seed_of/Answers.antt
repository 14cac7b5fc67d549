-- `window_single::seed_of` meets its contract. Assumes nothing.
use mathlib.Core.Path.{refl, sym, ap, ◌∙◌}
use native.Mathlib.Omega.{arith}
use lib.ListN.{length}
use lib.Seq.{length-take-le}
use Rattle.machine_slices.proofs.Causes.{slices_equal}
use Rattle.machine_inversion.proofs.Inversion.{flipped-room, flipped-front}
use Rattle.refusal_lengths.proofs.Lengths.{window_within}
use Rattle.refusal_checks.proofs.Formed.{window_formed}
use Rattle.theory_covering.specs.Single.{lowest_or7}
use Rattle.theory_covering.proofs.Upright.{window_upright, seed-upright}
use Rattle.window_single.proofs.seed_of.Goals as goal

pub flip_bits-requires : goal.flip_bits-requires
flip_bits-requires c =
    let a = c.args in
    let w = window_formed a.settings a.masks.now a.stop a.specified.now a.bits.now c.requires in
    let e = slices_equal (length a.masks.now) a.specified.now a.bits.now w.slices in
    (e, omega (arith, (window_within a.settings.limit (length a.specified.now) w.lengths).1, w.most, e))

pub slice_bounds-flipped-end : goal.slice_bounds-flipped-end
slice_bounds-flipped-end c =
    let a = c.args in
    let w = window_formed a.settings a.masks.now a.stop a.specified.now a.bits.now c.requires in
    let f = c.flip_bits in
    flipped-room a.settings.invert a.specified.now a.bits.now _ f.new.out (slices_equal (length a.masks.now) a.specified.now a.bits.now w.slices) f.ensures

pub slice_bounds-seed_upright-end : goal.slice_bounds-seed_upright-end
slice_bounds-seed_upright-end c =
    let a = c.args in
    let w = window_formed a.settings a.masks.now a.stop a.specified.now a.bits.now c.requires in
    let f = c.flip_bits in
    sym (length-take-le (length a.bits.now) f.new.out (flipped-room a.settings.invert a.specified.now a.bits.now _ f.new.out (slices_equal (length a.masks.now) a.specified.now a.bits.now w.slices) f.ensures))

pub seed_upright-requires : goal.seed_upright-requires
seed_upright-requires c =
    let a = c.args in
    let w = window_formed a.settings a.masks.now a.stop a.specified.now a.bits.now c.requires in
    let f = c.flip_bits in
    let u = c.upright-upright in
    let t = c.flip-shown in
    let front = flipped-front a.settings.invert a.specified.now a.bits.now _ f.new.out (slices_equal (length a.masks.now) a.specified.now a.bits.now w.slices) f.ensures in
    (rw (u.ensures, t.ensures, front) (window_upright a.settings a.masks.now a.stop a.specified.now a.bits.now c.requires), rw u.ensures refl)

pub returns : goal.returns
returns c =
    let a = c.args in
    let w = window_formed a.settings a.masks.now a.stop a.specified.now a.bits.now c.requires in
    let f = c.flip_bits in
    let u = c.upright-upright in
    let t = c.flip-shown in
    let front = flipped-front a.settings.invert a.specified.now a.bits.now _ f.new.out (slices_equal (length a.masks.now) a.specified.now a.bits.now w.slices) f.ensures in
    c.seed_upright.ensures ∙ rw (u.ensures, t.ensures, front) (ap lowest_or7 (sym (seed-upright a.settings a.masks.now a.stop a.specified.now a.bits.now)))
