-- `encoder_sets::encode` meets its contract. Assumes nothing.
use mathlib.Core.Path.{refl, sym, ap, ◌∙◌}
use native.Mathlib.Omega.{arith}
use lib.ListN.{length}
use lib.Seq.{length-take-le}
use Rattle.refusal_causes.specs.Outcome.{Outcome}
use Rattle.machine_slices.proofs.Causes.{slices_equal}
use Rattle.machine_inversion.proofs.Inversion.{flipped-room, flipped-front}
use Rattle.refusal_lengths.proofs.Lengths.{set-within}
use Rattle.refusal_checks.proofs.Formed.{set-formed}
use Rattle.theory_covering.proofs.Upright.{set-upright}
use Rattle.encoder_meaning.proofs.Inversion.{encoding-upright}
use Rattle.encoder_sets.proofs.encode.Goals as goal

pub flip_bits-requires : goal.flip_bits-requires
flip_bits-requires c =
    let a = c.args in
    let w = set-formed a.settings a.masks.now a.stop a.specified.now a.bits.now c.requires in
    let e = slices_equal (length a.masks.now) a.specified.now a.bits.now w.slices in
    (e, omega (arith, (set-within (length a.specified.now) w.lengths).1, e))

pub slice_bounds-flipped-end : goal.slice_bounds-flipped-end
slice_bounds-flipped-end c =
    let a = c.args in
    let w = set-formed a.settings a.masks.now a.stop a.specified.now a.bits.now c.requires in
    let f = c.flip_bits in
    flipped-room a.settings.invert a.specified.now a.bits.now _ f.new.out (slices_equal (length a.masks.now) a.specified.now a.bits.now w.slices) f.ensures

pub slice_bounds-encode_upright-end : goal.slice_bounds-encode_upright-end
slice_bounds-encode_upright-end c =
    let a = c.args in
    let w = set-formed a.settings a.masks.now a.stop a.specified.now a.bits.now c.requires in
    let f = c.flip_bits in
    sym (length-take-le (length a.bits.now) f.new.out (flipped-room a.settings.invert a.specified.now a.bits.now _ f.new.out (slices_equal (length a.masks.now) a.specified.now a.bits.now w.slices) f.ensures))

pub encode_upright-requires : goal.encode_upright-requires
encode_upright-requires c =
    let a = c.args in
    let w = set-formed a.settings a.masks.now a.stop a.specified.now a.bits.now c.requires in
    let f = c.flip_bits in
    let u = c.upright-upright in
    let t = c.flip-shown in
    let front = flipped-front a.settings.invert a.specified.now a.bits.now _ f.new.out (slices_equal (length a.masks.now) a.specified.now a.bits.now w.slices) f.ensures in
    (rw (u.ensures, t.ensures, front) (set-upright a.settings a.masks.now a.stop a.specified.now a.bits.now c.requires), rw u.ensures refl)

pub returns : goal.returns
returns c =
    let a = c.args in
    let w = set-formed a.settings a.masks.now a.stop a.specified.now a.bits.now c.requires in
    let f = c.flip_bits in
    let u = c.upright-upright in
    let t = c.flip-shown in
    let front = flipped-front a.settings.invert a.specified.now a.bits.now _ f.new.out (slices_equal (length a.masks.now) a.specified.now a.bits.now w.slices) f.ensures in
    let e = sym (encoding-upright a.settings a.masks.now a.stop a.specified.now a.bits.now a.out.now) in
    let r = c.encode_upright in record { answer = r.ensures.answer ∙ rw (u.ensures, t.ensures, front) (ap (λ (o : Outcome). o.answer) e); buffer = r.ensures.buffer ∙ rw (u.ensures, t.ensures, front) (ap (λ (o : Outcome). o.buffer) e) }
