-- `encoder_sets::encode_upright` meets its contract. Assumes nothing.
use mathlib.Core.Path.{◌≡◌, sym, ap, ◌∙◌}
use Prim.Native.Nat.{ℕ, suc, ◌+◌, ◌≤◌, min}
use native.Mathlib.Omega.{arith}
use native.Mathlib.Numerals.{add-one}
use lib.ListN.{length, replicate, length-replicate}
use Rattle.refusal_causes.specs.Outcome.{Outcome}
use Rattle.machine_settings.specs.Machine.{machine}
use Rattle.machine_slices.specs.Slices.{paired}
use Rattle.machine_slices.proofs.Formed.{slices_length}
use Rattle.refusal_lengths.proofs.Lengths.{set-within}
use Rattle.refusal_checks.proofs.Formed.{set-formed}
use Rattle.theory_covering.specs.Rules.{rules}
use Rattle.window_tables.proofs.Tables.{table-room, tables_filled}
use Rattle.encoder_sets.proofs.Encoding.{settled-encoding, gathered_held}
use Rattle.encoder_sets.proofs.encode_upright.Goals as goal

pub fill-requires : goal.fill-requires
fill-requires c =
    let a = c.args in
    let w = set-formed a.settings a.masks.now a.stop a.specified.now a.bits.now c.requires.0 in
    table-room (c.min-rows.result + 1) (length a.masks.now) (omega (arith, w.most, c.min-rows.ensures)) w.few

pub fill_stops-pattern-requires : goal.fill_stops-pattern-requires
fill_stops-pattern-requires c =
    let a = c.args in
    let w = set-formed a.settings a.masks.now a.stop a.specified.now a.bits.now c.requires.0 in
    let l = c.min-rows in
    (w.few, table-room (l.result + 1) (length a.masks.now) (omega (arith, w.most, l.ensures)) w.few)

pub gather-gathered-requires : goal.gather-gathered-requires
gather-gathered-requires c =
    let a = c.args in
    let w = set-formed a.settings a.masks.now a.stop a.specified.now a.bits.now c.requires.0 in
    let l = c.min-rows in
    let k = c.fill_stops-pattern in
    let f = c.fill in
    let n : l.result + 1 ≡ suc (min a.settings.limit (length a.specified.now)) = add-one l.result ∙ ap suc l.ensures in record { ready = rw (sym n) (tables_filled a.settings a.masks.now a.stop k.result f.new.table k.new.stops _ _ (l.result + 1) w.register w.chains c.requires.1 w.stop k.ensures.answer f.ensures k.ensures.buffer); slices = w.slices; lengths = (w.most, (set-within (length a.specified.now) w.lengths).1, (set-within (length a.specified.now) w.lengths).1); earlier = (omega arith, omega arith) }

pub settle-requires : goal.settle-requires
settle-requires c =
    let a = c.args in
    let w = set-formed a.settings a.masks.now a.stop a.specified.now a.bits.now c.requires.0 in
    let room : length (paired a.specified.now a.bits.now) ≤ length {A = ℕ} (replicate 2048 0) = rw (length-replicate {A = ℕ} 2048 0) (omega (arith, (set-within (length a.specified.now) w.lengths).1, slices_length (length a.masks.now) a.specified.now a.bits.now w.slices)) in
    let r = c.gather-gathered in
    gathered_held (machine a.settings a.masks.now) _ (paired a.specified.now a.bits.now) _ room r.result r.new.seeds r.ensures.answer r.ensures.buffer

pub returns : goal.returns
returns c =
    let a = c.args in
    let r = c.gather-gathered in
    let t = c.settle in
    let w = set-formed a.settings a.masks.now a.stop a.specified.now a.bits.now c.requires.0 in
    let room : length (paired a.specified.now a.bits.now) ≤ length {A = ℕ} (replicate 2048 0) = rw (length-replicate {A = ℕ} 2048 0) (omega (arith, (set-within (length a.specified.now) w.lengths).1, slices_length (length a.masks.now) a.specified.now a.bits.now w.slices)) in
    let e = settled-encoding (machine a.settings a.masks.now) (rules a.settings a.stop) (paired a.specified.now a.bits.now) _ room r.result r.new.seeds r.ensures.answer r.ensures.buffer (length a.specified.now) a.out.now (slices_length (length a.masks.now) a.specified.now a.bits.now w.slices) in record { answer = t.ensures.answer ∙ ap (λ (o : Outcome). o.answer) e; buffer = t.ensures.buffer ∙ ap (λ (o : Outcome). o.buffer) e }
