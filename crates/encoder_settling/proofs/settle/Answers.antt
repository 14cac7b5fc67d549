-- `encoder_settling::settle` meets its contract. Assumes nothing.
use Rattle.encoder_settling.specs.Settling.{settled}
use Rattle.encoder_settling.proofs.Settling.{settled_stuck, settled_short, settled-whole}
use Rattle.refusal_causes.proofs.Outcome.{refused_parts, outcome_parts}
use Rattle.encoder_settling.proofs.settle.Goals as goal

pub returns-then-gathered-slices : goal.returns-then-gathered-slices
returns-then-gathered-slices c =
    let a = c.args in let w = refused_parts (settled a.slices a.gathered a.seeds.now a.out.now) _ a.out.now (settled_stuck a.slices a.gathered a.seeds.now a.out.now c.if-gathered-slices.true) in record { answer = w.0; buffer = w.1 }

pub returns-then-out-count : goal.returns-then-out-count
returns-then-out-count c =
    let a = c.args in let w = refused_parts (settled a.slices a.gathered a.seeds.now a.out.now) _ a.out.now (settled_short a.slices a.gathered a.seeds.now a.out.now c.if-gathered-slices.false c.requires c.if-out-count.true) in record { answer = w.0; buffer = w.1 }

pub returns : goal.returns
returns c =
    let a = c.args in
    let e = settled-whole a.slices a.gathered a.seeds.now a.out.now c.if-gathered-slices.false c.requires c.if-out-count.false in
    let p = outcome_parts (settled a.slices a.gathered a.seeds.now a.out.now) _ _ e in record { answer = p.0; buffer = rw c.copy_from_slice.ensures.after p.1 }
