-- `window_tables::fill_stops` meets its contract. Assumes nothing.
use mathlib.Core.Path.{◌≡◌, sym, ap, ap₂, ◌∙◌}
use Prim.Native.Nat.{ℕ, min}
use native.Mathlib.Omega.{arith}
use lib.ListN.{length}
use lib.Seq.{length-take-le}
use Rattle.search_table.specs.Chosen.{packed}
use Rattle.search_table.proofs.Choosing.{chosen_few}
use Rattle.search_rows.specs.declared.Pattern.{Pattern}
use Rattle.window_tables.proofs.Chosen.{front-chosen, few_entries}
use Rattle.window_tables.proofs.fill_stops.Goals as goal

pub slice_bounds-chosen-end : goal.slice_bounds-chosen-end
slice_bounds-chosen-end c =
    let o = c.choose-columns in
    let n : length o.new.chosen ≡ 64 = o.auto.chosen in
    omega (arith, o.ensures.answer, chosen_few c.args.stop.specified c.args.masks.now, c.requires.0)

pub slice_bounds-fill-end : goal.slice_bounds-fill-end
slice_bounds-fill-end c =
    let o = c.choose-columns in
    let n : length o.new.chosen ≡ 64 = o.auto.chosen in
    sym (length-take-le o.result o.new.chosen (omega (arith, o.ensures.answer, chosen_few c.args.stop.specified c.args.masks.now, c.requires.0)))

pub fill-requires : goal.fill-requires
fill-requires c =
    let o = c.choose-columns in
    rw (front-chosen c.args.stop.specified c.args.masks.now o.new.chosen _ o.result o.ensures.answer o.ensures.buffer)
    (few_entries c.args.rows c.args.stop.specified c.args.masks.now _ c.requires.1)

pub returns : goal.returns
returns c =
    let a = c.args in
    let o = c.choose-columns in
    let f = c.fill in
    let m : min 64 (length a.masks.now) ≡ length a.masks.now = omega (arith, c.requires.0) in
    let parts : ℕ → ℕ → Pattern = λ k b. record { columns = k; bits = b } in record { answer = ap₂ parts o.ensures.answer (c.pack-bits.ensures ∙ ap (packed a.stop.specified a.stop.bits) m); buffer = f.ensures ∙ rw (front-chosen a.stop.specified a.masks.now o.new.chosen _ o.result o.ensures.answer o.ensures.buffer) }
