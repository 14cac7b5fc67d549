-- `encoder_gathering::gather` meets its contract. Assumes nothing.
use Rattle.std.specs.Prelude.{Some}
use mathlib.Core.Path.{◌≡◌}
use mathlib.Core.Bool.{◌||◌}
use Prim.Native.Nat.{◌-◌, ◌≤◌, min}
use native.Mathlib.Omega.{arith}
use lib.Dec.{ltb}
use lib.ListN.{length, take, drop}
use borrow.Author.Rules.{rules}
use Rattle.encoder_gathering.proofs.Gathering.{gathering_answer, gathering_start, gathering_next}
use Rattle.theory_covering.proofs.Windows.{set-bounds}
use Rattle.theory_covering.specs.Windows.{ok}
use Rattle.theory_cutting.proofs.Reach.{reach_end}
use Rattle.window_tables.proofs.Tables.{tables_fewer}
use Rattle.window_lengths.specs.declared.Window.{Window}
use Rattle.encoder_gathering.proofs.Reaching.{Reaches, ReachesOr}
use Rattle.encoder_gathering.proofs.Starts.{part_bounds, part_slices, part_window}
use Rattle.machine_settings.specs.Machine.{machine}
use Rattle.machine_slices.specs.Slices.{paired}
use Rattle.machine_slices.proofs.Formed.{slices_length}
use Rattle.theory_covering.specs.Rules.{segment_rules}
use Rattle.encoder_gathering.proofs.gather.Goals as goal
use Rattle.encoder_gathering.proofs.gather.Goals.{After-far-end, After-reach, then-sought, else-sought}

pub loop-place-init : goal.loop-place-init
loop-place-init c =
    let a = c.args in
    gathering_start (machine a.sought.settings a.masks.now) (segment_rules a.sought.settings a.sought.stop a.sought.closing) (paired a.specified.now a.bits.now) a.seeds.now _ (omega (arith, c.requires.earlier.1, slices_length (length a.masks.now) a.specified.now a.bits.now c.requires.slices))

pub far-end-requires : goal.far-end-requires
far-end-requires c =
    (c.requires.lengths.0, omega (arith, c.requires.lengths.1, c.loop-place-test.true))

-- the part that a window from this place may take
part : (c : After-far-end) → (c.loop-place.place ≤ c.far-end.result) × (c.far-end.result ≤ length c.args.specified.now) × (c.far-end.result ≤ length c.args.bits.now)
    × (length (take (c.far-end.result - c.loop-place.place) (drop c.loop-place.place c.args.specified.now)) ≤ min c.args.sought.settings.limit (length c.args.specified.now))
part c =
    let a = c.args in
    part_bounds a.sought.settings a.masks.now a.sought.stop a.sought.closing a.specified.now a.bits.now c.requires.slices c.loop-place.place c.far-end.result (omega (arith, c.loop-place-test.true)) (c.far-end.ensures a.sought.stop a.sought.closing)

pub slice_bounds-reach-count : goal.slice_bounds-reach-count
slice_bounds-reach-count c = (part (goal.at.slice_bounds-reach-count c).After-far-end).0

pub slice_bounds-reach-count-in-loop-place : goal.slice_bounds-reach-count-in-loop-place
slice_bounds-reach-count-in-loop-place c = (part (goal.at.slice_bounds-reach-count-in-loop-place c).After-far-end).0

pub slice_bounds-reach-start : goal.slice_bounds-reach-start
slice_bounds-reach-start c = (part (goal.at.slice_bounds-reach-start c).After-far-end).0

pub slice_bounds-reach-end : goal.slice_bounds-reach-end
slice_bounds-reach-end c = (part (goal.at.slice_bounds-reach-end c).After-far-end).1

pub slice_bounds-reach-start-in-loop-place : goal.slice_bounds-reach-start-in-loop-place
slice_bounds-reach-start-in-loop-place c = (part (goal.at.slice_bounds-reach-start-in-loop-place c).After-far-end).0

pub slice_bounds-reach-end-in-loop-place : goal.slice_bounds-reach-end-in-loop-place
slice_bounds-reach-end-in-loop-place c = (part (goal.at.slice_bounds-reach-end-in-loop-place c).After-far-end).2

pub reach-requires : goal.reach-requires
reach-requires c =
    let a = c.args in
    let l = c.loop-place in
    let b = part (goal.at.reach-requires c).After-far-end in record { tables_for = tables_fewer a.sought.settings a.masks.now a.sought.stop a.sought.pattern a.table.now a.stops.now _ _ (let k = b.3 in omega arith) c.requires.ready; bits_value = part_slices a.sought.settings a.masks.now a.sought.stop a.sought.closing a.specified.now a.bits.now c.requires.slices l.place c.far-end.result (omega (arith, c.loop-place-test.true)) (c.far-end.ensures a.sought.stop a.sought.closing) }

-- what the search for the longest window from this place says of the set
window : (c : After-reach) → c.if-sought.closing ≡ (c.args.sought.closing || ltb c.far-end.result (length c.args.specified.now)) → ReachesOr (machine c.args.sought.settings c.args.masks.now) (segment_rules c.args.sought.settings c.args.sought.stop c.args.sought.closing) (paired c.args.specified.now c.args.bits.now) c.loop-place.place c.reach.result
window c e =
    let a = c.args in
    part_window a.sought.settings a.masks.now a.sought.stop a.sought.closing a.specified.now a.bits.now c.requires.slices c.loop-place.place c.far-end.result (omega (arith, c.loop-place-test.true)) (c.far-end.ensures a.sought.stop a.sought.closing) c.if-sought.closing e c.reach.result c.reach.ensures

-- and the window that it found
reached : (c : After-reach) → c.if-sought.closing ≡ (c.args.sought.closing || ltb c.far-end.result (length c.args.specified.now)) → (r : Window) → c.reach.result ≡ Some r → Reaches (machine c.args.sought.settings c.args.masks.now) (segment_rules c.args.sought.settings c.args.sought.stop c.args.sought.closing) (paired c.args.specified.now c.args.bits.now) c.loop-place.place r
reached c e r q = rw q at (window c e)

pub returns-in_default : goal.returns-in_default
returns-in_default c =
    let a = c.args in
    let l = c.loop-place in
    let e = rw c.in_default.is at (window (goal.at.returns-in_default c).After-reach (elim c.if-sought.branch [ then-sought v ↦ rw (v.closing-is, v.if-sought.true) | else-sought v ↦ rw (v.closing-is, v.if-sought.false) ])) in
    let whole = gathering_answer (machine a.sought.settings a.masks.now) (segment_rules a.sought.settings a.sought.stop a.sought.closing) (paired a.specified.now a.bits.now) a.seeds.now a.earlier l.place l.count l.seeds e l.invariant in record { answer = whole.0; buffer = whole.1 }

pub bounds-seeds-count : goal.bounds-seeds-count
bounds-seeds-count c =
    let a = c.args in
    let l = c.loop-place in
    omega (arith, l.invariant.before, l.invariant.same, c.requires.lengths.2, c.requires.earlier.0, c.loop-place-test.true)

pub overflow_add-place : goal.overflow_add-place
overflow_add-place c =
    let a = c.args in
    let k = (reached (goal.at.overflow_add-place c).After-reach (elim c.if-sought.branch [ then-sought v ↦ rw (v.closing-is, v.if-sought.true) | else-sought v ↦ rw (v.closing-is, v.if-sought.false) ]) c.in-Some.longest c.in-Some.is).within in
    let n = slices_length (length a.masks.now) a.specified.now a.bits.now c.requires.slices in
    let h : length a.specified.now ≤ 2048 = c.requires.lengths.1 in
    search rules

pub loop-place-smaller : goal.loop-place-smaller
loop-place-smaller c =
    let k = (reached (goal.at.loop-place-smaller c).After-reach (elim c.if-sought.branch [ then-sought v ↦ rw (v.closing-is, v.if-sought.true) | else-sought v ↦ rw (v.closing-is, v.if-sought.false) ]) c.in-Some.longest c.in-Some.is).some in
    omega (arith, c.loop-place-test.true)

pub loop-place-preserved : goal.loop-place-preserved
loop-place-preserved c =
    let a = c.args in
    let l = c.loop-place in
    let r = c.in-Some.longest in
    let w = reached (goal.at.loop-place-preserved c).After-reach (elim c.if-sought.branch [ then-sought v ↦ rw (v.closing-is, v.if-sought.true) | else-sought v ↦ rw (v.closing-is, v.if-sought.false) ]) c.in-Some.longest c.in-Some.is in
    let n = slices_length (length a.masks.now) a.specified.now a.bits.now c.requires.slices in
    gathering_next (machine a.sought.settings a.masks.now) (segment_rules a.sought.settings a.sought.stop a.sought.closing) (paired a.specified.now a.bits.now) a.seeds.now a.earlier l.place l.count l.seeds (omega (arith, c.loop-place-test.true)) l.invariant r.slices r.seed w.some w.end w.within w.seed

pub returns : goal.returns
returns c =
    let a = c.args in
    let l = c.loop-place in
    let M = (machine a.sought.settings a.masks.now) in
    let R = (segment_rules a.sought.settings a.sought.stop a.sought.closing) in
    let set = (paired a.specified.now a.bits.now) in
    let n = slices_length (length a.masks.now) a.specified.now a.bits.now c.requires.slices in let w = gathering_answer M R set a.seeds.now a.earlier l.place l.count l.seeds (reach_end (ok M R set) (length set) (set-bounds M R set) l.place (omega (arith, c.loop-place-test.false))) l.invariant in record { answer = w.0; buffer = w.1 }
