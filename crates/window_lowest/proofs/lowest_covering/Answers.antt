-- `window_lowest::lowest_covering` meets its contract. Assumes nothing.
use mathlib.Core.Path.{sym, ◌∙◌}
use Prim.Native.Nat.{suc}
use native.Mathlib.Omega.{arith}
use lib.ListN.{length}
use Rattle.machine_slices.proofs.Formed.{slice-formed, stop-slice}
use Rattle.search_rows.proofs.Reading.{row_fits}
use Rattle.window_tables.proofs.Tables.{stop-rows}
use Rattle.window_lowest.proofs.Seeds.{seed_shown_if, seed_rising_if, seed_lowest_if}
use Rattle.window_lowest.proofs.lowest_covering.Goals as goal

pub close-allowed-requires : goal.close-allowed-requires
close-allowed-requires c =
    let a = c.args in record { specified_bound = (slice-formed (length a.masks.now) a.sought.stop (stop-slice (length a.masks.now) a.sought.stop c.requires.ready.stop)).among; chains_in_bounds = row_fits (length a.specified.now) (suc (length a.specified.now)) (length a.masks.now) (length a.table.now) (omega arith) c.requires.ready.table.long }

pub force-requires : goal.force-requires
force-requires c =
    let a = c.args in
    stop-rows a.sought.settings a.masks.now a.sought.stop a.sought.pattern a.table.now a.stops.now (length a.specified.now) c.requires.ready

pub returns-in_err-forced : goal.returns-in_err-forced
returns-in_err-forced c =
    let a = c.args in
    let w = c.close-allowed in
    c.from_residual.ensures ∙ sym (seed_shown_if a.sought.settings a.masks.now a.sought.stop a.sought.pattern a.table.now a.stops.now a.specified.now a.bits.now c.requires.ready c.requires.slices a.sought.closing a.space a.vectors c.requires.met w.result w.new.vectors w.ensures c.force.new.vectors c.in_err-forced.ensures)

pub lowest_clear-requires : goal.lowest_clear-requires
lowest_clear-requires c =
    let a = c.args in
    let w = c.close-allowed in record { rising = seed_rising_if a.sought.settings a.masks.now a.sought.stop a.sought.pattern a.table.now a.stops.now a.specified.now a.bits.now c.requires.ready c.requires.slices a.sought.closing a.space a.vectors c.requires.met w.result w.new.vectors w.ensures c.force.new.vectors c.in_ok-forced.forced c.in_ok-forced.ensures; columns_in_bounds = stop-rows a.sought.settings a.masks.now a.sought.stop a.sought.pattern a.table.now a.stops.now (length a.specified.now) c.requires.ready }

pub returns : goal.returns
returns c =
    let a = c.args in
    let w = c.close-allowed in
    c.lowest_clear.ensures ∙ seed_lowest_if a.sought.settings a.masks.now a.sought.stop a.sought.pattern a.table.now a.stops.now a.specified.now a.bits.now c.requires.ready c.requires.slices a.sought.closing a.space a.vectors c.requires.met w.result w.new.vectors w.ensures c.force.new.vectors c.in_ok-forced.forced c.in_ok-forced.ensures
