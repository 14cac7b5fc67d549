-- `window_longest::reach` meets its contract. Assumes nothing.
use mathlib.Core.Path.{sym}
use Prim.Native.Nat.{ℕ}
use native.Mathlib.Omega.{arith}
use native.Mathlib.Nat.{suc-mul}
use lib.ListN.{length, length-replicate}
use Rattle.machine_register.proofs.Causes.{cells_within}
use Rattle.window_tables.proofs.Tables.{stop-rows}
use Rattle.window_longest.proofs.reach.Goals as goal

pub most_quiet-quiet-requires : goal.most_quiet-quiet-requires
most_quiet-quiet-requires c =
    let a = c.args in record {
      slices = c.requires.bits_value;
      table = omega (arith, suc-mul (length a.specified.now) (length a.masks.now), c.requires.tables_for.table.long);
      stops = (
        (cells_within a.sought.settings.cells a.sought.settings.taps c.requires.tables_for.register).1,
        stop-rows a.sought.settings a.masks.now a.sought.stop a.sought.pattern a.table.now a.stops.now (length a.specified.now) c.requires.tables_for,
      );
    }

pub slice_bounds-reach_with-end : goal.slice_bounds-reach_with-end
slice_bounds-reach_with-end c = sym (length-replicate {A = ℕ} _ 0)

pub slice_bounds-reach_with-end-2 : goal.slice_bounds-reach_with-end-2
slice_bounds-reach_with-end-2 c = sym (length-replicate {A = ℕ} _ 0)
