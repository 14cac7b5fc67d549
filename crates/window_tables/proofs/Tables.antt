-- The tables that a call fills, as the search relies on them.
--     table-room           the most entries of a table suffice
--     tables_filled        both tables, filled
--     tables_fewer         tables of more rows serve fewer
--     stop-rows            the stop's table has a row for each slice
-- Assumes nothing.
use mathlib.Core.Path.{◌≡◌, ap}
use mathlib.Core.Bool.{false}
use mathlib.Core.List.{List, ◌++◌}
use Prim.Native.Nat.{ℕ, suc, ◌*◌, ◌≤◌}
use native.Mathlib.Nat.{suc-mul, mul-le-mul_left, mul-le-mul_right, lt_of_lt_of_le}
use native.Mathlib.Omega.{arith}
use lib.ListN.{length, length-append}
use Rattle.machine_settings.specs.declared.Settings.{Settings}
use Rattle.machine_settings.specs.Machine.{none_inverted}
use Rattle.machine_register.specs.Register.{bad_register}
use Rattle.machine_chains.specs.Chains.{bad_chains}
use Rattle.machine_slices.specs.declared.TestSlice.{TestSlice}
use Rattle.machine_slices.specs.Slices.{bad_stop}
use Rattle.search_rows.specs.declared.Pattern.{Pattern}
use Rattle.search_table.specs.Rows.{rows_of}
use Rattle.search_table.specs.Chosen.{chosen}
use Rattle.search_table.proofs.Pulling.{rows-length, rows_row}
use Rattle.window_tables.specs.Tables.{pattern_of, Tabled, Tables}

pub table-room : (r c : ℕ) → r ≤ 257 → c ≤ 64 → r * c ≤ 16448
table-room r c h l = omega (arith, mul-le-mul_left {m = c} {n = 64} r l)

tabled_rows : (taps n : ℕ) (masks rest table : List ℕ) → table ≡ rows_of taps n masks ++ rest → Tabled taps n masks table
tabled_rows taps n masks rest table e = record {
  long = omega (arith, ap length e, length-append (rows_of taps n masks) rest, rows-length taps n masks);
  rows = λ t h. rw e (rows_row taps n t masks rest h);
}

pub tables_filled : (g : Settings) (masks : List ℕ) (stop : TestSlice) (p : Pattern) (table stops rest more : List ℕ) (n : ℕ)
    → bad_register g.cells g.taps ≡ false → bad_chains g.cells masks ≡ false → g.invert ≡ none_inverted → bad_stop (length masks) stop ≡ false
    → p ≡ pattern_of stop masks → table ≡ rows_of g.taps n masks ++ rest → stops ≡ rows_of g.taps n (chosen stop.specified masks) ++ more
    → Tables g masks stop p table stops n
tables_filled g masks stop p table stops rest more n register chains upright formed pattern t c = record {
  register = register;
  chains = chains;
  upright = upright;
  stop = formed;
  pattern = pattern;
  table = tabled_rows g.taps n masks rest table t;
  stops = tabled_rows g.taps n (chosen stop.specified masks) more stops c;
}

tabled_fewer : (taps m n : ℕ) (masks table : List ℕ) → m ≤ n → Tabled taps n masks table → Tabled taps m masks table
tabled_fewer taps m n masks table h t = record {
  long = omega (arith, mul-le-mul_right {m = m} {n = n} (length masks) h, t.long);
  rows = λ k l. t.rows k (lt_of_lt_of_le l h);
}

pub tables_fewer : (g : Settings) (masks : List ℕ) (stop : TestSlice) (p : Pattern) (table stops : List ℕ) (m n : ℕ) → m ≤ n
    → Tables g masks stop p table stops n → Tables g masks stop p table stops m
tables_fewer g masks stop p table stops m n h r = record {
  register = r.register;
  chains = r.chains;
  upright = r.upright;
  stop = r.stop;
  pattern = r.pattern;
  table = tabled_fewer g.taps m n masks table h r.table;
  stops = tabled_fewer g.taps m n _ stops h r.stops;
}

pub stop-rows : (g : Settings) (masks : List ℕ) (stop : TestSlice) (p : Pattern) (table stops : List ℕ) (n : ℕ) → Tables g masks stop p table stops (suc n) → n * p.columns ≤ length stops
stop-rows g masks stop p table stops n r =
    let e = ap (λ (q : Pattern). q.columns) r.pattern in
    rw e (omega (arith, suc-mul n (length (chosen stop.specified masks)), r.stops.long))
