-- `search_table::pack` meets its contract. Assumes nothing.
use mathlib.Core.Path.{◌≡◌}
use Prim.Native.Nat.{◌-◌, ◌/◌, ◌^◌}
use Rattle.search_table.specs.Chosen.{packed}
use Rattle.search_table.proofs.pack.Given as goal

abbrev pub invariant-loop-position : goal.invariant-loop-position
invariant-loop-position l = l.word ≡ packed (l.specified / 2 ^ l.position) (l.bits / 2 ^ l.position) (l.initial.position - l.position)
