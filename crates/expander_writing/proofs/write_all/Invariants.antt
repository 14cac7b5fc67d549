-- `expander_writing::write_all` meets its contract: the slices of the seeds passed are written, and those of the rest complete them. Assumes nothing.
use mathlib.Core.Path.{◌≡◌}
use mathlib.Core.List.{List}
use Prim.Native.Nat.{ℕ, ◌≤◌}
use lib.ListN.{length}
use Rattle.machine_settings.specs.Machine.{machine}
use Rattle.theory_covering.specs.Rules.{rules}
use Rattle.expander_meaning.specs.Expanding.{ran, walk}
use Rattle.expander_writing.proofs.Filling.{Filled}
use Rattle.expander_writing.proofs.write_all.Given as goal

abbrev pub invariant-loop-seed : goal.invariant-loop-seed
invariant-loop-seed l = ((vs : List ℕ) → walk (machine l.expander.settings l.expander.masks.now) (rules l.expander.settings l.expander.stop) l.slices 0 0 l.seeds ≡ ran vs → length vs ≡ l.slices → Filled l.expander.settings l.expander.masks.now l.expander.stop l.seeds l.slices vs l.initial.out l.seed-index l.at l.out) × (l.at ≤ l.slices) × (length l.out ≡ length l.initial.out)
