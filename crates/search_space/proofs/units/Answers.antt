-- `search_space::units` meets its contract. Assumes nothing.
use mathlib.Core.Path.{◌∙◌, subst, sym, ◌≡◌, refl}
use Prim.Native.Nat.{ℕ}
use native.Mathlib.Omega.{arith}
use lib.ListN.{take}
use lib.Seq.{take_all}
use Rattle.search_space.proofs.AllStates.{units-next}
use Rattle.search_space.specs.Space.{units}
use Rattle.search_space.proofs.units.Goals as goal

pub loop-cell-init : goal.loop-cell-init
unfolding units
loop-cell-init c = refl

pub loop-cell-preserved : goal.loop-cell-preserved
loop-cell-preserved c =
    let l = c.loop-cell in
    units-next l.vector-items l.cell (omega arith) (omega arith) l.invariant

pub returns : goal.returns
returns c =
    let l = c.loop-cell in
    let e : l.cell ≡ 64 = omega arith in
    sym (take_all 64 l.vector-items (omega arith)) ∙ subst (λ (n : ℕ). take n l.vector-items ≡ units 0 n) e l.invariant
