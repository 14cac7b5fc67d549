-- `search_pivot::close_up` meets its contract. Assumes nothing.
use mathlib.Core.Path.{◌∙◌, sym, ap, ◌≡◌}
use mathlib.Core.List.{map}
use Prim.Native.Nat.{ℕ, ◌+◌, ◌-◌}
use native.Mathlib.Omega.{arith}
use lib.ListN.{get_or, take, drop}
use lib.Seq.{sets}
use Rattle.search_pivot.proofs.Taking.{close-next, close_end}
use Rattle.search_pivot.specs.Pivot.{added}
use Rattle.search_pivot.proofs.close_up.Goals as goal

pub loop-next-preserved : goal.loop-next-preserved
loop-next-preserved c =
    let l = c.loop-next in
    let a = c.args in
    let g = added a.mask (get_or a.vectors.now a.place 0) in
    rw c.added.ensures (close-next g a.free l.vectors l.next (omega arith) (omega arith) (omega arith)) ∙ l.invariant

pub returns : goal.returns
returns c =
    let l = c.loop-next in
    let a = c.args in
    let g = added a.mask (get_or a.vectors.now a.place 0) in
    let e : a.place + 1 - 1 ≡ a.place = omega arith in
    sym (close_end g a.free l.vectors l.next (omega arith) (omega arith)) ∙ l.invariant
    ∙ ap (λ (p : ℕ). sets a.vectors.now p (map g (drop (a.place + 1) (take a.free a.vectors.now)))) e
