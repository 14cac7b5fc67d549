-- `search_members::member` meets its contract. Assumes nothing.
use mathlib.Core.Path.{◌≡◌, sym, ap, ◌∙◌}
use mathlib.Core.List.{List}
use Prim.Native.Nat.{ℕ}
use native.Mathlib.Omega.{arith}
use lib.ListN.{take}
use Rattle.words_bounded.proofs.Front.{take-lesser}
use Rattle.search_members.specs.Members.{pick}
use Rattle.search_members.proofs.Numbers.{number-take, number_skip, number_done}
use Rattle.search_members.proofs.member.Goals as goal
use Rattle.search_members.proofs.member.Goals.{then-left-eq1, else-left-eq1}

pub loop-vector-preserved : goal.loop-vector-preserved
loop-vector-preserved c =
    let vs = take c.min-count.result c.args.vectors.now in
    let l = c.loop-vector in
    l.invariant ∙ elim c.if-left-eq1.branch [
      | then-left-eq1 w ↦ rw w.state-is (number-take vs l.state l.left l.vector-index (omega arith) w.if-left-eq1.true)
      | else-left-eq1 w ↦ rw w.state-is (number_skip vs l.state l.left l.vector-index (omega arith) w.if-left-eq1.false)
    ]

pub returns : goal.returns
returns c =
    let a = c.args in
    let l = c.loop-vector in
    let e : take c.min-count.result a.vectors.now ≡ take a.free a.vectors.now = ap (λ (n : ℕ). take n a.vectors.now) c.min-count.ensures ∙ take-lesser a.free a.vectors.now in
    sym (number_done (take c.min-count.result a.vectors.now) l.state l.left l.vector-index (omega arith)) ∙ sym l.invariant ∙ ap (λ (vs : List ℕ). pick a.lowest vs a.number) e
