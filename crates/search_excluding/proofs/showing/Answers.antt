-- `search_excluding::showing` meets its contract. Assumes nothing.
use native.Mathlib.Omega.{arith}
use mathlib.Core.Path.{refl}
use Prim.Native.Nat.{◌+◌, ◌*◌}
use Rattle.words_gf2.proofs.Digits.{digit-none}
use Rattle.search_excluding.proofs.Excluding.{showing-start, showing-next}
use Rattle.search_excluding.proofs.showing.Goals as goal

pub returns-then-columns-eq2 : goal.returns-then-columns-eq2
returns-then-columns-eq2 c =
    let a = c.args in
    let two = showing-start a.words.now a.first a.group _ _ c.lanes_of.ensures c.lanes_of-2.ensures in
    rw c.if-columns-eq2.true two

pub loop-column-init : goal.loop-column-init
loop-column-init c =
    let a = c.args in
    showing-next a.words.now a.first a.group _ 2 (a.first + 4) _ (omega arith) (showing-start a.words.now a.first a.group _ _ c.lanes_of.ensures c.lanes_of-2.ensures) c.lanes_of-3.ensures

pub returns-then-lanes-eq0 : goal.returns-then-lanes-eq0
returns-then-lanes-eq0 c = λ i h e. absurd (omega (arith, digit-none i))

pub loop-column-preserved : goal.loop-column-preserved
loop-column-preserved c =
    let a = c.args in
    let l = c.loop-column in
    showing-next a.words.now a.first a.group l.lanes l.column (a.first + l.column * 2) _ refl l.invariant c.lanes_of-lanes.ensures

pub returns : goal.returns
returns c = let l = c.loop-column in λ i h e j b. l.invariant i h e j (omega arith)
