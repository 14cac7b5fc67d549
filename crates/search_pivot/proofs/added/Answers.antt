-- `search_pivot::added` meets its contract. Assumes nothing.
use mathlib.Core.Path.{sym, ◌∙◌, ◌≡◌}
use native.Mathlib.Omega.{arith}
use Rattle.words_gf2.specs.Words.{odd}
use Rattle.words_gf2.proofs.Parity.{odd_lt}
use Rattle.search_pivot.proofs.Pivot.{added_even, added-odd}
use Rattle.search_pivot.proofs.added.Goals as goal

pub returns-then-odd-eq1 : goal.returns-then-odd-eq1
returns-then-odd-eq1 c =
    let a = c.args in
    sym (added-odd a.mask a.pivot a.vector (sym c.odd.ensures ∙ c.if-odd-eq1.true))

pub returns-else-odd-eq1 : goal.returns-else-odd-eq1
returns-else-odd-eq1 c =
    let a = c.args in
    let z : odd a.vector a.mask ≡ 0 = omega (arith, odd_lt a.vector a.mask) in
    sym (added_even a.mask a.pivot a.vector z)
