-- `search_restrict::restrict` meets its contract. Assumes nothing.
use Rattle.std.specs.Prelude.{Some}
use mathlib.Core.Path.{◌≡◌, sym, ◌∙◌}
use lib.ListN.{take}
use Rattle.search_restrict.proofs.Restricting.{single_yes, single_no, single_left, restricted_yes, restricted_no}
use Rattle.search_restrict.proofs.restrict.Goals as goal

pub returns-then-odd-wanted : goal.returns-then-odd-wanted
returns-then-odd-wanted c =
    let a = c.args in
    let y = c.in_ok-space.space in
    let there : a.space ≡ Some y = c.in_ok-space.was in
    rw there record { answer = single_yes a.mask a.wanted a.vectors.now y c.if-space-eq0.true (sym c.odd.ensures ∙ c.if-odd-wanted.true); buffer = single_left a.mask a.wanted a.vectors.now y c.if-space-eq0.true }

pub returns-then-space-eq0 : goal.returns-then-space-eq0
returns-then-space-eq0 c =
    let a = c.args in
    let y = c.in_ok-space.space in
    let there : a.space ≡ Some y = c.in_ok-space.was in
    rw there record { answer = single_no a.mask a.wanted a.vectors.now y c.if-space-eq0.true (λ e. c.if-odd-wanted.false (c.odd.ensures ∙ e)); buffer = single_left a.mask a.wanted a.vectors.now y c.if-space-eq0.true }

pub returns-then-odd-wanted-2 : goal.returns-then-odd-wanted-2
returns-then-odd-wanted-2 c =
    let a = c.args in
    let y = c.in_ok-space.space in
    let there : a.space ≡ Some y = c.in_ok-space.was in
    let t = c.take_out-taken in
    let x = c.shifted-lowest in
    rw there record { answer = restricted_no a.mask a.wanted (take y.free a.vectors.now) y t.result x.result t.ensures.answer x.ensures (λ e. c.if-odd-wanted-2.true (c.odd-2.ensures ∙ e)); buffer = t.ensures.buffer }

pub returns : goal.returns
returns c =
    let a = c.args in
    let y = c.in_ok-space.space in
    let there : a.space ≡ Some y = c.in_ok-space.was in
    let t = c.take_out-taken in
    let x = c.shifted-lowest in
    rw there record { answer = restricted_yes a.mask a.wanted (take y.free a.vectors.now) y t.result x.result t.ensures.answer x.ensures (sym c.odd-2.ensures ∙ c.if-odd-wanted-2.false); buffer = t.ensures.buffer }
