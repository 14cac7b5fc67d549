-- `search_lanes::reading` meets its contract. Assumes nothing.
use borrow.Author.Rules.{rules}
use native.Mathlib.Omega.{arith}
use mathlib.Core.Path.{◌≡◌, ap, ◌∙◌}
use Prim.Native.Nat.{ℕ, ◌*◌, min}
use lib.ListN.{length, take, get_or}
use Rattle.words_bounded.proofs.Front.{take-lesser}
use Rattle.words_gf2.specs.Words.{odd}
use Rattle.words_gf2.proofs.Parity.{odd_lt}
use Rattle.search_members.specs.Members.{pick}
use Rattle.search_lanes.specs.Lanes.{readings}
use Rattle.search_lanes.proofs.Lanes.{lanes_start, lanes_next, word_is}
use Rattle.search_lanes.proofs.reading.Goals as goal

pub only-word-requires : goal.only-word-requires
only-word-requires c = let a = c.args in omega (arith, odd_lt a.lowest a.mask, c.odd.ensures)

pub loop-place-init : goal.loop-place-init
loop-place-init c =
    let a = c.args in
    lanes_start a.lowest a.vectors.now a.mask c.only-word.result (c.only-word.ensures ∙ ap (λ (n : ℕ). 18446744073709551615 * n) c.odd.ensures)

pub only-word-requires-in-loop-place : goal.only-word-requires-in-loop-place
only-word-requires-in-loop-place c =
    let a = c.args in
    omega (arith, odd_lt (get_or a.vectors.now c.loop-place.place 0) a.mask, c.odd-in-loop-place.ensures)

pub loop-place-preserved : goal.loop-place-preserved
loop-place-preserved c =
    let a = c.args in
    let l = c.loop-place in
    lanes_next a.lowest a.vectors.now a.mask l.place l.word c.only-word-in-loop-place.result c.digits.result c.odd-in-loop-place.result (omega arith) c.digits.ensures c.only-word-in-loop-place.ensures c.odd-in-loop-place.ensures l.invariant

pub returns : goal.returns
unfolding readings
returns c =
    let a = c.args in
    let l = c.loop-place in
    let e : l.place ≡ min 6 (length a.vectors.now) = omega arith in
    let t : take l.place a.vectors.now ≡ take 6 a.vectors.now = ap (λ (n : ℕ). take n a.vectors.now) e ∙ take-lesser 6 a.vectors.now in
    word_is (λ i. odd (pick a.lowest (take 6 a.vectors.now) i) a.mask) (λ i. odd_lt _ a.mask) l.word (search rules) (λ i h. l.invariant i h ∙ rw t)
