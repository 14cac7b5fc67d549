-- `text_characters::slice_of` meets its contract. The invariant: the characters that were read say the slice so far, whose numbers have a digit for each.
-- Assumes nothing.
use mathlib.Core.Path.{◌≡◌, sym, ◌∙◌}
use mathlib.Core.List.{[], ◌∷◌, ◌++◌}
use Prim.Native.Nat.{◌+◌, ◌-◌, ◌<◌}
use native.Mathlib.Nat.{sub-zero}
use native.Mathlib.Omega.{arith}
use lib.ListN.{length, get_or, length-append}
use lib.Pow.{pow_pos}
use Rattle.std.proofs.lemmas.List.{length-reverse}
use Rattle.std.proofs.lemmas.Iterator.Adapters.{YieldsList-from_rev_slice}
use Rattle.std.proofs.lemmas.Iterator.Consumers.{YieldsList-turn, YieldsList-end}
use Rattle.text_characters.proofs.Slices.{slice-start, slice_go, slice-none, slice_end, specified_lt, bit_lt, slice_fits, from_last}
use Rattle.text_characters.proofs.slice_of.Goals as goal
use Rattle.text_characters.proofs.slice_of.Goals.{In-Some, In-None}

pub loop-b-init : goal.loop-b-init
loop-b-init c = (omega arith, rw sub-zero (slice-start c.args.value.now), pow_pos 0, pow_pos 0)

-- The character of this iteration.
turn : (c : In-Some) → (length c.loop-b.yielded < length c.args.value.now) × (c.in-Some.field-0.now ≡ get_or c.args.value.now (length c.args.value.now - length c.loop-b.yielded - 1) 0)
turn c =
    let l = c.args.value.now in
    let t = YieldsList-turn (YieldsList-from_rev_slice {s = c.into_iter-b-iterator.result} l cc) c.loop-b.yielded _ c.loop-b.yielded_by _ _ _ c.in-Some.is c.next.ensures.steps in
    from_last l _ _ t.0 t.1

pub returns-then-not-is_character : goal.returns-then-not-is_character
returns-then-not-is_character c =
    let t = turn (goal.at.returns-then-not-is_character c).In-Some in
    sym (slice-none _ _ _ _ _ t.0 t.1 c.loop-b.invariant.1 (sym c.is_character.ensures ∙ c.if-not-is_character.true))

pub overflow_add-specified : goal.overflow_add-specified
overflow_add-specified c =
    let t = turn (goal.at.overflow_add-specified c).In-Some in
    let w = c.loop-b.invariant in
    record { fits = rw c.specified_at.ensures (slice_fits _ _ _ (omega arith) w.2 (specified_lt _)).1 }

pub overflow_add-bits : goal.overflow_add-bits
overflow_add-bits c =
    let t = turn (goal.at.overflow_add-bits c).In-Some in
    let w = c.loop-b.invariant in
    record { fits = rw c.bit_at.ensures (slice_fits _ _ _ (omega arith) w.3 (bit_lt _)).1 }

pub loop-b-preserved : goal.loop-b-preserved
loop-b-preserved c =
    let t = turn (goal.at.loop-b-preserved c).In-Some in
    let w = c.loop-b.invariant in
    let more : length (c.loop-b.yielded ++ c.in-Some.field-0 ∷ []) ≡ length c.loop-b.yielded + 1 = length-append c.loop-b.yielded (c.in-Some.field-0 ∷ []) in
    rw (more, c.bit_at.ensures, c.specified_at.ensures) (omega arith, slice_go _ _ _ _ _ t.0 t.1 w.1 (sym c.is_character.ensures ∙ c.if-not-is_character.false), (slice_fits _ _ _ (omega arith) w.2 (specified_lt _)).0, (slice_fits _ _ _ (omega arith) w.3 (bit_lt _)).0)

pub returns : goal.returns
returns c =
    let l = c.args.value.now in
    let all = YieldsList-end (YieldsList-from_rev_slice {s = c.into_iter-b-iterator.result} l cc) c.loop-b.yielded _ c.loop-b.yielded_by _ _ c.in-None.is c.next.ensures.steps in
    sym (slice_end l _ _ _ (all.1 ∙ length-reverse l) c.loop-b.invariant.1)
