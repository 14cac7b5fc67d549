-- `text_numbers::number` meets its contract. Out of form by its length or by a leading zero; otherwise its digits.
-- Assumes nothing.
use mathlib.Core.Bool.{true}
use mathlib.Core.Logic.{inl, inr}
use mathlib.Core.Path.{◌≡◌, sym, ◌∙◌}
use Prim.Native.Nat.{◌≤◌}
use native.Mathlib.Nat.{pow-le-pow_right, le_trans}
use native.Mathlib.Omega.{arith}
use lib.ListN.{length}
use Rattle.std.proofs.lemmas.Grind.{common_steps}
use Rattle.words_bounded.specs.Bounded.{within}
use Rattle.words_bounded.proofs.Tests.{fails, within_yes, within_holds}
use Rattle.text_numbers.proofs.Numerals.{zero_leads, no_zero_leads, number-length, number_zero, number_digits}
use Rattle.text_numbers.proofs.number.Goals as goal
use Rattle.text_numbers.proofs.number.Goals.{Else-not-contains, else-value-gt1-via-then-value-gt1+else-value-eq48, else-value-gt1-via-else-value-gt1}

-- Beyond the first test the length is one of 1 to the most.
fits : (c : Else-not-contains) → (1 ≤ length c.args.value.now) × (length c.args.value.now ≤ c.args.most)
fits c = (grind (arith, common_steps), grind (arith, common_steps))

inside : (c : Else-not-contains) → within 1 c.args.most (length c.args.value.now) ≡ true
inside c = let f = fits c in within_holds 1 _ _ f.0 f.1

pub returns-then-not-contains : goal.returns-then-not-contains
returns-then-not-contains c =
    sym (number-length _ _ _ (fails _ (λ t. let w = within_yes 1 c.args.most (length c.args.value.now) t in grind (arith, common_steps))))

pub returns-then-value-eq48 : goal.returns-then-value-eq48
returns-then-value-eq48 c =
    sym (number_zero _ _ _ (inside (goal.at.returns-then-value-eq48 c).Else-not-contains) (zero_leads _ c.if-value-gt1.true c.if-value-eq48.true))

pub digits-requires : goal.digits-requires
digits-requires c =
    let pre = c.requires in
    let f = fits (goal.at.digits-requires c).Else-not-contains in
    (pre.0, le_trans (pow-le-pow_right pre.0 f.1) pre.1)

pub returns : goal.returns
returns c =
    let w = inside (goal.at.returns c).Else-not-contains in
    c.digits.ensures ∙ sym (number_digits _ _ _ w (no_zero_leads _ (elim c.else-value-gt1.branch [ else-value-gt1-via-then-value-gt1+else-value-eq48 w ↦ inr w.if-value-eq48.false | else-value-gt1-via-else-value-gt1 w ↦ inl w.if-value-gt1.false ])))
