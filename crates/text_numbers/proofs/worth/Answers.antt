-- `text_numbers::worth` meets its contract. Assumes nothing.
use mathlib.Core.Bool.{false}
use mathlib.Core.Path.{◌≡◌}
use Prim.Native.Nat.{◌≤◌}
use native.Mathlib.Omega.{arith}
use Rattle.std.proofs.lemmas.Grind.{common_steps}
use Rattle.words_bounded.specs.Bounded.{within}
use Rattle.words_bounded.proofs.Tests.{fails, within_yes, within_holds}
use Rattle.text_numbers.specs.Numbers.{worth}
use Rattle.text_numbers.proofs.worth.Goals as goal
use Rattle.text_numbers.proofs.worth.Goals.{Else-contains}

no_digit : (c : Else-contains) → within 48 57 c.args.b ≡ false
no_digit c = fails _ (λ t. let w = within_yes 48 57 c.args.b t in grind (arith, common_steps))

pub returns-then-contains : goal.returns-then-contains
unfolding worth
returns-then-contains c =
    let low : 48 ≤ c.args.b = grind (arith, common_steps) in
    let high : c.args.b ≤ 57 = grind (arith, common_steps) in
    rw (within_holds 48 57 c.args.b low high, worth)

pub returns-then-contains-2 : goal.returns-then-contains-2
unfolding worth
returns-then-contains-2 c =
    let low : 97 ≤ c.args.b = grind (arith, common_steps) in
    let high : c.args.b ≤ 102 = grind (arith, common_steps) in
    rw (no_digit (goal.at.returns-then-contains-2 c).Else-contains, within_holds 97 102 c.args.b low high, worth) (omega arith)

pub returns-else-contains-2 : goal.returns-else-contains-2
unfolding worth
returns-else-contains-2 c =
    let no_letter : within 97 102 c.args.b ≡ false = fails _ (λ t. let w = within_yes 97 102 c.args.b t in grind (arith, common_steps)) in
    rw (no_digit (goal.at.returns-else-contains-2 c).Else-contains, no_letter, worth)
