-- `expander_run::looked_at` meets its contract. Assumes nothing.
use mathlib.Core.Path.{◌≡◌, sym, ◌∙◌}
use Prim.Native.Nat.{max}
use native.Mathlib.Numerals.{add-one}
use native.Mathlib.Omega.{arith}
use Rattle.expander_run.proofs.Looking.{looked_open, looked_closed}
use Rattle.expander_run.proofs.looked_at.Goals as goal

pub returns-then-not-unclosed : goal.returns-then-not-unclosed
returns-then-not-unclosed c = add-one _ ∙ sym (looked_closed _ _ _ c.if-not-unclosed.true)

pub returns-then-left-eq0 : goal.returns-then-left-eq0
returns-then-left-eq0 c = let z : 1 ≡ max 1 c.args.left = omega arith in z ∙ sym (looked_open _ _ _ c.if-not-unclosed.false)

pub returns : goal.returns
returns c = let z : c.args.left ≡ max 1 c.args.left = omega arith in z ∙ sym (looked_open _ _ _ c.if-not-unclosed.false)
