-- `machine_register::bad_register` meets its contract. Assumes nothing.
use Prim.Native.Nat.{ℕ}
use lib.Dec.{eqb}
use mathlib.Core.Path.{sym, ap, ◌∙◌}
use Rattle.words_bounded.proofs.Tests.{within_yes}
use Rattle.machine_register.proofs.Causes.{register_range, register_beyond, register_last}
use Rattle.machine_register.proofs.bad_register.Goals as goal

pub returns-then-not-within : goal.returns-then-not-within
returns-then-not-within c = sym (register_range _ _ (sym c.within.ensures ∙ c.if-not-within.true))

pub returns-then-beyond : goal.returns-then-beyond
returns-then-beyond c =
    sym (register_beyond _ _ (sym c.within.ensures ∙ c.if-not-within.false) (sym c.beyond.ensures ∙ c.if-beyond.true))

pub overflow_sub-cells : goal.overflow_sub-cells
overflow_sub-cells c = (within_yes 1 64 _ (sym c.within.ensures ∙ c.if-not-within.false)).0

pub returns : goal.returns
returns c =
    ap (λ (d : ℕ). eqb d 0) c.digit.ensures
    ∙ sym (register_last _ _
    (sym c.within.ensures ∙ c.if-not-within.false)
    (sym c.beyond.ensures ∙ c.if-beyond.false))
