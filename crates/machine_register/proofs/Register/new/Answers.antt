-- `machine_register::Register::new` meets its contract. Assumes nothing.
use mathlib.Core.Path.{sym, ◌∙◌}
use Rattle.machine_register.specs.Register.{made_of}
use Rattle.machine_register.proofs.Register.new.Goals as goal

pub returns-then-bad_register : goal.returns-then-bad_register
unfolding made_of
returns-then-bad_register c = rw (sym c.bad_register.ensures ∙ c.if-bad_register.true, made_of)

pub returns : goal.returns
unfolding made_of
returns c = rw (sym c.bad_register.ensures ∙ c.if-bad_register.false, made_of)
