-- `text_key_of::key_of` meets its contract. The invariant: the key with which the line begins is the one among the rows that are left. Assumes nothing.
use Rattle.std.specs.Prelude.{Some}
use mathlib.Core.Path.{sym, ap, ◌∙◌}
use native.Mathlib.Omega.{arith}
use Rattle.text_key_of.proofs.Naming.{key_here, key_go, key_end}
use Rattle.text_key_of.proofs.key_of.Goals as goal

pub begins-requires : goal.begins-requires
begins-requires c = omega arith

pub spelling_at-spelling-requires : goal.spelling_at-spelling-requires
spelling_at-spelling-requires c = omega arith

pub returns-then-begins : goal.returns-then-begins
returns-then-begins c =
    ap (λ r. Some r.0) c.spelling_at-spelling.ensures ∙ sym (key_here _ c.loop-i.i (omega arith) (sym c.begins.ensures ∙ c.if-begins.true)) ∙ c.loop-i.invariant

pub loop-i-preserved : goal.loop-i-preserved
loop-i-preserved c =
    sym (key_go _ c.loop-i.i (omega arith) (sym c.begins.ensures ∙ c.if-begins.false)) ∙ c.loop-i.invariant

pub returns : goal.returns
returns c = sym (key_end _ c.loop-i.i (omega arith)) ∙ c.loop-i.invariant
