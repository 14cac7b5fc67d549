-- `text_ending::end_of` meets its contract. Assumes nothing.
use Rattle.std.specs.Prelude.{Err}
use mathlib.Core.Path.{sym, ap, ◌∙◌}
use Rattle.text_ending.proofs.Ends.{end_whole, end_early}
use Rattle.text_ending.proofs.end_of.Goals as goal

pub returns-then-may_end : goal.returns-then-may_end
returns-then-may_end c = sym (end_whole _ _ _ (sym c.may_end.ensures ∙ c.if-may_end.true))

pub returns-else-may_end : goal.returns-else-may_end
returns-else-may_end c =
    ap Err c.refused_at.ensures ∙ sym (end_early _ _ _ (sym c.may_end.ensures ∙ c.if-may_end.false))
