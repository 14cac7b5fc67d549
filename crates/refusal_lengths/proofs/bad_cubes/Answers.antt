-- `refusal_lengths::bad_cubes` meets its contract. Assumes nothing.
use mathlib.Core.Path.{sym, ◌∙◌}
use Rattle.refusal_lengths.proofs.Lengths.{cubes_depth, cubes_slices, cubes_rest}
use Rattle.words_bounded.proofs.Tests.{within_yes}
use Rattle.refusal_lengths.proofs.bad_cubes.Goals as goal

pub returns-then-not-within : goal.returns-then-not-within
returns-then-not-within c = sym (cubes_depth _ _ (sym c.within.ensures ∙ c.if-not-within.true))

pub returns-then-bad_set : goal.returns-then-bad_set
returns-then-bad_set c =
    sym (cubes_slices _ _ (sym c.within.ensures ∙ c.if-not-within.false) (sym c.bad_set.ensures ∙ c.if-bad_set.true))

pub returns : goal.returns
returns c =
    sym (cubes_rest _ _ (sym c.within.ensures ∙ c.if-not-within.false) (sym c.bad_set.ensures ∙ c.if-bad_set.false))

pub nonzero_rem-result : goal.nonzero_rem-result
nonzero_rem-result c = (within_yes 1 256 _ (sym c.within.ensures ∙ c.if-not-within.false)).0
