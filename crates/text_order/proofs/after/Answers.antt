-- `text_order::after` meets its contract. Assumes nothing.
use mathlib.Core.Path.{ap, ◌∙◌}
use Rattle.text_keys.specs.Keys.{row_at}
use Rattle.text_keys.proofs.Table.{placed}
use Rattle.text_order.specs.Sets.{sets_of}
use Rattle.text_order.proofs.after.Goals as goal

pub after_at-sets-requires : goal.after_at-sets-requires
after_at-sets-requires c = rw c.rank.ensures (placed c.args.key).within

pub returns-in-Sheet : goal.returns-in-Sheet
returns-in-Sheet c =
    rw c.in-Sheet.is (ap (λ s. s.0) (c.after_at-sets.ensures ∙ ap (λ i. sets_of (row_at i).key) c.rank.ensures ∙ ap sets_of (placed c.args.key).key))

pub returns-in-SeedList : goal.returns-in-SeedList
returns-in-SeedList c =
    rw c.in-SeedList.is (ap (λ s. s.1) (c.after_at-sets.ensures ∙ ap (λ i. sets_of (row_at i).key) c.rank.ensures ∙ ap sets_of (placed c.args.key).key))
