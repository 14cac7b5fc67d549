-- `text_entries::keep` meets its contract. Assumes nothing.
use mathlib.Core.Path.{sym}
use Rattle.text_keys.specs.Keys.{rank}
use Rattle.text_entries.specs.Flat.{words}
use Rattle.text_entries.proofs.Keeping.{keep_three, sets_out, past_out, past_in}
use Rattle.text_entries.proofs.keep.Goals as goal

pub returns-then-list-at : goal.returns-then-list-at
returns-then-list-at c = record { next = past_out _ _ c.if-list-at.true; list = sym (sets_out _ _ (words c.args.entry) c.if-list-at.true) }

pub returns : goal.returns
returns c = record { next = past_in _ _ c.if-list-at.false; list = rw (c.store-3.ensures, c.store-2.ensures, c.store.ensures, c.rank.ensures) (keep_three c.args.list.now c.args.at (rank c.args.entry.key) c.args.entry.first c.args.entry.second) }
