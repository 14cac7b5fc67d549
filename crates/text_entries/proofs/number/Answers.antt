-- `text_entries::number` meets its contract. Assumes nothing.
use Rattle.text_entries.specs.Said.{picked}
use Rattle.text_entries.specs.Flat.{entries_in}
use Rattle.text_entries.proofs.Keeping.{one_front}
use Rattle.text_entries.proofs.number.Goals as goal

pub returns : goal.returns
returns c =
    let a = c.args in
    rw c.numbers.ensures.list (one_front a.absent (picked a.key a.part (entries_in a.entries.now)))
