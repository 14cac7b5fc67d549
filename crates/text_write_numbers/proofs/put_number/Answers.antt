-- `text_write_numbers::put_number` meets its contract. The digits stand at the end of the array, and the part from the first on is stored.
-- Assumes nothing.
use mathlib.Core.Path.{◌∙◌}
use Rattle.text_write_numbers.proofs.Digits.{digits-taken}
use Rattle.text_write_numbers.proofs.put_number.Goals as goal

pub put-requires : goal.put-requires
put-requires c =
    let s = c.numeral-i in
    rw (digits-taken s.new.digits s.result s.auto.digits ∙ s.ensures.1) c.requires.2

pub returns : goal.returns
returns c =
    let s = c.numeral-i in
    rw (← (digits-taken s.new.digits s.result s.auto.digits ∙ s.ensures.1)) c.put.ensures
