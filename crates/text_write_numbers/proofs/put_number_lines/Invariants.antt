-- `text_write_numbers::put_number_lines` meets its contract. The invariant: the lines of the numbers that are left, stored from here on, give what all of them give.
-- Assumes nothing.
use lib.ListN.{drop}
use Rattle.text_write_numbers.specs.Lines.{number_lines}
use Rattle.text_write_bytes.proofs.Storing.{Left}
use Rattle.text_write_numbers.proofs.put_number_lines.Given as goal

abbrev pub invariant-loop-number : goal.invariant-loop-number
invariant-loop-number l = Left l.initial.out l.at (number_lines l.base l.key l.numbers) l.out l.place (number_lines l.base l.key (drop l.number-index l.numbers))
