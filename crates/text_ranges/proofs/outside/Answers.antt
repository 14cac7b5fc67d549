-- `text_ranges::outside` meets its contract. Assumes nothing.
use Rattle.text_ranges.specs.Ranges.{outside}
use Rattle.text_ranges.proofs.outside.Goals as goal

pub returns-in-Between : goal.returns-in-Between
unfolding outside
returns-in-Between c = rw (c.in-Between.is, c.within.ensures)

pub returns-in-Taps : goal.returns-in-Taps
unfolding outside
returns-in-Taps c = rw c.in-Taps.is c.bad_register.ensures

pub returns-in-Mask : goal.returns-in-Mask
unfolding outside
returns-in-Mask c = rw c.in-Mask.is c.bad_mask.ensures

pub returns-in-Inverted : goal.returns-in-Inverted
unfolding outside
returns-in-Inverted c = rw c.in-Inverted.is c.beyond.ensures

pub returns-in-Specified : goal.returns-in-Specified
unfolding outside
returns-in-Specified c = rw c.in-Specified.is

pub returns-in-Any : goal.returns-in-Any
unfolding outside
returns-in-Any c = rw c.in-Any.is
