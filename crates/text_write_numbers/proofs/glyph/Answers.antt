-- `text_write_numbers::glyph` meets its contract. The byte of a digit goes by whether the digit is below ten.
-- Assumes nothing.
use native.Mathlib.Omega.{arith}
use borrow.Author.Tests.{lt-ltb, le-ltb}
use Rattle.text_write_numbers.specs.Numerals.{glyph}
use Rattle.text_write_numbers.proofs.glyph.Goals as goal

pub returns-then-d-lt10 : goal.returns-then-d-lt10
unfolding glyph
returns-then-d-lt10 c = rw (lt-ltb _ _ c.if-d-lt10.true, glyph) (omega arith)

pub returns-else-d-lt10 : goal.returns-else-d-lt10
unfolding glyph
returns-else-d-lt10 c = rw (le-ltb _ _ c.if-d-lt10.false, glyph) (omega arith)
