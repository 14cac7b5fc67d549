-- The bounds as numbers.
--     lines_value, enough-value, text_value     2,119 lines, 169,601 bytes that decide how a text is read, and 145,408 bytes that are written at most
-- Assumes nothing.
use mathlib.Core.Path.{◌≡◌, refl}
use Rattle.text_keys.specs.Keys.{rows, row_at, name, notation, most}
use Rattle.text_bounds.specs.Bounds.{sequence, sum_of, total, most_lines, longest_of, longest_line, enough, widest, most_text}

pub lines_value : most_lines ≡ 2119
unfolding most_lines total sum_of sequence most row_at rows
lines_value = refl

pub enough-value : enough ≡ 169601
unfolding enough longest_line longest_of total sum_of sequence most row_at rows
enough-value = refl

pub text_value : most_text ≡ 145408
unfolding most_text widest total sum_of sequence most row_at rows name notation
text_value = refl
