-- Worked texts: one table, and one proof over it.
--     Question     a program and the bytes that it reads, or a call with so many bytes lent
--     Told         what the program prints, or what the call answers and leaves
--     answer       what the definitions answer
--     Row, table   the questions with what is told
--     answers, tolds     the two columns of a table
--     worked       the definitions answer what is told, in every row
use Rattle.std.specs.Prelude.{◌≡◌, refl, List, [], ◌∷◌, ◌++◌, ℕ, zero, suc, replicate}
use Prim.Native.String.{String}
use Rattle.std.specs.Int.Count.{ones, ones_in}
use Rattle.words_bounded.specs.Bounded.{within, any, least_below, last_below}
use Rattle.words_gf2.specs.Words.{digit, odd, beyond}
use Rattle.refusal_causes.specs.Outcome.{refuse, fill}
use Rattle.machine_register.specs.Register.{step, bad_register}
use Rattle.machine_chains.specs.Chains.{slice, bad_count, bad_mask, bad_chains}
use Rattle.machine_settings.specs.Machine.{bad_chains_of}
use Rattle.machine_slices.specs.Slices.{agrees, shows, paired, bad_slice, bad_slices, bad_stop}
use Rattle.refusal_lengths.specs.Lengths.{bad_limit, bad_set, bad_cubes, bad_list}
use Rattle.refusal_order.specs.Order.{tests, first_of, judged}
use Rattle.refusal_checks.specs.Calls.{limited, call_faults, cubes_faults, list_faults}
use Rattle.theory_cutting.specs.Greedy.{reach, hop, ends, greedy}
use Rattle.stop_steps.specs.Steps.{filter, count, better, choice, settle, keep, set_by, advance, stage, ended, steps, stop_for}
use Rattle.stop_spare.specs.Spare.{equals, taken, spare, spare_stop}
use Rattle.theory_covering.specs.Covering.{fits, quiet, covers, seed_of}
use Rattle.theory_covering.specs.Windows.{before, far, placed, closes, seed_at, ok}
use Rattle.expander_meaning.specs.Run.{slices_of, first_stop, ending, delivers}
use Rattle.expander_meaning.specs.Expanding.{after, adding, walk, totalled, expanding, expand_list}
use Rattle.encoder_meaning.specs.Encoding.{seeds_of, planned, encoding}
use Rattle.encoder_cubes.specs.Cubes.{stopped, with_stop, cubes_encoding, encode_cubes}
use Rattle.text_keys.specs.Bytes.{bytes}
use Rattle.text_key_of.specs.Begins.{starts, key_of}
use Rattle.text_keys.specs.Keys.{rows, row_at, name, notation, longest, most, range, cause, same}
use Rattle.text_numbers.specs.Numbers.{worth, digits, leading_zero, number}
use Rattle.text_characters.specs.Characters.{is_character, specified_at, bit_at, in_front, slice_of}
use Rattle.text_lines.specs.Form.{numbered, sliced, characters, valued, keyed, named, formed}
use Rattle.text_split.specs.Text.{split}
use Rattle.text_place.specs.Places.{run_of, moved}
use Rattle.text_order.specs.Order.{after as after_key, missing, may_stand, among, in_order, may_end}
use Rattle.text_ranges.specs.Ranges.{outside, out_of_range, tested, ranged, saying}
use Rattle.text_ending.specs.Ending.{end_of}
use Rattle.text_reading.specs.Reading.{reading, reading_of}
use Rattle.text_entries.specs.Said.{picked}
use Rattle.text_write_numbers.specs.Numerals.{glyph, last_digits, numeral}
use Rattle.text_write_characters.specs.Characters.{character, characters as characters_of, slice_line}
use Rattle.text_write_numbers.specs.Lines.{number_line, number_lines}
use Rattle.text_write_slices.specs.Slices.{slice_lines}
use Rattle.text_write_head.specs.Head.{chains_text, head_text}
use Rattle.text_write_list.specs.SeedList.{list_text}
use Rattle.text_write_refusal.specs.Refused.{refused_text}
use Rattle.text_encode_said.specs.Encoded.{list_reply, encoded}
use Rattle.text_expand_said.specs.Expanded.{slices_reply, expanded}
use Rattle.text_encode.specs.Sheet.{reply_under, sheet_reply}
use Rattle.text_expand.specs.List.{seed_list_reply}
use Rattle.text_calls.specs.Texts.{concluded, reply_to, printed_for, call_of, encode_text, encode_call, expand_text, expand_call}
use Rattle.text_replies.specs.Replies.{printed}
use Rattle.text_replies.specs.Calls.{TextOutcome, answered, called, written, refused_with, Answer}

pub data Question : Type 0 where
  encode : List ℕ → Question
  expand : List ℕ → Question
  encode_into : ℕ → List ℕ → Question
  expand_into : ℕ → List ℕ → Question

pub data Told : Type 0 where
  prints : List ℕ → Told
  leaves : Answer → List ℕ → Told

-- the lines of document 01's register R and its chains, and the text after them
abbrev R : String → List ℕ
R s = bytes "cells=3\ntaps=6\nchains=2\nchain=1\nchain=4\n" ++ bytes s

-- the same bytes n times
abbrev times : ℕ → List ℕ → List ℕ
times zero l = []
times (suc n) l = l ++ times n l

-- what n bytes of a lent buffer hold
abbrev old : ℕ → List ℕ
old n = replicate n 7

-- ---- what the definitions answer

of_call : TextOutcome → Told
of_call o = leaves o.answer o.buffer

answer : Question → Told
answer (encode s) = prints (encode_text s)
answer (expand s) = prints (expand_text s)
answer (encode_into n s) = of_call (encode_call s (old n))
answer (expand_into n s) = of_call (expand_call s (old n))

-- ---- the table

pub record Row : Type 0 where
  pub asked : Question
  pub told : Told

abbrev pub table : List Row
table =
    -- document 01's sheet, and its list expanded
    record { asked = encode (R "depth=2\nslice=10\nslice=x1\nslice=1x\nslice=1x\n"); told = prints (bytes "cells=3\ntaps=6\nchains=2\nchain=1\nchain=4\nstop=0x\nslices=4\nseed=3\nseed=3\n") }
    ∷ record { asked = expand (R "stop=0x\nslices=4\nseed=3\nseed=3\n"); told = prints (bytes "slice=10\nslice=11\nslice=10\nslice=11\n") }
    -- out of form: no line, an empty one, no line feed, an unknown key, a space
    ∷ record { asked = encode (bytes ""); told = prints (bytes "refused=13\nat=1\n") }
    ∷ record { asked = encode (bytes "\n"); told = prints (bytes "refused=13\nat=1\n") }
    ∷ record { asked = encode (bytes "cells=3"); told = prints (bytes "refused=13\nat=1\n") }
    ∷ record { asked = encode (bytes "cell=3\n"); told = prints (bytes "refused=13\nat=1\n") }
    ∷ record { asked = encode (bytes "cells= 3\n"); told = prints (bytes "refused=13\nat=1\n") }
    -- no digit, a leading zero, five decimal digits, an upper-case digit, seventeen hexadecimal digits
    ∷ record { asked = encode (bytes "cells=\n"); told = prints (bytes "refused=13\nat=1\n") }
    ∷ record { asked = encode (bytes "cells=03\n"); told = prints (bytes "refused=13\nat=1\n") }
    ∷ record { asked = encode (bytes "cells=10000\n"); told = prints (bytes "refused=13\nat=1\n") }
    ∷ record { asked = encode (bytes "cells=4\ntaps=A\n"); told = prints (bytes "refused=13\nat=2\n") }
    ∷ record { asked = encode (bytes "cells=64\ntaps=10000000000000000\n"); told = prints (bytes "refused=13\nat=2\n") }
    -- a slice of one character or of three for two chains, and another character
    ∷ record { asked = encode (R "depth=1\nslice=1\n"); told = prints (bytes "refused=13\nat=7\n") }
    ∷ record { asked = encode (R "depth=1\nslice=1x0\n"); told = prints (bytes "refused=13\nat=7\n") }
    ∷ record { asked = encode (R "depth=1\nslice=12\n"); told = prints (bytes "refused=13\nat=7\n") }
    -- out of order: taps first, a third mask, a list for a sheet, a sheet for a list
    ∷ record { asked = encode (bytes "taps=6\n"); told = prints (bytes "refused=13\nat=1\n") }
    ∷ record { asked = encode (R "chain=2\n"); told = prints (bytes "refused=13\nat=6\n") }
    ∷ record { asked = encode (R "stop=0x\n"); told = prints (bytes "refused=13\nat=6\n") }
    ∷ record { asked = expand (R "depth=2\n"); told = prints (bytes "refused=13\nat=6\n") }
    -- text that ends before taps, before a mask, before depth, before slices
    ∷ record { asked = encode (bytes "cells=3\n"); told = prints (bytes "refused=13\nat=2\n") }
    ∷ record { asked = encode (bytes "cells=3\ntaps=6\nchains=2\nchain=1\n"); told = prints (bytes "refused=13\nat=5\n") }
    ∷ record { asked = encode (R ""); told = prints (bytes "refused=13\nat=6\n") }
    ∷ record { asked = expand (R "stop=0x\n"); told = prints (bytes "refused=13\nat=7\n") }
    -- out of range: cells; taps without the last cell or beyond the cells
    ∷ record { asked = encode (bytes "cells=0\n"); told = prints (bytes "refused=1\nat=1\n") }
    ∷ record { asked = encode (bytes "cells=65\n"); told = prints (bytes "refused=1\nat=1\n") }
    ∷ record { asked = encode (bytes "cells=3\ntaps=3\n"); told = prints (bytes "refused=1\nat=2\n") }
    ∷ record { asked = encode (bytes "cells=3\ntaps=c\n"); told = prints (bytes "refused=1\nat=2\n") }
    -- chains; a mask 0 or beyond the cells
    ∷ record { asked = encode (bytes "cells=64\ntaps=8000000000000000\nchains=0\n"); told = prints (bytes "refused=2\nat=3\n") }
    ∷ record { asked = encode (bytes "cells=3\ntaps=6\nchains=65\n"); told = prints (bytes "refused=2\nat=3\n") }
    ∷ record { asked = encode (bytes "cells=3\ntaps=6\nchains=2\nchain=0\n"); told = prints (bytes "refused=2\nat=4\n") }
    ∷ record { asked = encode (bytes "cells=3\ntaps=6\nchains=2\nchain=1\nchain=8\n"); told = prints (bytes "refused=2\nat=5\n") }
    -- depth; a stop slice with no specified position; slices
    ∷ record { asked = encode (R "depth=0\n"); told = prints (bytes "refused=3\nat=6\n") }
    ∷ record { asked = encode (R "depth=257\n"); told = prints (bytes "refused=3\nat=6\n") }
    ∷ record { asked = expand (R "stop=xx\n"); told = prints (bytes "refused=5\nat=6\n") }
    ∷ record { asked = expand (R "stop=0x\nslices=0\n"); told = prints (bytes "refused=3\nat=7\n") }
    ∷ record { asked = expand (R "stop=0x\nslices=2049\n"); told = prints (bytes "refused=3\nat=7\n") }
    -- form and order come before range
    ∷ record { asked = encode (bytes "cells=065\n"); told = prints (bytes "refused=13\nat=1\n") }
    ∷ record { asked = encode (bytes "cells=3\ncells=65\n"); told = prints (bytes "refused=13\nat=2\n") }
    -- the 2,049th slice line; the 2,049th seed line out of form; 2,048 seed lines, of which the first seed is refused
    ∷ record { asked = encode (R "depth=1\n" ++ times 2049 (bytes "slice=xx\n")); told = prints (bytes "refused=3\nat=2055\n") }
    ∷ record { asked = expand (R "stop=0x\nslices=4\n" ++ (times 2048 (bytes "seed=8\n") ++ bytes "seed=8")); told = prints (bytes "refused=13\nat=2056\n") }
    ∷ record { asked = expand (R "stop=0x\nslices=4\n" ++ times 2048 (bytes "seed=8\n")); told = prints (bytes "refused=10\nat=0\n") }
    -- over the whole sheet: no slice line, depth does not divide, slices 0 and 1 of one chain, one of three slices can be cut
    ∷ record { asked = encode (R "depth=2\n"); told = prints (bytes "refused=3\nat=0\n") }
    ∷ record { asked = encode (R "depth=2\nslice=10\n"); told = prints (bytes "refused=3\nat=0\n") }
    ∷ record { asked = encode (bytes "cells=3\ntaps=6\nchains=1\nchain=1\ndepth=1\nslice=0\nslice=1\n"); told = prints (bytes "refused=6\nat=0\n") }
    ∷ record { asked = encode (R "depth=1\nslice=10\nslice=01\nslice=00\n"); told = prints (bytes "refused=8\nat=1\n") }
    -- the designer's six slices of R-1, document 02: the steps end with slices in, and 11 is spare
    ∷ record { asked = encode (bytes "cells=4\ntaps=9\nchains=2\nchain=1\nchain=8\ndepth=1\nslice=1x\nslice=1x\nslice=1x\nslice=10\nslice=00\nslice=01\n"); told = prints (bytes "cells=4\ntaps=9\nchains=2\nchain=1\nchain=8\nstop=11\nslices=6\nseed=1\nseed=5\nseed=4\n") }
    -- over the whole list: no seed line, a seed beyond the cells, at the stop, without a stop, another total
    ∷ record { asked = expand (R "stop=0x\nslices=4\n"); told = prints (bytes "refused=14\nat=0\n") }
    ∷ record { asked = expand (R "stop=0x\nslices=4\nseed=3\nseed=8\n"); told = prints (bytes "refused=10\nat=1\n") }
    ∷ record { asked = expand (R "stop=01\nslices=1\nseed=6\n"); told = prints (bytes "refused=11\nat=0\n") }
    ∷ record { asked = expand (R "stop=01\nslices=2\nseed=0\nseed=3\n"); told = prints (bytes "refused=12\nat=0\n") }
    ∷ record { asked = expand (R "stop=0x\nslices=4\nseed=3\n"); told = prints (bytes "refused=14\nat=2\n") }
    -- every line is read before that
    ∷ record { asked = expand (R "stop=0x\nslices=4\nseed=8\nseed=g\n"); told = prints (bytes "refused=13\nat=9\n") }
    -- R-3, document 02: the list repeats the window line, `window=256` too, and is read with it; depth 4 is lawful with a limit of 2
    ∷ record { asked = encode (R "window=2\ndepth=4\nslice=xx\nslice=xx\nslice=xx\nslice=xx\n"); told = prints (bytes "cells=3\ntaps=6\nchains=2\nchain=1\nchain=4\nwindow=2\nstop=1x\nslices=4\nseed=6\nseed=0\n") }
    ∷ record { asked = encode (R "window=256\ndepth=2\nslice=10\nslice=x1\nslice=1x\nslice=1x\n"); told = prints (bytes "cells=3\ntaps=6\nchains=2\nchain=1\nchain=4\nwindow=256\nstop=0x\nslices=4\nseed=3\nseed=3\n") }
    ∷ record { asked = encode (R "window=2\ndepth=1\nslice=00\nslice=11\n"); told = prints (bytes "cells=3\ntaps=6\nchains=2\nchain=1\nchain=4\nwindow=2\nstop=10\nslices=2\nseed=2\n") }
    ∷ record { asked = encode (R "window=1\ndepth=1\nslice=00\nslice=11\n"); told = prints (bytes "refused=8\nat=0\n") }
    ∷ record { asked = expand (R "window=2\nstop=0x\nslices=4\nseed=3\nseed=3\n"); told = prints (bytes "slice=10\nslice=11\nslice=10\nslice=11\n") }
    ∷ record { asked = expand (R "window=1\nstop=0x\nslices=4\nseed=3\nseed=3\n"); told = prints (bytes "refused=12\nat=0\n") }
    -- a limit of 0 or 257 is out of range; a leading zero and five digits are out of form
    ∷ record { asked = encode (R "window=0\n"); told = prints (bytes "refused=3\nat=6\n") }
    ∷ record { asked = encode (R "window=257\n"); told = prints (bytes "refused=3\nat=6\n") }
    ∷ record { asked = expand (R "window=257\n"); told = prints (bytes "refused=3\nat=6\n") }
    ∷ record { asked = encode (R "window=02\n"); told = prints (bytes "refused=13\nat=6\n") }
    ∷ record { asked = expand (R "window=10000\n"); told = prints (bytes "refused=13\nat=6\n") }
    -- the line twice, before the chain lines, after depth, after stop; and a sheet that ends after it
    ∷ record { asked = encode (R "window=2\nwindow=2\n"); told = prints (bytes "refused=13\nat=7\n") }
    ∷ record { asked = encode (bytes "cells=3\ntaps=6\nchains=2\nwindow=2\n"); told = prints (bytes "refused=13\nat=4\n") }
    ∷ record { asked = encode (R "depth=2\nwindow=2\n"); told = prints (bytes "refused=13\nat=7\n") }
    ∷ record { asked = expand (R "stop=0x\nwindow=2\n"); told = prints (bytes "refused=13\nat=7\n") }
    ∷ record { asked = encode (R "window=2\n"); told = prints (bytes "refused=13\nat=7\n") }
    -- R-4, document 02: the list repeats the invert line, `invert=0` too, and is read with it; the stop slice is that of the slices as written
    ∷ record { asked = encode (R "invert=2\ndepth=2\nslice=10\nslice=x1\nslice=1x\nslice=1x\n"); told = prints (bytes "cells=3\ntaps=6\nchains=2\nchain=1\nchain=4\ninvert=2\nstop=0x\nslices=4\nseed=5\nseed=1\n") }
    ∷ record { asked = encode (R "invert=0\nwindow=2\ndepth=2\nslice=10\nslice=x1\nslice=1x\nslice=1x\n"); told = prints (bytes "cells=3\ntaps=6\nchains=2\nchain=1\nchain=4\ninvert=0\nwindow=2\nstop=0x\nslices=4\nseed=3\nseed=3\n") }
    ∷ record { asked = expand (R "invert=2\nstop=0x\nslices=4\nseed=5\nseed=1\n"); told = prints (bytes "slice=10\nslice=11\nslice=10\nslice=11\n") }
    ∷ record { asked = expand (R "invert=3\nwindow=3\nstop=01\nslices=2\nseed=2\n"); told = prints (bytes "slice=11\nslice=00\n") }
    ∷ record { asked = expand (R "invert=2\nstop=01\nslices=1\nseed=0\n"); told = prints (bytes "refused=11\nat=0\n") }
    -- R-4: a chain that is none of the chains, and a number out of form
    ∷ record { asked = encode (R "invert=4\n"); told = prints (bytes "refused=2\nat=6\n") }
    ∷ record { asked = expand (R "invert=ffffffffffffffff\n"); told = prints (bytes "refused=2\nat=6\n") }
    ∷ record { asked = encode (R "invert=02\n"); told = prints (bytes "refused=13\nat=6\n") }
    -- R-4: twice, before the chain lines, behind the window line, behind depth, and a text that ends behind it
    ∷ record { asked = encode (R "invert=2\ninvert=2\n"); told = prints (bytes "refused=13\nat=7\n") }
    ∷ record { asked = encode (bytes "cells=3\ntaps=6\nchains=2\nchain=1\ninvert=2\n"); told = prints (bytes "refused=13\nat=5\n") }
    ∷ record { asked = encode (R "window=2\ninvert=2\n"); told = prints (bytes "refused=13\nat=7\n") }
    ∷ record { asked = expand (R "stop=0x\ninvert=2\n"); told = prints (bytes "refused=13\nat=7\n") }
    ∷ record { asked = encode (R "invert=2\nwindow=2\n"); told = prints (bytes "refused=13\nat=8\n") }
    -- R-5, document 02: state 0 as the last seed; the slices 1x, 01, of which one could be cut before
    ∷ record { asked = encode (R "depth=1\nslice=00\n"); told = prints (bytes "cells=3\ntaps=6\nchains=2\nchain=1\nchain=4\nstop=1x\nslices=1\nseed=0\n") }
    ∷ record { asked = encode (R "depth=1\nslice=1x\nslice=01\n"); told = prints (bytes "cells=3\ntaps=6\nchains=2\nchain=1\nchain=4\nstop=11\nslices=2\nseed=3\nseed=4\n") }
    -- R-5: the last seed ends where the slices end; with nothing left it is refused by 14, with more left than the limit by 12
    ∷ record { asked = expand (R "stop=01\nslices=3\nseed=3\nseed=3\n"); told = prints (bytes "slice=10\nslice=11\nslice=10\n") }
    ∷ record { asked = expand (R "stop=01\nslices=2\nseed=3\nseed=3\n"); told = prints (bytes "refused=14\nat=2\n") }
    ∷ record { asked = expand (R "window=2\nstop=01\nslices=2\nseed=0\n"); told = prints (bytes "slice=00\nslice=00\n") }
    ∷ record { asked = expand (R "window=2\nstop=01\nslices=3\nseed=0\n"); told = prints (bytes "refused=12\nat=0\n") }
    -- the sheet's list in a buffer with one byte more, and with one byte less: 71 bytes, 2 seeds
    ∷ record { asked = encode_into 72 (R "depth=2\nslice=10\nslice=x1\nslice=1x\nslice=1x\n"); told = leaves (written 71 2) (bytes "cells=3\ntaps=6\nchains=2\nchain=1\nchain=4\nstop=0x\nslices=4\nseed=3\nseed=3\n" ++ old 1) }
    ∷ record { asked = encode_into 70 (R "depth=2\nslice=10\nslice=x1\nslice=1x\nslice=1x\n"); told = leaves (refused_with (record { number = 9; value = 71 }) 2) (old 70) }
    -- a refused text leaves the buffer as it was
    ∷ record { asked = expand_into 40 (R "stop=xx\n"); told = leaves (refused_with (record { number = 5; value = 6 }) 0) (old 40) }
    ∷ []

pub answers : List Row → List Told
answers [] = []
answers (r ∷ rs) = answer r.asked ∷ answers rs

pub tolds : List Row → List Told
tolds [] = []
tolds (r ∷ rs) = r.told ∷ tolds rs

pub worked : answers table ≡ tolds table
unfolding answers tolds answer of_call ones ones_in within any least_below last_below digit odd beyond refuse fill step bad_register slice bad_count bad_mask bad_chains bad_chains_of agrees shows paired bad_slice bad_slices bad_stop bad_limit bad_set bad_cubes bad_list tests first_of judged limited call_faults cubes_faults list_faults reach hop ends greedy filter count better choice settle keep set_by advance stage ended equals taken spare spare_stop steps stop_for fits quiet covers seed_of before far placed closes seed_at ok slices_of first_stop ending delivers after adding walk totalled expanding expand_list seeds_of planned encoding stopped with_stop cubes_encoding encode_cubes starts rows row_at name key_of same notation longest most range cause worth digits leading_zero number is_character specified_at bit_at in_front slice_of numbered sliced characters valued keyed named formed split run_of moved after_key missing may_stand among in_order may_end outside out_of_range tested ranged saying end_of reading reading_of picked glyph last_digits numeral character characters_of number_line number_lines slice_line slice_lines head_text chains_text list_text refused_text list_reply slices_reply encoded expanded reply_under sheet_reply seed_list_reply concluded printed reply_to printed_for answered called call_of
worked = refl
