-- The starred examples of document 01, "Bench examples", and examples of R-1, R-3, R-4 and R-5 of document 02: one table, and one proof over it. Register R is cells 3, taps 6, chain masks 1 and 4.
--     Question     what is asked, in the words of the examples
--     Told         what is told: numbers, a slice, a list with its stop slice, or a refusal with its number and value
--     answer       what the definitions answer, under the settings of a call
--     Row, table   the questions with what document 01 tells
--     answers, tolds     the two columns of a table
--     starred      the definitions answer what document 01 tells, in every row
use Rattle.encoder_meaning.specs.declared.Encoded.{Encoded}
use Rattle.std.specs.Prelude.{◌≡◌, refl, Bool, true, false, List, [], ◌∷◌, ℕ, zero, suc, take, Err, Ok, Result}
use Prim.Native.String.{String}
use Rattle.std.specs.Int.Count.{ones, ones_in}
use Rattle.words_bounded.specs.Bounded.{within, any, least_below, last_below}
use Rattle.words_gf2.specs.Words.{digit, odd, beyond}
use Rattle.refusal_causes.specs.declared.Cause.{Cause}
use Rattle.refusal_causes.specs.Sheet.{refusal_of}
use Rattle.refusal_causes.specs.Outcome.{Outcome, refuse, fill}
use Rattle.machine_register.specs.Register.{step, bad_register}
use Rattle.machine_chains.specs.Chains.{slice as chains_slice, bad_count, bad_mask, bad_chains}
use Rattle.machine_settings.specs.Machine.{Machine, base, machine, bad_chains_of}
use Rattle.machine_settings.specs.declared.Settings.{Settings}
use Rattle.machine_slices.specs.declared.TestSlice.{TestSlice}
use Rattle.machine_slices.specs.Slices.{agrees, shows, paired, bad_slice, bad_slices, bad_stop}
use Rattle.refusal_lengths.specs.Lengths.{bad_limit, bad_window, bad_set, bad_cubes, bad_list}
use Rattle.refusal_order.specs.Order.{tests, first_of, judged}
use Rattle.refusal_checks.specs.Calls.{limited, call_faults, window_faults, set_faults, cubes_faults, stop_faults, list_faults}
use Rattle.theory_cutting.specs.Greedy.{reach, hop, ends, greedy}
use Rattle.stop_steps.specs.Steps.{filter, count, better, choice, settle, keep, set_by, advance, stage, ended, steps, stop_for}
use Rattle.stop_spare.specs.Spare.{equals, taken, spare, spare_stop}
use Rattle.stop_slice.specs.Entry.{stop_or6, stop_of}
use Rattle.theory_covering.specs.Covering.{fits, quiet, covers, seed_of}
use Rattle.theory_covering.specs.Windows.{before, far, placed, closes, seed_at, ok}
use Rattle.theory_covering.specs.Single.{lowest_or7, window_seed}
use Rattle.expander_meaning.specs.Run.{slices_of, first_stop, ending, delivers}
use Rattle.expander_meaning.specs.Expanding.{after, adding, walk, totalled, expanding, expand_list}
use Rattle.encoder_meaning.specs.Encoding.{seeds_of, planned, encoding, encode_set}
use Rattle.encoder_cubes.specs.Cubes.{CubesOutcome, stopped, with_stop, cubes_encoding, encode_cubes}
use Rattle.text_characters.specs.Characters.{is_character, specified_at, bit_at, in_front, slice_of}
use Rattle.examples_bench.specs.Reading.{slice, specifieds, bitses}

pub data Question : Type 0 where
  stepping : ℕ → ℕ → Question  -- R from this state, so many steps
  stop-slice : ℕ → List String → Question  -- so many chains, these slices
  window : String → List String → Question  -- R, this stop, this window
  fitting : String → List String → ℕ → Question  -- R: the state fits the bits and the closing stop of the window (1)
  showing : String → ℕ → ℕ → Question  -- R: those of the first slices of the state that show the stop
  set : String → List String → Question  -- R, this stop, this set
  sheet : ℕ → List String → Question  -- R, cubes of this depth
  expand : String → ℕ → List ℕ → Question  -- R, this stop, slices, seeds
  under : ℕ → Question → Question  -- the same with windows of up to so many slices
  inverted : ℕ → Question → Question  -- the same with these chains inverted

pub data Told : Type 0 where
  numbers : List ℕ → Told
  slice_is : TestSlice → Told
  list_is : TestSlice → List ℕ → Told
  refused : ℕ → ℕ → Told

abbrev masks : List ℕ
masks = 1 ∷ 4 ∷ []

abbrev R : Machine
R = machine (base 3 6) masks

-- a lent buffer
abbrev lent : List ℕ
lent = 9 ∷ 9 ∷ 9 ∷ 9 ∷ 9 ∷ []

-- ---- what the definitions answer

refusal : Cause → Told
refusal c = refused (refusal_of c).number (refusal_of c).value

states : ℕ → ℕ → List ℕ
states s zero = []
states s (suc t) = step 3 6 s ∷ states (step 3 6 s) t

showings : TestSlice → ℕ → ℕ → ℕ → List ℕ
showings stop s t zero = []
showings stop s t (suc d) = elim (shows stop (R.slice s)) [ true ↦ t ∷ showings stop (R.step s) (suc t) d | false ↦ showings stop (R.step s) (suc t) d ]

of_formed : Result TestSlice Cause → Told
of_formed (Ok stop) = slice_is stop
of_formed (Err c) = refusal c

of_seed : Result ℕ Cause → Told
of_seed (Ok s) = numbers (s ∷ [])
of_seed (Err c) = refusal c

of_written : Result ℕ Cause → List ℕ → Told
of_written (Ok n) buffer = numbers (take n buffer)
of_written (Err c) buffer = refusal c

of_encoded : Result Encoded Cause → List ℕ → Told
of_encoded (Ok e) buffer = list_is e.stop (take e.seeds buffer)
of_encoded (Err c) buffer = refusal c

yes : Bool → ℕ
yes true = 1
yes false = 0

answer : Settings → Question → Told
answer g (stepping s t) = numbers (states s t)
answer g (stop-slice chains ss) = of_formed (stop_of chains (specifieds ss) (bitses ss))
answer g (window stop ss) = of_seed (window_seed g masks (slice stop) (specifieds ss) (bitses ss))
answer g (fitting stop ss s) = numbers (yes (fits R (slice stop) true (paired (specifieds ss) (bitses ss)) s) ∷ [])
answer g (showing stop m s) = numbers (showings (slice stop) s 0 m)
answer g (set stop ss) = (let o : Outcome = encode_set g masks (slice stop) (specifieds ss) (bitses ss) lent in of_written o.answer o.buffer)
answer g (sheet depth ss) = (let o : CubesOutcome = encode_cubes g masks depth (specifieds ss) (bitses ss) lent in of_encoded o.answer o.buffer)
answer g (expand stop n seeds) = (let o : Outcome = expand_list g masks (slice stop) n seeds lent in of_written o.answer o.buffer)
answer g (under limit q) = answer (record { cells = g.cells; taps = g.taps; limit = limit; invert = g.invert }) q
answer g (inverted invert q) = answer (record { cells = g.cells; taps = g.taps; limit = g.limit; invert = invert }) q

-- ---- the table

pub record Row : Type 0 where
  pub asked : Question
  pub told : Told

abbrev pub table : List Row
table =
    -- R from state 1 steps through 2, 5, 3, 7, 6, 4 to 1
    record { asked = stepping 1 7; told = numbers (2 ∷ 5 ∷ 3 ∷ 7 ∷ 6 ∷ 4 ∷ 1 ∷ []) }
    -- document 004, figure 2
    ∷ record { asked = stop-slice 10 ("x001x10x11" ∷ "10xx0010xx" ∷ "xx10xx01x1" ∷ "x1xxxx110x" ∷ "01x11xx110" ∷ "x0xxxxxxxx" ∷ []); told = slice_is (slice "x1xxxxx0xx") }
    -- one chain, slices 0 and 1: refused before R-1 and after it, for both patterns are taken
    ∷ record { asked = stop-slice 1 ("0" ∷ "1" ∷ []); told = refused 6 0 }
    -- two chains, slices 1x, 1x, 1x, 10, 00, 01: refused by 6 until R-1 of document 02
    ∷ record { asked = stop-slice 2 ("1x" ∷ "1x" ∷ "1x" ∷ "10" ∷ "00" ∷ "01" ∷ []); told = slice_is (slice "11") }
    -- R-1: 100 is smaller than 001, for the leftmost character counts least; 0xx, 01x and 10x take no pattern
    ∷ record { asked = stop-slice 3 ("0xx" ∷ "01x" ∷ "101" ∷ "111" ∷ "10x" ∷ "110" ∷ "010" ∷ "000" ∷ []); told = slice_is (slice "100") }
    -- R-1: all four patterns are taken
    ∷ record { asked = stop-slice 2 ("10" ∷ "00" ∷ "01" ∷ "1x" ∷ "10" ∷ "11" ∷ []); told = refused 6 0 }
    -- R-1: where the steps succeed, they decide
    ∷ record { asked = stop-slice 2 ("10" ∷ "00" ∷ []); told = slice_is (slice "x1") }
    -- windows of R with the stop 01
    ∷ record { asked = window "01" ("10" ∷ "x1" ∷ []); told = numbers (3 ∷ []) }
    ∷ record { asked = window "01" ("10" ∷ []); told = refused 7 0 }
    ∷ record { asked = window "01" ("xx" ∷ "xx" ∷ []); told = numbers (3 ∷ []) }
    ∷ record { asked = window "01" ("11" ∷ "xx" ∷ []); told = refused 7 0 }
    -- state 7 fits the bits of 11, xx and shows the stop at slice 2, and also at slice 1
    ∷ record { asked = fitting "01" ("11" ∷ "xx" ∷ []) 7; told = numbers (1 ∷ []) }
    ∷ record { asked = showing "01" 3 7; told = numbers (1 ∷ 2 ∷ []) }
    -- the set 1x, 0x: refused by 8 until R-5 of document 02; given singly it still has no seed
    ∷ record { asked = set "01" ("1x" ∷ "0x" ∷ []); told = numbers (1 ∷ []) }
    ∷ record { asked = window "01" ("1x" ∷ "0x" ∷ []); told = refused 7 0 }
    -- seed 6 is refused by 11; seed 0 by 12 until R-5, and since then only where another seed follows or more slices than the limit are left
    ∷ record { asked = expand "01" 1 (6 ∷ []); told = refused 11 0 }
    ∷ record { asked = expand "01" 1 (0 ∷ []); told = numbers (0 ∷ []) }
    ∷ record { asked = expand "01" 2 (0 ∷ 3 ∷ []); told = refused 12 0 }
    -- the sheet: stop 0x, seeds 3 and 3
    ∷ record { asked = sheet 2 ("10" ∷ "x1" ∷ "1x" ∷ "1x" ∷ []); told = list_is (slice "0x") (3 ∷ 3 ∷ []) }
    -- and its list expanded: 10, 11, 10, 11
    ∷ record { asked = expand "0x" 4 (3 ∷ 3 ∷ []); told = numbers (1 ∷ 3 ∷ 1 ∷ 3 ∷ []) }
    -- R-3: the window of seed 3 has two slices, so with a limit of 1 it is too long, and the set has no cutting
    ∷ record { asked = under 2 (window "01" ("10" ∷ "x1" ∷ [])); told = numbers (3 ∷ []) }
    ∷ record { asked = under 1 (window "01" ("10" ∷ "x1" ∷ [])); told = refused 3 0 }
    ∷ record { asked = under 2 (set "01" ("10" ∷ "x1" ∷ [])); told = numbers (3 ∷ []) }
    ∷ record { asked = under 1 (set "01" ("10" ∷ "x1" ∷ [])); told = refused 8 0 }
    -- R-3: four slices need two windows of two; depth 4 is lawful with a limit of 2
    ∷ record { asked = under 2 (set "01" ("xx" ∷ "xx" ∷ "xx" ∷ "xx" ∷ [])); told = numbers (3 ∷ 0 ∷ []) }
    ∷ record { asked = under 2 (sheet 4 ("xx" ∷ "xx" ∷ "xx" ∷ "xx" ∷ [])); told = list_is (slice "1x") (6 ∷ 0 ∷ []) }
    -- R-3: seed 3 shows the stop at slice 2, which a limit of 2 reaches and one of 1 does not
    ∷ record { asked = under 2 (expand "01" 2 (3 ∷ [])); told = numbers (1 ∷ 3 ∷ []) }
    ∷ record { asked = under 1 (expand "01" 2 (3 ∷ [])); told = refused 12 0 }
    -- R-3: limits of 0 and 257
    ∷ record { asked = under 0 (set "01" ("10" ∷ "x1" ∷ [])); told = refused 3 0 }
    ∷ record { asked = under 257 (set "01" ("10" ∷ "x1" ∷ [])); told = refused 3 0 }
    ∷ record { asked = under 257 (window "01" ("10" ∷ [])); told = refused 3 0 }
    ∷ record { asked = under 0 (expand "01" 2 (3 ∷ [])); told = refused 3 0 }
    -- R-4: with chain 2 inverted all slices of state 0 are 01, the stop; with chain 1 they are 10
    ∷ record { asked = inverted 2 (expand "01" 1 (0 ∷ [])); told = refused 11 0 }
    ∷ record { asked = inverted 1 (expand "01" 1 (0 ∷ [])); told = numbers (1 ∷ []) }
    -- R-4: the set 10, x1 under each inversion
    ∷ record { asked = inverted 0 (set "01" ("10" ∷ "x1" ∷ [])); told = numbers (3 ∷ []) }
    ∷ record { asked = inverted 1 (set "01" ("10" ∷ "x1" ∷ [])); told = numbers (2 ∷ 4 ∷ []) }
    ∷ record { asked = inverted 2 (set "01" ("10" ∷ "x1" ∷ [])); told = numbers (5 ∷ []) }
    ∷ record { asked = inverted 3 (set "01" ("10" ∷ "x1" ∷ [])); told = numbers (4 ∷ 0 ∷ []) }
    -- R-4: the window 1x, 0x, which has no seed, has the seed 2 with both chains inverted; it delivers 11, 00
    ∷ record { asked = inverted 3 (window "01" ("1x" ∷ "0x" ∷ [])); told = numbers (2 ∷ []) }
    ∷ record { asked = inverted 3 (set "01" ("1x" ∷ "0x" ∷ [])); told = numbers (2 ∷ []) }
    ∷ record { asked = inverted 3 (expand "01" 2 (2 ∷ [])); told = numbers (3 ∷ 0 ∷ []) }
    -- R-4: the stop of a sheet is formed over its slices as written, and its seeds are others
    ∷ record { asked = inverted 2 (sheet 2 ("10" ∷ "x1" ∷ "1x" ∷ "1x" ∷ [])); told = list_is (slice "0x") (5 ∷ 1 ∷ []) }
    ∷ record { asked = inverted 3 (sheet 2 ("10" ∷ "x1" ∷ "1x" ∷ "1x" ∷ [])); told = list_is (slice "0x") (4 ∷ 0 ∷ []) }
    ∷ record { asked = inverted 3 (expand "0x" 4 (4 ∷ 2 ∷ 6 ∷ [])); told = numbers (1 ∷ 3 ∷ 1 ∷ 1 ∷ []) }
    ∷ record { asked = inverted 3 (expand "0x" 4 (4 ∷ 0 ∷ [])); told = numbers (1 ∷ 3 ∷ 3 ∷ 3 ∷ []) }
    -- R-4: with a limit, which seed 3 needs in full
    ∷ record { asked = inverted 2 (under 5 (expand "01" 5 (3 ∷ []))); told = numbers (3 ∷ 1 ∷ 0 ∷ 0 ∷ 3 ∷ []) }
    ∷ record { asked = inverted 2 (under 4 (expand "01" 5 (3 ∷ []))); told = refused 12 0 }
    -- R-4: there is no chain 3; cause 2 comes before 3
    ∷ record { asked = inverted 4 (window "01" ("10" ∷ [])); told = refused 2 0 }
    ∷ record { asked = inverted 7 (set "01" ("10" ∷ "x1" ∷ [])); told = refused 2 0 }
    ∷ record { asked = inverted 4 (sheet 0 ("10" ∷ [])); told = refused 2 0 }
    ∷ record { asked = inverted 4 (under 0 (expand "01" 1 (0 ∷ []))); told = refused 2 0 }
    -- R-5: state 0 may be a last seed; 8 counts only starts whose windows all close, and 00 has no such window
    ∷ record { asked = set "01" ("00" ∷ []); told = numbers (0 ∷ []) }
    ∷ record { asked = set "01" ("00" ∷ "10" ∷ []); told = refused 8 0 }
    ∷ record { asked = set "01" ("1x" ∷ "0x" ∷ "01" ∷ []); told = refused 8 1 }
    -- R-5: the seed of the last window is the lowest state, whatever comes after
    ∷ record { asked = set "01" ("xx" ∷ "xx" ∷ []); told = numbers (0 ∷ []) }
    -- R-5: the windows of 11, 10, 00 have 1 and 2 slices, for 11, 10 is no window that closes; as a set it has the seed 5
    ∷ record { asked = set "01" ("11" ∷ "10" ∷ "00" ∷ []); told = numbers (7 ∷ 1 ∷ []) }
    ∷ record { asked = set "01" ("11" ∷ "10" ∷ []); told = numbers (5 ∷ []) }
    -- R-5: the last window keeps to the limit
    ∷ record { asked = under 1 (set "01" ("xx" ∷ "xx" ∷ [])); told = numbers (7 ∷ 0 ∷ []) }
    -- R-5: the last seed ends where the slices end; one with nothing left is cause 14, after 10 and 11
    ∷ record { asked = expand "01" 3 (3 ∷ 3 ∷ []); told = numbers (1 ∷ 3 ∷ 1 ∷ []) }
    ∷ record { asked = expand "01" 2 (3 ∷ 3 ∷ []); told = refused 14 2 }
    ∷ record { asked = expand "01" 1 (3 ∷ 3 ∷ []); told = refused 14 2 }
    ∷ record { asked = expand "01" 2 (3 ∷ 0 ∷ []); told = refused 14 2 }
    ∷ record { asked = expand "01" 2 (3 ∷ 6 ∷ []); told = refused 11 1 }
    ∷ record { asked = expand "01" 2 (3 ∷ 8 ∷ []); told = refused 10 1 }
    -- R-5: a stop before that is cause 14
    ∷ record { asked = expand "01" 4 (3 ∷ []); told = refused 14 2 }
    -- R-5: with more slices left than the limit, a last seed without a stop is cause 12, and one with it 14
    ∷ record { asked = under 2 (expand "01" 2 (0 ∷ [])); told = numbers (0 ∷ 0 ∷ []) }
    ∷ record { asked = under 2 (expand "01" 3 (0 ∷ [])); told = refused 12 0 }
    ∷ record { asked = under 5 (expand "01" 6 (1 ∷ [])); told = refused 14 5 }
    ∷ record { asked = under 4 (expand "01" 6 (1 ∷ [])); told = refused 12 0 }
    ∷ []

pub answers : List Row → List Told
answers [] = []
answers (r ∷ rs) = answer (base 3 6) r.asked ∷ answers rs

pub tolds : List Row → List Told
tolds [] = []
tolds (r ∷ rs) = r.told ∷ tolds rs

pub starred : answers table ≡ tolds table
unfolding answers tolds answer refusal states showings of_formed of_seed of_written of_encoded yes digit odd beyond ones ones_in within any least_below last_below refuse fill step bad_register chains_slice bad_count bad_mask bad_chains bad_chains_of agrees shows paired bad_slice bad_slices bad_stop bad_limit bad_window bad_set bad_cubes bad_list tests first_of judged limited call_faults window_faults set_faults cubes_faults stop_faults list_faults reach hop ends greedy filter count better choice settle keep set_by advance stage ended equals taken spare spare_stop steps stop_for stop_or6 stop_of fits quiet covers seed_of before far placed closes seed_at ok lowest_or7 window_seed slices_of first_stop ending delivers after adding walk totalled expanding expand_list seeds_of planned encoding encode_set stopped with_stop cubes_encoding encode_cubes is_character specified_at bit_at in_front slice_of
starred = refl
