-- What the loop of `fill` keeps.
--     entry_first, entry_next     what stands at a place
--     Filled                      the rows up to a place, then every other entry as it was
--     filled_length, filled_entry     the buffer keeps its length; the entry that is written next
--     filled_start, filled_next, filled_end     of a loop that goes up
-- Assumes nothing.
use mathlib.Core.Path.{◌≡◌, sym, ap, ◌∙◌}
use mathlib.Core.Logic.{⊎_elim}
use mathlib.Core.List.{List, ◌++◌}
use Prim.Native.Nat.{ℕ, zero, suc, ◌+◌, ◌-◌, ◌*◌, ◌≤◌, ◌<◌}
use native.Mathlib.Nat.{mul-zero}
use native.Mathlib.Omega.{arith}
use lib.ListN.{get_or, length, drop, set}
use lib.Seq.{take_all}
use borrow.Author.Tests.{lt-ltb, le-ltb}
use Rattle.words_bounded.proofs.Front.{Front, front_length, front_at, front-start, front-next, front_end}
use Rattle.words_bounded.proofs.Tests.{lt_or_le}
use Rattle.machine_register.specs.Register.{pull}
use Rattle.search_table.specs.Rows.{rows_of}
use Rattle.search_table.specs.Code.{entry_of}
use Rattle.search_table.proofs.Pulling.{rows-length, rows_first, rows_next}

pub entry_first : (taps : ℕ) (masks table : List ℕ) (i : ℕ) → i < length masks → get_or masks i 0 ≡ entry_of taps masks table i
unfolding entry_of
entry_first taps masks table i h = rw (lt-ltb i (length masks) h, entry_of)

pub entry_next : (taps : ℕ) (masks table : List ℕ) (i : ℕ) → length masks ≤ i → pull taps (get_or table (i - length masks) 0) ≡ entry_of taps masks table i
unfolding entry_of
entry_next taps masks table i h = rw (le-ltb i (length masks) h, entry_of)

-- a table with an entry has a chain
positive : (r c i : ℕ) → i < r * c → 0 < c
positive r zero i h = absurd (omega (arith, mul-zero r))
positive r (suc c) i h = omega arith

-- the rows up to i, then every other entry as it was
abbrev pub Filled : ℕ → ℕ → List ℕ → List ℕ → List ℕ → ℕ → Type 0
Filled taps rows masks old table i = (i ≤ rows * length masks) × Front (rows_of taps rows masks) old table i

module _ (taps rows : ℕ) (masks old : List ℕ) (fits : rows * length masks ≤ length old) where
  abbrev R : List ℕ
  R = rows_of taps rows masks

  long : length R ≡ rows * length masks
  long = rows-length taps rows masks

  pub filled_start : Filled taps rows masks old old 0
  filled_start = (omega arith, front-start R old)

  pub filled_length : (table : List ℕ) (i : ℕ) → Filled taps rows masks old table i → length table ≡ length old
  filled_length table i f = let l = f.0 in front_length R old table i (omega (arith, long)) (omega arith) f.1

  pub filled_entry : (table : List ℕ) (i : ℕ) → Filled taps rows masks old table i → i < rows * length masks → entry_of taps masks table i ≡ get_or R i 0
  filled_entry table i f h =
      let some = positive rows (length masks) i h in
      ⊎_elim
      (λ l. sym (entry_first taps masks table i l) ∙ sym (rows_first taps rows masks i h l))
      (λ l. sym (entry_next taps masks table i l)
      ∙ ap (pull taps) (front_at R old table i (i - length masks) (omega (arith, long)) (omega arith) f.1)
      ∙ sym (rows_next taps rows masks i h l))
      (lt_or_le i (length masks))

  pub filled_next : (table : List ℕ) (i : ℕ) → Filled taps rows masks old table i → i < rows * length masks → Filled taps rows masks old (set table i (get_or R i 0)) (i + 1)
  filled_next table i f h = (omega arith, front-next R old table i (rw long h) (omega arith) f.1)

  pub filled_end : (table : List ℕ) (i : ℕ) → Filled taps rows masks old table i → rows * length masks ≤ i → table ≡ R ++ drop (rows * length masks) old
  filled_end table i f h =
      front_end R old table (rows * length masks) i f.0 h f.1
      ∙ ap (λ (l : List ℕ). l ++ drop (rows * length masks) old) (take_all (rows * length masks) R (omega (arith, long)))
