-- The lanes of a group that the words of a leaf rule out.
--     lanes_yes, lanes_no         the lanes that read the bit of a column
--     Lanes, Showing, showing-start, showing-next     of a loop over the columns
--     kills_none, kills_row, kills_fewer     of a loop over the rows
--     dead_clear                  so the members of dead lanes are not clear
-- Assumes nothing.
use mathlib.Core.Path.{◌≡◌, sym}
use mathlib.Core.Logic.{⊎_elim}
use mathlib.Core.Bool.{false}
use mathlib.Core.List.{List}
use Prim.Native.Nat.{ℕ, ◌+◌, ◌*◌, ◌/◌, ◌%◌, ◌^◌, ◌≤◌, ◌<◌}
use native.Mathlib.Omega.{arith}
use lib.Bits.{bit_and, bit_or, bit_xor}
use lib.ListN.{get_or}
use borrow.Author.Count.{below_more}
use Rattle.words_bounded.proofs.Tests.{eq_or_not}
use Rattle.words_gf2.specs.Words.{digit}
use Rattle.words_gf2.proofs.Digits.{digit_lt, digit-none, digit_and, digit_or}
use Rattle.words_gf2.proofs.Xor.{digit-xor}
use Rattle.search_members.specs.Members.{pick}
use Rattle.search_lanes.proofs.Lanes.{all_lanes}
use Rattle.search_rows.specs.Rows.{clear}
use Rattle.search_rows.specs.Leaf.{Matched, AllMatched, Filled}
use Rattle.search_excluding.specs.Excluding.{Kills}
use Rattle.search_rows.specs.declared.Pattern.{Pattern}

-- ---- the lanes of a group that read the bit of a column

module _ (words : List ℕ) (a g : ℕ) where
  pub lanes_yes : (r : ℕ) → get_or words (a + 1) 0 / 2 ^ g % 2 ≡ 1 → r ≡ bit_xor (get_or words a 0) 18446744073709551615 → (i : ℕ) → i < 64 → digit r i ≡ 1 → Matched words a g i
  unfolding digit
  lanes_yes r e q i h d =
      let u : digit (bit_xor (get_or words a 0) 18446744073709551615) i ≡ 1 = rw q at d in
      omega (arith, digit-xor (get_or words a 0) 18446744073709551615 i, all_lanes i h, digit_lt (get_or words a 0) i)

  pub lanes_no : (r : ℕ) → (get_or words (a + 1) 0 / 2 ^ g % 2 ≡ 1 → ⊥) → r ≡ get_or words a 0 → (i : ℕ) → i < 64 → digit r i ≡ 1 → Matched words a g i
  unfolding digit
  lanes_no r e q i h d =
      let u : digit (get_or words a 0) i ≡ 1 = rw q at d in
      omega arith

-- ---- a loop over the columns

module _ (words : List ℕ) (a g : ℕ) where
  -- the lanes that are set read the bit of the column at a place
  abbrev Lanes : ℕ → ℕ → Type 0
  Lanes q r = (i : ℕ) → i < 64 → digit r i ≡ 1 → Matched words q g i

  -- they do in each of the first j columns
  abbrev pub Showing : ℕ → ℕ → Type 0
  Showing lanes j = (i : ℕ) → i < 64 → digit lanes i ≡ 1 → AllMatched words a j g i

  both_set : (y z i : ℕ) → digit (bit_and y z) i ≡ 1 → (digit y i ≡ 1) × (digit z i ≡ 1)
  both_set y z i e = let d = digit_and y z i in (omega (arith, digit_lt y i, digit_lt z i), omega (arith, digit_lt y i, digit_lt z i))

  pub showing-next : (lanes j q z : ℕ) → q ≡ a + j * 2 → Showing lanes j → Lanes q z → Showing (bit_and lanes z) (j + 1)
  showing-next lanes j q z e s r i b d = let w = both_set lanes z i d in below_more (λ c. Matched words (a + c * 2) g i) j (s i b w.0) (rw (sym e) (r i b w.1))

  pub showing-start : (y z : ℕ) → Lanes a y → Lanes (a + 2) z → Showing (bit_and y z) 2
  showing-start y z l r =
      let e : a + 0 * 2 ≡ a = omega arith in
      showing-next y 1 (a + 2) z (omega arith) (λ i b d. below_more (λ c. Matched words (a + c * 2) g i) 0 (λ c h. absurd (omega arith)) (rw e (l i b d))) r

-- ---- the lanes that are dead

module _ (words : List ℕ) (k g : ℕ) where
  pub kills_none : Kills words k 0 g 0
  kills_none q h i b e = absurd (omega (arith, digit-none i))

  pub kills_row : (n d r : ℕ) → Kills words k n g d → ((i : ℕ) → i < 64 → digit r i ≡ 1 → AllMatched words (n * (k * 2)) k g i) → Kills words k (n + 1) g (bit_or d r)
  kills_row n d r s m q h i b e =
      ⊎_elim
      (λ o. h n i (omega arith) b (m i b o))
      (λ no. s q (λ c j l. h c j (omega arith)) i b (omega (arith, digit_or d r i, digit_lt d i, digit_lt r i)))
      (eq_or_not (digit r i) 1)

  pub kills_fewer : (n c d : ℕ) → n ≤ c → Kills words k n g d → Kills words k c g d
  kills_fewer n c d l s q h = s q (λ e i b. h e i (omega arith))

pub dead_clear : (p : Pattern) (table : List ℕ) (m x : ℕ) (vs words : List ℕ) (n g d : ℕ) → g < 64 → Filled p table m x vs words n → Kills words p.columns n g d
    → (i : ℕ) → i < 64 → digit d i ≡ 1 → clear p table m (pick x vs (g * 64 + i)) ≡ false
dead_clear p table m x vs words n g d h f k = k (λ i. clear p table m (pick x vs (g * 64 + i))) (λ c i l b. f.kills c g i l h b)
