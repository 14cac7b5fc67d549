-- A leaf, a space of few vectors, and the words that are filled for its rows. The members of its space are numbered; number g * 64 + i is lane i of group g. A column of a row has two words, one for the lanes and one for the groups.
--     LeafSized p f             a leaf has 6 to 12 vectors, and its pattern 2 to 64 positions
--     Matched words a g i       the two words at the place a differ at lane i and group g
--     AllMatched words a k g i  so do those of k columns from the place a on
--     Filled p table m x vs words n        where those of one of n rows do, that member is not clear
use Rattle.std.specs.Prelude.{◌≡◌, false, List, ℕ, ◌+◌, ◌*◌, ◌%◌, ◌≤◌, ◌<◌, get_or, length}
use Rattle.words_gf2.specs.Words.{digit}
use Rattle.search_members.specs.Members.{pick}
use Rattle.search_rows.specs.Rows.{clear}
use Rattle.search_rows.specs.declared.Pattern.{Pattern}

pub record LeafSized (p : Pattern) (f : ℕ) : Type 0 where
  pub six : 6 ≤ f
  pub few : f ≤ 12
  pub two : 2 ≤ p.columns
  pub word : p.columns ≤ 64

abbrev pub Matched : List ℕ → ℕ → ℕ → ℕ → Type 0
Matched words a g i = (digit (get_or words a 0) i + digit (get_or words (a + 1) 0) g) % 2 ≡ 1

abbrev pub AllMatched : List ℕ → ℕ → ℕ → ℕ → ℕ → Type 0
AllMatched words a k g i = (j : ℕ) → j < k → Matched words (a + j * 2) g i

pub record Filled (p : Pattern) (table : List ℕ) (m x : ℕ) (vs words : List ℕ) (n : ℕ) : Type 0 where
  pub within : n * (p.columns * 2) ≤ length words
  pub kills : (c g i : ℕ) → c < n → g < 64 → i < 64 → AllMatched words (c * (p.columns * 2)) p.columns g i → clear p table m (pick x vs (g * 64 + i)) ≡ false
