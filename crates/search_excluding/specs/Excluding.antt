-- The lanes of a group of a leaf that its words rule out.
--     Kills words k n g d       a lane of d that is set has the words of k columns all differ in one of n rows
use Rattle.std.specs.Prelude.{◌≡◌, Bool, false, List, ℕ, ◌*◌, ◌<◌}
use Rattle.words_gf2.specs.Words.{digit}
use Rattle.search_rows.specs.Leaf.{AllMatched}

abbrev pub Kills : List ℕ → ℕ → ℕ → ℕ → ℕ → Type 0
Kills words k n g d =
    (q : ℕ → Bool) → ((c i : ℕ) → c < n → i < 64 → AllMatched words (c * (k * 2)) k g i → q i ≡ false) → (i : ℕ) → i < 64 → digit d i ≡ 1 → q i ≡ false
