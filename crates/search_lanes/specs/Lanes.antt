-- Words that hold one bit for each of 64 members of a space: lane i of a word is the fact about member number i.
--     word_of f n          the word of n lanes whose lane i is f i
--     readings x vs m     the parities of the members number 0 to 63 under the mask m
use Rattle.std.specs.Prelude.{List, ℕ, zero, suc, ◌+◌, ◌*◌, ◌^◌}
use Rattle.words_gf2.specs.Words.{odd}
use Rattle.search_members.specs.Members.{pick}

unfoldable pub word_of : (ℕ → ℕ) → ℕ → ℕ
word_of f zero = 0
word_of f (suc n) = word_of f n + f n * 2 ^ n

unfoldable pub readings : ℕ → List ℕ → ℕ → ℕ
readings x vs m = word_of (λ i. odd (pick x vs i) m) 64
