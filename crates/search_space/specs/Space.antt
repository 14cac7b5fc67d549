-- A space of states: the solutions of linear equations over the cells, held as the lowest one and vectors that lead to the others.
--     among x vs s         s is a member of the space of x and the vectors vs: x, with some of the vectors added cell by cell
--     units h n            the unit vectors of n cells from cell h on; with x = 0 and h = 0 the members are the states of n cells
--     Member y vs s        s is a member of the space y with the vectors vs
--     ZeroAt h vs          each of the vectors holds 0 at cell h
--     Rising x l vs        the highest cells of the vectors rise, from l on; at the highest cell of each, x and all other vectors hold 0. So x is the lowest member, and members rise as the vectors are counted through
use Rattle.std.specs.Prelude.{◌≡◌, Bool, true, ◌||◌, List, [], ◌∷◌, ℕ, zero, suc, ◌≤◌, ◌<◌, ◌/◌, ◌^◌, eqb, get_or, length}
use Rattle.std.specs.Int.Bits.{bit_xor}
use Rattle.words_gf2.specs.Words.{digit}
use Rattle.search_space.specs.declared.Space.{Space}

unfoldable pub among : ℕ → List ℕ → ℕ → Bool
among x [] s = eqb s x
among x (v ∷ vs) s = among x vs s || among (bit_xor x v) vs s

unfoldable pub units : ℕ → ℕ → List ℕ
units h zero = []
units h (suc n) = 2 ^ h ∷ units (suc h) n

abbrev pub Member : Space → List ℕ → ℕ → Type 0
Member y vs s = among y.lowest vs s ≡ true

abbrev pub ZeroAt : ℕ → List ℕ → Type 0
ZeroAt h vs = (k : ℕ) → k < length vs → digit (get_or vs k 0) h ≡ 0

-- h is the highest cell of v that holds 1.
pub data Rising (x : ℕ) : ℕ → List ℕ → Type 0 where
  none : {l : ℕ} → Rising x l []
  more : {l v : ℕ} {vs : List ℕ} (h : ℕ) → l ≤ h → v / 2 ^ h ≡ 1 → digit x h ≡ 0 → ZeroAt h vs → Rising x (suc h) vs → Rising x l (v ∷ vs)
