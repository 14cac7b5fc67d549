-- The table of keys: one law serves all rows.
--     Placed, placed               a key stands in the table at its rank
--     rows-count                   how many rows there are
--     rank_at                      the key at a place of the table has that rank
--     at_default                   an element of a list is the same, whatever stands beyond
--     every, every_at              a test that all rows pass
--     every_key, every_of          computed, it is a law of every key
--     and_left, and_right          both sides of a conjunction
--     same_is, same_self           where `same` holds, the keys are one; and it holds of a key and itself
--     tag_rank, same_derived       the derived equality of keys is `same`
-- Assumes nothing.
use mathlib.Core.Bool.{Bool, true, false, ◌&&◌}
use mathlib.Core.Path.{◌≡◌, refl, sym, ap, ◌∙◌}
use mathlib.Core.List.{List, [], ◌∷◌}
use Prim.Native.Nat.{ℕ, zero, suc, ◌+◌, ◌<◌}
use native.Mathlib.Nat.{le_of_suc-le-suc, not-suc-le-zero}
use native.Mathlib.Omega.{arith}
use borrow.Author.Tests.{eqb-true, eq-eqb}
use denote.Enum.Bare.{sameb}
use denote.Enum.Declared.{tag_of}
use lib.Dec.{eqb}
use lib.ListN.{length, get_or}
use Rattle.text_keys.specs.Keys.{Row, rows, count, blank, rank, row_at, row_of, same}
use Rattle.text_keys.specs.contracts.Key.{the_type}
use Rattle.text_keys.specs.declared.Key.{Key}
use Rattle.text_keys.specs.declared.Key.TheVariants as key

pub record Placed (k : Key) : Type 0 where
  pub within : rank k < count
  pub key : (row_at (rank k)).key ≡ k

pub placed : (k : Key) → Placed k
unfolding row_at rows
placed key.Cells = record { within = omega arith; key = refl }
placed key.Taps = record { within = omega arith; key = refl }
placed key.Chains = record { within = omega arith; key = refl }
placed key.Chain = record { within = omega arith; key = refl }
placed key.Invert = record { within = omega arith; key = refl }
placed key.Window = record { within = omega arith; key = refl }
placed key.Depth = record { within = omega arith; key = refl }
placed key.Slice = record { within = omega arith; key = refl }
placed key.Stop = record { within = omega arith; key = refl }
placed key.Slices = record { within = omega arith; key = refl }
placed key.Seed = record { within = omega arith; key = refl }

pub rows-count : length rows ≡ count
unfolding rows
rows-count = refl

-- The keys of these rows have the ranks from n on.
unfoldable ranked : List Row → ℕ → Bool
ranked [] n = true
ranked (r ∷ rs) n = eqb (rank r.key) n && ranked rs (suc n)

all_ranked : ranked rows 0 ≡ true
unfolding rows ranked
all_ranked = refl

pub at_default : {A : Type 0} (l : List A) (i : ℕ) (d e : A) → i < length l → get_or l i d ≡ get_or l i e
at_default [] i d e h = absurd (not-suc-le-zero h)
at_default (r ∷ l) zero d e h = refl
at_default (r ∷ l) (suc i) d e h = at_default l i d e (le_of_suc-le-suc h)

unfoldable pub every : (Row → Bool) → List Row → Bool
every f [] = true
every f (r ∷ rs) = f r && every f rs

pub and_left : (a b : Bool) → (a && b) ≡ true → a ≡ true
and_left true b e = refl
and_left false b e = e

pub and_right : (a b : Bool) → (a && b) ≡ true → b ≡ true
and_right true b e = e
and_right false b e = cc

pub every_at : (f : Row → Bool) (rs : List Row) → every f rs ≡ true → (i : ℕ) (d : Row) → i < length rs → f (get_or rs i d) ≡ true
unfolding every
every_at f [] e i d h = absurd (not-suc-le-zero h)
every_at f (r ∷ rs) e zero d h = and_left (f r) (every f rs) e
every_at f (r ∷ rs) e (suc i) d h = every_at f rs (and_right (f r) (every f rs) e) i d (le_of_suc-le-suc h)

ranked_at : (rs : List Row) (n : ℕ) → ranked rs n ≡ true → (i : ℕ) (d : Row) → i < length rs → rank (get_or rs i d).key ≡ n + i
unfolding ranked
ranked_at [] n e i d h = absurd (not-suc-le-zero h)
ranked_at (r ∷ rs) n e zero d h = let q = eqb-true (rank r.key) n (and_left _ (ranked rs (suc n)) e) in omega arith
ranked_at (r ∷ rs) n e (suc i) d h = let q = ranked_at rs (suc n) (and_right (eqb (rank r.key) n) _ e) i d (le_of_suc-le-suc h) in omega arith

pub rank_at : (i : ℕ) → i < count → rank (row_at i).key ≡ i
unfolding row_at
rank_at i h = let q = ranked_at rows 0 all_ranked i blank (rw rows-count h) in omega arith

pub every_key : (f : Row → Bool) → every f rows ≡ true → (k : Key) → f (row_of k) ≡ true
unfolding row_at
every_key f e k = every_at f rows e (rank k) blank (rw rows-count (placed k).within)

-- The same of a test of keys.
pub every_of : (f : Key → Bool) → every (λ r. f r.key) rows ≡ true → (k : Key) → f k ≡ true
every_of f e k = rw (placed k).key at (every_key (λ r. f r.key) e k)

pub same_is : (j k : Key) → same j k ≡ true → j ≡ k
unfolding same
same_is j k e = sym (placed j).key ∙ ap (λ i. (row_at i).key) (eqb-true (rank j) (rank k) e) ∙ (placed k).key

pub same_self : (k : Key) → same k k ≡ true
unfolding same
same_self k = eq-eqb (rank k) (rank k) refl

tag_rank : (k : Key) → tag_of the_type k ≡ rank k
tag_rank key.Cells = refl
tag_rank key.Taps = refl
tag_rank key.Chains = refl
tag_rank key.Chain = refl
tag_rank key.Invert = refl
tag_rank key.Window = refl
tag_rank key.Depth = refl
tag_rank key.Slice = refl
tag_rank key.Stop = refl
tag_rank key.Slices = refl
tag_rank key.Seed = refl

pub same_derived : (j k : Key) → sameb the_type j k ≡ same j k
unfolding same
same_derived j k = rw (tag_rank j, tag_rank k)
