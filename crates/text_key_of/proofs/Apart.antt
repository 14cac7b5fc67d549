-- No name begins another, so that a line is known by its name.
--     differ k l     the bytes k and l differ before either ends
--     key_back       a line that begins with the name of a key has that key
-- Assumes nothing.
use Rattle.std.specs.Prelude.{Some}
use mathlib.Core.Bool.{Bool, true, false, ◌&&◌, ◌||◌, not}
use mathlib.Core.Path.{◌≡◌, refl, sym, ap, ◌∙◌}
use mathlib.Core.List.{List, [], ◌∷◌, ◌++◌}
use Prim.Native.Nat.{ℕ, zero, suc, ◌<◌}
use native.Mathlib.Nat.{le_of_suc-le-suc, not-suc-le-zero}
use borrow.Author.Tests.{eq-eqb}
use lib.Dec.{eqb}
use lib.ListN.{length, get_or}
use Rattle.text_keys.specs.Keys.{Row, rows, blank, rank, row_at, name}
use Rattle.text_keys.specs.declared.Key.{Key}
use Rattle.text_keys.proofs.Table.{placed, every, every_at, and_left, and_right, rows-count}
use Rattle.text_key_of.specs.Begins.{starts, key_of}

differ : List ℕ → List ℕ → Bool
differ [] l = false
differ (a ∷ k) [] = false
differ (a ∷ k) (b ∷ l) = not (eqb a b) || differ k l

starts_differ : (k l v : List ℕ) → differ k l ≡ true → starts k (l ++ v) ≡ false
unfolding starts differ
starts_differ [] l v e = sym e
starts_differ (a ∷ k) [] v e = cc
starts_differ (a ∷ k) (b ∷ l) v e = go (eqb a b) (starts_differ k l v) e
  where
    go : (x : Bool) → (differ k l ≡ true → starts k (l ++ v) ≡ false) → (not x || differ k l) ≡ true → (x && starts k (l ++ v)) ≡ false
    go true f e = f e
    go false f e = refl

starts_self : (k v : List ℕ) → starts k (k ++ v) ≡ true
unfolding starts
starts_self [] v = refl
starts_self (a ∷ k) v = rw (eq-eqb a a refl) (starts_self k v)

-- The names of the rows differ from each other.
apart : List Row → Bool
apart [] = true
apart (r ∷ rs) = every (λ s. differ r.name s.name) rs && apart rs

all_apart : apart rows ≡ true
unfolding rows every differ apart
all_apart = refl

found : (rs : List Row) → apart rs ≡ true → (i : ℕ) (d : Row) → i < length rs → (v : List ℕ) → key_of rs ((get_or rs i d).name ++ v) ≡ Some (get_or rs i d).key
unfolding key_of apart
found [] e i d h v = absurd (not-suc-le-zero h)
found (r ∷ rs) e zero d h v = rw (starts_self r.name v, key_of)
found (r ∷ rs) e (suc i) d h v =
    let others = every (λ s. differ r.name s.name) rs in
    let s = starts_differ r.name (get_or rs i d).name v (every_at (λ s. differ r.name s.name) rs (and_left others (apart rs) e) i d (le_of_suc-le-suc h)) in
    rw (s, key_of) (found rs (and_right others (apart rs) e) i d (le_of_suc-le-suc h) v)

pub key_back : (k : Key) (v : List ℕ) → key_of rows (name k ++ v) ≡ Some k
unfolding name row_at
key_back k v = found rows all_apart (rank k) blank (rw rows-count (placed k).within) v ∙ ap Some (placed k).key
