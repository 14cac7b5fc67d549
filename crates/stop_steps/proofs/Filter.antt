-- Laws of `filter`.
--     filter_alike      two tests that answer alike
--     filter-filter     one test after another
--     filter_all        a test that every slice passes
--     filter_empty      where nothing is left, no member passes
--     filter_apart      of two tests that no slice passes both, one after the other leaves nothing
--     filter_parts      of two tests that no slice passes both, what they leave is together no more than there was
-- Assumes nothing.
use mathlib.Core.Path.{◌≡◌, refl, ap, ap₂}
use mathlib.Core.Bool.{Bool, true, false, ◌&&◌}
use mathlib.Core.List.{List, [], ◌∷◌}
use Prim.Native.Nat.{ℕ, zero, suc, ◌+◌, ◌≤◌, ◌<◌}
use native.Mathlib.Nat.{not-suc-le-zero, le_of_suc-le-suc}
use native.Mathlib.Omega.{arith}
use lib.ListN.{length, get_or}
use Rattle.words_bounded.proofs.Tests.{clash}
use Rattle.machine_slices.specs.declared.TestSlice.{TestSlice}
use Rattle.stop_steps.specs.Steps.{filter}

abbrev picked : TestSlice → Bool → List TestSlice → List TestSlice
picked x b l = elim b [ true ↦ x ∷ l | false ↦ l ]

pub filter_alike : (p r : TestSlice → Bool) → ((x : TestSlice) → p x ≡ r x) → (xs : List TestSlice) → filter p xs ≡ filter r xs
unfolding filter
filter_alike p r alike [] = refl
filter_alike p r alike (x ∷ xs) = ap₂ (picked x) (alike x) (filter_alike p r alike xs)

pub filter-filter : (p r : TestSlice → Bool) (xs : List TestSlice) → filter p (filter r xs) ≡ filter (λ x. r x && p x) xs
unfolding filter
filter-filter p r [] = refl
filter-filter p r (x ∷ xs) = go (r x) (filter-filter p r xs)
  where
    go : (b : Bool) → filter p (filter r xs) ≡ filter (λ y. r y && p y) xs
        → filter p (picked x b (filter r xs)) ≡ picked x (b && p x) (filter (λ y. r y && p y) xs)
    go true ih = ap (picked x (p x)) ih
    go false ih = ih

pub filter_all : (p : TestSlice → Bool) → ((x : TestSlice) → p x ≡ true) → (xs : List TestSlice) → filter p xs ≡ xs
unfolding filter
filter_all p every [] = refl
filter_all p every (x ∷ xs) = ap₂ (picked x) (every x) (filter_all p every xs)

pub filter_empty : (p : TestSlice → Bool) (xs : List TestSlice) → filter p xs ≡ [] → (i : ℕ) (d : TestSlice) → i < length xs → p (get_or xs i d) ≡ false
unfolding filter
filter_empty p [] e i d h = absurd (not-suc-le-zero h)
filter_empty p (x ∷ xs) e i d h = go (p x) refl e i h (λ e k l. filter_empty p xs e k d l)
  where
    go : (b : Bool) → p x ≡ b → picked x b (filter p xs) ≡ [] → (i : ℕ) → i < length (x ∷ xs) → (filter p xs ≡ [] → (k : ℕ) → k < length xs → p (get_or xs k d) ≡ false) → p (get_or (x ∷ xs) i d) ≡ false
    go true t e i h ih = absurd (let z : ◌≡◌ {A = ℕ} (suc (length (filter p xs))) 0 = ap length e in omega arith)
    go false t e zero h ih = t
    go false t e (suc i) h ih = ih e i (le_of_suc-le-suc h)

pub filter_apart : (p r : TestSlice → Bool) → ((x : TestSlice) → p x ≡ true → r x ≡ false) → (xs : List TestSlice) → filter r (filter p xs) ≡ []
unfolding filter
filter_apart p r apart [] = refl
filter_apart p r apart (x ∷ xs) = go (p x) refl (filter_apart p r apart xs)
  where
    go : (b : Bool) → p x ≡ b → filter r (filter p xs) ≡ [] → filter r (picked x b (filter p xs)) ≡ []
    go true e ih = rw (apart x e, filter) ih
    go false e ih = ih

pub filter_parts : (p r : TestSlice → Bool) → ((x : TestSlice) → p x ≡ true → r x ≡ false) → (xs : List TestSlice) → length (filter p xs) + length (filter r xs) ≤ length xs
unfolding filter
filter_parts p r apart [] = omega arith
filter_parts p r apart (x ∷ xs) = go (p x) (r x) refl refl (filter_parts p r apart xs)
  where
    go : (b c : Bool) → p x ≡ b → r x ≡ c → length (filter p xs) + length (filter r xs) ≤ length xs → length (picked x b (filter p xs)) + length (picked x c (filter r xs)) ≤ length (x ∷ xs)
    go true true e f ih = absurd (clash (r x) f (apart x e))
    go true false e f ih = omega arith
    go false true e f ih = omega arith
    go false false e f ih = omega arith
