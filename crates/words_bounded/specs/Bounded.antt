-- Bounded search over a test on numbers.
--     within low high n     n is one of low .. high ("1 to 64")
--     any p l               some member of the list passes
--     least_below p n        the least number below n that passes, or none
--     last_below p n         the greatest number below n that passes, or none
--     NoneBelow p n         no number below n passes
--     Least p n g, Last p n g     g is the least, the greatest, number below n that passes
use Rattle.std.specs.Prelude.{◌≡◌, Bool, true, false, ◌&&◌, ◌||◌, List, [], ◌∷◌, ℕ, zero, suc, ◌≤◌, ◌<◌, leb, None, Option, Some}

unfoldable pub within : ℕ → ℕ → ℕ → Bool
within low high n = leb low n && leb n high

unfoldable pub any {ℓ} : {A : Type ℓ} → (A → Bool) → List A → Bool
any p [] = false
any p (x ∷ xs) = p x || any p xs

-- The search goes up: what is found below n stands before n itself.
unfoldable pub least_below : (ℕ → Bool) → ℕ → Option ℕ
least_below p zero = None
least_below p (suc n) = elim (least_below p n) [ Some g ↦ Some g | None ↦ elim (p n) [ true ↦ Some n | false ↦ None ] ]

-- The search goes down: the first that passes is the greatest.
unfoldable pub last_below : (ℕ → Bool) → ℕ → Option ℕ
last_below p zero = None
last_below p (suc n) = elim (p n) [ true ↦ Some n | false ↦ last_below p n ]

abbrev pub NoneBelow : (ℕ → Bool) → ℕ → Type 0
NoneBelow p n = (k : ℕ) → k < n → p k ≡ false

pub record Least (p : ℕ → Bool) (n g : ℕ) : Type 0 where
  pub below : g < n
  pub passes : p g ≡ true
  pub least : (k : ℕ) → k < g → p k ≡ false

pub record Last (p : ℕ → Bool) (n g : ℕ) : Type 0 where
  pub below : g < n
  pub passes : p g ≡ true
  pub greatest : (k : ℕ) → k < n → p k ≡ true → k ≤ g
