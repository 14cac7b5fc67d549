-- Laws of `any`.
--     any_take, any_drop     where no member passes, none of the first and none of the last does
--     any_at, any_place      where no member passes, that at a place does not; where some does, there is a place where it stands
--     any_list     std's test of a list is the same
-- Assumes nothing.
use mathlib.Core.Path.{◌≡◌, refl}
use mathlib.Core.Bool.{Bool, true, false}
use mathlib.Core.List.{List, [], ◌∷◌}
use mathlib.Core.Logic.{⊎_elim}
use Prim.Native.Nat.{ℕ, zero, suc, ◌<◌}
use native.Mathlib.Nat.{not-suc-le-zero, le_of_suc-le-suc}
use native.Mathlib.Omega.{arith}
use lib.ListN.{length, get_or, take, drop}
use Rattle.std.specs.List.{list_any}
use Rattle.words_bounded.specs.Bounded.{any}
use Rattle.words_bounded.proofs.Tests.{clash, neither, either}

module _ {ℓ} {A : Type ℓ} (p : A → Bool) where
  pub any_take : (k : ℕ) (l : List A) → any p l ≡ false → any p (take k l) ≡ false
  unfolding any
  any_take zero l h = refl
  any_take (suc k) [] h = h
  any_take (suc k) (x ∷ l) h = let a = neither (p x) (any p l) h in rw a.0 (any_take k l a.1)

  pub any_drop : (k : ℕ) (l : List A) → any p l ≡ false → any p (drop k l) ≡ false
  unfolding any
  any_drop zero l h = h
  any_drop (suc k) [] h = h
  any_drop (suc k) (x ∷ l) h = any_drop k l (neither (p x) (any p l) h).1

  pub any_at : (l : List A) → any p l ≡ false → (i : ℕ) (d : A) → i < length l → p (get_or l i d) ≡ false
  unfolding any
  any_at [] h i d b = absurd (not-suc-le-zero b)
  any_at (x ∷ l) h zero d b = (neither (p x) (any p l) h).0
  any_at (x ∷ l) h (suc i) d b = any_at l (neither (p x) (any p l) h).1 i d (le_of_suc-le-suc b)

  pub any_place : (l : List A) (d : A) → any p l ≡ true → (i : ℕ) × ((i < length l) × (p (get_or l i d) ≡ true))
  unfolding any
  any_place [] d t = absurd (clash false t refl)
  any_place (x ∷ l) d t = ⊎_elim (λ here. (0, (omega arith, here))) (λ there. (let q = any_place l d there in (suc q.0, (omega (arith, q.1.0), q.1.1)))) (either (p x) (any p l) t)

pub any_list : {A : Type 0} (p : A → Bool) (l : List A) → any p l ≡ list_any p l
unfolding any
any_list p [] = refl
any_list p (x ∷ l) = rw (any_list p l)
