-- What a search finds.
--     Below found s        s is lower than what was found
--     Kept Passes a r      r is a, or a passing state of 64 bits below it
--     Reached found s      what was found is s or lower
--     Finds Passes a r     r is a or a passing state below it, and every passing state is reached by r
--     kept_on, reached_on  one search after another
--     kept_state           a state that was found passes
--     lower-reached, lower_not     the lower of a and a state, by the test whether a is as low
--     finds_lower          the lower of a and the lowest passing state
--     finds_is, is_finds   r is the lower of a and the lowest state that passes: the same as an equation
-- Passes is a property of words of 64 bits.
-- Assumes nothing.
use Rattle.std.specs.Prelude.{None, Option, Some}
use mathlib.Core.Path.{◌≡◌, refl, sym, ap, ◌∙◌, subst}
use mathlib.Core.Logic.{◌⊎◌, inl, inr, ⊎_elim}
use mathlib.Core.Bool.{Bool, true, false}
use Prim.Native.Nat.{ℕ, ◌^◌, ◌≤◌, ◌<◌}
use native.Mathlib.Omega.{arith}
use borrow.Author.Tests.{le-leb, lt-leb}
use Rattle.words_bounded.specs.Bounded.{least_below}
use Rattle.words_bounded.proofs.Search.{LeastIs, least_is}
use Rattle.words_bounded.proofs.Tests.{clash, lt_or_le}
use Rattle.search_found.specs.Lower.{lower, reached}

abbrev pub Below : Option ℕ → ℕ → Type 0
Below (Some b) s = s < b
Below None s = Unit {0}

abbrev pub Kept : (ℕ → Type 0) → Option ℕ → Option ℕ → Type 0
Kept Passes a r = (r ≡ a) ⊎ ((s : ℕ) × (r ≡ Some s) × (s < 2 ^ 64) × Passes s × Below a s)

abbrev pub Reached : Option ℕ → ℕ → Type 0
Reached (Some b) s = b ≤ s
Reached None s = ⊥

pub record Finds (Passes : ℕ → Type 0) (a r : Option ℕ) : Type 0 where
  pub kept : Kept Passes a r
  pub all : (s : ℕ) → s < 2 ^ 64 → Passes s → Reached r s

below_on : (a : Option ℕ) (s t : ℕ) → s < t → Below a t → Below a s
below_on (Some q) s t l h = omega arith
below_on None s t l h = tt

module _ (P : ℕ → Type 0) where
  pub reached_on : (a r : Option ℕ) (s : ℕ) → Kept P a r → Reached a s → Reached r s
  reached_on a r s (inl e) h = subst (λ (f : Option ℕ). Reached f s) (sym e) h
  reached_on (Some q) r s (inr k) h = subst (λ (f : Option ℕ). Reached f s) (sym k.1) (let l : k.0 < q = k.4 in omega arith)
  reached_on None r s (inr k) h = absurd h

  -- Q is a part of P
  pub kept_on : (Q : ℕ → Type 0) (a b r : Option ℕ) → ((s : ℕ) → Q s → P s) → Kept P a b → Kept Q b r → Kept P a r
  kept_on Q a b r sub k (inl e) = subst (λ (f : Option ℕ). Kept P a f) (sym e) k
  kept_on Q a b r sub (inl e) (inr n) = inr (n.0, n.1, n.2, sub n.0 n.3, subst (λ (f : Option ℕ). Below f n.0) e n.4)
  kept_on Q a b r sub (inr k) (inr n) =
      inr (
        n.0,
        n.1,
        n.2,
        sub n.0 n.3,
        below_on a n.0 k.0 (subst (λ (f : Option ℕ). Below f n.0) k.1 n.4) k.4,
      )

-- a state that was found where nothing was before
pub kept_state : (P : ℕ → Type 0) (r : Option ℕ) (s : ℕ) → r ≡ Some s → Kept P None r → (s < 2 ^ 64) × P s
kept_state P r s e (inl q) = absurd (let z : ◌≡◌ {A = ℕ} 0 1 = cc in omega arith)
kept_state P r s e (inr k) = let q : k.0 ≡ s = cc in subst (λ (t : ℕ). (t < 2 ^ 64) × P t) q (k.2, k.3)

-- ---- the same as an equation with the least state that passes a test

lower-left : (a : Option ℕ) (g : ℕ) → Reached a g → lower a (Some g) ≡ a
lower-left (Some b) g h = rw (le-leb b g h, lower)
lower-left None g h = absurd h

lower_right : (a : Option ℕ) (g : ℕ) → Below a g → lower a (Some g) ≡ Some g
lower_right (Some b) g h = rw (lt-leb b g h, lower)
lower_right None g h = refl

pub lower-reached : (a : Option ℕ) (g : ℕ) → reached a g ≡ true → lower a (Some g) ≡ a
lower-reached (Some b) g e = rw (e, lower)
lower-reached None g e = absurd (clash false e refl)

pub lower_not : (a : Option ℕ) (g : ℕ) → reached a g ≡ false → lower a (Some g) ≡ Some g
lower_not (Some b) g e = rw (e, lower)
lower_not None g e = refl

lower-none : (a : Option ℕ) → lower a None ≡ a
lower-none (Some b) = refl
lower-none None = refl

reached_or_below : (a : Option ℕ) (g : ℕ) → Reached a g ⊎ Below a g
reached_or_below (Some b) g = ⊎_elim (λ l. inr l) (λ l. inl l) (lt_or_le g b)
reached_or_below None g = inr tt

-- the lower of a and a passing state that is as low as all others
pub finds_lower : (P : ℕ → Type 0) (a r : Option ℕ) (g : ℕ) → g < 2 ^ 64 → P g → ((s : ℕ) → s < 2 ^ 64 → P s → g ≤ s) → r ≡ lower a (Some g) → Finds P a r
finds_lower P a r g w t l e = subst (λ (f : Option ℕ). Finds P a f) (sym e) (⊎_elim
    (λ h. record {
      kept = inl (lower-left a g h);
      all = λ s b q. subst (λ (f : Option ℕ). Reached f s) (sym (lower-left a g h)) (reached_up a g s h (l s b q));
    })
    (λ h. record {
      kept = inr (g, lower_right a g h, w, t, h);
      all = λ s b q. subst (λ (f : Option ℕ). Reached f s) (sym (lower_right a g h)) (l s b q);
    })
    (reached_or_below a g))
  where
    reached_up : (a : Option ℕ) (g s : ℕ) → Reached a g → g ≤ s → Reached a s
    reached_up (Some b) g s h k = omega arith
    reached_up None g s h k = absurd h

module _ (p : ℕ → Bool) where
  abbrev P : ℕ → Type 0
  P s = p s ≡ true

  pub finds_is : (a r : Option ℕ) → Finds P a r → r ≡ lower a ((least_below p (2 ^ 64)))
  finds_is a r f = go (least_below p (2 ^ 64)) (least_is p (2 ^ 64)) f.kept
    where
      go : (o : Option ℕ) → LeastIs p (2 ^ 64) o → Kept P a r → r ≡ lower a (o)
      go None n (inl e) = e ∙ sym (lower-none a)
      go None n (inr k) = absurd (clash (p k.0) k.3 (n k.0 k.2))
      go (Some g) l (inl e) = e ∙ sym (lower-left a g (subst (λ (t : Option ℕ). Reached t g) e (f.all g l.below l.passes)))
      go (Some g) l (inr k) =
          let h : k.0 ≤ g = subst (λ (t : Option ℕ). Reached t g) k.1 (f.all g l.below l.passes) in
          let e : k.0 ≡ g = ⊎_elim (λ lt. absurd (clash (p k.0) k.3 (l.least k.0 lt))) (λ ge. omega arith) (lt_or_le k.0 g) in
          k.1 ∙ ap Some e ∙ sym (lower_right a g (subst (λ (t : ℕ). Below a t) e k.4))

  pub is_finds : (a r : Option ℕ) → r ≡ lower a ((least_below p (2 ^ 64))) → Finds P a r
  is_finds a r e = subst (λ (t : Option ℕ). Finds P a t) (sym e) (go (least_below p (2 ^ 64)) (least_is p (2 ^ 64)))
    where
      go : (o : Option ℕ) → LeastIs p (2 ^ 64) o → Finds P a (lower a (o))
      go None n = record { kept = inl (lower-none a); all = λ s h t. absurd (clash (p s) t (n s h)) }
      go (Some g) l = finds_lower P a (lower a (Some g)) g l.below l.passes (λ s b t. ⊎_elim (λ lt. absurd (clash (p s) t (l.least s lt))) (λ ge. ge) (lt_or_le s g)) refl
