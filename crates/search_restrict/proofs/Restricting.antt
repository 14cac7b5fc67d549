-- A space restricted by an equation.
--     shifted-same, shifted-other     the lowest member, by what the lowest member of the whole reads
--     shifted_none, single_yes, single_no, single_left     a space of one state is only read
--     restricted_yes, restricted_no     the answer of `restrict`
--     restricts, restricted-left     a space is left: it is the one that the equation gives, and its lowest member reads the bit; its vectors, read off the buffer
--     restricted_none     none is left: the lowest member does not read the bit
--     restrict_sound, restrict_complete     the members are exactly those of the whole that read the wanted bit
--     restrict_rising                       the vectors rise still
-- Assumes nothing.
use mathlib.Core.Path.{◌≡◌, refl, sym, ap, ◌∙◌, subst}
use Rattle.std.specs.Prelude.{Option, Some, None}
use Rattle.std.proofs.lemmas.Option.{none-some, same_Some}
use mathlib.Core.Bool.{Bool, true, false}
use mathlib.Core.List.{List, ◌++◌}
use Prim.Native.Nat.{ℕ, ◌<◌}
use native.Mathlib.Omega.{arith}
use lib.Bits.{bit_xor, xor_zero_r}
use lib.Dec.{eqb}
use lib.ListN.{length, take, drop}
use lib.Seq.{take_at}
use borrow.Author.Tests.{eqb-true, eqb-false, eq-eqb, ne_eqb}
use Rattle.words_gf2.specs.Words.{odd}
use Rattle.words_gf2.proofs.Parity.{odd_lt, xor-odd}
use Rattle.words_gf2.proofs.Xor.{xor_twice}
use Rattle.search_restrict.specs.Restricted.{shifted, restricted}
use Rattle.search_pivot.specs.Pivot.{pivot, without}
use Rattle.search_space.specs.Space.{Rising}
use Rattle.search_space.specs.declared.Space.{Space}
use Rattle.search_pivot.specs.declared.Taken.{Taken}
use Rattle.search_space.proofs.Members.{Among}
use Rattle.search_pivot.proofs.Pivot.{no_pivot, kept_alike, alike_kept, pivot_moves, rising_kept, rising_moved, pivot_parity}

shifted_none : (mask b x : ℕ) → shifted mask b x 0 ≡ x
unfolding shifted
shifted_none mask b x = go (eqb (odd x mask) b) refl
  where
    go : (t : Bool) → eqb (odd x mask) b ≡ t → shifted mask b x 0 ≡ x
    go true e = rw (e, shifted)
    go false e = rw (e, shifted) (xor_zero_r x)

-- a space of one state is only read
module _ (mask b : ℕ) (l : List ℕ) (y : Space) (single : y.free ≡ 0) where
  same_lowest : shifted mask b y.lowest (pivot mask (take y.free l)) ≡ y.lowest
  unfolding pivot
  same_lowest = rw single (shifted_none mask b y.lowest)

  none_free : length (without mask (take y.free l)) ≡ y.free
  unfolding without
  none_free = rw single

  pub single_yes : odd y.lowest mask ≡ b → Some y ≡ restricted mask b (take y.free l) y
  unfolding restricted
  single_yes e = rw (restricted, eq-eqb (odd (shifted mask b y.lowest (pivot mask (take y.free l))) mask) b (ap (λ (u : ℕ). odd u mask) same_lowest ∙ e), same_lowest, none_free)

  pub single_no : (odd y.lowest mask ≡ b → ⊥) → None ≡ restricted mask b (take y.free l) y
  unfolding restricted
  single_no n = rw (restricted, same_lowest, ne_eqb (odd y.lowest mask) b n)

  pub single_left : l ≡ without mask (take y.free l) ++ drop (length (without mask (take y.free l))) l
  unfolding without
  single_left = rw single

module _ (mask b x p : ℕ) where
  pub shifted-same : odd x mask ≡ b → shifted mask b x p ≡ x
  unfolding shifted
  shifted-same e = rw (eq-eqb (odd x mask) b e, shifted)

  pub shifted-other : (odd x mask ≡ b → ⊥) → shifted mask b x p ≡ bit_xor x p
  unfolding shifted
  shifted-other n = rw (ne_eqb (odd x mask) b n, shifted)

-- ---- the answer of `restrict`
module _ (mask b : ℕ) (vs : List ℕ) (y : Space) where
  abbrev part : ℕ → ℕ → Space
  part x n = record { lowest = x; free = n }

  abbrev first : ℕ
  first = shifted mask b y.lowest (pivot mask vs)

  module _ (t : Taken) (x : ℕ) (e : t ≡ record { pivot = pivot mask vs; left = length (without mask vs) }) (q : x ≡ shifted mask b y.lowest t.pivot) where
    low_is : x ≡ first
    low_is = q ∙ ap (λ (u : Taken). shifted mask b y.lowest u.pivot) e

    pub restricted_yes : odd x mask ≡ b → Some (part x t.left) ≡ restricted mask b vs y
    unfolding restricted
    restricted_yes r = rw (restricted, eq-eqb (odd first mask) b (ap (λ (u : ℕ). odd u mask) (sym low_is) ∙ r), low_is, e)

    pub restricted_no : (odd x mask ≡ b → ⊥) → None ≡ restricted mask b vs y
    unfolding restricted
    restricted_no n = rw (restricted, ne_eqb (odd first mask) b (λ r. n (ap (λ (u : ℕ). odd u mask) low_is ∙ r)))

  -- what is left
  abbrev rest_of : Bool → Option Space
  rest_of t = elim t [ true ↦ Some (part first (length (without mask vs))) | false ↦ None ]

  pub restricts : (r : Space) → restricted mask b vs y ≡ Some r → (r ≡ part first (length (without mask vs))) × (odd first mask ≡ b)
  unfolding restricted
  restricts r = go (eqb (odd first mask) b) refl
    where
      go : (t : Bool) → eqb (odd first mask) b ≡ t → rest_of t ≡ Some r → (r ≡ part first (length (without mask vs))) × (odd first mask ≡ b)
      go true e q = (sym (same_Some _ r q), eqb-true (odd first mask) b e)
      go false e q = absurd (none-some r q)

  pub restricted-left : (r : Space) (out rest : List ℕ) → restricted mask b vs y ≡ Some r → out ≡ without mask vs ++ rest → take r.free out ≡ without mask vs
  restricted-left r out rest e q = rw ((restricts r e).0, q) (take_at (without mask vs) rest (length (without mask vs)) refl)

  pub restricted_none : restricted mask b vs y ≡ None → odd first mask ≡ b → ⊥
  unfolding restricted
  restricted_none n e = none-some _ (sym (rw (restricted, eq-eqb (odd first mask) b e) at n))

-- ---- what is left of a space

module _ (mask b : ℕ) (vs : List ℕ) (x : ℕ) where
  abbrev low : ℕ
  low = shifted mask b x (pivot mask vs)

  -- what it says: members that read the wanted bit
  pub restrict_sound : odd low mask ≡ b → (s : ℕ) → Among low (without mask vs) s → Among x vs s × (odd s mask ≡ b)
  restrict_sound r s a = go (eqb (odd x mask) b) refl
    where
      go : (t : Bool) → eqb (odd x mask) b ≡ t → Among x vs s × (odd s mask ≡ b)
      go true e =
          let q = eqb-true (odd x mask) b e in
          let k = kept_alike mask vs x s (subst (λ (z : ℕ). Among z (without mask vs) s) (shifted-same mask b x (pivot mask vs) q) a) in
          (k.0, k.1 ∙ q)
      go false e =
          let n = eqb-false (odd x mask) b e in
          let o = shifted-other mask b x (pivot mask vs) n in
          let k = kept_alike mask vs low s a in
          let p : pivot mask vs ≡ 0 → ⊥ = λ z. n (sym (ap (λ (u : ℕ). odd u mask) (o ∙ rw (z, xor_zero_r))) ∙ r) in
          let m = pivot_moves mask vs (bit_xor x (pivot mask vs)) s p (subst (λ (z : ℕ). Among z vs s) o k.0) in
          (subst (λ (z : ℕ). Among z vs s) (xor_twice x (pivot mask vs)) m, k.1 ∙ r)

  -- and all of them
  pub restrict_complete : b < 2 → (s : ℕ) → Among x vs s → odd s mask ≡ b → (odd low mask ≡ b) × Among low (without mask vs) s
  restrict_complete lt s a q = go (eqb (odd x mask) b) refl
    where
      go : (t : Bool) → eqb (odd x mask) b ≡ t → (odd low mask ≡ b) × Among low (without mask vs) s
      go true e =
          let p = eqb-true (odd x mask) b e in
          let o = shifted-same mask b x (pivot mask vs) p in
          (ap (λ (u : ℕ). odd u mask) o ∙ p, subst (λ (z : ℕ). Among z (without mask vs) s) (sym o) (alike_kept mask vs x s a (q ∙ sym p)))
      go false e =
          let n = eqb-false (odd x mask) b e in
          let o = shifted-other mask b x (pivot mask vs) n in
          let p : pivot mask vs ≡ 0 → ⊥ = λ z. n (sym (no_pivot mask vs x s z a) ∙ q) in
          let r : odd low mask ≡ b = ap (λ (u : ℕ). odd u mask) o ∙ omega (arith, xor-odd x (pivot mask vs) mask, pivot_parity mask vs p, odd_lt x mask) in
          (r, alike_kept mask vs low s (subst (λ (z : ℕ). Among z vs s) (sym o) (pivot_moves mask vs x s p a)) (q ∙ sym r))

  pub restrict_rising : odd low mask ≡ b → {l : ℕ} → Rising x l vs → Rising low l (without mask vs)
  restrict_rising r {l} h = go (eqb (odd x mask) b) refl
    where
      go : (t : Bool) → eqb (odd x mask) b ≡ t → Rising low l (without mask vs)
      go true e = subst (λ (z : ℕ). Rising z l (without mask vs)) (sym (shifted-same mask b x (pivot mask vs) (eqb-true (odd x mask) b e))) (rising_kept mask vs h)
      go false e =
          let n = eqb-false (odd x mask) b e in
          let o = shifted-other mask b x (pivot mask vs) n in
          let p : pivot mask vs ≡ 0 → ⊥ = λ z. n (sym (ap (λ (u : ℕ). odd u mask) (o ∙ rw (z, xor_zero_r))) ∙ r) in
          subst (λ (z : ℕ). Rising z l (without mask vs)) (sym o) (rising_moved mask vs p h)
