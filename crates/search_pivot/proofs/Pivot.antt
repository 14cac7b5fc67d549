-- The pivot of a mask taken out of a space.
--     parity            a vector is even or odd under the mask
--     added_even, added-odd, pivot_even, pivot-odd, without_even, without-odd     one vector more, by its parity
--     odd_some          an odd vector is not 0
--     no_pivot          without a pivot all members have one parity
--     kept_alike        what is left are members of the parity of x
--     alike_kept        and all of them
--     pivot_moves       a member stays one when the pivot is added to x
--     without_shorter, without-same     where there is a pivot, one vector is gone; otherwise none
--     pivot_parity      the pivot is odd
--     rising_kept, rising_moved     the vectors rise still, from x and from x with the pivot added
-- Assumes nothing.
use mathlib.Core.Path.{◌≡◌, refl, sym, ap, ◌∙◌, subst}
use mathlib.Core.Logic.{◌⊎◌, inl, inr, ⊎_elim}
use mathlib.Core.List.{List, [], ◌∷◌, map}
use Prim.Native.Nat.{ℕ, zero, suc, ◌^◌, ◌≤◌, ◌<◌}
use native.Mathlib.Nat.{zero-lt-suc, lt_of_lt_of_le}
use native.Mathlib.Omega.{arith}
use lib.Bits.{bit_xor}
use lib.ListN.{length, length-map}
use lib.Pow.{pow_mono}
use borrow.Author.Tests.{eq-eqb, ne_eqb}
use Rattle.words_bounded.proofs.Tests.{bit_cases}
use Rattle.words_gf2.specs.Words.{digit, odd}
use Rattle.words_gf2.proofs.Digits.{digit_wide}
use Rattle.words_gf2.proofs.Parity.{odd_lt, odd_zero_l, xor-odd}
use Rattle.words_gf2.proofs.Xor.{xor_assoc, xor_swap, xor_twice, highest_below, highest_kept}
use Rattle.search_pivot.specs.Pivot.{added, pivot, without}
use Rattle.search_space.specs.Space.{ZeroAt, Rising, none, more}
use Rattle.search_space.proofs.Members.{Among, zero_sum, rising_add}

pub parity : (mask w : ℕ) → (odd w mask ≡ 0) ⊎ (odd w mask ≡ 1)
parity mask w = bit_cases (odd w mask) (odd_lt w mask)

module _ (mask : ℕ) where
  pub added_even : (p w : ℕ) → odd w mask ≡ 0 → added mask p w ≡ w
  unfolding added
  added_even p w e = rw (ne_eqb (odd w mask) 1 (omega arith), added)

  pub added-odd : (p w : ℕ) → odd w mask ≡ 1 → added mask p w ≡ bit_xor w p
  unfolding added
  added-odd p w e = rw (eq-eqb (odd w mask) 1 e, added)

  pub pivot_even : (v : ℕ) (vs : List ℕ) → odd v mask ≡ 0 → pivot mask (v ∷ vs) ≡ pivot mask vs
  unfolding pivot
  pivot_even v vs e = rw (ne_eqb (odd v mask) 1 (omega arith), pivot)

  pub pivot-odd : (v : ℕ) (vs : List ℕ) → odd v mask ≡ 1 → pivot mask (v ∷ vs) ≡ v
  unfolding pivot
  pivot-odd v vs e = rw (eq-eqb (odd v mask) 1 e, pivot)

  pub without_even : (v : ℕ) (vs : List ℕ) → odd v mask ≡ 0 → without mask (v ∷ vs) ≡ v ∷ without mask vs
  unfolding without
  without_even v vs e = rw (ne_eqb (odd v mask) 1 (omega arith), without)

  pub without-odd : (v : ℕ) (vs : List ℕ) → odd v mask ≡ 1 → without mask (v ∷ vs) ≡ map (added mask v) vs
  unfolding without
  without-odd v vs e = rw (eq-eqb (odd v mask) 1 e, without)

  pub odd_some : (v : ℕ) → odd v mask ≡ 1 → v ≡ 0 → ⊥
  odd_some v e z = let q : odd v mask ≡ 0 = ap (λ (y : ℕ). odd y mask) z ∙ odd_zero_l mask in omega arith

  same_parity : (y v s : ℕ) → odd v mask ≡ 0 → odd s mask ≡ odd y mask → odd s mask ≡ odd (bit_xor y v) mask
  same_parity y v s e q = omega (arith, xor-odd y v mask, odd_lt y mask)

  -- ---- one odd vector p, added to the later ones

  module _ (p : ℕ) (op : odd p mask ≡ 1) where
    abbrev add : List ℕ → List ℕ
    add vs = map (added mask p) vs

    added_alike : (w : ℕ) → odd (added mask p w) mask ≡ 0
    added_alike w = ⊎_elim (λ e. rw (added_even p w e) e) (λ e. rw (added-odd p w e) (omega (arith, xor-odd w p mask))) (parity mask w)

    alike : (vs : List ℕ) (x s : ℕ) → Among x (add vs) s → odd s mask ≡ odd x mask
    unfolding Among
    alike [] x s a = ap (λ (y : ℕ). odd y mask) a
    alike (v ∷ vs) x s (inl a) = alike vs x s a
    alike (v ∷ vs) x s (inr a) =
        alike vs (bit_xor x (added mask p v)) s a ∙ sym (same_parity x (added mask p v) x (added_alike v) refl)

    -- without the sums, a member starts from y, or from y with p added
    abbrev Both : ℕ → List ℕ → ℕ → Type 0
    Both y vs s = Among y vs s ⊎ Among (bit_xor y p) vs s

    swapped : (vs : List ℕ) (y v s : ℕ) → Among (bit_xor (bit_xor y v) p) vs s → Among (bit_xor (bit_xor y p) v) vs s
    swapped vs y v s a = subst (λ (t : ℕ). Among t vs s) (xor_swap y v p) a

    back : (vs : List ℕ) (y s : ℕ) → Among (bit_xor (bit_xor y p) p) vs s → Among y vs s
    back vs y s a = subst (λ (t : ℕ). Among t vs s) (xor_twice y p) a

    add_sound : (vs : List ℕ) (y s : ℕ) → Among y (add vs) s → Both y vs s
    unfolding Among
    add_sound [] y s a = inl a
    add_sound (v ∷ vs) y s (inl a) = ⊎_elim (λ c. inl (inl c)) (λ c. inr (inl c)) (add_sound vs y s a)
    add_sound (v ∷ vs) y s (inr a) = ⊎_elim
        (λ e. ⊎_elim (λ c. inl (inr c)) (λ c. inr (inr (swapped vs y v s c)))
        (add_sound vs (bit_xor y v) s (subst (λ (t : ℕ). Among (bit_xor y t) (add vs) s) (added_even p v e) a)))
        (λ e. ⊎_elim (λ c. inr (inr (swapped vs y v s c))) (λ c. inl (inr (back vs (bit_xor y v) s c)))
        (add_sound vs (bit_xor (bit_xor y v) p) s (subst (λ (t : ℕ). Among t (add vs) s) (ap (bit_xor y) (added-odd p v e) ∙ sym (xor_assoc y v p)) a)))
        (parity mask v)

    abbrev Complete : List ℕ → Type 0
    Complete vs = (y s : ℕ) → odd s mask ≡ odd y mask → Both y vs s → Among y (add vs) s

    -- one vector more, that is used
    used : (v : ℕ) (vs : List ℕ) → Complete vs → (y s : ℕ) → odd s mask ≡ odd y mask → Both (bit_xor y v) vs s → Among (bit_xor y (added mask p v)) (add vs) s
    used v vs ih y s q b = ⊎_elim
        (λ e. subst (λ (t : ℕ). Among (bit_xor y t) (add vs) s) (sym (added_even p v e)) (ih (bit_xor y v) s (same_parity y v s e q) b))
        (λ e. subst (λ (t : ℕ). Among t (add vs) s) (xor_assoc y v p ∙ sym (ap (bit_xor y) (added-odd p v e)))
        (ih (bit_xor (bit_xor y v) p) s (omega (arith, xor-odd (bit_xor y v) p mask, xor-odd y v mask, odd_lt y mask))
        (⊎_elim (λ c. inr (subst (λ (t : ℕ). Among t vs s) (sym (xor_twice (bit_xor y v) p)) c)) (λ c. inl c) b)))
        (parity mask v)

    add_complete : (vs : List ℕ) → Complete vs
    unfolding Among
    add_complete [] y s q (inl a) = a
    add_complete [] y s q (inr a) = absurd (omega (arith, xor-odd y p mask, odd_lt y mask, ap (λ (t : ℕ). odd t mask) a))
    add_complete (v ∷ vs) y s q (inl (inl c)) = inl (add_complete vs y s q (inl c))
    add_complete (v ∷ vs) y s q (inr (inl c)) = inl (add_complete vs y s q (inr c))
    add_complete (v ∷ vs) y s q (inl (inr c)) = inr (used v vs (add_complete vs) y s q (inl c))
    add_complete (v ∷ vs) y s q (inr (inr c)) = inr (used v vs (add_complete vs) y s q (inr (subst (λ (t : ℕ). Among t vs s) (xor_swap y p v) c)))

    -- ---- the rise

    zero_added : (h : ℕ) (vs : List ℕ) → digit p h ≡ 0 → ZeroAt h vs → ZeroAt h (add vs)
    zero_added h [] zp o k l = absurd (omega arith)
    zero_added h (v ∷ vs) zp o zero l = ⊎_elim
        (λ e. rw (added_even p v e) (o 0 (zero-lt-suc (length vs))))
        (λ e. rw (added-odd p v e) (zero_sum v p h (o 0 (zero-lt-suc (length vs))) zp))
        (parity mask v)
    zero_added h (v ∷ vs) zp o (suc k) l = zero_added h vs zp (λ j g. o (suc j) (omega arith)) k (omega arith)

    -- vectors above p; l' is any lower bound
    rising_added : (x l l' : ℕ) (vs : List ℕ) → p < 2 ^ l → l' ≤ l → Rising x l vs → Rising x l' (add vs)
    rising_added x l l' [] h g none = none
    rising_added x l l' (v ∷ vs) h g (more t a e z o r) =
        let below : p < 2 ^ t = lt_of_lt_of_le h (pow_mono {i = l} {j = t} a) in
        more {l = l'} {v = added mask p v} t (omega arith)
        (⊎_elim (λ q. rw (added_even p v q) e) (λ q. rw (added-odd p v q) (highest_kept v p t e below)) (parity mask v))
        z
        (zero_added t vs (digit_wide l p t a h) o)
        (rising_added x (suc t) (suc t) vs (lt_of_lt_of_le h (pow_mono {i = l} {j = suc t} (omega arith))) (omega arith) r)

  -- ---- the whole list

  pub no_pivot : (vs : List ℕ) (x s : ℕ) → pivot mask vs ≡ 0 → Among x vs s → odd s mask ≡ odd x mask
  unfolding Among
  no_pivot [] x s z a = ap (λ (y : ℕ). odd y mask) a
  no_pivot (v ∷ vs) x s z a = ⊎_elim
      (λ e. ⊎_elim
      (λ b. no_pivot vs x s (sym (pivot_even v vs e) ∙ z) b)
      (λ b. no_pivot vs (bit_xor x v) s (sym (pivot_even v vs e) ∙ z) b ∙ sym (same_parity x v x e refl))
      a)
      (λ e. absurd (odd_some v e (sym (pivot-odd v vs e) ∙ z)))
      (parity mask v)

  pub kept_alike : (vs : List ℕ) (x s : ℕ) → Among x (without mask vs) s → Among x vs s × (odd s mask ≡ odd x mask)
  unfolding Among without
  kept_alike [] x s a = (a, ap (λ (y : ℕ). odd y mask) a)
  kept_alike (v ∷ vs) x s a = ⊎_elim
      (λ e. kept_even e (subst (λ (l : List ℕ). Among x l s) (without_even v vs e) a) (λ y b. kept_alike vs y s b))
      (λ e.
      let b : Among x (map (added mask v) vs) s = subst (λ (l : List ℕ). Among x l s) (without-odd v vs e) a in
      (add_sound v e vs x s b, alike v e vs x s b))
      (parity mask v)
    where
      kept_even : odd v mask ≡ 0 → Among x (without mask vs) s ⊎ Among (bit_xor x v) (without mask vs) s
          → ((y : ℕ) → Among y (without mask vs) s → Among y vs s × (odd s mask ≡ odd y mask)) → (Among x vs s ⊎ Among (bit_xor x v) vs s) × (odd s mask ≡ odd x mask)
      kept_even e (inl b) ih = (inl (ih x b).0, (ih x b).1)
      kept_even e (inr b) ih = (inr (ih (bit_xor x v) b).0, (ih (bit_xor x v) b).1 ∙ sym (same_parity x v x e refl))

  pub alike_kept : (vs : List ℕ) (x s : ℕ) → Among x vs s → odd s mask ≡ odd x mask → Among x (without mask vs) s
  unfolding Among without
  alike_kept [] x s a q = a
  alike_kept (v ∷ vs) x s a q = ⊎_elim
      (λ e. subst (λ (l : List ℕ). Among x l s) (sym (without_even v vs e))
      (⊎_elim (λ b. inl (alike_kept vs x s b q)) (λ b. inr (alike_kept vs (bit_xor x v) s b (same_parity x v s e q))) a))
      (λ e. subst (λ (l : List ℕ). Among x l s) (sym (without-odd v vs e)) (add_complete v e vs x s q a))
      (parity mask v)

  pub pivot_moves : (vs : List ℕ) (x s : ℕ) → (pivot mask vs ≡ 0 → ⊥) → Among x vs s → Among (bit_xor x (pivot mask vs)) vs s
  unfolding Among pivot
  pivot_moves [] x s n a = absurd (n refl)
  pivot_moves (v ∷ vs) x s n a = ⊎_elim
      (λ e. subst (λ (p : ℕ). Among (bit_xor x p) (v ∷ vs) s) (sym (pivot_even v vs e))
      (⊎_elim
      (λ b. inl (pivot_moves vs x s (λ z. n (pivot_even v vs e ∙ z)) b))
      (λ b. inr (subst (λ (t : ℕ). Among t vs s) (xor_swap x v (pivot mask vs)) (pivot_moves vs (bit_xor x v) s (λ z. n (pivot_even v vs e ∙ z)) b)))
      a))
      (λ e. subst (λ (p : ℕ). Among (bit_xor x p) (v ∷ vs) s) (sym (pivot-odd v vs e))
      (⊎_elim (λ b. inr (subst (λ (t : ℕ). Among t vs s) (sym (xor_twice x v)) b)) (λ b. inl b) a))
      (parity mask v)

  pub without_shorter : (vs : List ℕ) → (pivot mask vs ≡ 0 → ⊥) → suc (length (without mask vs)) ≡ length vs
  unfolding pivot without
  without_shorter [] n = absurd (n refl)
  without_shorter (v ∷ vs) n = ⊎_elim
      (λ e. rw (without_even v vs e) (ap suc (without_shorter vs (λ z. n (pivot_even v vs e ∙ z)))))
      (λ e. rw (without-odd v vs e) (ap suc (length-map vs (added mask v))))
      (parity mask v)

  pub without-same : (vs : List ℕ) → pivot mask vs ≡ 0 → without mask vs ≡ vs
  unfolding pivot without
  without-same [] z = refl
  without-same (v ∷ vs) z = ⊎_elim
      (λ e. without_even v vs e ∙ ap (λ (l : List ℕ). v ∷ l) (without-same vs (sym (pivot_even v vs e) ∙ z)))
      (λ e. absurd (odd_some v e (sym (pivot-odd v vs e) ∙ z)))
      (parity mask v)

  pub pivot_parity : (vs : List ℕ) → (pivot mask vs ≡ 0 → ⊥) → odd (pivot mask vs) mask ≡ 1
  unfolding pivot
  pivot_parity [] n = absurd (n refl)
  pivot_parity (v ∷ vs) n = ⊎_elim
      (λ e. rw (pivot_even v vs e) (pivot_parity vs (λ z. n (pivot_even v vs e ∙ z))))
      (λ e. rw (pivot-odd v vs e) e)
      (parity mask v)

  zero_without : (h : ℕ) (vs : List ℕ) → ZeroAt h vs → ZeroAt h (without mask vs)
  unfolding without
  zero_without h [] o = o
  zero_without h (v ∷ vs) o = ⊎_elim
      (λ e. subst (λ (l : List ℕ). ZeroAt h l) (sym (without_even v vs e)) (cons (zero_without h vs (λ j g. o (suc j) (omega arith)))))
      (λ e. subst (λ (l : List ℕ). ZeroAt h l) (sym (without-odd v vs e)) (zero_added v e h vs (o 0 (zero-lt-suc (length vs))) (λ j g. o (suc j) (omega arith))))
      (parity mask v)
    where
      cons : ZeroAt h (without mask vs) → ZeroAt h (v ∷ without mask vs)
      cons r zero l = o 0 (zero-lt-suc (length vs))
      cons r (suc k) l = r k (omega arith)

  zero_pivot : (h : ℕ) (vs : List ℕ) → (pivot mask vs ≡ 0 → ⊥) → ZeroAt h vs → digit (pivot mask vs) h ≡ 0
  unfolding pivot
  zero_pivot h [] n o = absurd (n refl)
  zero_pivot h (v ∷ vs) n o = ⊎_elim
      (λ e. rw (pivot_even v vs e) (zero_pivot h vs (λ z. n (pivot_even v vs e ∙ z)) (λ j g. o (suc j) (omega arith))))
      (λ e. rw (pivot-odd v vs e) (o 0 (zero-lt-suc (length vs))))
      (parity mask v)

  pub rising_kept : {x l : ℕ} (vs : List ℕ) → Rising x l vs → Rising x l (without mask vs)
  unfolding without
  rising_kept [] r = r
  rising_kept {x} {l} (v ∷ vs) (more h a e z o r) = ⊎_elim
      (λ q. subst (λ (t : List ℕ). Rising x l t) (sym (without_even v vs q)) (more h a e z (zero_without h vs o) (rising_kept vs r)))
      (λ q. subst (λ (t : List ℕ). Rising x l t) (sym (without-odd v vs q)) (rising_added v q x (suc h) l vs (highest_below v h e) (omega arith) r))
      (parity mask v)

  pub rising_moved : {x l : ℕ} (vs : List ℕ) → (pivot mask vs ≡ 0 → ⊥) → Rising x l vs → Rising (bit_xor x (pivot mask vs)) l (without mask vs)
  unfolding without pivot
  rising_moved [] n r = absurd (n refl)
  rising_moved {x} {l} (v ∷ vs) n (more h a e z o r) = ⊎_elim
      (λ q.
      let m : pivot mask vs ≡ 0 → ⊥ = λ y. n (pivot_even v vs q ∙ y) in
      rw (without_even v vs q, pivot_even v vs q) (more h a e (zero_sum x (pivot mask vs) h z (zero_pivot h vs m o)) (zero_without h vs o) (rising_moved vs m r)))
      (λ q. rw (without-odd v vs q, pivot-odd v vs q)
      (rising_added v q (bit_xor x v) (suc h) l vs (highest_below v h e) (omega arith) (rising_add v (highest_below v h e) r)))
      (parity mask v)
