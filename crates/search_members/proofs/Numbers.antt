-- The members of a space by number.
--     pick_skip, pick-take     the first vector left out or added
--     pick-add                 what is added to x is added to each member
--     pick-split               the first vectors go by the low digits of the number, the others by its high digits
--     pick-front               a number of the first vectors alone
--     pick-last                one vector more at the end
--     pick-among, among-pick   each number is a member, and each member has a number
--     pick_rises               a higher number is a higher member
--     number-take, number_skip, number_done     of a loop that goes through the vectors
-- Assumes nothing.
use mathlib.Core.Path.{◌≡◌, refl, sym, ap, ap₂, ◌∙◌, subst}
use mathlib.Core.Logic.{◌⊎◌, inl, inr, ⊎_elim}
use mathlib.Core.List.{List, [], ◌∷◌, ◌++◌}
use Prim.Native.Nat.{ℕ, zero, suc, ◌+◌, ◌-◌, ◌*◌, ◌/◌, ◌%◌, ◌^◌, ◌≤◌, ◌<◌}
use native.Mathlib.Nat.{zero-lt-suc, div-eq_of_lt, eq-or-lt_of_le, lt_of_lt_of_le, div-div-eq-div-mul}
use native.Mathlib.Numerals.{add-one}
use native.Mathlib.Omega.{arith}
use lib.ListN.{get_or, length, drop, drop_of_length-le}
use lib.Seq.{drop-cons}
use lib.Pow.{pow_mono, shr_mono, shr-shr}
use lib.Bits.{bit_xor, block_half, block_odd, xor_shr, xor_zero_r}
use Rattle.words_bounded.proofs.Tests.{bit_cases, lt_or_le}
use Rattle.words_gf2.specs.Words.{digit}
use Rattle.words_gf2.proofs.Digits.{digit_zero, digit-suc}
use Rattle.words_gf2.proofs.Xor.{digit-xor, highest_below, xor_assoc, xor_swap}
use Rattle.search_members.specs.Members.{choose, pick}
use Rattle.search_space.specs.Space.{ZeroAt, Rising, more}
use Rattle.search_space.proofs.Members.{Among, zero_sum, rising_add}

low_cases : (i : ℕ) → (i % 2 ≡ 0) ⊎ (i % 2 ≡ 1)
low_cases i = bit_cases (i % 2) (omega arith)

twice : (n : ℕ) → 2 ^ suc n ≡ 2 * 2 ^ n
twice n = omega arith

pick_skip : (x v i : ℕ) (vs : List ℕ) → i % 2 ≡ 0 → pick x (v ∷ vs) i ≡ pick x vs (i / 2)
unfolding pick
pick_skip x v i vs e = rw e

pick-take : (x v i : ℕ) (vs : List ℕ) → i % 2 ≡ 1 → pick x (v ∷ vs) i ≡ pick (bit_xor x v) vs (i / 2)
unfolding pick
pick-take x v i vs e = rw e

-- ---- sums

choose-add : (n x a v : ℕ) → choose n (bit_xor x a) (bit_xor (bit_xor x a) v) ≡ bit_xor (choose n x (bit_xor x v)) a
choose-add zero x a v = refl
choose-add (suc n) x a v = xor_swap x a v

pick-add : (vs : List ℕ) (x a i : ℕ) → pick (bit_xor x a) vs i ≡ bit_xor (pick x vs i) a
unfolding pick
pick-add [] x a i = refl
pick-add (v ∷ vs) x a i = rw (choose-add (i % 2) x a v) (pick-add vs (choose (i % 2) x (bit_xor x v)) a (i / 2))

pub pick-split : (us vs : List ℕ) (x g i : ℕ) → i < 2 ^ length us → pick x (us ++ vs) (g * 2 ^ length us + i) ≡ bit_xor (pick x vs g) (pick 0 us i)
unfolding pick
pick-split [] vs x g i h =
    let e : g * 1 + i ≡ g = omega arith in
    rw (e, xor_zero_r)
pick-split (u ∷ us) vs x g i h =
    let n : ℕ = length us in
    let t : i / 2 < 2 ^ n = (let w = twice n in omega arith) in
    let low : (g * 2 ^ suc n + i) % 2 ≡ i % 2 = block_odd g n i in
    let half : (g * 2 ^ suc n + i) / 2 ≡ g * 2 ^ n + i / 2 = block_half g n i in
    ap₂ (λ (b m : ℕ). pick (choose b x (bit_xor x u)) (us ++ vs) m) low half ∙ go (i % 2) (pick-split us vs (choose (i % 2) x (bit_xor x u)) g (i / 2) t)
  where
    go : (b : ℕ) → pick (choose b x (bit_xor x u)) (us ++ vs) (g * 2 ^ length us + i / 2) ≡ bit_xor (pick (choose b x (bit_xor x u)) vs g) (pick 0 us (i / 2))
        → pick (choose b x (bit_xor x u)) (us ++ vs) (g * 2 ^ length us + i / 2) ≡ bit_xor (pick x vs g) (pick (choose b 0 (bit_xor 0 u)) us (i / 2))
    go zero e = e
    go (suc b) e =
        e ∙ ap (λ (m : ℕ). bit_xor m (pick 0 us (i / 2))) (pick-add vs x u g)
        ∙ xor_swap (pick x vs g) u (pick 0 us (i / 2))
        ∙ xor_assoc (pick x vs g) (pick 0 us (i / 2)) u
        ∙ ap (bit_xor (pick x vs g)) (sym (pick-add us 0 u (i / 2)))

-- number 0 is the lowest
pick-none : (vs : List ℕ) (x : ℕ) → pick x vs 0 ≡ x
unfolding pick
pick-none [] x = refl
pick-none (v ∷ vs) x = pick-none vs x

pub pick-front : (us vs : List ℕ) (x i : ℕ) → i < 2 ^ length us → pick x (us ++ vs) i ≡ pick x us i
unfolding pick
pick-front [] vs x i h = let z : i ≡ 0 = omega arith in rw z (pick-none vs x)
pick-front (u ∷ us) vs x i h = pick-front us vs (choose (i % 2) x (bit_xor x u)) (i / 2) (let w = twice (length us) in omega arith)

pub pick-last : (es : List ℕ) (x v i : ℕ) → pick x (es ++ v ∷ []) i ≡ choose (digit i (length es)) (pick x es i) (bit_xor (pick x es i) v)
unfolding pick
pick-last [] x v i = rw (digit_zero i)
pick-last (e ∷ es) x v i = rw (digit-suc i (length es)) (pick-last es (choose (i % 2) x (bit_xor x e)) v (i / 2))

-- ---- the numbers are the members

pub pick-among : (vs : List ℕ) (x i : ℕ) → Among x vs (pick x vs i)
unfolding Among pick
pick-among [] x i = refl
pick-among (v ∷ vs) x i =
    ⊎_elim
    (λ e. inl (rw e (pick-among vs x (i / 2))))
    (λ e. inr (rw e (pick-among vs (bit_xor x v) (i / 2))))
    (low_cases i)

even_low : (i : ℕ) → i * 2 % 2 ≡ 0
even_low i = omega arith

even_half : (i : ℕ) → i * 2 / 2 ≡ i
even_half i = omega arith

even_below : (i n : ℕ) → i < 2 ^ n → i * 2 < 2 ^ suc n
even_below i n l = let w = twice n in omega arith

odd_low : (i : ℕ) → (i * 2 + 1) % 2 ≡ 1
odd_low i = omega arith

odd-half : (i : ℕ) → (i * 2 + 1) / 2 ≡ i
odd-half i = omega arith

odd_below : (i n : ℕ) → i < 2 ^ n → i * 2 + 1 < 2 ^ suc n
odd_below i n l = let w = twice n in omega arith

skip_first : (v : ℕ) (vs : List ℕ) (x s i : ℕ) → s ≡ pick x vs i → s ≡ pick x (v ∷ vs) (i * 2)
skip_first v vs x s i e = e ∙ sym (pick_skip x v (i * 2) vs (even_low i) ∙ ap (pick x vs) (even_half i))

take_first : (v : ℕ) (vs : List ℕ) (x s i : ℕ) → s ≡ pick (bit_xor x v) vs i → s ≡ pick x (v ∷ vs) (i * 2 + 1)
take_first v vs x s i e = e ∙ sym (pick-take x v (i * 2 + 1) vs (odd_low i) ∙ ap (pick (bit_xor x v) vs) (odd-half i))

pub among-pick : (vs : List ℕ) (x s : ℕ) → Among x vs s → (i : ℕ) × (i < 2 ^ length vs) × (s ≡ pick x vs i)
unfolding Among pick
among-pick [] x s a = (0, omega arith, a)
among-pick (v ∷ vs) x s (inl a) =
    let r = among-pick vs x s a in
    (r.0 * 2, even_below r.0 (length vs) r.1, skip_first v vs x s r.0 r.2)
among-pick (v ∷ vs) x s (inr a) =
    let r = among-pick vs (bit_xor x v) s a in
    (r.0 * 2 + 1, odd_below r.0 (length vs) r.1, take_first v vs x s r.0 r.2)

-- ---- in rising order

-- a quotient, its last digit apart
div_more : (x q : ℕ) → x / 2 ^ q ≡ x / 2 ^ suc q * 2 + digit x q
unfolding digit
div_more x q =
    let e : x / 2 ^ suc q ≡ x / 2 ^ q / 2 = ap (λ (d : ℕ). x / d) (let w : 2 ^ suc q ≡ 2 ^ q * 2 = omega arith in w) ∙ sym (div-div-eq-div-mul x (2 ^ q) 2) in
    omega arith

-- two numbers that agree above q, of which the second has digit q
digit_less : (x y q : ℕ) → x / 2 ^ suc q ≡ y / 2 ^ suc q → digit x q ≡ 0 → digit y q ≡ 1 → x < y
digit_less x y q e zx oy =
    ⊎_elim (λ l. l)
    (λ g. absurd (let m : y / 2 ^ q ≤ x / 2 ^ q = shr_mono q g in omega (arith, div_more x q, div_more y q)))
    (lt_or_le x y)

-- the same, with the same vectors added to both
decided : (vs : List ℕ) (x y q i : ℕ) → x / 2 ^ suc q ≡ y / 2 ^ suc q → digit x q ≡ 0 → digit y q ≡ 1 → ZeroAt q vs → pick x vs i < pick y vs i
unfolding pick
decided [] x y q i e zx oy o = digit_less x y q e zx oy
decided (v ∷ vs) x y q i e zx oy o =
    ⊎_elim
    (λ z. rw z (decided vs x y q (i / 2) e zx oy (λ k l. o (suc k) (omega arith))))
    (λ z. rw z (decided vs (bit_xor x v) (bit_xor y v) q (i / 2)
    (xor_shr x v (suc q) ∙ ap (λ (t : ℕ). bit_xor t (v / 2 ^ suc q)) e ∙ sym (xor_shr y v (suc q)))
    (zero_sum x v q zx (o 0 (zero-lt-suc (length vs))))
    (digit-xor y v q ∙ rw (oy, o 0 (zero-lt-suc (length vs))))
    (λ k l. o (suc k) (omega arith))))
    (low_cases i)

-- a vector of which the highest digit is h leaves what is above
added-above : (x v h : ℕ) → v / 2 ^ h ≡ 1 → bit_xor x v / 2 ^ suc h ≡ x / 2 ^ suc h
added-above x v h e = xor_shr x v (suc h) ∙ rw (div-eq_of_lt (highest_below v h e), xor_zero_r)

higher : (x y l h : ℕ) → l ≤ h → x / 2 ^ l ≡ y / 2 ^ l → x / 2 ^ h ≡ y / 2 ^ h
higher x y l h g e =
    let s : h ≡ l + (h - l) = omega arith in
    subst (λ (n : ℕ). x / 2 ^ n ≡ y / 2 ^ n) (sym s) (sym (shr-shr x l (h - l)) ∙ ap (λ (t : ℕ). t / 2 ^ (h - l)) e ∙ shr-shr y l (h - l))

top_same : (v a b : ℕ) → v / 2 ^ a ≡ 1 → v / 2 ^ b ≡ 1 → a ≡ b
top_same v a b p q =
    ⊎_elim (λ l. absurd (low v a b p q l))
    (λ g. ⊎_elim (λ l. absurd (low v b a q p l)) (λ k. omega arith) (lt_or_le b a))
    (lt_or_le a b)
  where
    low : (v a b : ℕ) → v / 2 ^ a ≡ 1 → v / 2 ^ b ≡ 1 → a < b → ⊥
    low v a b p q l = let z : v / 2 ^ b ≡ 0 = div-eq_of_lt (lt_of_lt_of_le (highest_below v a p) (pow_mono {i = suc a} {j = b} l)) in omega arith

-- the first vector, added or not
module _ (vs : List ℕ) (v t : ℕ) (p : v / 2 ^ t ≡ 1) where
  base_rises : (x n : ℕ) → Rising x (suc t) vs → Rising (choose n x (bit_xor x v)) (suc t) vs
  base_rises x zero r = r
  base_rises x (suc n) r = rising_add v (highest_below v t p) r

  base_above : (x n : ℕ) → choose n x (bit_xor x v) / 2 ^ suc t ≡ x / 2 ^ suc t
  base_above x zero = refl
  base_above x (suc n) = added-above x v t p

  top_on : digit v t ≡ 1
  unfolding digit
  top_on = ap (λ (n : ℕ). n % 2) p

  abbrev Order : Type 0
  Order = (x y i j : ℕ) → Rising x (suc t) vs → Rising y (suc t) vs → x / 2 ^ suc t ≡ y / 2 ^ suc t → i < j → j < 2 ^ length vs → pick x vs i < pick y vs j

  order_step : (x y i j : ℕ) → digit x t ≡ 0 → digit y t ≡ 0 → ZeroAt t vs → Rising x (suc t) vs → Rising y (suc t) vs → x / 2 ^ suc t ≡ y / 2 ^ suc t
      → i < j → j < 2 ^ suc (length vs) → Order → pick x (v ∷ vs) i < pick y (v ∷ vs) j
  unfolding pick
  order_step x y i j zx zy o r s e h g ih =
      let w = twice (length vs) in
      let k : i / 2 ≤ j / 2 = omega arith in
      ⊎_elim
      (λ q.
      let zi : i % 2 ≡ 0 = omega arith in
      let oj : j % 2 ≡ 1 = omega arith in
      rw (zi, oj) (subst (λ (n : ℕ). pick x vs n < pick (bit_xor y v) vs (j / 2)) (sym q)
      (decided vs x (bit_xor y v) t (j / 2) (e ∙ sym (added-above y v t p)) zx (digit-xor y v t ∙ rw (zy, top_on)) o)))
      (λ q.
      ih (choose (i % 2) x (bit_xor x v)) (choose (j % 2) y (bit_xor y v)) (i / 2) (j / 2) (base_rises x (i % 2) r) (base_rises y (j % 2) s)
      (base_above x (i % 2) ∙ e ∙ sym (base_above y (j % 2))) q (omega arith))
      (eq-or-lt_of_le k)

order : (vs : List ℕ) (x y l i j : ℕ) → Rising x l vs → Rising y l vs → x / 2 ^ l ≡ y / 2 ^ l → i < j → j < 2 ^ length vs → pick x vs i < pick y vs j
order [] x y l i j r s e h g = absurd (omega arith)
order (v ∷ vs) x y l i j (more t a p zx o r) (more u b q zy n s) e h g =
    let k : u ≡ t = top_same v u t q p in
    order_step vs v t p x y i j zx (subst (λ (d : ℕ). digit y d ≡ 0) k zy) o r (subst (λ (d : ℕ). Rising y (suc d) vs) k s) (higher x y l (suc t) (omega arith) e) h g
    (λ x y i j. order vs x y (suc t) i j)

pub pick_rises : (vs : List ℕ) (x l i j : ℕ) → Rising x l vs → i < j → j < 2 ^ length vs → pick x vs i < pick x vs j
pick_rises vs x l i j r h g = order vs x x l i j r r refl h g

-- ---- a loop that goes through the vectors

module _ (vs : List ℕ) (x n k : ℕ) where
  pub number-take : k < length vs → n % 2 ≡ 1 → pick x (drop k vs) n ≡ pick (bit_xor x (get_or vs k 0)) (drop (k + 1) vs) (n / 2)
  number-take l e = rw (drop-cons vs k 0 l, add-one k) (pick-take x (get_or vs k 0) n (drop (suc k) vs) e)

  pub number_skip : k < length vs → (n % 2 ≡ 1 → ⊥) → pick x (drop k vs) n ≡ pick x (drop (k + 1) vs) (n / 2)
  number_skip l e = rw (drop-cons vs k 0 l, add-one k) (pick_skip x (get_or vs k 0) n (drop (suc k) vs) (omega arith))

  pub number_done : length vs ≤ k → pick x (drop k vs) n ≡ x
  unfolding pick
  number_done h = rw (drop_of_length-le vs {i = k} h)
