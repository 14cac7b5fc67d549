-- Laws of the bits at the specified positions, and of the loop that packs them.
--     packed-take, packed_skip     one chain more, by its position
--     packed_below                 they fit so many bits
--     pack-start, pack-take, pack_skip, pack_end     of a loop that goes down
--     pack-room                    one more bit fits a word
-- Assumes nothing.
use mathlib.Core.Path.{◌≡◌, sym, ap, ap₂, ◌∙◌}
use mathlib.Core.Logic.{⊎_elim}
use Prim.Native.Nat.{ℕ, zero, suc, ◌+◌, ◌-◌, ◌*◌, ◌/◌, ◌%◌, ◌^◌, ◌≤◌, ◌<◌}
use native.Mathlib.Nat.{div-div-eq-div-mul, div-one}
use native.Mathlib.Omega.{arith}
use lib.Pow.{pow_mono}
use borrow.Author.Tests.{eq-eqb, ne_eqb}
use Rattle.words_bounded.proofs.Tests.{eq_or_not}
use Rattle.words_gf2.specs.Words.{digit}
use Rattle.search_table.specs.Chosen.{packed}

pub packed-take : (p b n : ℕ) → p % 2 ≡ 1 → packed p b (suc n) ≡ b % 2 + 2 * packed (p / 2) (b / 2) n
unfolding packed
packed-take p b n e = rw (eq-eqb (p % 2) 1 e, packed)

pub packed_skip : (p b n : ℕ) → (p % 2 ≡ 1 → ⊥) → packed p b (suc n) ≡ packed (p / 2) (b / 2) n
unfolding packed
packed_skip p b n ne = rw (ne_eqb (p % 2) 1 ne, packed)

packed_below : (p b n : ℕ) → packed p b n < 2 ^ n
unfolding packed
packed_below p b zero = omega arith
packed_below p b (suc n) = ⊎_elim
    (λ e. omega (arith, packed-take p b n e, packed_below (p / 2) (b / 2) n))
    (λ ne. omega (arith, packed_skip p b n ne, packed_below (p / 2) (b / 2) n))
    (eq_or_not (p % 2) 1)

halved : (x i : ℕ) → x / 2 ^ i / 2 ≡ x / 2 ^ suc i
halved x i = let e : 2 ^ suc i ≡ 2 ^ i * 2 = omega arith in div-div-eq-div-mul x (2 ^ i) 2 ∙ ap (λ (y : ℕ). x / y) (sym e)

module _ (specified bits n : ℕ) where
  abbrev From : ℕ → ℕ
  From i = packed (specified / 2 ^ i) (bits / 2 ^ i) (n - i)

  pub pack-start : 0 ≡ From n
  unfolding packed
  pack-start = let e : n - n ≡ 0 = omega arith in rw e

  -- from the position above to this one
  from_suc : (i : ℕ) → i < n → n - i ≡ suc (n - suc i)
  from_suc i h = omega arith

  next : (i : ℕ) → packed (specified / 2 ^ i / 2) (bits / 2 ^ i / 2) (n - suc i) ≡ From (suc i)
  next i = ap₂ (λ (p b : ℕ). packed p b (n - suc i)) (halved specified i) (halved bits i)

  pub pack-take : (i : ℕ) → 0 < i → i ≤ n → digit specified (i - 1) ≡ 1 → From i * 2 + digit bits (i - 1) ≡ From (i - 1)
  unfolding digit
  pack-take i p h e =
      let j : ℕ = i - 1 in
      let k : i ≡ suc j = omega arith in
      let q = packed-take (specified / 2 ^ j) (bits / 2 ^ j) (n - suc j) e in
      ap (λ (x : ℕ). From x * 2 + bits / 2 ^ j % 2) k
      ∙ omega (arith, next j, q)
      ∙ ap (packed (specified / 2 ^ j) (bits / 2 ^ j)) (sym (from_suc j (omega arith)))

  pub pack_skip : (i : ℕ) → 0 < i → i ≤ n → (digit specified (i - 1) ≡ 1 → ⊥) → From i ≡ From (i - 1)
  unfolding digit
  pack_skip i p h ne =
      let j : ℕ = i - 1 in
      let k : i ≡ suc j = omega arith in
      ap From k ∙ sym (next j) ∙ sym (packed_skip (specified / 2 ^ j) (bits / 2 ^ j) (n - suc j) ne)
      ∙ ap (packed (specified / 2 ^ j) (bits / 2 ^ j)) (sym (from_suc j (omega arith)))

  pub pack_end : From 0 ≡ packed specified bits n
  pack_end = let e : n - 0 ≡ n = omega arith in rw (e, div-one specified, div-one bits)

  -- one more bit fits a word
  pub pack-room : (i : ℕ) → 0 < i → i ≤ n → n ≤ 64 → From i * 2 + 1 < 2 ^ 64
  pack-room i p h l =
      let b = packed_below (specified / 2 ^ i) (bits / 2 ^ i) (n - i) in
      let m : 2 ^ (n - i) ≤ 2 ^ 63 = pow_mono {i = n - i} {j = 63} (omega arith) in
      omega arith
