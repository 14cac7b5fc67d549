-- Sets of keys as words (`set_of`): the bit of a key tells whether it is among them.
--     set-among     the bit of a key
-- Assumes nothing.
use mathlib.Core.Bool.{Bool, true, false, ◌||◌}
use mathlib.Core.Path.{◌≡◌, refl, ap, ◌∙◌}
use mathlib.Core.List.{List, [], ◌∷◌}
use Prim.Native.Nat.{◌^◌}
use native.Mathlib.Omega.{arith}
use borrow.Author.Tests.{eqb-true, eqb-false, eq-eqb}
use lib.Bits.{bit_or}
use lib.Dec.{eqb}
use Rattle.words_gf2.specs.Words.{digit}
use Rattle.words_gf2.proofs.Digits.{digit_lt, digit-none, digit_or, unit_same, unit_other}
use Rattle.text_keys.specs.Keys.{rank, same}
use Rattle.text_keys.specs.declared.Key.{Key}
use Rattle.text_order.specs.Order.{among}
use Rattle.text_order.specs.Sets.{set_of}

pub set-among : (ks : List Key) (k : Key) → eqb (digit (set_of ks) (rank k)) 1 ≡ among k ks
unfolding among same
set-among [] k = ap (λ d. eqb d 1) (digit-none (rank k))
set-among (j ∷ ks) k = go (eqb (rank k) (rank j)) refl (set-among ks k)
  where
    go : (b : Bool) → eqb (rank k) (rank j) ≡ b → eqb (digit (set_of ks) (rank k)) 1 ≡ among k ks → eqb (digit (bit_or (2 ^ rank j) (set_of ks)) (rank k)) 1 ≡ (b || among k ks)
    go true e ih =
        let u : digit (2 ^ rank j) (rank k) ≡ 1 = rw (eqb-true (rank k) (rank j) e) (unit_same (rank j)) in
        eq-eqb (digit (bit_or (2 ^ rank j) (set_of ks)) (rank k)) 1 (omega (arith, u, digit_or (2 ^ rank j) (set_of ks) (rank k), digit_lt (set_of ks) (rank k)))
    go false e ih =
        let z : digit (bit_or (2 ^ rank j) (set_of ks)) (rank k) ≡ digit (set_of ks) (rank k) = omega (arith, unit_other (rank j) (rank k) (eqb-false (rank k) (rank j) e), digit_or (2 ^ rank j) (set_of ks) (rank k)) in
        ap (λ d. eqb d 1) z ∙ ih
