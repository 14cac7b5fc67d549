-- Agreeing, position by position: document 01's words for `agrees` and `shows`.
--     agrees-each     a slice that agrees has the bit of each specified position
--     each-agrees     and a slice that has them agrees, where no bit is set that is unspecified
-- Assumes nothing.
use mathlib.Core.Path.{◌≡◌, ap}
use mathlib.Core.Bool.{true}
use mathlib.Core.Logic.{⊎_elim}
use Prim.Native.Nat.{ℕ}
use native.Mathlib.Omega.{arith}
use lib.Bits.{bit_and}
use borrow.Author.Tests.{eqb-true, eq-eqb}
use Rattle.words_bounded.proofs.Tests.{lt_or_le}
use Rattle.words_gf2.specs.Words.{digit}
use Rattle.words_gf2.proofs.Digits.{digit_and, digit_lt, words_equal}
use Rattle.machine_slices.specs.Slices.{agrees}
use Rattle.machine_slices.specs.declared.TestSlice.{TestSlice}

module _ (t : TestSlice) (v : ℕ) where
  pub agrees-each : agrees t v ≡ true → (i : ℕ) → digit t.specified i ≡ 1 → digit v i ≡ digit t.bits i
  unfolding agrees
  agrees-each h i one =
      let e : digit (bit_and v t.specified) i ≡ digit t.bits i = ap (λ (x : ℕ). digit x i) (eqb-true (bit_and v t.specified) t.bits h) in
      omega (arith, digit_and v t.specified i, digit_lt v i)

  pub each-agrees : bit_and t.bits t.specified ≡ t.bits → ((i : ℕ) → digit t.specified i ≡ 1 → digit v i ≡ digit t.bits i) → agrees t v ≡ true
  unfolding agrees
  each-agrees formed each = eq-eqb (bit_and v t.specified) t.bits (words_equal (bit_and v t.specified) t.bits at_each)
    where
      at_each : (i : ℕ) → digit (bit_and v t.specified) i ≡ digit t.bits i
      at_each i =
          let f : digit (bit_and t.bits t.specified) i ≡ digit t.bits i = ap (λ (x : ℕ). digit x i) formed in
          let a = digit_and v t.specified i in
          let b = digit_and t.bits t.specified i in
          let lp = digit_lt t.specified i in
          let lv = digit_lt v i in
          let lb = digit_lt t.bits i in
          ⊎_elim (λ z. omega arith) (λ o. let e = each i (omega arith) in omega arith) (lt_or_le (digit t.specified i) 1)
