-- What the spare pattern of a set is good for (document 02, R-1).
--     spare_good          no well-formed test slice has all bits of a pattern that is not taken
--     taken-none_good     where all patterns are taken, no stop slice is good: some test slice has all its bits
-- Assumes nothing.
use mathlib.Core.Path.{◌≡◌, sym, ap, ◌∙◌}
use mathlib.Core.Logic.{⊎_elim}
use mathlib.Core.Bool.{true, false}
use mathlib.Core.List.{List}
use Prim.Native.Nat.{ℕ, ◌-◌, ◌^◌, ◌≤◌, ◌<◌}
use native.Mathlib.Omega.{arith}
use lib.Bits.{bit_and, and_le_r}
use lib.Dec.{eqb}
use lib.ListN.{get_or}
use lib.Pow.{pow_mono}
use borrow.Author.Tests.{eqb-true, eq-eqb}
use Rattle.words_bounded.specs.Bounded.{any}
use Rattle.words_bounded.proofs.Any.{any_at, any_place}
use Rattle.words_bounded.proofs.Tests.{clash, lt_or_le, both, and_yes}
use Rattle.words_gf2.specs.Words.{digit}
use Rattle.words_gf2.proofs.Digits.{digit_and, digit_lt, digit_wide, words_equal, beyond_no}
use Rattle.words_gf2.proofs.Ones.{full-digit, full_word}
use Rattle.machine_slices.specs.declared.TestSlice.{TestSlice}
use Rattle.machine_slices.specs.Slices.{full, bad_slice}
use Rattle.machine_slices.proofs.Causes.{slice-last, stop-formed}
use Rattle.machine_slices.proofs.Formed.{Formed, slice-formed, stop-slice}
use Rattle.stop_spare.specs.Spare.{equals, taken}
use Rattle.stop_steps.specs.Lookup.{HasAll}
use Rattle.stop_steps.specs.Meaning.{StopMeaning, NoneGood}

-- bits among the specified positions of so many chains are a number of so many chains
bits_below : (chains : ℕ) (t : TestSlice) → Formed chains t → t.bits < 2 ^ chains
bits_below chains t f = omega (arith, and_le_r t.bits t.specified, f.inside, f.among)

module _ (chains v : ℕ) (below : v < 2 ^ chains) where
  inside : bit_and v (2 ^ chains - 1) ≡ v
  inside = words_equal (bit_and v (2 ^ chains - 1)) v (λ i. digit_and v (2 ^ chains - 1) i ∙ ⊎_elim
      (λ h. omega (arith, full-digit chains i h, digit_lt v i))
      (λ h. omega (arith, digit_wide chains v i h below))
      (lt_or_le i chains))

  -- a well-formed slice that has all bits of the pattern equals it
  has_all_equals : (t : TestSlice) → Formed chains t → HasAll (full chains v) t → equals (full chains v) t ≡ true
  unfolding equals
  has_all_equals t f all = and_yes (eqb t.specified (2 ^ chains - 1)) (eqb t.bits v) (eq-eqb _ _ (full_word chains t.specified f.among (λ p h. (at p h).0))) (eq-eqb _ _ (words_equal t.bits v same))
    where
      at : (p : ℕ) → p < chains → (digit t.specified p ≡ 1) × (digit t.bits p ≡ digit v p)
      at p h =
          let b = both (eqb (digit t.specified p) 1) (eqb (digit t.bits p) (digit v p)) (all p (eq-eqb (digit (2 ^ chains - 1) p) 1 (full-digit chains p h))) in
          (eqb-true _ 1 b.0, eqb-true _ _ b.1)

      same : (i : ℕ) → digit t.bits i ≡ digit v i
      same i = ⊎_elim (λ h. (at i h).1) (λ h. digit_wide chains t.bits i h (bits_below chains t f) ∙ sym (digit_wide chains v i h below)) (lt_or_le i chains)

  pub spare_good : (set : List TestSlice) → 0 < chains → any (bad_slice chains) set ≡ false → taken chains set v ≡ false → StopMeaning chains set (full chains v)
  unfolding taken
  spare_good set some_chain formed untaken =
      let two : 2 ^ 1 ≤ 2 ^ chains = pow_mono some_chain in
      record {
        formed = stop-formed chains (full chains v) (λ z. omega arith) ∙ slice-last chains (full chains v) inside (beyond_no chains _ (omega arith)) ∙ beyond_no chains v below;
        specified = omega arith;
        none_has = λ i d h all. clash (equals (full chains v) (get_or set i d)) (has_all_equals (get_or set i d) (slice-formed chains (get_or set i d) (any_at (bad_slice chains) set formed i d h)) all) (any_at (equals (full chains v)) set untaken i d h);
      }

module _ (chains : ℕ) (set : List TestSlice) where
  -- the pattern with a stop slice's bits has them all
  pattern_has_all : (stop t : TestSlice) → Formed chains stop → equals (full chains stop.bits) t ≡ true → HasAll stop t
  unfolding equals
  pattern_has_all stop t f same p s =
      let b = both (eqb t.specified (2 ^ chains - 1)) (eqb t.bits stop.bits) same in
      let one = eqb-true (digit stop.specified p) 1 s in
      let h : p < chains = ⊎_elim (λ h. h) (λ h. absurd (omega (arith, digit_wide chains stop.specified p h f.among))) (lt_or_le p chains) in
      and_yes (eqb (digit t.specified p) 1) (eqb (digit t.bits p) (digit stop.bits p))
      (eq-eqb _ 1 (ap (λ (x : ℕ). digit x p) (eqb-true _ _ b.0) ∙ full-digit chains p h))
      (eq-eqb _ _ (ap (λ (x : ℕ). digit x p) (eqb-true _ _ b.1)))

  pub taken-none_good : ((v : ℕ) → v < 2 ^ chains → taken chains set v ≡ true) → NoneGood chains set
  unfolding taken
  taken-none_good all stop good =
      let f = slice-formed chains stop (stop-slice chains stop good.formed) in
      let q = any_place (equals (full chains stop.bits)) set stop (all stop.bits (bits_below chains stop f)) in
      good.none_has q.0 stop q.1.0 (pattern_has_all stop (get_or set q.0 stop) f q.1.1)
