-- Causes 4 and 5, as the code tests them, one test after the other.
--     slice_unspecified, slice-beyond, slice-last     a test slice
--     slice_at                                        the test slice at a place
--     slices_unequal, slices_equal_any                cause 4, by the lengths of the lists
--     slices_equal                                    lists that cause 4 does not refuse are equally long
--     stop_empty, stop-formed                         cause 5
-- Assumes nothing.
use mathlib.Core.Path.{◌≡◌}
use mathlib.Core.Bool.{true, false, not}
use mathlib.Core.List.{List}
use Prim.Native.Nat.{ℕ}
use lib.Bits.{bit_and}
use lib.Dec.{eqb}
use lib.ListN.{length, get_or}
use borrow.Author.Tests.{eq-eqb, ne_eqb, eqb-true, not-false}
use Rattle.words_bounded.specs.Bounded.{any}
use Rattle.words_bounded.proofs.Tests.{neither}
use Rattle.words_gf2.specs.Words.{beyond}
use Rattle.machine_slices.specs.Slices.{paired, bad_slice, bad_slices, bad_stop}
use Rattle.machine_slices.specs.declared.TestSlice.{TestSlice}

module _ (chains : ℕ) (t : TestSlice) where
  pub slice_unspecified : (bit_and t.bits t.specified ≡ t.bits → ⊥) → bad_slice chains t ≡ true
  unfolding bad_slice
  slice_unspecified h = rw (ne_eqb (bit_and t.bits t.specified) t.bits h)

  pub slice-beyond : bit_and t.bits t.specified ≡ t.bits → beyond chains t.specified ≡ true → bad_slice chains t ≡ true
  unfolding bad_slice
  slice-beyond h b = rw (eq-eqb (bit_and t.bits t.specified) t.bits h, b)

  pub slice-last : bit_and t.bits t.specified ≡ t.bits → beyond chains t.specified ≡ false → bad_slice chains t ≡ beyond chains t.bits
  unfolding bad_slice
  slice-last h b = rw (eq-eqb (bit_and t.bits t.specified) t.bits h, b)

  pub stop_empty : t.specified ≡ 0 → bad_stop chains t ≡ true
  unfolding bad_stop
  stop_empty h = rw (eq-eqb t.specified 0 h)

  pub stop-formed : (t.specified ≡ 0 → ⊥) → bad_stop chains t ≡ bad_slice chains t
  unfolding bad_stop
  stop-formed h = rw (ne_eqb t.specified 0 h)

abbrev pub slice_at : List ℕ → List ℕ → ℕ → TestSlice
slice_at ps bs i = record { specified = get_or ps i 0; bits = get_or bs i 0 }

module _ (chains : ℕ) (ps bs : List ℕ) where
  pub slices_unequal : (length ps ≡ length bs → ⊥) → bad_slices chains ps bs ≡ true
  unfolding bad_slices
  slices_unequal h = rw (ne_eqb (length ps) (length bs) h)

  pub slices_equal_any : length ps ≡ length bs → bad_slices chains ps bs ≡ any (bad_slice chains) (paired ps bs)
  unfolding bad_slices
  slices_equal_any h = rw (eq-eqb (length ps) (length bs) h)

  pub slices_equal : bad_slices chains ps bs ≡ false → length ps ≡ length bs
  unfolding bad_slices
  slices_equal h = eqb-true (length ps) (length bs) (not-false (eqb (length ps) (length bs)) (neither (not (eqb (length ps) (length bs))) _ h).0)
