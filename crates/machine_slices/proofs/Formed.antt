-- Well-formed test slices, and parts of lists of them.
--     Formed chains t       its specified positions are among the chains, and its bits among those
--     slice-formed, stop-slice     what causes 4 and 5 do not refuse is so
--     paired-take, paired-drop     the test slices of the first and of the last entries
--     slices_length, slices_at     well-formed slices are as many as their specified positions; the one at a place
--     slices_all, all_slices     none of the test slices is bad; and then they are well-formed
--     slices_each           nor is that at a place
--     slices_take, slices_drop     the first and the last of well-formed slices are well-formed
-- Assumes nothing.
use mathlib.Core.Path.{◌≡◌, refl, ap}
use mathlib.Core.Bool.{false, not, ◌||◌}
use mathlib.Core.List.{List, [], ◌∷◌}
use Prim.Native.Nat.{ℕ, zero, suc, ◌^◌, ◌<◌}
use native.Mathlib.Omega.{arith}
use lib.Bits.{bit_and}
use lib.Dec.{eqb}
use lib.ListN.{length, get_or, take, drop, length-take, length-drop}
use borrow.Author.Tests.{eqb-true, eq-eqb, not-false}
use Rattle.words_bounded.specs.Bounded.{any}
use Rattle.words_bounded.proofs.Tests.{neither}
use Rattle.words_bounded.proofs.Any.{any_take, any_drop}
use Rattle.words_gf2.specs.Words.{beyond}
use Rattle.words_gf2.proofs.Digits.{no_beyond}
use Rattle.machine_slices.specs.Slices.{paired, bad_slice, bad_slices, bad_stop}
use Rattle.machine_slices.specs.declared.TestSlice.{TestSlice}
use Rattle.machine_slices.proofs.Causes.{slice_at, slices_equal}
use Rattle.machine_slices.proofs.Paired.{paired-length, paired_at}

pub record Formed (chains : ℕ) (t : TestSlice) : Type 0 where
  pub among : t.specified < 2 ^ chains
  pub inside : bit_and t.bits t.specified ≡ t.bits

module _ (chains : ℕ) (t : TestSlice) where
  pub slice-formed : bad_slice chains t ≡ false → Formed chains t
  unfolding bad_slice
  slice-formed b =
      let a = neither (not (eqb (bit_and t.bits t.specified) t.bits)) (beyond chains t.specified || beyond chains t.bits) b in
      let c = neither (beyond chains t.specified) (beyond chains t.bits) a.1 in
      record {
        among = no_beyond chains t.specified c.0;
        inside = eqb-true (bit_and t.bits t.specified) t.bits (not-false (eqb (bit_and t.bits t.specified) t.bits) a.0);
      }

  pub stop-slice : bad_stop chains t ≡ false → bad_slice chains t ≡ false
  unfolding bad_stop
  stop-slice b = (neither (eqb t.specified 0) (bad_slice chains t) b).1

pub paired-take : (k : ℕ) (ps bs : List ℕ) → paired (take k ps) (take k bs) ≡ take k (paired ps bs)
unfolding paired
paired-take zero ps bs = refl
paired-take (suc k) [] bs = refl
paired-take (suc k) (p ∷ ps) [] = refl
paired-take (suc k) (p ∷ ps) (b ∷ bs) = ap (λ (l : List TestSlice). record { specified = p; bits = b } ∷ l) (paired-take k ps bs)

pub paired-drop : (k : ℕ) (ps bs : List ℕ) → length ps ≡ length bs → paired (drop k ps) (drop k bs) ≡ drop k (paired ps bs)
unfolding paired
paired-drop zero ps bs e = refl
paired-drop (suc k) [] [] e = refl
paired-drop (suc k) [] (b ∷ bs) e = absurd (omega arith)
paired-drop (suc k) (p ∷ ps) [] e = absurd (omega arith)
paired-drop (suc k) (p ∷ ps) (b ∷ bs) e = paired-drop k ps bs (omega arith)

module _ (chains : ℕ) where
  pub slices_length : (ps bs : List ℕ) → bad_slices chains ps bs ≡ false → length (paired ps bs) ≡ length ps
  slices_length ps bs b = paired-length ps bs (slices_equal chains ps bs b)

  pub slices_at : (ps bs : List ℕ) → bad_slices chains ps bs ≡ false → (i : ℕ) (d : TestSlice) → i < length ps → get_or (paired ps bs) i d ≡ slice_at ps bs i
  slices_at ps bs b i d h = paired_at ps bs i d h (slices_equal chains ps bs b)

  pub slices_all : (ps bs : List ℕ) → bad_slices chains ps bs ≡ false → any (bad_slice chains) (paired ps bs) ≡ false
  unfolding bad_slices
  slices_all ps bs b = (neither (not (eqb (length ps) (length bs))) (any (bad_slice chains) (paired ps bs)) b).1

  pub all_slices : (ps bs : List ℕ) → length ps ≡ length bs → any (bad_slice chains) (paired ps bs) ≡ false → bad_slices chains ps bs ≡ false
  unfolding bad_slices
  all_slices ps bs e a = rw (eq-eqb (length ps) (length bs) e) a

  each : (ps bs : List ℕ) (i : ℕ) → length ps ≡ length bs → any (bad_slice chains) (paired ps bs) ≡ false → i < length ps → bad_slice chains (slice_at ps bs i) ≡ false
  unfolding any paired
  each [] bs i e a h = absurd (omega arith)
  each (p ∷ ps) [] i e a h = absurd (omega arith)
  each (p ∷ ps) (b ∷ bs) zero e a h = (neither (bad_slice chains (record { specified = p; bits = b })) (any (bad_slice chains) (paired ps bs)) a).0
  each (p ∷ ps) (b ∷ bs) (suc i) e a h =
      each ps bs i (omega arith) (neither (bad_slice chains (record { specified = p; bits = b })) (any (bad_slice chains) (paired ps bs)) a).1 (omega arith)

  pub slices_each : (ps bs : List ℕ) → bad_slices chains ps bs ≡ false → (i : ℕ) → i < length ps → Formed chains (slice_at ps bs i)
  slices_each ps bs b i h = slice-formed chains (slice_at ps bs i) (each ps bs i (slices_equal chains ps bs b) (slices_all ps bs b) h)

  pub slices_take : (k : ℕ) (ps bs : List ℕ) → bad_slices chains ps bs ≡ false → bad_slices chains (take k ps) (take k bs) ≡ false
  slices_take k ps bs b =
      all_slices (take k ps) (take k bs) (omega (arith, length-take k ps, length-take k bs, slices_equal chains ps bs b))
      (rw (paired-take k ps bs) (any_take (bad_slice chains) k (paired ps bs) (slices_all ps bs b)))

  pub slices_drop : (k : ℕ) (ps bs : List ℕ) → bad_slices chains ps bs ≡ false → bad_slices chains (drop k ps) (drop k bs) ≡ false
  slices_drop k ps bs b =
      all_slices (drop k ps) (drop k bs) (omega (arith, length-drop k ps, length-drop k bs, slices_equal chains ps bs b))
      (rw (paired-drop k ps bs (slices_equal chains ps bs b)) (any_drop (bad_slice chains) k (paired ps bs) (slices_all ps bs b)))
