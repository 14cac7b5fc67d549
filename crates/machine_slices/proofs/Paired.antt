-- Laws of two lists that are read as one list of test slices.
--     paired-length     as long as both
--     paired_at         the test slice at a place
--     paired_from       from a place on: the test slice there, and those that follow
--     paired-past       past the end of the shorter list there is none
--     paired_few        no more than the first list has
--     paired_any        a test of the test slices, as std's test of the pairs
-- Assumes nothing.
use mathlib.Core.Path.{◌≡◌, refl, ap}
use mathlib.Core.Bool.{Bool}
use mathlib.Core.List.{List, [], ◌∷◌}
use mathlib.Core.Logic.{⊎_elim}
use Prim.Native.Nat.{ℕ, zero, suc, ◌+◌, ◌≤◌, ◌<◌, min}
use native.Mathlib.Nat.{not-suc-le-zero, le_of_suc-le-suc}
use native.Mathlib.Numerals.{add-one}
use native.Mathlib.Omega.{arith}
use lib.ListN.{length, get_or, drop, drop_of_length-le}
use lib.Seq.{drop-cons}
use Rattle.std.specs.List.{list_any, zip}
use Rattle.words_bounded.specs.Bounded.{any}
use Rattle.words_bounded.proofs.Tests.{lt_or_le}
use Rattle.machine_slices.specs.Slices.{paired}
use Rattle.machine_slices.specs.declared.TestSlice.{TestSlice}

pub paired-length : (ps bs : List ℕ) → length ps ≡ length bs → length (paired ps bs) ≡ length ps
unfolding paired
paired-length [] bs e = refl
paired-length (p ∷ ps) [] e = absurd (omega arith)
paired-length (p ∷ ps) (b ∷ bs) e = ap suc (paired-length ps bs (omega arith))

pub paired_at : (ps bs : List ℕ) (i : ℕ) (d : TestSlice) → i < length ps → length ps ≡ length bs → get_or (paired ps bs) i d ≡ record { specified = get_or ps i 0; bits = get_or bs i 0 }
unfolding paired
paired_at [] bs i d h e = absurd (not-suc-le-zero h)
paired_at (p ∷ ps) [] i d h e = absurd (omega arith)
paired_at (p ∷ ps) (b ∷ bs) zero d h e = refl
paired_at (p ∷ ps) (b ∷ bs) (suc i) d h e = paired_at ps bs i d (le_of_suc-le-suc h) (omega arith)

paired_none : (ps : List ℕ) → paired ps [] ≡ []
unfolding paired
paired_none [] = refl
paired_none (p ∷ ps) = refl

module _ (ps bs : List ℕ) (i : ℕ) where
  pub paired_from : i < min (length ps) (length bs) → paired (drop i ps) (drop i bs) ≡ record { specified = get_or ps i 0; bits = get_or bs i 0 } ∷ paired (drop (i + 1) ps) (drop (i + 1) bs)
  unfolding paired
  paired_from h = rw (drop-cons ps i 0 (omega arith), drop-cons bs i 0 (omega arith), paired, add-one)

  pub paired-past : min (length ps) (length bs) ≤ i → paired (drop i ps) (drop i bs) ≡ []
  unfolding paired
  paired-past h =
      ⊎_elim (λ l. rw (drop_of_length-le bs {i = i} (omega arith)) (paired_none (drop i ps))) (λ l. rw (drop_of_length-le ps {i = i} l)) (lt_or_le i (length ps))

pub paired_few : (ps bs : List ℕ) → length (paired ps bs) ≤ length ps
unfolding paired
paired_few [] bs = omega arith
paired_few (p ∷ ps) [] = omega arith
paired_few (p ∷ ps) (b ∷ bs) = omega (arith, paired_few ps bs)

module _ (test : TestSlice → Bool) where
  abbrev pub on_pair : ℕ × ℕ → Bool
  on_pair p = test (record { specified = p.0; bits = p.1 })

  pub paired_any : (ps bs : List ℕ) → any test (paired ps bs) ≡ list_any on_pair (zip ps bs)
  unfolding paired any
  paired_any [] bs = refl
  paired_any (p ∷ ps) [] = refl
  paired_any (p ∷ ps) (b ∷ bs) = rw (paired_any ps bs)
