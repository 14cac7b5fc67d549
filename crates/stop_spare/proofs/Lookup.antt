-- A pattern looked up, as the code goes through the test slices.
--     rest                              whether a test slice from the place i on equals the pattern
--     taken_hit, taken_miss, taken-past     a loop that goes up through the slices: what is left decides
-- Assumes nothing.
use mathlib.Core.Path.{◌≡◌}
use mathlib.Core.Bool.{Bool, true, false}
use mathlib.Core.List.{List}
use Prim.Native.Nat.{ℕ, ◌+◌, ◌≤◌, ◌<◌, min}
use lib.ListN.{length, drop}
use Rattle.words_bounded.specs.Bounded.{any}
use Rattle.machine_slices.specs.declared.TestSlice.{TestSlice}
use Rattle.machine_slices.specs.Slices.{paired}
use Rattle.machine_slices.proofs.Causes.{slice_at}
use Rattle.machine_slices.proofs.Paired.{paired_from, paired-past}
use Rattle.stop_spare.specs.Spare.{equals}

module _ (p : TestSlice) (ps bs : List ℕ) where
  abbrev pub rest : ℕ → Bool
  rest i = any (equals p) (paired (drop i ps) (drop i bs))

  module _ (i : ℕ) where
    pub taken_hit : i < min (length ps) (length bs) → equals p (slice_at ps bs i) ≡ true → rest i ≡ true
    unfolding any
    taken_hit h t = rw (paired_from ps bs i h, any, t)

    pub taken_miss : i < min (length ps) (length bs) → equals p (slice_at ps bs i) ≡ false → rest i ≡ rest (i + 1)
    unfolding any
    taken_miss h t = rw (paired_from ps bs i h, any, t)

    pub taken-past : min (length ps) (length bs) ≤ i → rest i ≡ false
    unfolding any
    taken-past h = rw (paired-past ps bs i h)
