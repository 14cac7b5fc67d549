-- Laws of the look-up, as the code goes through the test slices.
--     in_unspecified, in_shows       whether one slice is in, one test after the other
--     rest, in_hit, in_miss, in_end  how many are in from the place i on, as a loop counts them
--     put-fits, put_bit_fits         a position more fits a word
-- Assumes nothing.
use mathlib.Core.Path.{◌≡◌}
use mathlib.Core.Bool.{true, false}
use mathlib.Core.List.{List}
use Prim.Native.Nat.{ℕ, suc, ◌+◌, ◌*◌, ◌^◌, ◌≤◌, ◌<◌, min}
use native.Mathlib.Omega.{arith}
use lib.Bits.{bit_and}
use lib.ListN.{length, drop}
use borrow.Author.Tests.{eq-eqb, ne_eqb}
use Rattle.words_gf2.proofs.Digits.{put_below}
use Rattle.machine_slices.specs.declared.TestSlice.{TestSlice}
use Rattle.machine_slices.specs.Slices.{shows}
use Rattle.machine_slices.proofs.Paired.{paired_from, paired-past}
use Rattle.machine_slices.proofs.Causes.{slice_at}
use Rattle.stop_steps.specs.Steps.{filter}
use Rattle.stop_steps.specs.Lookup.{is_in, in_count}
use Rattle.stop_counting.specs.Unset.{Unset}
use Rattle.stop_steps.proofs.Lookup.{one_weight, unset_free, free_bit}

module _ (stop t : TestSlice) where
  pub in_unspecified : (bit_and t.specified stop.specified ≡ stop.specified → ⊥) → is_in stop t ≡ false
  unfolding is_in
  in_unspecified h = rw (ne_eqb (bit_and t.specified stop.specified) stop.specified h)

  pub in_shows : bit_and t.specified stop.specified ≡ stop.specified → is_in stop t ≡ shows stop t.bits
  unfolding is_in
  in_shows h = rw (eq-eqb (bit_and t.specified stop.specified) stop.specified h)

module _ (stop : TestSlice) (ps bs : List ℕ) where
  abbrev pub rest : ℕ → ℕ
  rest i = in_count stop (drop i ps) (drop i bs)

  module _ (i : ℕ) (h : i < min (length ps) (length bs)) where
    pub in_hit : is_in stop (slice_at ps bs i) ≡ true → rest i ≡ suc (rest (i + 1))
    unfolding in_count filter
    in_hit t = rw (paired_from ps bs i h, t, filter)

    pub in_miss : is_in stop (slice_at ps bs i) ≡ false → rest i ≡ rest (i + 1)
    unfolding in_count filter
    in_miss t = rw (paired_from ps bs i h, t, filter)

  pub in_end : (i : ℕ) → min (length ps) (length bs) ≤ i → rest i ≡ 0
  unfolding in_count filter
  in_end i h = rw (paired-past ps bs i h)

module _ (p : ℕ) (stop : TestSlice) (u : Unset p stop) where
  pub put-fits : stop.specified < 2 ^ 64 → stop.specified + 2 ^ p < 2 ^ 64
  put-fits l = rw (one_weight stop.specified p) at (put_below 1 (omega arith) 64 stop.specified p u.within l (unset_free stop p u.unset))

  pub put_bit_fits : (b : ℕ) → b < 2 → stop.bits < 2 ^ 64 → stop.bits + b * 2 ^ p < 2 ^ 64
  put_bit_fits b h l = put_below b h 64 stop.bits p u.within l (free_bit stop p b u.unset h u.specified)
