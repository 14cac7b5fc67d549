-- Whether a slice is still in, looked up: it has the stop's bit at each position set so far (document 02, R-7).
--     HasAll stop t                      the test slice t has the stop's bit at each position of the stop that is set
--     BitsSpecified stop                 no bit of the stop slice is set that is not specified
--     is_in stop t                        the same as a test on words: `in_each` and `each_in` of proofs/Lookup
--     in_count stop specified bits        how many test slices are in; of two lists unequally long, the shorter counts
--     LookedUp chains set                after each step, the slices that are looked up to be in are just those that the published steps leave in: `looked_up` of proofs/Stages
use Rattle.std.specs.Prelude.{◌≡◌, Bool, true, ◌&&◌, List, ◌↔◌, ℕ, eqb, length}
use Rattle.std.specs.Int.Bits.{bit_and}
use Rattle.words_gf2.specs.Words.{digit}
use Rattle.machine_slices.specs.declared.TestSlice.{TestSlice}
use Rattle.machine_slices.specs.Slices.{shows, paired}
use Rattle.stop_steps.specs.Steps.{has, is_set, filter, stage}

abbrev pub HasAll : TestSlice → TestSlice → Type 0
HasAll stop t = (p : ℕ) → is_set p stop ≡ true → has p (digit stop.bits p) t ≡ true

abbrev pub BitsSpecified : TestSlice → Type 0
BitsSpecified stop = bit_and stop.bits stop.specified ≡ stop.bits

unfoldable pub is_in : TestSlice → TestSlice → Bool
is_in stop t = eqb (bit_and t.specified stop.specified) stop.specified && shows stop t.bits

unfoldable pub in_count : TestSlice → List ℕ → List ℕ → ℕ
in_count stop specified bits = length (filter (is_in stop) (paired specified bits))

-- R-7: "A slice is in exactly while it has the stop's bit at each position set so far, and that can be looked up; prove that after each step this gives just the slices that the published steps leave in." After k steps, for every k; in the order of the set.
pub record LookedUp (chains : ℕ) (set : List TestSlice) : Type 0 where
  pub in_exactly : (k : ℕ) (t : TestSlice) → (is_in (stage chains set k).stop t ≡ true) ↔ HasAll (stage chains set k).stop t
  pub left_in : (k : ℕ) → filter (is_in (stage chains set k).stop) set ≡ (stage chains set k).left
