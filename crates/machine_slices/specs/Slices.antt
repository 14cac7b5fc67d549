-- Test slices and stop slices (document 01, "Register and chains"; causes 4 and 5 of its refusal sheet). A test slice or stop slice is two numbers: its specified positions, and its bits there.
--     agrees t v                       the slice v agrees with every specified bit of the test slice t
--     shows stop v                     the slice v shows the stop slice
--     paired specified bits            the test slices of two lists
--     full chains v                    the slice v as a test slice that is specified at every position
--     bad_slice chains t                a test slice that is not well-formed
--     bad_slices chains specified bits  cause 4
--     bad_stop chains stop              cause 5
use Rattle.std.specs.Prelude.{Bool, not, ◌||◌, List, [], ◌∷◌, ℕ, ◌-◌, ◌^◌, eqb, length}
use Rattle.std.specs.Int.Bits.{bit_and}
use Rattle.words_bounded.specs.Bounded.{any}
use Rattle.words_gf2.specs.Words.{beyond}
use Rattle.machine_slices.specs.declared.TestSlice.{TestSlice}

unfoldable pub agrees : TestSlice → ℕ → Bool
agrees t v = eqb (bit_and v t.specified) t.bits

-- It has the stop's bit at each specified position of the stop.
unfoldable pub shows : TestSlice → ℕ → Bool
shows stop v = agrees stop v

unfoldable pub paired : List ℕ → List ℕ → List TestSlice
paired [] bs = []
paired (p ∷ ps) [] = []
paired (p ∷ ps) (b ∷ bs) = record { specified = p; bits = b } ∷ paired ps bs

abbrev pub full : ℕ → ℕ → TestSlice
full chains v = record { specified = 2 ^ chains - 1; bits = v }

-- A bit set where unspecified, or a bit of either number beyond the chains.
unfoldable pub bad_slice : ℕ → TestSlice → Bool
bad_slice chains t = not (eqb (bit_and t.bits t.specified) t.bits) || (beyond chains t.specified || beyond chains t.bits)

unfoldable pub bad_slices : ℕ → List ℕ → List ℕ → Bool
bad_slices chains specified bits = not (eqb (length specified) (length bits)) || any (bad_slice chains) (paired specified bits)

-- No specified position, or formed as in cause 4.
unfoldable pub bad_stop : ℕ → TestSlice → Bool
bad_stop chains stop = eqb stop.specified 0 || bad_slice chains stop
