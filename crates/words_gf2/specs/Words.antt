-- Words as vectors of bits (document 01, "Register and chains"): cell i has weight 2 ^ i.
--     digit x i         what cell i of the word x holds
--     odd s m           1 where an odd number of the cells in the mask m hold 1 in s, else 0
--     beyond n x        x has a bit at or above n
use Rattle.std.specs.Prelude.{Bool, ℕ, ◌/◌, ◌%◌, ◌^◌, leb}
use Rattle.std.specs.Int.Bits.{bit_and}
use Rattle.std.specs.Int.Count.{ones}

unfoldable pub digit : ℕ → ℕ → ℕ
digit x i = x / 2 ^ i % 2

-- A count of ones of state and mask, modulo 2.
unfoldable pub odd : ℕ → ℕ → ℕ
odd s m = ones (bit_and s m) % 2

unfoldable pub beyond : ℕ → ℕ → Bool
beyond n x = leb (2 ^ n) x
