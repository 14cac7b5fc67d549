-- Inverted chains (document 02, R-4). A chain that is inverted delivers the opposite bit; a test slice whose specified bits are flipped at the inverted chains asks the same of a slice that is formed without inversion.
--     flipped invert t                      the test slice t, its specified bits at inverted chains flipped
--     flipped_bits invert specified bits     the bits of a list of test slices, flipped alike
--     upright g                             the settings g with no chain inverted
use Rattle.std.specs.Prelude.{List, [], ◌∷◌, ℕ}
use Rattle.std.specs.Int.Bits.{bit_and, bit_xor}
use Rattle.machine_settings.specs.Machine.{none_inverted}
use Rattle.machine_settings.specs.declared.Settings.{Settings}
use Rattle.machine_slices.specs.declared.TestSlice.{TestSlice}

unfoldable pub flipped : ℕ → TestSlice → TestSlice
flipped invert t = record { specified = t.specified; bits = bit_xor t.bits (bit_and invert t.specified) }

unfoldable pub flipped_bits : ℕ → List ℕ → List ℕ → List ℕ
flipped_bits invert [] bs = []
flipped_bits invert (p ∷ ps) [] = []
flipped_bits invert (p ∷ ps) (b ∷ bs) = (flipped invert (record { specified = p; bits = b })).bits ∷ flipped_bits invert ps bs

abbrev pub upright : Settings → Settings
upright g = record { cells = g.cells; taps = g.taps; limit = g.limit; invert = none_inverted }
