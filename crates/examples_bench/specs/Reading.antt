-- A slice as document 01 writes it: a character for each chain, chain 1 leftmost; 0, 1 or x.
--     of_said r               the slice that characters say; none where there is none
--     slice s                the test slice or stop slice of such a text
--     specifieds, bitses     the two lists of several
use Rattle.std.specs.Prelude.{List, [], ◌∷◌, ℕ, None, Option, Some}
use Prim.Native.String.{String}
use Rattle.machine_slices.specs.declared.TestSlice.{TestSlice}
use Rattle.text_keys.specs.Bytes.{bytes}
use Rattle.text_characters.specs.Characters.{slice_of}

abbrev pub of_said : Option TestSlice → TestSlice
of_said (Some s) = s
of_said None = record { specified = 0; bits = 0 }

abbrev pub slice : String → TestSlice
slice s = of_said (slice_of (bytes s))

abbrev pub specifieds : List String → List ℕ
specifieds [] = []
specifieds (s ∷ ss) = (slice s).specified ∷ specifieds ss

abbrev pub bitses : List String → List ℕ
bitses [] = []
bitses (s ∷ ss) = (slice s).bits ∷ bitses ss
