-- Lines as bytes (document 01, "Sheet and seed list").
--     bytes s        the bytes of a quoted text
--     feed           the line feed
use Rattle.std.specs.Prelude.{List, [], ◌∷◌, ℕ}
use Prim.Native.Char.{code}
use Prim.Native.String.{String}

abbrev pub bytes : String → List ℕ
bytes String.[] = []
bytes (String.◌∷◌ c s) = code c ∷ bytes s

abbrev pub feed : ℕ
feed = 10
