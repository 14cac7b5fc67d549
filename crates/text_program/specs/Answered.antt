-- What a program does between its input and its output, where their bytes are known.
use Rattle.std.specs.Prelude.{List, ℕ, take}
use Rattle.std.specs.declared.option.Option.{Option}
use Rattle.std.specs.Io.KnownBytes.{Appends, Consumes}

-- a text came from the reader, and the writer got the first n bytes of what is printed for that text
abbrev pub IsAnswered : (List ℕ → List ℕ) → Option (List ℕ) → Option (List ℕ) → Option (List ℕ) → Option (List ℕ) → Type 0
IsAnswered printed given left before after = (text : List ℕ) × Consumes given left text × (n : ℕ) × Appends before after (take n (printed text))
