-- What one search found beside what was found before.
--     lower a b                     the lower of two that were found
--     reached found x               what was found is x or lower
use Rattle.std.specs.Prelude.{Bool, true, false, ℕ, leb, None, Option, Some}

abbrev pub lower : Option ℕ → Option ℕ → Option ℕ
lower None b = b
lower (Some s) None = Some s
lower (Some s) (Some t) = elim (leb s t) [ true ↦ Some s | false ↦ Some t ]

abbrev pub reached : Option ℕ → ℕ → Bool
reached None x = false
reached (Some s) x = leb s x
