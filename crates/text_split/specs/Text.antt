-- Texts by their lines (document 01, "Sheet and seed list": lines "each ended by one line feed").
--     Text           a line, without its line feed, and the text after it; or the bytes after the last line feed
--     joined b t     the text t with the byte b in front
--     split s        the bytes s by their lines
--     span s         how many bytes of s stand before the first line feed
use Rattle.std.specs.Prelude.{true, false, List, [], ◌∷◌, ℕ, zero, suc, eqb}
use Rattle.text_keys.specs.Bytes.{feed}

pub data Text : Type 0 where
  line : List ℕ → Text → Text
  rest : List ℕ → Text

abbrev pub joined : ℕ → Text → Text
joined b (line l t) = line (b ∷ l) t
joined b (rest o) = rest (b ∷ o)

unfoldable pub split : List ℕ → Text
split [] = rest []
split (b ∷ s) = elim (eqb b feed) [ true ↦ line [] (split s) | false ↦ joined b (split s) ]

unfoldable pub span : List ℕ → ℕ
span [] = zero
span (b ∷ s) = elim (eqb b feed) [ true ↦ zero | false ↦ suc (span s) ]
