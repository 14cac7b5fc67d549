-- The lines of a text before a key (document 01, "Sheet and seed list").
--     lines_before k t     the bytes of the lines of the text t before the first one with the key k, each with its line feed
use Rattle.std.specs.Prelude.{true, false, List, [], ◌∷◌, ◌++◌, ℕ}
use Rattle.text_keys.specs.Bytes.{feed}
use Rattle.text_keys.specs.Keys.{name}
use Rattle.text_keys.specs.declared.Key.{Key}
use Rattle.text_key_of.specs.Begins.{starts}
use Rattle.text_split.specs.Text.{Text, line, rest}

-- Neither the line with the key nor what follows it.
unfoldable pub lines_before : Key → Text → List ℕ
lines_before k (rest o) = []
lines_before k (line l t) = elim (starts (name k) l) [ true ↦ [] | false ↦ l ++ (feed ∷ lines_before k t) ]
