-- How many lines and bytes a text can have that is read (document 01, "Sheet and seed list"), computed from the table of keys.
--     sequence kind       the keys of such a text, in their order
--     sum_of c ks          what all lines with the keys ks come to, where a line with the key k counts c k
--     total c kind        what all lines of a text come to
--     most_lines           the most lines
--     longest_of rs, longest_line     the most bytes of a line with a key of the rows rs, and of any line
--     enough              so many bytes decide how a text is read: all lines, and one byte more than a line can have
--     widest_value n       the most digits or characters of a value in the notation n
--     widest k            the most bytes of a line that is written with the key k
--     most_text            the most bytes of a text that is written: slice lines, or a seed list
use Rattle.std.specs.Prelude.{List, [], ◌∷◌, ℕ, ◌+◌, ◌*◌, max, length}
use Rattle.text_keys.specs.Keys.{Row, rows, name, notation, most}
use Rattle.text_keys.specs.declared.Key.{Key}
use Rattle.text_keys.specs.declared.Key.TheVariants as key
use Rattle.text_keys.specs.declared.Notation.{Notation}
use Rattle.text_keys.specs.declared.Notation.TheVariants.{Decimal, Hexadecimal, Chainwise}
use Rattle.text_order.specs.declared.Kind.{Kind}
use Rattle.text_order.specs.declared.Kind.TheVariants.{Sheet, SeedList}

unfoldable pub sequence : Kind → List Key
sequence Sheet = key.Cells ∷ key.Taps ∷ key.Chains ∷ key.Chain ∷ key.Invert ∷ key.Window ∷ key.Depth ∷ key.Slice ∷ []
sequence SeedList = key.Cells ∷ key.Taps ∷ key.Chains ∷ key.Chain ∷ key.Invert ∷ key.Window ∷ key.Stop ∷ key.Slices ∷ key.Seed ∷ []

unfoldable pub sum_of : (Key → ℕ) → List Key → ℕ
sum_of c [] = 0
sum_of c (k ∷ ks) = c k * most k + sum_of c ks

unfoldable pub total : (Key → ℕ) → Kind → ℕ
total c kind = sum_of c (sequence kind)

unfoldable pub most_lines : ℕ
most_lines = max (total (λ k. 1) Sheet) (total (λ k. 1) SeedList)

unfoldable pub longest_of : List Row → ℕ
longest_of [] = 0
longest_of (r ∷ rs) = max r.longest (longest_of rs)

unfoldable pub longest_line : ℕ
longest_line = longest_of rows

unfoldable pub enough : ℕ
enough = max (total (λ k. longest_line) Sheet) (total (λ k. longest_line) SeedList) + (longest_line + 1)

-- The digits or characters of a value at most.
abbrev pub widest_value : Notation → ℕ
widest_value Decimal = 4
widest_value Hexadecimal = 16
widest_value Chainwise = 64

unfoldable pub widest : Key → ℕ
widest k = length (name k) + (widest_value (notation k) + 1)

unfoldable pub most_text : ℕ
most_text = max (widest key.Slice * most key.Slice) (total widest SeedList)
