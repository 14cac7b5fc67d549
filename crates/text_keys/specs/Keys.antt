-- The keys (document 01, "Sheet and seed list": "Text lines are key=value"). A key is a row of one table.
--     Row             a key, its name, how its value is written (a number decimal or hexadecimal, a slice chainwise), the most bytes of a line with it, its line feed included, how many such lines may stand in a row, which numbers they may have, and the cause of what is beyond
--     row             a row, by these in turn
--     rows            the table
--     count           how many rows it has
--     blank           what stands beyond it
--     row_at i         the row at the place i
--     rank k          the place of the key k in the table
--     row_of k         the row of the key k
--     name k, notation k, longest k, most k, range k, cause k     what its row says
--     same j k        one key
--     spelling r, bounds r     the row r as the code has it: the name with spaces behind it, and its length
use Rattle.std.specs.Prelude.{Bool, List, [], ◌∷◌, ◌++◌, ℕ, eqb, length, take, get_or}
use Prim.Native.String.{String}
use Rattle.text_keys.specs.Bytes.{bytes}
use Rattle.text_keys.specs.declared.Key.{Key}
use Rattle.text_keys.specs.declared.Key.TheVariants as key
use Rattle.text_keys.specs.declared.Notation.{Notation}
use Rattle.text_keys.specs.declared.Notation.TheVariants.{Decimal, Hexadecimal, Chainwise}
use Rattle.text_keys.specs.declared.Range.{Range}
use Rattle.text_keys.specs.declared.Range.TheVariants.{Between, Taps, Mask, Inverted, Specified, Any}
use Rattle.text_keys.specs.declared.LineCause.{LineCause}
use Rattle.text_keys.specs.declared.LineCause.TheVariants.{Register, Chains, Lengths, StopSlice}
use Rattle.text_keys.specs.declared.Spelling.{Spelling}
use Rattle.text_keys.specs.declared.Bounds.{Bounds}

pub record Row : Type 0 where
  pub key : Key
  pub name : List ℕ
  pub notation : Notation
  pub longest : ℕ
  pub most : ℕ
  pub range : Range
  pub cause : LineCause

abbrev pub row : Key → String → Notation → ℕ → ℕ → Range → LineCause → Row
row k s n l m r c = record { key = k; name = bytes s; notation = n; longest = l; most = m; range = r; cause = c }

-- A register of 1 to 64 cells, 1 to 64 chains, windows and depths up to 256, totals up to 2,048; one chain line for each chain, and up to 2,048 slice or seed lines.
unfoldable pub rows : List Row
rows =
    row key.Cells "cells=" Decimal 80 1 (Between 1 64) Register
    ∷ row key.Taps "taps=" Hexadecimal 80 1 Taps Register
    ∷ row key.Chains "chains=" Decimal 80 1 (Between 1 64) Chains
    ∷ row key.Chain "chain=" Hexadecimal 80 64 Mask Chains
    ∷ row key.Invert "invert=" Hexadecimal 80 1 Inverted Chains
    ∷ row key.Window "window=" Decimal 80 1 (Between 1 256) Lengths
    ∷ row key.Depth "depth=" Decimal 80 1 (Between 1 256) Lengths
    ∷ row key.Slice "slice=" Chainwise 80 2048 Any Lengths
    ∷ row key.Stop "stop=" Chainwise 80 1 Specified StopSlice
    ∷ row key.Slices "slices=" Decimal 80 1 (Between 1 2048) Lengths
    ∷ row key.Seed "seed=" Hexadecimal 80 2048 Any Lengths
    ∷ []

abbrev pub count : ℕ
count = 11

abbrev pub blank : Row
blank = row key.Cells "" Decimal 0 0 Any Lengths

unfoldable pub row_at : ℕ → Row
row_at i = get_or rows i blank

abbrev pub rank : Key → ℕ
rank key.Cells = 0
rank key.Taps = 1
rank key.Chains = 2
rank key.Chain = 3
rank key.Invert = 4
rank key.Window = 5
rank key.Depth = 6
rank key.Slice = 7
rank key.Stop = 8
rank key.Slices = 9
rank key.Seed = 10

abbrev pub row_of : Key → Row
row_of k = row_at (rank k)

unfoldable pub name : Key → List ℕ
name k = (row_of k).name

unfoldable pub notation : Key → Notation
notation k = (row_of k).notation

unfoldable pub longest : Key → ℕ
longest k = (row_of k).longest

unfoldable pub most : Key → ℕ
most k = (row_of k).most

unfoldable pub range : Key → Range
range k = (row_of k).range

unfoldable pub cause : Key → LineCause
cause k = (row_of k).cause

unfoldable pub same : Key → Key → Bool
same j k = eqb (rank j) (rank k)

abbrev pub spelling : Row → Spelling
spelling r = record { 0 = r.key; 1 = take 7 (r.name ++ bytes "       "); 2 = length r.name; 3 = r.notation; 4 = r.longest }

abbrev pub bounds : Row → Bounds
bounds r = record { 0 = r.most; 1 = r.range; 2 = r.cause }
