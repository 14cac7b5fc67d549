-- The entries of the accepted lines as one list of numbers.
--     words e         the numbers of the entry e: the rank of its key, and its two numbers
--     flat es         those of the entries es, one after another
--     past n i        the place after those of an entry that is kept at i in a list of n numbers
--     offset p        where the first or the second number of an entry stands after its rank
--     entries_in l     the entries that the list l keeps; what is no rank of a key says nothing
use Rattle.std.specs.Prelude.{true, false, List, [], ◌∷◌, ◌++◌, ℕ, ◌+◌, leb, ltb}
use Rattle.text_keys.specs.Keys.{rank, count, row_at}
use Rattle.text_lines.specs.Form.{entry}
use Rattle.text_lines.specs.declared.Entry.{Entry}
use Rattle.text_entries.specs.declared.Part.{Part}
use Rattle.text_entries.specs.declared.Part.TheVariants.{First, Second}

abbrev pub words : Entry → List ℕ
words e = rank e.key ∷ e.first ∷ e.second ∷ []

unfoldable pub flat : List Entry → List ℕ
flat [] = []
flat (e ∷ es) = words e ++ flat es

-- Beyond the end of the list nothing is kept.
unfoldable pub past : ℕ → ℕ → ℕ
past n i = elim (leb n i) [ true ↦ i | false ↦ i + 3 ]

abbrev pub offset : Part → ℕ
offset First = 1
offset Second = 2

unfoldable pub entries_in : List ℕ → List Entry
entries_in [] = []
entries_in (r ∷ []) = []
entries_in (r ∷ a ∷ []) = []
entries_in (r ∷ a ∷ b ∷ l) = elim (ltb r count) [ true ↦ entry (row_at r).key a b ∷ entries_in l | false ↦ entries_in l ]
