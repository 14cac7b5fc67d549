-- What the lines of a text say, by their keys (document 01, "Sheet and seed list"; document 02, R-3 and R-4).
--     key_is k e           the entry e has the key k
--     part_of p e          the first or the second number of the entry e
--     picked k p es       those of the entries of es with the key k, in order
--     numbers_for k es     the numbers for a key, or the specified positions of its slices
--     bits_for k es        the bits of its slices
--     masks_of es          the masks that the chain lines say
--     number_for k es      the number for a key that has one line
--     slice_for k es       the slice for such a key
--     inverts_of es        the number that the invert line says, or none
--     invert_of es         the inverted chains
--     windows_of es        the number that the window line says, or none
--     limit_of es          the limit of windows
--     settings_of es       the settings of the call
--     Few es              no more lines of a key than a text can have accepted, of the keys whose numbers are listed
use Rattle.std.specs.Prelude.{Bool, true, false, List, [], ◌∷◌, ℕ, ◌≤◌, length, get_or}
use Rattle.machine_settings.specs.declared.Settings.{Settings}
use Rattle.machine_settings.specs.Machine.{default_limit, none_inverted}
use Rattle.machine_slices.specs.declared.TestSlice.{TestSlice}
use Rattle.text_keys.specs.Keys.{same}
use Rattle.text_keys.specs.declared.Key.{Key}
use Rattle.text_keys.specs.declared.Key.TheVariants as key
use Rattle.text_lines.specs.declared.Entry.{Entry}
use Rattle.text_entries.specs.declared.Part.{Part}
use Rattle.text_entries.specs.declared.Part.TheVariants.{First, Second}

abbrev pub key_is : Key → Entry → Bool
key_is k e = same e.key k

abbrev pub part_of : Part → Entry → ℕ
part_of First e = e.first
part_of Second e = e.second

unfoldable pub picked : Key → Part → List Entry → List ℕ
picked k p [] = []
picked k p (e ∷ es) = elim (key_is k e) [ true ↦ part_of p e ∷ picked k p es | false ↦ picked k p es ]

abbrev pub numbers_for : Key → List Entry → List ℕ
numbers_for k es = picked k First es

abbrev pub bits_for : Key → List Entry → List ℕ
bits_for k es = picked k Second es

abbrev pub masks_of : List Entry → List ℕ
masks_of es = numbers_for key.Chain es

abbrev pub number_for : Key → List Entry → ℕ
number_for k es = get_or (numbers_for k es) 0 0

abbrev pub slice_for : Key → List Entry → TestSlice
slice_for k es = record { specified = number_for k es; bits = get_or (bits_for k es) 0 0 }

abbrev pub inverts_of : List Entry → List ℕ
inverts_of es = numbers_for key.Invert es

-- Without an invert line there are none.
abbrev pub invert_of : List Entry → ℕ
invert_of es = get_or (inverts_of es) 0 none_inverted

abbrev pub windows_of : List Entry → List ℕ
windows_of es = numbers_for key.Window es

-- Without a window line it is 256.
abbrev pub limit_of : List Entry → ℕ
limit_of es = get_or (windows_of es) 0 default_limit

abbrev pub settings_of : List Entry → Settings
settings_of es = record { cells = number_for key.Cells es; taps = number_for key.Taps es; limit = limit_of es; invert = invert_of es }

pub record Few (es : List Entry) : Type 0 where
  pub masks : length (masks_of es) ≤ 64
  pub inverts : length (inverts_of es) ≤ 1
  pub windows : length (windows_of es) ≤ 1
  pub slices : length (numbers_for key.Slice es) ≤ 2048
  pub seeds : length (numbers_for key.Seed es) ≤ 2048
