-- The names of the table, as a loop goes up through its rows.
--     name-front, name_inside      a name stands in front of its spaces
--     key_here, key_go, key_end    the key with which a line begins
-- Assumes nothing.
use Rattle.std.specs.Prelude.{None, Some}
use mathlib.Core.Bool.{Bool, true, false}
use mathlib.Core.Path.{◌≡◌, refl, ap, ◌∙◌}
use mathlib.Core.List.{List, ◌++◌}
use Prim.Native.Nat.{ℕ, ◌+◌, ◌≤◌, ◌<◌}
use native.Mathlib.Numerals.{add-one}
use native.Mathlib.Omega.{arith}
use borrow.Author.Tests.{leb-true}
use lib.Dec.{leb}
use lib.ListN.{length, take, drop, drop_of_length-le, length-take}
use lib.Seq.{drop-cons, take-take, take-append_seam}
use Rattle.text_keys.specs.Bytes.{bytes}
use Rattle.text_keys.specs.Keys.{Row, rows, count, blank, row_at}
use Rattle.text_keys.proofs.Table.{every, every_at, rows-count}
use Rattle.text_key_of.specs.Begins.{starts, key_of}

short : Row → Bool
short r = leb (length r.name) 7

all_short : every short rows ≡ true
unfolding rows every short
all_short = refl

name-fits : (i : ℕ) → i < count → length (row_at i).name ≤ 7
unfolding row_at short
name-fits i h = leb-true _ _ (every_at short rows all_short i blank (rw rows-count h))

pub name-front : (i : ℕ) → i < count → take (length (row_at i).name) (take 7 ((row_at i).name ++ bytes "       ")) ≡ (row_at i).name
name-front i h = take-take _ 7 _ (name-fits i h) ∙ take-append_seam (row_at i).name (bytes "       ")

pub name_inside : (i : ℕ) → i < count → length (row_at i).name ≤ length (take 7 ((row_at i).name ++ bytes "       "))
name_inside i h =
    let m = length (row_at i).name in
    let x = take 7 ((row_at i).name ++ bytes "       ") in
    omega (arith, ap length (name-front i h), length-take m x)

module _ (l : List ℕ) (i : ℕ) where
  pub key_here : i < count → starts (row_at i).name l ≡ true → key_of (drop i rows) l ≡ Some (row_at i).key
  unfolding key_of row_at
  key_here h s = rw (drop-cons rows i blank (rw rows-count h), key_of, s)

  pub key_go : i < count → starts (row_at i).name l ≡ false → key_of (drop i rows) l ≡ key_of (drop (i + 1) rows) l
  unfolding key_of row_at
  key_go h s = rw (drop-cons rows i blank (rw rows-count h), add-one, key_of, s)

  pub key_end : count ≤ i → key_of (drop i rows) l ≡ None
  unfolding key_of
  key_end h = let g : length rows ≤ i = rw rows-count h in rw (drop_of_length-le rows g)
