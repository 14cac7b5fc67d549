-- What is picked of lists of entries.
--     picked-append      the picked of two lists, one after the other
--     picked_none, picked_all      of lines with one key none is picked, or all are
-- Assumes nothing.
use mathlib.Core.Bool.{Bool, true, false}
use mathlib.Core.Path.{◌≡◌, refl, ap}
use mathlib.Core.List.{List, [], ◌∷◌, ◌++◌, map}
use Prim.Native.Nat.{ℕ}
use Rattle.text_keys.specs.Keys.{same}
use Rattle.text_keys.specs.declared.Key.{Key}
use Rattle.text_lines.specs.Form.{entry}
use Rattle.text_lines.specs.declared.Entry.{Entry}
use Rattle.text_entries.specs.Said.{key_is, part_of, picked}
use Rattle.text_entries.specs.declared.Part.{Part}
use Rattle.text_entries.specs.declared.Part.TheVariants.{First}

module _ (k : Key) (p : Part) where
  pub picked-append : (xs ys : List Entry) → picked k p (xs ++ ys) ≡ picked k p xs ++ picked k p ys
  unfolding picked
  picked-append [] ys = refl
  picked-append (x ∷ xs) ys = go (key_is k x) (picked-append xs ys)
    where
      go : (b : Bool) → picked k p (xs ++ ys) ≡ picked k p xs ++ picked k p ys → elim b [ true ↦ part_of p x ∷ picked k p (xs ++ ys) | false ↦ picked k p (xs ++ ys) ] ≡ elim b [ true ↦ part_of p x ∷ picked k p xs | false ↦ picked k p xs ] ++ picked k p ys
      go true h = ap (λ (l : List ℕ). part_of p x ∷ l) h
      go false h = h

  pub picked_none : (j : Key) → same j k ≡ false → (vs : List ℕ) → picked k p (map (λ v. entry j v 0) vs) ≡ []
  unfolding picked
  picked_none j h [] = refl
  picked_none j h (v ∷ vs) = rw (h, picked) (picked_none j h vs)

pub picked_all : (j k : Key) → same j k ≡ true → (vs : List ℕ) → picked k First (map (λ v. entry j v 0) vs) ≡ vs
unfolding picked
picked_all j k h [] = refl
picked_all j k h (v ∷ vs) = rw (h, picked) (ap (λ (l : List ℕ). v ∷ l) (picked_all j k h vs))
