-- The front of a list that was filled with the numbers of a key.
--     filled_front, filled_within     it is those numbers, where the list has space for them, and it lies within
--     few_front, few_long             the same of a list of so many entries
--     parts_long                      a key has as many first numbers as second ones
-- Assumes nothing.
use mathlib.Core.Bool.{Bool, true, false}
use mathlib.Core.Path.{◌≡◌, refl, sym, ap, ◌∙◌}
use mathlib.Core.List.{List, [], ◌∷◌, ◌++◌}
use Prim.Native.Nat.{ℕ, suc, ◌≤◌}
use lib.ListN.{length, take, drop, replicate, length-replicate}
use lib.Seq.{sets, length-sets, length-take-le, take-append_seam}
use Rattle.text_keys.specs.declared.Key.{Key}
use Rattle.text_lines.specs.declared.Entry.{Entry}
use Rattle.text_write_bytes.proofs.Storing.{sets-front}
use Rattle.text_entries.specs.Said.{key_is, picked, numbers_for, bits_for}

filled_front : (xs old : List ℕ) (n : ℕ) → n ≡ length xs → length xs ≤ length old → (l : List ℕ) → l ≡ sets old 0 xs → take n l ≡ xs
filled_front xs old n e h l q = ap (take n) (q ∙ sets-front xs old (length xs) refl h) ∙ ap (λ k. take k (xs ++ drop (length xs) old)) e ∙ take-append_seam xs (drop (length xs) old)

filled_within : (xs old : List ℕ) (n : ℕ) → n ≡ length xs → length xs ≤ length old → (l : List ℕ) → l ≡ sets old 0 xs → n ≤ length l
filled_within xs old n e h l q = rw (ap length q ∙ length-sets old 0 xs, e) h

module _ (most : ℕ) (xs : List ℕ) (few : length xs ≤ most) (n : ℕ) (e : n ≡ length xs) (l : List ℕ) (q : l ≡ sets (replicate most 0) 0 xs) where
  space : length xs ≤ length {A = ℕ} (replicate most 0)
  space = rw (length-replicate {A = ℕ} most 0) few

  pub few_front : take n l ≡ xs
  few_front = filled_front xs (replicate most 0) n e space l q

  pub few_long : n ≡ length (take n l)
  few_long = sym (length-take-le n l (filled_within xs (replicate most 0) n e space l q))

pub parts_long : (k : Key) (es : List Entry) → length (numbers_for k es) ≡ length (bits_for k es)
unfolding picked
parts_long k [] = refl
parts_long k (e ∷ es) = go (key_is k e) (parts_long k es)
  where
    go : (b : Bool) → length (numbers_for k es) ≡ length (bits_for k es) → length {A = ℕ} (elim b [ true ↦ e.first ∷ numbers_for k es | false ↦ numbers_for k es ]) ≡ length {A = ℕ} (elim b [ true ↦ e.second ∷ bits_for k es | false ↦ bits_for k es ])
    go true h = ap suc h
    go false h = h
