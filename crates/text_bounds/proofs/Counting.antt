-- What the entries of a reading come to: no more than all that may come.
--     spent c es           what the entries es come to, where one with the key k counts c k
--     reading_spends       so much at most from a place on
--     lines_few            a text has at most `most_lines` entries
--     numbers_few          and at most as many with a key as may stand in a row
-- Assumes nothing.
use mathlib.Core.Bool.{Bool, true, false}
use mathlib.Core.Path.{◌≡◌, refl}
use mathlib.Core.List.{List, [], ◌∷◌}
use Prim.Native.Nat.{ℕ, ◌+◌, ◌≤◌}
use native.Mathlib.Omega.{arith}
use borrow.Author.Tests.{leb-true}
use lib.Dec.{leb}
use lib.ListN.{length}
use Rattle.text_keys.specs.Keys.{rows, row_at, same, most}
use Rattle.text_keys.specs.declared.Key.{Key}
use Rattle.text_keys.proofs.Table.{every, every_of}
use Rattle.text_lines.specs.declared.Entry.{Entry}
use Rattle.text_lines.specs.declared.Line.{Line}
use Rattle.text_lines.specs.declared.Line.TheVariants as lines
use Rattle.text_split.specs.Text.{Text, line, rest, split}
use Rattle.text_entries.specs.Said.{part_of, picked}
use Rattle.text_entries.specs.declared.Part.{Part}
use Rattle.text_order.specs.declared.Kind.{Kind}
use Rattle.text_order.specs.declared.Kind.TheVariants.{Sheet, SeedList}
use Rattle.text_place.specs.Places.{start, moved}
use Rattle.text_place.specs.declared.Place.{Place}
use Rattle.text_ranges.specs.Ranges.{saying}
use Rattle.text_ranges.proofs.Accepting.{line_accepted}
use Rattle.text_reading.specs.Reading.{onward, reading, reading_of}
use Rattle.text_bounds.specs.Bounds.{sequence, sum_of, total, most_lines}
use Rattle.text_bounds.proofs.Ahead.{Sound, sound_start, sound_step, ahead, ahead_step, ahead_start}

unfoldable spent : (Key → ℕ) → List Entry → ℕ
spent c [] = 0
spent c (e ∷ es) = c e.key + spent c es

module _ (c : Key → ℕ) (kind : Kind) where
  text_spends : (p : Place) (n : ℕ) (t : Text) → Sound p → spent c (reading kind p n t).entries ≤ ahead c kind p
  unfolding reading spent
  text_spends p n (rest []) s = omega arith
  text_spends p n (rest (b ∷ o)) s = omega arith
  text_spends p n (line l t) s = go (saying kind p l) refl (λ e. text_spends (moved p e.key e.first) (n + 1) t)
    where
      go : (a : Line) → saying kind p l ≡ a
          → ((e : Entry) → Sound (moved p e.key e.first) → spent c (reading kind (moved p e.key e.first) (n + 1) t).entries ≤ ahead c kind (moved p e.key e.first))
          → spent c (onward a (λ e. reading kind (moved p e.key e.first) (n + 1) t) n).entries ≤ ahead c kind p
      go (lines.Refused d) q ih = omega arith
      go (lines.Said e) q ih =
          let a = line_accepted kind p e l q in
          let h = ih e (sound_step kind p e a) in
          let g = ahead_step c kind p e s a in
          omega arith

  reading_spends : (s : List ℕ) → spent c (reading_of kind s).entries ≤ total c kind
  unfolding reading_of
  reading_spends s = rw (← (ahead_start c kind)) (text_spends start 1 (split s) sound_start)

-- ---- how many lines

lines_spent : (es : List Entry) → length es ≡ spent (λ k. 1) es
unfolding spent
lines_spent [] = refl
lines_spent (e ∷ es) = let h = lines_spent es in omega arith

pub lines_few : (kind : Kind) (s : List ℕ) → length (reading_of kind s).entries ≤ most_lines
unfolding most_lines
lines_few Sheet s = omega (arith, lines_spent (reading_of Sheet s).entries, reading_spends (λ k. 1) Sheet s)
lines_few SeedList s = omega (arith, lines_spent (reading_of SeedList s).entries, reading_spends (λ k. 1) SeedList s)

-- ---- how many with a key

abbrev is_key : Key → Key → ℕ
is_key k j = elim (same j k) [ true ↦ 1 | false ↦ 0 ]

picked-spent : (k : Key) (p : Part) (es : List Entry) → length (picked k p es) ≡ spent (is_key k) es
unfolding picked spent
picked-spent k p [] = refl
picked-spent k p (e ∷ es) = go (same e.key k) (picked-spent k p es)
  where
    go : (b : Bool) → length (picked k p es) ≡ spent (is_key k) es → length {A = ℕ} (elim b [ true ↦ part_of p e ∷ picked k p es | false ↦ picked k p es ]) ≡ elim b [ true ↦ 1 | false ↦ 0 ] + spent (is_key k) es
    go true h = omega arith
    go false h = omega arith

all_few : (kind : Kind) → every (λ r. leb (total (is_key r.key) kind) (most r.key)) rows ≡ true
unfolding every rows total sum_of sequence same most row_at
all_few Sheet = refl
all_few SeedList = refl

pub numbers_few : (kind : Kind) (s : List ℕ) (k : Key) (p : Part) → length (picked k p (reading_of kind s).entries) ≤ most k
numbers_few kind s k p =
    let h = leb-true (total (is_key k) kind) (most k) (every_of (λ j. leb (total (is_key j) kind) (most j)) (all_few kind) k) in
    omega (arith, h, picked-spent k p (reading_of kind s).entries, reading_spends (is_key k) kind s)
