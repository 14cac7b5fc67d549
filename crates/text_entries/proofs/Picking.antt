-- The numbers of the lines with a key, picked as a loop goes up through the list.
--     entry_in, entry_out     what three numbers of the list say, by the first
--     part_at, offset-most    where a number of a line stands
--     drop_three              the list from a place on
--     picked_match, picked_miss, picked-here, picked-other     a line with the key, and one with another
--     short_none              fewer than three numbers say nothing
--     Left              what holds at the head of the loop: the rest, picked from here on, fills the list as the whole does
--     left-start, left_long, left_here, left_other, left_end
-- Assumes nothing.
use mathlib.Core.Bool.{Bool, true, false}
use mathlib.Core.Logic.{⊎_elim}
use mathlib.Core.Path.{◌≡◌, refl, sym, ap, ◌∙◌}
use mathlib.Core.List.{List, [], ◌∷◌}
use Prim.Native.Nat.{ℕ, suc, ◌+◌, ◌-◌, ◌≤◌, ◌<◌}
use native.Mathlib.Omega.{arith}
use borrow.Author.Tests.{lt-ltb, le-ltb, eq-eqb, ne_eqb}
use lib.Dec.{ltb}
use lib.ListN.{length, get_or, drop, set, length-drop}
use lib.Seq.{sets, drop-cons, length-sets}
use Rattle.words_bounded.proofs.Tests.{lt_or_le}
use Rattle.text_keys.specs.Keys.{count, rank, row_at, same}
use Rattle.text_keys.specs.declared.Key.{Key}
use Rattle.text_keys.proofs.Table.{placed, rank_at}
use Rattle.text_lines.specs.Form.{entry}
use Rattle.text_lines.specs.declared.Entry.{Entry}
use Rattle.text_entries.specs.Said.{part_of, picked}
use Rattle.text_entries.specs.Flat.{offset, entries_in}
use Rattle.text_entries.specs.declared.Part.{Part}
use Rattle.text_entries.specs.declared.Part.TheVariants.{First, Second}

module _ (r a b : ℕ) (l : List ℕ) where
  by_rank : (t : Bool) → ltb r count ≡ t → entries_in (r ∷ a ∷ b ∷ l) ≡ elim t [ true ↦ entry (row_at r).key a b ∷ entries_in l | false ↦ entries_in l ]
  unfolding entries_in
  by_rank t e = ap (λ (u : Bool). elim u as (λ _. List Entry) [ true ↦ entry (row_at r).key a b ∷ entries_in l | false ↦ entries_in l ]) e

  pub entry_in : r < count → entries_in (r ∷ a ∷ b ∷ l) ≡ entry (row_at r).key a b ∷ entries_in l
  entry_in h = by_rank true (lt-ltb r count h)

  entry_out : count ≤ r → entries_in (r ∷ a ∷ b ∷ l) ≡ entries_in l
  entry_out h = by_rank false (le-ltb r count h)

part_at : (p : Part) (x y z : ℕ) (l : List ℕ) (j : Key) → part_of p (entry j y z) ≡ get_or (x ∷ y ∷ z ∷ l) (offset p) 0
part_at First x y z l j = refl
part_at Second x y z l j = refl

pub offset-most : (p : Part) → offset p ≤ 2
offset-most First = omega arith
offset-most Second = omega arith

drop_three : (l : List ℕ) (i : ℕ) → 3 ≤ length l - i → drop i l ≡ get_or l i 0 ∷ get_or l (i + 1) 0 ∷ get_or l (i + 2) 0 ∷ drop (i + 3) l
drop_three l i h =
    let a : i + 1 ≡ suc i = omega arith in
    let b : i + 2 ≡ suc (suc i) = omega arith in
    let c : i + 3 ≡ suc (suc (suc i)) = omega arith in
    rw (a, b, c, drop-cons l i 0 (omega arith), drop-cons l (suc i) 0 (omega arith), drop-cons l (suc (suc i)) 0 (omega arith))

module _ (k : Key) (p : Part) where
  -- What is picked from a list.
  abbrev picked_in : List ℕ → List ℕ
  picked_in l = picked k p (entries_in l)

  picked_match : (x y z : ℕ) (l : List ℕ) → x ≡ rank k → picked_in (x ∷ y ∷ z ∷ l) ≡ get_or (x ∷ y ∷ z ∷ l) (offset p) 0 ∷ picked_in l
  unfolding picked same
  picked_match x y z l e =
      let t = eq-eqb (rank (row_at x).key) (rank k) (rank_at x (rw e (placed k).within) ∙ e) in
      ap (picked k p) (entry_in x y z l (rw e (placed k).within)) ∙ rw (t, picked) (ap (λ v. v ∷ picked_in l) (part_at p x y z l (row_at x).key))

  picked_miss : (x y z : ℕ) (l : List ℕ) → (x ≡ rank k → ⊥) → picked_in (x ∷ y ∷ z ∷ l) ≡ picked_in l
  unfolding picked same
  picked_miss x y z l f = ⊎_elim inside (λ h. ap (picked k p) (entry_out x y z l h)) (lt_or_le x count)
    where
      inside : x < count → picked_in (x ∷ y ∷ z ∷ l) ≡ picked_in l
      inside h = let t = ne_eqb (rank (row_at x).key) (rank k) (λ q. f (sym (rank_at x h) ∙ q)) in ap (picked k p) (entry_in x y z l h) ∙ rw (t, picked)

  module _ (l : List ℕ) (i : ℕ) (h : 3 ≤ length l - i) where
    picked-here : get_or l i 0 ≡ rank k → picked_in (drop i l) ≡ get_or l (i + offset p) 0 ∷ picked_in (drop (i + 3) l)
    picked-here q = ap picked_in (drop_three l i h) ∙ picked_match _ _ _ _ q ∙ ap (λ v. v ∷ picked_in (drop (i + 3) l)) (go p)
      where
        go : (t : Part) → get_or (get_or l i 0 ∷ get_or l (i + 1) 0 ∷ get_or l (i + 2) 0 ∷ drop (i + 3) l) (offset t) 0 ≡ get_or l (i + offset t) 0
        go First = refl
        go Second = refl

    picked-other : (get_or l i 0 ≡ rank k → ⊥) → picked_in (drop i l) ≡ picked_in (drop (i + 3) l)
    picked-other q = ap picked_in (drop_three l i h) ∙ picked_miss _ _ _ _ q

short_none : (l : List ℕ) → length l < 3 → entries_in l ≡ []
unfolding entries_in
short_none [] h = refl
short_none (x ∷ []) h = refl
short_none (x ∷ y ∷ []) h = refl
short_none (x ∷ y ∷ z ∷ l) h = absurd (omega arith)

pub record Left (l old : List ℕ) (k : Key) (p : Part) (list : List ℕ) (n i : ℕ) : Type 0 where
  pub here : i ≤ length l
  pub few : n ≤ i
  pub count : n + length (picked_in k p (drop i l)) ≡ length (picked_in k p l)
  pub filled : sets list n (picked_in k p (drop i l)) ≡ sets old 0 (picked_in k p l)

module _ (l old : List ℕ) (k : Key) (p : Part) where
  pub left-start : Left l old k p old 0 0
  left-start = record { here = omega arith; few = omega arith; count = omega arith; filled = refl }

  module _ (list : List ℕ) (n i : ℕ) (w : Left l old k p list n i) where
    pub left_long : length list ≡ length old
    left_long = sym (length-sets list n (picked_in k p (drop i l))) ∙ ap length w.filled ∙ length-sets old 0 (picked_in k p l)

    pub left_here : 3 ≤ length l - i → get_or l i 0 ≡ rank k → Left l old k p (set list n (get_or l (i + offset p) 0)) (n + 1) (i + 3)
    left_here h q =
        let c = picked-here k p l i h q in
        let s : n + 1 ≡ suc n = omega arith in
        record {
          here = omega arith;
          few = let f = w.few in omega arith;
          count = let f = w.count in let g = ap length c in omega arith;
          filled = rw s (ap (sets list n) (sym c) ∙ w.filled);
        }

    pub left_other : 3 ≤ length l - i → (get_or l i 0 ≡ rank k → ⊥) → Left l old k p list n (i + 3)
    left_other h q =
        let c = picked-other k p l i h q in
        record {
          here = omega arith;
          few = let f = w.few in omega arith;
          count = ap (λ (m : List ℕ). n + length m) (sym c) ∙ w.count;
          filled = ap (sets list n) (sym c) ∙ w.filled;
        }

    pub left_end : length l - i < 3 → (n ≡ length (picked_in k p l)) × (list ≡ sets old 0 (picked_in k p l))
    unfolding picked
    left_end h =
        let z : picked_in k p (drop i l) ≡ [] = ap (picked k p) (short_none (drop i l) (simp length-drop (omega arith))) in
        (let f = w.count in let g = ap length z in omega arith, sym (ap (sets list n) z) ∙ w.filled)
