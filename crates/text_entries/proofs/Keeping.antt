-- Entries kept one after another in one list.
--     keep_three     three numbers, stored one by one
--     sets_out       beyond the end nothing is stored
--     past_out, past_in     the place after an entry
--     flat_step      an entry in front is kept first, and the rest from the next place on
--     one_front      the first of a list of one that is filled
-- Assumes nothing.
use mathlib.Core.Path.{◌≡◌, refl, sym, ap, ◌∙◌}
use mathlib.Core.Bool.{Bool, true, false}
use mathlib.Core.List.{List, [], ◌∷◌, ◌++◌}
use Prim.Native.Nat.{ℕ, suc, ◌+◌, ◌≤◌, ◌<◌}
use native.Mathlib.Omega.{arith}
use borrow.Author.Tests.{leb-true, le-leb, lt-leb}
use lib.Dec.{leb}
use lib.ListN.{length, get_or, set}
use lib.Seq.{sets, set_out}
use Rattle.text_lines.specs.declared.Entry.{Entry}
use Rattle.text_entries.specs.Flat.{words, flat, past}

pub keep_three : (l : List ℕ) (i a b c : ℕ) → set (set (set l i a) (i + 1) b) (i + 2) c ≡ sets l i (a ∷ b ∷ c ∷ [])
keep_three l i a b c =
    let e : i + 1 ≡ suc i = omega arith in
    let f : i + 2 ≡ suc (suc i) = omega arith in
    rw (e, f)

pub sets_out : (l : List ℕ) (i : ℕ) (vs : List ℕ) → length l ≤ i → sets l i vs ≡ l
sets_out l i [] h = refl
sets_out l i (v ∷ vs) h = ap (λ x. sets x (suc i) vs) (set_out l i v h) ∙ sets_out l (suc i) vs (omega arith)

pub past_out : (n i : ℕ) → n ≤ i → i ≡ past n i
unfolding past
past_out n i h = rw (le-leb n i h, past)

pub past_in : (n i : ℕ) → i < n → i + 3 ≡ past n i
unfolding past
past_in n i h = rw (lt-leb n i h, past)

pub flat_step : (l : List ℕ) (i : ℕ) (e : Entry) (es : List Entry) → sets l i (flat (e ∷ es)) ≡ sets (sets l i (words e)) (past (length l) i) (flat es)
unfolding flat past
flat_step l i e es = go (leb (length l) i) refl
  where
    go : (b : Bool) → leb (length l) i ≡ b → sets l i (words e ++ flat es) ≡ sets (sets l i (words e)) (elim b [ true ↦ i | false ↦ i + 3 ]) (flat es)
    go true t =
        let h = leb-true (length l) i t in
        sets_out l i (words e ++ flat es) h ∙ sym (ap (λ x. sets x i (flat es)) (sets_out l i (words e) h) ∙ sets_out l i (flat es) h)
    go false t = let f : i + 3 ≡ suc (suc (suc i)) = omega arith in rw f

pub one_front : (a : ℕ) (xs : List ℕ) → get_or (sets (a ∷ []) 0 xs) 0 0 ≡ get_or xs 0 a
one_front a [] = refl
one_front a (x ∷ xs) = ap (λ l. get_or l 0 0) (sets_out (x ∷ []) 1 xs (omega arith))
