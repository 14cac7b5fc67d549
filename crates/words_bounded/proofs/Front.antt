-- Lists written into a buffer: over its front, entry by entry, and one after the other.
--     Front xs old out i     the first i entries are those of xs, and every other entry is as it was
--     front_length, front_at     the buffer keeps its length; an entry that is written
--     front-start, front-next, front_end     of a loop that goes up
--     sets-append     two lists stored one after the other
--     take-lesser     the first n entries, or all where there are fewer
-- Assumes nothing.
use mathlib.Core.Path.{◌≡◌, refl, sym, ap, ◌∙◌}
use mathlib.Core.Logic.{⊎_elim}
use mathlib.Core.List.{List, [], ◌∷◌, ◌++◌}
use Prim.Native.Nat.{ℕ, suc, min, ◌+◌, ◌≤◌, ◌<◌}
use native.Mathlib.Nat.{add-zero}
use native.Mathlib.Numerals.{add-one}
use native.Mathlib.Omega.{arith}
use lib.ListN.{get_or, length, take, drop, set, length-append, length-drop, get_or-append}
use lib.Seq.{sets, take-suc, take_all, drop-cons, append_snoc, set_at, length-take-le, get_or-take}
use Rattle.words_bounded.proofs.Tests.{lt_or_le}

abbrev pub Front : List ℕ → List ℕ → List ℕ → ℕ → Type 0
Front xs old out i = out ≡ take i xs ++ drop i old

module _ (xs old out : List ℕ) where
  pub front_length : (i : ℕ) → i ≤ length xs → i ≤ length old → Front xs old out i → length out ≡ length old
  front_length i a b f = ap length f ∙ length-append (take i xs) (drop i old) ∙ rw (length-take-le i xs a, length-drop i old) (omega arith)

  pub front_at : (i j : ℕ) → i ≤ length xs → j < i → Front xs old out i → get_or out j 0 ≡ get_or xs j 0
  front_at i j a h f =
      ap (λ (l : List ℕ). get_or l j 0) f ∙ get_or-append (take i xs) (drop i old) 0 j (rw (length-take-le i xs a) h) ∙ get_or-take i xs j 0 h

  pub front-next : (i : ℕ) → i < length xs → i < length old → Front xs old out i → Front xs old (set out i (get_or xs i 0)) (i + 1)
  front-next i a b f =
      ap (λ (l : List ℕ). set l i (get_or xs i 0)) (f ∙ ap (λ (l : List ℕ). take i xs ++ l) (drop-cons old i 0 b))
      ∙ set_at (take i xs) (get_or old i 0) (drop (suc i) old) (get_or xs i 0) i (length-take-le i xs (omega arith))
      ∙ sym (append_snoc (take i xs) (get_or xs i 0) (drop (suc i) old))
      ∙ rw (add-one i, take-suc xs i 0 a)

  pub front_end : (n i : ℕ) → i ≤ n → n ≤ i → Front xs old out i → out ≡ take n xs ++ drop n old
  front_end n i a b f = let e : i ≡ n = omega arith in f ∙ rw e

pub front-start : (xs old : List ℕ) → Front xs old old 0
front-start xs old = refl

pub sets-append : (a b old : List ℕ) (at : ℕ) → sets old at (a ++ b) ≡ sets (sets old at a) (at + length a) b
sets-append [] b old at = rw add-zero
sets-append (x ∷ a) b old at =
    let e : suc at + length a ≡ at + suc (length a) = omega arith in
    sets-append a b (set old at x) (suc at) ∙ rw e

pub take-lesser : (n : ℕ) (l : List ℕ) → take (min n (length l)) l ≡ take n l
take-lesser n l = ⊎_elim
    (λ h. ap (λ (k : ℕ). take k l) (let e : min n (length l) ≡ n = omega arith in e))
    (λ h. take_all (min n (length l)) l (omega arith) ∙ sym (take_all n l h))
    (lt_or_le n (length l))
