-- The first line of a text.
--     span-step, span-position         the bytes before the first line feed (`span`), as std counts them
--     span_found, span-most            what a search for a line feed counts, and that it is within the text
--     split_line, split_rest           a text with a line feed, and one without (`split`)
--     split_line_at, split-rest_at     the same from a place of the text on
-- Assumes nothing.
use mathlib.Core.Bool.{Bool, true, false, cond, not}
use mathlib.Core.Path.{◌≡◌, refl, ap, ◌∙◌}
use mathlib.Core.List.{List, [], ◌∷◌}
use Prim.Native.Nat.{ℕ, zero, suc, ◌+◌, ◌-◌, ◌≤◌, ◌<◌}
use native.Mathlib.Omega.{arith}
use borrow.Author.Tests.{ltb-false}
use lib.Dec.{eqb, ltb}
use lib.ListN.{length, take, drop, length-drop}
use lib.Seq.{drop-drop}
use Rattle.std.proofs.lemmas.List.Recursion.{is_position_or_len}
use Rattle.std.proofs.lemmas.List.Sums.{prefix_len-le-length}
use Rattle.std.specs.List.{position_or_len}
use Rattle.std.specs.Option.{unwrap_or}
use Rattle.std.specs.Prelude.{Option, Some, None}
use Rattle.text_keys.specs.Bytes.{feed}
use Rattle.text_split.specs.Text.{line, rest, joined, split, span}

-- Whether a byte is a line feed.
abbrev pub is_feed : ℕ → Bool
is_feed b = eqb b feed

span-step : (b : ℕ) (s : List ℕ) → span (b ∷ s) ≡ cond (is_feed b) 0 (1 + span s)
unfolding span
span-step b s = go (eqb b feed)
  where
    go : (x : Bool) → elim x [ true ↦ zero | false ↦ suc (span s) ] ≡ cond x 0 (1 + span s)
    go true = refl
    go false = omega arith

span-position : (s : List ℕ) → span s ≡ position_or_len is_feed s
unfolding span
span-position s = is_position_or_len span is_feed refl span-step s

-- What a search for a line feed answers.
abbrev pub feed_at : List ℕ → Option ℕ
feed_at s = cond (ltb (position_or_len is_feed s) (length s)) (Some (position_or_len is_feed s)) None

-- The bytes before the line feed that a search found, or all of them where it found none.
pub span_found : (s : List ℕ) (r : Option ℕ) → r ≡ feed_at s → unwrap_or r (length s) ≡ span s
span_found s r e = rw (e, span-position) (go (ltb (position_or_len is_feed s) (length s)) refl)
  where
    go : (x : Bool) → ltb (position_or_len is_feed s) (length s) ≡ x → unwrap_or (cond x (Some (position_or_len is_feed s)) None) (length s) ≡ position_or_len is_feed s
    go true u = refl
    go false u = omega (arith, ltb-false _ _ u, prefix_len-le-length (λ b. not (is_feed b)) s)

pub span-most : (s : List ℕ) → span s ≤ length s
span-most s = rw span-position (prefix_len-le-length (λ b. not (is_feed b)) s)

split_line : (t : List ℕ) → span t < length t → split t ≡ line (take (span t) t) (split (drop (suc (span t)) t))
unfolding split span
split_line [] h = absurd (omega arith)
split_line (b ∷ t) h = go (eqb b 10) h (split_line t)
  where
    go : (x : Bool) → elim x [ true ↦ zero | false ↦ suc (span t) ] < suc (length t) → (span t < length t → split t ≡ line (take (span t) t) (split (drop (suc (span t)) t)))
        → elim x [ true ↦ line [] (split t) | false ↦ joined b (split t) ] ≡ line (take (elim x [ true ↦ zero | false ↦ suc (span t) ]) (b ∷ t)) (split (drop (suc (elim x [ true ↦ zero | false ↦ suc (span t) ])) (b ∷ t)))
    go true h ih = refl
    go false h ih = ap (joined b) (ih (omega arith))

split_rest : (t : List ℕ) → length t ≤ span t → split t ≡ rest t
unfolding split span
split_rest [] h = refl
split_rest (b ∷ t) h = go (eqb b 10) h (split_rest t)
  where
    go : (x : Bool) → suc (length t) ≤ elim x [ true ↦ zero | false ↦ suc (span t) ] → (length t ≤ span t → split t ≡ rest t) → elim x [ true ↦ line [] (split t) | false ↦ joined b (split t) ] ≡ rest (b ∷ t)
    go true h ih = absurd (omega arith)
    go false h ih = ap (joined b) (ih (omega arith))

-- The line that begins at `at` ends at e.
module _ (s : List ℕ) (at e : ℕ) (q : e ≡ at + span (drop at s)) where
  pub split_line_at : e < length s → split (drop at s) ≡ line (take (e - at) (drop at s)) (split (drop (e + 1) s))
  split_line_at h =
      let m : e - at ≡ span (drop at s) = omega arith in
      let k : span (drop at s) < length (drop at s) = simp length-drop (omega arith) in
      let w : at + suc (span (drop at s)) ≡ e + 1 = omega arith in
      split_line (drop at s) k ∙ rw (m, drop-drop, w) refl

  pub split-rest_at : at ≤ length s → length s ≤ e → split (drop at s) ≡ rest (drop at s)
  split-rest_at g h = split_rest (drop at s) (simp length-drop (omega arith))
