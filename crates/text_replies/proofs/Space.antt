-- A buffer of so many bytes, 53 at least, has space for a text of at most so many bytes, and for a refusal.
--     Within most r              the text of the reply r is no longer than so many bytes
--     front bs out, shown-front        the text at the front of such a buffer: it is what is printed
--     Prints, front_prints, prints     so a program leaves its text there
-- Assumes nothing.
use mathlib.Core.Path.{◌≡◌, refl, sym, ap, ◌∙◌}
use mathlib.Core.List.{List, ◌++◌}
use Prim.Native.Nat.{ℕ, ◌≤◌}
use native.Mathlib.Omega.{arith}
use lib.Seq.{length-take-le}
use lib.ListN.{length, take, drop, length-append}
use Rattle.refusal_causes.specs.Outcome.{fill}
use Rattle.refusal_causes.proofs.Outcome.{fill-whole}
use Rattle.text_write_refusal.specs.Refused.{refused_text}
use Rattle.text_write_refusal.proofs.Lengths.{refused_length}
use Rattle.text_replies.specs.Replies.{Reply, text, refused, printed}
use Rattle.text_replies.specs.Calls.{answered, called, Shown, bytes_of, shown, Answer}

abbrev pub Within : ℕ → Reply → Type 0
Within most (text bs n) = length bs ≤ most
Within most (refused r) = Unit {0}

-- The bytes of a text, then every other byte as it was.
abbrev pub front : List ℕ → List ℕ → Shown
front bs out = record { count = length bs; buffer = bs ++ drop (length bs) out }

shown-front : (most : ℕ) → 53 ≤ most → (r : Reply) (out : List ℕ) → Within most r → most ≤ length out → shown (called r out).answer (called r out).buffer ≡ front (printed r) out
unfolding called shown answered printed bytes_of
shown-front most l (text bs n) out h g = rw (fill-whole bs out (length bs) refl (omega arith))
shown-front most l (refused r) out h g = rw (fill-whole (refused_text r) out (length (refused_text r)) refl (omega (arith, refused_length r)))

-- What a program leaves that makes a call and prints its answer: the text bs at the front of the buffer.
abbrev pub Prints : List ℕ → List ℕ → ℕ → List ℕ → Type 0
Prints bs out count after = (count ≡ length bs) × ((after ≡ bs ++ drop (length bs) out) × ((count ≤ length after) × (count ≡ length (take count after))))

front_prints : (bs out : List ℕ) (count : ℕ) (after : List ℕ) → count ≡ length bs → after ≡ bs ++ drop (length bs) out → Prints bs out count after
front_prints bs out count after c e =
    let h : count ≤ length after = rw (e, c) (omega (arith, length-append bs (drop (length bs) out))) in
    (c, (e, (h, sym (length-take-le count after h))))

module _ (most : ℕ) (l : 53 ≤ most) (out : List ℕ) (h : most ≤ length out) (a : Answer) (mid after : List ℕ) (count : ℕ) (c : count ≡ (shown a mid).count) (b : after ≡ (shown a mid).buffer) where
  pub prints : (r : Reply) → Within most r → a ≡ (called r out).answer → mid ≡ (called r out).buffer → Prints (printed r) out count after
  prints r w e f =
      let q : shown a mid ≡ front (printed r) out = rw (e, f) (shown-front most l r out w h) in
      front_prints (printed r) out count after (c ∙ ap (λ x. x.count) q) (b ∙ ap (λ x. x.buffer) q)
