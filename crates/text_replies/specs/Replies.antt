-- What a program prints (document 01, "Sheet and seed list" and its refusal sheet).
--     Reply                    the bytes of a text with the number of its seeds or slices, or a refusal
--     RefusedBy P r            the reply r is a text, or a refusal whose number has P
--     lent                     a buffer with an entry for each of the most seeds or slices
--     printed r                what a program prints
use Rattle.std.specs.Prelude.{List, ℕ, replicate}
use Rattle.refusal_causes.specs.declared.Refusal.{Refusal}
use Rattle.refusal_lengths.specs.Lengths.{most_slices}
use Rattle.text_write_refusal.specs.Refused.{refused_text}

pub data Reply : Type 0 where
  text : List ℕ → ℕ → Reply
  refused : Refusal → Reply

abbrev pub RefusedBy : (ℕ → Type 0) → Reply → Type 0
RefusedBy P (text bs n) = Unit {0}
RefusedBy P (refused r) = P r.number

-- There is always space: a set has no more seeds than slices, and an accepted list as many slices as it says (`spacious` and `slices_told` of crates/text_meaning/proofs).
abbrev pub lent : List ℕ
lent = replicate most_slices 0

-- A refused program prints its refusal, and nothing else.
unfoldable pub printed : Reply → List ℕ
printed (text bs n) = bs
printed (refused r) = refused_text r
