-- A program that reads a text, puts what is printed for it at the front of a buffer and writes that front does what it is for: answered.
-- Assumes nothing.
use Rattle.std.proofs.Common.{◌≡◌, ℕ, List, ◌++◌, length, take, ap, ◌∙◌, subst}
use Rattle.std.proofs.Math.Seq.{take-append_seam}
use Rattle.std.specs.declared.option.Option.{Option}
use Rattle.std.specs.Io.KnownBytes.{Appends, Consumes}
use Rattle.text_program.specs.Answered.{IsAnswered}

module _ (printed : List ℕ → List ℕ) (text rest buffer : List ℕ) (count : ℕ) where
  front_is : count ≡ length (printed text) → buffer ≡ printed text ++ rest → take count buffer ≡ printed text
  front_is c b = ap (λ n. take n buffer) c ∙ ap (take (length (printed text))) b ∙ take-append_seam (printed text) rest

  pub answered : (given left before after : Option (List ℕ)) (sent : ℕ) → Consumes given left text → count ≡ length (printed text) → buffer ≡ printed text ++ rest
      → Appends before after (take sent (take count buffer)) → IsAnswered printed given left before after
  answered given left before after sent read c b written = (text, read, sent, subst (λ l. Appends before after (take sent l)) (front_is c b) written)
