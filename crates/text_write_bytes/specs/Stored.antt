-- Texts in a lent buffer.
--     Stored old at text out end     out is old with the text stored from at on, as far as the buffer goes, and end is the place after the text
--     Puts post text                 a call with these results stores the text at the front of the buffer that it is lent
use Rattle.std.specs.Prelude.{◌≡◌, List, ℕ, ◌+◌, length}
use Rattle.std.specs.Borrow.{MutBor}
use Rattle.std.proofs.lemmas.List.Edits.{sets}

pub record Stored (old : List ℕ) (at : ℕ) (text out : List ℕ) (end : ℕ) : Type 0 where
  pub place : end ≡ at + length text
  pub bytes : out ≡ sets old at text

abbrev pub Puts : (MutBor (List ℕ) → ℕ → MutBor (List ℕ) → Type 0) → List ℕ → Type 0
Puts post text = (lent left : MutBor (List ℕ)) (end : ℕ) → post lent end left → Stored lent.now 0 text left.now end
