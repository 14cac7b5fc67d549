-- What is left of a space where members may go out that fail a condition.
--     Keeps K y vs z ws           the members of z are members of y, all those that pass K among them, and the vectors rise still
--     Kept K y vs z out           so it is of what is left, with its vectors as the first entries of out; None where no member of y passes K
--     KeptIf K y l z out          so it is of a space that may be absent, its vectors the first entries of the buffer l: an absent space stays so, and the buffer as it was
use Rattle.std.specs.Prelude.{◌≡◌, Bool, true, List, ℕ, take, None, Option, Some}
use Rattle.search_space.specs.declared.Space.{Space}
use Rattle.search_space.specs.Space.{Member, Rising}

pub record Keeps (K : ℕ → Bool) (y : Space) (vs : List ℕ) (z : Space) (ws : List ℕ) : Type 0 where
  pub sound : (s : ℕ) → Member z ws s → Member y vs s
  pub complete : (s : ℕ) → Member y vs s → K s ≡ true → Member z ws s
  pub rising : Rising y.lowest 0 vs → Rising z.lowest 0 ws

abbrev pub Kept : (ℕ → Bool) → Space → List ℕ → Option Space → List ℕ → Type 0
Kept K y vs None out = (s : ℕ) → Member y vs s → K s ≡ true → ⊥
Kept K y vs (Some z) out = Keeps K y vs z (take z.free out)

abbrev pub KeptIf : (ℕ → Bool) → Option Space → List ℕ → Option Space → List ℕ → Type 0
KeptIf K None l z out = (z ≡ None) × (out ≡ l)
KeptIf K (Some y) l z out = Kept K y (take y.free l) z out
