-- What is left of a space under a condition, and the space that all begin with.
--     Narrows Q y vs z ws         the members of z are exactly those of y that pass Q, and the vectors rise still
--     Narrowed Q y vs z out       so it is of what is left, with its vectors as the first entries of out; None where no member of y passes Q
--     NarrowedIf Q y l z out      so it is of a space that may be absent, its vectors the first entries of the buffer l: an absent space stays so, and the buffer as it was
--     all_states cells, units_of cells     the space of all states, and its vectors
use Rattle.std.specs.Prelude.{◌≡◌, Bool, true, false, List, ℕ, take, None, Option, Some}
use Rattle.search_space.specs.declared.Space.{Space}
use Rattle.search_space.specs.Space.{units, Member, Rising}

pub record Narrows (Q : ℕ → Bool) (y : Space) (vs : List ℕ) (z : Space) (ws : List ℕ) : Type 0 where
  pub sound : (s : ℕ) → Member z ws s → Member y vs s × (Q s ≡ true)
  pub complete : (s : ℕ) → Member y vs s → Q s ≡ true → Member z ws s
  pub rising : Rising y.lowest 0 vs → Rising z.lowest 0 ws

abbrev pub Narrowed : (ℕ → Bool) → Space → List ℕ → Option Space → List ℕ → Type 0
Narrowed Q y vs None out = (s : ℕ) → Member y vs s → Q s ≡ false
Narrowed Q y vs (Some z) out = Narrows Q y vs z (take z.free out)

abbrev pub NarrowedIf : (ℕ → Bool) → Option Space → List ℕ → Option Space → List ℕ → Type 0
NarrowedIf Q None l z out = (z ≡ None) × (out ≡ l)
NarrowedIf Q (Some y) l z out = Narrowed Q y (take y.free l) z out

abbrev pub all_states : ℕ → Space
all_states cells = record { lowest = 0; free = cells }

abbrev pub units_of : ℕ → List ℕ
units_of cells = take cells (units 0 64)
