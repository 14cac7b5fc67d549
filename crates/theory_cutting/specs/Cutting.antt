-- Cuttings (document 01, "Covering and cutting"), over the places 0 .. n of a set. A window from i to k is the slices i .. k - 1; a start of the set ends at a place b.
--     Cutting W a es b        a row of windows from the place a on, each passing W, whose ends are es and that come to b
--     Covering C a es ss b    the list of states ss covers such a cutting: C i k s says that the state s covers the window from i to k
--     delivered a es j        how far the first j windows come; a shorter row counts with all it has
use Rattle.std.specs.Prelude.{List, [], ◌∷◌, ℕ, zero, suc}

-- The windows joined in order are the slices from a to b. The empty start has the cutting of no windows.
pub data Cutting (W : ℕ → ℕ → Type 0) : ℕ → List ℕ → ℕ → Type 0 where
  no_window : {a : ℕ} → Cutting W a [] a
  window : {a b k : ℕ} {es : List ℕ} → W a k → Cutting W k es b → Cutting W a (k ∷ es) b

-- One state for each window, in order, that covers it.
pub data Covering (C : ℕ → ℕ → ℕ → Type 0) : ℕ → List ℕ → List ℕ → ℕ → Type 0 where
  without_state : {a : ℕ} → Covering C a [] [] a
  state : {a b k s : ℕ} {es ss : List ℕ} → C a k s → Covering C k es ss b → Covering C a (k ∷ es) (s ∷ ss) b

unfoldable pub delivered : ℕ → List ℕ → ℕ → ℕ
delivered a es zero = a
delivered a [] (suc j) = a
delivered a (k ∷ es) (suc j) = delivered k es j
