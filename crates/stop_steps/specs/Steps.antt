-- The stop slice of a set: the steps (document 01, "Stop slice steps", after document 004, III.A) or, where they end with slices in, the spare pattern (document 02, R-1). Positions count from the left, from 0: position p has weight 2 ^ p.
--     has p b t             the test slice t has the bit b at position p
--     is_set p stop          position p of the stop slice is set
--     filter p xs           the members of a list that pass a test, in order
--     count q xs            how many of the slices xs have the bit q % 2 at the position q / 2: the choice q
--     better counts q o     q against the best of the lower choices: it must have a greater count
--     choice stop counts n  of the choices below n at unset positions, the one with the greatest count; on a tie the lowest: the leftmost position, and there the 0s before the 1s
--     put p b stop          position p of the stop slice set to the bit b
--     settle q stop         the position of the choice is set to the complement of the counted bit
--     keep q xs             the slices that have the counted bit or x there are removed
--     is_empty xs            no slice is in
--     Stage, start set      the stop slice so far, and the slices still in; before the first step
--     set_by q g             the stage after the choice q is set
--     advance chains g      the stage after one step more
--     stage chains set k    the stage after k steps
--     ended g               the stop slice when the steps have ended, or none where slices are in
--     steps chains set      the stop slice that the steps give
--     stop_for chains set    the stop slice of a set: that of the steps, or else the spare pattern
use Rattle.std.specs.Prelude.{Bool, true, false, ◌&&◌, List, [], ◌∷◌, ℕ, zero, suc, ◌+◌, ◌-◌, ◌*◌, ◌/◌, ◌%◌, ◌^◌, ltb, eqb, length, None, Option, Some}
use Rattle.words_gf2.specs.Words.{digit}
use Rattle.machine_slices.specs.declared.TestSlice.{TestSlice}
use Rattle.stop_spare.specs.Spare.{spare_stop}

abbrev pub has : ℕ → ℕ → TestSlice → Bool
has p b t = eqb (digit t.specified p) 1 && eqb (digit t.bits p) b

abbrev pub is_set : ℕ → TestSlice → Bool
is_set p stop = eqb (digit stop.specified p) 1

unfoldable pub filter : (TestSlice → Bool) → List TestSlice → List TestSlice
filter p [] = []
filter p (x ∷ xs) = elim (p x) [ true ↦ x ∷ filter p xs | false ↦ filter p xs ]

unfoldable pub count : ℕ → List TestSlice → ℕ
count q xs = length (filter (has (q / 2) (q % 2)) xs)

unfoldable pub better : (ℕ → ℕ) → ℕ → Option ℕ → Option ℕ
better counts q None = Some q
better counts q (Some r) = elim (ltb (counts r) (counts q)) [ true ↦ Some q | false ↦ Some r ]

-- Where the greatest count is 0 this is the leftmost unset position with the bit 0, so that it becomes 1 and all slices go out.
unfoldable pub choice : TestSlice → (ℕ → ℕ) → ℕ → Option ℕ
choice stop counts zero = None
choice stop counts (suc q) = elim (is_set (q / 2) stop) [ true ↦ choice stop counts q | false ↦ better counts q (choice stop counts q) ]

abbrev pub put : ℕ → ℕ → TestSlice → TestSlice
put p b stop = record { specified = stop.specified + 2 ^ p; bits = stop.bits + b * 2 ^ p }

unfoldable pub settle : ℕ → TestSlice → TestSlice
settle q stop = put (q / 2) (1 - q % 2) stop

unfoldable pub keep : ℕ → List TestSlice → List TestSlice
keep q xs = filter (has (q / 2) (1 - q % 2)) xs

abbrev pub is_empty : List TestSlice → Bool
is_empty [] = true
is_empty (x ∷ xs) = false

pub record Stage : Type 0 where
  pub stop : TestSlice
  pub left : List TestSlice

-- All positions start as x and all test slices are in.
abbrev pub start : List TestSlice → Stage
start set = record { stop = record { specified = 0; bits = 0 }; left = set }

unfoldable pub set_by : ℕ → Stage → Stage
set_by q g = record { stop = settle q g.stop; left = keep q g.left }

-- Repeat while slices are in: where none is, a step changes nothing, and so where no position is unset.
unfoldable pub advance : ℕ → Stage → Stage
advance chains g = elim (is_empty g.left) [
  | true ↦ g
  | false ↦ elim (choice g.stop (λ q. count q g.left) (2 * chains)) [ None ↦ g | Some q ↦ set_by q g ]
]

unfoldable pub stage : ℕ → List TestSlice → ℕ → Stage
stage chains set zero = start set
stage chains set (suc k) = advance chains (stage chains set k)

-- If slices are in at the end, the steps give no stop slice.
unfoldable pub ended : Stage → Option TestSlice
ended g = elim (is_empty g.left) [ true ↦ Some g.stop | false ↦ None ]

-- Each step sets a position, so there are at most as many steps as chains.
unfoldable pub steps : ℕ → List TestSlice → Option TestSlice
steps chains set = ended (stage chains set chains)

unfoldable pub stop_for : ℕ → List TestSlice → Option TestSlice
stop_for chains set = elim (steps chains set) [ Some stop ↦ Some stop | None ↦ spare_stop chains set ]
