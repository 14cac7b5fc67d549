-- The choice of a step, as the code makes it, in terms of the published definitions. No public contract rests on these, and a reader of those can pass them over.
--     counted q n               the choice q with its count n
--     tracked counts o          the best choice with its count
--     track q n best            the choice q of count n against the best of the lower choices
--     in_of stop specified bits  the slices still in, looked up
--     count_in stop specified bits q     the count of the choice q
--     weighed stop specified bits q best     the best when the choice q is weighed: where its position is set, nothing is counted
--     chosen chains stop specified bits     the choice of the step, with its count
--     next_of chains stop specified bits     the stop slice after one step more
use Rattle.std.specs.Prelude.{true, false, List, ℕ, ◌*◌, ◌/◌, ltb, None, Option, Some}
use Rattle.machine_slices.specs.declared.TestSlice.{TestSlice}
use Rattle.machine_slices.specs.Slices.{paired}
use Rattle.stop_steps.specs.Steps.{is_set, filter, count, choice, advance}
use Rattle.stop_steps.specs.Lookup.{is_in}
use Rattle.stop_choice.specs.declared.Best.{Best}

abbrev pub counted : ℕ → ℕ → Option Best
counted q n = Some (record { choice = q; count = n })

abbrev pub tracked : (ℕ → ℕ) → Option ℕ → Option Best
tracked counts None = None
tracked counts (Some q) = counted q (counts q)

unfoldable pub track : ℕ → ℕ → Option Best → Option Best
track q n None = counted q n
track q n (Some best) = elim (ltb best.count n) [ true ↦ counted q n | false ↦ Some best ]

abbrev pub in_of : TestSlice → List ℕ → List ℕ → List TestSlice
in_of stop specified bits = filter (is_in stop) (paired specified bits)

abbrev pub count_in : TestSlice → List ℕ → List ℕ → ℕ → ℕ
count_in stop specified bits q = count q (in_of stop specified bits)

unfoldable pub weighed : TestSlice → List ℕ → List ℕ → ℕ → Option Best → Option Best
weighed stop specified bits q best = elim (is_set (q / 2) stop) [ true ↦ best | false ↦ track q (count_in stop specified bits q) best ]

unfoldable pub chosen : ℕ → TestSlice → List ℕ → List ℕ → Option Best
chosen chains stop specified bits = tracked (count_in stop specified bits) (choice stop (count_in stop specified bits) (2 * chains))

unfoldable pub next_of : ℕ → TestSlice → List ℕ → List ℕ → TestSlice
next_of chains stop specified bits = (advance chains (record { stop = stop; left = in_of stop specified bits })).stop
