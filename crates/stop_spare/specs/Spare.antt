-- The spare pattern of a set (document 02, R-1). A pattern is a fully specified slice, read as a number: position p has weight 2 ^ p, so the leftmost character counts least.
--     equals p t               the test slice t has the specified positions and the bits of the pattern p: a partly specified slice equals none
--     taken chains set v       some test slice equals the pattern v
--     spare chains set         the smallest of the 2 ^ chains patterns that is not taken, or none
--     spare_stop chains set     the same as a stop slice
use Rattle.std.specs.Prelude.{Bool, not, ◌&&◌, List, ℕ, ◌^◌, eqb, None, Option, Some}
use Rattle.words_bounded.specs.Bounded.{any, least_below}
use Rattle.machine_slices.specs.declared.TestSlice.{TestSlice}
use Rattle.machine_slices.specs.Slices.{full}

unfoldable pub equals : TestSlice → TestSlice → Bool
equals p t = eqb t.specified p.specified && eqb t.bits p.bits

unfoldable pub taken : ℕ → List TestSlice → ℕ → Bool
taken chains set v = any (equals (full chains v)) set

unfoldable pub spare : ℕ → List TestSlice → Option ℕ
spare chains set = least_below (λ v. not (taken chains set v)) (2 ^ chains)

unfoldable pub spare_stop : ℕ → List TestSlice → Option TestSlice
spare_stop chains set = elim (spare chains set) [ Some v ↦ Some (full chains v) | None ↦ None ]
