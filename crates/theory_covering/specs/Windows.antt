-- The windows of a set (document 01, "Covering and cutting"), by their places: the window from i to k is the slices i .. k - 1 of a set of n.
--     part i k set             the slices i .. k - 1
--     before edges i n         the least of n and the edges above i
--     far R n i                the farthest end of a window from i: the least of n, i + limit and the edges above i
--     placed R n i k           1 to limit slices, within the set, across no edge
--     closes R n k             a window that ends at k closes with its stop
--     covers_part M R set i k s the state s covers the slices from i to k, under the stop live at i
--     CoveredBy M R set i k s  from i to k is a window, and the state s covers it
--     Window M R set i k       some state covers it
--     seed_at M R set i k       the seed of the slices from i to k, or none
--     found o                  there is one
--     ok M R set i k           some state covers it, as a test
--     Steady R n               one stop is live between two edges
use Rattle.std.specs.Prelude.{◌≡◌, Bool, true, false, not, ◌&&◌, List, [], ◌∷◌, ℕ, ◌+◌, ◌-◌, ◌≤◌, ◌<◌, min, ltb, leb, eqb, length, take, drop, None, Option, Some}
use Rattle.machine_settings.specs.Machine.{Machine}
use Rattle.machine_slices.specs.declared.TestSlice.{TestSlice}
use Rattle.theory_covering.specs.Covering.{covers, seed_of}
use Rattle.theory_covering.specs.Rules.{Rules}

abbrev pub part {ℓ} : {A : Type ℓ} → ℕ → ℕ → List A → List A
part i k l = take (k - i) (drop i l)

unfoldable pub before : List ℕ → ℕ → ℕ → ℕ
before [] i n = n
before (e ∷ es) i n = elim (ltb i e) [ true ↦ min e (before es i n) | false ↦ before es i n ]

unfoldable pub far : Rules → ℕ → ℕ → ℕ
far R n i = before R.edges i (min n (i + R.limit))

unfoldable pub placed : Rules → ℕ → ℕ → ℕ → Bool
placed R n i k = ltb i k && leb k (far R n i)

unfoldable pub closes : Rules → ℕ → ℕ → Bool
closes R n k = not (R.open_end && eqb k n)

unfoldable pub covers_part : Machine → Rules → List TestSlice → ℕ → ℕ → ℕ → Bool
covers_part M R set i k s = covers M (R.live i) (closes R (length set) k) (part i k set) s

pub record CoveredBy (M : Machine) (R : Rules) (set : List TestSlice) (i k s : ℕ) : Type 0 where
  pub place : placed R (length set) i k ≡ true
  pub below : s < M.states
  pub covered : covers_part M R set i k s ≡ true

abbrev pub Window : Machine → Rules → List TestSlice → ℕ → ℕ → Type 0
Window M R set i k = (s : ℕ) × CoveredBy M R set i k s

unfoldable pub seed_at : Machine → Rules → List TestSlice → ℕ → ℕ → Option ℕ
seed_at M R set i k = seed_of M (R.live i) (closes R (length set) k) (part i k set)

abbrev pub found : Option ℕ → Bool
found None = false
found (Some s) = true

unfoldable pub ok : Machine → Rules → List TestSlice → ℕ → ℕ → Bool
ok M R set i k = placed R (length set) i k && found (seed_at M R set i k)

abbrev pub Steady : Rules → ℕ → Type 0
Steady R n = (i j : ℕ) → i ≤ j → j < far R n i → R.live i ≡ R.live j
