-- The greedy cutting (document 01, "Covering and cutting"): a set is cut from its first slice on; each window is the longest that passes. ok i k is the test of a window from i to k, and n the number of slices.
--     reach ok n a      the greatest end, at most n, of a window from a; a itself where there is none
--     hop ok n j a      where j greedy windows from a lead
--     ends ok n d a     the ends of the greedy windows from a, at most d of them
--     Plan              the ends of a cutting of the whole, or the place where it is stuck
--     greedy ok n       the plan of the greedy cutting
use Rattle.std.specs.Prelude.{Bool, true, false, List, [], ◌∷◌, ℕ, zero, suc, ltb, eqb, unwrap_or}
use Rattle.words_bounded.specs.Bounded.{last_below}

module _ (ok : ℕ → ℕ → Bool) (n : ℕ) where
  unfoldable pub reach : ℕ → ℕ
  reach a = unwrap_or (last_below (ok a) (suc n)) a

  unfoldable pub hop : ℕ → ℕ → ℕ
  hop zero a = a
  hop (suc j) a = hop j (reach a)

  unfoldable pub ends : ℕ → ℕ → List ℕ
  ends zero a = []
  ends (suc d) a = elim (ltb a (reach a)) [ true ↦ reach a ∷ ends d (reach a) | false ↦ [] ]

pub data Plan : Type 0 where
  done : List ℕ → Plan
  stuck : ℕ → Plan

-- n windows come to the end of the set, or to the place from which no window leads on.
unfoldable pub greedy : (ℕ → ℕ → Bool) → ℕ → Plan
greedy ok n = elim (eqb (hop ok n n 0) n) [ true ↦ done (ends ok n n 0) | false ↦ stuck (hop ok n n 0) ]
