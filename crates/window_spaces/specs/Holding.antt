-- A space that is written in a list.
--     held_vectors spaces a f      f vectors of a space that is written from the place a on: its lowest member, how many vectors it has, and those
--     Holds spaces a x f vs       the space of x and the vectors vs is written there
use Rattle.std.specs.Prelude.{◌≡◌, List, ℕ, ◌+◌, drop, get_or, take}

unfoldable pub held_vectors : List ℕ → ℕ → ℕ → List ℕ
held_vectors spaces a f = take f (take 64 (drop (a + 2) spaces))

pub record Holds (spaces : List ℕ) (a x f : ℕ) (vs : List ℕ) : Type 0 where
  pub lowest : get_or spaces a 0 ≡ x
  pub free : get_or spaces (a + 1) 0 ≡ f
  pub vectors : held_vectors spaces a f ≡ vs
