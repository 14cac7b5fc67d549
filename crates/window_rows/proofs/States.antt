-- The space of all states.
--     states_sound, states_complete     its members are the states of so many cells
--     states_rising     its vectors rise
-- Assumes nothing.
use mathlib.Core.Path.{◌≡◌, subst}
use mathlib.Core.List.{List}
use Prim.Native.Nat.{ℕ, ◌+◌, ◌%◌, ◌^◌, ◌≤◌, ◌<◌}
use native.Mathlib.Omega.{arith}
use Rattle.search_space.specs.Space.{units, Rising, Member}
use Rattle.search_space.proofs.Members.{among_is, is_among}
use Rattle.search_space.proofs.AllStates.{units-take, units_sound, units_complete, units_rising}
use Rattle.window_rows.specs.Narrowing.{all_states, units_of}

module _ (cells : ℕ) (few : cells ≤ 64) where
  abbrev U : List ℕ
  U = units_of cells

  front : U ≡ units 0 cells
  front = units-take cells 64 0 few

  pub states_sound : (s : ℕ) → Member (all_states cells) U s → s < 2 ^ cells
  states_sound s m =
      let z : 0 + cells ≡ cells = omega arith in
      subst (λ (n : ℕ). s < 2 ^ n) z (units_sound cells 0 0 s (omega arith) (among_is (units 0 cells) 0 s (rw front at m)))

  pub states_complete : (s : ℕ) → s < 2 ^ cells → Member (all_states cells) U s
  states_complete s h =
      let z : cells ≡ 0 + cells = omega arith in
      let e : s % 2 ^ 0 ≡ 0 = omega arith in
      rw front (is_among (units 0 cells) 0 s (rw e at (units_complete cells 0 s (subst (λ (n : ℕ). s < 2 ^ n) z h))))

  pub states_rising : Rising 0 0 U
  states_rising = rw front (units_rising cells 0)
