-- The spaces of the first slices of a part.
--     HeldAt c table w cells spaces k     the states that meet the slices w are the space number k, counted from 1
--     Held c table w cells spaces k       for each j from 1 to k, as far as there are entries, the states that meet the first j slices of w are the space number j
--     Grown P c table w cells spaces k    no state passes P on more than the first k slices of w, and the spaces are written up to k slices
use Rattle.std.specs.Prelude.{Bool, List, ℕ, ◌+◌, ◌-◌, ◌*◌, ◌/◌, ◌≤◌, ◌<◌, get_or, length, take}
use Rattle.machine_slices.specs.declared.TestSlice.{TestSlice}
use Rattle.window_rows.specs.Meeting.{all_meet}
use Rattle.window_rows.specs.Narrowing.{all_states, units_of, Narrows}
use Rattle.window_rows.specs.Most.{Most}
use Rattle.window_spaces.specs.Holding.{held_vectors}

-- Space number k is written from the place (k - 1) * 66 on.
abbrev pub HeldAt : ℕ → List ℕ → List TestSlice → ℕ → List ℕ → ℕ → Type 0
HeldAt c table w cells spaces k =
    Narrows (all_meet c table 0 w) (all_states cells) (units_of cells)
    (record { lowest = get_or spaces ((k - 1) * 66) 0; free = get_or spaces ((k - 1) * 66 + 1) 0 }) (held_vectors spaces ((k - 1) * 66) (get_or spaces ((k - 1) * 66 + 1) 0))

abbrev pub Held : ℕ → List ℕ → List TestSlice → ℕ → List ℕ → ℕ → Type 0
Held c table w cells spaces k = (j : ℕ) → 0 < j → j ≤ k → j ≤ length spaces / 66 → HeldAt c table (take j w) cells spaces j

pub record Grown (P : List TestSlice → ℕ → Bool) (c : ℕ) (table : List ℕ) (w : List TestSlice) (cells : ℕ) (spaces : List ℕ) (k : ℕ) : Type 0 where
  pub most : Most P w cells k
  pub held : Held c table w cells spaces k
