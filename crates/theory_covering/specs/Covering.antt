-- Covering (document 01, "Covering and cutting"). A window is a list of test slices.
--     fits M stop closing w s      the slices of the state s agree with the window w, and the slice after it, where it closes, shows the stop
--     quiet M stop m s             none of the slices 0 .. m - 1 of s shows the stop
--     covers M stop closing w s    s covers the window
--     seed_of M stop closing w      the seed of the window: the lowest covering state, or none
-- closing: whether the slice after the window must show the stop. It must for a window given singly and for every window of a set but the one that ends it (document 02, R-5).
use Rattle.std.specs.Prelude.{Bool, true, not, ◌&&◌, ◌||◌, List, [], ◌∷◌, ℕ, zero, suc, length, Option}
use Rattle.words_bounded.specs.Bounded.{least_below}
use Rattle.machine_settings.specs.Machine.{Machine}
use Rattle.machine_slices.specs.declared.TestSlice.{TestSlice}
use Rattle.machine_slices.specs.Slices.{agrees, shows}

-- Slice 0 comes from the state itself, each further slice from the next state.
unfoldable pub fits : Machine → TestSlice → Bool → List TestSlice → ℕ → Bool
fits M stop closing [] s = not closing || shows stop (M.slice s)
fits M stop closing (t ∷ w) s = agrees t (M.slice s) && fits M stop closing w (M.step s)

unfoldable pub quiet : Machine → TestSlice → ℕ → ℕ → Bool
quiet M stop zero s = true
quiet M stop (suc m) s = not (shows stop (M.slice s)) && quiet M stop m (M.step s)

-- Its slices 0 to m - 1 agree with every specified bit of the window and don't show the stop slice, and its slice m does, where the window closes.
unfoldable pub covers : Machine → TestSlice → Bool → List TestSlice → ℕ → Bool
covers M stop closing w s = fits M stop closing w s && quiet M stop (length w) s

unfoldable pub seed_of : Machine → TestSlice → Bool → List TestSlice → Option ℕ
seed_of M stop closing w = least_below (covers M stop closing w) M.states
