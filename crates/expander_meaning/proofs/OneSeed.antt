-- The walk over the seeds, one seed more.
--     run_length                 a run of m slices has m slices
--     adding_some                a seed that delivers a slice or more adds them
--     walk_fails, walk_idle, walk_gives     the first seed of the walk is refused; it has nothing left to deliver; it delivers its slices, and the seeds behind it theirs
-- Assumes nothing.
use mathlib.Core.Path.{◌≡◌, refl, ap}
use mathlib.Core.Bool.{◌&&◌}
use mathlib.Core.List.{List, ◌∷◌}
use Prim.Native.Nat.{ℕ, zero, suc, ◌+◌, ◌-◌, ◌<◌}
use native.Mathlib.Nat.{not-suc-le-zero}
use lib.ListN.{length}
use Rattle.refusal_causes.specs.declared.Cause.{Cause}
use Rattle.refusal_causes.specs.declared.Cause.TheVariants.{Total}
use Rattle.machine_settings.specs.Machine.{Machine}
use Rattle.theory_covering.specs.Rules.{Rules}
use Rattle.expander_meaning.specs.Run.{slices_of, gives, fails, delivers}
use Rattle.expander_meaning.specs.Expanding.{Walk, failed, after, adding, is_last, walk}

pub run_length : (M : Machine) (m s : ℕ) → length (slices_of M m s) ≡ m
unfolding slices_of
run_length M zero s = refl
run_length M (suc m) s = ap suc (run_length M m (M.step s))

pub adding_some : (M : Machine) (done s m : ℕ) (w : Walk) → 0 < m → adding M done s m w ≡ after (slices_of M m s) w
unfolding adding
adding_some M done s zero w h = absurd (not-suc-le-zero h)
adding_some M done s (suc m) w h = refl

module _ (M : Machine) (R : Rules) (n place done s : ℕ) (ss : List ℕ) where
  pub walk_fails : (c : Cause) → delivers M R (R.live done) place (R.open_end && is_last ss) (n - done) s ≡ fails c → walk M R n place done (s ∷ ss) ≡ failed c
  unfolding walk
  walk_fails c e = rw (e, walk)

  pub walk_idle : delivers M R (R.live done) place (R.open_end && is_last ss) (n - done) s ≡ gives 0 → walk M R n place done (s ∷ ss) ≡ failed (Total done)
  unfolding walk adding
  walk_idle e = rw (e, walk)

  pub walk_gives : (m : ℕ) → delivers M R (R.live done) place (R.open_end && is_last ss) (n - done) s ≡ gives m → 0 < m
      → walk M R n place done (s ∷ ss) ≡ after (slices_of M m s) (walk M R n (suc place) (done + m) ss)
  unfolding walk
  walk_gives m e h = rw (e, walk) (adding_some M done s m (walk M R n (suc place) (done + m) ss) h)
