-- The last seed of a list (document 02, R-5: "In expanding, the last seed ends when the total reaches slices; a stop before that, or a last seed with nothing left to deliver (it adds 0), is cause 14, and cause 12 holds for it only when more slices than the window limit are left. Slice 0 showing the stop is still 11").
--     LastSeed M R n place done s     the law: what the walk over the last seed s, at that place, gives when done of n slices are delivered. Where it delivers slices, `totalled` compares the total with n: cause 14 where they differ
use Rattle.std.specs.Prelude.{◌≡◌, true, false, [], ◌∷◌, ℕ, suc, ◌-◌, ◌≤◌, ◌<◌, None, Some}
use Rattle.refusal_causes.specs.declared.Cause.TheVariants.{SeedBeyond, SeedAtStop, SeedEndless, Total}
use Rattle.machine_settings.specs.Machine.{Machine}
use Rattle.machine_slices.specs.Slices.{shows}
use Rattle.theory_covering.specs.Rules.{Rules}
use Rattle.expander_meaning.specs.Run.{slices_of, first_stop}
use Rattle.expander_meaning.specs.Until.{until_stop}
use Rattle.expander_meaning.specs.Expanding.{ran, failed, walk}

pub record LastSeed (M : Machine) (R : Rules) (n place done s : ℕ) : Type 0 where
  -- 10 and 11 come first, as for every seed
  pub beyond : M.states ≤ s → walk M R n place done (s ∷ []) ≡ failed (SeedBeyond place)
  pub at_stop : s < M.states → shows (R.live done) (M.slice s) ≡ true → walk M R n place done (s ∷ []) ≡ failed (SeedAtStop place)
  -- nothing left: 14 with what the seeds before it delivered
  pub nothing : s < M.states → shows (R.live done) (M.slice s) ≡ false → n ≤ done → walk M R n place done (s ∷ []) ≡ failed (Total done)
  -- at most the limit left: all of them, or those before its stop
  pub ends : s < M.states → shows (R.live done) (M.slice s) ≡ false → done < n → n - done ≤ R.limit → walk M R n place done (s ∷ []) ≡ ran (until_stop M (R.live done) (n - done) s)
  -- more than the limit left: those before its stop, or 12
  pub stops : s < M.states → shows (R.live done) (M.slice s) ≡ false → R.limit < n - done → (t : ℕ) → first_stop M (R.live done) (suc R.limit) s ≡ Some t → walk M R n place done (s ∷ []) ≡ ran (slices_of M t s)
  pub endless : s < M.states → shows (R.live done) (M.slice s) ≡ false → R.limit < n - done → first_stop M (R.live done) (suc R.limit) s ≡ None → walk M R n place done (s ∷ []) ≡ failed (SeedEndless place)
