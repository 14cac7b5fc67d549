-- The total of the walk over the seeds, seed by seed: what is delivered so far, and what the seeds from a place on deliver.
--     Tallied                      the total of the list is what is delivered so far and what the rest delivers
--     tallied_start, tallied_end      no seed yet; no seed left
--     tallied_refused, tallied_nothing, tallied_more     the next one is refused; it has nothing left to deliver; it delivers its slices
--     few_more                        it delivers at most the limit
-- Assumes nothing.
use Rattle.std.specs.Prelude.{Err, Ok, Result}
use mathlib.Core.Path.{◌≡◌, refl, sym, ap, ◌∙◌}
use mathlib.Core.List.{List}
use Prim.Native.Nat.{ℕ, ◌+◌, ◌-◌, ◌≤◌, ◌<◌}
use native.Mathlib.Omega.{arith}
use lib.Dec.{eqb}
use lib.ListN.{length, get_or, drop, drop_of_length-le, length-append}
use Rattle.refusal_causes.specs.declared.Cause.{Cause}
use Rattle.refusal_causes.specs.declared.Cause.TheVariants.{Total}
use Rattle.machine_settings.specs.declared.Settings.{Settings}
use Rattle.machine_settings.specs.Machine.{Machine, machine}
use Rattle.machine_slices.specs.declared.TestSlice.{TestSlice}
use Rattle.theory_covering.specs.Rules.{Rules, rules}
use Rattle.expander_meaning.specs.Run.{slices_of, gives, delivers}
use Rattle.expander_meaning.specs.Expanding.{Walk, ran, failed, after, walk}
use Rattle.expander_meaning.proofs.OneSeed.{run_length}
use Rattle.expander_meaning.proofs.Ending.{delivered, delivered_few}
use Rattle.expander_meaning.proofs.Places.{given, walk_refused, walk_nothing, walk-next}
use Rattle.expander_run.specs.Told.{told}
use Rattle.expander_run.proofs.Told.{told-count, told_refused}
use Rattle.expander_total.specs.Tally.{tally}

tally-after : (total : ℕ) (vs : List ℕ) (w : Walk) → tally total (after vs w) ≡ tally (total + length vs) w
unfolding tally after
tally-after total vs (ran ws) = ap Ok (let l = length-append vs ws in omega arith)
tally-after total vs (failed c) = refl

module _ (g : Settings) (masks : List ℕ) (stop : TestSlice) (seeds : List ℕ) (n : ℕ) where
  abbrev M : Machine
  M = machine g masks

  abbrev R : Rules
  R = rules g stop

  abbrev whole : Result ℕ Cause
  whole = tally 0 (walk M R n 0 0 seeds)

  abbrev pub Tallied : ℕ → ℕ → Type 0
  Tallied place total = whole ≡ tally total (walk M R n place total (drop place seeds))

  pub tallied_start : Tallied 0 0
  tallied_start = refl

  module _ (place total : ℕ) (so_far : Tallied place total) where
    pub tallied_end : length seeds ≤ place → whole ≡ Ok total
    unfolding walk tally
    tallied_end h = so_far ∙ rw (drop_of_length-le seeds h) (ap Ok (omega arith))

    module _ (there : place < length seeds) (w : Result ℕ Cause) (left : ℕ) (owed : left ≡ n - total) (run : w ≡ told (delivers M R stop place (eqb (place + 1) (length seeds)) left (get_or seeds place 0))) where
      said : w ≡ told (given g masks stop seeds n place total)
      said = run ∙ ap (λ (k : ℕ). told (delivers M R stop place (eqb (place + 1) (length seeds)) k (get_or seeds place 0))) owed

      pub tallied_refused : (c : Cause) → w ≡ Err c → whole ≡ Err c
      unfolding tally
      tallied_refused c e = so_far ∙ ap (tally total) (walk_refused g masks stop seeds n place total there c (told_refused _ c (sym said ∙ e)))

      module _ (m : ℕ) (e : w ≡ Ok m) where
        gave : given g masks stop seeds n place total ≡ gives m
        gave = told-count _ m (sym said ∙ e)

        pub tallied_nothing : m ≡ 0 → whole ≡ Err (Total total)
        unfolding tally
        tallied_nothing z = so_far ∙ ap (tally total) (walk_nothing g masks stop seeds n place total there (gave ∙ ap gives z))

        pub few_more : m ≤ g.limit
        few_more = delivered_few M R stop place (eqb (place + 1) (length seeds)) (n - total) (get_or seeds place 0) m (delivered M R stop place (eqb (place + 1) (length seeds)) (n - total) (get_or seeds place 0) m gave)

        pub tallied_more : 0 < m → Tallied (place + 1) (total + m)
        tallied_more h =
            let s = get_or seeds place 0 in
            so_far ∙ ap (tally total) (walk-next g masks stop seeds n place total there m gave h) ∙ tally-after total (slices_of M m s) _
            ∙ ap (λ (k : ℕ). tally (total + k) (walk M R n (place + 1) (total + m) (drop (place + 1) seeds))) (run_length M m s)
