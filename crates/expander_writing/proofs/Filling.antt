-- The buffer of an accepted list, seed by seed.
--     size_kept                    writing keeps the buffer's length
--     Accepted, accepted           the seed at a place of an accepted list: how many slices it delivers, and what the seeds behind it deliver
--     Filled                       the slices of the seeds before a place are written: those of the rest complete them
--     filled_start, filled_next, filled_end     no seed yet; one seed more; no seed left
-- Assumes nothing.
use mathlib.Core.Path.{◌≡◌, refl, sym, ap, ◌∙◌}
use mathlib.Core.List.{List, [], ◌++◌}
use Prim.Native.Nat.{ℕ, zero, suc, ◌+◌, ◌-◌, ◌≤◌, ◌<◌}
use native.Mathlib.Omega.{arith}
use lib.Dec.{eqb}
use lib.ListN.{length, get_or, drop, drop_of_length-le, length-append}
use lib.Seq.{sets, length-sets}
use Rattle.words_bounded.proofs.Front.{sets-append}
use Rattle.machine_settings.specs.declared.Settings.{Settings}
use Rattle.machine_settings.specs.Machine.{Machine, machine}
use Rattle.machine_slices.specs.declared.TestSlice.{TestSlice}
use Rattle.theory_covering.specs.Rules.{Rules, rules}
use Rattle.expander_meaning.specs.Run.{Given, slices_of, gives, fails}
use Rattle.expander_meaning.specs.Expanding.{Walk, ran, failed, after, walk}
use Rattle.expander_meaning.specs.Until.{until_stop}
use Rattle.expander_meaning.proofs.Until.{until_slices}
use Rattle.expander_meaning.proofs.OneSeed.{run_length}
use Rattle.expander_meaning.proofs.Ending.{delivered, delivered-run}
use Rattle.expander_meaning.proofs.Places.{given as given_at, walk_refused, walk_nothing, walk-next}

pub size_kept : (out run after : List ℕ) (at k : ℕ) → after ≡ sets out at run → length out ≡ k → length after ≡ k
size_kept out run after at k e h = ap length e ∙ length-sets out at run ∙ h

pub record Accepted (g : Settings) (masks : List ℕ) (stop : TestSlice) (seeds : List ℕ) (n place done : ℕ) (ws : List ℕ) : Type 0 where
  pub m : ℕ
  pub behind : List ℕ
  pub given : given_at g masks stop seeds n place done ≡ gives m
  pub whole : ws ≡ slices_of (machine g masks) m (get_or seeds place 0) ++ behind
  pub walked : walk (machine g masks) (rules g stop) n (place + 1) (done + m) (drop (place + 1) seeds) ≡ ran behind

pub record Filled (g : Settings) (masks : List ℕ) (stop : TestSlice) (seeds : List ℕ) (n : ℕ) (vs before : List ℕ) (place at : ℕ) (out : List ℕ) : Type 0 where
  pub rest : List ℕ
  pub walked : walk (machine g masks) (rules g stop) n place at (drop place seeds) ≡ ran rest
  pub room : at + length rest ≤ n
  pub buffer : sets out at rest ≡ sets before 0 vs

module _ (g : Settings) (masks : List ℕ) (stop : TestSlice) (seeds : List ℕ) (n : ℕ) where
  abbrev M : Machine
  M = machine g masks

  abbrev R : Rules
  R = rules g stop

  pub accepted : (place done : ℕ) (ws : List ℕ) → place < length seeds → walk M R n place done (drop place seeds) ≡ ran ws → Accepted g masks stop seeds n place done ws
  unfolding after
  accepted place done ws there e = by (given_at g masks stop seeds n place done) refl
    where
      seed : ℕ
      seed = get_or seeds place 0

      behind : (m : ℕ) → given_at g masks stop seeds n place done ≡ gives m → (w : Walk) → walk M R n (place + 1) (done + m) (drop (place + 1) seeds) ≡ w → ran ws ≡ after (slices_of M m seed) w → Accepted g masks stop seeds n place done ws
      behind m f (ran us) h a = record { m = m; behind = us; given = f; whole = cc; walked = h }
      behind m f (failed c) h a = absurd (let z : ◌≡◌ {A = ℕ} 0 1 = cc in omega arith)

      by : (d : Given) → given_at g masks stop seeds n place done ≡ d → Accepted g masks stop seeds n place done ws
      by (fails c) f = absurd (let r = walk_refused g masks stop seeds n place done there c f in let z : ◌≡◌ {A = ℕ} 0 1 = cc in omega arith)
      by (gives zero) f = absurd (let r = walk_nothing g masks stop seeds n place done there f in let z : ◌≡◌ {A = ℕ} 0 1 = cc in omega arith)
      by (gives (suc m)) f = behind (suc m) f _ refl (sym e ∙ walk-next g masks stop seeds n place done there (suc m) f (omega arith))

  module _ (vs before : List ℕ) where
    pub filled_start : walk M R n 0 0 seeds ≡ ran vs → length vs ≡ n → Filled g masks stop seeds n vs before 0 0 before
    filled_start w h = record { rest = vs; walked = w; room = omega arith; buffer = refl }

    module _ (place at : ℕ) (out : List ℕ) (f : Filled g masks stop seeds n vs before place at out) where
      pub filled_end : length seeds ≤ place → out ≡ sets before 0 vs
      unfolding walk
      filled_end h =
          let e : ran [] ≡ ran f.rest = rw (drop_of_length-le seeds h) at f.walked in
          let z : f.rest ≡ [] = cc in
          rw z at f.buffer

      module _ (there : place < length seeds) where
        abbrev seed : ℕ
        seed = get_or seeds place 0

        abbrev run : List ℕ
        run = until_stop M stop (n - at) seed

        next : Accepted g masks stop seeds n place at f.rest
        next = accepted place at f.rest there f.walked

        sizes : length f.rest ≡ next.m + length next.behind
        sizes = ap length next.whole ∙ length-append (slices_of M next.m seed) next.behind ∙ ap (λ (k : ℕ). k + length next.behind) (run_length M next.m seed)

        run_size : length run ≡ next.m
        run_size =
            delivered-run M R stop place (eqb (place + 1) (length seeds)) (n - at) seed next.m
            (delivered M R stop place (eqb (place + 1) (length seeds)) (n - at) seed next.m next.given) (omega (arith, sizes, f.room))

        run_is : run ≡ slices_of M next.m seed
        run_is = until_slices M stop (n - at) seed ∙ ap (λ (k : ℕ). slices_of M k seed) run_size

        pub filled_next : Filled g masks stop seeds n vs before (place + 1) (at + length run) (sets out at run)
        filled_next = record {
          rest = next.behind;
          walked = rw run_size next.walked;
          room = omega (arith, sizes, run_size, f.room);
          buffer = sym (sets-append run next.behind out at) ∙ ap (sets out at) (ap (λ (l : List ℕ). l ++ next.behind) run_is ∙ sym next.whole) ∙ f.buffer;
        }
