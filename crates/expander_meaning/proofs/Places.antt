-- The walk over the seeds from a place on, by what the seed at that place delivers.
--     given                        what it delivers: it is the last one where no place follows
--     walk_refused, walk_nothing   it is refused; it has nothing left to deliver
--     walk-next                    it delivers its slices, and the seeds behind it theirs
-- Assumes nothing.
use mathlib.Core.Path.{◌≡◌, sym, ap, ◌∙◌}
use mathlib.Core.Bool.{Bool}
use mathlib.Core.List.{List, [], ◌∷◌}
use Prim.Native.Nat.{ℕ, suc, ◌+◌, ◌-◌, ◌<◌}
use native.Mathlib.Numerals.{add-one}
use native.Mathlib.Omega.{arith}
use lib.Dec.{eqb}
use lib.ListN.{length, get_or, drop, length-drop}
use lib.Seq.{drop-cons}
use borrow.Author.Tests.{eq-eqb, ne_eqb}
use Rattle.refusal_causes.specs.declared.Cause.{Cause}
use Rattle.refusal_causes.specs.declared.Cause.TheVariants.{Total}
use Rattle.machine_settings.specs.declared.Settings.{Settings}
use Rattle.machine_settings.specs.Machine.{Machine, machine}
use Rattle.machine_slices.specs.declared.TestSlice.{TestSlice}
use Rattle.theory_covering.specs.Rules.{Rules, rules}
use Rattle.expander_meaning.specs.Run.{Given, slices_of, gives, fails, delivers}
use Rattle.expander_meaning.specs.Expanding.{Walk, failed, after, is_last, walk}
use Rattle.expander_meaning.proofs.OneSeed.{walk_fails, walk_idle, walk_gives}

last_behind : (l : List ℕ) (place n : ℕ) → length l ≡ n - suc place → place < n → is_last l ≡ eqb (place + 1) n
last_behind [] place n e h = sym (eq-eqb (place + 1) n (omega arith))
last_behind (s ∷ l) place n e h = sym (ne_eqb (place + 1) n (λ q. omega arith))

module _ (g : Settings) (masks : List ℕ) (stop : TestSlice) (seeds : List ℕ) (n : ℕ) where
  abbrev M : Machine
  M = machine g masks

  abbrev R : Rules
  R = rules g stop

  module _ (place done : ℕ) where
    abbrev seed : ℕ
    seed = get_or seeds place 0

    abbrev rest : Walk
    rest = walk M R n place done (drop place seeds)

    abbrev pub given : Given
    given = delivers M R stop place (eqb (place + 1) (length seeds)) (n - done) seed

    module _ (there : place < length seeds) where
      split : rest ≡ walk M R n place done (seed ∷ drop (suc place) seeds)
      split = ap (walk M R n place done) (drop-cons seeds place 0 there)

      same-given : delivers M R stop place (is_last (drop (suc place) seeds)) (n - done) seed ≡ given
      same-given = ap (λ (b : Bool). delivers M R stop place b (n - done) seed) (last_behind (drop (suc place) seeds) place (length seeds) (length-drop (suc place) seeds) there)

      pub walk_refused : (c : Cause) → given ≡ fails c → rest ≡ failed c
      walk_refused c e = split ∙ walk_fails M R n place done seed (drop (suc place) seeds) c (same-given ∙ e)

      pub walk_nothing : given ≡ gives 0 → rest ≡ failed (Total done)
      walk_nothing e = split ∙ walk_idle M R n place done seed (drop (suc place) seeds) (same-given ∙ e)

      pub walk-next : (m : ℕ) → given ≡ gives m → 0 < m → rest ≡ after (slices_of M m seed) (walk M R n (place + 1) (done + m) (drop (place + 1) seeds))
      walk-next m e h = rw add-one (split ∙ walk_gives M R n place done seed (drop (suc place) seeds) m (same-given ∙ e) h)
