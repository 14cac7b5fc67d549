-- The last seed of a list, where it need not close with its stop.
--     last-seed     the law, for all rules with an open end
-- Assumes nothing.
use Rattle.std.specs.Prelude.{None, Some}
use mathlib.Core.Path.{◌≡◌, sym, ap, ◌∙◌}
use mathlib.Core.Logic.{⊎_elim}
use mathlib.Core.Bool.{Bool, true, false, ◌&&◌, and-false}
use mathlib.Core.List.{[], ◌∷◌, append-nil}
use Prim.Native.Nat.{ℕ, suc, ◌-◌, ◌≤◌, ◌<◌, min}
use native.Mathlib.Omega.{arith}
use lib.Dec.{leb}
use lib.ListN.{length}
use borrow.Author.Tests.{le-leb, lt-leb}
use Rattle.words_bounded.proofs.Tests.{lt_or_le}
use Rattle.machine_settings.specs.Machine.{Machine}
use Rattle.machine_slices.specs.declared.TestSlice.{TestSlice}
use Rattle.machine_slices.specs.Slices.{shows}
use Rattle.theory_covering.specs.Rules.{Rules}
use Rattle.expander_meaning.specs.Run.{slices_of, first_stop, gives, delivers}
use Rattle.expander_meaning.specs.Until.{until_stop}
use Rattle.expander_meaning.specs.Expanding.{ran, after, is_last, walk}
use Rattle.expander_meaning.specs.LastSeed.{LastSeed}
use Rattle.expander_meaning.proofs.Until.{until_more, until_here, until_front, until_slices}
use Rattle.expander_meaning.proofs.OneSeed.{walk_fails, walk_idle, walk_gives}
use Rattle.expander_meaning.proofs.Ending.{before, stops-within, stops_never, beyond_states, gives_none, gives_open, gives_closed, gives_endless}

module _ (M : Machine) (R : Rules) (n place done s : ℕ) (unclosed : R.open_end ≡ true) where
  abbrev stop : TestSlice
  stop = R.live done

  abbrev q : ℕ
  q = before M R stop s

  abbrev last : Bool
  last = R.open_end && is_last []

  alone : (m : ℕ) → delivers M R stop place last (n - done) s ≡ gives m → 0 < m → walk M R n place done (s ∷ []) ≡ ran (slices_of M m s)
  unfolding after walk
  alone m e h = walk_gives M R n place done s [] m e h ∙ ap ran (append-nil (slices_of M m s))

  none_before : shows stop (M.slice s) ≡ true → q ≡ 0
  none_before h = ap length (until_here M stop (suc R.limit) s h)

  module _ (state : s < M.states) (quiet : shows stop (M.slice s) ≡ false) where
    some_slice : 0 < q
    some_slice = rw (until_more M stop R.limit s quiet) (omega arith)

    few : n - done ≤ R.limit → (last && leb (n - done) R.limit) ≡ true
    few l = rw (unclosed, le-leb (n - done) R.limit l)

    given : n - done ≤ R.limit → delivers M R stop place last (n - done) s ≡ gives (min (n - done) q)
    given l = gives_open M R stop place last (n - done) s state some_slice (few l)

    count : n - done ≤ R.limit → min (n - done) q ≡ length (until_stop M stop (n - done) s)
    count l = sym (until_front M stop (n - done) (suc R.limit) s (omega arith))

    ends-here : done < n → n - done ≤ R.limit → walk M R n place done (s ∷ []) ≡ ran (until_stop M stop (n - done) s)
    ends-here h l =
        let p = some_slice in
        alone (min (n - done) q) (given l) (omega arith) ∙ ap (λ (k : ℕ). ran (slices_of M k s)) (count l) ∙ ap ran (sym (until_slices M stop (n - done) s))

    far : R.limit < n - done → (last && leb (n - done) R.limit) ≡ false
    far l = rw (lt-leb (n - done) R.limit l, and-false)

    stop-before : (t : ℕ) → first_stop M stop (suc R.limit) s ≡ Some t → (q ≡ t) × (q ≤ R.limit)
    stop-before t e = ⊎_elim
        (λ l. absurd (let f = sym e ∙ stops_never M R stop place last (n - done) s l in let z : ◌≡◌ {A = ℕ} 0 1 = cc in omega arith))
        (λ l. ((let f = sym e ∙ stops-within M R stop place last (n - done) s l in cc), l))
        (lt_or_le R.limit q)

    no_stop : first_stop M stop (suc R.limit) s ≡ None → R.limit < q
    no_stop e = ⊎_elim
        (λ l. l)
        (λ l. absurd (let f = sym e ∙ stops-within M R stop place last (n - done) s l in let z : ◌≡◌ {A = ℕ} 0 1 = cc in omega arith))
        (lt_or_le R.limit q)

  pub last-seed : LastSeed M R n place done s
  last-seed = record {
    beyond = λ h. walk_fails M R n place done s [] _ (beyond_states M R stop place last (n - done) s h);
    at_stop = λ state h. walk_fails M R n place done s [] _ (gives_none M R stop place last (n - done) s state (none_before h));
    nothing = λ state quiet h. walk_idle M R n place done s [] (let z : min (n - done) q ≡ 0 = omega arith in given state quiet (omega arith) ∙ ap gives z);
    ends = λ state quiet h l. ends-here state quiet h l;
    stops = λ state quiet l t e. (
        let b = stop-before state quiet t e in
        alone t (gives_closed M R stop place last (n - done) s state (some_slice state quiet) (far state quiet l) b.1 ∙ ap gives b.0) (let p = some_slice state quiet in let z = b.0 in omega arith));
    endless = λ state quiet l e. walk_fails M R n place done s [] _ (gives_endless M R stop place last (n - done) s state (some_slice state quiet) (far state quiet l) (no_stop state quiet e));
  }
