-- The slices of a state before its stop.
--     until_more, until_here, until_none     a slice that shows no stop comes before it; none comes where it shows, or where none is looked at
--     until_length         at most d of d slices come before the stop
--     until_front          of fewer slices those come before it that come before it of more
--     until_slices         they are the first slices of the state
--     until_stop_lem           the stop first shows right behind them, or in none of the slices looked at: at_within, at_never
-- Assumes nothing.
use Rattle.std.specs.Prelude.{None, Option, Some, option_map}
use mathlib.Core.Path.{◌≡◌, refl, sym, ap, ◌∙◌}
use mathlib.Core.Logic.{⊎_elim}
use mathlib.Core.Bool.{Bool, true, false}
use mathlib.Core.List.{List, [], ◌∷◌}
use Prim.Native.Nat.{ℕ, zero, suc, ◌≤◌, ◌<◌, min}
use native.Mathlib.Omega.{arith}
use lib.Dec.{ltb}
use lib.ListN.{length}
use borrow.Author.Tests.{lt-ltb, le-ltb}
use Rattle.words_bounded.proofs.Tests.{lt_or_le}
use Rattle.machine_settings.specs.Machine.{Machine}
use Rattle.machine_slices.specs.declared.TestSlice.{TestSlice}
use Rattle.machine_slices.specs.Slices.{shows}
use Rattle.expander_meaning.specs.Run.{slices_of, first_stop}
use Rattle.expander_meaning.specs.Until.{until_stop}

abbrev at_stop : ℕ → ℕ → Option ℕ
at_stop d q = elim (ltb q d) [ true ↦ Some q | false ↦ None ]

pub at_within : (d q : ℕ) → q < d → at_stop d q ≡ Some q
at_within d q h = rw (lt-ltb q d h, at_stop)

pub at_never : (d q : ℕ) → d ≤ q → at_stop d q ≡ None
at_never d q h = rw (le-ltb q d h, at_stop)

at_stop_more : (d q : ℕ) → option_map suc (at_stop d q) ≡ at_stop (suc d) (suc q)
at_stop_more d q = ⊎_elim
    (λ l. ap (option_map suc) (at_within d q l) ∙ sym (at_within (suc d) (suc q) (omega arith)))
    (λ l. ap (option_map suc) (at_never d q l) ∙ sym (at_never (suc d) (suc q) (omega arith)))
    (lt_or_le q d)

module _ (M : Machine) (stop : TestSlice) where
  pub until_more : (d s : ℕ) → shows stop (M.slice s) ≡ false → until_stop M stop (suc d) s ≡ M.slice s ∷ until_stop M stop d (M.step s)
  unfolding until_stop
  until_more d s q = rw (q, until_stop)

  pub until_here : (d s : ℕ) → shows stop (M.slice s) ≡ true → until_stop M stop d s ≡ []
  unfolding until_stop
  until_here zero s h = refl
  until_here (suc d) s h = rw (h, until_stop)

  pub until_none : (s : ℕ) → until_stop M stop 0 s ≡ []
  unfolding until_stop
  until_none s = refl

  pub until_length : (d s : ℕ) → length (until_stop M stop d s) ≤ d
  unfolding until_stop
  until_length zero s = omega arith
  until_length (suc d) s = go (shows stop (M.slice s)) (until_length d (M.step s))
    where
      go : (b : Bool) → length (until_stop M stop d (M.step s)) ≤ d → length {A = ℕ} (elim b [ true ↦ [] | false ↦ M.slice s ∷ until_stop M stop d (M.step s) ]) ≤ suc d
      go true h = omega arith
      go false h = omega arith

  pub until_front : (d e s : ℕ) → d ≤ e → length (until_stop M stop d s) ≡ min d (length (until_stop M stop e s))
  unfolding until_stop
  until_front zero e s h = omega arith
  until_front (suc d) zero s h = absurd (omega arith)
  until_front (suc d) (suc e) s h = go (shows stop (M.slice s)) (until_front d e (M.step s) (omega arith))
    where
      go : (b : Bool) → length (until_stop M stop d (M.step s)) ≡ min d (length (until_stop M stop e (M.step s)))
          → length {A = ℕ} (elim b [ true ↦ [] | false ↦ M.slice s ∷ until_stop M stop d (M.step s) ]) ≡ min (suc d) (length {A = ℕ} (elim b [ true ↦ [] | false ↦ M.slice s ∷ until_stop M stop e (M.step s) ]))
      go true ih = omega arith
      go false ih = omega arith

  pub until_slices : (d s : ℕ) → until_stop M stop d s ≡ slices_of M (length (until_stop M stop d s)) s
  unfolding until_stop slices_of
  until_slices zero s = refl
  until_slices (suc d) s = go (shows stop (M.slice s)) (until_slices d (M.step s))
    where
      go : (b : Bool) → until_stop M stop d (M.step s) ≡ slices_of M (length (until_stop M stop d (M.step s))) (M.step s)
          → ◌≡◌ {A = List ℕ} (elim b [ true ↦ [] | false ↦ M.slice s ∷ until_stop M stop d (M.step s) ]) (slices_of M (length {A = ℕ} (elim b [ true ↦ [] | false ↦ M.slice s ∷ until_stop M stop d (M.step s) ])) s)
      go true ih = refl
      go false ih = ap (λ (l : List ℕ). M.slice s ∷ l) ih

  pub until_stop_lem : (d s : ℕ) → first_stop M stop d s ≡ at_stop d (length (until_stop M stop d s))
  unfolding first_stop until_stop
  until_stop_lem zero s = sym (at_never 0 0 (omega arith))
  until_stop_lem (suc d) s = go (shows stop (M.slice s)) (until_stop_lem d (M.step s))
    where
      go : (b : Bool) → first_stop M stop d (M.step s) ≡ at_stop d (length (until_stop M stop d (M.step s)))
          → ◌≡◌ {A = Option ℕ} (elim b [ true ↦ Some 0 | false ↦ option_map suc (first_stop M stop d (M.step s)) ]) (at_stop (suc d) (length {A = ℕ} (elim b [ true ↦ [] | false ↦ M.slice s ∷ until_stop M stop d (M.step s) ])))
      go true ih = sym (at_within (suc d) 0 (omega arith))
      go false ih = ap (option_map suc) ih ∙ at_stop_more d (length (until_stop M stop d (M.step s)))
