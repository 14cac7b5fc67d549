-- What a seed delivers, by the number q of its slices 0 to limit that come before its stop.
--     before M R stop s            this number
--     stops-within, stops_never    the stop first shows right behind them, or in none of slices 0 to limit
--     gives_none, gives_open, gives_closed, gives_endless     slice 0 shows the stop: 11; a last seed with at most the limit left delivers what is left, or as far as its stop; any other seed as far as its stop; where none shows: 12
--     beyond_states                a seed that is no state: 10
--     Delivered, delivered         what a seed that delivers m slices is: read the other way round
--     delivered_few                it delivers at most the limit
--     delivered-run                of the slices left, those before its stop are the m that it delivers
-- Assumes nothing.
use Rattle.std.specs.Prelude.{None, Some}
use mathlib.Core.Path.{◌≡◌, refl, sym, ap, ◌∙◌}
use mathlib.Core.Logic.{◌⊎◌, inl, inr, ⊎_elim}
use mathlib.Core.Bool.{Bool, true, false, ◌&&◌}
use Prim.Native.Nat.{ℕ, zero, suc, ◌≤◌, ◌<◌, min}
use native.Mathlib.Omega.{arith}
use lib.Dec.{leb}
use lib.ListN.{length}
use borrow.Author.Tests.{lt-ltb, le-ltb, leb-true}
use Rattle.words_bounded.proofs.Tests.{both, lt_or_le}
use Rattle.refusal_causes.specs.declared.Cause.TheVariants.{SeedBeyond, SeedAtStop, SeedEndless}
use Rattle.machine_settings.specs.Machine.{Machine}
use Rattle.machine_slices.specs.declared.TestSlice.{TestSlice}
use Rattle.theory_covering.specs.Rules.{Rules}
use Rattle.expander_meaning.specs.Run.{first_stop, gives, fails, ending, delivers}
use Rattle.expander_meaning.specs.Until.{until_stop}
use Rattle.expander_meaning.proofs.Until.{until_front, until_stop_lem, at_within, at_never}

abbrev pub before : Machine → Rules → TestSlice → ℕ → ℕ
before M R stop s = length (until_stop M stop (suc R.limit) s)

ending_open : (place left q : ℕ) → 0 < q → ending place true left (Some q) ≡ gives (min left q)
unfolding ending
ending_open place left zero h = absurd (omega arith)
ending_open place left (suc q) h = refl

ending-closed : (place left q : ℕ) → 0 < q → ending place false left (Some q) ≡ gives q
unfolding ending
ending-closed place left zero h = absurd (omega arith)
ending-closed place left (suc q) h = refl

module _ (M : Machine) (R : Rules) (stop : TestSlice) (place : ℕ) (last : Bool) (left s : ℕ) where
  abbrev q : ℕ
  q = before M R stop s

  abbrev open_seed : Bool
  open_seed = last && leb left R.limit

  pub beyond_states : M.states ≤ s → delivers M R stop place last left s ≡ fails (SeedBeyond place)
  unfolding delivers
  beyond_states h = rw (le-ltb s M.states h, delivers)

  pub stops-within : q ≤ R.limit → first_stop M stop (suc R.limit) s ≡ Some q
  stops-within h = until_stop_lem M stop (suc R.limit) s ∙ at_within (suc R.limit) q (omega arith)

  pub stops_never : R.limit < q → first_stop M stop (suc R.limit) s ≡ None
  stops_never h = until_stop_lem M stop (suc R.limit) s ∙ at_never (suc R.limit) q h

  module _ (state : s < M.states) where
    by_stop : delivers M R stop place last left s ≡ ending place open_seed left (first_stop M stop (suc R.limit) s)
    unfolding delivers
    by_stop = rw (lt-ltb s M.states state, delivers)

    pub gives_none : q ≡ 0 → delivers M R stop place last left s ≡ fails (SeedAtStop place)
    unfolding ending
    gives_none h = by_stop ∙ rw (stops-within (omega arith), h)

    module _ (some_slice : 0 < q) where
      pub gives_open : open_seed ≡ true → delivers M R stop place last left s ≡ gives (min left q)
      unfolding ending
      gives_open o = by_stop ∙ rw o (⊎_elim
          (λ l. let e : left ≡ min left q = (let w = leb-true left R.limit (both last (leb left R.limit) o).1 in omega arith) in rw (stops_never l, ending) (ap gives e))
          (λ l. rw (stops-within l) (ending_open place left q some_slice))
          (lt_or_le R.limit q))

      module _ (closed : open_seed ≡ false) where
        pub gives_closed : q ≤ R.limit → delivers M R stop place last left s ≡ gives q
        gives_closed l = by_stop ∙ rw (closed, stops-within l) (ending-closed place left q some_slice)

        pub gives_endless : R.limit < q → delivers M R stop place last left s ≡ fails (SeedEndless place)
        unfolding ending
        gives_endless l = by_stop ∙ rw (closed, stops_never l)

  pub record Delivered (m : ℕ) : Type 0 where
    pub state : s < M.states
    pub some_slice : 0 < q
    pub by : ((open_seed ≡ true) × (left ≤ R.limit) × (m ≡ min left q)) ⊎ ((open_seed ≡ false) × (q ≤ R.limit) × (m ≡ q))

  pub delivered : (m : ℕ) → delivers M R stop place last left s ≡ gives m → Delivered m
  delivered m e = ⊎_elim
      (λ h. ⊎_elim
      (λ l. go h l open_seed refl)
      (λ l. absurd (let z = gives_none h (omega arith) in let y : ◌≡◌ {A = ℕ} 0 1 = cc in omega arith))
      (lt_or_le 0 q))
      (λ h. absurd (let z = beyond_states h in let y : ◌≡◌ {A = ℕ} 0 1 = cc in omega arith))
      (lt_or_le s M.states)
    where
      go : s < M.states → 0 < q → (b : Bool) → open_seed ≡ b → Delivered m
      go h l true o = record { state = h; some_slice = l; by = inl (o, leb-true left R.limit (both last (leb left R.limit) o).1, (let z = gives_open h l o in cc)) }
      go h l false o = ⊎_elim
          (λ w. absurd (let z = gives_endless h l o w in let y : ◌≡◌ {A = ℕ} 0 1 = cc in omega arith))
          (λ w. record { state = h; some_slice = l; by = inr (o, w, (let z = gives_closed h l o w in cc)) })
          (lt_or_le R.limit q)

  module _ (m : ℕ) (d : Delivered m) where
    pub delivered_few : m ≤ R.limit
    delivered_few = ⊎_elim (λ b. let l = b.1 in let e = b.2 in omega arith) (λ b. let l = b.1 in let e = b.2 in omega arith) d.by

    pub delivered-run : m ≤ left → length (until_stop M stop left s) ≡ m
    delivered-run h = ⊎_elim
        (λ b. let l = b.1 in let e = b.2 in until_front M stop left (suc R.limit) s (omega arith) ∙ sym e)
        (λ b. ⊎_elim
        (λ l. let e = until_front M stop left (suc R.limit) s (omega arith) in let z = b.2 in omega arith)
        (λ l. let e = until_front M stop (suc R.limit) left s (omega arith) in let z = b.2 in let w = b.1 in omega arith)
        (lt_or_le left (suc R.limit)))
        d.by
