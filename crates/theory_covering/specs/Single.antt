-- The seed of a window given singly (document 01, "Covering and cutting" and its refusal sheet: 1 to 5, then 7).
--     lowest_or7 o     the lowest covering state, or cause 7
--     window_seed g masks stop specified bits     the answer of the call
--     WindowMeaning g masks stop specified bits r     what the answer r says of the window
use Rattle.std.specs.Prelude.{true, List, ◌≡◌, ◌↔◌, ◌⊎◌, ℕ, ◌^◌, Err, None, Ok, Option, Result, Some}
use Rattle.words_bounded.specs.Bounded.{Least, NoneBelow}
use Rattle.refusal_causes.specs.declared.Cause.{Cause}
use Rattle.refusal_causes.specs.declared.Cause.TheVariants as cause
use Rattle.machine_settings.specs.declared.Settings.{Settings}
use Rattle.machine_settings.specs.Machine.{machine}
use Rattle.machine_slices.specs.declared.TestSlice.{TestSlice}
use Rattle.machine_slices.specs.Slices.{paired}
use Rattle.refusal_order.specs.Order.{judged}
use Rattle.refusal_checks.specs.Calls.{window_faults}
use Rattle.theory_covering.specs.Covering.{covers, seed_of}

unfoldable pub lowest_or7 : Option ℕ → Result ℕ Cause
lowest_or7 None = Err cause.NoSeed
lowest_or7 (Some s) = Ok s

unfoldable pub window_seed : Settings → List ℕ → TestSlice → List ℕ → List ℕ → Result ℕ Cause
window_seed g masks stop specified bits = elim (judged (window_faults g masks stop specified bits)) [
  | Err c ↦ Err c
  | (Ok tt) ↦ lowest_or7 (seed_of (machine g masks) stop true (paired specified bits))
]

-- The first of causes 1 to 5 that holds; otherwise 7 exactly when no state covers the window, and else the lowest covering state.
pub record WindowMeaning (g : Settings) (masks : List ℕ) (stop : TestSlice) (specified bits : List ℕ) (r : Result ℕ Cause) : Type 0 where
  pub refused : (c : Cause) → judged (window_faults g masks stop specified bits) ≡ Err c → r ≡ Err c
  pub answered : judged (window_faults g masks stop specified bits) ≡ Ok tt → ((s : ℕ) × (r ≡ Ok s)) ⊎ (r ≡ Err cause.NoSeed)
  pub lowest : judged (window_faults g masks stop specified bits) ≡ Ok tt → (s : ℕ) → r ≡ Ok s → Least (covers (machine g masks) stop true (paired specified bits)) (2 ^ g.cells) s
  pub none : judged (window_faults g masks stop specified bits) ≡ Ok tt → (r ≡ Err cause.NoSeed) ↔ NoneBelow (covers (machine g masks) stop true (paired specified bits)) (2 ^ g.cells)
