-- The answer for a window given singly.
--     window_refused, window_well     by the checks: refused, or the seed of the window
--     window_means, window_answer     it means what it says
-- Assumes nothing.
use Rattle.std.specs.Prelude.{Err, None, Ok, Option, Result, Some}
use mathlib.Core.Path.{◌≡◌, refl, sym, ◌∙◌}
use mathlib.Core.Logic.{◌↔◌, ◌⊎◌, inl, inr}
use mathlib.Core.Bool.{Bool, true}
use mathlib.Core.List.{List}
use Prim.Native.Nat.{ℕ, ◌^◌}
use native.Mathlib.Omega.{arith}
use Rattle.words_bounded.specs.Bounded.{Least, NoneBelow, least_below}
use Rattle.words_bounded.proofs.Tests.{clash}
use Rattle.words_bounded.proofs.Search.{LeastIs, least_is}
use Rattle.refusal_causes.specs.declared.Cause.{Cause}
use Rattle.machine_settings.specs.declared.Settings.{Settings}
use Rattle.machine_settings.specs.Machine.{machine}
use Rattle.machine_slices.specs.declared.TestSlice.{TestSlice}
use Rattle.machine_slices.specs.Slices.{paired}
use Rattle.refusal_order.specs.Order.{judged}
use Rattle.refusal_checks.specs.Calls.{window_faults}
use Rattle.theory_covering.specs.Covering.{covers, seed_of}
use Rattle.theory_covering.specs.Single.{lowest_or7, window_seed, WindowMeaning}
use Rattle.refusal_causes.specs.declared.Cause.TheVariants as cause

answer_cases : (o : Option ℕ) → ((s : ℕ) × (lowest_or7 o ≡ Ok s)) ⊎ (lowest_or7 o ≡ Err cause.NoSeed)
unfolding lowest_or7
answer_cases None = inr refl
answer_cases (Some s) = inl (s, refl)

module _ (p : ℕ → Bool) (n : ℕ) where
  answer_lowest : (o : Option ℕ) → LeastIs p n o → (s : ℕ) → lowest_or7 o ≡ Ok s → Least p n s
  unfolding lowest_or7
  answer_lowest None all s e = absurd (let z : ◌≡◌ {A = ℕ} 0 1 = cc in omega arith)
  answer_lowest (Some g) l s e = let q : g ≡ s = cc in rw (sym q) l

  answer-none : (o : Option ℕ) → LeastIs p n o → (lowest_or7 o ≡ Err cause.NoSeed) ↔ NoneBelow p n
  unfolding lowest_or7
  answer-none None all = (λ e. all, λ a. refl)
  answer-none (Some g) l = (
    λ e. absurd (let z : ◌≡◌ {A = ℕ} 0 1 = cc in omega arith),
    λ a. absurd (clash (p g) l.passes (a g l.below)),
  )

module _ (g : Settings) (masks : List ℕ) (stop : TestSlice) (specified bits : List ℕ) where
  abbrev p : ℕ → Bool
  p = covers (machine g masks) stop true (paired specified bits)

  pub window_well : judged (window_faults g masks stop specified bits) ≡ Ok tt
      → window_seed g masks stop specified bits ≡ lowest_or7 (seed_of (machine g masks) stop true (paired specified bits))
  unfolding window_seed
  window_well w = rw (w, window_seed)

  least : judged (window_faults g masks stop specified bits) ≡ Ok tt → window_seed g masks stop specified bits ≡ lowest_or7 (least_below p (2 ^ g.cells))
  unfolding seed_of
  least w = window_well w

  pub window_refused : (c : Cause) → judged (window_faults g masks stop specified bits) ≡ Err c → window_seed g masks stop specified bits ≡ Err c
  unfolding window_seed
  window_refused c w = rw (w, window_seed)

  pub window_means : WindowMeaning g masks stop specified bits (window_seed g masks stop specified bits)
  window_means = record {
    refused = window_refused;
    answered = λ w. rw (least w) (answer_cases (least_below p (2 ^ g.cells)));
    lowest = λ w s e. answer_lowest p (2 ^ g.cells) (least_below p (2 ^ g.cells)) (least_is p (2 ^ g.cells)) s (sym (least w) ∙ e);
    none = λ w. rw (least w) (answer-none p (2 ^ g.cells) (least_below p (2 ^ g.cells)) (least_is p (2 ^ g.cells)));
  }

  -- an answer that is the definition's, with its meaning
  pub window_answer : (r : Result ℕ Cause) → r ≡ window_seed g masks stop specified bits → (r ≡ window_seed g masks stop specified bits) × WindowMeaning g masks stop specified bits r
  window_answer r e = (e, rw e window_means)
