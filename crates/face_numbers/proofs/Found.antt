-- What the calls for a step and for a slice answer, case by case.
--     beyond_state, beyond-slice, bad_chains_lem      cause 10, cause 2
--     within_state, within-slice                  what is found
--     made_step, lawful_slice                     with a lawful register
--     refused_step, refused_slice                 with another
-- Assumes nothing.
use Rattle.std.specs.Prelude.{Err, Ok, Result}
use mathlib.Core.Bool.{true, false}
use mathlib.Core.Path.{◌≡◌, sym, ap, ◌∙◌}
use mathlib.Core.List.{List, [], ◌∷◌}
use Prim.Native.Nat.{ℕ}
use lib.ListN.{take}
use Rattle.words_gf2.specs.Words.{beyond}
use Rattle.refusal_causes.specs.declared.Cause.{Cause}
use Rattle.refusal_causes.specs.declared.Cause.TheVariants as cause
use Rattle.machine_register.specs.Register.{bad_register, made_of, step_of}
use Rattle.machine_register.specs.declared.Register.{Register}
use Rattle.machine_register.proofs.Causes.{cells_within}
use Rattle.machine_register.proofs.Making.{made_register, made_refused}
use Rattle.machine_chains.proofs.Causes.{chains_within}
use Rattle.machine_settings.specs.declared.Settings.{Settings}
use Rattle.machine_settings.specs.Machine.{machine, bad_chains_of}
use Rattle.machine_settings.proofs.Machine.{machine-slice, machine-step, chains_parts}
use Rattle.refusal_order.specs.Order.{first_of}
use Rattle.refusal_order.proofs.Order.{first_here, first_later}
use Rattle.face_numbers.specs.declared.SliceAnswer.{SliceAnswer}
use Rattle.face_numbers.specs.States.{no_state, no_slice, state_answer, slice_answer, register_test, chains_test, state_test, step_call, slice_call}
use Rattle.face_numbers.specs.Found.{step_found, slice_found}

module _ (r : Register) (s : ℕ) where
  pub beyond_state : beyond r.cells s ≡ true → no_state (cause.SeedBeyond 0) ≡ step_found r s
  unfolding step_found
  beyond_state h = sym (ap (λ (v : Result (Unit {0}) Cause). state_answer v (step_of r s)) (first_here (state_test r.cells s) [] h))

  pub within_state : beyond r.cells s ≡ false → record { number = 0; value = 0; state = step_of r s } ≡ step_found r s
  unfolding step_found first_of
  within_state h = sym (ap (λ (v : Result (Unit {0}) Cause). state_answer v (step_of r s)) (first_later (state_test r.cells s) [] h))

module _ (g : Settings) (masks : List ℕ) (s : ℕ) where
  abbrev found : Result (Unit {0}) Cause → SliceAnswer
  found v = slice_answer v ((machine g masks).slice s)

  pub bad_chains_lem : bad_chains_of g masks ≡ true → no_slice cause.Chains ≡ slice_found g masks s
  unfolding slice_found
  bad_chains_lem h = sym (ap found (first_here (chains_test g masks) (state_test g.cells s ∷ []) h))

  module _ (lawful : bad_chains_of g masks ≡ false) where
    pub beyond-slice : beyond g.cells s ≡ true → no_slice (cause.SeedBeyond 0) ≡ slice_found g masks s
    unfolding slice_found
    beyond-slice h = sym (ap found (first_later (chains_test g masks) (state_test g.cells s ∷ []) lawful ∙ first_here (state_test g.cells s) [] h))

    pub within-slice : beyond g.cells s ≡ false → record { number = 0; value = 0; slice = (machine g (take 64 masks)).slice s } ≡ slice_found g masks s
    unfolding slice_found first_of
    within-slice h =
        rw (machine-slice g masks s (chains_within g.cells masks (chains_parts g masks lawful).0).1)
        (sym (ap found (first_later (chains_test g masks) (state_test g.cells s ∷ []) lawful ∙ first_later (state_test g.cells s) [] h)))

module _ (g : Settings) (s : ℕ) where
  pub made_step : (r : Register) → made_of g.cells g.taps ≡ Ok r → step_found r s ≡ step_call g s
  unfolding step_found step_call
  made_step r e =
      let m = made_register g.cells g.taps r e in
      rw (m.1, first_later (register_test g) (state_test g.cells s ∷ []) m.0)
      (ap (state_answer (first_of (state_test g.cells s ∷ []))) (machine-step g [] s (cells_within g.cells g.taps m.0).1))

  pub refused_step : (c : Cause) → made_of g.cells g.taps ≡ Err c → no_state c ≡ step_call g s
  unfolding step_call
  refused_step c e = let m = made_refused g.cells g.taps c e in rw (m.1, first_here (register_test g) (state_test g.cells s ∷ []) m.0)

  module _ (masks : List ℕ) where
    pub lawful_slice : bad_register g.cells g.taps ≡ false → slice_found g masks s ≡ slice_call g masks s
    unfolding slice_found slice_call
    lawful_slice h = rw (first_later (register_test g) (chains_test g masks ∷ state_test g.cells s ∷ []) h)

    pub refused_slice : bad_register g.cells g.taps ≡ true → no_slice cause.Register ≡ slice_call g masks s
    unfolding slice_call
    refused_slice h = rw (first_here (register_test g) (chains_test g masks ∷ state_test g.cells s ∷ []) h)
