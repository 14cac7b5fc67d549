-- The whole call for a stop slice.
--     call_refused, call-formed     its answer, by the checks
--     few_chains                    a well-formed call has at most 64 chains
--     lawful                        the set of a well-formed call
--     rule_stop, rule_refused       what its answer says of the rule
--     formed_means, formed_outcome  the answer means what it says
-- Assumes nothing.
use Rattle.std.specs.Prelude.{Err, None, Ok, Option, Result, Some}
use mathlib.Core.Path.{◌≡◌, refl, sym, ap, ◌∙◌}
use mathlib.Core.List.{List}
use Prim.Native.Nat.{ℕ, ◌≤◌, ◌<◌}
use native.Mathlib.Omega.{arith}
use lib.ListN.{length}
use Rattle.refusal_causes.specs.declared.Cause.{Cause}
use Rattle.machine_chains.proofs.Causes.{count-within}
use Rattle.machine_slices.specs.declared.TestSlice.{TestSlice}
use Rattle.machine_slices.specs.Slices.{paired}
use Rattle.machine_slices.proofs.Formed.{slices_length, slices_all}
use Rattle.refusal_lengths.proofs.Lengths.{set-within}
use Rattle.refusal_order.specs.Order.{judged}
use Rattle.refusal_checks.specs.Calls.{stop_faults}
use Rattle.refusal_order.proofs.Order.{NoFault, formed_well}
use Rattle.stop_steps.specs.Steps.{stop_for}
use Rattle.stop_slice.specs.Entry.{stop_or6, stop_of}
use Rattle.stop_steps.specs.Meaning.{StopMeaning}
use Rattle.stop_steps.proofs.Meaning.{Lawful, RuleMeaning, rule_means}
use Rattle.stop_slice.specs.Meaning.{FormedMeaning}
use Rattle.refusal_causes.specs.declared.Cause.TheVariants as cause

or6_stop : (o : Option TestSlice) (stop : TestSlice) → stop_or6 o ≡ Ok stop → o ≡ Some stop
unfolding stop_or6
or6_stop None stop e = absurd (let z : ◌≡◌ {A = ℕ} 0 1 = cc in omega arith)
or6_stop (Some s) stop e = ap Some (let q : s ≡ stop = cc in q)

or6_refused : (o : Option TestSlice) (c : Cause) → stop_or6 o ≡ Err c → (o ≡ None) × (c ≡ cause.AllTaken)
unfolding stop_or6
or6_refused None c e = (refl, let q : c ≡ cause.AllTaken = cc in q)
or6_refused (Some s) c e = absurd (let z : ◌≡◌ {A = ℕ} 0 1 = cc in omega arith)

module _ (chains : ℕ) (specified bits : List ℕ) where
  abbrev set : List TestSlice
  set = paired specified bits

  abbrev verdict_of : Result (Unit {0}) Cause
  verdict_of = judged (stop_faults chains specified bits)

  pub call_refused : (c : Cause) → verdict_of ≡ Err c → stop_of chains specified bits ≡ Err c
  unfolding stop_of
  call_refused c e = rw (e, stop_of)

  pub call-formed : verdict_of ≡ Ok tt → stop_of chains specified bits ≡ stop_or6 (stop_for chains set)
  unfolding stop_of
  call-formed e = rw (e, stop_of)

  faultless : verdict_of ≡ Ok tt → NoFault (stop_faults chains specified bits)
  faultless w = formed_well (stop_faults chains specified bits) w

  pub few_chains : verdict_of ≡ Ok tt → chains ≤ 64
  unfolding stop_faults
  few_chains w = (count-within chains (faultless w).chains).1

  some_slice : verdict_of ≡ Ok tt → 0 < length set
  unfolding stop_faults
  some_slice w = omega (arith, (set-within (length specified) (faultless w).lengths).0, slices_length chains specified bits (faultless w).slices)

  pub lawful : verdict_of ≡ Ok tt → Lawful chains set
  unfolding stop_faults
  lawful w = record { some_chain = (count-within chains (faultless w).chains).0; some_slice = some_slice w; formed = slices_all chains specified bits (faultless w).slices }

  pub rule_stop : verdict_of ≡ Ok tt → (stop : TestSlice) → stop_of chains specified bits ≡ Ok stop → stop_for chains set ≡ Some stop
  rule_stop w stop e = or6_stop (stop_for chains set) stop (sym (call-formed w) ∙ e)

  pub rule_refused : verdict_of ≡ Ok tt → (c : Cause) → stop_of chains specified bits ≡ Err c → (stop_for chains set ≡ None) × (c ≡ cause.AllTaken)
  rule_refused w c e = or6_refused (stop_for chains set) c (sym (call-formed w) ∙ e)

  rule : verdict_of ≡ Ok tt → RuleMeaning chains set (stop_for chains set)
  rule w = rule_means chains set (lawful w)

  good : (stop : TestSlice) → stop_of chains specified bits ≡ Ok stop → StopMeaning chains set stop
  good stop e = go verdict_of refl
    where
      go : (v : Result (Unit {0}) Cause) → verdict_of ≡ v → StopMeaning chains set stop
      go (Err c) w = absurd (let f = call_refused c w in let z : ◌≡◌ {A = ℕ} 0 1 = cc in omega arith)
      go (Ok tt) w = (rule w).good stop (rule_stop w stop e)

  pub formed_means : FormedMeaning chains specified bits (stop_of chains specified bits)
  unfolding stop_or6
  formed_means = record {
    unformed = call_refused;
    decided = λ w stop e. call-formed w ∙ ap stop_or6 ((rule w).decided stop e);
    spared = λ w e. (let q = (rule w).spared e in (q.0, call-formed w ∙ ap stop_or6 q.1));
    good = good;
    six = λ w c e. (let q = rule_refused w c e in (q.1, (rule w).six q.0));
    exactly = λ w. ((λ e. (rule w).exactly.0 (rule_refused w cause.AllTaken e).0), λ n. call-formed w ∙ ap stop_or6 ((rule w).exactly.1 n));
  }

  -- an answer that is the definition's, with its meaning
  pub formed_outcome : (r : Result TestSlice Cause) → r ≡ stop_of chains specified bits → (r ≡ stop_of chains specified bits) × FormedMeaning chains specified bits r
  formed_outcome r e = (e, rw e formed_means)
