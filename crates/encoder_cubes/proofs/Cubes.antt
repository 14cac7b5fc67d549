-- The whole call for cubes, with their stop slice.
--     stop-set                      with their stop slice, they are a set
--     cubes_unstopped, cubes_stopped     the encoding of well-formed cubes, by whether they have a stop slice
--     cubes_refused, cubes_well     the outcome of the call, by the checks
--     cubes_means, cubes_outcome    it means what it says
-- Assumes nothing.
use Rattle.encoder_meaning.specs.declared.Encoded.{Encoded}
use Rattle.std.specs.Prelude.{Err, None, Ok, Option, Result, Some}
use mathlib.Core.Path.{◌≡◌, refl, sym, ap, ◌∙◌}
use mathlib.Core.Logic.{◌⊎◌, inl, inr}
use mathlib.Core.List.{List}
use Prim.Native.Nat.{ℕ}
use native.Mathlib.Omega.{arith}
use lib.ListN.{length}
use Rattle.refusal_causes.specs.declared.Cause.{Cause}
use Rattle.refusal_causes.specs.Outcome.{Outcome}
use Rattle.machine_settings.specs.declared.Settings.{Settings}
use Rattle.machine_settings.specs.Machine.{machine}
use Rattle.machine_slices.specs.declared.TestSlice.{TestSlice}
use Rattle.machine_slices.specs.Slices.{paired}
use Rattle.refusal_order.specs.Order.{judged}
use Rattle.refusal_checks.specs.Calls.{set_faults, cubes_faults}
use Rattle.stop_steps.specs.Steps.{stop_for}
use Rattle.stop_steps.specs.Meaning.{NoneGood}
use Rattle.stop_steps.proofs.Meaning.{RuleMeaning, rule_means}
use Rattle.stop_slice.proofs.Calls.{lawful}
use Rattle.theory_covering.specs.Rules.{rules}
use Rattle.encoder_meaning.specs.Encoding.{encoding, encode_set}
use Rattle.encoder_cubes.specs.Cubes.{CubesOutcome, stopped as stopped-as, with_stop, cubes_encoding, encode_cubes}
use Rattle.encoder_cubes.specs.Meaning.{StoppedMeaning, CubesMeaning}
use Rattle.encoder_cubes.specs.Formed.{CubesFormed}
use Rattle.encoder_cubes.proofs.Formed.{cubes_formed, cubes_stop, cubes_set}
use Rattle.encoder_meaning.proofs.Calls.{set_well, set_means}
use Rattle.refusal_causes.specs.declared.Cause.TheVariants as cause

-- what is encoded with a stop slice is answered by a list, 8 or 9
module _ (stop : TestSlice) (h : Outcome) (out : List ℕ) (six : with_stop stop h ≡ record { answer = Err cause.AllTaken; buffer = out }) where
  encoded_six : (w : Result ℕ Cause) → h.answer ≡ w → stopped-as stop w ≡ Err cause.AllTaken
  unfolding with_stop
  encoded_six w e = ap (stopped-as stop) (sym e) ∙ ap (λ (x : CubesOutcome). x.answer) six

  not_six : ((n : ℕ) × (h.answer ≡ Ok n)) ⊎ (((k : ℕ) × (h.answer ≡ Err (cause.NoCutting k))) ⊎ ((n : ℕ) × (h.answer ≡ Err (cause.NoSpace n)))) → ⊥
  unfolding stopped-as
  not_six (inl q) = let e = encoded_six _ q.1 in let z : ◌≡◌ {A = ℕ} 0 1 = cc in omega arith
  not_six (inr (inl q)) = let e = encoded_six _ q.1 in let z : ◌≡◌ {A = ℕ} 0 1 = cc in omega arith
  not_six (inr (inr q)) = let e = encoded_six _ q.1 in let z : ◌≡◌ {A = ℕ} 0 1 = cc in omega arith

module _ (g : Settings) (masks ps bs : List ℕ) where
  abbrev set : List TestSlice
  set = paired ps bs

  abbrev c : ℕ
  c = length masks

  module _ (f : CubesFormed g masks ps bs) where
    rule : RuleMeaning c set (stop_for c set)
    rule = rule_means c set (lawful c ps bs (cubes_stop g masks ps bs f))

    -- the stop slice makes them a set
    pub stop-set : (stop : TestSlice) → stop_for c set ≡ Some stop → judged (set_faults g masks stop ps bs) ≡ Ok tt
    stop-set stop e = cubes_set g masks ps bs f stop (rule.good stop e).formed

  module _ (out : List ℕ) where
    pub cubes_unstopped : stop_for c set ≡ None → cubes_encoding g masks ps bs out ≡ record { answer = Err cause.AllTaken; buffer = out }
    unfolding cubes_encoding
    cubes_unstopped e = rw (e, cubes_encoding)

    pub cubes_stopped : (stop : TestSlice) → stop_for c set ≡ Some stop → cubes_encoding g masks ps bs out ≡ with_stop stop (encoding (machine g masks) (rules g stop) set out)
    unfolding cubes_encoding
    cubes_stopped stop e = rw (e, cubes_encoding)

    module _ (depth : ℕ) where
      abbrev verdict_of : Result (Unit {0}) Cause
      verdict_of = judged (cubes_faults g masks depth ps bs)

      pub cubes_refused : (k : Cause) → verdict_of ≡ Err k → encode_cubes g masks depth ps bs out ≡ record { answer = Err k; buffer = out }
      unfolding encode_cubes
      cubes_refused k w = rw (w, encode_cubes)

      pub cubes_well : verdict_of ≡ Ok tt → encode_cubes g masks depth ps bs out ≡ cubes_encoding g masks ps bs out
      unfolding encode_cubes
      cubes_well w = rw (w, encode_cubes)

      stopped : verdict_of ≡ Ok tt → (stop : TestSlice) → stop_for c set ≡ Some stop → StoppedMeaning g masks ps bs out stop (encode_cubes g masks depth ps bs out)
      stopped w stop e =
          let f = cubes_formed g masks ps bs depth w in
          let s = stop-set f stop e in
          record {
            good = (rule f).good stop e;
            formed = s;
            handed = encode_set g masks stop ps bs out;
            outcome = cubes_well w ∙ cubes_stopped stop e ∙ ap (with_stop stop) (sym (set_well g masks stop ps bs out s));
            meaning = set_means g masks stop ps bs out;
          }

      rule_of : verdict_of ≡ Ok tt → RuleMeaning c set (stop_for c set)
      rule_of w = rule (cubes_formed g masks ps bs depth w)

      unstopped : verdict_of ≡ Ok tt → stop_for c set ≡ None → encode_cubes g masks depth ps bs out ≡ record { answer = Err cause.AllTaken; buffer = out }
      unstopped w e = cubes_well w ∙ cubes_unstopped e

      six_only : verdict_of ≡ Ok tt → encode_cubes g masks depth ps bs out ≡ record { answer = Err cause.AllTaken; buffer = out } → NoneGood c set
      six_only w six = go (stop_for c set) refl
        where
          go : (s : Option TestSlice) → stop_for c set ≡ s → NoneGood c set
          go None e = ((rule_of w).six e).none_good
          go (Some stop) e = absurd (let m = stopped w stop e in not_six stop m.handed out (sym m.outcome ∙ six) (m.meaning.meaning m.formed).answered)

      pub cubes_means : CubesMeaning g masks depth ps bs out (encode_cubes g masks depth ps bs out)
      cubes_means = record {
        refused = cubes_refused;
        unstopped = λ w e. (unstopped w e, (rule_of w).six e);
        stopped = stopped;
        exactly = λ w. (six_only w, λ n. unstopped w ((rule_of w).exactly.1 n));
      }

      -- an outcome that is the definition's, with its meaning
      pub cubes_outcome : (answer : Result Encoded Cause) (buffer : List ℕ) → answer ≡ (encode_cubes g masks depth ps bs out).answer → buffer ≡ (encode_cubes g masks depth ps bs out).buffer
          → (answer ≡ (encode_cubes g masks depth ps bs out).answer)
          × ((buffer ≡ (encode_cubes g masks depth ps bs out).buffer) × CubesMeaning g masks depth ps bs out (record { answer = answer; buffer = buffer }))
      cubes_outcome answer buffer e q = (e, (q, rw (e, q) cubes_means))
