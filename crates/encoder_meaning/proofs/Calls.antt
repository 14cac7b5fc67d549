-- The whole call with the stop slice handed in means what it says.
--     list_formed      the list of an encoded set is well-formed in expanding
--     set_refused, set_well     the outcome of the call, by the checks
--     set_means, set_outcome    it means what it says
-- Assumes nothing.
use Rattle.std.specs.Prelude.{Err, Ok, Result}
use mathlib.Core.Path.{◌≡◌, refl, sym, ◌∙◌}
use mathlib.Core.List.{List, ◌++◌}
use Prim.Native.Nat.{ℕ, ◌≤◌}
use native.Mathlib.Omega.{arith}
use lib.ListN.{length, take, drop}
use lib.Seq.{take_at}
use borrow.Author.Tests.{le-ltb}
use Rattle.refusal_causes.specs.declared.Cause.{Cause}
use Rattle.refusal_causes.specs.Outcome.{refuse}
use Rattle.machine_settings.specs.declared.Settings.{Settings}
use Rattle.machine_settings.specs.Machine.{Machine, machine}
use Rattle.machine_register.proofs.Steps.{step_below}
use Rattle.machine_slices.specs.declared.TestSlice.{TestSlice}
use Rattle.machine_slices.specs.Slices.{bad_slices, bad_stop, paired}
use Rattle.machine_slices.proofs.Formed.{slices_length}
use Rattle.refusal_lengths.specs.Lengths.{bad_set}
use Rattle.refusal_order.specs.Order.{judged}
use Rattle.refusal_checks.specs.Calls.{set_faults, list_faults}
use Rattle.refusal_lengths.proofs.Lengths.{set-within, list_seeds}
use Rattle.refusal_checks.proofs.Formed.{CallFormed, set-formed, formed-call}
use Rattle.theory_cutting.proofs.Parts.{covering_length, cuts_count}
use Rattle.theory_covering.specs.Rules.{Rules, rules}
use Rattle.theory_covering.specs.Windows.{CoveredBy, ok}
use Rattle.theory_covering.proofs.Windows.{rules_steady, set-bounds}
use Rattle.expander_meaning.specs.Expanding.{expanding, expand_list}
use Rattle.encoder_meaning.specs.Encoding.{encoding, encode_set}
use Rattle.encoder_meaning.specs.Meaning.{Delivers, Shortest, Listed, Meaning, SetMeaning}
use Rattle.encoder_meaning.proofs.Seeds.{covering_cuts}
use Rattle.encoder_meaning.proofs.Meaning.{encoding_means, list_delivers}

module _ (g : Settings) (masks : List ℕ) (stop : TestSlice) (specified bits : List ℕ) where
  abbrev M : Machine
  M = machine g masks

  abbrev R : Rules
  R = rules g stop

  abbrev set : List TestSlice
  set = paired specified bits

  abbrev verdict_of : Result (Unit {0}) Cause
  verdict_of = judged (set_faults g masks stop specified bits)

  formed : verdict_of ≡ Ok tt → CallFormed g masks (bad_set (length specified)) (bad_slices (length masks) specified bits) (bad_stop (length masks) stop)
  formed w = set-formed g masks stop specified bits w

  set-length : verdict_of ≡ Ok tt → length set ≡ length specified
  set-length w = slices_length (length masks) specified bits (formed w).slices

  few_seeds : verdict_of ≡ Ok tt → (seeds : List ℕ) → Shortest M R set seeds → length seeds ≤ 2048
  few_seeds w seeds l =
      omega (arith, cuts_count (ok M R set) (length set) (set-bounds M R set) (covering_cuts M R set l.covers), covering_length (CoveredBy M R set) l.covers, set-length w, (set-within (length specified) (formed w).lengths).1)

  list_formed : verdict_of ≡ Ok tt → (seeds : List ℕ) → Shortest M R set seeds
      → judged (list_faults g masks stop (length specified) (length seeds)) ≡ Ok tt
  unfolding list_faults
  list_formed w seeds l = formed-call g masks _ _ _ (formed w).register (formed w).chains (formed w).invert (formed w).limit
      (list_seeds (length specified) (length seeds) (formed w).lengths ∙ le-ltb 2048 (length seeds) (few_seeds w seeds l)) refl (formed w).stop

  expands_back : verdict_of ≡ Ok tt → (seeds out : List ℕ) → Shortest M R set seeds
      → expand_list g masks stop (length specified) seeds out ≡ expanding M R (length set) seeds out
  unfolding expand_list
  expands_back w seeds out l = rw (list_formed w seeds l, expand_list, set-length w)

  list_back : verdict_of ≡ Ok tt → (seeds : List ℕ) → Shortest M R set seeds → Delivers set (expand_list g masks stop (length specified) seeds)
  list_back w seeds l =
      let d = list_delivers M R set l.ends seeds l.covers in
      record { slices = d.slices; accepted = λ out. expands_back w seeds out l ∙ d.accepted out; whole = d.whole; agree = d.agree }

  module _ (out : List ℕ) where
    pub set_well : verdict_of ≡ Ok tt → encode_set g masks stop specified bits out ≡ encoding M R set out
    unfolding encode_set
    set_well w = rw (w, encode_set)

    pub set_refused : (c : Cause) → verdict_of ≡ Err c → encode_set g masks stop specified bits out ≡ refuse c out
    unfolding encode_set
    set_refused c w = rw (w, encode_set)

    means : verdict_of ≡ Ok tt → Meaning M R set out (encode_set g masks stop specified bits out)
    means w = rw (set_well w) (encoding_means M R set out (λ s h. step_below g.cells g.taps s) (rules_steady g stop (length set)))

    front : (n : ℕ) (l : Listed M R set n) (buffer : List ℕ) → buffer ≡ l.seeds ++ drop n out → l.seeds ≡ take n buffer
    front n l buffer e = rw e (sym (take_at l.seeds (drop n out) n l.count))

    pub set_means : SetMeaning g masks stop specified bits out (encode_set g masks stop specified bits out)
    set_means = record {
      refused = set_refused;
      meaning = means;
      delivers = λ n w e. (let a = (means w).accepted n e in rw (sym (front n a.0 _ a.1)) (list_back w a.0.seeds a.0.shortest));
    }

    -- an outcome that is the definition's, with its meaning
    pub set_outcome : (answer : Result ℕ Cause) (buffer : List ℕ) → answer ≡ (encode_set g masks stop specified bits out).answer → buffer ≡ (encode_set g masks stop specified bits out).buffer
        → (answer ≡ (encode_set g masks stop specified bits out).answer)
        × ((buffer ≡ (encode_set g masks stop specified bits out).buffer) × SetMeaning g masks stop specified bits out (record { answer = answer; buffer = buffer }))
    set_outcome answer buffer e q = (e, (q, rw (e, q) set_means))
