-- A larger limit never needs more seeds, and what can be cut with a limit can be cut with a larger one (document 02, R-3): every window is still one, so a shortest list of the small limit is a list of the large one.
--     encoding-room       an accepted list has space
--     larger_limit        of a set, under any rules
--     larger_encoding     of its encodings in the same space, under any rules whose stop is steady between edges
--     same_answer         an answer is no worse than itself
--     larger_faults       causes 1 to 5 do not tell two limits of 1 to 256 apart
--     larger_rules        the encodings of a set under its rules
--     larger_set          of the whole call with the stop slice handed in
-- Assumes nothing.
use Rattle.std.specs.Prelude.{Err, Ok, Result}
use mathlib.Core.Path.{◌≡◌, refl, sym, ap, ◌∙◌}
use mathlib.Core.Logic.{◌⊎◌, inl, inr, ⊎_elim}
use mathlib.Core.Bool.{Bool, false}
use mathlib.Core.List.{List}
use Prim.Native.Nat.{ℕ, ◌≤◌, ◌<◌}
use native.Mathlib.Omega.{arith}
use lib.ListN.{length}
use Rattle.words_bounded.proofs.Tests.{within_holds}
use Rattle.refusal_causes.specs.declared.Cause.{Cause}
use Rattle.refusal_causes.specs.Outcome.{Outcome, refuse}
use Rattle.refusal_causes.proofs.Outcome.{fill_cases}
use Rattle.refusal_lengths.specs.Lengths.{most_limit, bad_limit}
use Rattle.machine_settings.specs.declared.Settings.{Settings}
use Rattle.machine_settings.specs.Machine.{Machine, machine, bad_chains_of}
use Rattle.machine_register.proofs.Steps.{step_below}
use Rattle.machine_slices.specs.declared.TestSlice.{TestSlice}
use Rattle.machine_slices.specs.Slices.{paired}
use Rattle.refusal_order.specs.Order.{judged}
use Rattle.refusal_checks.specs.Calls.{call_faults, set_faults}
use Rattle.refusal_checks.proofs.Formed.{limit_good}
use Rattle.theory_cutting.specs.Cutting.{Cutting, Covering}
use Rattle.theory_cutting.specs.Greedy.{Plan, done, stuck, greedy}
use Rattle.theory_cutting.proofs.Parts.{cutting_map, covering_map, covering_cutting}
use Rattle.theory_covering.specs.Rules.{Rules, Raised, rules}
use Rattle.theory_covering.specs.Windows.{CoveredBy, Window, ok, Steady}
use Rattle.theory_covering.proofs.Windows.{rules_steady}
use Rattle.theory_covering.proofs.Limits.{covered_larger, window_larger, steady_larger}
use Rattle.encoder_meaning.specs.Encoding.{seeds_of, planned, encoding, encode_set}
use Rattle.encoder_meaning.specs.Meaning.{Listed, Meaning}
use Rattle.encoder_meaning.specs.Limits.{LargerLimit, Needs, NoWorse, with_limit, Larger, LargerSet}
use Rattle.encoder_meaning.proofs.Meaning.{encoding_means}
use Rattle.encoder_meaning.proofs.Calls.{set_refused, set_well}
use Rattle.refusal_causes.specs.declared.Cause.TheVariants as cause

module _ (M : Machine) (R : Rules) (set : List TestSlice) (out : List ℕ) (m : ℕ) where
  planned-room : (p : Plan) → (planned M R set out p).answer ≡ Ok m → m ≤ length out
  unfolding planned refuse
  planned-room (stuck g) e = absurd (let z : ◌≡◌ {A = ℕ} 0 1 = cc in omega arith)
  planned-room (done es) e = ⊎_elim
      (λ f. let a = f.answer in let c : length (seeds_of M R set 0 es) ≡ m = cc in omega (arith, f.room))
      (λ f. absurd (let a = f.answer in let z : ◌≡◌ {A = ℕ} 0 1 = cc in omega arith))
      (fill_cases (seeds_of M R set 0 es) out)

  encoding-room : (encoding M R set out).answer ≡ Ok m → m ≤ length out
  unfolding encoding
  encoding-room e = planned-room (greedy (ok M R set) (length set)) e

module _ (M : Machine) (small large : Rules) (set : List TestSlice) (r : Raised small large) where
  pub larger_limit : LargerLimit M small large set
  larger_limit = record {
    cut = λ b es c. cut c;
    covers = λ b es ss c. covers c;
    fewer = λ m n l k. omega (arith, l.count, k.count, k.shortest.shortest l.shortest.ends l.seeds (covers l.shortest.covers));
    farther = λ g h u v. v.longest g u.upto (cut u.cuts);
  }
    where
      cut : {b : ℕ} {es : List ℕ} → Cutting (Window M small set) 0 es b → Cutting (Window M large set) 0 es b
      cut c = cutting_map (Window M small set) (Window M large set) (window_larger small large r M set) c

      covers : {b : ℕ} {es ss : List ℕ} → Covering (CoveredBy M small set) 0 es ss b → Covering (CoveredBy M large set) 0 es ss b
      covers c = covering_map (CoveredBy M small set) (CoveredBy M large set) (covered_larger small large r M set) c

  module _ (out : List ℕ) (o p : Outcome) (a : Meaning M small set out o) (b : Meaning M large set out p) where
    -- what the small limit lists, the large one lists with no more seeds
    lists : (m : ℕ) → Listed M small set m → (n : ℕ) × Needs Ok Err p.answer n × (n ≤ m)
    lists m l = go b.answered
      where
        go : ((n : ℕ) × (p.answer ≡ Ok n)) ⊎ (((g : ℕ) × (p.answer ≡ Err (cause.NoCutting g))) ⊎ ((n : ℕ) × (p.answer ≡ Err (cause.NoSpace n))))
            → (n : ℕ) × Needs Ok Err p.answer n × (n ≤ m)
        go (inl (n, e)) = (n, inl e, larger_limit.fewer m n l (b.accepted n e).0)
        go (inr (inl (g, e))) = absurd (b.exactly.0 (g, e) l.shortest.ends (covering_cutting (CoveredBy M large set) (larger_limit.covers (length set) _ _ l.shortest.covers)))
        go (inr (inr (n, e))) = (n, inr e, larger_limit.fewer m n l (b.no_space n e).0)

    needed : (m : ℕ) → Needs Ok Err o.answer m → Listed M small set m
    needed m (inl e) = (a.accepted m e).0
    needed m (inr e) = (a.no_space m e).0

    uncut : (h : ℕ) → p.answer ≡ Err (cause.NoCutting h) → (g : ℕ) × (o.answer ≡ Err (cause.NoCutting g)) × (g ≤ h)
    uncut h e =
        let s = a.exactly.1 (λ es c. b.exactly.0 (h, e) es (larger_limit.cut (length set) es c)) in
        (s.0, s.1, larger_limit.farther s.0 h (a.uncut s.0 s.1).0 (b.uncut h e).0)

    accepted : (m : ℕ) → m ≤ length out → o.answer ≡ Ok m → (n : ℕ) × (p.answer ≡ Ok n) × (n ≤ m)
    accepted m room e = go (lists m (a.accepted m e).0)
      where
        go : (n : ℕ) × Needs Ok Err p.answer n × (n ≤ m) → (n : ℕ) × (p.answer ≡ Ok n) × (n ≤ m)
        go (n, inl f, le) = (n, f, le)
        go (n, inr f, le) = absurd (let s = (b.no_space n f).1 in omega arith)

  pub larger_encoding : ((s : ℕ) → s < M.states → M.step s < M.states) → Steady large (length set) → (out : List ℕ)
      → NoWorse Ok Err (encoding M small set out).answer (encoding M large set out).answer
  larger_encoding stays steady out =
      let a = encoding_means M small set out stays (steady_larger small large r (length set) steady) in
      let b = encoding_means M large set out stays steady in
      record {
        needs = λ m h. lists out _ _ a b m (needed out _ _ a b m h);
        accepted = λ m e. accepted out _ _ a b m (encoding-room M small set out m e) e;
        uncut = uncut out _ _ a b;
      }

pub same_answer : {A : Type 0} (count : ℕ → A) (refused : Cause → A) (r s : A) → r ≡ s → NoWorse count refused r s
same_answer count refused r s e = rw e (record { needs = λ m h. (m, h, omega arith); accepted = λ m h. (m, h, omega arith); uncut = λ h u. (h, u, omega arith) })

limit_fine : (limit : ℕ) → 1 ≤ limit → limit ≤ most_limit → bad_limit limit ≡ false
unfolding bad_limit
limit_fine limit l m = rw (within_holds 1 most_limit limit l m)

module _ (g : Settings) (limit : ℕ) (h : Larger g limit) (masks : List ℕ) where
  pub larger_faults : (l s t : Bool) → call_faults (with_limit limit g) masks l s t ≡ call_faults g masks l s t
  unfolding call_faults bad_chains_of
  larger_faults l s t =
      let a = limit_fine g.limit h.least (omega (arith, h.larger, h.most)) in
      let b = limit_fine limit (omega (arith, h.least, h.larger)) h.most in
      rw (limit_good g l a, limit_good (with_limit limit g) l b)

  pub larger_rules : (stop : TestSlice) (set : List TestSlice) (out : List ℕ)
      → NoWorse Ok Err (encoding (machine g masks) (rules g stop) set out).answer (encoding (machine (with_limit limit g) masks) (rules (with_limit limit g) stop) set out).answer
  larger_rules stop set out =
      let raised : Raised (rules g stop) (rules (with_limit limit g) stop) = record { limit = h.larger; edges = refl; live = λ i. refl; open_end = refl } in
      larger_encoding (machine g masks) _ _ set raised (λ s l. step_below g.cells g.taps s) (rules_steady (with_limit limit g) stop (length set)) out

  module _ (stop : TestSlice) (specified bits out : List ℕ) where
    judged-same : (v : Result (Unit {0}) Cause) → judged (set_faults g masks stop specified bits) ≡ v → judged (set_faults (with_limit limit g) masks stop specified bits) ≡ v
    unfolding set_faults
    judged-same v e = ap judged (larger_faults _ _ _) ∙ e

    by_verdict : (v : Result (Unit {0}) Cause) → judged (set_faults g masks stop specified bits) ≡ v
        → NoWorse Ok Err (encode_set g masks stop specified bits out).answer (encode_set (with_limit limit g) masks stop specified bits out).answer
    by_verdict (Err c) e =
        let same = set_refused g masks stop specified bits out c e ∙ sym (set_refused (with_limit limit g) masks stop specified bits out c (judged-same _ e)) in
        same_answer Ok Err _ _ (ap (λ (o : Outcome). o.answer) same)
    by_verdict (Ok tt) e =
        rw (set_well g masks stop specified bits out e, set_well (with_limit limit g) masks stop specified bits out (judged-same _ e)) (larger_rules stop (paired specified bits) out)

pub larger_set : (g : Settings) (masks : List ℕ) (stop : TestSlice) (specified bits out : List ℕ) → LargerSet g masks stop specified bits out
larger_set g masks stop specified bits out limit h = by_verdict g limit h masks stop specified bits out (judged (set_faults g masks stop specified bits)) refl
