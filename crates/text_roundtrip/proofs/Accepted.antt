-- What an accepted encoding of cubes gives (`encode_cubes`): its seeds, which are words, and that expanding them delivers the set.
--     Accepted ..        that of an answer with the stop slice and so many seeds
--     cubes_accepted     an answer that is accepted gives it
-- Assumes nothing.
use Rattle.encoder_meaning.specs.declared.Encoded.{Encoded}
use Rattle.encoder_meaning.specs.Encoding.{seeds_with}
use Rattle.std.specs.Prelude.{Err, None, Ok, Option, Result, Some}
use mathlib.Core.Bool.{false}
use mathlib.Core.Path.{◌≡◌, refl, sym, ap, ◌∙◌}
use mathlib.Core.List.{List, ◌++◌}
use Prim.Native.Nat.{ℕ, ◌≤◌, ◌^◌}
use native.Mathlib.Nat.{le_trans}
use native.Mathlib.Omega.{arith}
use lib.ListN.{length, take, drop}
use lib.Pow.{pow_mono}
use lib.Seq.{take-append_seam}
use Rattle.words_bounded.specs.Bounded.{any}
use Rattle.words_gf2.specs.Words.{beyond}
use Rattle.words_gf2.proofs.Digits.{beyond_no}
use Rattle.refusal_causes.specs.declared.Cause.{Cause}
use Rattle.refusal_causes.specs.Outcome.{Outcome}
use Rattle.machine_settings.specs.declared.Settings.{Settings}
use Rattle.machine_register.proofs.Causes.{cells_within}
use Rattle.machine_settings.specs.Machine.{Machine, machine}
use Rattle.machine_slices.specs.declared.TestSlice.{TestSlice}
use Rattle.machine_slices.specs.Slices.{paired}
use Rattle.refusal_order.specs.Order.{judged}
use Rattle.refusal_checks.specs.Calls.{set_faults, cubes_faults}
use Rattle.refusal_checks.proofs.Formed.{set-formed}
use Rattle.theory_cutting.specs.Cutting.{Covering, without_state, state}
use Rattle.stop_steps.specs.Steps.{stop_for}
use Rattle.theory_covering.specs.Rules.{Rules, rules}
use Rattle.theory_covering.specs.Windows.{CoveredBy}
use Rattle.expander_meaning.specs.Expanding.{expand_list}
use Rattle.encoder_cubes.specs.Cubes.{CubesOutcome, stopped, with_stop, encode_cubes}
use Rattle.encoder_meaning.specs.Meaning.{Delivers, Shortest, SetMeaning}
use Rattle.encoder_cubes.specs.Meaning.{StoppedMeaning}
use Rattle.encoder_cubes.proofs.Cubes.{cubes_means}

-- Refused is no list.
refused_seeds : (c : Cause) (stop : TestSlice) (n : ℕ) → Err c ≡ seeds_with stop n → ⊥
refused_seeds c stop n e = let z : ◌≡◌ {A = ℕ} 0 1 = cc in omega arith

-- A list with its stop slice is that of the call with the stop slice handed in.
stopped-seeds : (st stop : TestSlice) (n : ℕ) (w : Result ℕ Cause) → stopped st w ≡ seeds_with stop n → (st ≡ stop) × (w ≡ Ok n)
unfolding stopped
stopped-seeds st stop n (Ok k) e =
    let p : ◌≡◌ {A = Encoded} (record { stop = st; seeds = k }) (record { stop = stop; seeds = n }) = cc in
    (ap (λ (l : Encoded). l.stop) p, ap (λ (l : Encoded). Ok l.seeds) p)
stopped-seeds st stop n (Err c) e = absurd (refused_seeds c stop n e)

-- The states of a covering list are words.
covering_words : (M : Machine) (R : Rules) (set : List TestSlice) → M.states ≤ 2 ^ 64 → {a b : ℕ} {es ss : List ℕ} → Covering (CoveredBy M R set) a es ss b → any (beyond 64) ss ≡ false
unfolding any
covering_words M R set h without_state = refl
covering_words M R set h (state {s = s} c w) = rw (beyond_no 64 s (le_trans c.below h)) (covering_words M R set h w)

pub record Accepted (g : Settings) (masks specified bits out : List ℕ) (stop : TestSlice) (n : ℕ) (buffer : List ℕ) : Type 0 where
  pub formed : judged (set_faults g masks stop specified bits) ≡ Ok tt
  pub stopped : stop_for (length masks) (paired specified bits) ≡ Some stop
  pub shortest : Shortest (machine g masks) (rules g stop) (paired specified bits) (take n buffer)
  pub count : length (take n buffer) ≡ n
  pub words : any (beyond 64) (take n buffer) ≡ false
  pub delivers : Delivers (paired specified bits) (expand_list g masks stop (length specified) (take n buffer))

module _ (g : Settings) (masks : List ℕ) (depth : ℕ) (ps bs out : List ℕ) where
  abbrev o : CubesOutcome
  o = encode_cubes g masks depth ps bs out

  -- By the call with the stop slice handed in.
  handed_accepted : (stop : TestSlice) (n : ℕ) (h : Outcome) → stop_for (length masks) (paired ps bs) ≡ Some stop → judged (set_faults g masks stop ps bs) ≡ Ok tt → SetMeaning g masks stop ps bs out h → h.answer ≡ Ok n → Accepted g masks ps bs out stop n h.buffer
  handed_accepted stop n h z f m e =
      let l = ((m.meaning f).accepted n e).0 in
      let t : take n h.buffer ≡ l.seeds = ap (take n) ((m.meaning f).accepted n e).1 ∙ ap (λ k. take k (l.seeds ++ drop n out)) (sym l.count) ∙ take-append_seam l.seeds (drop n out) in
      record {
        formed = f;
        stopped = z;
        shortest = rw t l.shortest;
        count = ap length t ∙ l.count;
        words = ap (any (beyond 64)) t ∙ covering_words (machine g masks) (rules g stop) (paired ps bs) (pow_mono {i = g.cells} {j = 64} (cells_within g.cells g.taps (set-formed g masks stop ps bs f).register).1) l.shortest.covers;
        delivers = m.delivers n f e;
      }

  stopped_accepted : (st stop : TestSlice) (n : ℕ) → stop_for (length masks) (paired ps bs) ≡ Some st → StoppedMeaning g masks ps bs out st o → o.answer ≡ seeds_with stop n → Accepted g masks ps bs out stop n o.buffer
  unfolding with_stop
  stopped_accepted st stop n z m e =
      let q = stopped-seeds st stop n m.handed.answer (sym (ap (λ (x : CubesOutcome). x.answer) m.outcome) ∙ e) in
      rw (ap (λ (x : CubesOutcome). x.buffer) m.outcome, ← q.0) (handed_accepted st n m.handed z m.formed m.meaning q.1)

  pub cubes_accepted : (stop : TestSlice) (n : ℕ) → o.answer ≡ seeds_with stop n → Accepted g masks ps bs out stop n o.buffer
  cubes_accepted stop n e = by_verdict (judged (cubes_faults g masks depth ps bs)) refl
    where
      by_stop : judged (cubes_faults g masks depth ps bs) ≡ Ok tt → (s : Option TestSlice) → stop_for (length masks) (paired ps bs) ≡ s → Accepted g masks ps bs out stop n o.buffer
      by_stop w None q = absurd (refused_seeds _ stop n (sym (ap (λ (x : CubesOutcome). x.answer) ((cubes_means g masks ps bs out depth).unstopped w q).0) ∙ e))
      by_stop w (Some st) q = stopped_accepted st stop n q ((cubes_means g masks ps bs out depth).stopped w st q) e

      by_verdict : (v : Result (Unit {0}) Cause) → judged (cubes_faults g masks depth ps bs) ≡ v → Accepted g masks ps bs out stop n o.buffer
      by_verdict (Err c) w = absurd (refused_seeds c stop n (sym (ap (λ (x : CubesOutcome). x.answer) ((cubes_means g masks ps bs out depth).refused c w)) ∙ e))
      by_verdict (Ok tt) w = by_stop w (stop_for (length masks) (paired ps bs)) refl
