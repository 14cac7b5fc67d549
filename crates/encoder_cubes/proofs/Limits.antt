-- A larger limit never needs more seeds for cubes either (document 02, R-3): the stop slice does not ask for the limit, and with it they are a set.
--     stopped_worse     an answer that is no worse is no worse with the stop slice
--     larger_cubes      of the whole call
-- Assumes nothing.
use Rattle.encoder_meaning.specs.Encoding.{seeds_with}
use Rattle.std.specs.Prelude.{Err, Ok, Result, Some}
use mathlib.Core.Path.{◌≡◌, refl, sym, ap, ◌∙◌}
use mathlib.Core.Logic.{inl, inr}
use mathlib.Core.List.{List}
use Prim.Native.Nat.{ℕ}
use native.Mathlib.Omega.{arith}
use lib.ListN.{length}
use Rattle.refusal_causes.specs.declared.Cause.{Cause}
use Rattle.machine_settings.specs.declared.Settings.{Settings}
use Rattle.machine_slices.specs.declared.TestSlice.{TestSlice}
use Rattle.machine_slices.specs.Slices.{paired}
use Rattle.refusal_order.specs.Order.{judged}
use Rattle.refusal_checks.specs.Calls.{cubes_faults}
use Rattle.stop_steps.specs.Steps.{stop_for}
use Rattle.encoder_meaning.specs.Limits.{Needs, NoWorse, with_limit, Larger}
use Rattle.encoder_meaning.proofs.Limits.{same_answer, larger_faults, larger_rules}
use Rattle.encoder_cubes.specs.Cubes.{CubesOutcome, stopped, with_stop, encode_cubes}
use Rattle.encoder_meaning.specs.declared.Encoded.{Encoded}
use Rattle.encoder_cubes.specs.Limits.{LargerCubes}
use Rattle.encoder_cubes.proofs.Cubes.{cubes_refused, cubes_well, cubes_stopped}
use Rattle.refusal_causes.specs.declared.Cause.TheVariants as cause

module _ (stop : TestSlice) where
  -- an answer is read back from behind its stop slice
  counted : (w : Result ℕ Cause) (n : ℕ) → stopped stop w ≡ seeds_with stop n → w ≡ Ok n
  unfolding stopped
  counted (Ok m) n e =
      let p : ◌≡◌ {A = Encoded} (record { stop = stop; seeds = m }) (record { stop = stop; seeds = n }) = cc in
      ap (λ (l : Encoded). Ok l.seeds) p
  counted (Err c) n e = absurd (let z : ◌≡◌ {A = ℕ} 0 1 = cc in omega arith)

  refused : (w : Result ℕ Cause) (c : Cause) → stopped stop w ≡ Err c → w ≡ Err c
  unfolding stopped
  refused (Ok m) c e = absurd (let z : ◌≡◌ {A = ℕ} 0 1 = cc in omega arith)
  refused (Err d) c e = let q : d ≡ c = cc in ap Err q

  module _ (small large : Result ℕ Cause) (w : NoWorse Ok Err small large) where
    behind : (n : ℕ) → Needs Ok Err large n → Needs (seeds_with stop) Err (stopped stop large) n
    unfolding stopped
    behind n (inl e) = inl (ap (stopped stop) e)
    behind n (inr e) = inr (ap (stopped stop) e)

    before : (m : ℕ) → Needs (seeds_with stop) Err (stopped stop small) m → Needs Ok Err small m
    before m (inl e) = inl (counted small m e)
    before m (inr e) = inr (refused small (cause.NoSpace m) e)

    stopped_worse : NoWorse (seeds_with stop) Err (stopped stop small) (stopped stop large)
    unfolding stopped
    stopped_worse = record {
      needs = λ m h. (let r = w.needs m (before m h) in (r.0, behind r.0 r.1, r.2));
      accepted = λ m e. (let r = w.accepted m (counted small m e) in (r.0, ap (stopped stop) r.1, r.2));
      uncut = λ h e. (let r = w.uncut h (refused large (cause.NoCutting h) e) in (r.0, ap (stopped stop) r.1, r.2));
    }

module _ (g : Settings) (limit : ℕ) (h : Larger g limit) (masks : List ℕ) (depth : ℕ) (specified bits out : List ℕ) where
  judged-same : (v : Result (Unit {0}) Cause) → judged (cubes_faults g masks depth specified bits) ≡ v → judged (cubes_faults (with_limit limit g) masks depth specified bits) ≡ v
  unfolding cubes_faults
  judged-same v e = ap judged (larger_faults g limit h masks _ _ _) ∙ e

  by_verdict : (stop : TestSlice) → stop_for (length masks) (paired specified bits) ≡ Some stop → (v : Result (Unit {0}) Cause) → judged (cubes_faults g masks depth specified bits) ≡ v
      → NoWorse (seeds_with stop) Err (encode_cubes g masks depth specified bits out).answer (encode_cubes (with_limit limit g) masks depth specified bits out).answer
  unfolding with_stop
  by_verdict stop s (Err c) e =
      let same = cubes_refused g masks specified bits out depth c e ∙ sym (cubes_refused (with_limit limit g) masks specified bits out depth c (judged-same _ e)) in
      same_answer (seeds_with stop) Err _ _ (ap (λ (o : CubesOutcome). o.answer) same)
  by_verdict stop s (Ok tt) e =
      let a = cubes_well g masks specified bits out depth e ∙ cubes_stopped g masks specified bits out stop s in
      let b = cubes_well (with_limit limit g) masks specified bits out depth (judged-same _ e) ∙ cubes_stopped (with_limit limit g) masks specified bits out stop s in
      rw (a, b) (stopped_worse stop _ _ (larger_rules g limit h masks stop (paired specified bits) out))

pub larger_cubes : (g : Settings) (masks : List ℕ) (depth : ℕ) (specified bits out : List ℕ) → LargerCubes g masks depth specified bits out
larger_cubes g masks depth specified bits out limit h stop s = by_verdict g limit h masks depth specified bits out stop s (judged (cubes_faults g masks depth specified bits)) refl
