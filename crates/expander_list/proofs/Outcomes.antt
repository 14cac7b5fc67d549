-- The outcome of expanding, by what the walk over the seeds delivers.
--     found_refused, found-other, found_short     the cause of a seed, 14, 9: every entry of the buffer is as it was
--     Found, found                                the slices that the seeds deliver
--     found-whole                                 they are written
--     call_refused, call-formed                   the whole call, by its checks
--     call_unmade                                 with a register that the constructor refuses
--     call_sized, few_seeds                       a well-formed call fits words, and has at most 2,048 seeds
-- Assumes nothing.
use Rattle.std.specs.Prelude.{Err, Ok, Result}
use mathlib.Core.Path.{◌≡◌, refl, sym, ap, ◌∙◌}
use mathlib.Core.Bool.{Bool, true, false}
use mathlib.Core.List.{List, ◌++◌}
use Prim.Native.Nat.{ℕ, ◌+◌, ◌≤◌, ◌<◌}
use native.Mathlib.Omega.{arith}
use lib.ListN.{length, drop}
use lib.Dec.{eqb}
use lib.Seq.{sets, sets-eq}
use borrow.Author.Tests.{eq-eqb, ne_eqb}
use Rattle.refusal_causes.specs.declared.Cause.{Cause}
use Rattle.refusal_causes.specs.declared.Cause.TheVariants as cause
use Rattle.refusal_causes.specs.declared.Cause.TheVariants.{NoSpace, Total}
use Rattle.refusal_causes.specs.Outcome.{refuse, fill}
use Rattle.refusal_causes.proofs.Outcome.{fill-whole, fill_short}
use Rattle.machine_settings.specs.declared.Settings.{Settings}
use Rattle.machine_settings.specs.Machine.{Machine, machine}
use Rattle.machine_register.specs.Register.{made_of}
use Rattle.machine_register.proofs.Causes.{cells_within}
use Rattle.machine_register.proofs.Making.{made_refused}
use Rattle.machine_slices.specs.declared.TestSlice.{TestSlice}
use Rattle.machine_slices.specs.Slices.{bad_stop}
use Rattle.refusal_order.specs.Order.{tests, judged}
use Rattle.refusal_order.proofs.Order.{first_here}
use Rattle.refusal_checks.specs.Calls.{call_faults, list_faults}
use Rattle.refusal_lengths.specs.Lengths.{bad_list}
use Rattle.refusal_lengths.proofs.Lengths.{list_within}
use Rattle.refusal_checks.proofs.Formed.{CallFormed, list_formed}
use Rattle.theory_covering.specs.Rules.{Rules, rules}
use Rattle.expander_meaning.specs.Expanding.{Walk, ran, failed, walk, totalled, expanding, expand_list}
use Rattle.expander_meaning.specs.Sized.{Sized}
use Rattle.expander_total.specs.Tally.{tally}

module _ (M : Machine) (R : Rules) (n : ℕ) (seeds out : List ℕ) where
  abbrev walked : Walk
  walked = walk M R n 0 0 seeds

  pub found_refused : (c : Cause) → tally 0 walked ≡ Err c → expanding M R n seeds out ≡ refuse c out
  unfolding expanding totalled tally
  found_refused c e = go walked e
    where
      go : (w : Walk) → tally 0 w ≡ Err c → totalled n out w ≡ refuse c out
      go (ran vs) e = absurd (let z : ◌≡◌ {A = ℕ} 0 1 = cc in omega arith)
      go (failed d) e = let same : d ≡ c = cc in rw same

  pub record Found (t : ℕ) : Type 0 where
    pub slices : List ℕ
    pub walks : walk M R n 0 0 seeds ≡ ran slices
    pub count : length slices ≡ t

  pub found : (t : ℕ) → tally 0 walked ≡ Ok t → Found t
  unfolding tally
  found t e = go walked refl e
    where
      go : (w : Walk) → walk M R n 0 0 seeds ≡ w → tally 0 w ≡ Ok t → Found t
      go (ran vs) f e = record { slices = vs; walks = f; count = (let same : 0 + length vs ≡ t = cc in omega arith) }
      go (failed d) f e = absurd (let z : ◌≡◌ {A = ℕ} 0 1 = cc in omega arith)

  module _ (t : ℕ) (f : Found t) where
    abbrev vs : List ℕ
    vs = f.slices

    by_length : (b : Bool) → eqb (length vs) n ≡ b → expanding M R n seeds out ≡ elim b [ true ↦ fill vs out | false ↦ refuse (Total (length vs)) out ]
    unfolding expanding totalled
    by_length b e = rw (f.walks, totalled, e)

    pub found-other : (t ≡ n → ⊥) → expanding M R n seeds out ≡ refuse (Total t) out
    found-other h = by_length false (ne_eqb (length vs) n (λ e. h (sym f.count ∙ e))) ∙ ap (λ (k : ℕ). refuse (Total k) out) f.count

    module _ (same : t ≡ n) where
      filled : expanding M R n seeds out ≡ fill vs out
      filled = by_length true (eq-eqb (length vs) n (f.count ∙ same))

      pub found_short : length out < t → expanding M R n seeds out ≡ refuse (NoSpace t) out
      found_short l = filled ∙ fill_short vs out t f.count l

      pub found-whole : t ≤ length out → expanding M R n seeds out ≡ record { answer = Ok t; buffer = sets out 0 vs }
      found-whole l =
          let z : 0 + length vs ≡ t = omega (arith, f.count) in
          let e : sets out 0 vs ≡ vs ++ drop t out = sets-eq vs out 0 (omega (arith, f.count)) ∙ rw z in
          filled ∙ fill-whole vs out t f.count l ∙ ap (λ (b : List ℕ). record { answer = Ok t; buffer = b }) (sym e)

module _ (g : Settings) (masks : List ℕ) (stop : TestSlice) (n : ℕ) (seeds out : List ℕ) where
  abbrev verdict_of : Result (Unit {0}) Cause
  verdict_of = judged (list_faults g masks stop n (length seeds))

  pub call_refused : (c : Cause) → verdict_of ≡ Err c → expand_list g masks stop n seeds out ≡ refuse c out
  unfolding expand_list
  call_refused c e = rw (e, expand_list)

  pub call_unmade : (c : Cause) → made_of g.cells g.taps ≡ Err c → expand_list g masks stop n seeds out ≡ refuse c out
  unfolding judged tests list_faults call_faults
  call_unmade c e =
      let m = made_refused g.cells g.taps c e in
      rw m.1 (call_refused cause.Register (first_here _ _ m.0))

  module _ (w : verdict_of ≡ Ok tt) where
    pub call-formed : expand_list g masks stop n seeds out ≡ expanding (machine g masks) (rules g stop) n seeds out
    unfolding expand_list
    call-formed = rw (w, expand_list)

    formed : CallFormed g masks (bad_list n (length seeds)) false (bad_stop (length masks) stop)
    formed = list_formed g masks stop n (length seeds) w

    pub call_sized : Sized g masks
    call_sized = record { cells = (cells_within g.cells g.taps formed.register).1; limit = formed.most; chains = formed.few }

    pub few_seeds : length seeds ≤ 2048
    few_seeds = (list_within n (length seeds) formed.lengths).1
