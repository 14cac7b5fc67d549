-- A well-formed list delivers under inverted chains what it delivers without inversion under the flipped stop slice, turned at those chains (document 02, R-4).
--     inverted_list     the whole call
-- Assumes nothing.
use Rattle.std.specs.Prelude.{Ok, Option, Some, option_map}
use mathlib.Core.Path.{◌≡◌, refl, sym, ap, ap₂, subst, ◌∙◌}
use mathlib.Core.Bool.{Bool, true, false, ◌&&◌}
use mathlib.Core.List.{List, [], ◌∷◌, ◌++◌, map-append}
use Prim.Native.Nat.{ℕ, zero, suc, ◌+◌, ◌-◌}
use native.Mathlib.Omega.{arith}
use lib.Bits.{bit_xor, xor_zero_r}
use lib.Dec.{ltb, leb, eqb}
use lib.ListN.{length, take, drop, length-map}
use lib.Seq.{take_at}
use Rattle.refusal_causes.specs.declared.Cause.{Cause}
use Rattle.refusal_causes.specs.declared.Cause.TheVariants.{NoSpace, SeedBeyond, Total}
use Rattle.refusal_causes.specs.Outcome.{Outcome, refuse, fill}
use Rattle.machine_settings.specs.declared.Settings.{Settings}
use Rattle.machine_settings.specs.Machine.{Machine, machine}
use Rattle.machine_chains.specs.Chains.{slice}
use Rattle.machine_slices.specs.declared.TestSlice.{TestSlice}
use Rattle.machine_inversion.specs.Inversion.{flipped, upright}
use Rattle.refusal_order.specs.Order.{judged}
use Rattle.refusal_checks.specs.Calls.{list_faults}
use Rattle.theory_covering.specs.Rules.{Rules, rules}
use Rattle.theory_covering.specs.Inversion.{flipped_rules}
use Rattle.theory_covering.proofs.Inversion.{shows_inverted}
use Rattle.theory_covering.proofs.Upright.{list_upright}
use Rattle.expander_meaning.specs.Run.{slices_of, first_stop, Given, gives, fails, ending, delivers}
use Rattle.expander_meaning.specs.Expanding.{Walk, ran, failed, after, is_last, adding, walk, totalled, expanding, expand_list}
use Rattle.expander_meaning.specs.Inversion.{turned, InvertedList}

-- ---- what is turned

module _ (invert : ℕ) where
  unfoldable turned_walk : Walk → Walk
  turned_walk (ran vs) = ran (turned invert vs)
  turned_walk (failed c) = failed c

  turned-after : (vs : List ℕ) (w : Walk) → after (turned invert vs) (turned_walk w) ≡ turned_walk (after vs w)
  unfolding after turned_walk
  turned-after vs (ran ws) = ap ran (sym (map-append (λ (v : ℕ). bit_xor v invert) vs ws))
  turned-after vs (failed c) = refl

  -- the same answer, and what is written is turned
  record Turns (o p : Outcome) : Type 0 where
    answer : o.answer ≡ p.answer
    slices : (m : ℕ) → o.answer ≡ Ok m → take m o.buffer ≡ turned invert (take m p.buffer)

  refuse-turned : (c : Cause) (out : List ℕ) → Turns (refuse c out) (refuse c out)
  unfolding refuse
  refuse-turned c out = record { answer = refl; slices = λ m e. absurd (let z : ◌≡◌ {A = ℕ} 0 1 = cc in omega arith) }

  fill-turned : (vs out : List ℕ) → Turns (fill (turned invert vs) out) (fill vs out)
  unfolding fill
  fill-turned vs out = subst (λ (k : ℕ). Turns (full k (leb k (length out)) (turned invert vs)) (fill vs out)) (sym (length-map vs (λ (v : ℕ). bit_xor v invert))) (by (leb (length vs) (length out)))
    where
      full : ℕ → Bool → List ℕ → Outcome
      full k b xs = elim b [ true ↦ record { answer = Ok k; buffer = xs ++ drop k out } | false ↦ refuse (NoSpace k) out ]

      by : (b : Bool) → Turns (full (length vs) b (turned invert vs)) (full (length vs) b vs)
      by true = record {
        answer = refl;
        slices = λ m e.
            let c : length vs ≡ m = cc in
            take_at (turned invert vs) _ m (length-map vs (λ (v : ℕ). bit_xor v invert) ∙ c) ∙ sym (ap (turned invert) (take_at vs _ m c));
      }
      by false = refuse-turned (NoSpace (length vs)) out

  total-turned : (n : ℕ) (out : List ℕ) (w : Walk) → Turns (totalled n out (turned_walk w)) (totalled n out w)
  unfolding totalled turned_walk
  total-turned n out (failed c) = refuse-turned c out
  total-turned n out (ran vs) = subst (λ (k : ℕ). Turns (held k (eqb k n) (turned invert vs)) (totalled n out (ran vs))) (sym (length-map vs (λ (v : ℕ). bit_xor v invert))) (by (eqb (length vs) n))
    where
      held : ℕ → Bool → List ℕ → Outcome
      held k b xs = elim b [ true ↦ fill xs out | false ↦ refuse (Total k) out ]

      by : (b : Bool) → Turns (held (length vs) b (turned invert vs)) (held (length vs) b vs)
      by true = fill-turned vs out
      by false = refuse-turned (Total (length vs)) out

module _ (g : Settings) (masks : List ℕ) where
  abbrev M : Machine
  M = machine g masks

  abbrev N : Machine
  N = machine (upright g) masks

  slices_inverted : (m s : ℕ) → slices_of M m s ≡ turned g.invert (slices_of N m s)
  unfolding slices_of
  slices_inverted zero s = refl
  slices_inverted (suc m) s =
      ap₂ (λ (v : ℕ) (l : List ℕ). bit_xor v g.invert ∷ l) (sym (xor_zero_r (slice masks s))) (slices_inverted m (M.step s))

  module _ (stop : TestSlice) where
    stop_inverted : (d s : ℕ) → first_stop M stop d s ≡ first_stop N (flipped g.invert stop) d s
    unfolding first_stop
    stop_inverted zero s = refl
    stop_inverted (suc d) s =
        ap₂ (λ (b : Bool) (o : Option ℕ). elim b [ true ↦ Some 0 | false ↦ option_map suc o ]) (shows_inverted g masks stop s) (stop_inverted d (M.step s))

    delivers_inverted : (R : Rules) (place : ℕ) (last : Bool) (left s : ℕ) → delivers M R stop place last left s ≡ delivers N (flipped_rules g.invert R) (flipped g.invert stop) place last left s
    unfolding delivers
    delivers_inverted R place last left s =
        ap by (stop_inverted (suc R.limit) s)
      where
        by : Option ℕ → Given
        by o = elim (ltb s M.states) [ true ↦ ending place (last && leb left R.limit) left o | false ↦ fails (SeedBeyond place) ]

  given_inverted : (done s : ℕ) (v w : ℕ → Walk) → ((m : ℕ) → v m ≡ turned_walk g.invert (w m)) → (d : Given)
      → ◌≡◌ {A = Walk} (elim d [ fails c ↦ failed c | gives m ↦ adding M done s m (v m) ]) (turned_walk g.invert (elim d [ fails c ↦ failed c | gives m ↦ adding N done s m (w m) ]))
  unfolding adding turned_walk
  given_inverted done s v w e (fails c) = refl
  given_inverted done s v w e (gives zero) = refl
  given_inverted done s v w e (gives (suc m)) = ap₂ after (slices_inverted (suc m) s) (e (suc m)) ∙ turned-after g.invert (slices_of N (suc m) s) (w (suc m))

  module _ (R : Rules) (n : ℕ) where
    abbrev Q : Rules
    Q = flipped_rules g.invert R

    inverted_walk : (place done : ℕ) (seeds : List ℕ) → walk M R n place done seeds ≡ turned_walk g.invert (walk N (flipped_rules g.invert R) n place done seeds)
    unfolding walk turned_walk
    inverted_walk place done [] = refl
    inverted_walk place done (s ∷ ss) =
        ap by (delivers_inverted (R.live done) R place (R.open_end && is_last ss) (n - done) s)
        ∙ given_inverted done s (λ m. walk M R n (suc place) (done + m) ss) (λ m. walk N Q n (suc place) (done + m) ss) (λ m. inverted_walk (suc place) (done + m) ss) (delivers N Q (Q.live done) place (R.open_end && is_last ss) (n - done) s)
      where
        by : Given → Walk
        by d = elim d [ fails c ↦ failed c | gives m ↦ adding M done s m (walk M R n (suc place) (done + m) ss) ]

list_expands : (g : Settings) (masks : List ℕ) (stop : TestSlice) (n : ℕ) (seeds out : List ℕ) → judged (list_faults g masks stop n (length seeds)) ≡ Ok tt
    → expand_list g masks stop n seeds out ≡ totalled n out (walk (machine g masks) (rules g stop) n 0 0 seeds)
unfolding expand_list expanding
list_expands g masks stop n seeds out w = rw (w, expand_list)

module _ (g : Settings) (masks : List ℕ) (stop : TestSlice) (n : ℕ) (seeds out : List ℕ) (formed : judged (list_faults g masks stop n (length seeds)) ≡ Ok tt) where
  turns : Turns g.invert (expand_list g masks stop n seeds out) (expand_list (upright g) masks (flipped g.invert stop) n seeds out)
  turns = rw (list_expands g masks stop n seeds out formed, list_expands (upright g) masks (flipped g.invert stop) n seeds out (list_upright g masks stop n (length seeds) formed), inverted_walk g masks (rules g stop) n 0 0 seeds)
      (total-turned g.invert n out (walk (machine (upright g) masks) (rules (upright g) (flipped g.invert stop)) n 0 0 seeds))

  pub inverted_list : InvertedList g masks stop n seeds out
  inverted_list = record { answer = turns.answer; slices = turns.slices }
