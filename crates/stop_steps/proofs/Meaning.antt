-- What the stop slice of a set is good for, where the steps end with slices in, and what refusal 6 says.
--     steps_means    of the stop slice that the steps give
--     left_in        where they give none
--     decided, spared     the stop slice of a set is that of the steps, or else the spare pattern
--     Lawful chains set   a set of well-formed slices, with a slice and a chain
--     stop_means     of the stop slice of a set
--     six_means      where it has none
--     RuleMeaning chains set answer     of the rule for a stop slice: the steps decide or else the spare pattern, a stop slice is good, and there is none exactly where none is good
--     rule_means     so the rule is
-- Assumes nothing.
use Rattle.std.specs.Prelude.{None, Option, Some}
use mathlib.Core.Path.{◌≡◌, refl, sym, ◌∙◌}
use mathlib.Core.Logic.{◌↔◌, inl, inr, ⊎_elim}
use mathlib.Core.Bool.{Bool, true, false}
use mathlib.Core.List.{List, [], ◌∷◌}
use Prim.Native.Nat.{ℕ, ◌<◌}
use native.Mathlib.Omega.{arith}
use lib.Bits.{and_le_r}
use lib.ListN.{length, get_or}
use borrow.Author.Tests.{eqb-true, eq-eqb}
use Rattle.words_bounded.specs.Bounded.{any}
use Rattle.words_bounded.proofs.Tests.{clash, lt_or_le}
use Rattle.words_gf2.specs.Words.{digit}
use Rattle.words_gf2.proofs.Digits.{digit_wide, beyond_no}
use Rattle.words_gf2.proofs.Ones.{ones_full}
use Rattle.machine_slices.specs.declared.TestSlice.{TestSlice}
use Rattle.machine_slices.specs.Slices.{bad_slice}
use Rattle.machine_slices.proofs.Causes.{slice-last, stop-formed}
use Rattle.stop_spare.specs.Spare.{spare_stop}
use Rattle.stop_spare.proofs.Search.{spared as spared-is, all_taken}
use Rattle.stop_steps.specs.Steps.{is_set, is_empty, Stage, stage, ended, steps, stop_for}
use Rattle.stop_steps.specs.Lookup.{is_in}
use Rattle.stop_steps.specs.Meaning.{AllSet, StopMeaning, NoneGood, LeftIn, SixMeaning}
use Rattle.stop_steps.proofs.Filter.{filter_empty}
use Rattle.stop_steps.proofs.Lookup.{each_in}
use Rattle.stop_steps.proofs.Stages.{Sound, Progress, stage_sound, stage_progress}
use Rattle.stop_steps.proofs.Halving.{stage_halved, left_few}
use Rattle.stop_steps.proofs.Spare.{spare_good, taken-none_good}

pub record Lawful (chains : ℕ) (set : List TestSlice) : Type 0 where
  pub some_chain : 0 < chains
  pub some_slice : 0 < length set
  pub formed : any (bad_slice chains) set ≡ false

pub record RuleMeaning (chains : ℕ) (set : List TestSlice) (answer : Option TestSlice) : Type 0 where
  pub decided : (stop : TestSlice) → steps chains set ≡ Some stop → answer ≡ Some stop
  pub spared : steps chains set ≡ None → LeftIn chains set × (answer ≡ spare_stop chains set)
  pub good : (stop : TestSlice) → answer ≡ Some stop → StopMeaning chains set stop
  pub six : answer ≡ None → SixMeaning chains set
  pub exactly : (answer ≡ None) ↔ NoneGood chains set

module _ (chains : ℕ) (set : List TestSlice) where
  module _ (some_slice : 0 < length set) (g : Stage) (s : Sound chains set g) (empty : g.left ≡ []) where
    none_in : (i : ℕ) (d : TestSlice) → i < length set → is_in g.stop (get_or set i d) ≡ false
    none_in i d h = filter_empty (is_in g.stop) set (s.in_left ∙ empty) i d h

    -- a stop slice with no position set would have every slice in
    some_set : g.stop.specified ≡ 0 → ⊥
    some_set z =
        let d = g.stop in
        clash (is_in d (get_or set 0 d)) (each_in d (get_or set 0 d) s.specified (λ p set_there. absurd (unset p set_there))) (none_in 0 d some_slice)
      where
        unset : (p : ℕ) → is_set p g.stop ≡ true → ⊥
        unset p t = omega (arith, eqb-true (digit g.stop.specified p) 1 t, digit_wide 0 g.stop.specified p (omega arith) (omega arith))

    means : StopMeaning chains set g.stop
    means = record {
      formed = stop-formed chains g.stop some_set ∙ slice-last chains g.stop s.specified (beyond_no chains _ s.below) ∙ beyond_no chains _ (omega (arith, and_le_r g.stop.bits g.stop.specified, s.specified, s.below));
      specified = ⊎_elim (λ (z : g.stop.specified < 1). absurd (some_set (omega arith))) (λ o. o) (lt_or_le g.stop.specified 1);
      none_has = λ i d h all. clash _ (each_in g.stop (get_or set i d) s.specified all) (none_in i d h);
    }

  pub steps_means : (stop : TestSlice) → 0 < length set → steps chains set ≡ Some stop → StopMeaning chains set stop
  unfolding steps ended
  steps_means stop some_slice e = go g.left refl e
    where
      g : Stage
      g = stage chains set chains

      go : (l : List TestSlice) → g.left ≡ l → elim (is_empty l) [ true ↦ Some g.stop | false ↦ None ] ≡ Some stop → StopMeaning chains set stop
      go [] empty same = let q : g.stop ≡ stop = cc in rw (sym q) (means some_slice g (stage_sound chains set chains) empty)
      go (x ∷ xs) full same = absurd (let z : ◌≡◌ {A = ℕ} 0 1 = cc in omega arith)

  pub left_in : steps chains set ≡ None → LeftIn chains set
  unfolding steps ended
  left_in e = go (is_empty g.left) refl e
    where
      g : Stage
      g = stage chains set chains

      all : is_empty g.left ≡ false → Progress chains chains g → AllSet chains g.stop
      all f (inl t) = absurd (clash (is_empty g.left) t f)
      all f (inr (inl a)) = a
      all f (inr (inr l)) = λ p h. eq-eqb (digit g.stop.specified p) 1 (ones_full chains g.stop.specified (stage_sound chains set chains).below l p h)

      go : (b : Bool) → is_empty g.left ≡ b → ◌≡◌ {A = Option TestSlice} (elim b [ true ↦ Some g.stop | false ↦ None ]) None → LeftIn chains set
      go true t same = absurd (let z : ◌≡◌ {A = ℕ} 0 1 = cc in omega arith)
      go false f same =
          let a = all f (stage_progress chains set chains) in
          record { some_slices_in = f; all_set = a; few = left_few chains set g (stage_halved chains set chains) a f }

  pub decided : (stop : TestSlice) → steps chains set ≡ Some stop → stop_for chains set ≡ Some stop
  unfolding stop_for
  decided stop e = rw (e, stop_for)

  pub spared : steps chains set ≡ None → stop_for chains set ≡ spare_stop chains set
  unfolding stop_for
  spared e = rw (e, stop_for)

  pub stop_means : Lawful chains set → (stop : TestSlice) → stop_for chains set ≡ Some stop → StopMeaning chains set stop
  stop_means l stop e = go (steps chains set) refl
    where
      pattern : spare_stop chains set ≡ Some stop → StopMeaning chains set stop
      pattern s =
          let q = spared-is chains set stop s in
          rw q.pattern (spare_good chains q.number q.below set l.some_chain l.formed q.untaken)

      go : (o : Option TestSlice) → steps chains set ≡ o → StopMeaning chains set stop
      go (Some s) d = steps_means stop l.some_slice (d ∙ sym (decided s d) ∙ e)
      go None d = pattern (sym (spared d) ∙ e)

  pub six_means : stop_for chains set ≡ None → SixMeaning chains set
  six_means e = go (steps chains set) refl
    where
      go : (o : Option TestSlice) → steps chains set ≡ o → SixMeaning chains set
      go (Some s) d = absurd (let q = sym (decided s d) ∙ e in let z : ◌≡◌ {A = ℕ} 0 1 = cc in omega arith)
      go None d = let all = all_taken chains set (sym (spared d) ∙ e) in record { all_taken = all; none_good = taken-none_good chains set all }

  -- some stop slice is good where the rule gives one
  refused_none : Lawful chains set → NoneGood chains set → stop_for chains set ≡ None
  refused_none l n = go (stop_for chains set) refl
    where
      go : (o : Option TestSlice) → stop_for chains set ≡ o → o ≡ None
      go None e = refl
      go (Some stop) e = absurd (n stop (stop_means l stop e))

  pub rule_means : Lawful chains set → RuleMeaning chains set (stop_for chains set)
  rule_means l = record {
    decided = decided;
    spared = λ e. (left_in e, spared e);
    good = stop_means l;
    six = six_means;
    exactly = ((λ e. (six_means e).none_good), refused_none l);
  }
