-- The stages of the stop slice steps.
--     Sound chains set g     the stop slice so far is well-formed, and the slices still in are those that are looked up to be in
--     stage_sound            so it is after each step
--     looked_up              after each step, the slices that are looked up to be in are just those that the published steps leave in
--     moved, advanced        the stage after a step, by whether no slice is in and by the choice
--     Progress chains k g    after k steps no slice is in, or no position is unset, or k positions are set
--     stage_progress         so it is
-- Assumes nothing.
use Rattle.std.specs.Prelude.{None, Option, Some}
use mathlib.Core.Path.{◌≡◌, refl, sym, ap, ap₂, ◌∙◌}
use mathlib.Core.Logic.{◌⊎◌, inl, inr}
use mathlib.Core.Bool.{Bool, true, false}
use mathlib.Core.List.{List}
use Prim.Native.Nat.{ℕ, zero, suc, ◌-◌, ◌*◌, ◌/◌, ◌%◌, ◌^◌, ◌≤◌, ◌<◌}
use native.Mathlib.Omega.{arith}
use lib.Bits.{and_zero_l}
use lib.Count.{ones}
use lib.Pow.{pow_pos}
use Rattle.words_bounded.proofs.Tests.{clash}
use Rattle.words_gf2.proofs.Digits.{put_below}
use Rattle.words_gf2.proofs.Ones.{ones_put}
use Rattle.machine_slices.specs.declared.TestSlice.{TestSlice}
use Rattle.stop_steps.specs.Steps.{is_set, filter, count, choice, settle, keep, is_empty, Stage, start, set_by, advance, stage}
use Rattle.stop_steps.specs.Lookup.{BitsSpecified, is_in, LookedUp}
use Rattle.stop_steps.specs.Meaning.{AllSet}
use Rattle.stop_steps.proofs.Choice.{Chosen, ChoiceIs, choice_is}
use Rattle.stop_steps.proofs.Lookup.{in_each, each_in, one_weight, unset_free, put-formed, in_start, left_in}

pub record Sound (chains : ℕ) (set : List TestSlice) (g : Stage) : Type 0 where
  pub specified : BitsSpecified g.stop
  pub below : g.stop.specified < 2 ^ chains
  pub in_left : filter (is_in g.stop) set ≡ g.left

-- a step, by whether no slice is in and by the choice
abbrev pub moved : Stage → Bool → Option ℕ → Stage
moved g b o = elim b [ true ↦ g | false ↦ elim o [ None ↦ g | Some q ↦ set_by q g ] ]

pub advanced : (chains : ℕ) (g : Stage) (b : Bool) (o : Option ℕ) → is_empty g.left ≡ b → choice g.stop (λ q. count q g.left) (2 * chains) ≡ o → advance chains g ≡ moved g b o
unfolding advance
advanced chains g b o e f = ap₂ (moved g) e f

abbrev pub Progress : ℕ → ℕ → Stage → Type 0
Progress chains k g = (is_empty g.left ≡ true) ⊎ (AllSet chains g.stop ⊎ (k ≤ ones g.stop.specified))

module _ (chains : ℕ) (set : List TestSlice) where
  start_sound : Sound chains set (start set)
  start_sound = record { specified = and_zero_l 0; below = pow_pos chains; in_left = in_start set }

  module _ (g : Stage) (s : Sound chains set g) where
    abbrev counts : ℕ → ℕ
    counts q = count q g.left

    set_sound : (q : ℕ) → Chosen g.stop counts (2 * chains) q → Sound chains set (set_by q g)
    unfolding set_by settle
    set_sound q c = record {
      specified = put-formed g.stop (q / 2) (1 - q % 2) c.unset (omega arith) s.specified;
      below = rw (one_weight g.stop.specified (q / 2)) at (put_below 1 (omega arith) chains g.stop.specified (q / 2) (omega (arith, c.below)) s.below (unset_free g.stop (q / 2) c.unset));
      in_left = sym (ap (keep q) (sym s.in_left) ∙ left_in g.stop s.specified q c.unset set);
    }

    advance_sound : Sound chains set (advance chains g)
    unfolding advance
    advance_sound = go (is_empty g.left) (choice g.stop counts (2 * chains)) (choice_is g.stop counts (2 * chains))
      where
        go : (b : Bool) (o : Option ℕ) → ChoiceIs g.stop counts (2 * chains) o → Sound chains set (moved g b o)
        go true o c = s
        go false None c = s
        go false (Some q) c = set_sound q c

    advance_progress : (k : ℕ) → Progress chains k g → Progress chains (suc k) (advance chains g)
    unfolding advance set_by settle
    advance_progress k p = go (is_empty g.left) refl (choice g.stop counts (2 * chains)) (choice_is g.stop counts (2 * chains))
      where
        more : (q : ℕ) → Chosen g.stop counts (2 * chains) q → Progress chains k g → is_empty g.left ≡ false → Progress chains (suc k) (set_by q g)
        more q c (inl e) f = absurd (clash (is_empty g.left) e f)
        more q c (inr (inl all)) f = absurd (clash (is_set (q / 2) g.stop) (all (q / 2) (omega (arith, c.below))) c.unset)
        more q c (inr (inr l)) f = inr (inr (omega (arith, ones_put g.stop.specified (q / 2) (unset_free g.stop (q / 2) c.unset))))

        go : (b : Bool) → is_empty g.left ≡ b → (o : Option ℕ) → ChoiceIs g.stop counts (2 * chains) o
            → Progress chains (suc k) (moved g b o)
        go true e o c = inl e
        go false e None all = inr (inl (λ i h. let d : 2 * i / 2 ≡ i = omega arith in rw d at (all (2 * i) (omega arith))))
        go false e (Some q) c = more q c p e

  pub stage_sound : (k : ℕ) → Sound chains set (stage chains set k)
  unfolding stage
  stage_sound zero = start_sound
  stage_sound (suc k) = advance_sound (stage chains set k) (stage_sound k)

  pub looked_up : LookedUp chains set
  looked_up = record {
    in_exactly = λ k t. (in_each (stage chains set k).stop t, each_in (stage chains set k).stop t (stage_sound k).specified);
    left_in = λ k. (stage_sound k).in_left;
  }

  pub stage_progress : (k : ℕ) → Progress chains k (stage chains set k)
  unfolding stage
  stage_progress zero = inr (inr (omega arith))
  stage_progress (suc k) = advance_progress (stage chains set k) (stage_sound k) k (stage_progress k)
