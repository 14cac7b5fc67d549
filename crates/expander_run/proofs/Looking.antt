-- What a seed delivers, by the slices that are looked at.
--     looked_open, looked_closed       how many slices are looked at
--     counted_by                       what the code counts
--     told-beyond                      a seed that is no state: 10
--     told_at_stop, told_open, told-closed, told_endless     slice 0 shows the stop: 11; a last seed that need not close; any other one; none of its slices shows the stop: 12
-- Assumes nothing.
use Rattle.std.specs.Prelude.{Err, Ok, Result}
use Rattle.refusal_causes.specs.declared.Cause.{Cause}
use mathlib.Core.Path.{◌≡◌, refl, sym, ap, ◌∙◌}
use mathlib.Core.Bool.{Bool, true, false, ◌&&◌}
use mathlib.Core.List.{List}
use Prim.Native.Nat.{ℕ, suc, ◌≤◌, ◌<◌, min, max}
use native.Mathlib.Omega.{arith}
use lib.Dec.{leb}
use lib.ListN.{length}
use borrow.Author.Tests.{ltb-true, ltb-false, leb-true}
use Rattle.words_bounded.proofs.Tests.{both}
use Rattle.words_gf2.specs.Words.{beyond}
use Rattle.refusal_causes.specs.declared.Cause.TheVariants.{SeedBeyond, SeedAtStop, SeedEndless}
use Rattle.machine_settings.specs.declared.Settings.{Settings}
use Rattle.machine_settings.specs.Machine.{Machine, machine}
use Rattle.machine_settings.proofs.Machine.{machine_states}
use Rattle.machine_slices.specs.declared.TestSlice.{TestSlice}
use Rattle.theory_covering.specs.Rules.{Rules, rules}
use Rattle.expander_meaning.specs.Run.{delivers}
use Rattle.expander_meaning.specs.Until.{until_stop}
use Rattle.expander_meaning.proofs.Until.{until_front}
use Rattle.expander_meaning.proofs.Ending.{before, beyond_states, gives_none, gives_open, gives_closed, gives_endless}
use Rattle.expander_run.specs.Told.{told, looked_at}

pub looked_closed : (limit left : ℕ) (unclosed : Bool) → unclosed ≡ false → looked_at limit unclosed left ≡ suc limit
unfolding looked_at
looked_closed limit left unclosed e = rw e

pub looked_open : (limit left : ℕ) (unclosed : Bool) → unclosed ≡ true → looked_at limit unclosed left ≡ max 1 left
unfolding looked_at
looked_open limit left unclosed e = rw e

module _ (g : Settings) (masks : List ℕ) (stop : TestSlice) (place : ℕ) (last : Bool) (left s : ℕ) where
  abbrev M : Machine
  M = machine g masks

  abbrev R : Rules
  R = rules g stop

  abbrev said : Result ℕ Cause
  said = told (delivers M R stop place last left s)

  abbrev unclosed : Bool
  unclosed = last && leb left g.limit

  pub counted_by : (t d : ℕ) (u : Bool) → t ≡ length (until_stop M stop d s) → d ≡ looked_at g.limit u left → u ≡ unclosed → t ≡ length (until_stop M stop (looked_at g.limit unclosed left) s)
  counted_by t d u e f h = e ∙ ap (λ (k : ℕ). length (until_stop M stop k s)) (f ∙ ap (λ (b : Bool). looked_at g.limit b left) h)

  pub told-beyond : beyond g.cells s ≡ true → said ≡ Err (SeedBeyond place)
  unfolding told
  told-beyond h = ap told (beyond_states M R stop place last left s (ltb-false s M.states (rw (machine_states g masks s, h))))

  module _ (h : beyond g.cells s ≡ false) where
    state : s < M.states
    state = ltb-true s M.states (rw (machine_states g masks s, h))

    abbrev q : ℕ
    q = before M R stop s

    -- what is looked at reaches slice 0, and at most one beyond the limit
    seen : (d t : ℕ) → t ≡ length (until_stop M stop d s) → d ≤ suc g.limit → t ≡ min d q
    seen d t e l = e ∙ until_front M stop d (suc g.limit) s l

    module _ (t : ℕ) (counted : t ≡ length (until_stop M stop (looked_at g.limit unclosed left) s)) where
      module _ (o : unclosed ≡ true) where
        few : left ≤ g.limit
        few = leb-true left g.limit (both last (leb left g.limit) o).1

        same : t ≡ min (max 1 left) q
        same = let l = few in seen (max 1 left) t (counted ∙ ap (λ (d : ℕ). length (until_stop M stop d s)) (looked_open g.limit left unclosed o)) (omega arith)

        pub told_open : 0 < t → said ≡ Ok (min left t)
        unfolding told
        told_open l = let w = same in let m : min left q ≡ min left t = omega arith in ap told (gives_open M R stop place last left s state (omega arith) o) ∙ ap Ok m

      module _ (c : unclosed ≡ false) where
        whole : t ≡ q
        whole = counted ∙ ap (λ (d : ℕ). length (until_stop M stop d s)) (looked_closed g.limit left unclosed c)

        pub told-closed : 0 < t → t ≤ g.limit → said ≡ Ok t
        unfolding told
        told-closed l w = let e = whole in ap told (gives_closed M R stop place last left s state (omega arith) c (omega arith)) ∙ ap Ok (sym e)

        pub told_endless : g.limit < t → said ≡ Err (SeedEndless place)
        unfolding told
        told_endless l = let e = whole in ap told (gives_endless M R stop place last left s state (omega arith) c (omega arith))

      pub told_at_stop : t ≡ 0 → said ≡ Err (SeedAtStop place)
      unfolding told
      told_at_stop z = ap told (gives_none M R stop place last left s state (go unclosed refl))
        where
          go : (b : Bool) → unclosed ≡ b → q ≡ 0
          go true o = let w = same o in omega arith
          go false c = sym (whole c) ∙ z
