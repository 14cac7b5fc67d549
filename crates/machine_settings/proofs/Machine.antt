-- What the code computes on words is what the machine of a call's settings and chains gives.
--     machine-slice     the slice of the first 64 masks, where there are no more
--     machine-step      the step of a register of at most 64 cells
--     machine_states    a state has no bit at or above cells
--     chains_bad, chains_good     cause 2 where the chains are refused; where they are not, the inverted chains decide
--     chains_parts      where cause 2 does not hold, neither part does
-- Assumes nothing.
use mathlib.Core.Path.{◌≡◌, refl, ap}
use mathlib.Core.Bool.{Bool, true, false, not}
use mathlib.Core.List.{List}
use Prim.Native.Nat.{ℕ, ◌≤◌, ◌^◌, min}
use native.Mathlib.Omega.{arith}
use lib.Dec.{ltb, leb}
use lib.Seq.{take_all}
use lib.ListN.{length, take}
use borrow.Author.Tests.{leb-true, leb-false, lt-ltb, le-ltb}
use Rattle.words_bounded.proofs.Tests.{neither}
use Rattle.words_gf2.specs.Words.{beyond}
use Rattle.machine_register.specs.Register.{step_of}
use Rattle.machine_chains.specs.Chains.{bad_chains}
use Rattle.machine_settings.specs.Machine.{register_of, machine, bad_chains_of}
use Rattle.machine_settings.specs.declared.Settings.{Settings}

module _ (g : Settings) (masks : List ℕ) (s : ℕ) where
  pub machine-slice : length masks ≤ 64 → (machine g (take 64 masks)).slice s ≡ (machine g masks).slice s
  machine-slice h = ap (λ (l : List ℕ). (machine g l).slice s) (take_all 64 masks h)

  pub machine-step : g.cells ≤ 64 → step_of (register_of g) s ≡ (machine g masks).step s
  unfolding step_of
  machine-step h = let e : min 64 g.cells ≡ g.cells = omega arith in rw e

  pub machine_states : ltb s (machine g masks).states ≡ not (beyond g.cells s)
  unfolding beyond
  machine_states = go (leb (2 ^ g.cells) s) refl
    where
      go : (b : Bool) → leb (2 ^ g.cells) s ≡ b → ltb s (2 ^ g.cells) ≡ not b
      go true e = le-ltb s (2 ^ g.cells) (leb-true (2 ^ g.cells) s e)
      go false e = lt-ltb s (2 ^ g.cells) (leb-false (2 ^ g.cells) s e)

module _ (g : Settings) (masks : List ℕ) where
  pub chains_bad : bad_chains g.cells masks ≡ true → bad_chains_of g masks ≡ true
  unfolding bad_chains_of
  chains_bad b = rw b

  pub chains_good : bad_chains g.cells masks ≡ false → bad_chains_of g masks ≡ beyond (length masks) g.invert
  unfolding bad_chains_of
  chains_good b = rw b

  pub chains_parts : bad_chains_of g masks ≡ false → (bad_chains g.cells masks ≡ false) × (beyond (length masks) g.invert ≡ false)
  unfolding bad_chains_of
  chains_parts b = neither (bad_chains g.cells masks) (beyond (length masks) g.invert) b
