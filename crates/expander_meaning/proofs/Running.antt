-- The run of a seed, slice by slice, as the code goes through it.
--     Counted M stop d seed t state     t slices come before the stop, and state is that of slice t: what comes before it from there on completes the number
--     counted_start, counted_next       the first slice; one slice more
--     counted_stop, counted_end         the stop shows; no slice is left to look at
--     sliced, shown, stepped            the slice of a state, whether it shows the stop, and the step, as the code computes them
-- Assumes nothing.
use mathlib.Core.Path.{◌≡◌, sym, ap, ◌∙◌}
use mathlib.Core.Bool.{Bool, true, false}
use mathlib.Core.List.{List, [], ◌∷◌}
use Prim.Native.Nat.{ℕ, suc, ◌+◌, ◌-◌, ◌≤◌, ◌<◌}
use native.Mathlib.Omega.{arith}
use lib.ListN.{length, take}
use Rattle.machine_settings.specs.declared.Settings.{Settings}
use Rattle.machine_register.specs.Register.{step_of}
use Rattle.machine_register.specs.declared.Register.{Register}
use Rattle.machine_settings.specs.Machine.{register_of, Machine, machine}
use Rattle.machine_settings.proofs.Machine.{machine-slice, machine-step}
use Rattle.machine_slices.specs.declared.TestSlice.{TestSlice}
use Rattle.machine_slices.specs.Slices.{shows}
use Rattle.expander_meaning.specs.Sized.{Sized}
use Rattle.expander_meaning.specs.Until.{until_stop}
use Rattle.expander_meaning.proofs.Until.{until_more, until_here, until_none}

pub record Counted (M : Machine) (stop : TestSlice) (d seed t state : ℕ) : Type 0 where
  pub within : t ≤ d
  pub count : t + length (until_stop M stop (d - t) state) ≡ length (until_stop M stop d seed)

module _ (M : Machine) (stop : TestSlice) (d seed : ℕ) where
  pub counted_start : Counted M stop d seed 0 seed
  counted_start = record { within = omega arith; count = (let e : d - 0 ≡ d = omega arith in rw e (omega arith)) }

  module _ (t state : ℕ) (c : Counted M stop d seed t state) where
    completed : until_stop M stop (d - t) state ≡ [] → t ≡ length (until_stop M stop d seed)
    completed e = let z : t + 0 ≡ length (until_stop M stop d seed) = rw e at c.count in omega arith

    pub counted_stop : shows stop (M.slice state) ≡ true → t ≡ length (until_stop M stop d seed)
    counted_stop h = completed (until_here M stop (d - t) state h)

    pub counted_end : d ≤ t → t ≡ length (until_stop M stop d seed)
    counted_end h = let z : d - t ≡ 0 = omega arith in completed (rw z (until_none M stop state))

    pub counted_next : t < d → shows stop (M.slice state) ≡ false → Counted M stop d seed (t + 1) (M.step state)
    counted_next h q =
        let z : d - t ≡ suc (d - (t + 1)) = omega arith in
        let e : until_stop M stop (d - t) state ≡ M.slice state ∷ until_stop M stop (d - (t + 1)) (M.step state) = rw z (until_more M stop (d - (t + 1)) state q) in
        let p : t + suc (length (until_stop M stop (d - (t + 1)) (M.step state))) ≡ length (until_stop M stop d seed) = rw e at c.count in
        record { within = omega arith; count = omega arith }

-- what the code computes on words
module _ (g : Settings) (masks : List ℕ) (ready : Sized g masks) (s : ℕ) where
  pub sliced : (v : ℕ) → v ≡ (machine g (take 64 masks)).slice s → (machine g masks).slice s ≡ v
  sliced v e = sym (e ∙ machine-slice g masks s ready.chains)

  pub shown : (stop : TestSlice) (v : ℕ) (b : Bool) → v ≡ (machine g (take 64 masks)).slice s → b ≡ shows stop v → shows stop ((machine g masks).slice s) ≡ b
  shown stop v b e f = ap (shows stop) (sliced v e) ∙ sym f

  pub stepped : (r : Register) → r ≡ register_of g → (x : ℕ) → x ≡ step_of r s → (machine g masks).step s ≡ x
  stepped r q x e = sym (e ∙ ap (λ (t : Register). step_of t s) q ∙ machine-step g masks s ready.cells)
