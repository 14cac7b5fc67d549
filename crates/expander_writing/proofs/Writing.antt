-- The writing of slices into the buffer.
--     Writes                       the slices of a seed are written up to i: what follows from there on completes them
--     writes_start, writes_next    none yet; one slice more
--     writes_stop, writes_end      the stop shows; the slices end
-- Assumes nothing.
use mathlib.Core.Path.{◌≡◌, refl, ◌∙◌}
use mathlib.Core.Bool.{true, false}
use mathlib.Core.List.{List, [], ◌∷◌}
use Prim.Native.Nat.{ℕ, suc, ◌+◌, ◌-◌, ◌≤◌, ◌<◌}
use native.Mathlib.Numerals.{add-one}
use native.Mathlib.Omega.{arith}
use lib.ListN.{length, set, length-set}
use lib.Seq.{sets}
use Rattle.machine_settings.specs.Machine.{Machine}
use Rattle.machine_slices.specs.declared.TestSlice.{TestSlice}
use Rattle.machine_slices.specs.Slices.{shows}
use Rattle.expander_meaning.specs.Until.{until_stop}
use Rattle.expander_meaning.proofs.Until.{until_more, until_here, until_none}

pub record Writes (M : Machine) (stop : TestSlice) (seed at n : ℕ) (before : List ℕ) (i state : ℕ) (out : List ℕ) : Type 0 where
  pub size : length out ≡ length before
  pub within : i ≤ n
  pub place : i + length (until_stop M stop (n - i) state) ≡ at + length (until_stop M stop (n - at) seed)
  pub buffer : sets out i (until_stop M stop (n - i) state) ≡ sets before at (until_stop M stop (n - at) seed)

module _ (M : Machine) (stop : TestSlice) (seed at n : ℕ) (before : List ℕ) where
  abbrev run : List ℕ
  run = until_stop M stop (n - at) seed

  pub writes_start : at ≤ n → Writes M stop seed at n before at seed before
  writes_start h = record { size = refl; within = h; place = refl; buffer = refl }

  module _ (i state : ℕ) (out : List ℕ) (w : Writes M stop seed at n before i state out) where
    done : until_stop M stop (n - i) state ≡ [] → (i ≡ at + length run) × (out ≡ sets before at run)
    done e = ((let p = rw e at w.place in omega arith), rw e at w.buffer)

    pub writes_stop : shows stop (M.slice state) ≡ true → (i ≡ at + length run) × (out ≡ sets before at run)
    writes_stop h = done (until_here M stop (n - i) state h)

    pub writes_end : n ≤ i → (i ≡ at + length run) × (out ≡ sets before at run)
    writes_end h = let z : n - i ≡ 0 = omega arith in done (rw z (until_none M stop state))

    pub writes_next : i < n → shows stop (M.slice state) ≡ false → Writes M stop seed at n before (i + 1) (M.step state) (set out i (M.slice state))
    writes_next h q =
        let d : n - i ≡ suc (n - (i + 1)) = omega arith in
        let e : until_stop M stop (n - i) state ≡ M.slice state ∷ until_stop M stop (n - (i + 1)) (M.step state) = rw d (until_more M stop (n - (i + 1)) state q) in
        let p = rw e at w.place in
        record {
          size = length-set out i (M.slice state) ∙ w.size;
          within = omega arith;
          place = omega (arith, p);
          buffer = rw add-one (rw add-one at (rw e at w.buffer));
        }
