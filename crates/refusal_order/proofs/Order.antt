-- What is handed in is well-formed exactly where none of causes 1 to 5 holds.
--     NoFault f          none of them holds
--     well-formed        the checks answer so
--     formed_well        and only then
--     first_here         a test that holds answers
--     first_later        one that does not leaves it to the rest
-- Assumes nothing.
use Rattle.std.specs.Prelude.{Err, Ok}
use mathlib.Core.Path.{◌≡◌, refl}
use mathlib.Core.Bool.{Bool, true, false}
use mathlib.Core.List.{List, ◌∷◌}
use Prim.Native.Nat.{ℕ}
use native.Mathlib.Omega.{arith}
use Rattle.refusal_causes.specs.declared.Cause.{Cause}
use Rattle.refusal_causes.specs.declared.Cause.TheVariants as cause
use Rattle.refusal_order.specs.Order.{Test, tests, first_of, judged}
use Rattle.refusal_order.specs.declared.Faults.{Faults}

pub record NoFault (f : Faults) : Type 0 where
  pub register : f.register ≡ false
  pub chains : f.chains ≡ false
  pub lengths : f.lengths ≡ false
  pub slices : f.slices ≡ false
  pub stop : f.stop ≡ false

pub well_formed : (f : Faults) → NoFault f → judged f ≡ Ok tt
unfolding judged tests first_of
well_formed f n = rw (n.register, first_of, n.chains, first_of, n.lengths, first_of, n.slices, first_of, n.stop, first_of)

-- one test more: it does not hold, and the rest answers
passed : (b : Bool) (c : Cause) (ts : List Test) → first_of (record { holds = b; refused = c } ∷ ts) ≡ Ok tt → (b ≡ false) × (first_of ts ≡ Ok tt)
unfolding first_of
passed true c ts e = absurd (let z : ◌≡◌ {A = ℕ} 0 1 = cc in omega arith)
passed false c ts e = (refl, e)

pub formed_well : (f : Faults) → judged f ≡ Ok tt → NoFault f
unfolding judged tests
formed_well f e =
    let a = passed f.register cause.Register _ e in
    let b = passed f.chains cause.Chains _ a.1 in
    let c = passed f.lengths cause.Lengths _ b.1 in
    let d = passed f.slices cause.TestSlice _ c.1 in
    let g = passed f.stop cause.StopSlice _ d.1 in
    record { register = a.0; chains = b.0; lengths = c.0; slices = d.0; stop = g.0 }

module _ (t : Test) (ts : List Test) where
  pub first_here : t.holds ≡ true → first_of (t ∷ ts) ≡ Err t.refused
  unfolding first_of
  first_here h = rw (h, first_of)

  pub first_later : t.holds ≡ false → first_of (t ∷ ts) ≡ first_of ts
  unfolding first_of
  first_later h = rw (h, first_of)
