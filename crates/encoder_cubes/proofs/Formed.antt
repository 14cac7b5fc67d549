-- What the checks of cubes leave, for the parts of the call.
--     cubes_formed               none of causes 1 to 4 holds
--     cubes_stop, cubes_set      the stop slice may be asked for; with a stop slice that is well-formed, they are a set
-- Assumes nothing.
use Rattle.std.specs.Prelude.{Ok}
use mathlib.Core.Path.{◌≡◌, refl}
use mathlib.Core.Bool.{false}
use mathlib.Core.List.{List}
use Prim.Native.Nat.{ℕ}
use lib.ListN.{length}
use Rattle.machine_settings.specs.declared.Settings.{Settings}
use Rattle.machine_chains.proofs.Causes.{chains_counted}
use Rattle.machine_slices.specs.declared.TestSlice.{TestSlice}
use Rattle.machine_slices.specs.Slices.{bad_stop}
use Rattle.refusal_order.specs.Order.{judged}
use Rattle.refusal_checks.specs.Calls.{set_faults, cubes_faults, stop_faults}
use Rattle.refusal_order.proofs.Order.{well_formed}
use Rattle.refusal_checks.proofs.Formed as call
use Rattle.refusal_lengths.proofs.Lengths.{cubes_lengths}
use Rattle.encoder_cubes.specs.Formed.{CubesFormed}

module _ (g : Settings) (masks ps bs : List ℕ) where
  pub cubes_formed : (depth : ℕ) → judged (cubes_faults g masks depth ps bs) ≡ Ok tt → CubesFormed g masks ps bs
  cubes_formed depth w =
      let f = call.cubes_formed g masks ps bs depth w in
      record { register = f.register; chains = f.chains; invert = f.invert; limit = f.limit; lengths = cubes_lengths depth (length ps) f.lengths; slices = f.slices }

  module _ (c : CubesFormed g masks ps bs) where
    pub cubes_stop : judged (stop_faults (length masks) ps bs) ≡ Ok tt
    unfolding stop_faults
    cubes_stop = well_formed (stop_faults (length masks) ps bs) (record {
      register = refl;
      chains = chains_counted g.cells masks c.chains;
      lengths = c.lengths;
      slices = c.slices;
      stop = refl;
    })

    pub cubes_set : (st : TestSlice) → bad_stop (length masks) st ≡ false → judged (set_faults g masks st ps bs) ≡ Ok tt
    unfolding set_faults
    cubes_set st b = call.formed-call g masks _ _ _ c.register c.chains c.invert c.limit c.lengths c.slices b
