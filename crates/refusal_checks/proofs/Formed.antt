-- What the checks of a call with settings leave.
--     limit_bad, limit_good     cause 3 where the limit is refused; where it is not, the lengths of the call decide
--     CallFormed g masks l s t  none of causes 1 to 5 holds; so there are at most 64 chains, the inverted ones are among them, and the limit is at most the greatest
--     call-formed, formed-call  the checks leave it, and only then; l, s and t are what the call says of its lengths, slices and stop slice
--     window_formed, set-formed, cubes_formed, list_formed     the same of each kind of call
-- Assumes nothing.
use Rattle.std.specs.Prelude.{Ok}
use mathlib.Core.Path.{◌≡◌, ◌∙◌}
use mathlib.Core.Bool.{Bool, true, false}
use mathlib.Core.List.{List}
use Prim.Native.Nat.{ℕ, ◌≤◌}
use lib.ListN.{length}
use Rattle.words_bounded.proofs.Tests.{neither}
use Rattle.machine_settings.specs.declared.Settings.{Settings}
use Rattle.machine_register.specs.Register.{bad_register}
use Rattle.machine_chains.specs.Chains.{bad_chains}
use Rattle.machine_chains.proofs.Causes.{chains_within}
use Rattle.machine_settings.proofs.Machine.{chains_good, chains_parts}
use Rattle.words_gf2.specs.Words.{beyond}
use Rattle.machine_slices.specs.declared.TestSlice.{TestSlice}
use Rattle.machine_slices.specs.Slices.{bad_slices, bad_stop}
use Rattle.refusal_lengths.specs.Lengths.{most_limit, bad_limit, bad_window, bad_set, bad_cubes, bad_list}
use Rattle.refusal_lengths.proofs.Lengths.{limit_within}
use Rattle.refusal_order.specs.Order.{judged}
use Rattle.refusal_order.proofs.Order.{well_formed, formed_well}
use Rattle.refusal_checks.specs.Calls.{limited, call_faults, window_faults, set_faults, cubes_faults, list_faults}

module _ (g : Settings) (lengths : Bool) where
  pub limit_bad : bad_limit g.limit ≡ true → limited g lengths ≡ true
  unfolding limited
  limit_bad b = rw b

  pub limit_good : bad_limit g.limit ≡ false → limited g lengths ≡ lengths
  unfolding limited
  limit_good b = rw b

  limited-parts : limited g lengths ≡ false → (bad_limit g.limit ≡ false) × (lengths ≡ false)
  unfolding limited
  limited-parts b = neither (bad_limit g.limit) lengths b

pub record CallFormed (g : Settings) (masks : List ℕ) (l s t : Bool) : Type 0 where
  pub register : bad_register g.cells g.taps ≡ false
  pub chains : bad_chains g.cells masks ≡ false
  pub invert : beyond (length masks) g.invert ≡ false
  pub few : length masks ≤ 64
  pub limit : bad_limit g.limit ≡ false
  pub most : g.limit ≤ most_limit
  pub lengths : l ≡ false
  pub slices : s ≡ false
  pub stop : t ≡ false

module _ (g : Settings) (masks : List ℕ) where
  call-formed : (l s t : Bool) → judged (call_faults g masks l s t) ≡ Ok tt → CallFormed g masks l s t
  unfolding call_faults
  call-formed l s t w =
      let f = formed_well (call_faults g masks l s t) w in
      let p = limited-parts g l f.lengths in
      let q = chains_parts g masks f.chains in
      record {
        register = f.register;
        chains = q.0;
        invert = q.1;
        few = (chains_within g.cells masks q.0).1;
        limit = p.0;
        most = (limit_within g.limit p.0).1;
        lengths = p.1;
        slices = f.slices;
        stop = f.stop;
      }

  pub formed-call : (l s t : Bool) → bad_register g.cells g.taps ≡ false → bad_chains g.cells masks ≡ false → beyond (length masks) g.invert ≡ false → bad_limit g.limit ≡ false → l ≡ false → s ≡ false → t ≡ false
      → judged (call_faults g masks l s t) ≡ Ok tt
  unfolding call_faults
  formed-call l s t register chains invert limit lengths slices stop = well_formed (call_faults g masks l s t) (record {
    register = register;
    chains = chains_good g masks chains ∙ invert;
    lengths = limit_good g l limit ∙ lengths;
    slices = slices;
    stop = stop;
  })

  pub list_formed : (stop : TestSlice) (n seeds : ℕ) → judged (list_faults g masks stop n seeds) ≡ Ok tt → CallFormed g masks (bad_list n seeds) false (bad_stop (length masks) stop)
  unfolding list_faults
  list_formed stop n seeds w = call-formed _ _ _ w

  module _ (ps bs : List ℕ) where
    pub cubes_formed : (depth : ℕ) → judged (cubes_faults g masks depth ps bs) ≡ Ok tt → CallFormed g masks (bad_cubes depth (length ps)) (bad_slices (length masks) ps bs) false
    unfolding cubes_faults
    cubes_formed depth w = call-formed _ _ _ w

  module _ (stop : TestSlice) (ps bs : List ℕ) where
    pub window_formed : judged (window_faults g masks stop ps bs) ≡ Ok tt → CallFormed g masks (bad_window g.limit (length ps)) (bad_slices (length masks) ps bs) (bad_stop (length masks) stop)
    unfolding window_faults
    window_formed w = call-formed _ _ _ w

    pub set-formed : judged (set_faults g masks stop ps bs) ≡ Ok tt → CallFormed g masks (bad_set (length ps)) (bad_slices (length masks) ps bs) (bad_stop (length masks) stop)
    unfolding set_faults
    set-formed w = call-formed _ _ _ w
