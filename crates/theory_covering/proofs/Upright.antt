-- A well-formed call with inverted chains, as the search sees it: with no chain inverted, and its bits and stop slice flipped, it is well-formed too (document 02, R-4).
--     window_upright, set-upright, list_upright     a window, a set, a seed list
--     seed-upright                    the seed of a window is the same
-- Assumes nothing.
use Rattle.std.specs.Prelude.{Ok}
use mathlib.Core.Path.{◌≡◌, sym, ap, ◌∙◌}
use mathlib.Core.Bool.{true, false}
use mathlib.Core.List.{List}
use Prim.Native.Nat.{ℕ}
use lib.ListN.{length}
use lib.Pow.{pow_pos}
use Rattle.words_gf2.specs.Words.{beyond}
use Rattle.words_gf2.proofs.Digits.{beyond_no}
use Rattle.machine_settings.specs.declared.Settings.{Settings}
use Rattle.machine_settings.specs.Machine.{none_inverted, machine}
use Rattle.machine_slices.specs.declared.TestSlice.{TestSlice}
use Rattle.machine_slices.specs.Slices.{paired}
use Rattle.machine_inversion.specs.Inversion.{flipped, flipped_bits, upright}
use Rattle.machine_inversion.proofs.Inversion.{flipped-paired, slices_flipped, stop-flipped}
use Rattle.refusal_order.specs.Order.{judged}
use Rattle.refusal_checks.specs.Calls.{window_faults, set_faults, list_faults}
use Rattle.refusal_checks.proofs.Formed.{formed-call, window_formed, set-formed, list_formed}
use Rattle.theory_covering.specs.Covering.{seed_of}
use Rattle.theory_covering.proofs.Inversion.{inverted_window}

none-beyond : (chains : ℕ) → beyond chains none_inverted ≡ false
none-beyond chains = beyond_no chains 0 (pow_pos chains)

pub list_upright : (g : Settings) (masks : List ℕ) (stop : TestSlice) (n seeds : ℕ) → judged (list_faults g masks stop n seeds) ≡ Ok tt → judged (list_faults (upright g) masks (flipped g.invert stop) n seeds) ≡ Ok tt
unfolding list_faults
list_upright g masks stop n seeds w =
    let f = list_formed g masks stop n seeds w in
    formed-call (upright g) masks _ _ _ f.register f.chains (none-beyond (length masks)) f.limit f.lengths f.slices (stop-flipped g.invert stop (length masks) f.stop)

module _ (g : Settings) (masks : List ℕ) (stop : TestSlice) (ps bs : List ℕ) where
  abbrev seen : TestSlice
  seen = flipped g.invert stop

  abbrev turned : List ℕ
  turned = flipped_bits g.invert ps bs

  pub window_upright : judged (window_faults g masks stop ps bs) ≡ Ok tt → judged (window_faults (upright g) masks seen ps turned) ≡ Ok tt
  unfolding window_faults
  window_upright w =
      let f = window_formed g masks stop ps bs w in
      formed-call (upright g) masks _ _ _ f.register f.chains (none-beyond (length masks)) f.limit f.lengths (slices_flipped g.invert (length masks) ps bs f.slices) (stop-flipped g.invert stop (length masks) f.stop)

  pub set-upright : judged (set_faults g masks stop ps bs) ≡ Ok tt → judged (set_faults (upright g) masks seen ps turned) ≡ Ok tt
  unfolding set_faults
  set-upright w =
      let f = set-formed g masks stop ps bs w in
      formed-call (upright g) masks _ _ _ f.register f.chains (none-beyond (length masks)) f.limit f.lengths (slices_flipped g.invert (length masks) ps bs f.slices) (stop-flipped g.invert stop (length masks) f.stop)

  pub seed-upright : seed_of (machine g masks) stop true (paired ps bs) ≡ seed_of (machine (upright g) masks) seen true (paired ps turned)
  seed-upright =
      (inverted_window g masks stop (paired ps bs)).seed true
      ∙ ap (seed_of (machine (upright g) masks) seen true) (sym (flipped-paired g.invert ps bs))
