-- A start in a segment, as the loop that gathers the seeds takes it.
--     part_bounds     the part that a window from there may take
--     part_slices     its slices are well-formed
--     part_window     the longest window of the part is the greedy one
-- Assumes nothing.
use Rattle.std.specs.Prelude.{Option}
use mathlib.Core.Path.{◌≡◌, sym, ap, ◌∙◌}
use mathlib.Core.Bool.{Bool, false, ◌||◌}
use mathlib.Core.List.{List}
use Prim.Native.Nat.{ℕ, ◌-◌, ◌≤◌, min}
use native.Mathlib.Omega.{arith}
use lib.Dec.{ltb}
use lib.ListN.{length, take, drop, length-take, length-drop}
use Rattle.machine_settings.specs.declared.Settings.{Settings}
use Rattle.machine_settings.specs.Machine.{Machine, machine}
use Rattle.machine_slices.specs.declared.TestSlice.{TestSlice}
use Rattle.machine_slices.specs.Slices.{paired, bad_slices}
use Rattle.machine_slices.proofs.Causes.{slices_equal}
use Rattle.machine_slices.proofs.Formed.{paired-take, paired-drop, slices_length, slices_take, slices_drop}
use Rattle.theory_covering.specs.Rules.{Rules, segment_rules}
use Rattle.theory_covering.specs.Windows.{part, far, closes}
use Rattle.theory_covering.proofs.Places.{far_segment, segment_closes}
use Rattle.window_lengths.specs.Longest.{reach_of}
use Rattle.window_lengths.specs.declared.Window.{Window}
use Rattle.encoder_gathering.proofs.Reaching.{ReachesOr, reaches}

module _ (g : Settings) (masks : List ℕ) (stop : TestSlice) (closing : Bool) (ps bs : List ℕ) (b : bad_slices (length masks) ps bs ≡ false) where
  abbrev M : Machine
  M = machine g masks

  abbrev R : Rules
  R = segment_rules g stop closing

  abbrev set : List TestSlice
  set = paired ps bs

  long : length set ≡ length ps
  long = slices_length (length masks) ps bs b

  module _ (a e : ℕ) (within : a ≤ length ps) (end : e ≡ far R (length ps) a) where
    pub part_bounds : (a ≤ e) × (e ≤ length ps) × (e ≤ length bs) × (length (take (e - a) (drop a ps)) ≤ min g.limit (length ps))
    part_bounds =
        let f = end ∙ far_segment g stop closing (length ps) a in
        let l = slices_equal (length masks) ps bs b in
        (omega arith, omega arith, omega arith, omega (arith, length-take (e - a) (drop a ps), length-drop a ps))

    pub part_slices : bad_slices (length masks) (take (e - a) (drop a ps)) (take (e - a) (drop a bs)) ≡ false
    part_slices = slices_take (length masks) (e - a) (drop a ps) (drop a bs) (slices_drop (length masks) a ps bs b)

    same_part : paired (take (e - a) (drop a ps)) (take (e - a) (drop a bs)) ≡ part a (far R (length set) a) set
    same_part =
        paired-take (e - a) (drop a ps) (drop a bs)
        ∙ ap (take (e - a)) (paired-drop a ps bs (slices_equal (length masks) ps bs b))
        ∙ ap (λ (k : ℕ). take (k - a) (drop a set)) (end ∙ ap (λ (n : ℕ). far R n a) (sym long))

    pub part_window : (c : Bool) → c ≡ (closing || ltb e (length ps)) → (r : Option Window) → r ≡ reach_of M stop c (paired (take (e - a) (drop a ps)) (take (e - a) (drop a bs))) → ReachesOr M R set a r
    part_window c s r q =
        let l : c ≡ closes R (length set) (far R (length set) a) = s ∙ sym (segment_closes g stop closing (length ps) e part_bounds.1) ∙ rw (long, end) in
        rw (q, same_part, l) (reaches M R set a (omega (arith, long)))
