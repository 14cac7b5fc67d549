-- Covering under inverted chains (document 02, R-4): it is covering without inversion, of test slices whose specified bits at inverted chains are flipped, under a stop slice that is flipped alike.
--     flipped_rules invert R         the rules R, every stop slice flipped
--     InvertedWindow g masks stop w     the law of a window w
--     InvertedSet g masks R set     the law of a set: the same places are windows, with the same seeds
use Rattle.std.specs.Prelude.{◌≡◌, Bool, List, map, ℕ}
use Rattle.machine_settings.specs.declared.Settings.{Settings}
use Rattle.machine_settings.specs.Machine.{machine}
use Rattle.machine_slices.specs.declared.TestSlice.{TestSlice}
use Rattle.machine_inversion.specs.Inversion.{flipped, upright}
use Rattle.theory_covering.specs.Covering.{covers, seed_of}
use Rattle.theory_covering.specs.Rules.{Rules}
use Rattle.theory_covering.specs.Windows.{seed_at, ok}

abbrev pub flipped_rules : ℕ → Rules → Rules
flipped_rules invert R = record { limit = R.limit; edges = R.edges; live = λ i. flipped invert (R.live i); open_end = R.open_end }

pub record InvertedWindow (g : Settings) (masks : List ℕ) (stop : TestSlice) (w : List TestSlice) : Type 0 where
  pub covered : (closing : Bool) (s : ℕ) → covers (machine g masks) stop closing w s ≡ covers (machine (upright g) masks) (flipped g.invert stop) closing (map (flipped g.invert) w) s
  pub seed : (closing : Bool) → seed_of (machine g masks) stop closing w ≡ seed_of (machine (upright g) masks) (flipped g.invert stop) closing (map (flipped g.invert) w)

pub record InvertedSet (g : Settings) (masks : List ℕ) (R : Rules) (set : List TestSlice) : Type 0 where
  pub seed : (i k : ℕ) → seed_at (machine g masks) R set i k ≡ seed_at (machine (upright g) masks) (flipped_rules g.invert R) (map (flipped g.invert) set) i k
  pub window : (i k : ℕ) → ok (machine g masks) R set i k ≡ ok (machine (upright g) masks) (flipped_rules g.invert R) (map (flipped g.invert) set) i k
