-- Expanding under inverted chains (document 02, R-4): a well-formed list delivers what it delivers without inversion under the flipped stop slice, with the opposite bit at the inverted chains.
--     turned invert vs                 the slices vs with the opposite bit at the inverted chains
--     InvertedList g masks stop n seeds out     the law of the call, where it is well-formed: the same answer, and the slices that are written are turned
use Rattle.std.specs.Prelude.{◌≡◌, List, map, ℕ, take, Ok}
use Rattle.std.specs.Int.Bits.{bit_xor}
use Rattle.machine_settings.specs.declared.Settings.{Settings}
use Rattle.machine_slices.specs.declared.TestSlice.{TestSlice}
use Rattle.machine_inversion.specs.Inversion.{flipped, upright}
use Rattle.expander_meaning.specs.Expanding.{expand_list}

abbrev pub turned : ℕ → List ℕ → List ℕ
turned invert vs = map (λ (v : ℕ). bit_xor v invert) vs

pub record InvertedList (g : Settings) (masks : List ℕ) (stop : TestSlice) (n : ℕ) (seeds out : List ℕ) : Type 0 where
  pub answer : (expand_list g masks stop n seeds out).answer ≡ (expand_list (upright g) masks (flipped g.invert stop) n seeds out).answer
  pub slices : (m : ℕ) → (expand_list g masks stop n seeds out).answer ≡ Ok m
      → take m (expand_list g masks stop n seeds out).buffer ≡ turned g.invert (take m (expand_list (upright g) masks (flipped g.invert stop) n seeds out).buffer)
