-- Register and chains together, and the settings of a call (document 01, "Register and chains", and "Covering and cutting" on the longest window; document 02, R-3 and R-4).
--     default_limit              the most slices of a window where no limit is given
--     none_inverted              the inverted chains where none are given
--     base cells taps           the settings of document 01: no limit and no inverted chains are given
--     register_of g              the register of the settings, by its cells and taps
--     Machine                   what covering, cutting and expanding see of register and chains: the states are the numbers below `states`; the slice and the next state of each
--     machine_with               the machine of a register, its chains and its inverted chains
--     machine g masks           the machine of a call's settings and chains
--     bad_chains_of g masks       cause 2 of a call with settings: its chains, or an inverted chain that is none of them
use Rattle.std.specs.Prelude.{Bool, ◌||◌, List, ℕ, ◌^◌, length}
use Rattle.std.specs.Int.Bits.{bit_xor}
use Rattle.words_gf2.specs.Words.{beyond}
use Rattle.machine_register.specs.Register.{step}
use Rattle.machine_register.specs.declared.Register.{Register}
use Rattle.machine_chains.specs.Chains.{slice, bad_chains}
use Rattle.machine_settings.specs.declared.Settings.{Settings}

abbrev pub default_limit : ℕ
default_limit = 256

abbrev pub none_inverted : ℕ
none_inverted = 0

abbrev pub base : ℕ → ℕ → Settings
base cells taps = record { cells = cells; taps = taps; limit = default_limit; invert = none_inverted }

abbrev pub register_of : Settings → Register
register_of g = record { cells = g.cells; taps = g.taps }

pub record Machine : Type 0 where
  pub states : ℕ
  pub slice : ℕ → ℕ
  pub step : ℕ → ℕ

-- The one place where a slice is formed. invert: the chains that deliver the opposite bit, in slice weights.
abbrev pub machine_with : ℕ → ℕ → List ℕ → ℕ → Machine
machine_with cells taps masks invert = record {
  states = 2 ^ cells;
  slice = λ s. bit_xor (slice masks s) invert;
  step = λ s. step cells taps s;
}

abbrev pub machine : Settings → List ℕ → Machine
machine g masks = machine_with g.cells g.taps masks g.invert

unfoldable pub bad_chains_of : Settings → List ℕ → Bool
bad_chains_of g masks = bad_chains g.cells masks || beyond (length masks) g.invert
