-- Cubes that are well-formed.
--     CubesFormed g masks specified bits     so they are, but for the stop slice that they do not have yet
use Rattle.std.specs.Prelude.{◌≡◌, false, List, ℕ, length}
use Rattle.words_gf2.specs.Words.{beyond}
use Rattle.machine_settings.specs.declared.Settings.{Settings}
use Rattle.machine_register.specs.Register.{bad_register}
use Rattle.machine_chains.specs.Chains.{bad_chains}
use Rattle.machine_slices.specs.Slices.{bad_slices}
use Rattle.refusal_lengths.specs.Lengths.{bad_limit, bad_set}

pub record CubesFormed (g : Settings) (masks specified bits : List ℕ) : Type 0 where
  pub register : bad_register g.cells g.taps ≡ false
  pub chains : bad_chains g.cells masks ≡ false
  pub invert : beyond (length masks) g.invert ≡ false
  pub limit : bad_limit g.limit ≡ false
  pub lengths : bad_set (length specified) ≡ false
  pub slices : bad_slices (length masks) specified bits ≡ false
