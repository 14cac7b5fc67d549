-- A larger limit of windows, for cubes (document 02, R-3).
--     LargerCubes g masks depth specified bits out     their stop slice is the same with every limit, and the answer with a larger one is no worse: `larger_cubes` of proofs/Limits
use Rattle.encoder_meaning.specs.Encoding.{seeds_with}
use Rattle.std.specs.Prelude.{◌≡◌, List, ℕ, length, Some, Err}
use Rattle.machine_settings.specs.declared.Settings.{Settings}
use Rattle.machine_slices.specs.declared.TestSlice.{TestSlice}
use Rattle.machine_slices.specs.Slices.{paired}
use Rattle.stop_steps.specs.Steps.{stop_for}
use Rattle.encoder_meaning.specs.Limits.{NoWorse, with_limit, Larger}
use Rattle.encoder_cubes.specs.Cubes.{encode_cubes}

abbrev pub LargerCubes : Settings → List ℕ → ℕ → List ℕ → List ℕ → List ℕ → Type 0
LargerCubes g masks depth specified bits out = (limit : ℕ) → Larger g limit → (stop : TestSlice) → stop_for (length masks) (paired specified bits) ≡ Some stop
    → NoWorse (seeds_with stop) Err (encode_cubes g masks depth specified bits out).answer (encode_cubes (with_limit limit g) masks depth specified bits out).answer
