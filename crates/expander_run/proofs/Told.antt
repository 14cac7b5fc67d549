-- What the answer for one seed says of what it delivers.
--     told-count, told_refused     a number; a cause
-- Assumes nothing.
use Rattle.std.specs.Prelude.{Err, Ok}
use mathlib.Core.Path.{◌≡◌}
use Prim.Native.Nat.{ℕ}
use native.Mathlib.Omega.{arith}
use Rattle.refusal_causes.specs.declared.Cause.{Cause}
use Rattle.expander_meaning.specs.Run.{Given, gives, fails}
use Rattle.expander_run.specs.Told.{told}

pub told-count : (d : Given) (m : ℕ) → told d ≡ Ok m → d ≡ gives m
unfolding told
told-count (gives k) m e = cc
told-count (fails c) m e = absurd (let z : ◌≡◌ {A = ℕ} 0 1 = cc in omega arith)

pub told_refused : (d : Given) (c : Cause) → told d ≡ Err c → d ≡ fails c
unfolding told
told_refused (gives k) c e = absurd (let z : ◌≡◌ {A = ℕ} 0 1 = cc in omega arith)
told_refused (fails d) c e = cc
