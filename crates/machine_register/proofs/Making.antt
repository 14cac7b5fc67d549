-- What the constructor's answer says of cells and taps (`made_of`).
--     made_register     a register that is made is lawful, and has these cells and taps
--     made_refused      what is refused is cause 1
-- Assumes nothing.
use Rattle.std.specs.Prelude.{Err, Ok, Result}
use mathlib.Core.Bool.{Bool, true, false}
use mathlib.Core.Path.{◌≡◌, refl}
use Prim.Native.Nat.{ℕ}
use native.Mathlib.Omega.{arith}
use Rattle.refusal_causes.specs.declared.Cause.{Cause}
use Rattle.refusal_causes.specs.declared.Cause.TheVariants as cause
use Rattle.machine_register.specs.Register.{bad_register, made_of}
use Rattle.machine_register.specs.declared.Register.{Register}

module _ (cells taps : ℕ) where
  abbrev answer : Bool → Result Register Cause
  answer b = elim b [ true ↦ Err cause.Register | false ↦ Ok (record { cells = cells; taps = taps }) ]

  pub made_register : (r : Register) → made_of cells taps ≡ Ok r → (bad_register cells taps ≡ false) × (r ≡ record { cells = cells; taps = taps })
  unfolding made_of
  made_register r e = go (bad_register cells taps) e
    where
      go : (b : Bool) → answer b ≡ Ok r → (b ≡ false) × (r ≡ record { cells = cells; taps = taps })
      go true e = absurd (let z : ◌≡◌ {A = ℕ} 0 1 = cc in omega arith)
      go false e = (refl, cc)

  pub made_refused : (c : Cause) → made_of cells taps ≡ Err c → (bad_register cells taps ≡ true) × (c ≡ cause.Register)
  unfolding made_of
  made_refused c e = go (bad_register cells taps) e
    where
      go : (b : Bool) → answer b ≡ Err c → (b ≡ true) × (c ≡ cause.Register)
      go true e = (refl, cc)
      go false e = absurd (let z : ◌≡◌ {A = ℕ} 0 1 = cc in omega arith)
