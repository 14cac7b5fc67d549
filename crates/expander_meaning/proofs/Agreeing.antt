-- A list of slices agrees with a list of test slices, slice by slice.
--     Agree ts vs       as many, and each agrees
--     agree_append      two such lists one after the other
--     agree_length, agree_at     what it says
-- Assumes nothing.
use mathlib.Core.Path.{◌≡◌, refl, ap}
use mathlib.Core.Bool.{true}
use mathlib.Core.List.{List, [], ◌∷◌, ◌++◌}
use Prim.Native.Nat.{ℕ, zero, suc, ◌<◌}
use native.Mathlib.Nat.{not-suc-le-zero, le_of_suc-le-suc}
use lib.ListN.{length, get_or}
use Rattle.machine_slices.specs.declared.TestSlice.{TestSlice}
use Rattle.machine_slices.specs.Slices.{agrees}

pub data Agree : List TestSlice → List ℕ → Type 0 where
  agree_none : Agree [] []
  agree_more : {t : TestSlice} {v : ℕ} {ts : List TestSlice} {vs : List ℕ} → agrees t v ≡ true → Agree ts vs → Agree (t ∷ ts) (v ∷ vs)

pub agree_append : {ts us : List TestSlice} {vs ws : List ℕ} → Agree ts vs → Agree us ws → Agree (ts ++ us) (vs ++ ws)
agree_append agree_none b = b
agree_append (agree_more h a) b = agree_more h (agree_append a b)

pub agree_length : {ts : List TestSlice} {vs : List ℕ} → Agree ts vs → length vs ≡ length ts
agree_length agree_none = refl
agree_length (agree_more h a) = ap suc (agree_length a)

pub agree_at : {ts : List TestSlice} {vs : List ℕ} → Agree ts vs → (i : ℕ) (t : TestSlice) → i < length ts → agrees (get_or ts i t) (get_or vs i 0) ≡ true
agree_at agree_none i t h = absurd (not-suc-le-zero h)
agree_at (agree_more e a) zero t h = e
agree_at (agree_more e a) (suc i) t h = agree_at a i t (le_of_suc-le-suc h)
