-- The lines of slices, one by one, and how long they are.
--     slices_go, slices_end    the lines of the slices from i on
--     slices_length, slices_bound      a slice line for each slice
-- Assumes nothing.
use mathlib.Core.Path.{◌≡◌}
use mathlib.Core.List.{List, [], ◌∷◌, ◌++◌}
use Prim.Native.Nat.{ℕ, ◌+◌, ◌-◌, ◌^◌, ◌≤◌, ◌<◌, ◌*◌}
use native.Mathlib.Numerals.{add-one}
use native.Mathlib.Omega.{arith}
use lib.ListN.{length, get_or, drop, drop_of_length-le, length-append}
use lib.Seq.{drop-cons}
use native.Mathlib.Nat.{mul-le-mul}
use Rattle.text_keys.specs.Bytes.{bytes}
use Rattle.text_keys.specs.Keys.{rows, row_at, name}
use Rattle.text_write_characters.specs.Characters.{slice_line}
use Rattle.machine_slices.specs.Slices.{full}
use Rattle.text_write_slices.specs.Slices.{slice_lines}
use Rattle.text_write_characters.proofs.Characters.{slice-length}

module _ (n : ℕ) (vs : List ℕ) (i : ℕ) where
  pub slices_go : (specified : ℕ) → specified ≡ 2 ^ n - 1 → i < length vs → slice_lines n (drop i vs) ≡ slice_line n (bytes "slice=") (record { specified = specified; bits = get_or vs i 0 }) ++ slice_lines n (drop (i + 1) vs)
  unfolding slice_lines name row_at rows
  slices_go specified e h = rw (e, drop-cons vs i 0 h, add-one)

  pub slices_end : length vs ≤ i → slice_lines n (drop i vs) ≡ []
  unfolding slice_lines
  slices_end h = rw (drop_of_length-le vs h)

slices_length : (n : ℕ) (vs : List ℕ) → length (slice_lines n vs) ≡ (n + 7) * length vs
unfolding slice_lines name row_at rows
slices_length n [] = omega arith
slices_length n (v ∷ vs) = omega (arith, slice-length n (bytes "slice=") (full n v), slices_length n vs, length-append (slice_line n (bytes "slice=") (full n v)) (slice_lines n vs))

pub slices_bound : (n : ℕ) (vs : List ℕ) → n ≤ 64 → length vs ≤ 2048 → length (slice_lines n vs) ≤ 145408
slices_bound n vs h g =
    let m : (n + 7) * length vs ≤ 71 * 2048 = mul-le-mul {n₁ = n + 7} {n₂ = 71} (omega arith) g in
    omega (arith, slices_length n vs)
