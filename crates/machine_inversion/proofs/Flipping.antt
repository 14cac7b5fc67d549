-- The loop that flips the bits of test slices.
--     Flipping invert ps bs out₀ i out     the first i bits are flipped into the buffer; every other entry is as it was
--     flipping_start, flipping_step, flipping_end     its laws
-- Assumes nothing.
use mathlib.Core.Path.{◌≡◌, refl, sym, ap, ◌∙◌}
use mathlib.Core.List.{List, [], ◌++◌}
use Prim.Native.Nat.{ℕ, ◌+◌, ◌≤◌, ◌<◌}
use native.Mathlib.Omega.{arith}
use native.Mathlib.Numerals.{add-one}
use lib.ListN.{length, get_or, drop, set, length-set, drop_of_length-le}
use lib.Seq.{sets, drop-cons, sets-eq}
use Rattle.machine_inversion.specs.Inversion.{flipped, flipped_bits}
use Rattle.machine_inversion.proofs.Inversion.{flipped-length}

pub record Flipping (invert : ℕ) (ps bs out₀ : List ℕ) (i : ℕ) (out : List ℕ) : Type 0 where
  pub place : i ≤ length bs
  pub size : length out ≡ length out₀
  pub rest : sets out₀ 0 (flipped_bits invert ps bs) ≡ sets out i (flipped_bits invert (drop i ps) (drop i bs))

module _ (invert : ℕ) (ps bs out₀ : List ℕ) (same : length ps ≡ length bs) where
  pub flipping_start : Flipping invert ps bs out₀ 0 out₀
  flipping_start = record { place = omega arith; size = refl; rest = refl }

  pub flipping_step : (i : ℕ) (out : List ℕ) → i < length bs → Flipping invert ps bs out₀ i out
      → Flipping invert ps bs out₀ (i + 1) (set out i (flipped invert (record { specified = get_or ps i 0; bits = get_or bs i 0 })).bits)
  unfolding flipped_bits
  flipping_step i out h f = record {
    place = omega arith;
    size = length-set out i _ ∙ f.size;
    rest = f.rest ∙ rw (drop-cons ps i 0 (omega arith), drop-cons bs i 0 h, flipped_bits, add-one);
  }

  pub flipping_end : (i : ℕ) (out : List ℕ) → length bs ≤ i → length bs ≤ length out₀ → Flipping invert ps bs out₀ i out
      → out ≡ flipped_bits invert ps bs ++ drop (length bs) out₀
  unfolding flipped_bits
  flipping_end i out h room f =
      let none : flipped_bits invert (drop i ps) (drop i bs) ≡ [] = rw (drop_of_length-le ps {i = i} (omega arith)) in
      let whole : sets out₀ 0 (flipped_bits invert ps bs) ≡ out = f.rest ∙ ap (λ (l : List ℕ). sets out i l) none in
      let many = flipped-length invert ps bs same in
      sym whole ∙ sets-eq (flipped_bits invert ps bs) out₀ 0 (omega arith) ∙ ap (λ (n : ℕ). flipped_bits invert ps bs ++ drop n out₀) (let z : 0 + length (flipped_bits invert ps bs) ≡ length bs = omega (arith, many) in z)
