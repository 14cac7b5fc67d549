-- Laws of pulled-back masks and of the rows of a table.
--     pull_even, pull-odd     a mask pulled back, by its lowest cell
--     rows-length      so many rows of so many masks
--     rows_row         row t is the masks pulled back through t steps
--     rows_first, rows_next     an entry of the first row; an entry below another is that one pulled back
-- Assumes nothing.
use mathlib.Core.Path.{◌≡◌, refl, sym, ap, ◌∙◌}
use mathlib.Core.List.{List, [], ◌∷◌, ◌++◌, map, map-append, append-nil, append_assoc}
use Prim.Native.Nat.{ℕ, zero, suc, ◌+◌, ◌-◌, ◌*◌, ◌/◌, ◌%◌, ◌≤◌, ◌<◌}
use native.Mathlib.Nat.{suc-mul, zero-mul, mul-zero}
use native.Mathlib.Omega.{arith}
use lib.Bits.{bit_xor, xor_zero_r}
use lib.ListN.{get_or, length, take, drop, length-append, length-map, get_or-append}
use lib.Seq.{get_or-append-add, take-append_seam, drop-append-add}
use Rattle.machine_register.specs.Register.{pull, pulls}
use Rattle.search_table.specs.Rows.{rows_of}

pub pull-odd : (taps m : ℕ) → m % 2 ≡ 1 → bit_xor (m / 2) taps ≡ pull taps m
unfolding pull
pull-odd taps m e = rw e (ap (bit_xor (m / 2)) (omega arith))

pub pull_even : (taps m : ℕ) → (m % 2 ≡ 1 → ⊥) → m / 2 ≡ pull taps m
unfolding pull
pull_even taps m n =
    let e : m % 2 ≡ 0 = omega arith in
    sym (xor_zero_r (m / 2)) ∙ rw e (ap (bit_xor (m / 2)) (sym (mul-zero taps)))

map-pull : (taps t : ℕ) (ms : List ℕ) → map (pulls taps t) (map (pull taps) ms) ≡ map (pulls taps (suc t)) ms
unfolding pulls
map-pull taps t [] = refl
map-pull taps t (m ∷ ms) = ap (λ (l : List ℕ). pulls taps t (pull taps m) ∷ l) (map-pull taps t ms)

map-none : (taps : ℕ) (ms : List ℕ) → map (pulls taps 0) ms ≡ ms
unfolding pulls
map-none taps [] = refl
map-none taps (m ∷ ms) = ap (λ (l : List ℕ). m ∷ l) (map-none taps ms)

get_d_map : (f : ℕ → ℕ) (l : List ℕ) (i : ℕ) → i < length l → get_or (map f l) i 0 ≡ f (get_or l i 0)
get_d_map f [] i h = absurd (omega arith)
get_d_map f (x ∷ l) zero h = refl
get_d_map f (x ∷ l) (suc i) h = get_d_map f l i (omega arith)

module _ (taps : ℕ) where
  pub rows-length : (n : ℕ) (ms : List ℕ) → length (rows_of taps n ms) ≡ n * length ms
  unfolding rows_of
  rows-length zero ms = sym (zero-mul (length ms))
  rows-length (suc n) ms =
      length-append ms (rows_of taps n (map (pull taps) ms))
      ∙ omega (arith, rows-length n (map (pull taps) ms), ap (λ (k : ℕ). n * k) (length-map ms (pull taps)), suc-mul n (length ms))

  pub rows_row : (n t : ℕ) (ms rest : List ℕ) → t < n → take (length ms) (drop (t * length ms) (rows_of taps n ms ++ rest)) ≡ map (pulls taps t) ms
  unfolding rows_of
  rows_row zero t ms rest h = absurd (omega arith)
  rows_row (suc n) zero ms rest h =
      rw (zero-mul (length ms), append_assoc ms (rows_of taps n (map (pull taps) ms)) rest) (take-append_seam ms (rows_of taps n (map (pull taps) ms) ++ rest) ∙ sym (map-none taps ms))
  rows_row (suc n) (suc t) ms rest h =
      let c : ℕ = length ms in
      let e : suc t * c ≡ c + t * c = omega (arith, suc-mul t c) in
      let l : length (map (pull taps) ms) ≡ c = length-map ms (pull taps) in
      let tail : List ℕ = rows_of taps n (map (pull taps) ms) ++ rest in
      let ih = rows_row n t (map (pull taps) ms) rest (omega arith) in
      rw (e, append_assoc ms (rows_of taps n (map (pull taps) ms)) rest, drop-append-add ms tail (t * c))
      ((rw l at ih) ∙ map-pull taps t ms)

  rows_pulled : (n : ℕ) (ms : List ℕ) → rows_of taps n (map (pull taps) ms) ≡ map (pull taps) (rows_of taps n ms)
  unfolding rows_of
  rows_pulled zero ms = refl
  rows_pulled (suc n) ms =
      ap (λ (l : List ℕ). map (pull taps) ms ++ l) (rows_pulled n (map (pull taps) ms)) ∙ sym (map-append (pull taps) ms (rows_of taps n (map (pull taps) ms)))

  -- one row more, at the end
  rows_last : (n : ℕ) (ms : List ℕ) → rows_of taps (suc n) ms ≡ rows_of taps n ms ++ map (pulls taps n) ms
  unfolding rows_of
  rows_last zero ms = append-nil ms ∙ sym (map-none taps ms)
  rows_last (suc n) ms =
      ap (λ (l : List ℕ). ms ++ l) (rows_last n (map (pull taps) ms))
      ∙ sym (append_assoc ms (rows_of taps n (map (pull taps) ms)) (map (pulls taps n) (map (pull taps) ms)))
      ∙ ap (λ (l : List ℕ). (ms ++ rows_of taps n (map (pull taps) ms)) ++ l) (map-pull taps n ms)

  pub rows_first : (n : ℕ) (ms : List ℕ) (i : ℕ) → i < n * length ms → i < length ms → get_or (rows_of taps n ms) i 0 ≡ get_or ms i 0
  unfolding rows_of
  rows_first zero ms i h l = absurd (omega (arith, zero-mul (length ms)))
  rows_first (suc n) ms i h l = get_or-append ms (rows_of taps n (map (pull taps) ms)) 0 i l

  pub rows_next : (n : ℕ) (ms : List ℕ) (i : ℕ) → i < n * length ms → length ms ≤ i → get_or (rows_of taps n ms) i 0 ≡ pull taps (get_or (rows_of taps n ms) (i - length ms) 0)
  unfolding rows_of
  rows_next zero ms i h l = absurd (omega (arith, zero-mul (length ms)))
  rows_next (suc n) ms i h l =
      let j : ℕ = i - length ms in
      let e : i ≡ length ms + j = omega arith in
      let k : j < length (rows_of taps n ms) = omega (arith, rows-length n ms, suc-mul n (length ms)) in
      ap (λ (x : ℕ). get_or (rows_of taps (suc n) ms) x 0) e
      ∙ get_or-append-add ms (rows_of taps n (map (pull taps) ms)) j 0
      ∙ ap (λ (x : List ℕ). get_or x j 0) (rows_pulled n ms)
      ∙ get_d_map (pull taps) (rows_of taps n ms) j k
      ∙ ap (pull taps) (sym (get_or-append (rows_of taps n ms) (map (pulls taps n) ms) 0 j k) ∙ ap (λ (x : List ℕ). get_or x j 0) (sym (rows_last n ms)))
