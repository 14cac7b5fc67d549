-- The windows of a segment of a set are those of the segment by itself: so a set may be cut segment by segment.
--     Segment R n from to stop closing     between the places from and to of a set of n slices no window crosses an end, the stop is live, and a window that ends there closes with it where `closing` says so
--     segment_ok                           a window from within the segment passes exactly where it passes in the slices up to the segment's end, under the segment's own rules
--     whole_segment                        under the rules of a set the whole set is one segment
-- Assumes nothing.
use mathlib.Core.Path.{◌≡◌, refl, sym, ap, ◌∙◌}
use mathlib.Core.Logic.{⊎_elim}
use mathlib.Core.Bool.{Bool, true, false, ◌&&◌, and-false, or-true, or-false}
use mathlib.Core.List.{List, [], ◌∷◌}
use Prim.Native.Nat.{ℕ, zero, suc, ◌+◌, ◌-◌, ◌≤◌, ◌<◌, min}
use native.Mathlib.Omega.{arith}
use lib.ListN.{length, take, drop}
use lib.Seq.{length-take-le, take-take}
use borrow.Author.Tests.{eq-eqb, ne_eqb, lt-ltb, le-ltb}
use Rattle.words_bounded.proofs.Tests.{lt_or_le}
use Rattle.machine_settings.specs.declared.Settings.{Settings}
use Rattle.machine_settings.specs.Machine.{Machine}
use Rattle.machine_slices.specs.declared.TestSlice.{TestSlice}
use Rattle.theory_covering.specs.Rules.{Rules, segment_rules, rules}
use Rattle.theory_covering.specs.Windows.{part, far as far_of, placed, closes, seed_at, found, ok}
use Rattle.theory_covering.proofs.Places.{far_segment, segment_closes, placed-parts}

pub record Segment (R : Rules) (n from to : ℕ) (stop : TestSlice) (closing : Bool) : Type 0 where
  pub within : to ≤ n
  pub far : (i : ℕ) → from ≤ i → i < to → far_of R n i ≡ min to (i + R.limit)
  pub live : (i : ℕ) → from ≤ i → i < to → R.live i ≡ stop
  pub closed : closes R n to ≡ closing

front-drop {ℓ} : {A : Type ℓ} (l : List A) (i m n : ℕ) → i + m ≤ n → take m (drop i (take n l)) ≡ take m (drop i l)
front-drop l zero m n h = take-take m n l (omega arith)
front-drop [] (suc i) m zero h = refl
front-drop [] (suc i) m (suc n) h = refl
front-drop (x ∷ l) (suc i) m zero h = absurd (omega arith)
front-drop (x ∷ l) (suc i) m (suc n) h = front-drop l i m n (omega arith)

module _ (M : Machine) (R : Rules) (g : Settings) (set : List TestSlice) (from to : ℕ) (stop : TestSlice) (closing : Bool) (same : g.limit ≡ R.limit) (s : Segment R (length set) from to stop closing) where
  abbrev n : ℕ
  n = length set

  abbrev S : Rules
  S = segment_rules g stop closing

  abbrev front : List TestSlice
  front = take to set

  size : length front ≡ to
  size = length-take-le to set s.within

  -- a window that ends before the segment does not end the set either
  closes-same : (k : ℕ) → k ≤ to → closes R n k ≡ closes S (length front) k
  unfolding closes
  closes-same k h = rw (size, segment_closes g stop closing to k h) (⊎_elim
      (λ l. rw (ne_eqb k n (λ q. omega (arith, s.within)), and-false, lt-ltb k to l, or-true))
      (λ l. let e : k ≡ to = omega arith in rw (e, le-ltb to to (omega arith), or-false) s.closed)
      (lt_or_le k to))

  module _ (i : ℕ) (a : from ≤ i) (b : i < to) where
    far-same : far_of R n i ≡ far_of S (length front) i
    far-same = s.far i a b ∙ ap (λ (l : ℕ). min to (i + l)) (sym same) ∙ sym (far_segment g stop closing to i) ∙ ap (λ (m : ℕ). far_of S m i) (sym size)

    placed_same : (k : ℕ) → placed R n i k ≡ placed S (length front) i k
    unfolding placed
    placed_same k = rw far-same

    -- the seed of a placed window is found in both
    seed-same : (k : ℕ) → placed R n i k ≡ true → seed_at M R set i k ≡ seed_at M S front i k
    unfolding seed_at
    seed-same k p =
        let q = placed-parts R n i k p in
        let h : k ≤ to = (let f = s.far i a b in let l = q.1 in omega arith) in
        let e : part i k front ≡ part i k set = front-drop set i (k - i) to (let l = q.0 in omega arith) in
        rw (s.live i a b, closes-same k h, e)

    pub segment_ok : (k : ℕ) → ok M R set i k ≡ ok M S front i k
    unfolding ok
    segment_ok k = go (placed R n i k) refl
      where
        go : (c : Bool) → placed R n i k ≡ c → (placed R n i k && found (seed_at M R set i k)) ≡ (placed S (length front) i k && found (seed_at M S front i k))
        go true e = rw (← (placed_same k), e) (ap found (seed-same k e))
        go false e = rw (← (placed_same k), e)

pub whole_segment : (g : Settings) (stop : TestSlice) (n : ℕ) → Segment (rules g stop) n 0 n stop false
unfolding closes
whole_segment g stop n = record { within = omega arith; far = λ i a b. far_segment g stop false n i; live = λ i a b. refl; closed = rw (eq-eqb n n refl) }
