-- What the functions that take out a pivot compute, as their loops go.
--     place_none, placed         without the place of an odd vector there is no pivot; otherwise the pivot stands there
--     Written, close-next, close_end     the vectors after it moved down, one by one: what is left to write, written from here, is the whole
--     closed                     so the vectors that are left come first
--     taken_none, taken_some     the answer of `take_out`
--     taken-left                 the vectors that are left, read off the buffer
--     splits_is                  the answer of `splits`
-- Assumes nothing.
use mathlib.Core.Path.{◌≡◌, refl, sym, ap, ◌∙◌, subst}
use mathlib.Core.Logic.{⊎_elim}
use mathlib.Core.List.{List, [], ◌∷◌, ◌++◌, map, append_assoc}
use Prim.Native.Nat.{ℕ, suc, ◌+◌, ◌-◌, ◌≤◌, ◌<◌, min}
use native.Mathlib.Numerals.{add-one}
use native.Mathlib.Omega.{arith}
use Rattle.std.specs.Prelude.{Option, None, Some, is_some, eqb, ltb}
use Rattle.std.specs.List.{position_from}
use Rattle.std.proofs.lemmas.Option.{none-some, same_Some}
use lib.ListN.{take-append-drop, get_or, length, take, drop, set, length-append, length-drop, length-map, drop_of_length-le}
use lib.Seq.{take_at, sets, sets-eq, drop-cons, drop-set-lt, get_or-take, length-take-le, take-take, take-set-lt}
use borrow.Author.Tests.{eq-eqb, ne_eqb, lt-ltb}
use Rattle.words_bounded.proofs.Front.{take-lesser}
use Rattle.words_gf2.specs.Words.{odd}
use Rattle.search_pivot.specs.Pivot.{added, pivot, without}
use Rattle.search_pivot.specs.FirstOdd.{first_odd}
use Rattle.search_pivot.specs.declared.Taken.{Taken}
use Rattle.search_pivot.proofs.Pivot.{odd_some, parity, pivot_even, pivot-odd, without_even, without-odd}

module _ (mask : ℕ) where
  -- the place of the first odd vector, where the first of them has the place k
  abbrev from : ℕ → List ℕ → Option ℕ
  from k vs = position_from (λ v. eqb (odd v mask) 1) k vs

  here : (k v : ℕ) (vs : List ℕ) → odd v mask ≡ 1 → from k (v ∷ vs) ≡ Some k
  here k v vs e = rw (eq-eqb (odd v mask) 1 e)

  later : (k v : ℕ) (vs : List ℕ) → odd v mask ≡ 0 → from k (v ∷ vs) ≡ from (k + 1) vs
  later k v vs e = rw (ne_eqb (odd v mask) 1 (omega arith))

  place_none : (vs : List ℕ) (k : ℕ) → from k vs ≡ None → (pivot mask vs ≡ 0) × (without mask vs ≡ vs)
  unfolding pivot without
  place_none [] k q = (refl, refl)
  place_none (v ∷ vs) k q = ⊎_elim
      (λ e. (let r = place_none vs (k + 1) (sym (later k v vs e) ∙ q) in (pivot_even mask v vs e ∙ r.0, without_even mask v vs e ∙ ap (λ (l : List ℕ). v ∷ l) r.1)))
      (λ e. absurd (none-some k (sym q ∙ here k v vs e)))
      (parity mask v)

  -- what the place of the first odd vector says of the list
  abbrev Stands : List ℕ → ℕ → Type 0
  Stands vs i = (pivot mask vs ≡ get_or vs i 0) × (without mask vs ≡ take i vs ++ map (added mask (get_or vs i 0)) (drop (suc i) vs))

  place_some : (vs : List ℕ) (k i : ℕ) → from k vs ≡ Some i → (k ≤ i) × (i - k < length vs) × Stands vs (i - k)
  place_some [] k i q = absurd (none-some i q)
  place_some (v ∷ vs) k i q = ⊎_elim
      (λ e.
      let r = place_some vs (k + 1) i (sym (later k v vs e) ∙ q) in
      let s : i - k ≡ suc (i - (k + 1)) = omega (arith, r.0) in
      (omega (arith, r.0), omega (arith, r.1), rw s (pivot_even mask v vs e ∙ r.2.0, without_even mask v vs e ∙ ap (λ (l : List ℕ). v ∷ l) r.2.1)))
      (λ e.
      let p : k ≡ i = same_Some k i (sym (here k v vs e) ∙ q) in
      let z : i - k ≡ 0 = omega arith in
      (omega arith, omega arith, rw z (pivot-odd mask v vs e, without-odd mask v vs e)))
      (parity mask v)

  placed : (vs : List ℕ) (i : ℕ) → first_odd mask vs ≡ Some i → (i < length vs) × Stands vs i
  placed vs i q =
      let r = place_some vs 0 i q in
      let e : i - 0 ≡ i = omega arith in
      subst (λ (j : ℕ). (j < length vs) × Stands vs j) e (r.1, r.2)

  -- there is one where the pivot is not 0
  some_pivot : (vs : List ℕ) (k : ℕ) → is_some (from k vs) ≡ ltb 0 (pivot mask vs)
  unfolding pivot
  some_pivot [] k = refl
  some_pivot (v ∷ vs) k = ⊎_elim
      (λ e. rw (later k v vs e, pivot_even mask v vs e) (some_pivot vs (k + 1)))
      (λ e. (let n : 0 < v = nonzero v (odd_some mask v e) in rw (here k v vs e, pivot-odd mask v vs e) (sym (lt-ltb 0 v n))))
      (parity mask v)
    where
      nonzero : (v : ℕ) → (v ≡ 0 → ⊥) → 0 < v
      nonzero v n = omega arith

-- ---- the vectors after the pivot moved down

module _ (g : ℕ → ℕ) (f : ℕ) where
  -- what is left to write, written from here
  abbrev pub Written : List ℕ → ℕ → List ℕ
  Written z j = sets z (j - 1) (map g (drop j (take f z)))

  pub close-next : (z : List ℕ) (j : ℕ) → 0 < j → j < f → f ≤ length z → Written (set z (j - 1) (g (get_or z j 0))) (j + 1) ≡ Written z j
  close-next z j p h l =
      let w : ℕ = g (get_or z j 0) in
      let k : j - 1 < f = omega arith in
      let e : drop (suc j) (take f (set z (j - 1) w)) ≡ drop (suc j) (take f z) = ap (drop (suc j)) (take-set-lt f z (j - 1) w k) ∙ drop-set-lt (suc j) (take f z) (j - 1) w (omega arith) in
      let r : drop j (take f z) ≡ get_or z j 0 ∷ drop (suc j) (take f z) = drop-cons (take f z) j 0 (rw (length-take-le f z l) h) ∙ ap (λ (x : ℕ). x ∷ drop (suc j) (take f z)) (get_or-take f z j 0 h) in
      let n : j + 1 - 1 ≡ suc (j - 1) = omega arith in
      rw (n, add-one j, e, r)

  pub close_end : (z : List ℕ) (j : ℕ) → f ≤ j → f ≤ length z → Written z j ≡ z
  close_end z j h l =
      let e : drop j (take f z) ≡ [] = drop_of_length-le (take f z) {i = j} (omega (arith, length-take-le f z l)) in
      rw e

-- the vectors that are left come first, then every other entry as it was
pub closed : (mask : ℕ) (vs : List ℕ) (f i : ℕ) → f ≤ length vs → i < f → first_odd mask (take f vs) ≡ Some i
    → Written (added mask (get_or vs i 0)) f vs (i + 1) ≡ without mask (take f vs) ++ drop (length (without mask (take f vs))) vs
closed mask vs f i l h q =
    let n : length (take f vs) ≡ f = length-take-le f vs l in
    let w = (placed mask (take f vs) i q).1.1 in
    let g = get_or-take f vs i 0 h in
    let xs : List ℕ = map (added mask (get_or vs i 0)) (drop (suc i) (take f vs)) in
    let m : length xs ≡ f - suc i = length-map (drop (suc i) (take f vs)) (added mask (get_or vs i 0)) ∙ length-drop (suc i) (take f vs) ∙ rw n in
    let e : without mask (take f vs) ≡ take i vs ++ xs = w ∙ rw (take-take i f vs (omega arith), g) in
    let len : length (without mask (take f vs)) ≡ i + length xs = ap length e ∙ length-append (take i vs) xs ∙ rw (length-take-le i vs (omega arith)) in
    let k : i + 1 - 1 ≡ i = omega arith in
    rw (k, add-one i) (sets-eq xs vs i (omega arith) ∙ rw (len, e, append_assoc))

-- ---- the answer of `take_out`; n is the number of vectors that there are

module _ (mask f : ℕ) (vs : List ℕ) (n : ℕ) (count : n ≡ min f (length vs)) where
  abbrev L : List ℕ
  L = take f vs

  whole : take n vs ≡ L
  whole = ap (λ (k : ℕ). take k vs) count ∙ take-lesser f vs

  pub taken_none : first_odd mask (take n vs) ≡ None → (0 ≡ pivot mask L) × (n ≡ length (without mask L)) × (vs ≡ without mask L ++ drop (length (without mask L)) vs)
  taken_none q =
      let len : length (take n vs) ≡ n = length-take-le n vs (omega arith) in
      let r = place_none mask (take n vs) 0 q in
      let e : without mask L ≡ take n vs = ap (without mask) (sym whole) ∙ r.1 in
      let k : n ≡ length (without mask L) = sym (ap length e ∙ len) in
      (sym r.0 ∙ ap (pivot mask) whole, k, sym (take-append-drop n vs) ∙ rw (sym k, e))

  pub taken_some : (i : ℕ) → first_odd mask (take n vs) ≡ Some i
      → (get_or vs i 0 ≡ pivot mask L) × (n - 1 ≡ length (without mask L))
      × (sets vs i (map (added mask (get_or vs i 0)) (drop (i + 1) (take n vs))) ≡ without mask L ++ drop (length (without mask L)) vs)
  taken_some i q =
      let len : length (take n vs) ≡ n = length-take-le n vs (omega arith) in
      let s = placed mask (take n vs) i q in
      let h : i < n = omega (arith, s.0) in
      let r = s.1 in
      let p : pivot mask L ≡ get_or vs i 0 = ap (pivot mask) (sym whole) ∙ r.0 ∙ get_or-take n vs i 0 h in
      let k : i + 1 - 1 ≡ i = omega arith in
      let c = closed mask vs n i (omega arith) h q in
      let d : without mask L ≡ without mask (take n vs) = ap (without mask) (sym whole) in
      let g : ℕ → ℕ = added mask (get_or (take n vs) i 0) in
      let m : length (without mask (take n vs)) ≡ n - 1 =
      ap length r.1
      ∙ length-append (take i (take n vs)) (map g (drop (suc i) (take n vs)))
      ∙ rw (length-map (drop (suc i) (take n vs)) g, length-drop (suc i) (take n vs), length-take-le i (take n vs) (omega arith), len) (omega arith) in
      (sym p, rw d (sym m), rw d (rw k at c))

-- the vectors that are left, read off the buffer
pub taken-left : (mask : ℕ) (vs out rest : List ℕ) (t : Taken) → t ≡ record { pivot = pivot mask vs; left = length (without mask vs) }
    → out ≡ without mask vs ++ rest → take t.left out ≡ without mask vs
taken-left mask vs out rest t e q = rw (e, q) (take_at (without mask vs) rest (length (without mask vs)) refl)

-- ---- the answer of `splits`

pub splits_is : (mask f : ℕ) (vs : List ℕ) (n : ℕ) → n ≡ min f (length vs) → is_some (first_odd mask (take n vs)) ≡ ltb 0 (pivot mask (take f vs))
splits_is mask f vs n count = some_pivot mask (take n vs) 0 ∙ ap (λ (l : List ℕ). ltb 0 (pivot mask l)) (whole mask f vs n count)
