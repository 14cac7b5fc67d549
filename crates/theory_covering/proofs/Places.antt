-- Laws of the places of windows.
--     far_mono, far_larger, far_le     the farthest end rises with the start and with the limit, and stays within the set
--     placed-parts, parts-placed     what a placed window is
--     far_segment            in a segment: its end or the limit
--     segment_closes         in a segment: which windows close with their stop
--     placed-base            in the base: 1 to 256 slices, within the set
--     suffix_placed          the rest of a placed window is placed
--     part_cons              the first slice of a part, and the rest
-- Assumes nothing.
use mathlib.Core.Path.{◌≡◌, refl}
use mathlib.Core.Logic.{◌↔◌, ⊎_elim}
use mathlib.Core.Bool.{Bool, true, false, ◌||◌}
use mathlib.Core.List.{List, [], ◌∷◌}
use Prim.Native.Nat.{ℕ, suc, ◌+◌, ◌-◌, ◌≤◌, ◌<◌, min}
use native.Mathlib.Omega.{arith}
use lib.Dec.{ltb, leb}
use lib.ListN.{length, get_or}
use lib.Seq.{drop-cons}
use borrow.Author.Tests.{ltb-true, ltb-false, leb-true, lt-ltb, le-ltb, le-leb, eq-eqb, ne_eqb}
use Rattle.words_bounded.proofs.Tests.{both, and_yes, lt_or_le}
use Rattle.theory_cutting.specs.Meaning.{Suffix}
use Rattle.machine_settings.specs.declared.Settings.{Settings}
use Rattle.machine_settings.specs.Machine.{base}
use Rattle.machine_slices.specs.declared.TestSlice.{TestSlice}
use Rattle.theory_covering.specs.Rules.{Rules, Raised, segment_rules, rules}
use Rattle.theory_covering.specs.Windows.{part, before, far, placed, closes}

before_mono : (es : List ℕ) (i j m n : ℕ) → i ≤ j → m ≤ n → before es i m ≤ before es j n
unfolding before
before_mono [] i j m n h l = l
before_mono (e ∷ es) i j m n h l = go (ltb i e) (ltb j e) refl refl (before_mono es i j m n h l)
  where
    go : (a b : Bool) → ltb i e ≡ a → ltb j e ≡ b → before es i m ≤ before es j n
        → elim a [ true ↦ min e (before es i m) | false ↦ before es i m ] ≤ elim b [ true ↦ min e (before es j n) | false ↦ before es j n ]
    go true true p q r = omega arith
    go true false p q r = omega arith
    go false true p q r = absurd (omega (arith, ltb-false i e p, ltb-true j e q))
    go false false p q r = r

before_le : (es : List ℕ) (i n : ℕ) → before es i n ≤ n
unfolding before
before_le [] i n = omega arith
before_le (e ∷ es) i n = go (ltb i e) (before_le es i n)
  where
    go : (a : Bool) → before es i n ≤ n → elim a [ true ↦ min e (before es i n) | false ↦ before es i n ] ≤ n
    go true h = omega arith
    go false h = h

far_mono : (R : Rules) (n i j : ℕ) → i ≤ j → far R n i ≤ far R n j
unfolding far
far_mono R n i j h = before_mono R.edges i j (min n (i + R.limit)) (min n (j + R.limit)) h (omega arith)

pub far_larger : (small large : Rules) → Raised small large → (n i : ℕ) → far small n i ≤ far large n i
unfolding far
far_larger small large r n i =
    rw r.edges (before_mono large.edges i i (min n (i + small.limit)) (min n (i + large.limit)) (omega arith) (omega (arith, r.limit)))

pub far_le : (R : Rules) (n i : ℕ) → (far R n i ≤ n) × (far R n i ≤ i + R.limit)
unfolding far
far_le R n i = let b = before_le R.edges i (min n (i + R.limit)) in (omega arith, omega arith)

pub placed-parts : (R : Rules) (n i k : ℕ) → placed R n i k ≡ true → (i < k) × (k ≤ far R n i)
unfolding placed
placed-parts R n i k t =
    let a = both (ltb i k) (leb k (far R n i)) t in
    (ltb-true i k a.0, leb-true k (far R n i) a.1)

pub parts-placed : (R : Rules) (n i k : ℕ) → i < k → k ≤ far R n i → placed R n i k ≡ true
unfolding placed
parts-placed R n i k a b = and_yes (ltb i k) (leb k (far R n i)) (lt-ltb i k a) (le-leb k (far R n i) b)

pub far_segment : (g : Settings) (stop : TestSlice) (closing : Bool) (n i : ℕ) → far (segment_rules g stop closing) n i ≡ min n (i + g.limit)
unfolding far before
far_segment g stop closing n i = refl

pub segment_closes : (g : Settings) (stop : TestSlice) (closing : Bool) (n k : ℕ) → k ≤ n → closes (segment_rules g stop closing) n k ≡ (closing || ltb k n)
unfolding closes
segment_closes g stop true n k h = refl
segment_closes g stop false n k h = ⊎_elim
    (λ l. rw (ne_eqb k n (λ q. omega arith), lt-ltb k n l))
    (λ l. let q : k ≡ n = omega arith in rw (eq-eqb k n q, le-ltb k n l))
    (lt_or_le k n)

pub placed-base : (cells taps : ℕ) (stop : TestSlice) (n i k : ℕ) → (placed (rules (base cells taps) stop) n i k ≡ true) ↔ ((i < k) × (k ≤ n) × (k ≤ i + 256))
unfolding far before
placed-base cells taps stop n i k = (
  λ t. (let p = placed-parts (rules (base cells taps) stop) n i k t in (p.0, (let q = p.1 in omega arith), (let q = p.1 in omega arith))),
  λ h. parts-placed (rules (base cells taps) stop) n i k h.0 (let a = h.1 in let b = h.2 in omega arith),
)

pub suffix_placed : (R : Rules) (n : ℕ) → Suffix (placed R n)
suffix_placed R n i j k le lt t =
    parts-placed R n j k lt (let p = (placed-parts R n i k t).1 in omega (arith, far_mono R n i j le))

pub part_cons {ℓ} : {A : Type ℓ} (l : List A) (i k : ℕ) (d : A) → i < k → k ≤ length l → part i k l ≡ get_or l i d ∷ part (suc i) k l
part_cons l i k d h w = let e : k - i ≡ suc (k - suc i) = omega arith in rw (e, drop-cons l i d (omega arith))
