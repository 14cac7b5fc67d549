-- The search for the spare pattern.
--     Passed chains set n           every pattern below n is taken
--     passed_more                   and one more
--     spare-found, spare-none       the answer of a loop that goes up
--     Spared, spared                what a spare pattern is: below 2 ^ chains, not taken, and each smaller one is taken
--     all_taken                     where there is none, every pattern is taken
--     patterns_fit                  no more patterns than slices: their number fits a word
-- Assumes nothing.
use Rattle.std.specs.Prelude.{None, Option, Some}
use mathlib.Core.Path.{◌≡◌, sym, ap}
use mathlib.Core.Logic.{⊎_elim}
use mathlib.Core.Bool.{Bool, true, false, not}
use mathlib.Core.List.{List}
use Prim.Native.Nat.{ℕ, ◌+◌, ◌^◌, ◌≤◌, ◌<◌}
use native.Mathlib.Nat.{eq-or-lt_of_le}
use native.Mathlib.Omega.{arith}
use lib.ListN.{length}
use lib.Pow.{pow_mono}
use borrow.Author.Tests.{not-true, not-false}
use Rattle.words_bounded.specs.Bounded.{any, least_below, NoneBelow}
use Rattle.words_bounded.proofs.Tests.{lt_or_le}
use Rattle.words_bounded.proofs.Search.{LeastIs, least_is, least_of, none_of}
use Rattle.machine_slices.specs.declared.TestSlice.{TestSlice}
use Rattle.machine_slices.specs.Slices.{paired, full}
use Rattle.machine_slices.proofs.Paired.{paired_few}
use Rattle.stop_spare.specs.Spare.{equals, taken, spare, spare_stop}

module _ (chains : ℕ) (set : List TestSlice) where
  abbrev free : ℕ → Bool
  free v = not (taken chains set v)

  abbrev pub Passed : ℕ → Type 0
  Passed n = (v : ℕ) → v < n → taken chains set v ≡ true

  none_free : (n : ℕ) → Passed n → NoneBelow free n
  none_free n p v h = ap not (p v h)

  pub passed_more : (n : ℕ) → Passed n → any (equals (full chains n)) set ≡ true → Passed (n + 1)
  unfolding taken
  passed_more n p t v h =
      let l : v ≤ n = omega arith in
      ⊎_elim (λ e. rw e t) (λ l. p v l) (eq-or-lt_of_le l)

  pub spare-found : (n : ℕ) → n < 2 ^ chains → Passed n → any (equals (full chains n)) set ≡ false → spare_stop chains set ≡ Some (full chains n)
  unfolding spare_stop spare taken
  spare-found n h p f = rw (least_of free (2 ^ chains) n h (none_free n p) (rw f), spare_stop)

  pub spare-none : Passed (2 ^ chains) → spare_stop chains set ≡ None
  unfolding spare_stop spare
  spare-none p = rw (none_of free (2 ^ chains) (none_free (2 ^ chains) p), spare_stop)

  pub record Spared (stop : TestSlice) : Type 0 where
    pub number : ℕ
    pub pattern : stop ≡ full chains number
    pub below : number < 2 ^ chains
    pub untaken : taken chains set number ≡ false
    pub smaller_taken : Passed number

  pub spared : (stop : TestSlice) → spare_stop chains set ≡ Some stop → Spared stop
  unfolding spare_stop spare
  spared stop e = go (least_below free (2 ^ chains)) (least_is free (2 ^ chains)) e
    where
      go : (o : Option ℕ) → LeastIs free (2 ^ chains) o → ◌≡◌ {A = Option TestSlice} (elim o [ Some v ↦ Some (full chains v) | None ↦ None ]) (Some stop) → Spared stop
      go None all same = absurd (let z : ◌≡◌ {A = ℕ} 0 1 = cc in omega arith)
      go (Some v) l same = record {
        number = v;
        pattern = (let q : full chains v ≡ stop = cc in sym q);
        below = l.below;
        untaken = not-true (taken chains set v) l.passes;
        smaller_taken = λ w h. not-false (taken chains set w) (l.least w h);
      }

  pub all_taken : spare_stop chains set ≡ None → Passed (2 ^ chains)
  unfolding spare_stop spare
  all_taken e = go (least_below free (2 ^ chains)) (least_is free (2 ^ chains)) e
    where
      go : (o : Option ℕ) → LeastIs free (2 ^ chains) o → ◌≡◌ {A = Option TestSlice} (elim o [ Some v ↦ Some (full chains v) | None ↦ None ]) None → Passed (2 ^ chains)
      go None all same = λ v h. not-false (taken chains set v) (all v h)
      go (Some v) l same = absurd (let z : ◌≡◌ {A = ℕ} 0 1 = cc in omega arith)

-- no more patterns than slices: their number fits a word
pub patterns_fit : (chains : ℕ) (ps bs : List ℕ) → 2 ^ chains ≤ length (paired ps bs) → length ps < 2 ^ 64 → chains < 64
patterns_fit chains ps bs few l =
    ⊎_elim (λ h. h) (λ h. absurd (let p : 2 ^ 64 ≤ 2 ^ chains = pow_mono h in omega (arith, paired_few ps bs))) (lt_or_le chains 64)
