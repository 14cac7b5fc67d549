-- The first clear member of a leaf.
--     NotClear n                  no member below number n is clear
--     group_first, group_passed, group_dead    of a loop over the groups
--     group_below, groups_whole   there are at most 64 groups, and the groups of a leaf are all its members
--     found_number, found_none    the first clear member is the lowest
--     found_before                what was found before is as low as all that is left
-- Assumes nothing.
use Rattle.std.specs.Prelude.{None, Option, Some}
use mathlib.Core.Path.{◌≡◌, refl, sym, ap, ◌∙◌, subst}
use mathlib.Core.Logic.{inl, ⊎_elim}
use mathlib.Core.Bool.{true, false}
use mathlib.Core.List.{List}
use Prim.Native.Nat.{ℕ, ◌+◌, ◌-◌, ◌*◌, ◌%◌, ◌^◌, ◌≤◌, ◌<◌}
use native.Mathlib.Omega.{arith}
use lib.ListN.{length}
use lib.Pow.{pow-add, pow_mono}
use borrow.Author.Tests.{leb-true}
use Rattle.words_bounded.proofs.Tests.{clash, eq_or_not, lt_or_le}
use Rattle.words_gf2.specs.Words.{digit}
use Rattle.words_gf2.proofs.Digits.{one_shifted}
use Rattle.search_members.specs.Members.{pick}
use Rattle.search_space.specs.Space.{Rising}
use Rattle.search_space.proofs.Members.{Among}
use Rattle.search_members.proofs.Numbers.{pick-among, among-pick, pick_rises}
use Rattle.search_lanes.proofs.Lanes.{all_lanes}
use Rattle.search_rows.specs.Rows.{clear}
use Rattle.search_found.specs.Lower.{lower, reached}
use Rattle.search_found.specs.Search.{lowest_clear}
use Rattle.words_bounded.specs.Bounded.{NoneBelow}
use Rattle.search_sifting.specs.Clear.{lane_clear}
use Rattle.search_rows.specs.declared.Pattern.{Pattern}
use Rattle.search_found.proofs.Finding.{Reached, finds_lower}
use Rattle.search_found.proofs.Passing.{Passes, finds_lowest_clear}

module _ (p : Pattern) (table : List ℕ) (m x : ℕ) (vs : List ℕ) where
  abbrev pub NotClear : ℕ → Type 0
  NotClear n = (j : ℕ) → j < n → clear p table m (pick x vs j) ≡ false

  -- those of the group before lane i
  pub group_first : (g i : ℕ) → NotClear (g * 64) → NoneBelow (lane_clear p table m x vs (g * 64)) i → NotClear (g * 64 + i)
  group_first g i n f j l = ⊎_elim
      (λ b. n j b)
      (λ b. let e : g * 64 + (j - g * 64) ≡ j = omega arith in subst (λ (t : ℕ). clear p table m (pick x vs t) ≡ false) e (f (j - g * 64) (omega arith)))
      (lt_or_le j (g * 64))

  -- none of the 64 is
  pub group_passed : (g : ℕ) → NotClear (g * 64) → NoneBelow (lane_clear p table m x vs (g * 64)) 64 → NotClear ((g + 1) * 64)
  group_passed g n f j l = group_first g 64 n f j (omega arith)

  -- all of them are dead
  pub group_dead : (g d : ℕ) → d ≡ 18446744073709551615 → NotClear (g * 64) → ((i : ℕ) → i < 64 → digit d i ≡ 1 → clear p table m (pick x vs (g * 64 + i)) ≡ false) → NotClear ((g + 1) * 64)
  group_dead g d e n f = group_passed g n (λ i h. f i h (rw e (all_lanes i h)))

  pub found_none : (before : Option ℕ) (n : ℕ) → 2 ^ length vs ≤ n → NotClear n → before ≡ lower before (lowest_clear p table m x vs)
  found_none before n h c = finds_lowest_clear p table m x vs before before (record {
    kept = inl refl;
    all = λ s l q.
        let k = among-pick vs x s q.0 in
        absurd (clash (clear p table m s) q.1 (subst (λ (t : ℕ). clear p table m t ≡ false) (sym k.2) (c k.0 (let b = k.1 in omega arith))));
  })

  -- from number n on no member is lower than what was found before
  pub found_before : (before : Option ℕ) (n s : ℕ) → Rising x 0 vs → s ≡ pick x vs n → reached before s ≡ true → NotClear n → before ≡ lower before (lowest_clear p table m x vs)
  found_before before n s rises e t none = finds_lowest_clear p table m x vs before before (record {
    kept = inl refl;
    all = λ u l h. reach before t u (above u h.0 h.1);
  })
    where
      above : (u : ℕ) → Among x vs u → clear p table m u ≡ true → s ≤ u
      above u a c =
          let k = among-pick vs x u a in
          ⊎_elim
          (λ b. absurd (clash (clear p table m u) c (subst (λ (v : ℕ). clear p table m v ≡ false) (sym k.2) (none k.0 b))))
          (λ b. from_number k b)
          (lt_or_le k.0 n)
        where
          from_number : (k : (i : ℕ) × (i < 2 ^ length vs) × (u ≡ pick x vs i)) → n ≤ k.0 → s ≤ u
          from_number k b = ⊎_elim
              (λ q. let o : pick x vs k.0 ≡ pick x vs n = ap (pick x vs) q in let z = k.2 in omega arith)
              (λ ne. let o = pick_rises vs x 0 n k.0 rises (omega arith) k.1 in let z = k.2 in omega arith)
              (eq_or_not k.0 n)

      reach : (f : Option ℕ) → reached f s ≡ true → (u : ℕ) → s ≤ u → Reached f u
      reach (Some b) q u h = omega (arith, leb-true b s q)
      reach None q u h = absurd (clash false q refl)

  pub found_number : (before r : Option ℕ) (n s : ℕ) → Rising x 0 vs → s < 2 ^ 64 → s ≡ pick x vs n → clear p table m s ≡ true → NotClear n → r ≡ lower before (Some s) → r ≡ lower before (lowest_clear p table m x vs)
  found_number before r n s rises w e c none q = finds_lowest_clear p table m x vs before r (finds_lower (Passes p table m x vs) before r s w (subst (λ (t : ℕ). Among x vs t) (sym e) (pick-among vs x n), c) above q)
    where
      above : (t : ℕ) → t < 2 ^ 64 → Passes p table m x vs t → s ≤ t
      above t l h =
          let k = among-pick vs x t h.0 in
          ⊎_elim
          (λ b. absurd (clash (clear p table m t) h.1 (subst (λ (u : ℕ). clear p table m u ≡ false) (sym k.2) (none k.0 b))))
          (λ b. ⊎_elim
          (λ a. let o : pick x vs k.0 ≡ pick x vs n = ap (pick x vs) a in let z = k.2 in omega arith)
          (λ ne. let o = pick_rises vs x 0 n k.0 rises (omega arith) k.1 in let z = k.2 in omega arith)
          (eq_or_not k.0 n))
          (lt_or_le k.0 n)

pub group_below : (f g : ℕ) → f ≤ 12 → g < 1 * 2 ^ (f - 6) % 2 ^ 64 → g < 64
group_below f g h l = omega (arith, one_shifted (f - 6) (omega arith), pow_mono {i = f - 6} {j = 6} (omega arith))

pub groups_whole : (f g : ℕ) → 6 ≤ f → 2 ^ (f - 6) ≤ g → 2 ^ f ≤ g * 64
groups_whole f g h l =
    let e : 2 ^ f ≡ 2 ^ (f - 6) * 64 = (let s : f ≡ (f - 6) + 6 = omega arith in ap (λ (n : ℕ). 2 ^ n) s ∙ pow-add 2 (f - 6) 6) in
    omega arith
