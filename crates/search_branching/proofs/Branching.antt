-- What the search keeps while it branches on a row in which the lowest member x shows the pattern: column by column, the members that read otherwise than x are searched, and those that read as x does are the rest.
--     finds_pruned, finds_lowest     nothing here is lower; x itself is clear
--     Parted              the rest reads the columns passed as x does; whatever else is clear is reached
--     parted_start, parted_same, parted_child, parted_end     at the start, without a pivot, with a child that was searched, and at the end
--     parted_rising, parted_shorter     the vectors of a child rise, and are fewer
--     Branched            the same of columns that the row has
--     branched_start, branched_same, branched_child, branched_end     its steps
--     child_rising, child_shorter     the vectors of a child rise, and are fewer
-- Assumes nothing.
use Rattle.std.specs.Prelude.{None, Option, Some}
use mathlib.Core.Path.{◌≡◌, refl, sym, ◌∙◌, subst}
use mathlib.Core.Logic.{◌⊎◌, inl, inr, ⊎_elim}
use mathlib.Core.Bool.{true, false}
use mathlib.Core.List.{List}
use Prim.Native.Nat.{ℕ, ◌+◌, ◌^◌, ◌≤◌, ◌<◌}
use native.Mathlib.Omega.{arith}
use lib.Bits.{bit_xor}
use lib.ListN.{get_or, length}
use borrow.Author.Count.{below_more}
use borrow.Author.Tests.{leb-true, leb-false}
use Rattle.words_bounded.proofs.Tests.{clash, eq_or_not}
use Rattle.words_gf2.specs.Words.{odd}
use Rattle.words_gf2.proofs.Parity.{odd_lt, xor-odd}
use Rattle.words_gf2.proofs.Xor.{xor_twice}
use Rattle.search_pivot.specs.Pivot.{pivot, without}
use Rattle.search_space.specs.Space.{Rising}
use Rattle.search_space.proofs.Members.{Among, among_lowest, lowest_among}
use Rattle.search_pivot.proofs.Pivot.{no_pivot, kept_alike, alike_kept, pivot_moves, pivot_parity, without-same, without_shorter, rising_kept, rising_moved}
use Rattle.search_rows.specs.Rows.{row, reads, shown, clear}
use Rattle.search_rows.specs.declared.Pattern.{Pattern}
use Rattle.search_rows.proofs.Reading.{reads_alike, clear_at}
use Rattle.search_found.specs.Lower.{reached}
use Rattle.search_found.proofs.Finding.{Below, Kept, Reached, Finds, reached_on, kept_on}
use Rattle.search_found.proofs.Passing.{Passes}

module _ (p : Pattern) (table : List ℕ) (m : ℕ) where
  -- ---- the two ways to end at once

  pub finds_pruned : (x : ℕ) (vs : List ℕ) (a : Option ℕ) → Rising x 0 vs → reached a x ≡ true → Finds (Passes p table m x vs) a a
  finds_pruned x vs a r e = record { kept = inl refl; all = λ s l h. go a e s (lowest_among vs x 0 s r h.0) }
    where
      go : (f : Option ℕ) → reached f x ≡ true → (s : ℕ) → x ≤ s → Reached f s
      go (Some q) t s h = omega (arith, leb-true q x t)
      go None t s h = absurd (clash false t refl)

  pub finds_lowest : (x : ℕ) (vs : List ℕ) (a : Option ℕ) → Rising x 0 vs → x < 2 ^ 64 → reached a x ≡ false → clear p table m x ≡ true → Finds (Passes p table m x vs) a (Some x)
  finds_lowest x vs a r w e c = record {
    kept = inr (x, refl, w, (among_lowest vs x, c), go a e);
    all = λ s l h. lowest_among vs x 0 s r h.0;
  }
    where
      go : (f : Option ℕ) → reached f x ≡ false → Below f x
      go (Some q) t = leb-false q x t
      go None t = tt

  -- ---- branching on the masks ms of a row

  module _ (x : ℕ) (vs : List ℕ) (a : Option ℕ) (ms : List ℕ) where
    abbrev mask : ℕ → ℕ
    mask j = get_or ms j 0

    pub record Parted (rest : List ℕ) (found : Option ℕ) (j : ℕ) : Type 0 where
      pub rising : Rising x 0 rest
      pub shorter : length rest ≤ length vs
      pub sub : (s : ℕ) → Among x rest s → Among x vs s
      pub equal : (s : ℕ) → Among x rest s → (i : ℕ) → i < j → odd s (mask i) ≡ odd x (mask i)
      pub kept : Kept (Passes p table m x vs) a found
      pub reached : (s : ℕ) → s < 2 ^ 64 → Passes p table m x vs s → Reached found s ⊎ Among x rest s

    pub parted_start : Rising x 0 vs → Parted vs a 0
    parted_start r = record {
      rising = r;
      shorter = omega arith;
      sub = λ s h. h;
      equal = λ s h i l. absurd (omega arith);
      kept = inl refl;
      reached = λ s w h. inr h.0;
    }

    -- no member of the rest reads otherwise than x
    pub parted_same : (rest : List ℕ) (found : Option ℕ) (j : ℕ) → pivot (mask j) rest ≡ 0 → Parted rest found j → Parted (without (mask j) rest) found (j + 1)
    parted_same rest found j z b = subst (λ (l : List ℕ). Parted l found (j + 1)) (sym (without-same (mask j) rest z)) (record {
      rising = b.rising;
      shorter = b.shorter;
      sub = b.sub;
      equal = λ s m. below_more (λ (i : ℕ). odd s (mask i) ≡ odd x (mask i)) j (b.equal s m) (no_pivot (mask j) rest x s z m);
      kept = b.kept;
      reached = b.reached;
    })

    module _ (rest : List ℕ) (found r : Option ℕ) (j : ℕ) (n : pivot (mask j) rest ≡ 0 → ⊥) (b : Parted rest found j) where
      abbrev y : ℕ
      y = bit_xor x (pivot (mask j) rest)

      -- a member of the child is one of the rest
      child_sub : (s : ℕ) → Among y (without (mask j) rest) s → Among x rest s
      child_sub s h = subst (λ (u : ℕ). Among u rest s) (xor_twice x (pivot (mask j) rest)) (pivot_moves (mask j) rest y s n (kept_alike (mask j) rest y s h).0)

      -- a member of the rest that reads otherwise than x is one of the child
      child_all : (s : ℕ) → Among x rest s → (odd s (mask j) ≡ odd x (mask j) → ⊥) → Among y (without (mask j) rest) s
      child_all s h ne =
          alike_kept (mask j) rest y s (pivot_moves (mask j) rest x s n h)
          (omega (arith, xor-odd x (pivot (mask j) rest) (mask j), pivot_parity (mask j) rest n, odd_lt x (mask j), odd_lt s (mask j)))

      pub parted_child : Finds (Passes p table m y (without (mask j) rest)) found r → Parted (without (mask j) rest) r (j + 1)
      parted_child f = record {
        rising = rising_kept (mask j) rest b.rising;
        shorter = omega (arith, b.shorter, without_shorter (mask j) rest n);
        sub = λ s h. b.sub s (kept_alike (mask j) rest x s h).0;
        equal = λ s h. (let q = kept_alike (mask j) rest x s h in below_more (λ (i : ℕ). odd s (mask i) ≡ odd x (mask i)) j (b.equal s q.0) q.1);
        kept = kept_on (Passes p table m x vs) (Passes p table m y (without (mask j) rest)) a found r (λ s h. (b.sub s (child_sub s h.0), h.1)) b.kept f.kept;
        reached = λ s w h. ⊎_elim
            (λ q. inl (reached_on (Passes p table m y (without (mask j) rest)) found r s f.kept q))
            (λ q. ⊎_elim
            (λ e. inr (alike_kept (mask j) rest x s q e))
            (λ ne. inl (f.all s w (child_all s q ne, h.1)))
            (eq_or_not (odd s (mask j)) (odd x (mask j))))
            (b.reached s w h);
      }

      pub parted_rising : Rising y 0 (without (mask j) rest)
      parted_rising = rising_moved (mask j) rest n b.rising

      pub parted_shorter : length (without (mask j) rest) < length vs
      parted_shorter = omega (arith, b.shorter, without_shorter (mask j) rest n)

    -- every column is passed: the rest shows the pattern in row t
    pub parted_end : (t : ℕ) (rest : List ℕ) (found : Option ℕ) (j : ℕ) → ms ≡ row p.columns table t → length ms ≤ j → t < m → shown p table t x ≡ true → Parted rest found j
        → Finds (Passes p table m x vs) a found
    unfolding shown
    parted_end t rest found j e h lt sh b = record {
      kept = b.kept;
      all = λ s w q. ⊎_elim
          (λ r. r)
          (λ i. absurd (clash (shown p table t s) (alike s i ∙ sh) (clear_at p table s m t q.1 lt)))
          (b.reached s w q);
    }
      where
        alike : (s : ℕ) → Among x rest s → reads (row p.columns table t) p.bits s ≡ reads (row p.columns table t) p.bits x
        alike s i = rw (sym e) (reads_alike ms p.bits s x (λ c l. b.equal s i c (omega arith)))

    -- ---- columns that the row has

    pub record Branched (rest : List ℕ) (found : Option ℕ) (j : ℕ) : Type 0 where
      pub within : j ≤ length ms
      pub rising : Rising x 0 rest
      pub shorter : length rest ≤ length vs
      pub sub : (s : ℕ) → Among x rest s → Among x vs s
      pub equal : (s : ℕ) → Among x rest s → (i : ℕ) → i < j → odd s (mask i) ≡ odd x (mask i)
      pub kept : Kept (Passes p table m x vs) a found
      pub reached : (s : ℕ) → s < 2 ^ 64 → Passes p table m x vs s → Reached found s ⊎ Among x rest s

    module _ (rest : List ℕ) (found : Option ℕ) (j : ℕ) where
      pub branched_parted : Branched rest found j → Parted rest found j
      branched_parted b = record { rising = b.rising; shorter = b.shorter; sub = b.sub; equal = b.equal; kept = b.kept; reached = b.reached }

      pub parted_branched : j ≤ length ms → Parted rest found j → Branched rest found j
      parted_branched h b = record { within = h; rising = b.rising; shorter = b.shorter; sub = b.sub; equal = b.equal; kept = b.kept; reached = b.reached }

    pub branched_start : Rising x 0 vs → Branched vs a 0
    branched_start r = parted_branched vs a 0 (omega arith) (parted_start r)

    pub branched_same : (rest : List ℕ) (found : Option ℕ) (j : ℕ) → j < length ms → pivot (mask j) rest ≡ 0 → Branched rest found j → Branched (without (mask j) rest) found (j + 1)
    branched_same rest found j lt z b = parted_branched (without (mask j) rest) found (j + 1) (omega arith) (parted_same rest found j z (branched_parted rest found j b))

    module _ (rest : List ℕ) (found r : Option ℕ) (j : ℕ) (n : pivot (mask j) rest ≡ 0 → ⊥) (b : Branched rest found j) where
      pub branched_child : j < length ms → Finds (Passes p table m (bit_xor x (pivot (mask j) rest)) (without (mask j) rest)) found r → Branched (without (mask j) rest) r (j + 1)
      branched_child lt f = parted_branched (without (mask j) rest) r (j + 1) (omega arith) (parted_child rest found r j n (branched_parted rest found j b) f)

      pub child_rising : Rising (bit_xor x (pivot (mask j) rest)) 0 (without (mask j) rest)
      child_rising = parted_rising rest found r j n (branched_parted rest found j b)

      pub child_shorter : length (without (mask j) rest) < length vs
      child_shorter = parted_shorter rest found r j n (branched_parted rest found j b)

    pub branched_end : (t : ℕ) (rest : List ℕ) (found : Option ℕ) (j : ℕ) → ms ≡ row p.columns table t → length ms ≤ j → t < m → shown p table t x ≡ true → Branched rest found j
        → Finds (Passes p table m x vs) a found
    branched_end t rest found j e h lt sh b = parted_end t rest found j e h lt sh (branched_parted rest found j b)
