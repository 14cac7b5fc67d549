-- Laws of rows, of reading them, and of clear states.
--     row_at, row-length     a mask of a row, and how many there are
--     row-rest               the masks from one on: that one, and the rest
--     reads_alike            two states with the same parities under each mask read alike
--     masks-next, masks_differ, masks_end     of a loop that goes up through masks: what is left decides
--     reads-next, reads_end  the same, through a row
--     clear_at, none-clear, clear-front   a clear state shows the pattern in none of the rows, nor in the first of them
--     row_fits               a row below the bound stands in the table
-- Assumes nothing.
use mathlib.Core.Path.{◌≡◌, refl, ap, ◌∙◌}
use mathlib.Core.Logic.{⊎_elim}
use mathlib.Core.Bool.{true, false, not}
use mathlib.Core.List.{List, [], ◌∷◌}
use Prim.Native.Nat.{ℕ, zero, suc, ◌+◌, ◌*◌, ◌/◌, ◌%◌, ◌≤◌, ◌<◌}
use native.Mathlib.Nat.{suc-mul, mul-le-mul_right, le_of_suc-le-suc, eq-or-lt_of_le, zero-lt-suc}
use native.Mathlib.Numerals.{add-one}
use native.Mathlib.Omega.{arith}
use lib.ListN.{get_or, length, drop, length-drop, drop_of_length-le}
use lib.Seq.{drop-cons, get_or-take, get_or-drop, length-take-le}
use borrow.Author.Tests.{eq-eqb, ne_eqb, not-true}
use Rattle.words_bounded.specs.Bounded.{NoneBelow}
use Rattle.words_bounded.proofs.Tests.{both, and_yes}
use Rattle.words_gf2.specs.Words.{odd}
use Rattle.search_rows.specs.Rows.{row, reads, shown, clear}
use Rattle.search_rows.specs.declared.Pattern.{Pattern}

pub row_fits : (t m k n : ℕ) → t < m → m * k ≤ n → t * k + k ≤ n
row_fits t m k n h l = omega (arith, suc-mul t k, mul-le-mul_right {m = suc t} {n = m} k h)

module _ (k : ℕ) (table : List ℕ) (t : ℕ) (fits : t * k + k ≤ length table) where
  pub row-length : length (row k table t) ≡ k
  row-length = length-take-le k (drop (t * k) table) (omega (arith, length-drop (t * k) table))

  pub row_at : (j : ℕ) → j < k → get_or (row k table t) j 0 ≡ get_or table (t * k + j) 0
  row_at j h = get_or-take k (drop (t * k) table) j 0 h ∙ get_or-drop (t * k) table j 0

  pub row-rest : (j : ℕ) → j < k → drop j (row k table t) ≡ get_or table (t * k + j) 0 ∷ drop (suc j) (row k table t)
  row-rest j h = drop-cons (row k table t) j 0 (rw row-length h) ∙ ap (λ (m : ℕ). m ∷ drop (suc j) (row k table t)) (row_at j h)

pub reads_alike : (ms : List ℕ) (bits s x : ℕ) → ((i : ℕ) → i < length ms → odd s (get_or ms i 0) ≡ odd x (get_or ms i 0)) → reads ms bits s ≡ reads ms bits x
unfolding reads
reads_alike [] bits s x h = refl
reads_alike (m ∷ ms) bits s x h = rw (h 0 (zero-lt-suc (length ms)), reads_alike ms (bits / 2) s x (λ i l. h (suc i) (omega arith)))

-- ---- a loop that goes up through masks

module _ (ms : List ℕ) (s : ℕ) where
  pub masks-next : (j bits : ℕ) → j < length ms → odd s (get_or ms j 0) ≡ bits % 2 → reads (drop j ms) bits s ≡ reads (drop (j + 1) ms) (bits / 2) s
  unfolding reads
  masks-next j bits h e = rw (add-one j, drop-cons ms j 0 h, reads, eq-eqb (odd s (get_or ms j 0)) (bits % 2) e)

  pub masks_differ : (j bits : ℕ) → j < length ms → (odd s (get_or ms j 0) ≡ bits % 2 → ⊥) → false ≡ reads (drop j ms) bits s
  unfolding reads
  masks_differ j bits h n = rw (drop-cons ms j 0 h, reads, ne_eqb (odd s (get_or ms j 0)) (bits % 2) n)

  pub masks_end : (j bits : ℕ) → length ms ≤ j → true ≡ reads (drop j ms) bits s
  unfolding reads
  masks_end j bits h = rw (drop_of_length-le ms {i = j} h)

-- the same, through a row
module _ (k : ℕ) (table : List ℕ) (t : ℕ) (fits : t * k + k ≤ length table) (s : ℕ) where
  abbrev R : List ℕ
  R = row k table t

  pub reads-next : (j bits : ℕ) → j < k → odd s (get_or table (t * k + j) 0) ≡ bits % 2 → reads (drop j R) bits s ≡ reads (drop (j + 1) R) (bits / 2) s
  reads-next j bits h e = masks-next R s j bits (rw (row-length k table t fits) h) (ap (odd s) (row_at k table t fits j h) ∙ e)

  pub reads_end : (j bits : ℕ) → k ≤ j → true ≡ reads (drop j R) bits s
  reads_end j bits h = masks_end R s j bits (rw (row-length k table t fits) h)

-- ---- clear states

module _ (p : Pattern) (table : List ℕ) (s : ℕ) where
  pub clear_at : (m t : ℕ) → clear p table m s ≡ true → t < m → shown p table t s ≡ false
  unfolding clear
  clear_at zero t c h = absurd (omega arith)
  clear_at (suc m) t c h =
      let a = both (clear p table m s) (not (shown p table m s)) c in
      ⊎_elim (λ e. rw e (not-true (shown p table m s) a.1)) (λ l. clear_at m t a.0 l) (eq-or-lt_of_le (le_of_suc-le-suc h))

  pub none-clear : (m : ℕ) → NoneBelow (λ t. shown p table t s) m → clear p table m s ≡ true
  unfolding clear
  none-clear zero n = refl
  none-clear (suc m) n =
      and_yes (clear p table m s) (not (shown p table m s)) (none-clear m (λ t h. n t (omega arith))) (ap not (n m (omega arith)))

  pub clear-front : (m t : ℕ) → t ≤ m → clear p table m s ≡ true → clear p table t s ≡ true
  clear-front m t h c = none-clear t (λ u l. clear_at m u c (omega arith))
