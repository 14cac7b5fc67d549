-- How the members of a space show a row: of a loop that goes up through its columns.
--     column-splits, column-reads, column_differs     one column
--     together-whole, together_assoc     the parts of a row in one, from either end
--     across-next, across_end     what is done together with what is left is the whole
-- Assumes nothing.
use mathlib.Core.Path.{◌≡◌, refl, sym, ◌∙◌}
use mathlib.Core.Bool.{true, false}
use mathlib.Core.List.{List}
use Prim.Native.Nat.{ℕ, suc, ◌+◌, ◌-◌, ◌/◌, ◌%◌, ◌≤◌, ◌<◌}
use native.Mathlib.Numerals.{add-one}
use lib.Dec.{ltb}
use lib.ListN.{get_or, length, drop, drop_of_length-le}
use lib.Seq.{drop-cons}
use borrow.Author.Tests.{eq-eqb, ne_eqb}
use Rattle.words_gf2.specs.Words.{odd}
use Rattle.search_pivot.specs.Pivot.{pivot}
use Rattle.search_showing.specs.Showing.{across, column, together}
use Rattle.search_showing.specs.declared.Shows.{Shows}
use Rattle.search_showing.specs.declared.Shows.TheVariants.{Always, Unless, Neither}

module _ (m b x : ℕ) (vs : List ℕ) where
  pub column-splits : ltb 0 (pivot m vs) ≡ true → column m b x vs ≡ Unless m (1 - b)
  unfolding column
  column-splits e = rw (e, column)

  pub column-reads : ltb 0 (pivot m vs) ≡ false → odd x m ≡ b → column m b x vs ≡ Always
  unfolding column
  column-reads e q = rw (e, eq-eqb (odd x m) b q, column)

  pub column_differs : ltb 0 (pivot m vs) ≡ false → (odd x m ≡ b → ⊥) → column m b x vs ≡ Neither
  unfolding column
  column_differs e n = rw (e, ne_eqb (odd x m) b n, column)

together-whole : (p : Shows) → together p Always ≡ p
together-whole Always = refl
together-whole (Unless m b) = refl
together-whole Neither = refl

together_assoc : (p q r : Shows) → together (together p q) r ≡ together p (together q r)
together_assoc Always q r = refl
together_assoc (Unless m b) Always r = refl
together_assoc (Unless m b) (Unless n c) Always = refl
together_assoc (Unless m b) (Unless n c) (Unless o d) = refl
together_assoc (Unless m b) (Unless n c) Neither = refl
together_assoc (Unless m b) Neither r = refl
together_assoc Neither q r = refl

-- ---- a loop over the masks ms of a row

module _ (ms : List ℕ) (x : ℕ) (vs : List ℕ) where
  -- one column more; w is the whole row
  pub across-next : {w : Shows} (j bits : ℕ) (p d q : Shows) → j < length ms → d ≡ column (get_or ms j 0) (bits % 2) x vs → q ≡ together p d
      → w ≡ together p (across (drop j ms) bits x vs) → w ≡ together q (across (drop (j + 1) ms) (bits / 2) x vs)
  unfolding across
  across-next j bits p d q h e f i = i ∙ rw (add-one j, drop-cons ms j 0 h, f, e) (sym (together_assoc p (column (get_or ms j 0) (bits % 2) x vs) (across (drop (suc j) ms) (bits / 2) x vs)))

  pub across_end : {w : Shows} (j bits : ℕ) (p : Shows) → length ms ≤ j → w ≡ together p (across (drop j ms) bits x vs) → p ≡ w
  unfolding across
  across_end j bits p h i = sym (i ∙ rw (drop_of_length-le ms {i = j} h) (together-whole p))
