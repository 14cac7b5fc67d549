-- The words of a leaf, filled for its rows.
--     column_yes, column_no       the words of a mask, where the bit is 1 and where it is 0
--     sets_before, matched_before  two entries that are written leave those before them, and a match there, as they were
--     Filling, filling_next, filling_end     of a loop that writes the words of a row
--     filled_row, filled_same     of a loop over the rows
-- Assumes nothing.
use mathlib.Core.Path.{◌≡◌, sym, ap, ap₂, ◌∙◌, subst}
use mathlib.Core.Logic.{⊎_elim}
use mathlib.Core.List.{List, ◌++◌}
use Prim.Native.Nat.{ℕ, ◌+◌, ◌-◌, ◌*◌, ◌/◌, ◌%◌, ◌^◌, ◌≤◌, ◌<◌}
use native.Mathlib.Nat.{suc-mul}
use native.Mathlib.Numerals.{add-one}
use native.Mathlib.Omega.{arith}
use lib.Bits.{bit_xor}
use lib.ListN.{get_or, length, take, drop, set, take-append-drop, length-drop, length-set}
use lib.Seq.{get_or-set_same, get_or-set_other, take_all, take-take, take-append-add, length-take-le}
use Rattle.words_bounded.proofs.Tests.{clash, eq_or_not, fails}
use Rattle.words_gf2.specs.Words.{digit, odd}
use Rattle.words_gf2.proofs.Digits.{digit_lt}
use Rattle.words_gf2.proofs.Parity.{xor-odd}
use Rattle.words_gf2.proofs.Xor.{digit-xor}
use Rattle.search_members.specs.Members.{pick}
use Rattle.search_members.proofs.Numbers.{pick-split}
use Rattle.search_lanes.specs.Lanes.{readings}
use Rattle.search_lanes.proofs.Lanes.{reading_lane, all_lanes}
use Rattle.search_rows.specs.Rows.{row, reads, shown, clear}
use Rattle.search_filling.specs.Columns.{Reads, RowFilled}
use Rattle.search_rows.specs.Leaf.{Matched, AllMatched, Filled}
use Rattle.search_rows.specs.declared.Pattern.{Pattern}
use Rattle.search_rows.proofs.Reading.{clear_at, reads-next, reads_end, row_fits}

-- ---- the words of a mask

module _ (x : ℕ) (vs : List ℕ) (f m : ℕ) (six : 6 ≤ f) (few : f ≤ 12) (long : f ≤ length vs) where
  abbrev low : ℕ
  low = readings 0 (take 6 (take 6 vs)) m

  abbrev high : ℕ
  high = readings x (take 6 (take (f - 6) (drop 6 vs))) m

  parts : take f vs ≡ take 6 vs ++ take (f - 6) (drop 6 vs)
  parts =
      let e : f ≡ length (take 6 vs) + (f - 6) = omega (arith, length-take-le 6 vs (omega arith)) in
      ap₂ take e (sym (take-append-drop 6 vs)) ∙ take-append-add (take 6 vs) (drop 6 vs) (f - 6)

  parity : (g i : ℕ) → g < 64 → i < 64 → odd (pick x (take f vs) (g * 64 + i)) m ≡ (digit high g + digit low i) % 2
  parity g i hg hi =
      let n : length (take 6 vs) ≡ 6 = length-take-le 6 vs (omega arith) in
      let w : 2 ^ length (take 6 vs) ≡ 64 = ap (λ (k : ℕ). 2 ^ k) n in
      let s : pick x (take 6 vs ++ take (f - 6) (drop 6 vs)) (g * 64 + i) ≡ bit_xor (pick x (take (f - 6) (drop 6 vs)) g) (pick 0 (take 6 vs) i) =
      ap (λ (k : ℕ). pick x (take 6 vs ++ take (f - 6) (drop 6 vs)) (g * k + i)) (sym w)
      ∙ pick-split (take 6 vs) (take (f - 6) (drop 6 vs)) x g i (rw w hi) in
      let a : take 6 (take (f - 6) (drop 6 vs)) ≡ take (f - 6) (drop 6 vs) = take_all 6 (take (f - 6) (drop 6 vs)) (omega (arith, length-take-le (f - 6) (drop 6 vs) (omega (arith, length-drop 6 vs)))) in
      let b : take 6 (take 6 vs) ≡ take 6 vs = take-take 6 6 vs (omega arith) in
      ap (λ (l : List ℕ). odd (pick x l (g * 64 + i)) m) parts
      ∙ ap (λ (t : ℕ). odd t m) s
      ∙ xor-odd (pick x (take (f - 6) (drop 6 vs)) g) (pick 0 (take 6 vs) i) m
      ∙ sym (ap₂ (λ (y z : ℕ). (y + z) % 2)
      (reading_lane x (take 6 (take (f - 6) (drop 6 vs))) m g hg ∙ ap (λ (l : List ℕ). odd (pick x l g) m) a)
      (reading_lane 0 (take 6 (take 6 vs)) m i hi ∙ ap (λ (l : List ℕ). odd (pick 0 l i) m) b))

  pub column_yes : (b l h : ℕ) → b ≡ 1 → l ≡ low → h ≡ high → Reads x (take f vs) m b l h
  column_yes b l h e p q g i hg hi t =
      parity g i hg hi ∙ (let u : (digit low i + digit high g) % 2 ≡ 1 = rw (p, q) at t in omega arith)

  pub column_no : (b l h r : ℕ) → b < 2 → (b ≡ 1 → ⊥) → l ≡ low → h ≡ high → r ≡ bit_xor h 18446744073709551615 → Reads x (take f vs) m b l r
  column_no b l h r c e p q s g i hg hi t =
      let u : (digit low i + digit (bit_xor high 18446744073709551615) g) % 2 ≡ 1 = rw (p, s, q) at t in
      let d = digit-xor high 18446744073709551615 g in
      let o = all_lanes g hg in
      parity g i hg hi ∙ omega (arith, digit_lt high g, digit_lt low i)

-- ---- a loop that writes the words of a row

-- what stands before a place stays
set_before : (l : List ℕ) (p v i : ℕ) → i < p → get_or (set l p v) i 0 ≡ get_or l i 0
set_before l p v i h = get_or-set_other l p i v 0 (λ e. omega arith)

-- and where the entry behind it is written too
sets_before : (l : List ℕ) (p v w i : ℕ) → i < p → get_or (set (set l p v) (p + 1) w) i 0 ≡ get_or l i 0
sets_before l p v w i h = set_before (set l p v) (p + 1) w i (omega arith) ∙ set_before l p v i h

matched_before : (l k : List ℕ) (p a g i : ℕ) → a + 1 < p → ((j : ℕ) → j < p → get_or l j 0 ≡ get_or k j 0) → Matched l a g i → Matched k a g i
matched_before l k p a g i h e m =
    ap₂ (λ (y z : ℕ). (digit y i + digit z g) % 2) (sym (e a (omega arith))) (sym (e (a + 1) h)) ∙ m

module _ (p : Pattern) (table : List ℕ) (t x : ℕ) (vs old : List ℕ) (a : ℕ) where
  abbrev R : List ℕ
  R = row p.columns table t

  pub record Filling (words : List ℕ) (bits k : ℕ) : Type 0 where
    pub long : length words ≡ length old
    pub same : (i : ℕ) → i < a → get_or words i 0 ≡ get_or old i 0
    pub read : (g i : ℕ) → g < 64 → i < 64 → AllMatched words a k g i → reads R p.bits (pick x vs (g * 64 + i)) ≡ reads (drop k R) bits (pick x vs (g * 64 + i))

  module _ (fits : t * p.columns + p.columns ≤ length table) (words : List ℕ) (bits k l h : ℕ) (lt : k < p.columns) (room : a + p.columns * 2 ≤ length old) (f : Filling words bits k) where
    abbrev place : ℕ
    place = a + k * 2

    abbrev next : List ℕ
    next = set (set words place l) (place + 1) h

    next_low : get_or next place 0 ≡ l
    next_low = set_before (set words place l) (place + 1) h place (omega arith) ∙ get_or-set_same words place l 0 (omega (arith, f.long))

    next-high : get_or next (place + 1) 0 ≡ h
    next-high = get_or-set_same (set words place l) (place + 1) h 0 (simp length-set (omega (arith, f.long)))

    pub filling_next : Reads x vs (get_or table (t * p.columns + k) 0) (bits % 2) l h → Filling next (bits / 2) (k + 1)
    filling_next r = record {
      long = simp length-set f.long;
      same = λ i b. sets_before words place l h i (omega arith) ∙ f.same i b;
      read = λ g i hg hi m.
          f.read g i hg hi (λ j b. matched_before next words place (a + j * 2) g i (omega arith) (λ q c. sets_before words place l h q c) (m j (omega arith)))
          ∙ reads-next p.columns table t fits (pick x vs (g * 64 + i)) k bits lt
          (r g i hg hi (ap₂ (λ (y z : ℕ). (digit y i + digit z g) % 2) (sym next_low) (sym next-high) ∙ m k (omega arith)));
    }

  pub filling_end : t * p.columns + p.columns ≤ length table → (words : List ℕ) (bits k : ℕ) → k ≡ p.columns → Filling words bits k → RowFilled p table t x vs words a
  unfolding shown
  filling_end fits words bits k e f g i hg hi m =
      f.read g i hg hi (λ j b. m j (omega arith)) ∙ sym (reads_end p.columns table t fits (pick x vs (g * 64 + i)) k bits (omega arith))

-- ---- a loop over the rows

module _ (p : Pattern) (table : List ℕ) (m x : ℕ) (vs : List ℕ) where
  abbrev width : ℕ
  width = p.columns * 2

  -- words from the place a on are new
  module _ (words next : List ℕ) (n a : ℕ) (e : a ≡ n * width) (l : length next ≡ length words) (s : (i : ℕ) → i < a → get_or next i 0 ≡ get_or words i 0) (f : Filled p table m x vs words n) where
    pub filled_same : Filled p table m x vs next n
    filled_same = record {
      within = rw l f.within;
      kills = λ c g i h hg hi q.
          f.kills c g i h hg hi (λ j b.
          let r = row_fits c n width (n * width) h (omega arith) in
          matched_before next words a (c * width + j * 2) g i (omega arith) s (q j b));
    }

    pub filled_row : (t : ℕ) → t < m → a + width ≤ length words → RowFilled p table t x vs next a → Filled p table m x vs next (n + 1)
    filled_row t h room r = record {
      within = rw (add-one n, suc-mul n width, l) (omega arith);
      kills = λ c g i b hg hi q. ⊎_elim
          (λ u.
          fails (clear p table m (pick x vs (g * 64 + i))) (λ v. clash (shown p table t (pick x vs (g * 64 + i)))
          (r g i hg hi (λ j d. subst (λ (w : ℕ). Matched next (w + j * 2) g i) (ap (λ (k : ℕ). k * width) u ∙ sym e) (q j d)))
          (clear_at p table (pick x vs (g * 64 + i)) m t v h)))
          (λ ne. filled_same.kills c g i (omega arith) hg hi q)
          (eq_or_not c n);
    }
