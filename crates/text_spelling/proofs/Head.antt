-- The head of a sheet is, byte for byte, the head of its seed list (`head_text`).
--     base n, numeric n     the base of the numbers in the notation n, and whether it has one
--     number-written      a line with a number, as it would be written
--     lines_of ks es       the lines of the keys ks in turn, with the numbers that the entries es say for them
--     numbers-own, lines_other     an entry of the key in front, and one of another key
--     rest                the keys behind the head
--     follows k ks j      j follows the key k only where it is k, one of ks, or depth
--     Link k ks           the key k stands in front of the keys ks, and none but these follows it
--     Linked ks           so it is with each of ks and those behind it
--     next-among          after a line with the key k
--     Grouped ks p es     from the place p on, the lines of es before depth are those of the keys ks in turn, and es says nothing for a key that is neither one of ks nor of the rest
--     grouped_depth, grouped_line, grouped_skip     es begins with depth, with a line of the first key, or with another one
--     Onward p es         so it is wherever nothing but such keys may stand at the place p
--     grouped             which holds of all entries in order
--     behind_chains, behind_chains_lem     the keys behind the chains line
--     five                five texts, the first four as one
--     head_lines          the first three lines in front
--     head-after, head-written     the entries of a sheet, where there is a mask for each chain
--     head_spelt          a sheet that is read to its end
-- Assumes nothing.
use Rattle.std.specs.Prelude.{Ok}
use mathlib.Core.Bool.{Bool, true, false, not, ◌||◌}
use mathlib.Core.Path.{◌≡◌, refl, sym, ap, subst, ◌∙◌}
use mathlib.Core.List.{List, [], ◌∷◌, ◌++◌, append_assoc, append-nil}
use Prim.Native.Nat.{ℕ, ◌+◌}
use native.Mathlib.Omega.{arith}
use borrow.Author.Tests.{ne_eqb}
use lib.Dec.{eqb, ltb}
use lib.ListN.{length}
use Rattle.words_bounded.proofs.Tests.{clash, both, neither}
use Rattle.text_keys.specs.Keys.{rows, row_at, name, notation, same}
use Rattle.text_keys.specs.declared.Key.{Key}
use Rattle.text_keys.specs.declared.Key.TheVariants as key
use Rattle.text_keys.specs.declared.Notation.{Notation}
use Rattle.text_keys.specs.declared.Notation.TheVariants.{Decimal, Hexadecimal, Chainwise}
use Rattle.text_keys.proofs.Table.{every, every_of, same_is, same_self}
use Rattle.text_lines.specs.Form.{entry}
use Rattle.text_lines.specs.declared.Entry.{Entry}
use Rattle.text_entries.specs.Said.{picked, numbers_for, masks_of, inverts_of, windows_of, settings_of}
use Rattle.text_entries.specs.declared.Part.TheVariants.{First}
use Rattle.text_split.specs.Text.{split}
use Rattle.text_order.specs.Order.{after, missing, may_stand, among, in_order, may_end}
use Rattle.text_order.specs.declared.Kind.TheVariants.{Sheet}
use Rattle.text_order.proofs.Standing.{stand_chain, stand_after, among_one}
use Rattle.text_order.proofs.Heads.{optional_keys}
use Rattle.text_place.specs.Places.{start, run_of, moved}
use Rattle.text_place.specs.declared.Place.{Place}
use Rattle.text_reading.specs.Reading.{reading_of}
use Rattle.text_write_numbers.specs.Lines.{number_line, number_lines}
use Rattle.text_write_head.specs.Head.{chains_text, head_text}
use Rattle.text_readback.specs.Written.{value, written}
use Rattle.text_readback.proofs.Runs.{place_at}
use Rattle.text_readback.proofs.Heads.{picked-other, stand_next}
use Rattle.text_readback.proofs.Whole.{chains_counted}
use Rattle.text_readback.specs.Before.{lines_before}
use Rattle.text_spelling.proofs.Entries.{Ordered, written_before, written_line, text_through}
use Rattle.text_spelling.proofs.Order.{next_line, slices_none}

-- ---- lines with numbers

abbrev base : Notation → ℕ
base Decimal = 10
base Hexadecimal = 16
base Chainwise = 0

numeric : Notation → Bool
numeric Decimal = true
numeric Hexadecimal = true
numeric Chainwise = false

number-written : (chains : ℕ) (k : Key) (v w : ℕ) → numeric (notation k) ≡ true → written chains (entry k v w) ≡ number_line (base (notation k)) (name k) v
unfolding written value numeric number_line
number-written chains k v w e = go (notation k) refl
  where
    go : (n : Notation) → notation k ≡ n → written chains (entry k v w) ≡ number_line (base (notation k)) (name k) v
    go Decimal d = rw (d, value)
    go Hexadecimal d = rw (d, value)
    go Chainwise d = absurd (clash false (rw d at e) refl)

unfoldable lines_of : List Key → List Entry → List ℕ
lines_of [] es = []
lines_of (k ∷ ks) es = number_lines (base (notation k)) (name k) (numbers_for k es) ++ lines_of ks es

numbers-own : (k : Key) (v w : ℕ) (es : List Entry) → numbers_for k (entry k v w ∷ es) ≡ v ∷ numbers_for k es
unfolding picked
numbers-own k v w es = rw (same_self k, picked)

abbrev rest : List Key
rest = key.Depth ∷ key.Slice ∷ []

lines_other : (ks : List Key) (e : Entry) (es : List Entry) → among e.key (ks ++ rest) ≡ false → lines_of ks (e ∷ es) ≡ lines_of ks es
unfolding lines_of among
lines_other [] e es h = refl
lines_other (k ∷ ks) e es h =
    let n = neither (same e.key k) (among e.key (ks ++ rest)) h in
    ap (λ (vs : List ℕ). number_lines (base (notation k)) (name k) vs ++ lines_of ks (e ∷ es)) (picked-other k First e es n.0) ∙ ap (λ (x : List ℕ). number_lines (base (notation k)) (name k) (numbers_for k es) ++ x) (lines_other ks e es n.1)

-- ---- keys in their order

among_behind : (k : Key) (ks js : List Key) → among k (ks ++ js) ≡ false → among k js ≡ false
unfolding among
among_behind k [] js h = h
among_behind k (j ∷ ks) js h = among_behind k ks js (neither (same k j) (among k (ks ++ js)) h).1

same-other : (j k : Key) → same j k ≡ false → same k j ≡ false
same-other j k h = go (same k j) refl
  where
    go : (b : Bool) → same k j ≡ b → same k j ≡ false
    go true s = absurd (clash (same j k) (ap (λ i. same i k) (sym (same_is k j s)) ∙ same_self k) h)
    go false s = s

follows : Key → List Key → Key → Bool
follows k ks j = not (among j (after Sheet k)) || among j (k ∷ (ks ++ (key.Depth ∷ [])))

record Link (k : Key) (ks : List Key) : Type 0 where
  number : numeric (notation k) ≡ true
  apart : among k (ks ++ rest) ≡ false
  follow : every (λ r. follows k ks r.key) rows ≡ true

abbrev Linked : List Key → Type 0
Linked [] = Unit {0}
Linked (k ∷ ks) = Link k ks × Linked ks

next-among : (k : Key) (ks : List Key) (p : Place) (v : ℕ) → Link k ks → (j : Key) → in_order Sheet (moved p k v) j ≡ true → among j (k ∷ (ks ++ (key.Depth ∷ []))) ≡ true
unfolding in_order among missing moved follows
next-among k ks p v l j o = go (missing q) refl
  where
    q : Place
    q = moved p k v

    some : eqb q.run 0 ≡ false
    some = ne_eqb (run_of p k + 1) 0 (λ e. omega arith)

    go : (b : Bool) → missing q ≡ b → among j (k ∷ (ks ++ (key.Depth ∷ []))) ≡ true
    go true m =
        let e = among_one j key.Chain (rw (stand_chain q Sheet some m) at o) in
        let c = same_is k key.Chain (both (same k key.Chain) (ltb q.run q.chains) m).0 in
        let s : same j k ≡ true = ap (λ i. same i k) (e ∙ sym c) ∙ same_self k in
        rw s
    go false m = let a : among j (after Sheet k) ≡ true = rw (stand_after q Sheet some m) at o in rw a at (every_of (follows k ks) l.follow j)

record Grouped (ks : List Key) (p : Place) (es : List Entry) : Type 0 where
  lines : written_before key.Depth p es ≡ lines_of ks es
  none : (k : Key) → among k (ks ++ rest) ≡ false → numbers_for k es ≡ []

grouped_depth : (p : Place) (v w : ℕ) (es : List Entry) → Ordered Sheet (moved p key.Depth v) es → Grouped [] p (entry key.Depth v w ∷ es)
unfolding written_before lines_of among same after
grouped_depth p v w es o =
    record {
      lines = refl;
      none = λ k h.
          let n = neither (same k key.Depth) (same k key.Slice || false) h in
          picked-other k First (entry key.Depth v w) es (same-other k key.Depth n.0) ∙ slices_none k (same-other k key.Slice (neither (same k key.Slice) false n.1).0) es (moved p key.Depth v) (stand_next Sheet p key.Depth v refl) o;
    }

module _ (k : Key) (ks : List Key) (p : Place) (l : Link k ks) where
  abbrev b : ℕ
  b = base (notation k)

  grouped_line : (v w : ℕ) (es : List Entry) → Grouped (k ∷ ks) (moved p k v) es → Grouped (k ∷ ks) p (entry k v w ∷ es)
  unfolding among lines_of number_lines
  grouped_line v w es g =
      record {
        lines =
            written_line key.Depth p (entry k v w) es (neither (same k key.Depth) (same k key.Slice || false) (among_behind k ks rest l.apart)).0
            ∙ ap (λ (x : List ℕ). x ++ written_before key.Depth (moved p k v) es) (number-written p.chains k v w l.number)
            ∙ ap (λ (x : List ℕ). number_line b (name k) v ++ x) g.lines
            ∙ sym (append_assoc (number_line b (name k) v) (number_lines b (name k) (numbers_for k es)) (lines_of ks es))
            ∙ sym (ap (λ (vs : List ℕ). number_lines b (name k) vs ++ lines_of ks (entry k v w ∷ es)) (numbers-own k v w es) ∙ ap (λ (x : List ℕ). number_lines b (name k) (v ∷ numbers_for k es) ++ x) (lines_other ks (entry k v w) es l.apart));
        none = λ j h. let n = neither (same j k) (among j (ks ++ rest)) h in picked-other j First (entry k v w) es (same-other j k n.0) ∙ g.none j h;
      }

  grouped_skip : (es : List Entry) → Grouped ks p es → Grouped (k ∷ ks) p es
  unfolding among lines_of number_lines
  grouped_skip es g =
      record {
        lines = g.lines ∙ sym (ap (λ (vs : List ℕ). number_lines (base (notation k)) (name k) vs ++ lines_of ks es) (g.none k l.apart));
        none = λ j h. g.none j (neither (same j k) (among j (ks ++ rest)) h).1;
      }

abbrev Onward : Place → List Entry → Type 0
Onward p es = (ks : List Key) → Linked ks → may_end Sheet p ≡ false → ((j : Key) → in_order Sheet p j ≡ true → among j (ks ++ (key.Depth ∷ [])) ≡ true) → Grouped ks p es

module _ (p : Place) (v w : ℕ) (es : List Entry) where
  grouped_first : (k : Key) (ks : List Key) → Linked (k ∷ ks) → Onward (moved p k v) es → Grouped (k ∷ ks) p (entry k v w ∷ es)
  unfolding may_end moved
  grouped_first k ks c ih = grouped_line k ks p c.0 v w es (ih (k ∷ ks) c (among_behind k ks rest c.0.apart) (next-among k ks p v c.0))

  grouped_from : (j : Key) → Ordered Sheet (moved p j v) es → Onward (moved p j v) es → (ks : List Key) → Linked ks → among j (ks ++ (key.Depth ∷ [])) ≡ true → Grouped ks p (entry j v w ∷ es)
  unfolding among
  grouped_from j o ih [] c a = let q = among_one j key.Depth a in subst (λ i. Grouped [] p (entry i v w ∷ es)) (sym q) (grouped_depth p v w es (rw q at o))
  grouped_from j o ih (k ∷ ks) c a = go (same j k) refl a (λ a. grouped_from j o ih ks c.1 a)
    where
      go : (b : Bool) → same j k ≡ b → (b || among j (ks ++ (key.Depth ∷ []))) ≡ true → (among j (ks ++ (key.Depth ∷ [])) ≡ true → Grouped ks p (entry j v w ∷ es)) → Grouped (k ∷ ks) p (entry j v w ∷ es)
      go true s a more = subst (λ i. Onward (moved p i v) es → Grouped (k ∷ ks) p (entry i v w ∷ es)) (sym (same_is j k s)) (grouped_first k ks c) ih
      go false s a more = grouped_skip k ks p c.0 (entry j v w ∷ es) (more a)

grouped : (es : List Entry) (p : Place) → Ordered Sheet p es → Onward p es
grouped [] p o ks c m b = absurd (clash (may_end Sheet p) o m)
grouped (e ∷ es) p o ks c m b = grouped_from p e.first e.second es e.key o.1 (grouped es (moved p e.key e.first) o.1) ks c (b e.key o.0.order)

-- ---- the head

abbrev behind_chains : List Key
behind_chains = key.Chain ∷ optional_keys

behind_chains_lem : Linked behind_chains
unfolding numeric notation row_at rows among same every follows after
behind_chains_lem = (record { number = refl; apart = refl; follow = refl }, (record { number = refl; apart = refl; follow = refl }, (record { number = refl; apart = refl; follow = refl }, tt)))

five : (a b c d e : List ℕ) → a ++ (b ++ (c ++ (d ++ e))) ≡ (a ++ (b ++ (c ++ d))) ++ e
five a b c d e = sym (append_assoc a (b ++ (c ++ d)) e ∙ ap (λ (x : List ℕ). a ++ x) (append_assoc b (c ++ d) e ∙ ap (λ (x : List ℕ). b ++ x) (append_assoc c d e)))

head_lines : (cells taps chains a b c : ℕ) (es : List Entry) → Grouped behind_chains (place_at key.Chains 1 cells chains) es → length (masks_of es) ≡ chains
    → (xs : List Entry) → xs ≡ entry key.Cells cells a ∷ entry key.Taps taps b ∷ entry key.Chains chains c ∷ es
    → written_before key.Depth start xs ≡ head_text (settings_of xs) (masks_of xs) (inverts_of xs) (windows_of xs)
unfolding written_before written value notation row_at rows picked same moved run_of chains_text head_text number_line lines_of
head_lines cells taps chains a b c es h n xs q =
    let C = number_line 10 (name key.Cells) cells in
    let T = number_line 16 (name key.Taps) taps in
    let H = number_line 10 (name key.Chains) chains in
    let M = number_lines 16 (name key.Chain) (masks_of es) in
    let I = number_lines 16 (name key.Invert) (inverts_of es) in
    let W = number_lines 10 (name key.Window) (windows_of es) in
    rw (q, n) (ap (λ (x : List ℕ). C ++ (T ++ (H ++ x))) (h.lines ∙ ap (λ (x : List ℕ). M ++ (I ++ x)) (append-nil W)) ∙ five C T H M (I ++ W))

head-after : (cells taps chains a b c : ℕ) (es : List Entry) → Ordered Sheet (place_at key.Chains 1 cells chains) es
    → (xs : List Entry) → xs ≡ entry key.Cells cells a ∷ entry key.Taps taps b ∷ entry key.Chains chains c ∷ es
    → ((n : ℕ) → numbers_for key.Chains xs ≡ n ∷ [] → length (masks_of xs) ≡ n)
    → written_before key.Depth start xs ≡ head_text (settings_of xs) (masks_of xs) (inverts_of xs) (windows_of xs)
unfolding in_order may_stand missing after among same may_end picked
head-after cells taps chains a b c es o xs q count =
    let g = grouped es (place_at key.Chains 1 cells chains) o behind_chains behind_chains_lem refl (λ j i. rw (among_one j key.Chain i)) in
    let n = count chains (ap (numbers_for key.Chains) q ∙ ap (λ (l : List ℕ). chains ∷ l) (g.none key.Chains refl)) in
    head_lines cells taps chains a b c es g (sym (ap (λ l. length (masks_of l)) q) ∙ n) xs q

head-written : (es : List Entry) → Ordered Sheet start es → ((n : ℕ) → numbers_for key.Chains es ≡ n ∷ [] → length (masks_of es) ≡ n) → written_before key.Depth start es ≡ head_text (settings_of es) (masks_of es) (inverts_of es) (windows_of es)
unfolding may_stand missing after among same may_end moved run_of
head-written es o count =
    let a = next_line Sheet start key.Cells es refl refl o in
    let b = next_line Sheet (moved start key.Cells a.first) key.Taps a.others refl refl a.order in
    let c = next_line Sheet (moved (moved start key.Cells a.first) key.Taps b.first) key.Chains b.others refl refl b.order in
    head-after a.first b.first c.first a.second b.second c.second c.others c.order
    es (a.whole ∙ ap (λ l. entry key.Cells a.first a.second ∷ l) (b.whole ∙ ap (λ l. entry key.Taps b.first b.second ∷ l) c.whole)) count

pub head_spelt : (s : List ℕ) → (reading_of Sheet s).end ≡ Ok tt → lines_before key.Depth (split s) ≡ head_text (settings_of (reading_of Sheet s).entries) (masks_of (reading_of Sheet s).entries) (inverts_of (reading_of Sheet s).entries) (windows_of (reading_of Sheet s).entries)
unfolding reading_of
head_spelt s e =
    let t = text_through Sheet key.Depth (split s) start 1 e in
    t.before ∙ head-written (reading_of Sheet s).entries t.order (chains_counted s e)
