-- Laws of the masks at the specified positions, and of the loop that writes them.
--     chosen-take, chosen_skip     one chain more, by its position
--     chosen-map, chosen_few       a mask pulled back first or last; at most one for each chain
--     Choosing                     what is chosen and what is left, written from here, is the whole
--     choosing_start, choosing_take, choosing_skip, choosing_end     of a loop that goes up
-- Assumes nothing.
use mathlib.Core.Path.{◌≡◌, refl, sym, ap, ◌∙◌}
use mathlib.Core.Logic.{⊎_elim}
use mathlib.Core.List.{List, [], ◌∷◌, ◌++◌, map}
use Prim.Native.Nat.{ℕ, ◌+◌, ◌/◌, ◌%◌, ◌≤◌, ◌<◌}
use native.Mathlib.Numerals.{add-one}
use native.Mathlib.Omega.{arith}
use lib.ListN.{get_or, length, drop, set, length-set, drop_of_length-le}
use lib.Seq.{sets, sets-eq, drop-cons}
use borrow.Author.Tests.{eq-eqb, ne_eqb}
use Rattle.words_bounded.proofs.Tests.{eq_or_not}
use Rattle.search_table.specs.Chosen.{chosen}

pub chosen-take : (p m : ℕ) (ms : List ℕ) → p % 2 ≡ 1 → chosen p (m ∷ ms) ≡ m ∷ chosen (p / 2) ms
unfolding chosen
chosen-take p m ms e = rw (eq-eqb (p % 2) 1 e, chosen)

pub chosen_skip : (p m : ℕ) (ms : List ℕ) → (p % 2 ≡ 1 → ⊥) → chosen p (m ∷ ms) ≡ chosen (p / 2) ms
unfolding chosen
chosen_skip p m ms n = rw (ne_eqb (p % 2) 1 n, chosen)

pub chosen-map : (f : ℕ → ℕ) (p : ℕ) (ms : List ℕ) → chosen p (map f ms) ≡ map f (chosen p ms)
unfolding chosen
chosen-map f p [] = refl
chosen-map f p (m ∷ ms) = ⊎_elim
    (λ e. chosen-take p (f m) (map f ms) e ∙ ap (λ (l : List ℕ). f m ∷ l) (chosen-map f (p / 2) ms) ∙ sym (ap (map f) (chosen-take p m ms e)))
    (λ n. chosen_skip p (f m) (map f ms) n ∙ chosen-map f (p / 2) ms ∙ sym (ap (map f) (chosen_skip p m ms n)))
    (eq_or_not (p % 2) 1)

pub chosen_few : (p : ℕ) (ms : List ℕ) → length (chosen p ms) ≤ length ms
unfolding chosen
chosen_few p [] = omega arith
chosen_few p (m ∷ ms) = ⊎_elim
    (λ e. rw (chosen-take p m ms e) (omega (arith, chosen_few (p / 2) ms)))
    (λ n. rw (chosen_skip p m ms n) (omega (arith, chosen_few (p / 2) ms)))
    (eq_or_not (p % 2) 1)

module _ (specified : ℕ) (masks old : List ℕ) where
  pub record Choosing (p n i : ℕ) (out : List ℕ) : Type 0 where
    pub within : i ≤ length masks
    pub before : n ≤ i
    pub same : length out ≡ length old
    pub count : n + length (chosen p (drop i masks)) ≡ length (chosen specified masks)
    pub written : sets out n (chosen p (drop i masks)) ≡ sets old 0 (chosen specified masks)

  pub choosing_start : Choosing specified 0 0 old
  choosing_start = record { within = omega arith; before = omega arith; same = refl; count = omega arith; written = refl }

  rest : (i : ℕ) → i < length masks → drop i masks ≡ get_or masks i 0 ∷ drop (i + 1) masks
  rest i h = drop-cons masks i 0 h ∙ ap (λ (k : ℕ). get_or masks i 0 ∷ drop k masks) (sym (add-one i))

  module _ (p n i : ℕ) (out : List ℕ) (h : i < length masks) (c : Choosing p n i out) where
    pub choosing_take : p % 2 ≡ 1 → Choosing (p / 2) (n + 1) (i + 1) (set out n (get_or masks i 0))
    choosing_take e =
        let q : chosen p (drop i masks) ≡ get_or masks i 0 ∷ chosen (p / 2) (drop (i + 1) masks) = ap (chosen p) (rest i h) ∙ chosen-take p (get_or masks i 0) (drop (i + 1) masks) e in
        record {
          within = omega arith;
          before = omega (arith, c.before);
          same = length-set out n (get_or masks i 0) ∙ c.same;
          count = omega (arith, ap length q, c.count);
          written = ap (λ (k : ℕ). sets (set out n (get_or masks i 0)) k (chosen (p / 2) (drop (i + 1) masks))) (add-one n) ∙ ap (sets out n) (sym q) ∙ c.written;
        }

    pub choosing_skip : (p % 2 ≡ 1 → ⊥) → Choosing (p / 2) n (i + 1) out
    choosing_skip ne =
        let q : chosen p (drop i masks) ≡ chosen (p / 2) (drop (i + 1) masks) = ap (chosen p) (rest i h) ∙ chosen_skip p (get_or masks i 0) (drop (i + 1) masks) ne in
        record {
          within = omega arith;
          before = omega (arith, c.before);
          same = c.same;
          count = omega (arith, ap length q, c.count);
          written = ap (sets out n) (sym q) ∙ c.written;
        }

  pub choosing_end : (p n i : ℕ) (out : List ℕ) → length masks ≤ length old → length masks ≤ i → Choosing p n i out
      → (n ≡ length (chosen specified masks)) × (out ≡ chosen specified masks ++ drop (length (chosen specified masks)) old)
  unfolding chosen
  choosing_end p n i out l h c =
      let e : chosen p (drop i masks) ≡ [] = ap (chosen p) (drop_of_length-le masks {i = i} h) in
      let q : sets out n [] ≡ sets old 0 (chosen specified masks) = ap (sets out n) (sym e) ∙ c.written in
      let z : 0 + length (chosen specified masks) ≡ length (chosen specified masks) = omega arith in
      (omega (arith, ap length e, c.count), q ∙ sets-eq (chosen specified masks) old 0 (omega (arith, chosen_few specified masks)) ∙ rw z)
