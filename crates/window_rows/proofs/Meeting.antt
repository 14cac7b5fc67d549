-- Laws of meeting a slice, as its loop goes up through the positions.
--     meets-take, meets_skip, meets-none     one position more, by whether it is specified; none is left
--     meet-take, meet-stop, meet_skip, meet_end     what is left to ask; no member is left
--     left_chain, left-half                  the positions that are left fit the chains that are left
-- Assumes nothing.
use Rattle.std.specs.Prelude.{None, Some}
use mathlib.Core.Path.{◌≡◌, refl, sym, ap, ◌∙◌}
use mathlib.Core.Logic.{⊎_elim}
use mathlib.Core.Bool.{Bool, true, ◌&&◌}
use mathlib.Core.List.{List, [], ◌∷◌}
use Prim.Native.Nat.{ℕ, suc, ◌+◌, ◌-◌, ◌^◌, ◌/◌, ◌%◌, ◌<◌}
use native.Mathlib.Numerals.{add-one}
use native.Mathlib.Omega.{arith}
use lib.Dec.{eqb}
use lib.ListN.{get_or, length, take, drop}
use lib.Seq.{drop-cons}
use borrow.Author.Tests.{eq-eqb, ne_eqb}
use Rattle.words_bounded.proofs.Tests.{lt_or_le}
use Rattle.words_gf2.specs.Words.{odd}
use Rattle.search_space.specs.declared.Space.{Space}
use Rattle.window_rows.specs.Meeting.{meets}
use Rattle.window_rows.specs.Narrowing.{Narrows, Narrowed}
use Rattle.window_rows.proofs.Narrowing.{Toward, narrows_none, narrows_same, narrowed_same, narrowed_then, narrowed_stop}

pub meets-take : (m : ℕ) (ms : List ℕ) (p b s : ℕ) → p % 2 ≡ 1 → meets (m ∷ ms) p b s ≡ (eqb (odd s m) (b % 2) && meets ms (p / 2) (b / 2) s)
unfolding meets
meets-take m ms p b s e = rw (eq-eqb (p % 2) 1 e, meets)

pub meets_skip : (m : ℕ) (ms : List ℕ) (p b s : ℕ) → (p % 2 ≡ 1 → ⊥) → meets (m ∷ ms) p b s ≡ meets ms (p / 2) (b / 2) s
unfolding meets
meets_skip m ms p b s n = rw (ne_eqb (p % 2) 1 n, meets)

meets-none : (ms : List ℕ) (b s : ℕ) → meets ms 0 b s ≡ true
unfolding meets
meets-none [] b s = refl
meets-none (m ∷ ms) b s = meets_skip m ms 0 b s (omega arith) ∙ meets-none ms (b / 2) s

module _ (row : List ℕ) (Q : ℕ → Bool) (x : Space) (us : List ℕ) where
  rest : (j : ℕ) → j < length row → drop j row ≡ get_or row j 0 ∷ drop (j + 1) row
  rest j h = drop-cons row j 0 h ∙ ap (λ (k : ℕ). get_or row j 0 ∷ drop k row) (sym (add-one j))

  -- the position j is asked, and then the others
  module _ (j p b : ℕ) (y : Space) (vs : List ℕ) (h : j < length row) (e : p % 2 ≡ 1) (t : Toward Q x us (meets (drop j row) p b) y vs) where
    abbrev Reads : ℕ → Bool
    Reads s = eqb (odd s (get_or row j 0)) (b % 2)

    abbrev Others : ℕ → Bool
    Others s = meets (drop (j + 1) row) (p / 2) (b / 2) s

    both_asked : (s : ℕ) → (Reads s && Others s) ≡ meets (drop j row) p b s
    both_asked s = sym (ap (λ (l : List ℕ). meets l p b s) (rest j h) ∙ meets-take (get_or row j 0) (drop (j + 1) row) p b s e)

    pub meet-take : (z : Space) (ws : List ℕ) → Narrows Reads y vs z ws → Toward Q x us (meets (drop (j + 1) row) (p / 2) (b / 2)) z ws
    meet-take z ws g u out c =
        t u out (narrowed_same (λ s. Reads s && Others s) (meets (drop j row) p b) y vs u out both_asked (narrowed_then Reads Others y vs z ws u out g c))

    pub meet-stop : (out new : List ℕ) → Narrowed Reads y vs None out → Narrowed Q x us None new
    meet-stop out new g =
        t None new (narrowed_same (λ s. Reads s && Others s) (meets (drop j row) p b) y vs None new both_asked (narrowed_stop Reads Others y vs out new g))

  pub meet_skip : (j p b : ℕ) (y : Space) (vs : List ℕ) → j < length row → (p % 2 ≡ 1 → ⊥) → Toward Q x us (meets (drop j row) p b) y vs
      → Toward Q x us (meets (drop (j + 1) row) (p / 2) (b / 2)) y vs
  meet_skip j p b y vs h n t z out c =
      t z out (narrowed_same (meets (drop (j + 1) row) (p / 2) (b / 2)) (meets (drop j row) p b) y vs z out
      (λ s. sym (ap (λ (l : List ℕ). meets l p b s) (rest j h) ∙ meets_skip (get_or row j 0) (drop (j + 1) row) p b s n)) c)

  pub meet_end : (j p b : ℕ) (y : Space) (l : List ℕ) → p ≡ 0 → Toward Q x us (meets (drop j row) p b) y (take y.free l) → Narrowed Q x us (Some y) l
  meet_end j p b y l e t =
      let vs = take y.free l in
      t (Some y) l (narrows_same (λ s. true) (meets (drop j row) p b) y vs y vs (λ s. sym (ap (λ (q : ℕ). meets (drop j row) q b s) e ∙ meets-none (drop j row) b s)) (narrows_none y vs))

-- the positions that are left fit the chains that are left
pub left_chain : (c j p : ℕ) → p < 2 ^ (c - j) → (p ≡ 0 → ⊥) → j < c
left_chain c j p h n = ⊎_elim (λ l. l) (λ l. absurd (let e : c - j ≡ 0 = omega arith in let q : p < 2 ^ 0 = rw e at h in omega arith)) (lt_or_le j c)

pub left-half : (c j p : ℕ) → p < 2 ^ (c - j) → j < c → p / 2 < 2 ^ (c - (j + 1))
left-half c j p h l =
    let e : c - j ≡ suc (c - (j + 1)) = omega arith in
    let q : p < 2 ^ suc (c - (j + 1)) = rw e at h in
    omega arith
