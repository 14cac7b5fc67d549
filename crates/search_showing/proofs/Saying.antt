-- What is said of the members of a space that show a row holds of each of them.
--     Says h c s       what h says of a member s that shows the row where c is true
--     across-says      it holds of each member
-- Assumes nothing.
use mathlib.Core.Path.{◌≡◌, refl, ◌∙◌}
use mathlib.Core.Logic.{⊎_elim}
use mathlib.Core.Bool.{Bool, true, false, ◌&&◌}
use mathlib.Core.List.{List, [], ◌∷◌}
use Prim.Native.Nat.{ℕ, ◌/◌, ◌%◌, ◌<◌}
use native.Mathlib.Omega.{arith}
use lib.Dec.{eqb, ltb}
use borrow.Author.Tests.{eqb-false, eq-eqb, ltb-false}
use Rattle.words_bounded.proofs.Tests.{clash, eq_or_not}
use Rattle.words_gf2.specs.Words.{odd}
use Rattle.words_gf2.proofs.Parity.{odd_lt}
use Rattle.search_pivot.specs.Pivot.{pivot}
use Rattle.search_space.proofs.Members.{Among}
use Rattle.search_pivot.proofs.Pivot.{no_pivot}
use Rattle.search_rows.specs.Rows.{reads}
use Rattle.search_showing.specs.Showing.{across, column, together}
use Rattle.search_showing.specs.declared.Shows.{Shows}
use Rattle.search_showing.specs.declared.Shows.TheVariants.{Always, Unless, Neither}
use Rattle.search_showing.proofs.Columns.{column-splits, column-reads, column_differs}

abbrev pub Says : Shows → Bool → ℕ → Type 0
Says Always c s = c ≡ true
Says (Unless m b) c s = (b < 2) × (c ≡ false → odd s m ≡ b)
Says Neither c s = Unit {0}

column-says : (m b x : ℕ) (vs : List ℕ) (s : ℕ) → b < 2 → Among x vs s → Says (column m b x vs) (eqb (odd s m) b) s
column-says m b x vs s lt a = go (ltb 0 (pivot m vs)) refl
  where
    go : (t : Bool) → ltb 0 (pivot m vs) ≡ t → Says (column m b x vs) (eqb (odd s m) b) s
    go true e = rw (column-splits m b x vs e) (omega arith, λ f. (let n = eqb-false (odd s m) b f in omega (arith, odd_lt s m)))
    go false e =
        let z : pivot m vs ≡ 0 = (let l = ltb-false 0 (pivot m vs) e in omega arith) in
        let q = no_pivot m vs x s z a in
        ⊎_elim (λ r. rw (column-reads m b x vs e r) (eq-eqb (odd s m) b (q ∙ r))) (λ n. rw (column_differs m b x vs e n) tt) (eq_or_not (odd x m) b)

together-says : (p q : Shows) (c d : Bool) (s : ℕ) → Says p c s → Says q d s → Says (together p q) (c && d) s
together-says Always q true d s h g = g
together-says Always q false d s h g = absurd (clash false h refl)
together-says (Unless m b) Always true d s h g = (h.0, λ f. absurd (clash d g f))
together-says (Unless m b) Always false d s h g = h
together-says (Unless m b) (Unless n c) e d s h g = tt
together-says (Unless m b) Neither e d s h g = tt
together-says Neither q c d s h g = tt

pub across-says : (ms : List ℕ) (bits x : ℕ) (vs : List ℕ) (s : ℕ) → Among x vs s → Says (across ms bits x vs) (reads ms bits s) s
unfolding across reads
across-says [] bits x vs s a = refl
across-says (m ∷ ms) bits x vs s a =
    together-says (column m (bits % 2) x vs) (across ms (bits / 2) x vs) (eqb (odd s m) (bits % 2)) (reads ms (bits / 2) s) s
    (column-says m (bits % 2) x vs s (omega arith) a) (across-says ms (bits / 2) x vs s a)
