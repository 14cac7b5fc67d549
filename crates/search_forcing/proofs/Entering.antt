-- The answer of `force_row` and its buffer.
--     take_rest      a list is its first entries and the rest
--     Entered        the answer and the buffer are those that the row gives
--     entered        so they are, by what the row says
--     forced-left    the vectors of what is left, read off the buffer
-- Assumes nothing.
use Rattle.std.specs.Prelude.{Option, Some}
use Rattle.std.proofs.lemmas.Option.{none-some, same_Some}
use mathlib.Core.Path.{◌≡◌, refl, sym, ap, ◌∙◌}
use mathlib.Core.List.{List, [], ◌∷◌, ◌++◌}
use Prim.Native.Nat.{ℕ, zero, suc}
use lib.ListN.{length, take, drop}
use Rattle.search_space.specs.declared.Space.{Space}
use Rattle.search_restrict.proofs.Restricting.{restricted-left}
use Rattle.search_rows.specs.declared.Pattern.{Pattern}
use Rattle.search_rows.specs.Rows.{row}
use Rattle.search_showing.specs.Showing.{across}
use Rattle.search_forcing.specs.Forcing.{forced, forced_vectors, left, narrowed}
use Rattle.search_showing.specs.declared.Shows.{Shows}
use Rattle.search_showing.specs.declared.Shows.TheVariants.{Always, Unless, Neither}

pub take_rest : (n : ℕ) (l : List ℕ) → l ≡ take n l ++ drop (length (take n l)) l
take_rest zero l = refl
take_rest (suc n) [] = refl
take_rest (suc n) (x ∷ l) = ap (λ (r : List ℕ). x ∷ r) (take_rest n l)

module _ (y : Space) (l : List ℕ) where
  abbrev vs : List ℕ
  vs = take y.free l

  -- what is left, and the rest of the buffer as it was
  abbrev buffer : List ℕ → List ℕ
  buffer ws = ws ++ drop (length ws) l

  narrowed-left : (h : Shows) (z : Space) → narrowed h vs y ≡ Some z → take z.free (buffer (left h vs)) ≡ left h vs
  narrowed-left Always z e = absurd (none-some z e)
  narrowed-left (Unless m b) z e = restricted-left m b vs y z _ _ e refl
  narrowed-left Neither z e = rw (sym (same_Some y z e)) (ap (take y.free) (sym (take_rest y.free l)))

  module _ (p : Pattern) (table : List ℕ) (t : ℕ) where
    abbrev pub Entered : Option Space → List ℕ → Type 0
    Entered r out = (r ≡ forced p table t vs y) × (out ≡ buffer (forced_vectors p table t vs y))

    pub entered : (a h : Shows) → a ≡ across (row p.columns table t) p.bits y.lowest vs → a ≡ h
        → (r : Option Space) (out : List ℕ) → r ≡ narrowed h vs y → out ≡ buffer (left h vs) → Entered r out
    unfolding forced forced_vectors
    entered a h e f r out q w = rw (sym e ∙ f) (q, w)

    pub forced-left : (z : Space) (out : List ℕ) → Entered (Some z) out → take z.free out ≡ forced_vectors p table t vs y
    unfolding forced forced_vectors
    forced-left z out e = rw (e.1, forced_vectors) (narrowed-left (across (row p.columns table t) p.bits y.lowest vs) z (sym e.0))
