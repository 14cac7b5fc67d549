-- What a row forces leaves every member that does not show the row.
--     forced_sound     a member of what is left is a member of the space
--     forced_complete  a member that does not show the row is left
--     forced_rising    the vectors rise still
--     forced_none      where nothing is left, each member shows the row
-- Assumes nothing.
use Rattle.std.specs.Prelude.{None, Some}
use Rattle.std.proofs.lemmas.Option.{none-some, same_Some}
use mathlib.Core.Path.{◌≡◌, sym}
use mathlib.Core.Bool.{Bool, false}
use mathlib.Core.List.{List}
use Prim.Native.Nat.{ℕ}
use Rattle.words_bounded.proofs.Tests.{clash}
use Rattle.search_space.specs.declared.Space.{Space}
use Rattle.search_pivot.specs.Pivot.{pivot, without}
use Rattle.search_restrict.specs.Restricted.{shifted}
use Rattle.search_space.specs.Space.{Rising, Member}
use Rattle.search_space.proofs.Members.{among_is, is_among}
use Rattle.search_restrict.proofs.Restricting.{restricts, restricted_none, restrict_sound, restrict_complete, restrict_rising}
use Rattle.search_rows.specs.declared.Pattern.{Pattern}
use Rattle.search_rows.specs.Rows.{row, shown}
use Rattle.search_showing.specs.Showing.{across}
use Rattle.search_showing.specs.declared.Shows.{Shows}
use Rattle.search_showing.specs.declared.Shows.TheVariants.{Always, Unless, Neither}
use Rattle.search_showing.proofs.Saying.{Says, across-says}
use Rattle.search_forcing.specs.Forcing.{forced, forced_vectors, left, narrowed}

-- ---- a space that is narrowed

module _ (vs : List ℕ) (y : Space) where
  module _ (z : Space) where
    narrowed_sound : (h : Shows) → narrowed h vs y ≡ Some z → (s : ℕ) → Member z (left h vs) s → Member y vs s
    narrowed_sound Always e s k = absurd (none-some z e)
    narrowed_sound (Unless m b) e s k =
        let x = shifted m b y.lowest (pivot m vs) in
        let r = restricts m b vs y z e in
        is_among vs y.lowest s (restrict_sound m b vs y.lowest r.1 s (among_is (without m vs) x s (rw r.0 at k))).0
    narrowed_sound Neither e s k = rw (sym (same_Some y z e)) at k

    narrowed_complete : (h : Shows) → narrowed h vs y ≡ Some z → (c : Bool) (s : ℕ) → Says h c s → Member y vs s → c ≡ false → Member z (left h vs) s
    narrowed_complete Always e c s q k f = absurd (none-some z e)
    narrowed_complete (Unless m b) e c s q k f =
        let x = shifted m b y.lowest (pivot m vs) in
        let r = restrict_complete m b vs y.lowest q.0 s (among_is vs y.lowest s k) (q.1 f) in
        rw (restricts m b vs y z e).0 (is_among (without m vs) x s r.1)
    narrowed_complete Neither e c s q k f = rw (sym (same_Some y z e)) k

    narrowed_rising : (h : Shows) → narrowed h vs y ≡ Some z → Rising y.lowest 0 vs → Rising z.lowest 0 (left h vs)
    narrowed_rising Always e r = absurd (none-some z e)
    narrowed_rising (Unless m b) e r =
        let q = restricts m b vs y z e in
        rw q.0 (restrict_rising m b vs y.lowest q.1 r)
    narrowed_rising Neither e r = rw (sym (same_Some y z e)) r

  narrowed_none : (h : Shows) → narrowed h vs y ≡ None → (c : Bool) (s : ℕ) → Says h c s → Member y vs s → c ≡ false → ⊥
  narrowed_none Always e c s q k f = clash c q f
  narrowed_none (Unless m b) e c s q k f =
      restricted_none m b vs y e (restrict_complete m b vs y.lowest q.0 s (among_is vs y.lowest s k) (q.1 f)).0
  narrowed_none Neither e c s q k f = none-some y (sym e)

-- ---- by a row

module _ (p : Pattern) (table : List ℕ) (t : ℕ) (vs : List ℕ) (y : Space) where
  abbrev says : Shows
  says = across (row p.columns table t) p.bits y.lowest vs

  module _ (z : Space) (e : Some z ≡ forced p table t vs y) where
    pub forced_sound : (s : ℕ) → Member z (forced_vectors p table t vs y) s → Member y vs s
    unfolding forced forced_vectors
    forced_sound = narrowed_sound vs y z says (sym e)

    pub forced_complete : (s : ℕ) → Member y vs s → shown p table t s ≡ false → Member z (forced_vectors p table t vs y) s
    unfolding forced forced_vectors shown
    forced_complete s k f =
        narrowed_complete vs y z says (sym e) (shown p table t s) s
        (across-says (row p.columns table t) p.bits y.lowest vs s (among_is vs y.lowest s k)) k f

    pub forced_rising : Rising y.lowest 0 vs → Rising z.lowest 0 (forced_vectors p table t vs y)
    unfolding forced forced_vectors
    forced_rising = narrowed_rising vs y z says (sym e)

  pub forced_none : None ≡ forced p table t vs y → (s : ℕ) → Member y vs s → shown p table t s ≡ false → ⊥
  unfolding forced shown
  forced_none e s k f =
      narrowed_none vs y says (sym e) (shown p table t s) s
      (across-says (row p.columns table t) p.bits y.lowest vs s (among_is vs y.lowest s k)) k f
