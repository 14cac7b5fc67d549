-- Entries in order (`Ordered`), line by line.
--     only_key            the key of a line where only one may stand
--     Next kind p j es    the entries es, in order from the place p on, begin with one of the key j
--     next_some           where a text may not end they begin with one whose key may stand there
--     next_line           which is j where only j may stand
--     slices_none         where only slice lines may stand there is no number for another key
-- Assumes nothing.
use mathlib.Core.Bool.{true, false}
use mathlib.Core.Path.{◌≡◌, refl}
use mathlib.Core.List.{List, [], ◌∷◌}
use Prim.Native.Nat.{ℕ}
use Rattle.words_bounded.proofs.Tests.{clash}
use Rattle.text_keys.specs.Keys.{same}
use Rattle.text_keys.specs.declared.Key.{Key}
use Rattle.text_keys.specs.declared.Key.TheVariants as key
use Rattle.text_lines.specs.Form.{entry}
use Rattle.text_lines.specs.declared.Entry.{Entry}
use Rattle.text_entries.specs.Said.{picked, numbers_for}
use Rattle.text_order.specs.Order.{after, may_stand, in_order, may_end}
use Rattle.text_order.specs.declared.Kind.{Kind}
use Rattle.text_order.specs.declared.Kind.TheVariants.{Sheet}
use Rattle.text_order.proofs.Standing.{among_one}
use Rattle.text_place.specs.Places.{moved}
use Rattle.text_place.specs.declared.Place.{Place}
use Rattle.text_ranges.specs.Ranges.{out_of_range}
use Rattle.text_readback.proofs.Heads.{stand_next}
use Rattle.text_spelling.proofs.Entries.{Ordered}

module _ (kind : Kind) (p : Place) where
  only_key : (k j : Key) → may_stand kind p ≡ j ∷ [] → in_order kind p k ≡ true → k ≡ j
  unfolding in_order
  only_key k j s o = among_one k j (rw s at o)

pub record Next (kind : Kind) (p : Place) (j : Key) (es : List Entry) : Type 0 where
  pub first : ℕ
  pub second : ℕ
  pub others : List Entry
  pub whole : es ≡ entry j first second ∷ others
  pub ranges : out_of_range p j first ≡ false
  pub order : Ordered kind (moved p j first) others

next_some : (kind : Kind) (p : Place) (es : List Entry) → may_end kind p ≡ false → Ordered kind p es → (j : Key) × (in_order kind p j ≡ true) × Next kind p j es
next_some kind p [] m o = absurd (clash (may_end kind p) o m)
next_some kind p (e ∷ es) m o = (e.key, o.0.order, record { first = e.first; second = e.second; others = es; whole = refl; ranges = o.0.ranges; order = o.1 })

pub next_line : (kind : Kind) (p : Place) (j : Key) (es : List Entry) → may_stand kind p ≡ j ∷ [] → may_end kind p ≡ false → Ordered kind p es → Next kind p j es
next_line kind p j es s m o = let n = next_some kind p es m o in rw (only_key kind p n.0 j s n.1) at n.2

pub slices_none : (k : Key) → same key.Slice k ≡ false → (es : List Entry) (p : Place) → may_stand Sheet p ≡ key.Slice ∷ [] → Ordered Sheet p es → numbers_for k es ≡ []
unfolding picked after same
slices_none k n [] p s o = refl
slices_none k n (e ∷ es) p s o =
    let q = only_key Sheet p e.key key.Slice s o.0.order in
    rw (q, n, picked) (slices_none k n es (moved p key.Slice e.first) (stand_next Sheet p key.Slice e.first refl) (rw q at o.1))
