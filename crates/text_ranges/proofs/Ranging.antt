-- What a line says at a place (`out_of_range`, `tested`, `ranged`).
--     range_many, range-own                         one line too many, or the line's own number
--     tested-other, tested-beyond, tested_right     a line out of order, out of range, or neither
--     saying-said, saying_refused                   by what it says by its form
-- Assumes nothing.
use mathlib.Core.Bool.{true, false}
use mathlib.Core.Path.{◌≡◌}
use mathlib.Core.List.{List}
use Prim.Native.Nat.{ℕ, ◌≤◌, ◌<◌}
use borrow.Author.Tests.{le-leb, lt-leb}
use Rattle.text_keys.specs.Keys.{most, range, cause}
use Rattle.text_keys.specs.declared.Key.{Key}
use Rattle.text_keys.specs.declared.LineCause.{LineCause}
use Rattle.text_keys.specs.declared.LineCause.TheVariants.{Form}
use Rattle.text_lines.specs.Form.{formed}
use Rattle.text_lines.specs.declared.Entry.{Entry}
use Rattle.text_lines.specs.declared.Line.TheVariants.{Said, Refused}
use Rattle.text_order.specs.Order.{in_order}
use Rattle.text_order.specs.declared.Kind.{Kind}
use Rattle.text_place.specs.Places.{run_of}
use Rattle.text_place.specs.declared.Place.{Place}
use Rattle.text_ranges.specs.Ranges.{outside, out_of_range, tested, ranged, saying}

module _ (p : Place) (k : Key) (v : ℕ) where
  pub range_many : most k ≤ run_of p k → out_of_range p k v ≡ true
  unfolding out_of_range
  range_many h = rw (le-leb (most k) (run_of p k) h)

  pub range-own : run_of p k < most k → out_of_range p k v ≡ outside p (range k) v
  unfolding out_of_range
  range-own h = rw (lt-leb (most k) (run_of p k) h)

module _ (kind : Kind) (p : Place) where
  module _ (e : Entry) where
    pub tested-other : in_order kind p e.key ≡ false → tested kind p e ≡ Refused Form
    unfolding tested
    tested-other o = rw (o, tested)

    pub tested-beyond : in_order kind p e.key ≡ true → out_of_range p e.key e.first ≡ true → tested kind p e ≡ Refused (cause e.key)
    unfolding tested
    tested-beyond o r = rw (o, tested, r, tested)

    pub tested_right : in_order kind p e.key ≡ true → out_of_range p e.key e.first ≡ false → tested kind p e ≡ Said e
    unfolding tested
    tested_right o r = rw (o, tested, r, tested)

  module _ (l : List ℕ) where
    pub saying-said : (e : Entry) → formed p.chains l ≡ Said e → saying kind p l ≡ tested kind p e
    unfolding saying ranged
    saying-said e q = rw (q, ranged)

    pub saying_refused : (c : LineCause) → formed p.chains l ≡ Refused c → saying kind p l ≡ Refused c
    unfolding saying ranged
    saying_refused c q = rw (q, ranged)
