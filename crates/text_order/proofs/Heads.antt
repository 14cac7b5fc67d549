-- The lines that a sheet and its seed list have in common: those before depth. The order of both kinds of text agrees on them.
--     optional_keys, optional k     the keys of the lines that may follow the chain lines and need not
--     head_keys, head k     the keys of all of them
--     optional-each        what holds of each optional key
--     optional-next        after the chain lines or an optional line, such a key is optional
--     head-next            after such lines, a key other than depth that may stand in a sheet is such a key, and may stand in a seed list
--     stop-next            where depth may stand in a sheet, stop may stand in a seed list
--     head-ends            no sheet ends before depth
-- Assumes nothing.
use mathlib.Core.Bool.{Bool, true, false, not, ◌&&◌, ◌||◌}
use mathlib.Core.Path.{◌≡◌, refl, sym, subst}
use mathlib.Core.List.{List, [], ◌∷◌}
use lib.Dec.{eqb}
use Rattle.text_keys.specs.Keys.{rows, same}
use Rattle.text_keys.specs.declared.Key.{Key}
use Rattle.text_keys.specs.declared.Key.TheVariants as key
use Rattle.text_keys.proofs.Table.{every, every_of, and_left, and_right, same_is}
use Rattle.text_order.specs.Order.{after, missing, among, in_order, may_end}
use Rattle.text_order.specs.declared.Kind.TheVariants.{Sheet, SeedList}
use Rattle.text_order.proofs.Standing.{stand_first, stand_chain, stand_after, among_one}
use Rattle.text_place.specs.declared.Place.{Place}

abbrev pub optional_keys : List Key
optional_keys = key.Invert ∷ key.Window ∷ []

unfoldable pub optional : Key → Bool
optional k = among k optional_keys

abbrev pub head_keys : List Key
head_keys = key.Cells ∷ key.Taps ∷ key.Chains ∷ key.Chain ∷ optional_keys

unfoldable pub head : Key → Bool
head k = among k head_keys

-- ---- after the lines of a key, computed for all keys

alike : Key → Key → Bool
alike j k = not (head j) || (not (among k (after Sheet j)) || (same k key.Depth || (head k && among k (after SeedList j))))

all_alike : every (λ q. every (λ r. alike q.key r.key) rows) rows ≡ true
unfolding every rows alike head among same after
all_alike = refl

after_alike : (j k : Key) → head j ≡ true → among k (after Sheet j) ≡ true → same k key.Depth ≡ false → (head k && among k (after SeedList j)) ≡ true
unfolding alike
after_alike j k h a d = rw (h, a, d) at (every_of (alike j) (every_of (λ i. every (λ r. alike i r.key) rows) all_alike j) k)

stopping : Key → Bool
stopping j = not (head j) || (not (among key.Depth (after Sheet j)) || among key.Stop (after SeedList j))

all_stopping : every (λ r. stopping r.key) rows ≡ true
unfolding every rows stopping head among same after
all_stopping = refl

after_stopping : (j : Key) → head j ≡ true → among key.Depth (after Sheet j) ≡ true → among key.Stop (after SeedList j) ≡ true
unfolding stopping
after_stopping j h a = rw (h, a) at (every_of stopping all_stopping j)

going : Key → Bool
going j = not (head j) || not (among j (key.Depth ∷ key.Slice ∷ []))

all_going : every (λ r. going r.key) rows ≡ true
unfolding every rows going head among same
all_going = refl

behind : Key → Key → Bool
behind j k = not (same j key.Chain || optional j) || (not (among k (after Sheet j)) || (not (head k) || optional k))

all_behind : every (λ q. every (λ r. behind q.key r.key) rows) rows ≡ true
unfolding every rows behind head optional among same after
all_behind = refl

pub optional-next : (j k : Key) → (same j key.Chain || optional j) ≡ true → among k (after Sheet j) ≡ true → head k ≡ true → optional k ≡ true
unfolding behind
optional-next j k b a h = rw (b, a, h) at (every_of (behind j) (every_of (λ i. every (λ r. behind i r.key) rows) all_behind j) k)

pub optional-each : (P : Key → Type 0) → P key.Invert → P key.Window → (k : Key) → optional k ≡ true → P k
unfolding optional among
optional-each P i w k e = go (same k key.Invert) refl e
  where
    go : (b : Bool) → same k key.Invert ≡ b → (b || (same k key.Window || false)) ≡ true → P k
    go true s e = subst P (sym (same_is k key.Invert s)) i
    go false s e = subst P (sym (among_one k key.Window e)) w

not_is : (b : Bool) → not b ≡ true → b ≡ false
not_is true e = cc
not_is false e = refl

-- ---- at a place

module _ (p : Place) (h : head p.last ≡ true) where
  pub head-next : (k : Key) → in_order Sheet p k ≡ true → same k key.Depth ≡ false → (head k ≡ true) × (in_order SeedList p k ≡ true)
  unfolding in_order head among same
  head-next k o d = go (eqb p.run 0) refl (missing p) refl
    where
      go : (a : Bool) → eqb p.run 0 ≡ a → (b : Bool) → missing p ≡ b → (head k ≡ true) × (in_order SeedList p k ≡ true)
      go true z b m = let e = among_one k key.Cells (rw (stand_first p Sheet z) at o) in (rw e refl, rw (stand_first p SeedList z, e) refl)
      go false z true m = let e = among_one k key.Chain (rw (stand_chain p Sheet z m) at o) in (rw e refl, rw (stand_chain p SeedList z m, e) refl)
      go false z false m =
          let q = after_alike p.last k h (rw (stand_after p Sheet z m) at o) d in
          (and_left (head k) (among k (after SeedList p.last)) q, rw (stand_after p SeedList z m) (and_right (head k) (among k (after SeedList p.last)) q))

  pub stop-next : in_order Sheet p key.Depth ≡ true → in_order SeedList p key.Stop ≡ true
  unfolding in_order among same
  stop-next o = go (eqb p.run 0) refl (missing p) refl
    where
      go : (a : Bool) → eqb p.run 0 ≡ a → (b : Bool) → missing p ≡ b → in_order SeedList p key.Stop ≡ true
      go true z b m = let e : false ≡ true = rw (stand_first p Sheet z) at o in cc
      go false z true m = let e : false ≡ true = rw (stand_chain p Sheet z m) at o in cc
      go false z false m = rw (stand_after p SeedList z m) (after_stopping p.last h (rw (stand_after p Sheet z m) at o))

  pub head-ends : may_end Sheet p ≡ false
  unfolding may_end going
  head-ends = not_is (may_end Sheet p) (rw h at (every_of going all_going p.last))
