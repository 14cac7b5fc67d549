-- Which keys may stand at a place (`may_stand`).
--     missing_more, missing-none       chain lines are missing after a chain line of a run that is too short
--     stand_first, stand_chain, stand_after     before the first line, where chain lines are missing, and else
--     among_one                        a key among one
-- Assumes nothing.
use mathlib.Core.Bool.{Bool, true, false, ◌||◌}
use mathlib.Core.Path.{◌≡◌, refl}
use mathlib.Core.List.{[], ◌∷◌}
use lib.Dec.{eqb, ltb}
use Rattle.text_keys.specs.Keys.{same}
use Rattle.text_keys.specs.declared.Key.{Key}
use Rattle.text_keys.specs.declared.Key.TheVariants as key
use Rattle.text_keys.proofs.Table.{same_is}
use Rattle.text_order.specs.Order.{after, missing, may_stand, among}
use Rattle.text_order.specs.declared.Kind.{Kind}
use Rattle.text_place.specs.declared.Place.{Place}

module _ (p : Place) where
  pub missing_more : same p.last key.Chain ≡ true → missing p ≡ ltb p.run p.chains
  unfolding missing
  missing_more e = rw e

  pub missing-none : same p.last key.Chain ≡ false → missing p ≡ false
  unfolding missing
  missing-none e = rw e

  module _ (kind : Kind) where
    pub stand_first : eqb p.run 0 ≡ true → may_stand kind p ≡ key.Cells ∷ []
    unfolding may_stand
    stand_first e = rw (e, may_stand)

    pub stand_chain : eqb p.run 0 ≡ false → missing p ≡ true → may_stand kind p ≡ key.Chain ∷ []
    unfolding may_stand
    stand_chain e m = rw (e, may_stand, m, may_stand)

    pub stand_after : eqb p.run 0 ≡ false → missing p ≡ false → may_stand kind p ≡ after kind p.last
    unfolding may_stand
    stand_after e m = rw (e, may_stand, m, may_stand)

pub among_one : (k j : Key) → among k (j ∷ []) ≡ true → k ≡ j
unfolding among
among_one k j e = go (same k j) refl e
  where
    go : (b : Bool) → same k j ≡ b → (b || false) ≡ true → k ≡ j
    go true s e = same_is k j s
    go false s e = cc
