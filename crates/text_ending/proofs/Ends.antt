-- The end of a text (`end_of`).
--     end_whole, end_early     a text that may end there, and one that may not
--     refused_whole            no refusal is the end of a text that is read through
-- Assumes nothing.
use Rattle.std.specs.Prelude.{Err, Ok, Result}
use mathlib.Core.Bool.{true, false}
use mathlib.Core.Path.{◌≡◌}
use Prim.Native.Nat.{ℕ}
use native.Mathlib.Omega.{arith}
use Rattle.refusal_causes.specs.declared.Refusal.{Refusal}
use Rattle.text_keys.specs.declared.LineCause.TheVariants.{Form}
use Rattle.text_order.specs.Order.{may_end}
use Rattle.text_order.specs.declared.Kind.{Kind}
use Rattle.text_place.specs.declared.Place.{Place}
use Rattle.text_ending.specs.Ending.{refused_at, end_of}

module _ (kind : Kind) (p : Place) (n : ℕ) where
  pub end_whole : may_end kind p ≡ true → end_of kind p n ≡ Ok tt
  unfolding end_of
  end_whole e = rw (e, end_of)

  pub end_early : may_end kind p ≡ false → end_of kind p n ≡ Err (refused_at Form n)
  unfolding end_of
  end_early e = rw (e, end_of)

pub refused_whole : (r : Refusal) → ◌≡◌ {A = Result (Unit {0}) Refusal} (Err r) (Ok tt) → ⊥
refused_whole r e = let z : ◌≡◌ {A = ℕ} 0 1 = cc in omega arith
