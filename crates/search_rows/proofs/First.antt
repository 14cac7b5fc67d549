-- Laws of the first row in which a state shows the pattern.
--     first_clear     there is none where the state is clear
--     first_some      what it says
-- Assumes nothing.
use Rattle.std.specs.Prelude.{None, Option, Some, is_none}
use mathlib.Core.Path.{◌≡◌, sym, ap, ◌∙◌, subst}
use mathlib.Core.Bool.{Bool, true}
use mathlib.Core.List.{List}
use Prim.Native.Nat.{ℕ, ◌<◌}
use Rattle.words_bounded.specs.Bounded.{least_below}
use Rattle.words_bounded.proofs.Search.{LeastIs, least_is}
use Rattle.words_bounded.proofs.Tests.{clash, fails}
use Rattle.search_rows.specs.Rows.{shown, clear}
use Rattle.search_rows.specs.First.{first_shown}
use Rattle.search_rows.specs.declared.Pattern.{Pattern}
use Rattle.search_rows.proofs.Reading.{clear_at, none-clear}

module _ (p : Pattern) (table : List ℕ) (m x : ℕ) where
  abbrev test : ℕ → Bool
  test t = shown p table t x

  pub first_clear : (r : Option ℕ) → r ≡ first_shown p table m x → clear p table m x ≡ is_none r
  unfolding first_shown
  first_clear r e = go (least_below test m) (least_is test m) ∙ ap is_none (sym e)
    where
      go : (o : Option ℕ) → LeastIs test m o → clear p table m x ≡ is_none o
      go None n = none-clear p table x m n
      go (Some t) l = fails (clear p table m x) (λ c. clash (test t) l.passes (clear_at p table x m t c l.below))

  pub first_some : (t : ℕ) → first_shown p table m x ≡ Some t → (t < m) × (shown p table t x ≡ true)
  unfolding first_shown
  first_some t e = let l = subst (LeastIs test m) e (least_is test m) in (l.below, l.passes)
