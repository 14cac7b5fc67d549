-- The clear members of a space, and what a search of it finds.
--     Passes p table m x vs s      s is a member of the space of x and vs, and clear in the rows below m
--     finds_lowest_clear, lowest_clear_finds     what a search of it finds, as an equation
-- Assumes nothing.
use Rattle.std.specs.Prelude.{Option}
use mathlib.Core.Path.{◌≡◌, refl}
use mathlib.Core.Logic.{inl}
use mathlib.Core.Bool.{true, ◌&&◌}
use mathlib.Core.List.{List}
use Prim.Native.Nat.{ℕ}
use Rattle.words_bounded.proofs.Tests.{both, and_yes}
use Rattle.search_space.specs.Space.{among}
use Rattle.search_space.proofs.Members.{Among, among_is, is_among}
use Rattle.search_rows.specs.Rows.{clear}
use Rattle.search_rows.specs.declared.Pattern.{Pattern}
use Rattle.search_found.specs.Lower.{lower}
use Rattle.search_found.specs.Search.{lowest_clear}
use Rattle.search_found.proofs.Finding.{Finds, kept_on, finds_is, is_finds}

module _ (p : Pattern) (table : List ℕ) (m : ℕ) where
  abbrev pub Passes : ℕ → List ℕ → ℕ → Type 0
  Passes x vs s = Among x vs s × (clear p table m s ≡ true)

  passes_test : (x : ℕ) (vs : List ℕ) (s : ℕ) → Passes x vs s → (among x vs s && clear p table m s) ≡ true
  passes_test x vs s h = and_yes (among x vs s) (clear p table m s) (is_among vs x s h.0) h.1

  test_passes : (x : ℕ) (vs : List ℕ) (s : ℕ) → (among x vs s && clear p table m s) ≡ true → Passes x vs s
  test_passes x vs s t = let h = both (among x vs s) (clear p table m s) t in (among_is vs x s h.0, h.1)

  finds_map : (P Q : ℕ → Type 0) (a r : Option ℕ) → ((s : ℕ) → P s → Q s) → ((s : ℕ) → Q s → P s) → Finds P a r → Finds Q a r
  finds_map P Q a r f g h = record { kept = kept_on Q P a a r f (inl refl) h.kept; all = λ s l q. h.all s l (g s q) }

  pub finds_lowest_clear : (x : ℕ) (vs : List ℕ) (a r : Option ℕ) → Finds (Passes x vs) a r → r ≡ lower a (lowest_clear p table m x vs)
  unfolding lowest_clear
  finds_lowest_clear x vs a r f =
      finds_is (λ s. among x vs s && clear p table m s) a r (finds_map (Passes x vs) (λ s. (among x vs s && clear p table m s) ≡ true) a r (passes_test x vs) (test_passes x vs) f)

  pub lowest_clear_finds : (x : ℕ) (vs : List ℕ) (a r : Option ℕ) → r ≡ lower a (lowest_clear p table m x vs) → Finds (Passes x vs) a r
  unfolding lowest_clear
  lowest_clear_finds x vs a r e =
      finds_map (λ s. (among x vs s && clear p table m s) ≡ true) (Passes x vs) a r (test_passes x vs) (passes_test x vs) (is_finds (λ s. among x vs s && clear p table m s) a r e)
