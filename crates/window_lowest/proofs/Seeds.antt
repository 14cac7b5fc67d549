-- The seed of a window, from the space that its bits and its closing stop allow.
--     seed-unmet, seed-open, seed-shown     no state meets the slices, none of them closes the window, or none of those is clear: there is no seed
--     seed_rising, seed_lowest     otherwise the vectors rise, and the seed is the lowest clear member; what is not clear may have gone out before
--     seed_shown_if, seed_rising_if, seed_lowest_if     the same of spaces that may be absent, their vectors the first entries of the buffers
-- Assumes nothing.
use Rattle.std.specs.Prelude.{None, Option, Some}
use Rattle.std.proofs.lemmas.Option.{none-some}
use mathlib.Core.Path.{◌≡◌, sym, ◌∙◌, subst}
use mathlib.Core.Bool.{Bool, true, false, ◌&&◌}
use mathlib.Core.List.{List}
use Prim.Native.Nat.{ℕ, suc, ◌^◌, ◌≤◌, ◌<◌}
use native.Mathlib.Nat.{lt_of_lt_of_le}
use native.Mathlib.Omega.{arith}
use lib.ListN.{length, take}
use lib.Pow.{pow_mono}
use Rattle.words_bounded.proofs.Tests.{clash, fails, both, and_yes}
use Rattle.words_bounded.proofs.Search.{none_of, least_same}
use Rattle.machine_settings.specs.declared.Settings.{Settings}
use Rattle.machine_settings.specs.Machine.{Machine, machine}
use Rattle.machine_register.proofs.Causes.{cells_within}
use Rattle.machine_slices.specs.declared.TestSlice.{TestSlice}
use Rattle.machine_slices.specs.Slices.{bad_slices, paired}
use Rattle.machine_slices.proofs.Formed.{slices_length, slices_all}
use Rattle.search_space.specs.declared.Space.{Space}
use Rattle.search_space.specs.Space.{among, Rising}
use Rattle.search_rows.specs.declared.Pattern.{Pattern}
use Rattle.search_rows.specs.Rows.{clear}
use Rattle.search_found.specs.Search.{lowest_clear}
use Rattle.theory_covering.specs.Covering.{covers, seed_of}
use Rattle.window_tables.specs.Tables.{Tables}
use Rattle.window_rows.specs.Meeting.{all_meet}
use Rattle.window_rows.specs.Narrowing.{all_states, units_of, Narrows, Narrowed, NarrowedIf}
use Rattle.window_rows.proofs.States.{states_sound, states_complete, states_rising}
use Rattle.window_fitting.specs.Closing.{closed, allowed}
use Rattle.window_fitting.proofs.Closing.{allowed-closed}
use Rattle.window_forced.specs.Keeping.{Keeps, Kept, KeptIf}
use Rattle.window_lowest.proofs.Covering.{covers_tables}

-- from the states that meet the slices (x) over those of them that close the window (y) to what forced positions leave (z)
module _ (g : Settings) (masks : List ℕ) (stop : TestSlice) (p : Pattern) (table stops ps bs : List ℕ)
    (r : Tables g masks stop p table stops (suc (length ps))) (b : bad_slices (length masks) ps bs ≡ false) (closing : Bool) where
  abbrev M : Machine
  M = machine g masks

  abbrev w : List TestSlice
  w = paired ps bs

  abbrev A : ℕ → Bool
  A = allowed (length masks) table stop closing w

  abbrev C : ℕ → Bool
  C = clear p stops (length ps)

  few : g.cells ≤ 64
  few = (cells_within g.cells g.taps r.register).1

  long : length w ≡ length ps
  long = slices_length (length masks) ps bs b

  covers-rows : (s : ℕ) → covers M stop closing w s ≡ (A s && C s)
  covers-rows s = subst (λ (n : ℕ). covers M stop closing w s ≡ (A s && clear p stops n s)) long
      (covers_tables g masks stop p table stops (suc (length ps)) r w closing s (omega (arith, long)) (slices_all (length masks) ps bs b))

  -- no state meets the slices, closes the window and is clear
  seed-none : ((s : ℕ) → s < 2 ^ g.cells → A s ≡ true → C s ≡ true → ⊥) → seed_of M stop closing w ≡ None
  unfolding seed_of
  seed-none e = none_of (covers M stop closing w) (2 ^ g.cells) (λ s l.
      fails (covers M stop closing w s) (λ t. let a = both (A s) (C s) (sym (covers-rows s) ∙ t) in e s l a.0 a.1))

  pub seed-unmet : (out : List ℕ) → Narrowed (all_meet (length masks) table 0 w) (all_states g.cells) (units_of g.cells) None out → seed_of M stop closing w ≡ None
  unfolding allowed
  seed-unmet out met = seed-none (λ s l a k.
      let q = all_meet (length masks) table 0 w s in
      clash q (both q _ a).0 (met s (states_complete g.cells few s l)))

  module _ (x : Space) (us : List ℕ) (met : Narrows (all_meet (length masks) table 0 w) (all_states g.cells) (units_of g.cells) x us) where
    pub seed-open : (out : List ℕ) → Narrowed (closed (length masks) table stop closing (length ps)) x us None out → seed_of M stop closing w ≡ None
    seed-open out shut = seed-none (λ s l a k.
        clash (A s) a (allowed-closed (length masks) table stop w (all_states g.cells) (units_of g.cells) x us None out closing (length ps) long met shut s (states_complete g.cells few s l)))

    module _ (y : Space) (out : List ℕ) (shut : Narrowed (closed (length masks) table stop closing (length ps)) x us (Some y) out) where
      abbrev vs : List ℕ
      vs = take y.free out

      cut : Narrows A (all_states g.cells) (units_of g.cells) y vs
      cut = allowed-closed (length masks) table stop w (all_states g.cells) (units_of g.cells) x us (Some y) out closing (length ps) long met shut

      pub seed-shown : (end : List ℕ) → Kept (clear p stops (length ps)) y vs None end → seed_of M stop closing w ≡ None
      seed-shown end kept = seed-none (λ s l a k. kept s (cut.complete s (states_complete g.cells few s l) a) k)

      module _ (z : Space) (ws : List ℕ) (kept : Keeps (clear p stops (length ps)) y vs z ws) where
        pub seed_rising : Rising z.lowest 0 ws
        seed_rising = kept.rising (cut.rising (states_rising g.cells few))

        pub seed_lowest : lowest_clear p stops (length ps) z.lowest ws ≡ (seed_of M stop closing w)
        unfolding seed_of lowest_clear
        seed_lowest = (least_same (λ s. among z.lowest ws s && C s) (covers M stop closing w) (2 ^ 64) (2 ^ g.cells)
            (λ s l t.
            let a = both (among z.lowest ws s) (C s) t in
            let m = cut.sound s (kept.sound s a.0) in
            (states_sound g.cells few s m.0, covers-rows s ∙ and_yes (A s) (C s) m.1 a.1))
            (λ s l t.
            let a = both (A s) (C s) (sym (covers-rows s) ∙ t) in (
              lt_of_lt_of_le l (pow_mono {i = g.cells} {j = 64} few),
              and_yes (among z.lowest ws s) (C s) (kept.complete s (cut.complete s (states_complete g.cells few s l) a.0) a.1) a.1,
            )))

  abbrev Met : Option Space → List ℕ → Type 0
  Met x us = Narrowed (all_meet (length masks) table 0 w) (all_states g.cells) (units_of g.cells) x us

  abbrev Shut : Option Space → List ℕ → Option Space → List ℕ → Type 0
  Shut x us y out = NarrowedIf (closed (length masks) table stop closing (length ps)) x us y out

  pub seed_shown_if : (x : Option Space) (us : List ℕ) → Met x us → (y : Option Space) (out : List ℕ) → Shut x us y out → (end : List ℕ) → KeptIf (clear p stops (length ps)) y out None end → seed_of M stop closing w ≡ None
  seed_shown_if None us met y out shut end kept = seed-unmet us met
  seed_shown_if (Some x) us met None out shut end kept = seed-open x (take x.free us) met out shut
  seed_shown_if (Some x) us met (Some y) out shut end kept = seed-shown x (take x.free us) met y out shut end kept

  pub seed_rising_if : (x : Option Space) (us : List ℕ) → Met x us → (y : Option Space) (out : List ℕ) → Shut x us y out → (end : List ℕ) (z : Space) → KeptIf (clear p stops (length ps)) y out (Some z) end → Rising z.lowest 0 (take z.free end)
  seed_rising_if x us met None out shut end z kept = absurd (none-some z (sym kept.0))
  seed_rising_if None us met (Some y) out shut end z kept = absurd (none-some y (sym shut.0))
  seed_rising_if (Some x) us met (Some y) out shut end z kept = seed_rising x (take x.free us) met y out shut z (take z.free end) kept

  pub seed_lowest_if : (x : Option Space) (us : List ℕ) → Met x us → (y : Option Space) (out : List ℕ) → Shut x us y out → (end : List ℕ) (z : Space) → KeptIf (clear p stops (length ps)) y out (Some z) end → lowest_clear p stops (length ps) z.lowest (take z.free end) ≡ (seed_of M stop closing w)
  seed_lowest_if x us met None out shut end z kept = absurd (none-some z (sym kept.0))
  seed_lowest_if None us met (Some y) out shut end z kept = absurd (none-some y (sym shut.0))
  seed_lowest_if (Some x) us met (Some y) out shut end z kept = seed_lowest x (take x.free us) met y out shut z (take z.free end) kept
