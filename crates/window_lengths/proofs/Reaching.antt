-- The longest window from a start, as its loop goes down through the lengths.
--     Passed            no longer length has a seed
--     passed_start      those whose bits cannot be met together have none
--     passed_next       one length more has none
--     tried             the length that the loop tries
--     reach-found, reach-none     the length that has one, or none has
-- Assumes nothing.
use Rattle.std.specs.Prelude.{None, Some}
use mathlib.Core.Path.{◌≡◌, refl, sym, ap, ap₂, ◌∙◌, subst}
use mathlib.Core.Logic.{⊎_elim}
use mathlib.Core.Bool.{Bool, false, ◌&&◌, ◌||◌}
use mathlib.Core.List.{List}
use Prim.Native.Nat.{ℕ, zero, suc, ◌-◌, ◌^◌, ◌≤◌, ◌<◌}
use native.Mathlib.Omega.{arith}
use lib.Dec.{ltb}
use lib.ListN.{length, take, length-take}
use borrow.Author.Tests.{lt-ltb}
use Rattle.words_bounded.specs.Bounded.{any}
use Rattle.words_bounded.proofs.Tests.{clash, fails, both, and_yes, eq_or_not}
use Rattle.words_bounded.proofs.Search.{none_of, last_of, last_none}
use Rattle.machine_settings.specs.declared.Settings.{Settings}
use Rattle.machine_settings.specs.Machine.{Machine, machine}
use Rattle.machine_slices.specs.declared.TestSlice.{TestSlice}
use Rattle.machine_slices.specs.Slices.{bad_slice, bad_slices, paired}
use Rattle.machine_slices.proofs.Formed.{slices_length, slices_all, slices_take, paired-take}
use Rattle.search_rows.specs.declared.Pattern.{Pattern}
use Rattle.search_rows.specs.Rows.{clear}
use Rattle.theory_covering.specs.Covering.{covers, seed_of}
use Rattle.theory_covering.specs.Windows.{found}
use Rattle.window_tables.specs.Tables.{Tables}
use Rattle.window_rows.specs.Meeting.{all_meet}
use Rattle.window_rows.specs.Most.{Most}
use Rattle.window_fitting.specs.Closing.{allowed}
use Rattle.window_quiet.specs.Quiet.{quiet_meet}
use Rattle.window_lowest.proofs.Covering.{covers_tables}
use Rattle.window_lengths.specs.Longest.{closes_at, seed_for, longest, reach_of}

module _ (M : Machine) (stop : TestSlice) (closing : Bool) (w : List TestSlice) where
  pub record Passed (k : ℕ) : Type 0 where
    pub within : k ≤ length w
    pub longer : (j : ℕ) → k < j → j ≤ length w → seed_for M stop closing w j ≡ None

  pub passed_next : (k : ℕ) → 0 < k → Passed k → seed_for M stop closing w k ≡ None → Passed (k - 1)
  passed_next k h p e = record {
    within = omega (arith, p.within);
    longer = λ j l m. ⊎_elim (λ q. subst (λ (i : ℕ). seed_for M stop closing w i ≡ None) (sym q) e) (λ n. p.longer j (omega arith) m) (eq_or_not j k);
  }

  abbrev test : ℕ → Bool
  test k = ltb 0 k && found (seed_for M stop closing w k)

  no_seed : (k : ℕ) → seed_for M stop closing w k ≡ None → test k ≡ false
  no_seed k e = fails (test k) (λ t. clash (found (seed_for M stop closing w k)) (both (ltb 0 k) _ t).1 (ap found e))

  pub reach-found : (k s : ℕ) → 0 < k → Passed k → seed_for M stop closing w k ≡ Some s → Some (record { slices = k; seed = s }) ≡ reach_of M stop closing w
  unfolding reach_of longest
  reach-found k s h p e =
      let l : longest M stop closing w ≡ Some k = last_of test (suc (length w)) k (omega (arith, p.within)) (rw (lt-ltb 0 k h, e)) (λ j a b. no_seed j (p.longer j a (omega arith))) in
      rw (l, reach_of, e)

  pub reach-none : (k : ℕ) → k ≤ 0 → Passed k → None ≡ reach_of M stop closing w
  unfolding reach_of longest
  reach-none k h p =
      let l : longest M stop closing w ≡ None = last_none test (suc (length w)) none_at in
      rw (l, reach_of)
    where
      none_at : (j : ℕ) → j < suc (length w) → test j ≡ false
      none_at zero b = refl
      none_at (suc j) b = no_seed (suc j) (p.longer (suc j) (omega arith) (omega arith))

-- ---- where no state meets the slices and is clear, there is no seed

-- who covers a window meets its slices and is clear in their rows
unmet : (g : Settings) (masks : List ℕ) (stop : TestSlice) (p : Pattern) (table stops : List ℕ) (n : ℕ) (w : List TestSlice) → Tables g masks stop p table stops n → length w < n → any (bad_slice (length masks)) w ≡ false
    → (closing : Bool) → ((s : ℕ) → s < 2 ^ g.cells → quiet_meet (length masks) table p stops w s ≡ false) → seed_of (machine g masks) stop closing w ≡ None
unfolding seed_of allowed quiet_meet
unmet g masks stop p table stops n w r h f closing u = none_of (covers (machine g masks) stop closing w) (2 ^ g.cells) (λ s l.
    fails (covers (machine g masks) stop closing w s) (λ t.
    let q = all_meet (length masks) table 0 w s in
    let k = clear p stops (length w) s in
    let a = both (allowed (length masks) table stop closing w s) k (sym (covers_tables g masks stop p table stops n r w closing s h f) ∙ t) in
    clash (quiet_meet (length masks) table p stops w s) (and_yes q k (both q _ a.0).0 a.1) (u s l)))

-- ---- the loop's start, and the length that it tries

module _ (g : Settings) (masks : List ℕ) (stop : TestSlice) (p : Pattern) (table stops ps bs : List ℕ)
    (r : Tables g masks stop p table stops (suc (length ps))) (b : bad_slices (length masks) ps bs ≡ false) (closing : Bool) where
  abbrev M : Machine
  M = machine g masks

  abbrev w : List TestSlice
  w = paired ps bs

  long : length w ≡ length ps
  long = slices_length (length masks) ps bs b

  pub passed_start : (k : ℕ) → Most (quiet_meet (length masks) table p stops) w g.cells k → Passed M stop closing w k
  unfolding seed_for
  passed_start k u = record {
    within = u.within;
    longer = λ j l m.
        unmet g masks stop p table stops (suc (length ps)) (take j w) r (omega (arith, long, length-take j w))
        (rw (sym (paired-take j ps bs)) (slices_all (length masks) (take j ps) (take j bs) (slices_take (length masks) j ps bs b)))
        (closes_at closing w j) (λ s h. u.more j s l m h);
  }

  pub tried : (k : ℕ) (closes : Bool) → closes ≡ (closing || ltb k (length ps)) → seed_of M stop closes (paired (take k ps) (take k bs)) ≡ seed_for M stop closing w k
  unfolding seed_for
  tried k closes e = ap₂ (seed_of M stop) (e ∙ rw (sym long)) (paired-take k ps bs)
