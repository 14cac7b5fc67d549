-- Laws of the loop over the slices of a part that enters what each row forces.
--     Quiet              every state that meets the slices so far and is clear in their rows is left
--     quiet-start, quiet_next     at the start, and after a slice
--     quiet-unmet, quiet-stop     where nothing is left after a slice, or by what its row forces
--     quiet_stop_if, quiet_next_if     the same where a space may be absent after a slice, its vectors the first entries of a buffer
-- Assumes nothing.
use Rattle.std.specs.Prelude.{None, Option, Some}
use Rattle.std.proofs.lemmas.Option.{none-some}
use mathlib.Core.Path.{◌≡◌, refl, sym}
use mathlib.Core.Bool.{Bool, true, false}
use mathlib.Core.List.{List}
use Prim.Native.Nat.{ℕ, ◌+◌, ◌^◌, ◌≤◌, ◌<◌}
use native.Mathlib.Omega.{arith}
use lib.ListN.{length, take}
use lib.Seq.{length-take-le}
use Rattle.words_bounded.proofs.Tests.{both, clash, fails}
use Rattle.search_space.specs.declared.Space.{Space}
use Rattle.search_space.specs.Space.{Member}
use Rattle.search_rows.specs.declared.Pattern.{Pattern}
use Rattle.search_rows.specs.Rows.{row, shown, clear}
use Rattle.search_rows.proofs.Reading.{clear_at, clear-front}
use Rattle.machine_slices.specs.declared.TestSlice.{TestSlice}
use Rattle.machine_slices.specs.Slices.{paired, bad_slices}
use Rattle.machine_slices.proofs.Causes.{slice_at}
use Rattle.machine_slices.proofs.Formed.{slices_length}
use Rattle.search_forcing.proofs.Forcing.{forced_complete, forced_none}
use Rattle.search_forcing.specs.Forcing.{forced_if, forced_buffer}
use Rattle.search_forcing.proofs.Entering.{Entered, forced-left}
use Rattle.window_rows.specs.Meeting.{meets, all_meet}
use Rattle.window_rows.specs.Narrowing.{all_states, units_of, Narrows, Narrowed}
use Rattle.window_rows.specs.Most.{Most}
use Rattle.window_rows.proofs.Fitting.{meet-front, meet_at}
use Rattle.window_rows.proofs.States.{states_complete}
use Rattle.window_quiet.specs.Quiet.{quiet_meet}

abbrev pub Quiet : ℕ → List ℕ → Pattern → List ℕ → List TestSlice → ℕ → ℕ → Space → List ℕ → Type 0
Quiet c table p stops w cells k y vs = (s : ℕ) → s < 2 ^ cells → all_meet c table 0 (take k w) s ≡ true → clear p stops k s ≡ true → Member y vs s

module _ (c : ℕ) (table : List ℕ) (p : Pattern) (stops ps bs : List ℕ) (b : bad_slices c ps bs ≡ false) (cells : ℕ) where
  abbrev w : List TestSlice
  w = paired ps bs

  abbrev So : ℕ → Space → List ℕ → Type 0
  So = Quiet c table p stops w cells

  pub quiet-start : cells ≤ 64 → So 0 (all_states cells) (units_of cells)
  quiet-start few s h a k = states_complete cells few s h

  -- after the slice the space z is left, its vectors the first entries of l; then what the row forces is entered
  module _ (k : ℕ) (y : Space) (vs : List ℕ) (h : k < length ps) (q : So k y vs) where
    abbrev Reads : ℕ → Bool
    Reads = meets (row c table k) (slice_at ps bs k).specified (slice_at ps bs k).bits

    within : k ≤ length w
    within = omega (arith, slices_length c ps bs b)

    -- who meets more slices and is clear in their rows is left before this slice, meets it and is clear in its row
    asked : (j s : ℕ) → k < j → j ≤ length w → s < 2 ^ cells → quiet_meet c table p stops (take j w) s ≡ true → Member y vs s × (Reads s ≡ true) × (shown p stops k s ≡ false)
    unfolding quiet_meet
    asked j s l m u t =
        let n = length (take j w) in
        let d = both (all_meet c table 0 (take j w) s) (clear p stops n s) t in
        let g = clear-front p stops s n (k + 1) (omega (arith, length-take-le j w m)) d.1 in (
          q s u (meet-front c table w 0 k j s (omega arith) d.0) (clear-front p stops s (k + 1) k (omega arith) g),
          meet_at c table ps bs b (all_states cells) (units_of cells) k s h (meet-front c table w 0 (k + 1) j s (omega arith) d.0),
          clear_at p stops s (k + 1) k g (omega arith),
        )

    pub quiet-unmet : (out : List ℕ) → Narrowed Reads y vs None out → Most (quiet_meet c table p stops) w cells k
    quiet-unmet out n = record {
      within = within;
      more = λ j s l m u. fails (quiet_meet c table p stops (take j w) s) (λ t.
          let a = asked j s l m u t in
          clash (Reads s) a.1 (n s a.0));
    }

    module _ (z : Space) (l : List ℕ) (n : Narrows Reads y vs z (take z.free l)) where
      pub quiet-stop : (out : List ℕ) → Entered z l p stops k None out → Most (quiet_meet c table p stops) w cells k
      quiet-stop out e = record {
        within = within;
        more = λ j s i m u. fails (quiet_meet c table p stops (take j w) s) (λ t.
            let a = asked j s i m u t in
            forced_none p stops k (take z.free l) z e.0 s (n.complete s a.0 a.1) a.2);
      }

      pub quiet_next : (r : Space) (out : List ℕ) → Entered z l p stops k (Some r) out → So (k + 1) r (take r.free out)
      quiet_next r out e s u a d =
          let f : clear p stops k s ≡ true = clear-front p stops s (k + 1) k (omega arith) d in
          rw (forced-left z l p stops k r out e) (forced_complete p stops k (take z.free l) z r e.0 s
          (n.complete s (q s u (meet-front c table w 0 k (k + 1) s (omega arith) a) f) (meet_at c table ps bs b (all_states cells) (units_of cells) k s h a))
          (clear_at p stops s (k + 1) k d (omega arith)))

    module _ (l : List ℕ) where
      pub quiet_stop_if : (z : Option Space) → Narrowed Reads y vs z l → None ≡ forced_if p stops k l z → Most (quiet_meet c table p stops) w cells k
      quiet_stop_if None n e = quiet-unmet l n
      quiet_stop_if (Some z) n e = quiet-stop z l n (forced_buffer p stops k l (Some z)) (e, refl)

      pub quiet_next_if : (z : Option Space) → Narrowed Reads y vs z l → (r : Space) (out : List ℕ) → Some r ≡ forced_if p stops k l z → out ≡ forced_buffer p stops k l z → So (k + 1) r (take r.free out)
      quiet_next_if None n r out e o = absurd (none-some r (sym e))
      quiet_next_if (Some z) n r out e o = quiet_next z l n r out (e, o)
