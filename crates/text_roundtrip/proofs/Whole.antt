-- What the list that is printed for an accepted sheet is worth.
--     quoted         it has the stop slice of the sheet and as many seeds as the answer says, and no covering list is shorter
--     round_trip     read back and expanded, it gives as many slices as the sheet has, each agreeing with the sheet's
-- Assumes nothing.
use Rattle.refusal_causes.specs.declared.Cause.{Cause}
use Rattle.text_replies.specs.Calls.{written}
use Rattle.encoder_meaning.specs.declared.Encoded.{Encoded}
use Rattle.encoder_meaning.specs.Encoding.{seeds_with}
use Rattle.std.specs.Prelude.{Err, Ok, Result, Some}
use mathlib.Core.Path.{◌≡◌, refl, sym, ap, ◌∙◌}
use mathlib.Core.List.{List}
use Prim.Native.Nat.{ℕ, ◌≤◌}
use native.Mathlib.Omega.{arith}
use lib.ListN.{length, take, drop, length-take, length-replicate}
use lib.Seq.{take-append_seam}
use Rattle.refusal_causes.specs.declared.Refusal.{Refusal}
use Rattle.refusal_causes.specs.Outcome.{Outcome, fill}
use Rattle.refusal_causes.proofs.Outcome.{fill-whole}
use Rattle.machine_settings.specs.declared.Settings.{Settings}
use Rattle.machine_chains.proofs.Causes.{chains_within}
use Rattle.machine_slices.specs.declared.TestSlice.{TestSlice}
use Rattle.machine_slices.specs.Slices.{paired}
use Rattle.machine_slices.proofs.Formed.{slices_length}
use Rattle.stop_steps.specs.Steps.{stop_for}
use Rattle.refusal_lengths.proofs.Lengths.{set-within}
use Rattle.refusal_checks.proofs.Formed.{set-formed}
use Rattle.text_keys.specs.declared.Key.TheVariants as key
use Rattle.encoder_cubes.specs.Cubes.{CubesOutcome, encode_cubes}
use Rattle.text_reading.specs.Reading.{reading_of}
use Rattle.text_entries.specs.Said.{masks_of, number_for, settings_of}
use Rattle.text_spelling.proofs.Head.{head_spelt}
use Rattle.text_order.specs.declared.Kind.TheVariants as kinds
use Rattle.text_write_slices.specs.Slices.{slice_lines}
use Rattle.text_write_list.specs.SeedList.{list_text}
use Rattle.text_readback.specs.Written.{Printable}
use Rattle.text_readback.proofs.Whole.{read_back}
use Rattle.text_readback.proofs.Said.{settings_back, masks_back, seeds_back, slices_back, stop_back}
use Rattle.text_replies.specs.Replies.{Reply, text, refused, lent}
use Rattle.text_encode_said.specs.Encoded.{list_reply, encoded}
use Rattle.text_expand_said.specs.Expanded.{slices_reply, expanded}
use Rattle.text_encode.specs.Sheet.{specified_of, bits_of, head_of, reply_under, sheet_reply}
use Rattle.text_expand.specs.List.{seed_list_reply}
use Rattle.text_calls.specs.Texts.{concluded, reply_to, encode_reply, expand_reply}
use Rattle.text_encode_said.proofs.Space.{encode_long}
use Rattle.text_roundtrip.specs.RoundTrip.{sheet_of, Quoted, GivesBack}
use Rattle.text_roundtrip.proofs.Accepted.{cubes_accepted}

-- ---- the printed list, read and expanded

module _ (s : List ℕ) (read : (reading_of kinds.Sheet s).end ≡ Ok tt) (stop : TestSlice) (slices : ℕ) (seeds : List ℕ) where
  -- The list is expanded as what the sheet says before depth, and what was written.
  list_expands : Printable (length (masks_of (sheet_of s))) stop slices seeds
      → expand_reply (list_text (head_of (sheet_of s)) (length (masks_of (sheet_of s))) stop slices seeds) ≡ expanded (settings_of (sheet_of s)) (masks_of (sheet_of s)) stop slices seeds
  unfolding reply_to concluded seed_list_reply
  list_expands p = rw (← (head_spelt s read), read_back s read stop slices seeds p, settings_back s read stop slices seeds, masks_back s read stop slices seeds, seeds_back s read stop slices seeds, slices_back s read stop slices seeds, stop_back s read stop slices seeds)

-- Slices that are delivered stand in the lent buffer.
delivered-reply : (chains : ℕ) (vs : List ℕ) (o : Outcome) → o ≡ fill vs lent → length vs ≤ 2048 → slices_reply chains o.buffer o.answer ≡ text (slice_lines chains vs) (length vs)
unfolding slices_reply
delivered-reply chains vs o e h =
    rw (e ∙ fill-whole vs lent (length vs) refl h) (ap (λ l. text (slice_lines chains l) (length vs)) (take-append_seam vs (drop (length vs) lent)))

-- ---- from the sheet's entries

refused_text_lem : (r : Refusal) (list : List ℕ) (n : ℕ) → refused r ≡ text list n → ⊥
refused_text_lem r list n e = let z : ◌≡◌ {A = ℕ} 0 1 = cc in omega arith

text_is : (bs list : List ℕ) (m n : ℕ) → text bs m ≡ text list n → bs ≡ list
text_is bs list m n e = cc

count_is : (bs list : List ℕ) (m n : ℕ) → text bs m ≡ text list n → m ≡ n
count_is bs list m n e = cc

some_is : (a b : TestSlice) → Some a ≡ Some b → a ≡ b
some_is a b e = cc

concluded_text : (end : Result (Unit {0}) Refusal) (r : Reply) (list : List ℕ) (n : ℕ) → concluded end r ≡ text list n → r ≡ text list n
unfolding concluded
concluded_text (Ok tt) r list n e = e
concluded_text (Err c) r list n e = absurd (refused_text_lem c list n e)

concluded-whole : (end : Result (Unit {0}) Refusal) (r : Reply) (list : List ℕ) (n : ℕ) → concluded end r ≡ text list n → end ≡ Ok tt
unfolding concluded
concluded-whole (Ok tt) r list n e = refl
concluded-whole (Err c) r list n e = absurd (refused_text_lem c list n e)

module _ (s : List ℕ) where
  -- What the sheet says, and the outcome of its encoding.
  abbrev g : Settings
  g = settings_of (sheet_of s)

  abbrev head : List ℕ
  head = head_of (sheet_of s)

  abbrev masks : List ℕ
  masks = masks_of (sheet_of s)

  abbrev ps : List ℕ
  ps = specified_of (sheet_of s)

  abbrev bs : List ℕ
  bs = bits_of (sheet_of s)

  abbrev o : CubesOutcome
  o = encode_cubes g masks (number_for key.Depth (sheet_of s)) ps bs lent

  seeds_give_back : (reading_of kinds.Sheet s).end ≡ Ok tt → (stop : TestSlice) (n : ℕ) → o.answer ≡ seeds_with stop n → GivesBack s (list_text head (length masks) stop (length ps) (take n o.buffer))
  unfolding expanded
  seeds_give_back read stop n e =
      let a = cubes_accepted g masks _ ps bs lent stop n e in
      let f = set-formed g masks stop ps bs a.formed in
      let d = a.delivers in
      let l = slices_length (length masks) ps bs f.slices in
      let w = set-within (length ps) f.lengths in
      let p : Printable (length masks) stop (length ps) (take n o.buffer) = record { chained = (chains_within g.cells masks f.chains).1; stopped = f.stop; total = f.lengths; few = omega (arith, length-take n o.buffer, encode_long g masks (number_for key.Depth (sheet_of s)) ps bs lent, length-replicate {A = ℕ} 2048 0); words = a.words } in
      record {
        slices = d.slices;
        expands = list_expands s read stop (length ps) (take n o.buffer) p ∙ delivered-reply (length masks) d.slices _ (d.accepted lent) (omega (arith, d.whole, l, w.1));
        whole = d.whole ∙ l;
        agree = λ i t h. d.agree i t (omega (arith, l));
      }

  module _ (list : List ℕ) (n : ℕ) where
    given_back : (reading_of kinds.Sheet s).end ≡ Ok tt → (a : Result Encoded Cause) → o.answer ≡ a → list_reply head (length masks) (length ps) o.buffer a ≡ text list n → GivesBack s list
    unfolding list_reply
    given_back read (Ok l) q e = rw (← (text_is _ list l.seeds n e)) (seeds_give_back read l.stop l.seeds q)
    given_back read (Err c) q e = absurd (refused_text_lem _ list n e)

    module _ (stop : TestSlice) (its : stop_for (length masks) (paired ps bs) ≡ Some stop) where
      seeds_quoted : (st : TestSlice) (m : ℕ) → o.answer ≡ seeds_with st m → list_text head (length masks) st (length ps) (take m o.buffer) ≡ list → m ≡ n → Quoted s st list n
      seeds_quoted st m q t k =
          let a = cubes_accepted g masks _ ps bs lent st m q in
          record { seeds = take m o.buffer; printed = sym t; count = a.count ∙ k; stopped = a.stopped; shortest = a.shortest }

      list_quoted : (a : Result Encoded Cause) → o.answer ≡ a → list_reply head (length masks) (length ps) o.buffer a ≡ text list n → Quoted s stop list n
      unfolding list_reply
      list_quoted (Ok l) q e =
          let a = cubes_accepted g masks _ ps bs lent l.stop l.seeds q in
          rw (← (some_is l.stop stop (sym a.stopped ∙ its))) (seeds_quoted l.stop l.seeds q (text_is _ list l.seeds n e) (count_is _ list l.seeds n e))
      list_quoted (Err c) q e = absurd (refused_text_lem _ list n e)

      pub quoted : encode_reply s ≡ text list n → Quoted s stop list n
      unfolding reply_to sheet_reply reply_under encoded
      quoted e = list_quoted o.answer refl (concluded_text (reading_of kinds.Sheet s).end _ list n e)

    pub round_trip : encode_reply s ≡ text list n → GivesBack s list
    unfolding reply_to sheet_reply reply_under encoded
    round_trip e = given_back (concluded-whole (reading_of kinds.Sheet s).end _ list n e) o.answer refl (concluded_text (reading_of kinds.Sheet s).end _ list n e)
