-- What the reply to a sheet means (`sheet_means`): the meaning of the encoding of cubes, which is lent as many entries as there can be slices, so that 9 does not come.
-- Assumes nothing.
use Rattle.text_replies.specs.Calls.{written}
use Rattle.encoder_meaning.specs.declared.Encoded.{Encoded}
use Rattle.std.specs.Prelude.{Err, None, Ok, Option, Result, Some}
use mathlib.Core.Path.{◌≡◌, refl, sym, ap, ◌∙◌}
use mathlib.Core.Logic.{inl, inr, ⊎_elim}
use mathlib.Core.List.{List, [], ◌∷◌, ◌++◌, append_assoc}
use Prim.Native.Nat.{ℕ, ◌≤◌}
use native.Mathlib.Omega.{arith}
use lib.ListN.{length, length-replicate}
use Rattle.refusal_causes.specs.declared.Cause.{Cause}
use Rattle.refusal_causes.specs.declared.Cause.TheVariants as cause
use Rattle.refusal_causes.specs.declared.Refusal.{Refusal}
use Rattle.refusal_causes.specs.Sheet.{refusal_of}
use Rattle.refusal_order.specs.Order.{judged}
use Rattle.refusal_lengths.proofs.Lengths.{set-within}
use Rattle.refusal_checks.specs.Calls.{set_faults}
use Rattle.refusal_checks.proofs.Formed.{set-formed}
use Rattle.machine_settings.specs.declared.Settings.{Settings}
use Rattle.machine_settings.specs.Machine.{machine}
use Rattle.machine_slices.specs.declared.TestSlice.{TestSlice}
use Rattle.machine_slices.specs.Slices.{paired}
use Rattle.machine_slices.proofs.Formed.{slices_length}
use Rattle.theory_cutting.proofs.Parts.{covering_length, cuts_count}
use Rattle.theory_covering.specs.Rules.{rules}
use Rattle.theory_covering.specs.Windows.{CoveredBy, ok}
use Rattle.theory_covering.proofs.Windows.{set-bounds}
use Rattle.stop_steps.specs.Steps.{stop_for}
use Rattle.stop_steps.specs.Meaning.{NoneGood}
use Rattle.encoder_meaning.specs.Meaning.{Listed, Meaning}
use Rattle.encoder_meaning.proofs.Seeds.{covering_cuts}
use Rattle.encoder_cubes.specs.Cubes.{CubesOutcome, stopped, with_stop, encode_cubes}
use Rattle.encoder_cubes.specs.Meaning.{StoppedMeaning}
use Rattle.encoder_cubes.proofs.Cubes.{cubes_means}
use Rattle.text_keys.specs.Bytes.{feed}
use Rattle.text_keys.specs.Keys.{name}
use Rattle.text_keys.specs.declared.Key.TheVariants as key
use Rattle.text_spelling.proofs.Head.{head_spelt}
use Rattle.text_order.specs.declared.Kind.TheVariants.{Sheet}
use Rattle.text_entries.specs.Said.{masks_of, number_for, settings_of}
use Rattle.text_encode_said.specs.Encoded.{list_reply, encoded}
use Rattle.text_encode.specs.Sheet.{specified_of, bits_of, head_of, reply_under, sheet_reply}
use Rattle.text_replies.specs.Replies.{Reply, text, refused, lent}
use Rattle.text_calls.specs.Texts.{concluded, reply_to, encode_reply}
use Rattle.text_write_characters.specs.Characters.{characters, slice_line}
use Rattle.text_write_numbers.specs.Lines.{number_line, number_lines}
use Rattle.text_write_list.specs.SeedList.{list_text}
use Rattle.text_roundtrip.specs.RoundTrip.{sheet_of, set_of, Quoted}
use Rattle.text_roundtrip.proofs.Whole.{quoted, round_trip}
use Rattle.text_meaning.specs.Sheets.{ReadThrough, machine_in, rules_in, Repeats, StoppedSheet, SheetMeaning, sheet_faults}
use Rattle.text_meaning.proofs.Stops.{stops_at, line_refused}

refused_is : (c d : Refusal) → refused c ≡ refused d → c ≡ d
refused_is c d e = cc

text_refused : (bs : List ℕ) (n : ℕ) (c : Refusal) → text bs n ≡ refused c → ⊥
text_refused bs n c e = let z : ◌≡◌ {A = ℕ} 0 1 = cc in omega arith

-- ---- a list has no more seeds than slices

listed_few : (g : Settings) (masks : List ℕ) (stop : TestSlice) (ps bs : List ℕ) → judged (set_faults g masks stop ps bs) ≡ Ok tt → (n : ℕ) → Listed (machine g masks) (rules g stop) (paired ps bs) n → n ≤ 2048
listed_few g masks stop ps bs f n l =
    let w = set-formed g masks stop ps bs f in
    let M = machine g masks in
    let R = rules g stop in
    let set = paired ps bs in
    let c = cuts_count (ok M R set) (length set) (set-bounds M R set) (covering_cuts M R set l.shortest.covers) in
    let e = covering_length (CoveredBy M R set) l.shortest.covers in
    let t = set-within (length ps) w.lengths in
    omega (arith, c, e, l.count, slices_length (length masks) ps bs w.slices, t.1)

-- ---- the reply by the encoding's answer

module _ (s : List ℕ) where
  abbrev g : Settings
  g = settings_of (sheet_of s)

  abbrev head : List ℕ
  head = head_of (sheet_of s)

  abbrev masks : List ℕ
  masks = masks_of (sheet_of s)

  abbrev ps : List ℕ
  ps = specified_of (sheet_of s)

  abbrev bs : List ℕ
  bs = bits_of (sheet_of s)

  abbrev depth : ℕ
  depth = number_for key.Depth (sheet_of s)

  abbrev o : CubesOutcome
  o = encode_cubes g masks depth ps bs lent

  abbrev listed : Result Encoded Cause → Reply
  listed a = list_reply head (length masks) (length ps) o.buffer a

  module _ (read : ReadThrough Sheet s) where
    reply-listed : encode_reply s ≡ listed o.answer
    unfolding reply_to concluded sheet_reply reply_under encoded
    reply-listed = rw (read, concluded)

    -- A refused encoding refuses the sheet.
    reply_refused : (c : Cause) → o.answer ≡ Err c → encode_reply s ≡ refused (refusal_of c)
    unfolding list_reply
    reply_refused c e = reply-listed ∙ ap listed e

    module _ (stop : TestSlice) (m : StoppedMeaning g masks ps bs lent stop o) where
      abbrev meaning : Meaning (machine_in s) (rules_in s stop) (set_of s) lent m.handed
      meaning = m.meaning.meaning m.formed

      handed_answer : (w : Result ℕ Cause) → m.handed.answer ≡ w → o.answer ≡ stopped stop w
      unfolding with_stop
      handed_answer w e = ap (λ (x : CubesOutcome). x.answer) m.outcome ∙ ap (stopped stop) e

      refused_reply : (c : Cause) → m.handed.answer ≡ Err c → encode_reply s ≡ refused (refusal_of c)
      unfolding stopped
      refused_reply c e = reply_refused c (handed_answer (Err c) e)

      listed-reply : (n : ℕ) → m.handed.answer ≡ Ok n → (list : List ℕ) × ((k : ℕ) × (encode_reply s ≡ text list k))
      unfolding stopped list_reply
      listed-reply n e = (_, (n, reply-listed ∙ ap listed (handed_answer (Ok n) e)))

      -- There is always space.
      spacious : (n : ℕ) → m.handed.answer ≡ Err (cause.NoSpace n) → ⊥
      spacious n e =
          let q = meaning.no_space n e in
          omega (arith, listed_few g masks stop ps bs m.formed n q.0, q.1, length-replicate {A = ℕ} 2048 0)

      -- A reply by 8 is the encoding's.
      uncut_reply : (k : ℕ) → encode_reply s ≡ refused (refusal_of (cause.NoCutting k)) → m.handed.answer ≡ Err (cause.NoCutting k)
      uncut_reply k e = ⊎_elim counted (⊎_elim uncuttable (λ q. absurd (spacious q.0 q.1))) meaning.answered
        where
          counted : (n : ℕ) × (m.handed.answer ≡ Ok n) → m.handed.answer ≡ Err (cause.NoCutting k)
          counted q = absurd (text_refused _ _ _ (sym (listed-reply q.0 q.1).1.1 ∙ e))

          uncuttable : (j : ℕ) × (m.handed.answer ≡ Err (cause.NoCutting j)) → m.handed.answer ≡ Err (cause.NoCutting k)
          uncuttable q =
              let same : q.0 ≡ k = ap (λ (r : Refusal). r.value) (refused_is (refusal_of (cause.NoCutting q.0)) (refusal_of (cause.NoCutting k)) (sym (refused_reply (cause.NoCutting q.0) q.1) ∙ e)) in
              q.1 ∙ ap (λ j. Err (cause.NoCutting j)) same

      -- The list has the head that is written for the sheet, which is the sheet's own.
      repeats : (list : List ℕ) (n : ℕ) → Quoted s stop list n → Repeats s list
      unfolding list_text slice_line
      repeats list n q =
          let stopped-at = characters (length masks) stop ++ (feed ∷ []) in
          let others = number_line 10 (name key.Slices) (length ps) ++ number_lines 16 (name key.Seed) q.seeds in
          (stopped-at ++ others, q.printed ∙ ap (λ x. head ++ x) (append_assoc (name key.Stop) stopped-at others) ∙ ap (λ h. h ++ (name key.Stop ++ (stopped-at ++ others))) (sym (head_spelt s read)))

      stopped_means : stop_for (length masks) (set_of s) ≡ Some stop → StoppedSheet s stop (encode_reply s)
      stopped_means its = record {
        answered = ⊎_elim (λ q. inl (listed-reply q.0 q.1)) (⊎_elim (λ q. inr (q.0, refused_reply _ q.1)) (λ q. absurd (spacious q.0 q.1))) meaning.answered;
        accepted = λ list n e. (let q = quoted s list n stop its e in (q, round_trip s list n e, repeats list n q));
        uncut = λ k e. (meaning.uncut k (uncut_reply k e)).0;
        exactly = ((λ q. meaning.exactly.0 (q.0, uncut_reply q.0 q.1)), λ h. (let q = meaning.exactly.1 h in (q.0, refused_reply _ q.1)));
      }

  -- What is refused before the encoding, or for want of a stop slice.
  answer_refused : (c : Cause) → o ≡ record { answer = Err c; buffer = lent } → o.answer ≡ Err c
  answer_refused c e = ap (λ (x : CubesOutcome). x.answer) e

  -- With a stop slice, the reply is a list or 8.
  six_only : (read : ReadThrough Sheet s) → judged (sheet_faults s) ≡ Ok tt → encode_reply s ≡ refused (refusal_of cause.AllTaken) → NoneGood (length masks) (set_of s)
  six_only read w six = go (stop_for (length masks) (set_of s)) refl
    where
      numbers : (c : Cause) → encode_reply s ≡ refused (refusal_of c) → (refusal_of c).number ≡ 6
      numbers c e = ap (λ (r : Refusal). r.number) (refused_is (refusal_of c) (refusal_of cause.AllTaken) (sym e ∙ six))

      go : (o : Option TestSlice) → stop_for (length masks) (set_of s) ≡ o → NoneGood (length masks) (set_of s)
      go None e = ((cubes_means g masks ps bs lent depth).unstopped w e).1.none_good
      go (Some stop) e = absurd (⊎_elim
          (λ q. text_refused _ _ _ (sym q.1.1 ∙ six))
          (λ q. (let n = numbers (cause.NoCutting q.0) q.1 in omega arith))
          (stopped_means read stop ((cubes_means g masks ps bs lent depth).stopped w stop e) e).answered)

  pub sheet_means : SheetMeaning s (encode_reply s)
  sheet_means = record {
    line = λ c e. (stops_at Sheet c s e, line_refused Sheet c s e);
    unformed = λ read c w. reply_refused read c (answer_refused c ((cubes_means g masks ps bs lent depth).refused c w));
    unstopped = λ read w n. (let u = (cubes_means g masks ps bs lent depth).unstopped w n in (reply_refused read cause.AllTaken (answer_refused cause.AllTaken u.0), u.1));
    exactly = λ read w. (six_only read w, λ n. reply_refused read cause.AllTaken (answer_refused cause.AllTaken (((cubes_means g masks ps bs lent depth).exactly w).1 n)));
    stopped = λ read w stop e. stopped_means read stop ((cubes_means g masks ps bs lent depth).stopped w stop e) e;
  }
