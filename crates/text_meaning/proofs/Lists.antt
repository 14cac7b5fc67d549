-- What the reply to a seed list means (`list_means`): that of its expanding, which is lent as many entries as there can be slices, so that 9 does not come.
-- Assumes nothing.
use Rattle.std.specs.Prelude.{Err, Ok}
use mathlib.Core.Path.{◌≡◌, refl, ap, ◌∙◌}
use mathlib.Core.List.{List}
use Prim.Native.Nat.{ℕ, ◌≤◌}
use native.Mathlib.Omega.{arith}
use borrow.Author.Tests.{eq-eqb, ne_eqb}
use lib.ListN.{length, drop, length-replicate}
use lib.Seq.{take-append_seam}
use Rattle.refusal_causes.specs.declared.Cause.{Cause}
use Rattle.refusal_causes.specs.declared.Cause.TheVariants as cause
use Rattle.refusal_causes.specs.Outcome.{Outcome, refuse, fill}
use Rattle.refusal_causes.specs.Sheet.{refusal_of}
use Rattle.refusal_causes.proofs.Outcome.{fill-whole}
use Rattle.refusal_order.specs.Order.{judged}
use Rattle.refusal_lengths.proofs.Lengths.{list_within}
use Rattle.refusal_checks.proofs.Formed.{list_formed}
use Rattle.machine_settings.specs.declared.Settings.{Settings}
use Rattle.machine_slices.specs.declared.TestSlice.{TestSlice}
use Rattle.expander_meaning.specs.Expanding.{ran, failed, totalled, expanding, expand_list}
use Rattle.text_keys.specs.declared.Key.TheVariants as key
use Rattle.text_order.specs.declared.Kind.TheVariants.{SeedList}
use Rattle.text_entries.specs.Said.{masks_of, slice_for, settings_of}
use Rattle.text_expand_said.specs.Expanded.{slices_reply, expanded}
use Rattle.text_expand.specs.List.{seeds_of, seed_list_reply}
use Rattle.text_write_slices.specs.Slices.{slice_lines}
use Rattle.text_replies.specs.Replies.{text, refused, lent}
use Rattle.text_calls.specs.Texts.{concluded, reply_to, expand_reply}
use Rattle.text_meaning.specs.Sheets.{ReadThrough}
use Rattle.text_meaning.specs.Lists.{list_of, slices_in, list_faults_of, ran_of, ListMeaning}
use Rattle.text_meaning.proofs.Stops.{stops_at, line_refused}

module _ (s : List ℕ) where
  abbrev g : Settings
  g = settings_of (list_of s)

  abbrev masks : List ℕ
  masks = masks_of (list_of s)

  abbrev stop : TestSlice
  stop = slice_for key.Stop (list_of s)

  abbrev seeds : List ℕ
  seeds = seeds_of (list_of s)

  abbrev o : Outcome
  o = expand_list g masks stop (slices_in s) seeds lent

  module _ (read : ReadThrough SeedList s) where
    reply_slices : (p : Outcome) → o ≡ p → expand_reply s ≡ slices_reply (length masks) p.buffer p.answer
    unfolding reply_to concluded seed_list_reply expanded
    reply_slices p e = rw (read, concluded) (ap (λ (x : Outcome). slices_reply (length masks) x.buffer x.answer) e)

    reply_refused : (c : Cause) → o ≡ refuse c lent → expand_reply s ≡ refused (refusal_of c)
    unfolding refuse slices_reply
    reply_refused c e = reply_slices (refuse c lent) e

    unformed : (c : Cause) → judged (list_faults_of s) ≡ Err c → expand_reply s ≡ refused (refusal_of c)
    unfolding expand_list
    unformed c w = reply_refused c (rw (w, expand_list))

    module _ (w : judged (list_faults_of s) ≡ Ok tt) where
      ran_outcome : o ≡ totalled (slices_in s) lent (ran_of s)
      unfolding expand_list expanding
      ran_outcome = rw (w, expand_list)

      few : slices_in s ≤ 2048
      few = (list_within (slices_in s) (length seeds) (list_formed g masks stop (slices_in s) (length seeds) w).lengths).0

      seed_refused : (c : Cause) → ran_of s ≡ failed c → expand_reply s ≡ refused (refusal_of c)
      unfolding totalled
      seed_refused c e = reply_refused c (ran_outcome ∙ ap (totalled (slices_in s) lent) e)

      module _ (vs : List ℕ) (e : ran_of s ≡ ran vs) where
        total_refused : (length vs ≡ slices_in s → ⊥) → expand_reply s ≡ refused (refusal_of (cause.Total (length vs)))
        unfolding totalled
        total_refused h = reply_refused (cause.Total (length vs)) (ran_outcome ∙ rw (e, totalled, ne_eqb (length vs) (slices_in s) h, totalled))

        filled : length vs ≡ slices_in s → o ≡ fill vs lent
        unfolding totalled
        filled h = ran_outcome ∙ rw (e, totalled, eq-eqb (length vs) (slices_in s) h, totalled)

        slices_told : length vs ≡ slices_in s → expand_reply s ≡ text (slice_lines (length masks) vs) (length vs)
        unfolding slices_reply
        slices_told h =
            reply_slices _ (filled h ∙ fill-whole vs lent (length vs) refl (omega (arith, few, length-replicate {A = ℕ} 2048 0)))
            ∙ ap (λ l. text (slice_lines (length masks) l) (length vs)) (take-append_seam vs (drop (length vs) lent))

  pub list_means : ListMeaning s (expand_reply s)
  list_means = record {
    line = λ c e. (stops_at SeedList c s e, line_refused SeedList c s e);
    unformed = unformed;
    seed = seed_refused;
    total = total_refused;
    accepted = slices_told;
  }
