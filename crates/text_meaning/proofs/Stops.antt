-- A text of which a line is refused.
--     stops_at         reading stops at the line after the accepted ones
--     line_refused     and its refusal is the reply
-- Assumes nothing.
use Rattle.std.specs.Prelude.{Err, Result}
use mathlib.Core.Bool.{Bool, true, false}
use mathlib.Core.Path.{◌≡◌, refl, sym, ap, ◌∙◌}
use mathlib.Core.List.{List, [], ◌∷◌}
use Prim.Native.Nat.{ℕ, ◌+◌}
use native.Mathlib.Omega.{arith}
use lib.ListN.{length}
use Rattle.refusal_causes.specs.declared.Refusal.{Refusal}
use Rattle.text_keys.specs.declared.LineCause.{LineCause}
use Rattle.text_keys.specs.declared.LineCause.TheVariants as line_cause
use Rattle.text_lines.specs.declared.Entry.{Entry}
use Rattle.text_lines.specs.declared.Line.{Line}
use Rattle.text_lines.specs.declared.Line.TheVariants as lines
use Rattle.text_split.specs.Text.{Text, line, rest, split}
use Rattle.text_place.specs.Places.{start, moved}
use Rattle.text_place.specs.declared.Place.{Place}
use Rattle.text_order.specs.Order.{may_end}
use Rattle.text_order.specs.declared.Kind.{Kind}
use Rattle.text_ranges.specs.Ranges.{saying}
use Rattle.text_ending.specs.Ending.{refused_at, end_of}
use Rattle.text_ending.proofs.Ends.{end_whole, end_early, refused_whole}
use Rattle.text_reading.specs.Reading.{Reading, onward, reading, reading_of}
use Rattle.text_replies.specs.Replies.{refused}
use Rattle.text_calls.specs.Texts.{concluded, reply_to}
use Rattle.text_meaning.specs.Sheets.{StopsAt}

refused_is : (c d : Refusal) → ◌≡◌ {A = Result (Unit {0}) Refusal} (Err c) (Err d) → c ≡ d
refused_is c d e = cc

-- The value of a line's refusal is the line.
at_line : (c : LineCause) (n : ℕ) (d : Refusal) → ◌≡◌ {A = Result (Unit {0}) Refusal} (Err (refused_at c n)) (Err d) → d.value ≡ n
at_line c n d e = sym (ap (λ (r : Refusal). r.value) (refused_is (refused_at c n) d e))

module _ (kind : Kind) (c : Refusal) where
  end_line : (p : Place) (n : ℕ) → end_of kind p n ≡ Err c → c.value ≡ n
  end_line p n e = go (may_end kind p) refl
    where
      go : (b : Bool) → may_end kind p ≡ b → c.value ≡ n
      go true m = absurd (refused_whole c (sym e ∙ end_whole kind p n m))
      go false m = at_line line_cause.Form n c (sym (end_early kind p n m) ∙ e)

  -- From line n on, with as many lines more as there are entries.
  text_line : (t : Text) (p : Place) (n : ℕ) → (reading kind p n t).end ≡ Err c → c.value ≡ length (reading kind p n t).entries + n
  unfolding reading
  text_line (rest []) p n e = omega (arith, end_line p n e)
  text_line (rest (b ∷ o)) p n e = omega (arith, at_line line_cause.Form n c e)
  text_line (line l t) p n e = go (saying kind p l) e (λ f. text_line t (moved p f.key f.first) (n + 1))
    where
      next : Entry → Reading
      next f = reading kind (moved p f.key f.first) (n + 1) t

      go : (a : Line) → (onward a next n).end ≡ Err c → ((f : Entry) → (next f).end ≡ Err c → c.value ≡ length (next f).entries + (n + 1)) → c.value ≡ length (onward a next n).entries + n
      go (lines.Said f) e ih = omega (arith, ih f e)
      go (lines.Refused k) e ih = omega (arith, at_line k n c e)

  pub stops_at : (s : List ℕ) → (reading_of kind s).end ≡ Err c → StopsAt kind s c
  unfolding reading_of
  stops_at s e = record { stops = e; line = text_line (split s) start 1 e }

  pub line_refused : (s : List ℕ) → (reading_of kind s).end ≡ Err c → reply_to kind s ≡ refused c
  unfolding reply_to concluded
  line_refused s e = rw (e, concluded)
