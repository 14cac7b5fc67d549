-- Whatever holds of the number of each line's cause holds of the number of every refused reading.
--     EndsBy P e          the end e is whole, or a refusal whose number has P
--     reading_refused     so ends every reading
-- Assumes nothing.
use Rattle.std.specs.Prelude.{Err, Ok, Result}
use Rattle.refusal_causes.specs.declared.Refusal.{Refusal}
use mathlib.Core.Bool.{Bool, true, false}
use mathlib.Core.Path.{◌≡◌, refl}
use mathlib.Core.List.{List, [], ◌∷◌}
use Prim.Native.Nat.{ℕ, ◌+◌}
use Rattle.text_keys.specs.declared.LineCause.{LineCause}
use Rattle.text_keys.specs.declared.LineCause.TheVariants as line_cause
use Rattle.text_lines.specs.declared.Entry.{Entry}
use Rattle.text_lines.specs.declared.Line.{Line}
use Rattle.text_lines.specs.declared.Line.TheVariants as lines
use Rattle.text_split.specs.Text.{Text, line, rest, split}
use Rattle.text_place.specs.Places.{start, moved}
use Rattle.text_place.specs.declared.Place.{Place}
use Rattle.text_order.specs.Order.{may_end}
use Rattle.text_order.specs.declared.Kind.{Kind}
use Rattle.text_ranges.specs.Ranges.{saying}
use Rattle.text_ending.specs.Ending.{refused_at, end_of}
use Rattle.text_ending.proofs.Ends.{end_whole, end_early}
use Rattle.text_reading.specs.Reading.{onward, reading, reading_of}

abbrev pub EndsBy : (ℕ → Type 0) → Result (Unit {0}) Refusal → Type 0
EndsBy P (Ok tt) = Unit {0}
EndsBy P (Err r) = P r.number

module _ (P : ℕ → Type 0) (line-number : (c : LineCause) (n : ℕ) → P (refused_at c n).number) (kind : Kind) where
  end_refused : (p : Place) (n : ℕ) → EndsBy P (end_of kind p n)
  end_refused p n = go (may_end kind p) refl
    where
      go : (b : Bool) → may_end kind p ≡ b → EndsBy P (end_of kind p n)
      go true e = rw (end_whole kind p n e) tt
      go false e = rw (end_early kind p n e) (line-number line_cause.Form n)

  text_refused : (t : Text) (p : Place) (n : ℕ) → EndsBy P (reading kind p n t).end
  unfolding reading
  text_refused (rest []) p n = end_refused p n
  text_refused (rest (b ∷ o)) p n = line-number line_cause.Form n
  text_refused (line l t) p n = go (saying kind p l) (λ e. text_refused t (moved p e.key e.first) (n + 1))
    where
      go : (a : Line) → ((e : Entry) → EndsBy P (reading kind (moved p e.key e.first) (n + 1) t).end) → EndsBy P (onward a (λ e. reading kind (moved p e.key e.first) (n + 1) t) n).end
      go (lines.Said e) ih = ih e
      go (lines.Refused c) ih = line-number c n

  pub reading_refused : (s : List ℕ) → EndsBy P (reading_of kind s).end
  unfolding reading_of
  reading_refused s = text_refused (split s) start _
