-- The reading of a whole text (document 01, "Sheet and seed list": "Reading stops at the first refused line"). Lines are numbered from 1.
--     Reading                the entries of the lines up to the first refused one, and the end
--     stops e                no line more, and the end e
--     told e r               the reading r with an entry in front
--     onward said next n     the entry of the line n in front of the reading that is next, or its refusal
--     reading kind p n t     the reading of the text t that stands at the place p, from line n on
--     reading_of kind s       the reading of the bytes s
use Rattle.refusal_causes.specs.declared.Refusal.{Refusal}
use Rattle.std.specs.Prelude.{List, [], ◌∷◌, ℕ, ◌+◌, Err, Result}
use Rattle.text_keys.specs.declared.LineCause.TheVariants as line_cause
use Rattle.text_split.specs.Text.{Text, line, rest, split}
use Rattle.text_place.specs.Places.{start, moved}
use Rattle.text_place.specs.declared.Place.{Place}
use Rattle.text_lines.specs.declared.Entry.{Entry}
use Rattle.text_lines.specs.declared.Line.{Line}
use Rattle.text_lines.specs.declared.Line.TheVariants as lines
use Rattle.text_order.specs.declared.Kind.{Kind}
use Rattle.text_ranges.specs.Ranges.{saying}
use Rattle.text_ending.specs.Ending.{refused_at, end_of}

pub record Reading : Type 0 where
  pub entries : List Entry
  pub end : Result (Unit {0}) Refusal

abbrev pub stops : Result (Unit {0}) Refusal → Reading
stops e = record { entries = []; end = e }

abbrev pub told : Entry → Reading → Reading
told e r = record { entries = e ∷ r.entries; end = r.end }

abbrev pub onward : Line → (Entry → Reading) → ℕ → Reading
onward (lines.Said e) next n = told e (next e)
onward (lines.Refused c) next n = stops (Err (refused_at c n))

-- A last line without its line feed is out of form.
unfoldable pub reading : Kind → Place → ℕ → Text → Reading
reading kind p n (rest []) = stops (end_of kind p n)
reading kind p n (rest (b ∷ o)) = stops (Err (refused_at line_cause.Form n))
reading kind p n (line l t) = onward (saying kind p l) (λ e. reading kind (moved p e.key e.first) (n + 1) t) n

unfoldable pub reading_of : Kind → List ℕ → Reading
reading_of kind s = reading kind start 1 (split s)
