-- How the reading of a text ends (document 01, "Sheet and seed list").
--     cause_of c n            the cause of document 01's refusal sheet for the line n that is refused by c
--     line_number c           its number, whatever the line
--     refused_at c n          the number with the line
--     refusal_of_line said n   the refusal of a refused line
--     end_of kind p n         the end of a text that ends where the line n would stand
use Rattle.std.specs.Prelude.{true, false, ℕ, Err, Ok, Result}
use Rattle.refusal_causes.specs.declared.Cause.{Cause}
use Rattle.refusal_causes.specs.declared.Cause.TheVariants as cause
use Rattle.refusal_causes.specs.declared.Refusal.{Refusal}
use Rattle.refusal_causes.specs.Sheet.{refusal_of}
use Rattle.text_keys.specs.declared.LineCause.{LineCause}
use Rattle.text_keys.specs.declared.LineCause.TheVariants as line_cause
use Rattle.text_lines.specs.declared.Line.{Line}
use Rattle.text_lines.specs.declared.Line.TheVariants as lines
use Rattle.text_order.specs.Order.{may_end}
use Rattle.text_order.specs.declared.Kind.{Kind}
use Rattle.text_place.specs.declared.Place.{Place}

abbrev pub cause_of : LineCause → ℕ → Cause
cause_of line_cause.Form n = cause.Line n
cause_of line_cause.Register n = cause.Register
cause_of line_cause.Chains n = cause.Chains
cause_of line_cause.Lengths n = cause.Lengths
cause_of line_cause.StopSlice n = cause.StopSlice

abbrev pub line_number : LineCause → ℕ
line_number c = (refusal_of (cause_of c 0)).number

-- In text a refused line has at= the line, whatever its cause.
abbrev pub refused_at : LineCause → ℕ → Refusal
refused_at c n = record { number = line_number c; value = n }

-- Only a refused line asks for it.
unfoldable pub refusal_of_line : Line → ℕ → Refusal
refusal_of_line (lines.Said e) n = refused_at line_cause.Form n
refusal_of_line (lines.Refused c) n = refused_at c n

-- Text that ends early is refused at the line after the last.
unfoldable pub end_of : Kind → Place → ℕ → Result (Unit {0}) Refusal
end_of kind p n = elim (may_end kind p) [ true ↦ Ok tt | false ↦ Err (refused_at line_cause.Form n) ]
