-- The ranges of lines (document 01, "Sheet and seed list", and under its refusal sheet: "a line is tested for form (13) and then for its own number's range").
--     outside p r v         at the place p the number v is outside the range r
--     out_of_range p k v      there a line with the key k and the number v is out of range: one too many of its key, or its own number
--     tested kind p e       what a line with the entry e says there
--     ranged kind p said    the same of what a line says by its form
--     saying kind p l       what the line l says there
-- The number of a slice line is its specified positions.
use Rattle.std.specs.Prelude.{Bool, true, false, not, ◌||◌, List, ℕ, leb, eqb}
use Rattle.words_bounded.specs.Bounded.{within}
use Rattle.words_gf2.specs.Words.{beyond}
use Rattle.machine_register.specs.Register.{bad_register}
use Rattle.machine_chains.specs.Chains.{bad_mask}
use Rattle.text_keys.specs.Keys.{most, range, cause}
use Rattle.text_keys.specs.declared.Key.{Key}
use Rattle.text_keys.specs.declared.Range.{Range}
use Rattle.text_keys.specs.declared.Range.TheVariants as ranges
use Rattle.text_keys.specs.declared.LineCause.TheVariants.{Form}
use Rattle.text_lines.specs.Form.{formed}
use Rattle.text_lines.specs.declared.Entry.{Entry}
use Rattle.text_lines.specs.declared.Line.{Line}
use Rattle.text_lines.specs.declared.Line.TheVariants.{Said, Refused}
use Rattle.text_order.specs.Order.{in_order}
use Rattle.text_order.specs.declared.Kind.{Kind}
use Rattle.text_place.specs.Places.{run_of}
use Rattle.text_place.specs.declared.Place.{Place}

unfoldable pub outside : Place → Range → ℕ → Bool
outside p (ranges.Between least greatest) v = not (within least greatest v)
outside p ranges.Taps v = bad_register p.cells v
outside p ranges.Mask v = bad_mask p.cells v
outside p ranges.Inverted v = beyond p.chains v
outside p ranges.Specified v = eqb v 0
outside p ranges.Any v = false

-- The 2,049th slice or seed line is out of range, whatever it says.
unfoldable pub out_of_range : Place → Key → ℕ → Bool
out_of_range p k v = leb (most k) (run_of p k) || outside p (range k) v

-- Out of order is out of form; the range comes after.
unfoldable pub tested : Kind → Place → Entry → Line
tested kind p e = elim (in_order kind p e.key) [
  | true ↦ elim (out_of_range p e.key e.first) [ true ↦ Refused (cause e.key) | false ↦ Said e ]
  | false ↦ Refused Form
]

unfoldable pub ranged : Kind → Place → Line → Line
ranged kind p (Said e) = tested kind p e
ranged kind p (Refused c) = Refused c

unfoldable pub saying : Kind → Place → List ℕ → Line
saying kind p l = ranged kind p (formed p.chains l)
