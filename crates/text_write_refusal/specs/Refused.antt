-- Refusals as they are written (document 01, "Sheet and seed list").
--     refused_text r              the refusal
use Rattle.std.specs.Prelude.{List, ◌++◌, ℕ}
use Rattle.refusal_causes.specs.declared.Refusal.{Refusal}
use Rattle.text_keys.specs.Bytes.{bytes}
use Rattle.text_write_numbers.specs.Lines.{number_line}

-- refused=NUMBER and at=NUMBER in two lines.
unfoldable pub refused_text : Refusal → List ℕ
refused_text r = number_line 10 (bytes "refused=") r.number ++ number_line 10 (bytes "at=") r.value
