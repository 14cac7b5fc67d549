-- How long a refusal is.
--     refusal_parts, refused_length      a refusal
-- Assumes nothing.
use mathlib.Core.Path.{◌≡◌}
use Prim.Native.Nat.{◌+◌, ◌≤◌}
use native.Mathlib.Omega.{arith}
use lib.ListN.{length, length-append}
use Rattle.refusal_causes.specs.declared.Refusal.{Refusal}
use Rattle.text_keys.specs.Bytes.{bytes}
use Rattle.text_write_numbers.specs.Lines.{number_line}
use Rattle.text_write_refusal.specs.Refused.{refused_text}
use Rattle.text_write_numbers.proofs.Lines.{line_length}

pub refusal_parts : (r : Refusal) → length (refused_text r) ≡ length (number_line 10 (bytes "refused=") r.number) + length (number_line 10 (bytes "at=") r.value)
unfolding refused_text
refusal_parts r = simp length-append (omega arith)

pub refused_length : (r : Refusal) → length (refused_text r) ≤ 53
refused_length r = omega (arith, refusal_parts r, line_length 10 (bytes "refused=") r.number, line_length 10 (bytes "at=") r.value)
