-- `face_numbers::slice` meets its contract. Assumes nothing.
use mathlib.Core.Path.{sym, ◌∙◌}
use Rattle.face_numbers.proofs.Found.{lawful_slice, refused_slice}
use Rattle.face_numbers.proofs.slice.Goals as goal

pub returns-then-bad_register : goal.returns-then-bad_register
returns-then-bad_register c = c.no_slice.ensures ∙ refused_slice _ _ _ (sym c.bad_register.ensures ∙ c.if-bad_register.true)

pub returns : goal.returns
returns c =
    rw c.into.ensures at c.slice_found.ensures ∙ lawful_slice _ _ _ (sym c.bad_register.ensures ∙ c.if-bad_register.false)
