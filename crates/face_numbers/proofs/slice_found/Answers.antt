-- `face_numbers::slice_found` meets its contract. Assumes nothing.
use mathlib.Core.Path.{sym, ◌∙◌}
use Rattle.face_numbers.proofs.Found.{bad_chains_lem, beyond-slice, within-slice}
use Rattle.face_numbers.proofs.slice_found.Goals as goal

pub returns-then-bad_chains : goal.returns-then-bad_chains
returns-then-bad_chains c = c.no_slice.ensures ∙ bad_chains_lem _ _ _ (sym c.bad_chains.ensures ∙ c.if-bad_chains.true)

pub returns-then-beyond : goal.returns-then-beyond
returns-then-beyond c =
    c.no_slice-then-beyond.ensures ∙ beyond-slice _ _ _ (sym c.bad_chains.ensures ∙ c.if-bad_chains.false) (sym c.beyond.ensures ∙ c.if-beyond.true)

pub returns : goal.returns
returns c =
    rw c.slice.ensures (within-slice _ _ _ (sym c.bad_chains.ensures ∙ c.if-bad_chains.false) (sym c.beyond.ensures ∙ c.if-beyond.false))
