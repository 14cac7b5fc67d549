-- `machine_slices::bad_slice` meets its contract. Assumes nothing.
use mathlib.Core.Path.{sym, ◌∙◌}
use Rattle.machine_slices.proofs.Causes.{slice_unspecified, slice-beyond, slice-last}
use Rattle.machine_slices.proofs.bad_slice.Goals as goal

pub returns-then-test : goal.returns-then-test
returns-then-test c = sym (slice_unspecified _ c.args.test c.if-test.true)

pub returns-then-beyond : goal.returns-then-beyond
returns-then-beyond c = sym (slice-beyond _ c.args.test c.if-test.false (sym c.beyond.ensures ∙ c.if-beyond.true))

pub returns : goal.returns
returns c =
    let test = c.args.test in
    c.beyond-2.ensures ∙ sym (slice-last _ test c.if-test.false (sym c.beyond.ensures ∙ c.if-beyond.false))
