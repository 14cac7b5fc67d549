-- `text_expand_said::reply_slices` meets its contract. Assumes nothing.
use Rattle.std.specs.Prelude.{Err}
use Rattle.std.proofs.lemmas.Result.{err_from_is_err_and}
use mathlib.Core.Path.{refl, sym, ap, ◌∙◌}
use native.Mathlib.Nat.{min-le_right}
use native.Mathlib.Omega.{arith}
use lib.ListN.{length, length-take}
use lib.Seq.{length-take-le}
use Rattle.text_expand_said.specs.Expanded.{slices_reply}
use Rattle.text_replies.specs.Calls.{called}
use Rattle.text_expand_said.proofs.Answering.{slices_leave}
use Rattle.text_expand_said.proofs.reply_slices.Goals as goal

pub slice_bounds-write_slices-end : goal.slice_bounds-write_slices-end
slice_bounds-write_slices-end c =
    let h = c.min-count.ensures in
    let xs = c.args.slices.now in
    sym (length-take-le _ xs (rw h (min-le_right _ (length xs))))

pub write_slices-lines-requires : goal.write_slices-lines-requires
write_slices-lines-requires c =
    let h = c.requires in
    (h.0, omega (arith, h.1, length-take c.min-count.result c.args.slices.now))

pub returns-in_err-n : goal.returns-in_err-n
unfolding slices_reply called
returns-in_err-n c =
    let x = err_from_is_err_and _ c.from_residual.ensures.1 in
    record { answer = rw c.in_err-n.was (x.1 ∙ ap Err x.2); buffer = rw c.in_err-n.was refl }

pub returns : goal.returns
returns c =
    let p = slices_leave _ _ _ _ _ c.min-count.ensures _ _ _ c.answered.ensures c.write_slices-lines.ensures.answer c.write_slices-lines.ensures.buffer in record { answer = rw c.in_ok-n.was p.0; buffer = rw c.in_ok-n.was p.1 }
