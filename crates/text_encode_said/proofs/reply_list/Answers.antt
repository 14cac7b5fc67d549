-- `text_encode_said::reply_list` meets its contract. Assumes nothing.
use Rattle.std.specs.Prelude.{Err}
use Rattle.std.proofs.lemmas.Result.{err_from_is_err_and}
use mathlib.Core.Path.{refl, sym, ap, ◌∙◌}
use native.Mathlib.Nat.{min-le_right}
use native.Mathlib.Omega.{arith}
use lib.ListN.{length, length-take}
use lib.Seq.{length-take-le}
use Rattle.text_encode_said.specs.Encoded.{list_reply}
use Rattle.text_replies.specs.Calls.{called}
use Rattle.text_encode_said.proofs.Answering.{list_leaves}
use Rattle.text_encode_said.proofs.reply_list.Goals as goal

pub slice_bounds-write_list-end : goal.slice_bounds-write_list-end
slice_bounds-write_list-end c =
    let h = c.min-count.ensures in
    let xs = c.args.seeds.now in
    sym (length-take-le _ xs (rw h (min-le_right _ (length xs))))

pub write_list-written-requires : goal.write_list-written-requires
write_list-written-requires c =
    let h = c.requires in
    (omega (arith, h.0), omega (arith, h.1), omega (arith, h.2, length-take c.min-count.result c.args.seeds.now))

pub returns-in_err-list : goal.returns-in_err-list
unfolding list_reply called
returns-in_err-list c =
    let x = err_from_is_err_and _ c.from_residual.ensures.1 in
    record { answer = rw c.in_err-list.was (x.1 ∙ ap Err x.2); buffer = rw c.in_err-list.was refl }

pub returns : goal.returns
returns c =
    let p = list_leaves _ _ _ _ _ _ _ _ c.min-count.ensures _ _ _ c.answered.ensures c.write_list-written.ensures.answer c.write_list-written.ensures.buffer in record { answer = rw c.in_ok-list.was p.0; buffer = rw c.in_ok-list.was p.1 }
