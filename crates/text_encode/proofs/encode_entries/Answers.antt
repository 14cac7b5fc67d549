-- `text_encode::encode_entries` meets its contract. Assumes nothing.
use native.Mathlib.Omega.{arith}
use lib.ListN.{length-take}
use Rattle.text_entries.specs.Flat.{entries_in}
use Rattle.text_encode.specs.Sheet.{sheet_reply}
use Rattle.text_encode.proofs.Heads.{head-room, head-front, head_long}
use Rattle.text_encode.proofs.encode_entries.Goals as goal

pub slice_bounds-head-end : goal.slice_bounds-head-end
slice_bounds-head-end c =
    omega (arith, head_long (entries_in c.args.entries.now) c.requires _ _ c.write_head-size.ensures, length-take c.write_head-size.result c.write_head-size.new.head)

pub slice_bounds-encode_under-end : goal.slice_bounds-encode_under-end
slice_bounds-encode_under-end c =
    head_long (entries_in c.args.entries.now) c.requires _ _ c.write_head-size.ensures

pub encode_under-requires : goal.encode_under-requires
encode_under-requires c =
    let es = entries_in c.args.entries.now in
    rw (head-front es c.requires _ _ c.write_head-size.ensures) (omega (arith, head-room es c.requires), c.requires)

pub returns : goal.returns
unfolding sheet_reply
returns c = record { answer = rw (← (head-front (entries_in c.args.entries.now) c.requires _ _ c.write_head-size.ensures)) c.encode_under.ensures.answer; buffer = rw (← (head-front (entries_in c.args.entries.now) c.requires _ _ c.write_head-size.ensures)) c.encode_under.ensures.buffer }
