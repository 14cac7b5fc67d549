-- `text_encode::write_head` meets its contract. What is written is picked from the entries. Assumes nothing.
use native.Mathlib.Omega.{arith}
use Rattle.text_entries.specs.Flat.{entries_in}
use Rattle.text_entries.specs.Said.{masks_of, inverts_of, windows_of}
use Rattle.text_entries.proofs.Filling.{few_front, few_long}
use Rattle.text_encode.proofs.Heads.{head-room}
use Rattle.text_encode.proofs.write_head.Goals as goal

pub slice_bounds-put_head-end : goal.slice_bounds-put_head-end
slice_bounds-put_head-end c =
    few_long 64 (masks_of (entries_in c.args.entries.now)) c.requires.masks _ c.numbers-chains.ensures.count _ c.numbers-chains.ensures.list

pub slice_bounds-put_head-end-2 : goal.slice_bounds-put_head-end-2
slice_bounds-put_head-end-2 c =
    few_long 1 (inverts_of (entries_in c.args.entries.now)) c.requires.inverts _ c.numbers-inverted.ensures.count _ c.numbers-inverted.ensures.list

pub slice_bounds-put_head-end-3 : goal.slice_bounds-put_head-end-3
slice_bounds-put_head-end-3 c =
    few_long 1 (windows_of (entries_in c.args.entries.now)) c.requires.windows _ c.numbers-limits.ensures.count _ c.numbers-limits.ensures.list

pub put_head-requires : goal.put_head-requires
put_head-requires c =
    let es = entries_in c.args.entries.now in
    rw (
      few_front 64 (masks_of es) c.requires.masks _ c.numbers-chains.ensures.count _ c.numbers-chains.ensures.list,
      few_front 1 (inverts_of es) c.requires.inverts _ c.numbers-inverted.ensures.count _ c.numbers-inverted.ensures.list,
      few_front 1 (windows_of es) c.requires.windows _ c.numbers-limits.ensures.count _ c.numbers-limits.ensures.list,
      c.settings.ensures,
    )
    (omega (arith, head-room es c.requires))

pub returns : goal.returns
returns c =
    let es = entries_in c.args.entries.now in
    rw (
      ← c.settings.ensures,
      ← (few_front 64 (masks_of es) c.requires.masks _ c.numbers-chains.ensures.count _ c.numbers-chains.ensures.list),
      ← (few_front 1 (inverts_of es) c.requires.inverts _ c.numbers-inverted.ensures.count _ c.numbers-inverted.ensures.list),
      ← (few_front 1 (windows_of es) c.requires.windows _ c.numbers-limits.ensures.count _ c.numbers-limits.ensures.list),
    )
    c.put_head.ensures
