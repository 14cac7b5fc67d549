-- `text_expand::expand_entries` meets its contract. What is expanded is what the list says. Assumes nothing.
use Rattle.text_entries.specs.Flat.{entries_in}
use Rattle.text_entries.specs.Said.{masks_of}
use Rattle.text_entries.proofs.Filling.{few_front, few_long}
use Rattle.text_expand.specs.List.{seeds_of, seed_list_reply}
use Rattle.text_expand.proofs.expand_entries.Goals as goal

pub slice_bounds-expand_said-end : goal.slice_bounds-expand_said-end
slice_bounds-expand_said-end c =
    few_long 64 (masks_of (entries_in c.args.entries.now)) c.requires.masks _ c.numbers-chains.ensures.count _ c.numbers-chains.ensures.list

pub slice_bounds-expand_said-end-2 : goal.slice_bounds-expand_said-end-2
slice_bounds-expand_said-end-2 c =
    few_long 2048 (seeds_of (entries_in c.args.entries.now)) c.requires.seeds _ c.numbers-count.ensures.count _ c.numbers-count.ensures.list

pub expand_said-requires : goal.expand_said-requires
expand_said-requires c =
    rw (few_front 64 (masks_of (entries_in c.args.entries.now)) c.requires.masks _ c.numbers-chains.ensures.count _ c.numbers-chains.ensures.list) c.requires.masks

pub returns : goal.returns
unfolding seed_list_reply
returns c =
    let es = entries_in c.args.entries.now in record {
      answer = rw (
        ← c.settings.ensures,
        ← c.number-specified.ensures,
        ← c.number-bits.ensures,
        ← c.number-slices.ensures,
        ← (few_front 64 (masks_of es) c.requires.masks _ c.numbers-chains.ensures.count _ c.numbers-chains.ensures.list),
        ← (few_front 2048 (seeds_of es) c.requires.seeds _ c.numbers-count.ensures.count _ c.numbers-count.ensures.list),
      ) c.expand_said.ensures.answer;
      buffer = rw (
        ← c.settings.ensures,
        ← c.number-specified.ensures,
        ← c.number-bits.ensures,
        ← c.number-slices.ensures,
        ← (few_front 64 (masks_of es) c.requires.masks _ c.numbers-chains.ensures.count _ c.numbers-chains.ensures.list),
        ← (few_front 2048 (seeds_of es) c.requires.seeds _ c.numbers-count.ensures.count _ c.numbers-count.ensures.list),
      ) c.expand_said.ensures.buffer;
    }
