-- `text_encode::encode_under` meets its contract. What is encoded is what the sheet says. Assumes nothing.
use mathlib.Core.Path.{◌∙◌}
use native.Mathlib.Omega.{arith}
use Rattle.text_keys.specs.declared.Key.TheVariants as key
use Rattle.text_entries.specs.Flat.{entries_in}
use Rattle.text_entries.specs.Said.{masks_of}
use Rattle.text_entries.proofs.Filling.{few_front, few_long, parts_long}
use Rattle.text_encode.specs.Sheet.{specified_of, bits_of, reply_under}
use Rattle.text_encode.proofs.encode_under.Goals as goal

pub slice_bounds-encode_said-end : goal.slice_bounds-encode_said-end
slice_bounds-encode_said-end c =
    few_long 64 (masks_of (entries_in c.args.entries.now)) c.requires.1.masks _ c.numbers-chains.ensures.count _ c.numbers-chains.ensures.list

pub slice_bounds-encode_said-end-2 : goal.slice_bounds-encode_said-end-2
slice_bounds-encode_said-end-2 c =
    few_long 2048 (specified_of (entries_in c.args.entries.now)) c.requires.1.slices _ c.numbers-slices.ensures.count _ c.numbers-slices.ensures.list

pub slice_bounds-encode_said-end-3 : goal.slice_bounds-encode_said-end-3
slice_bounds-encode_said-end-3 c =
    let es = entries_in c.args.entries.now in
    let p = parts_long key.Slice es in
    few_long 2048 (bits_of es) (omega (arith, p, c.requires.1.slices)) _ (c.numbers-slices.ensures.count ∙ p) _ c.numbers.ensures.list

pub encode_said-requires : goal.encode_said-requires
encode_said-requires c =
    rw (few_front 64 (masks_of (entries_in c.args.entries.now)) c.requires.1.masks _ c.numbers-chains.ensures.count _ c.numbers-chains.ensures.list) (c.requires.0, c.requires.1.masks)

pub returns : goal.returns
unfolding reply_under
returns c =
    let es = entries_in c.args.entries.now in
    let p = parts_long key.Slice es in record {
      answer = rw (
        ← c.settings.ensures,
        ← c.number-depth.ensures,
        ← (few_front 64 (masks_of es) c.requires.1.masks _ c.numbers-chains.ensures.count _ c.numbers-chains.ensures.list),
        ← (few_front 2048 (specified_of es) c.requires.1.slices _ c.numbers-slices.ensures.count _ c.numbers-slices.ensures.list),
        ← (few_front 2048 (bits_of es) (omega (arith, p, c.requires.1.slices)) _ (c.numbers-slices.ensures.count ∙ p) _ c.numbers.ensures.list),
      ) c.encode_said.ensures.answer;
      buffer = rw (
        ← c.settings.ensures,
        ← c.number-depth.ensures,
        ← (few_front 64 (masks_of es) c.requires.1.masks _ c.numbers-chains.ensures.count _ c.numbers-chains.ensures.list),
        ← (few_front 2048 (specified_of es) c.requires.1.slices _ c.numbers-slices.ensures.count _ c.numbers-slices.ensures.list),
        ← (few_front 2048 (bits_of es) (omega (arith, p, c.requires.1.slices)) _ (c.numbers-slices.ensures.count ∙ p) _ c.numbers.ensures.list),
      ) c.encode_said.ensures.buffer;
    }
