-- The reply to what a seed list says (document 01, "Sheet and seed list").
--     seeds_of es              the seeds that the seed lines say
--     seed_list_reply es        the reply to the entries of a seed list
use Rattle.std.specs.Prelude.{List, ℕ}
use Rattle.text_keys.specs.declared.Key.TheVariants as key
use Rattle.text_lines.specs.declared.Entry.{Entry}
use Rattle.text_entries.specs.Said.{masks_of, numbers_for, number_for, slice_for, settings_of}
use Rattle.text_replies.specs.Replies.{Reply}
use Rattle.text_expand_said.specs.Expanded.{expanded}

abbrev pub seeds_of : List Entry → List ℕ
seeds_of es = numbers_for key.Seed es

unfoldable pub seed_list_reply : List Entry → Reply
seed_list_reply es = expanded (settings_of es) (masks_of es) (slice_for key.Stop es) (number_for key.Slices es) (seeds_of es)
