-- Cause 2, as the code tests it, one test after the other.
--     chains_count, chains_masks      by the number of chains, by the masks
--     count-within, chains_within     what is not refused by it: 1 to 64 chains
--     chains_counted, chains_masked     so many chains, no bad mask
-- Assumes nothing.
use mathlib.Core.Path.{◌≡◌}
use mathlib.Core.Bool.{true, false}
use mathlib.Core.List.{List}
use Prim.Native.Nat.{ℕ, ◌≤◌}
use lib.ListN.{length}
use borrow.Author.Tests.{not-false}
use Rattle.words_bounded.specs.Bounded.{within, any}
use Rattle.words_bounded.proofs.Tests.{neither, within_yes}
use Rattle.machine_chains.specs.Chains.{bad_count, bad_mask, bad_chains}

pub count-within : (chains : ℕ) → bad_count chains ≡ false → (1 ≤ chains) × (chains ≤ 64)
unfolding bad_count
count-within chains b = within_yes 1 64 chains (not-false (within 1 64 chains) b)

module _ (cells : ℕ) (masks : List ℕ) where
  pub chains_count : bad_count (length masks) ≡ true → bad_chains cells masks ≡ true
  unfolding bad_chains
  chains_count b = rw b

  pub chains_masks : bad_count (length masks) ≡ false → bad_chains cells masks ≡ any (bad_mask cells) masks
  unfolding bad_chains
  chains_masks b = rw b

  pub chains_counted : bad_chains cells masks ≡ false → bad_count (length masks) ≡ false
  unfolding bad_chains
  chains_counted b = (neither (bad_count (length masks)) (any (bad_mask cells) masks) b).0

  pub chains_masked : bad_chains cells masks ≡ false → any (bad_mask cells) masks ≡ false
  unfolding bad_chains
  chains_masked b = (neither (bad_count (length masks)) (any (bad_mask cells) masks) b).1

  pub chains_within : bad_chains cells masks ≡ false → (1 ≤ length masks) × (length masks ≤ 64)
  chains_within b = count-within (length masks) (chains_counted b)
