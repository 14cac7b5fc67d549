-- The table of the stop's chains.
--     front-chosen     the chosen masks, read off the buffer
--     few_entries      they need no more entries than all chains
-- Assumes nothing.
use mathlib.Core.Path.{◌≡◌, refl}
use mathlib.Core.List.{List, ◌++◌}
use Prim.Native.Nat.{ℕ, ◌*◌, ◌≤◌}
use native.Mathlib.Nat.{mul-le-mul_left}
use native.Mathlib.Omega.{arith}
use lib.ListN.{length, take}
use lib.Seq.{take_at}
use Rattle.search_table.specs.Chosen.{chosen}
use Rattle.search_table.proofs.Choosing.{chosen_few}

pub front-chosen : (p : ℕ) (masks out rest : List ℕ) (n : ℕ) → n ≡ length (chosen p masks) → out ≡ chosen p masks ++ rest → take n out ≡ chosen p masks
front-chosen p masks out rest n e q = rw (e, q) (take_at (chosen p masks) rest (length (chosen p masks)) refl)

pub few_entries : (rows p : ℕ) (masks : List ℕ) (n : ℕ) → rows * length masks ≤ n → rows * length (chosen p masks) ≤ n
few_entries rows p masks n h = omega (arith, mul-le-mul_left {m = length (chosen p masks)} {n = length masks} rows (chosen_few p masks))
