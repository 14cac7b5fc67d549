-- The lines that a list repeats, in their buffer.
--     head-room      they have at most 2,048 bytes
--     head-front, head_long      they are what was written, and so many bytes
-- Assumes nothing.
use mathlib.Core.Path.{◌≡◌}
use mathlib.Core.List.{List}
use Prim.Native.Nat.{ℕ, ◌≤◌}
use native.Mathlib.Omega.{arith}
use lib.ListN.{length, take, replicate}
use Rattle.text_lines.specs.declared.Entry.{Entry}
use Rattle.text_entries.specs.Said.{masks_of, inverts_of, windows_of, settings_of, Few}
use Rattle.text_entries.proofs.Filling.{few_front, few_long}
use Rattle.text_write_bytes.specs.Stored.{Stored}
use Rattle.text_write_head.proofs.Lengths.{head-length}
use Rattle.text_encode.specs.Sheet.{head_of}

module _ (es : List Entry) (f : Few es) where
  pub head-room : length (head_of es) ≤ 2048
  head-room = omega (arith, head-length (settings_of es) (masks_of es) (inverts_of es) (windows_of es), f.masks, f.inverts, f.windows)

  module _ (out : List ℕ) (n : ℕ) (s : Stored (replicate 2048 0) 0 (head_of es) out n) where
    pub head-front : take n out ≡ head_of es
    head-front = few_front 2048 (head_of es) head-room n (omega (arith, s.place)) out s.bytes

    pub head_long : n ≡ length (take n out)
    head_long = few_long 2048 (head_of es) head-room n (omega (arith, s.place)) out s.bytes
