-- Only the first `enough` bytes of the input decide what a program prints (`printed-enough`).
-- Assumes nothing.
use mathlib.Core.Path.{◌≡◌}
use mathlib.Core.List.{List}
use Prim.Native.Nat.{ℕ}
use lib.ListN.{take}
use Rattle.text_order.specs.declared.Kind.{Kind}
use Rattle.text_bounds.specs.Bounds.{enough}
use Rattle.text_bounds.proofs.Enough.{enough-reads}
use Rattle.text_calls.specs.Texts.{reply_to, printed_for}

pub printed-enough : (kind : Kind) (s : List ℕ) → printed_for kind (take enough s) ≡ printed_for kind s
unfolding printed_for reply_to
printed-enough kind s = rw (enough-reads kind s)
