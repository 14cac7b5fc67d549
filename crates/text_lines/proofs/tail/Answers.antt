-- `text_lines::tail` meets its contract. Assumes nothing.
use mathlib.Core.Path.{sym}
use Prim.Native.Nat.{◌-◌, ◌≤◌}
use native.Mathlib.Omega.{arith}
use lib.ListN.{length, drop, length-drop, drop_of_length-le}
use lib.Seq.{take_all}
use Rattle.text_lines.proofs.tail.Goals as goal

pub returns-then-n-line : goal.returns-then-n-line
returns-then-n-line c =
    let l = c.args.line.now in
    let n = c.args.n in
    let h : length (drop n l) ≤ length l - n = simp length-drop (omega arith) in
    take_all (length l - n) (drop n l) h

pub returns-else-n-line : goal.returns-else-n-line
returns-else-n-line c =
    let h : length c.args.line.now ≤ c.args.n = omega arith in
    sym (drop_of_length-le _ h)
