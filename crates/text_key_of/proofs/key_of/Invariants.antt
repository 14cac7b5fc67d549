-- `text_key_of::key_of` meets its contract. The invariant: the key with which the line begins is the one among the rows that are left. Assumes nothing.
use mathlib.Core.Path.{◌≡◌}
use lib.ListN.{drop}
use Rattle.text_keys.specs.Keys.{rows}
use Rattle.text_key_of.specs.Begins.{key_of}
use Rattle.text_key_of.proofs.key_of.Given as goal

abbrev pub invariant-loop-i : goal.invariant-loop-i
invariant-loop-i l = key_of (drop l.i rows) l.line ≡ key_of rows l.line
