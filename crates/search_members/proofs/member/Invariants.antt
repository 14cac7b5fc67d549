-- `search_members::member` meets its contract. Assumes nothing.
use mathlib.Core.Path.{◌≡◌}
use lib.ListN.{drop}
use Rattle.search_members.specs.Members.{pick}
use Rattle.search_members.proofs.member.Given as goal

abbrev pub invariant-loop-vector : goal.invariant-loop-vector
invariant-loop-vector l = pick l.lowest l.vector-items l.number ≡ pick l.state (drop l.vector-index l.vector-items) l.left
