-- `search_rows::first_shown` meets its contract. Assumes nothing.
use Rattle.words_bounded.specs.Bounded.{NoneBelow}
use Rattle.search_rows.specs.Rows.{shown}
use Rattle.search_rows.proofs.first_shown.Given as goal

abbrev pub invariant-loop-row : goal.invariant-loop-row
invariant-loop-row l = NoneBelow (λ t. shown l.pattern l.table t l.state) l.row
