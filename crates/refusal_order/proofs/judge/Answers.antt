-- `refusal_order::judge` meets its contract. Assumes nothing.
use Rattle.refusal_order.specs.Order.{judged, tests, first_of}
use Rattle.refusal_order.proofs.judge.Goals as goal

pub returns-then-faults : goal.returns-then-faults
unfolding judged tests first_of
returns-then-faults c = cc

pub returns-then-faults-2 : goal.returns-then-faults-2
unfolding judged tests first_of
returns-then-faults-2 c = cc

pub returns-then-faults-3 : goal.returns-then-faults-3
unfolding judged tests first_of
returns-then-faults-3 c = cc

pub returns-then-faults-4 : goal.returns-then-faults-4
unfolding judged tests first_of
returns-then-faults-4 c = cc

pub returns-then-faults-5 : goal.returns-then-faults-5
unfolding judged tests first_of
returns-then-faults-5 c = cc

pub returns : goal.returns
unfolding judged tests first_of
returns c = cc
