-- `machine_register::Register::step` meets its contract. Assumes nothing.
use borrow.Author.Rules.{rules}
use Rattle.machine_register.proofs.Steps.{step_fits, step_narrow, step_wide}
use Rattle.words_gf2.proofs.Digits.{one_shifted}
use Rattle.machine_register.proofs.Register.step.Goals as goal

pub overflow_add-next : goal.overflow_add-next
overflow_add-next c = rw c.odd.ensures (record { fits = step_fits _ _ })

pub returns-then-cells-lt-MOST_CELLS : goal.returns-then-cells-lt-MOST_CELLS
returns-then-cells-lt-MOST_CELLS c =
    rw (c.odd.ensures, one_shifted c.args.self.cells (search rules)) (step_narrow c.args.self _ (search rules))

pub returns-else-cells-lt-MOST_CELLS : goal.returns-else-cells-lt-MOST_CELLS
returns-else-cells-lt-MOST_CELLS c = rw c.odd.ensures (step_wide c.args.self _ (search rules))
