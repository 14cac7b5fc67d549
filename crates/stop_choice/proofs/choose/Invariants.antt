-- `stop_choice::choose` meets its contract: the best is the choice among those passed. Assumes nothing.
use mathlib.Core.Path.{◌≡◌}
use Rattle.stop_steps.specs.Steps.{choice as choice_of}
use Rattle.stop_choice.specs.Choosing.{tracked, count_in}
use Rattle.stop_choice.proofs.choose.Given as goal

abbrev pub invariant-loop-choice : goal.invariant-loop-choice
invariant-loop-choice l = l.best ≡ tracked (count_in l.stop l.specified l.bits) (choice_of l.stop (count_in l.stop l.specified l.bits) l.choice)
