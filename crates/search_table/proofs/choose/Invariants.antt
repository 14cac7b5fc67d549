-- `search_table::choose` meets its contract. Assumes nothing.
use Rattle.search_table.proofs.Choosing.{Choosing}
use Rattle.search_table.proofs.choose.Given as goal

abbrev pub invariant-loop-mask : goal.invariant-loop-mask
invariant-loop-mask l = Choosing l.specified l.masks l.initial.chosen l.left l.count l.mask-index l.chosen
