-- `text_place::moved` meets its contract. Assumes nothing.
use native.Mathlib.Omega.{arith}
use Rattle.text_keys.specs.declared.Key.TheVariants as key
use Rattle.text_keys.proofs.Table.{same_derived}
use Rattle.text_place.specs.Places.{moved}
use Rattle.text_place.proofs.Runs.{run-most}
use Rattle.text_place.proofs.moved.Goals as goal

pub overflow_add-run : goal.overflow_add-run
overflow_add-run c = rw c.run_of-run.ensures (omega (arith, run-most c.args.place c.args.key, c.requires))

pub returns : goal.returns
unfolding moved
returns c =
    let k = c.args.key in
    rw (c.number_if-chains.ensures, c.eq-2.ensures, same_derived k key.Chains, c.number_if-cells.ensures, c.eq.ensures, same_derived k key.Cells, c.run_of-run.ensures)
