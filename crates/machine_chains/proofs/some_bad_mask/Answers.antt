-- `machine_chains::some_bad_mask` meets its contract. Assumes nothing.
use Rattle.std.proofs.Common.{rules, tests}
use Rattle.std.proofs.lemmas.Iterator.{YieldsList-from_slice}
use Rattle.std.proofs.lemmas.Iterator.Search.{any_from_yields_List}
use Rattle.words_bounded.proofs.Any.{any_list}
use Rattle.machine_chains.specs.Chains.{bad_mask}
use Rattle.machine_chains.proofs.some_bad_mask.Goals as goal

pub returns : goal.returns
returns c =
    rw (any_list (bad_mask c.args.cells) c.args.masks.now)
    (any_from_yields_List (bad_mask c.args.cells) _ _ _ c.any.ensures.ran (YieldsList-from_slice c.args.masks.now cc) (λ x b q k. search (rules, tests)))
