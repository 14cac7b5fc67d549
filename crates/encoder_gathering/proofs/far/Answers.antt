-- `encoder_gathering::far` meets its contract. Assumes nothing.
use mathlib.Core.Path.{◌∙◌, sym}
use Rattle.theory_covering.proofs.Places.{far_segment}
use Rattle.encoder_gathering.proofs.far.Goals as goal

pub returns : goal.returns
returns c = λ stop closing. c.min.ensures ∙ sym (far_segment c.args.settings stop closing c.args.slices c.args.start)
