-- `text_key_of::begins` meets its contract. Assumes nothing.
use mathlib.Core.Path.{sym, ap, ◌∙◌}
use lib.ListN.{length}
use Rattle.text_key_of.specs.Begins.{starts}
use Rattle.text_key_of.proofs.Naming.{name-front, name_inside}
use Rattle.text_key_of.proofs.Starting.{starts-std}
use Rattle.text_key_of.proofs.begins.Goals as goal

pub slice_bounds-name-end : goal.slice_bounds-name-end
slice_bounds-name-end c = rw c.spelling_at-spelling.ensures (name_inside _ c.requires)

pub slice_bounds-starts_with-end : goal.slice_bounds-starts_with-end
slice_bounds-starts_with-end c = rw c.spelling_at-spelling.ensures (sym (ap length (name-front _ c.requires)))

pub returns : goal.returns
returns c =
    c.starts_with.ensures.value ∙ starts-std _ c.args.line.now ∙ ap (λ x. starts x c.args.line.now) (rw c.spelling_at-spelling.ensures (name-front _ c.requires))
