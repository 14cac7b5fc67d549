-- `stop_slice::spared` meets its contract. Assumes nothing.
use Rattle.std.specs.Prelude.{None, Option, Some, ok_or}
use mathlib.Core.Path.{◌≡◌, refl, ap, ◌∙◌}
use Rattle.refusal_causes.specs.declared.Cause.TheVariants as cause
use Rattle.machine_slices.specs.declared.TestSlice.{TestSlice}
use Rattle.stop_slice.specs.Entry.{stop_or6}
use Rattle.stop_slice.proofs.spared.Goals as goal

or6 : (o : Option TestSlice) → ok_or o cause.AllTaken ≡ stop_or6 o
unfolding stop_or6
or6 None = refl
or6 (Some stop) = refl

pub returns : goal.returns
returns c = c.ok_or.ensures.value ∙ ap (λ (o : Option TestSlice). ok_or o cause.AllTaken) c.spare.ensures ∙ or6 _
