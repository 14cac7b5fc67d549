-- `text_lines::keyed` meets its contract. Assumes nothing.
use mathlib.Core.Path.{sym, ap, ◌∙◌}
use Prim.Native.Nat.{◌<◌}
use lib.ListN.{length, drop}
use Rattle.text_keys.specs.Keys.{name, longest}
use Rattle.text_lines.specs.Form.{valued}
use Rattle.text_lines.proofs.Values.{keyed_long, keyed-value}
use Rattle.text_lines.proofs.keyed.Goals as goal

pub returns-then-longest-line : goal.returns-then-longest-line
unfolding longest
returns-then-longest-line c = sym (keyed_long _ _ _ (rw (← (ap (λ x. x.4) c.spelling_of-size.ensures)) c.if-longest-line.true))

pub returns : goal.returns
unfolding longest name
returns c =
    let q = c.spelling_of-size.ensures in
    let a = c.args in
    let h : length a.line.now < longest a.key = rw (← (ap (λ x. x.4) q)) c.if-longest-line.false in
    c.valued.ensures ∙ ap (valued _ _) (c.tail.ensures ∙ ap (λ x. drop x.2 a.line.now) q) ∙ sym (keyed-value _ _ _ h)
