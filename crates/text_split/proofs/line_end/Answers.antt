-- `text_split::line_end` meets its contract. The search for a line feed passes the bytes that `span` counts.
-- Assumes nothing.
use mathlib.Core.Path.{◌≡◌, ap, ◌∙◌}
use Prim.Native.Nat.{◌+◌, ◌-◌}
use native.Mathlib.Omega.{arith}
use lib.ListN.{length, take, drop, length-drop}
use lib.Seq.{take_all}
use borrow.Author.Rules.{rules}
use borrow.Author.Tests.{tests}
use Rattle.std.proofs.lemmas.Iterator.{YieldsList-from_slice}
use Rattle.std.proofs.lemmas.Iterator.Search.{position_from_yields_List}
use Rattle.text_split.proofs.Splitting.{is_feed, span_found}
use Rattle.text_split.proofs.line_end.Goals as goal

pub returns : goal.returns
returns c =
    let n = c.args.from in
    let s = drop n c.args.text.now in
    let all : take (length c.args.text.now - n) s ≡ s = take_all _ s (simp length-drop (omega arith)) in
    let found = position_from_yields_List is_feed _ _ c.position.result c.position.ensures.ran (YieldsList-from_slice s (c.iter.ensures.rest ∙ all)) (λ x b q k. search (rules, tests)) in
    ap (λ m. n + m) (c.unwrap_or.ensures ∙ rw all (span_found s c.position.result found))
