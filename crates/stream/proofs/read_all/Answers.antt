-- `stream::read_all`: what one read gives stands in the buffer right behind what was there.
use Rattle.std.proofs.Common.{◌≡◌, ℕ, ◌+◌, ◌-◌, ◌≤◌, List, ◌++◌, rules, length, take, ap, sym, ◌∙◌, subst, length-take-le}
use Rattle.std.proofs.lemmas.List.{take-append-le}
use Rattle.std.proofs.Math.Seq.{take-append-add}
use Rattle.std.specs.Io.KnownBytes.{Consumes}
use Rattle.std.proofs.KnownBytes.{Consumes-trans}
use borrow.Rule.Slice.PartMut.{put_mid, post_of}
use Rattle.stream.proofs.read_all.Goals as goal

-- the first bytes of the part that was read into, behind the first `done` bytes
done_more : (done room more : ℕ) (xs part : List ℕ) → done ≤ length xs → more ≤ length part → take done xs ++ take more part ≡ take (done + more) (put_mid done room xs part)
done_more done room more xs part within fits =
    let after = post_of done room xs in
    sym (ap (λ n. take (n + more) (take done xs ++ (part ++ after))) (sym (length-take-le done xs within)) ∙ take-append-add (take done xs) (part ++ after) more ∙ ap (λ l. take done xs ++ l) (take-append-le more part after fits))

pub loop-done-preserved : goal.loop-done-preserved
loop-done-preserved g c =
    let xs = c.loop-done.buffer in
    let done = c.loop-done.done in
    let more = c.read_some-more.result in
    let i = c.loop-done.invariant in
    record {
      in_range = search rules;
      same_length = search rules;
      taken = subst (Consumes _ _) (done_more done (length xs - done) more xs c.read_some-more.new.part i.in_range c.read_some-more.ensures.within.0) (Consumes-trans _ _ _ _ _ i.taken c.read_some-more.ensures.bytes);
    }
