-- `stream::write_all`: what one write takes stands in the bytes right behind what was sent.
use Rattle.std.proofs.Common.{◌≡◌, ℕ, ◌+◌, ◌-◌, ◌≤◌, List, ◌++◌, arith, length, take, drop, ap, sym, ◌∙◌, subst}
use Rattle.std.proofs.lemmas.List.{take-take}
use Rattle.std.proofs.Math.ListN.{length-take, length-drop}
use Rattle.std.proofs.Math.Seq.{take-add}
use Rattle.std.specs.Io.KnownBytes.{Appends}
use Rattle.std.proofs.KnownBytes.{Appends-trans}
use Rattle.stream.proofs.write_all.Goals as goal

-- how many bytes of the part from a place on there are, at most those that are left
part_fits : (xs : List ℕ) (sent more : ℕ) → more ≤ length (take (length xs - sent) (drop sent xs)) → more ≤ length xs - sent
part_fits xs sent more h = omega (arith, h, length-take (length xs - sent) (drop sent xs), length-drop sent xs)

-- the first bytes of the part from `sent` on, behind the first `sent` bytes
sent_more : (xs : List ℕ) (sent more : ℕ) → more ≤ length xs - sent → take sent xs ++ take more (take (length xs - sent) (drop sent xs)) ≡ take (sent + more) xs
sent_more xs sent more h = ap (λ l. take sent xs ++ l) (take-take more (length xs - sent) (drop sent xs) h) ∙ sym (take-add sent more xs)

pub loop-sent-preserved : goal.loop-sent-preserved
loop-sent-preserved g c =
    let xs = c.args.bytes.now in
    let sent = c.loop-sent.sent in
    let more = c.write_some-more.result in
    let h = part_fits xs sent more c.write_some-more.ensures.within.0 in
    record {
      in_range = omega (arith, h, c.loop-sent-test.true);
      given = subst (Appends _ _) (sent_more xs sent more h) (Appends-trans _ _ _ _ _ c.loop-sent.invariant.given c.write_some-more.ensures.bytes);
    }
