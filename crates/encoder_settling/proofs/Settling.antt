-- The answer for the windows of a set.
--     settled_stuck, settled_through     8, or what the seeds give
--     settled_short, settled-whole       9, or the seeds
-- Assumes nothing.
use Rattle.std.specs.Prelude.{Ok}
use mathlib.Core.Path.{◌≡◌, ◌∙◌}
use mathlib.Core.List.{List, ◌++◌}
use Prim.Native.Nat.{ℕ, ◌≤◌, ◌<◌}
use lib.ListN.{length, take, drop}
use lib.Seq.{length-take-le}
use borrow.Author.Tests.{lt-ltb, le-ltb}
use Rattle.refusal_causes.specs.Outcome.{refuse, fill}
use Rattle.refusal_causes.proofs.Outcome.{fill-whole, fill_short}
use Rattle.encoder_settling.specs.Settling.{settled}
use Rattle.encoder_settling.specs.declared.Gathered.{Gathered}
use Rattle.refusal_causes.specs.declared.Cause.TheVariants as cause

module _ (n : ℕ) (r : Gathered) (seeds out : List ℕ) where
  pub settled_stuck : r.place < n → settled n r seeds out ≡ refuse (cause.NoCutting r.place) out
  unfolding settled
  settled_stuck h = rw (lt-ltb r.place n h, settled)

  pub settled_through : n ≤ r.place → settled n r seeds out ≡ fill (take r.count seeds) out
  unfolding settled
  settled_through h = rw (le-ltb r.place n h, settled)

  module _ (come : n ≤ r.place) (held : r.count ≤ length seeds) where
    count : length (take r.count seeds) ≡ r.count
    count = length-take-le r.count seeds held

    pub settled_short : length out < r.count → settled n r seeds out ≡ refuse (cause.NoSpace r.count) out
    settled_short h = settled_through come ∙ fill_short (take r.count seeds) out r.count count h

    pub settled-whole : r.count ≤ length out → settled n r seeds out ≡ record { answer = Ok r.count; buffer = take r.count seeds ++ drop r.count out }
    settled-whole h = settled_through come ∙ fill-whole (take r.count seeds) out r.count count h
