-- The seed lines of a list.
--     place_at k r cells chains     the place after r lines with the key k
--     accepted_at      a line that may stand there, is none too many of its key, and has its number in range, is accepted
--     seeds_read       the seed lines from a place on
-- Assumes nothing.
use mathlib.Core.Bool.{true, false}
use mathlib.Core.Path.{◌≡◌, refl, ◌∙◌}
use mathlib.Core.List.{List, [], ◌∷◌, map}
use Prim.Native.Nat.{ℕ, ◌+◌, ◌≤◌, ◌<◌}
use native.Mathlib.Omega.{arith}
use borrow.Author.Tests.{ne_eqb}
use lib.ListN.{length}
use Rattle.words_bounded.specs.Bounded.{any}
use Rattle.words_bounded.proofs.Tests.{neither}
use Rattle.words_gf2.specs.Words.{beyond}
use Rattle.text_keys.specs.Keys.{rows, row_at, name, same, notation, most, range}
use Rattle.text_keys.specs.declared.Key.{Key}
use Rattle.text_keys.proofs.Table.{same_self}
use Rattle.text_keys.specs.declared.Key.TheVariants as key
use Rattle.text_lines.specs.Form.{entry}
use Rattle.text_lines.specs.declared.Entry.{Entry}
use Rattle.text_order.specs.Order.{after, among, in_order, may_end}
use Rattle.text_order.proofs.Standing.{missing-none, stand_after}
use Rattle.text_order.specs.declared.Kind.{Kind}
use Rattle.text_order.specs.declared.Kind.TheVariants.{SeedList}
use Rattle.text_place.specs.Places.{run_of, moved}
use Rattle.text_place.specs.declared.Place.{Place}
use Rattle.text_place.proofs.Runs.{run-here}
use Rattle.text_ranges.specs.Ranges.{outside}
use Rattle.text_ranges.proofs.Ranging.{range-own}
use Rattle.text_ranges.proofs.Accepting.{Accepted}
use Rattle.text_write_numbers.specs.Lines.{number_line, number_lines}
use Rattle.text_readback.specs.Written.{value, written}
use Rattle.text_readback.proofs.Lines.{Reads, reads_end, line_reads}

abbrev pub place_at : Key → ℕ → ℕ → ℕ → Place
place_at k r cells chains = record { last = k; run = r; cells = cells; chains = chains }

pub accepted_at : (kind : Kind) (p : Place) (e : Entry) → in_order kind p e.key ≡ true → run_of p e.key < most e.key → outside p (range e.key) e.first ≡ false → Accepted kind p e
accepted_at kind p e o f r = record { order = o; ranges = range-own p e.key e.first f ∙ r }

-- After a seed line another may stand.
seed-next : (p : Place) (v : ℕ) → in_order SeedList (moved p key.Seed v) key.Seed ≡ true
unfolding in_order among same after moved
seed-next p v = let q = moved p key.Seed v in rw (stand_after q SeedList (ne_eqb (run_of p key.Seed + 1) 0 (λ e. omega arith)) (missing-none q refl))

seed-run : (p : Place) (v : ℕ) → run_of (moved p key.Seed v) key.Seed ≡ run_of p key.Seed + 1
unfolding moved
seed-run p v = run-here (moved p key.Seed v) key.Seed (same_self key.Seed)

seed-last : (p : Place) (v : ℕ) → may_end SeedList (moved p key.Seed v) ≡ true
unfolding may_end among same moved
seed-last p v = refl

pub seeds_read : (ss : List ℕ) (p : Place) → in_order SeedList p key.Seed ≡ true → may_end SeedList p ≡ true → run_of p key.Seed + length ss ≤ 2048 → any (beyond 64) ss ≡ false
    → Reads SeedList p (number_lines 16 (name key.Seed) ss) (map (λ s. entry key.Seed s 0) ss)
unfolding number_lines number_line any written value notation range most row_at rows outside
seeds_read [] p o l h b = reads_end SeedList p l
seeds_read (s ∷ ss) p o l h b =
    let a = neither (beyond 64 s) (any (beyond 64) ss) b in
    let q = seed-run p s in
    line_reads SeedList p (entry key.Seed s 0) (accepted_at SeedList p (entry key.Seed s 0) o (omega arith) refl) (a.0, refl) _ _ (seeds_read ss (moved p key.Seed s) (seed-next p s) (seed-last p s) (omega arith) a.1)
