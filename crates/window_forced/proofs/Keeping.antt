-- Forced positions: a space that keeps every member that is clear.
--     keeps_none, kept_then     nothing is forced; one after the other
--     kept_next          one row more: what it forces is entered
-- Assumes nothing.
use Rattle.std.specs.Prelude.{None, Option, Some}
use mathlib.Core.Bool.{Bool}
use mathlib.Core.List.{List}
use Prim.Native.Nat.{ℕ, ◌<◌}
use lib.ListN.{take}
use Rattle.search_space.specs.declared.Space.{Space}
use Rattle.search_rows.specs.declared.Pattern.{Pattern}
use Rattle.search_rows.specs.Rows.{clear}
use Rattle.search_rows.proofs.Reading.{clear_at}
use Rattle.search_forcing.proofs.Forcing.{forced_sound, forced_complete, forced_rising, forced_none}
use Rattle.search_forcing.proofs.Entering.{Entered, forced-left}
use Rattle.window_forced.specs.Keeping.{Keeps, Kept}

pub keeps_none : (K : ℕ → Bool) (y : Space) (vs : List ℕ) → Keeps K y vs y vs
keeps_none K y vs = record { sound = λ s m. m; complete = λ s m k. m; rising = λ r. r }

pub kept_then : (K : ℕ → Bool) (y : Space) (vs : List ℕ) (z : Space) (ws : List ℕ) (u : Option Space) (out : List ℕ) → Keeps K y vs z ws → Kept K z ws u out → Kept K y vs u out
kept_then K y vs z ws None out a b = λ s m k. b s (a.complete s m k) k
kept_then K y vs z ws (Some u) out a b = record {
  sound = λ s m. a.sound s (b.sound s m);
  complete = λ s m k. b.complete s (a.complete s m k) k;
  rising = λ r. b.rising (a.rising r);
}

module _ (p : Pattern) (table : List ℕ) (m t : ℕ) (y : Space) (l : List ℕ) (h : t < m) where
  abbrev vs : List ℕ
  vs = take y.free l

  kept_row : (r : Option Space) (out : List ℕ) → Entered y l p table t r out → Kept (clear p table m) y vs r out
  kept_row None out e = λ s k c. forced_none p table t vs y e.0 s k (clear_at p table s m t c h)
  kept_row (Some r) out e = rw (forced-left y l p table t r out e) (record {
    sound = forced_sound p table t vs y r e.0;
    complete = λ s k c. forced_complete p table t vs y r e.0 s k (clear_at p table s m t c h);
    rising = forced_rising p table t vs y r e.0;
  })

  pub kept_next : (x : Space) (us : List ℕ) (r : Option Space) (out : List ℕ) → Keeps (clear p table m) x us y vs → Entered y l p table t r out → Kept (clear p table m) x us r out
  kept_next x us r out k e = kept_then (clear p table m) x us y vs r out k (kept_row r out e)
