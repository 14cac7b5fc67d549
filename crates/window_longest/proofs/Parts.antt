-- The spaces of a part that is cut off.
--     grown_part         they are those of the whole part
-- Assumes nothing.
use mathlib.Core.Path.{◌≡◌, ap, ◌∙◌, subst}
use mathlib.Core.Logic.{◌⊎◌, inl, inr, ⊎_elim}
use mathlib.Core.Bool.{false}
use mathlib.Core.List.{List}
use Prim.Native.Nat.{ℕ, ◌≤◌, ◌<◌}
use native.Mathlib.Omega.{arith}
use lib.ListN.{length, take}
use lib.Seq.{length-take-le, take-take}
use Rattle.words_bounded.proofs.Tests.{lt_or_le}
use Rattle.search_rows.specs.declared.Pattern.{Pattern}
use Rattle.machine_slices.specs.declared.TestSlice.{TestSlice}
use Rattle.machine_slices.specs.Slices.{paired, bad_slices}
use Rattle.machine_slices.proofs.Formed.{paired-take}
use Rattle.window_rows.specs.Meeting.{all_meet}
use Rattle.window_rows.specs.Most.{Most}
use Rattle.window_quiet.specs.Quiet.{quiet_meet}
use Rattle.window_growing.specs.Growing.{HeldAt, Grown}

-- the spaces of a part that is cut off where no state is quiet any more
pub grown_part : (c : ℕ) (table : List ℕ) (p : Pattern) (stops ps bs : List ℕ) (b : bad_slices c ps bs ≡ false) (cells : ℕ) (spaces : List ℕ) (q k : ℕ) → Most (quiet_meet c table p stops) (paired ps bs) cells q
    → Grown (all_meet c table 0) c table (paired (take q ps) (take q bs)) cells spaces k → Grown (quiet_meet c table p stops) c table (paired ps bs) cells spaces k
unfolding quiet_meet
grown_part c table p stops ps bs b cells spaces q k u g = record {
  most = record {
    within = omega (arith, u.within, few);
    more = λ j s l m h. ⊎_elim
        (λ le. let e : all_meet c table 0 (take j w) s ≡ false = subst (λ (v : List TestSlice). all_meet c table 0 v s ≡ false) (front j le) (g.most.more j s l (omega (arith, cut)) h) in rw e)
        (λ gt. u.more j s gt m h)
        (split j);
  };
  held = λ j h m t. subst (λ (v : List TestSlice). HeldAt c table v cells spaces j) (front j (omega (arith, few))) (g.held j h m t);
}
  where
    w : List TestSlice
    w = paired ps bs

    cut : length (paired (take q ps) (take q bs)) ≡ q
    cut = ap length (paired-take q ps bs) ∙ length-take-le q (paired ps bs) u.within

    few : k ≤ q
    few = omega (arith, g.most.within, cut)

    front : (j : ℕ) → j ≤ q → take j (paired (take q ps) (take q bs)) ≡ take j (paired ps bs)
    front j h = ap (take j) (paired-take q ps bs) ∙ take-take j q (paired ps bs) h

    split : (j : ℕ) → (j ≤ q) ⊎ (q < j)
    split j = ⊎_elim (λ l. inr l) (λ l. inl l) (lt_or_le q j)
