-- A sheet has as many chain lines before depth as its chains line says.
--     had_of, had p           how many chain lines stand before the place p of a sheet, before depth
--     is_chain k              one, for a chain line
--     Held p                 what holds at every such place: no more than the chains line says
--     held_start             it holds before the first line
--     Stepped p k v          after a line with the key k and the number v it holds again, and a chain line counts
--     taps_step .. optional-step     for each line that may follow another
--     accepted_steps         for every accepted line before depth
--     depth_counted          where depth may stand, there are as many as the chains line says
-- Assumes nothing.
use mathlib.Core.Bool.{Bool, true, false}
use mathlib.Core.Path.{◌≡◌, refl, sym, subst, ◌∙◌}
use Prim.Native.Nat.{ℕ, ◌+◌, ◌≤◌, ◌<◌}
use native.Mathlib.Omega.{arith}
use borrow.Author.Tests.{eqb-true, ltb-true, ltb-false, not-false}
use lib.Dec.{eqb, ltb}
use Rattle.words_bounded.specs.Bounded.{within}
use Rattle.words_bounded.proofs.Tests.{clash, both, within_yes}
use Rattle.text_keys.specs.Keys.{rows, row_at, same, range}
use Rattle.text_keys.specs.declared.Key.{Key}
use Rattle.text_keys.specs.declared.Key.TheVariants as key
use Rattle.text_keys.proofs.Table.{same_is}
use Rattle.text_lines.specs.declared.Entry.{Entry}
use Rattle.text_order.specs.Order.{after, missing, among, in_order}
use Rattle.text_order.specs.declared.Kind.TheVariants.{Sheet}
use Rattle.text_order.proofs.Standing.{missing_more, stand_first, stand_chain, stand_after, among_one}
use Rattle.text_order.proofs.Heads.{optional, optional-each, optional-next, head}
use Rattle.text_place.specs.Places.{start, run_of, moved}
use Rattle.text_place.specs.declared.Place.{Place}
use Rattle.text_ranges.specs.Ranges.{outside}
use Rattle.text_ranges.proofs.Ranging.{range-own}
use Rattle.text_ranges.proofs.Accepting.{Accepted, accepted_fewer}
use Rattle.text_readback.proofs.Runs.{place_at}

unfoldable pub had_of : Key → ℕ → ℕ → ℕ
had_of key.Cells run chains = 0
had_of key.Taps run chains = 0
had_of key.Chains run chains = 0
had_of key.Chain run chains = run
had_of key.Invert run chains = chains
had_of key.Window run chains = chains
had_of key.Depth run chains = chains
had_of key.Slice run chains = chains
had_of key.Stop run chains = chains
had_of key.Slices run chains = chains
had_of key.Seed run chains = chains

unfoldable pub had : Place → ℕ
had p = had_of p.last p.run p.chains

unfoldable pub is_chain : Key → ℕ
is_chain k = elim (same k key.Chain) [ true ↦ 1 | false ↦ 0 ]

pub record Held (p : Place) : Type 0 where
  pub heads : head p.last ≡ true
  pub first : p.run ≡ 0 → p.last ≡ key.Cells
  pub counted : had p ≤ p.chains
  pub some : same p.last key.Chains ≡ true → 1 ≤ p.chains

pub held_start : Held start
unfolding head among same had had_of
held_start = record { heads = refl; first = λ z. refl; counted = omega arith; some = λ e. absurd (clash false e refl) }

pub record Stepped (p : Place) (k : Key) (v : ℕ) : Type 0 where
  pub held : Held (moved p k v)
  pub more : had (moved p k v) ≡ had p + is_chain k

module _ (r c d v : ℕ) where
  cells_step : Stepped (place_at key.Cells r c d) key.Cells v
  unfolding head among same had had_of is_chain moved
  cells_step = record { held = record { heads = refl; first = λ z. refl; counted = omega arith; some = λ e. absurd (clash false e refl) }; more = omega arith }

  taps_step : Stepped (place_at key.Cells r c d) key.Taps v
  unfolding head among same had had_of is_chain moved
  taps_step = record { held = record { heads = refl; first = λ z. absurd (omega arith); counted = omega arith; some = λ e. absurd (clash false e refl) }; more = omega arith }

  chains_step : 1 ≤ v → Stepped (place_at key.Taps r c d) key.Chains v
  unfolding head among same had had_of is_chain moved
  chains_step h = record { held = record { heads = refl; first = λ z. absurd (omega arith); counted = omega arith; some = λ e. h }; more = omega arith }

  chain_first : 1 ≤ d → Stepped (place_at key.Chains r c d) key.Chain v
  unfolding head among same had had_of is_chain moved run_of
  chain_first h = record { held = record { heads = refl; first = λ z. absurd (omega arith); counted = h; some = λ e. absurd (clash false e refl) }; more = omega arith }

  chain_step : r < d → Stepped (place_at key.Chain r c d) key.Chain v
  unfolding head among same had had_of is_chain moved run_of
  chain_step h = record { held = record { heads = refl; first = λ z. absurd (omega arith); counted = omega arith; some = λ e. absurd (clash false e refl) }; more = omega arith }

  -- A line behind the chain lines.
  optional-step : (j k : Key) → optional k ≡ true → had (place_at j r c d) ≡ d → Stepped (place_at j r c d) k v
  unfolding head among same had had_of is_chain moved
  optional-step j k o h =
      optional-each (λ i. Stepped (place_at j r c d) i v)
      (record { held = record { heads = refl; first = λ z. absurd (omega arith); counted = omega arith; some = λ e. absurd (clash false e refl) }; more = omega arith })
      (record { held = record { heads = refl; first = λ z. absurd (omega arith); counted = omega arith; some = λ e. absurd (clash false e refl) }; more = omega arith })
      k o

-- After all chain lines.
all_chains : (r c d : ℕ) → missing (place_at key.Chain r c d) ≡ false → Held (place_at key.Chain r c d) → r ≡ d
unfolding had had_of same
all_chains r c d m h = omega (arith, ltb-false r d (sym (missing_more (place_at key.Chain r c d) refl) ∙ m), h.counted)

after-steps : (j k : Key) (r c d v : ℕ) → among k (after Sheet j) ≡ true → head k ≡ true → missing (place_at j r c d) ≡ false → Held (place_at j r c d) → outside (place_at j r c d) (range k) v ≡ false → Stepped (place_at j r c d) k v
unfolding after head optional among same outside range row_at rows had had_of
after-steps key.Cells k r c d v a h m i o = rw (among_one k key.Taps a) (taps_step r c d v)
after-steps key.Taps k r c d v a h m i o =
    let e = among_one k key.Chains a in
    rw e (chains_step r c d v (within_yes 1 64 v (not-false (within 1 64 v) (rw e at o))).0)
after-steps key.Chains k r c d v a h m i o = rw (among_one k key.Chain a) (chain_first r c d v (i.some refl))
after-steps key.Chain k r c d v a h m i o = optional-step r c d v key.Chain k (optional-next key.Chain k refl a h) (all_chains r c d m i)
after-steps key.Invert k r c d v a h m i o = optional-step r c d v key.Invert k (optional-next key.Invert k refl a h) refl
after-steps key.Window k r c d v a h m i o = optional-step r c d v key.Window k (optional-next key.Window k refl a h) refl
after-steps key.Depth k r c d v a h m i o = absurd (clash false i.heads refl)
after-steps key.Slice k r c d v a h m i o = absurd (clash false i.heads refl)
after-steps key.Stop k r c d v a h m i o = absurd (clash false i.heads refl)
after-steps key.Slices k r c d v a h m i o = absurd (clash false i.heads refl)
after-steps key.Seed k r c d v a h m i o = absurd (clash false i.heads refl)

last_chain : (p : Place) → missing p ≡ true → (p.last ≡ key.Chain) × (p.run < p.chains)
unfolding missing
last_chain p m = let b = both (same p.last key.Chain) (ltb p.run p.chains) m in (same_is p.last key.Chain b.0, ltb-true p.run p.chains b.1)

module _ (p : Place) (i : Held p) where
  pub accepted_steps : (e : Entry) → Accepted Sheet p e → head e.key ≡ true → Stepped p e.key e.first
  unfolding in_order
  accepted_steps e a h = go (eqb p.run 0) refl (missing p) refl
    where
      go : (x : Bool) → eqb p.run 0 ≡ x → (y : Bool) → missing p ≡ y → Stepped p e.key e.first
      go true z y m = rw (among_one e.key key.Cells (rw (stand_first p Sheet z) at a.order)) (subst (λ j. Stepped (place_at j p.run p.cells p.chains) key.Cells e.first) (sym (i.first (eqb-true p.run 0 z))) (cells_step p.run p.cells p.chains e.first))
      go false z true m =
          let l = last_chain p m in
          rw (among_one e.key key.Chain (rw (stand_chain p Sheet z m) at a.order)) (subst (λ j. Stepped (place_at j p.run p.cells p.chains) key.Chain e.first) (sym l.0) (chain_step p.run p.cells p.chains e.first l.1))
      go false z false m =
          after-steps p.last e.key p.run p.cells p.chains e.first (rw (stand_after p Sheet z m) at a.order) h m i
          (sym (range-own p e.key e.first (accepted_fewer Sheet p e a)) ∙ a.ranges)

depth-after : (j : Key) (r c d : ℕ) → among key.Depth (after Sheet j) ≡ true → missing (place_at j r c d) ≡ false → Held (place_at j r c d) → d ≡ had (place_at j r c d)
unfolding after head among same had had_of
depth-after key.Cells r c d a m i = absurd (clash false a refl)
depth-after key.Taps r c d a m i = absurd (clash false a refl)
depth-after key.Chains r c d a m i = absurd (clash false a refl)
depth-after key.Chain r c d a m i = sym (all_chains r c d m i)
depth-after key.Invert r c d a m i = refl
depth-after key.Window r c d a m i = refl
depth-after key.Depth r c d a m i = refl
depth-after key.Slice r c d a m i = refl
depth-after key.Stop r c d a m i = refl
depth-after key.Slices r c d a m i = refl
depth-after key.Seed r c d a m i = refl

pub depth_counted : (p : Place) → Held p → in_order Sheet p key.Depth ≡ true → p.chains ≡ had p
unfolding in_order among same
depth_counted p i o = go (eqb p.run 0) refl (missing p) refl
  where
    go : (x : Bool) → eqb p.run 0 ≡ x → (y : Bool) → missing p ≡ y → p.chains ≡ had p
    go true z y m = absurd (clash false (rw (stand_first p Sheet z) at o) refl)
    go false z true m = absurd (clash false (rw (stand_chain p Sheet z m) at o) refl)
    go false z false m = depth-after p.last p.run p.cells p.chains (rw (stand_after p Sheet z m) at o) m i
