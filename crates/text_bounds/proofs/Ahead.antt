-- What may still come at a place, where a line with the key k counts c k: an accepted line takes its part of it.
--     Sound p              the run of the last key is none too long, and none only before the first line
--     sound_start, sound_step     the start is sound, and a place stays so after a line that is accepted
--     other_after                 a key other than the last that may stand there is one that may stand after its lines
--     later k ks           the keys behind the key k in ks
--     same_keys, same_keys_lem  the same keys in the same order
--     is_end ks js          the keys ks are the last of js
--     onwards, later_end   a key that may stand after another's lines is behind it in the sequence; computed for all keys
--     end_less             what the last of some keys come to
--     ahead c kind p       what may still come: the rest of the run, and the lines of later keys
--     take_one             one time of so many
--     ahead_step           an accepted line takes its part: `again` of the last key, `onward` of another
--     ahead_start          before the first line all may come
-- Assumes nothing.
use mathlib.Core.Bool.{Bool, true, false, not, ◌&&◌, ◌||◌}
use mathlib.Core.Path.{◌≡◌, refl, sym, ap, ap₂, ◌∙◌}
use mathlib.Core.List.{List, [], ◌∷◌}
use Prim.Native.Nat.{ℕ, zero, suc, ◌+◌, ◌*◌, ◌-◌, ◌≤◌}
use native.Mathlib.Nat.{not-suc-le-zero, mul-suc}
use native.Mathlib.Omega.{arith}
use borrow.Author.Tests.{eqb-true}
use lib.Dec.{eqb}
use Rattle.text_keys.specs.Keys.{rows, row_at, same, most}
use Rattle.text_keys.specs.declared.Key.{Key}
use Rattle.text_keys.specs.declared.Key.TheVariants as key
use Rattle.text_keys.proofs.Table.{every, every_of, and_left, and_right, same_is, same_self}
use Rattle.text_lines.specs.declared.Entry.{Entry}
use Rattle.text_order.specs.Order.{after, missing, among, in_order}
use Rattle.text_order.specs.declared.Kind.{Kind}
use Rattle.text_order.specs.declared.Kind.TheVariants.{Sheet, SeedList}
use Rattle.text_order.proofs.Standing.{missing-none, stand_first, stand_chain, stand_after, among_one}
use Rattle.text_place.specs.Places.{start, run_of, moved}
use Rattle.text_place.specs.declared.Place.{Place}
use Rattle.text_place.proofs.Runs.{run-here, run_none}
use Rattle.text_ranges.proofs.Accepting.{Accepted, accepted_fewer}
use Rattle.text_bounds.specs.Bounds.{sequence, sum_of, total}

pub record Sound (p : Place) : Type 0 where
  pub few : p.run ≤ most p.last
  pub first : p.run ≡ 0 → p.last ≡ key.Cells

pub sound_start : Sound start
sound_start = record { few = omega arith; first = λ z. refl }

module _ (kind : Kind) where
  pub sound_step : (p : Place) (e : Entry) → Accepted kind p e → Sound (moved p e.key e.first)
  unfolding moved
  sound_step p e a = record { few = let f = accepted_fewer kind p e a in omega arith; first = λ z. absurd (omega arith) }

  -- ---- which key an accepted line has: the last one, or one after it

  other_after : (p : Place) (k : Key) → Sound p → in_order kind p k ≡ true → same p.last k ≡ false → among k (after kind p.last) ≡ true
  unfolding in_order
  other_after p k s o d = go (eqb p.run 0) refl (missing p) refl
    where
      not_last : p.last ≡ k → ⊥
      not_last e = let t : same p.last k ≡ true = rw e (same_self k) in let z : ◌≡◌ {A = ℕ} 0 1 = cc in omega arith

      chained : missing p ≡ true → p.last ≡ key.Chain
      chained m = by (same p.last key.Chain) refl
        where
          by : (b : Bool) → same p.last key.Chain ≡ b → p.last ≡ key.Chain
          by true t = same_is p.last key.Chain t
          by false t = absurd (let y = sym (missing-none p t) ∙ m in let z : ◌≡◌ {A = ℕ} 0 1 = cc in omega arith)

      go : (a : Bool) → eqb p.run 0 ≡ a → (b : Bool) → missing p ≡ b → among k (after kind p.last) ≡ true
      go true z b m = absurd (not_last (s.first (eqb-true p.run 0 z) ∙ sym (among_one k key.Cells (rw (stand_first p kind z) at o))))
      go false z true m = absurd (not_last (chained m ∙ sym (among_one k key.Chain (rw (stand_chain p kind z m) at o))))
      go false z false m = rw (stand_after p kind z m) at o

-- ---- the order goes on in the sequence

-- The keys behind the key k.
unfoldable later : Key → List Key → List Key
later k [] = []
later k (j ∷ js) = elim (same j k) [ true ↦ js | false ↦ later k js ]

same_keys : List Key → List Key → Bool
same_keys [] [] = true
same_keys [] (k ∷ ks) = false
same_keys (j ∷ js) [] = false
same_keys (j ∷ js) (k ∷ ks) = same j k && same_keys js ks

same_keys_lem : (js ks : List Key) → same_keys js ks ≡ true → js ≡ ks
unfolding same_keys
same_keys_lem [] [] e = refl
same_keys_lem [] (k ∷ ks) e = cc
same_keys_lem (j ∷ js) [] e = cc
same_keys_lem (j ∷ js) (k ∷ ks) e = ap₂ (λ (x : Key) (l : List Key). x ∷ l) (same_is j k (and_left (same j k) (same_keys js ks) e)) (same_keys_lem js ks (and_right (same j k) (same_keys js ks) e))

-- These keys are the last of those.
is_end : List Key → List Key → Bool
is_end ks [] = same_keys ks []
is_end ks (j ∷ js) = same_keys ks (j ∷ js) || is_end ks js

-- A key that may stand after another, and those behind it, stand behind that one.
onwards : Kind → Key → Key → Bool
onwards kind j k = not (among k (after kind j)) || (same j k || is_end (k ∷ later k (sequence kind)) (later j (sequence kind)))

all_onwards : (kind : Kind) → every (λ q. every (λ r. onwards kind q.key r.key) rows) rows ≡ true
unfolding every rows onwards among same after later sequence same_keys is_end
all_onwards Sheet = refl
all_onwards SeedList = refl

later_end : (kind : Kind) (j k : Key) → among k (after kind j) ≡ true → same j k ≡ false → is_end (k ∷ later k (sequence kind)) (later j (sequence kind)) ≡ true
unfolding onwards
later_end kind j k a d = rw (a, d) at (every_of (onwards kind j) (every_of (λ i. every (λ r. onwards kind i r.key) rows) (all_onwards kind) j) k)

module _ (c : Key → ℕ) (kind : Kind) where
  end_less : (ks js : List Key) → is_end ks js ≡ true → sum_of c ks ≤ sum_of c js
  unfolding is_end sum_of
  end_less ks [] e = rw (same_keys_lem ks [] e) (omega arith)
  end_less ks (j ∷ js) e = go (same_keys ks (j ∷ js)) refl e (end_less ks js)
    where
      go : (b : Bool) → same_keys ks (j ∷ js) ≡ b → (b || is_end ks js) ≡ true → (is_end ks js ≡ true → sum_of c ks ≤ sum_of c js) → sum_of c ks ≤ c j * most j + sum_of c js
      go true t e ih = rw (same_keys_lem ks (j ∷ js) t) (omega arith)
      go false t e ih = let h = ih e in omega arith

  -- ---- what may still come

  pub ahead : Place → ℕ
  ahead p = sum_of c (later p.last (sequence kind)) + c p.last * (most p.last - p.run)

  take_one : (a m : ℕ) → 1 ≤ m → a + a * (m - 1) ≡ a * m
  take_one a zero h = absurd (not-suc-le-zero h)
  take_one a (suc m) h = let e : suc m - 1 ≡ m = omega arith in rw (e, mul-suc a m) (omega arith)

  module _ (p : Place) (e : Entry) (s : Sound p) (a : Accepted kind p e) where
    abbrev k : Key
    k = e.key

    again : same p.last k ≡ true → c k + ahead (moved p k e.first) ≤ ahead p
    unfolding ahead moved
    again t =
        let f = accepted_fewer kind p e a in
        let r = run-here p k t in
        let q : ahead p ≡ sum_of c (later k (sequence kind)) + c k * (most k - run_of p k) = ap (λ j. sum_of c (later j (sequence kind)) + c j * (most j - p.run)) (same_is p.last k t) ∙ ap (λ n. sum_of c (later k (sequence kind)) + c k * (most k - n)) (sym r) in
        let z : most k - (run_of p k + 1) ≡ most k - run_of p k - 1 = omega arith in
        let y = take_one (c k) (most k - run_of p k) (omega arith) in
        rw z (omega (arith, q, y))

    onward : same p.last k ≡ false → c k + ahead (moved p k e.first) ≤ ahead p
    unfolding ahead moved sum_of
    onward t =
        let f = accepted_fewer kind p e a in
        let y = take_one (c k) (most k) (omega arith) in
        let v = end_less _ _ (later_end kind p.last k (other_after kind p k s a.order t) t) in
        rw (run_none p k t) (omega arith)

    pub ahead_step : c k + ahead (moved p k e.first) ≤ ahead p
    ahead_step = go (same p.last k) refl
      where
        go : (b : Bool) → same p.last k ≡ b → c k + ahead (moved p k e.first) ≤ ahead p
        go true t = again t
        go false t = onward t

pub ahead_start : (c : Key → ℕ) (kind : Kind) → ahead c kind start ≡ total c kind
unfolding ahead total later sequence sum_of same most row_at rows
ahead_start c Sheet = omega arith
ahead_start c SeedList = omega arith
