-- A space that is written at a place of a list: its vectors are held there.
--     held_load     the vectors that are read from there
--     held_store    the space that is written there
-- Assumes nothing.
use mathlib.Core.Path.{◌≡◌, sym, ap, ◌∙◌}
use mathlib.Core.List.{List, ◌++◌}
use Prim.Native.Nat.{ℕ, ◌+◌, ◌-◌, ◌≤◌, ◌<◌, min}
use native.Mathlib.Omega.{arith}
use lib.ListN.{get_or, length, take, drop, set, length-append, length-drop, length-set}
use lib.Seq.{take-take, take_at, get_or-set_same, get_or-set_other, get_or-take, length-take-le}
use borrow.Rule.Slice.PartMut.{put_mid, same_len_mid, mid_len, take_put}
use Rattle.std.proofs.lemmas.List.{take_min}
use Rattle.std.proofs.lemmas.List.Edits.{length-between}
use Rattle.std.proofs.lemmas.Slice.{between-put_mid}
use Rattle.std.specs.List.{between}
use Rattle.window_spaces.specs.Holding.{held_vectors, Holds}

-- f vectors are held, or 64 where f is more
held-part : (spaces : List ℕ) (a f : ℕ) → a + 66 ≤ length spaces → held_vectors spaces a f ≡ between (a + 2) (a + 2 + min f 64) spaces
unfolding held_vectors
held-part spaces a f h =
    let l : length (take 64 (drop (a + 2) spaces)) ≡ 64 = length-take-le 64 (drop (a + 2) spaces) (omega (arith, length-drop (a + 2) spaces)) in
    let e : a + 2 + min f 64 - (a + 2) ≡ min f 64 = omega arith in
    sym (take_min f (take 64 (drop (a + 2) spaces))) ∙ rw (l, e) (take-take (min f 64) 64 (drop (a + 2) spaces) (omega arith))

-- so are they in an array of 64
front : (vs : List ℕ) (f : ℕ) → length vs ≡ 64 → take f vs ≡ take (min f 64) vs
front vs f l = sym (take_min f vs) ∙ rw l

pub held_load : (spaces vs rest : List ℕ) (a f : ℕ) → a + 66 ≤ length spaces → length rest ≡ 64 → vs ≡ between (a + 2) (a + 2 + min f 64) spaces → take f (vs ++ drop (min f 64) rest) ≡ held_vectors spaces a f
held_load spaces vs rest a f h l e =
    let n : length vs ≡ min f 64 = ap length e ∙ length-between spaces (a + 2) (a + 2 + min f 64) (omega arith) ∙ omega arith in
    front (vs ++ drop (min f 64) rest) f (omega (arith, length-append vs (drop (min f 64) rest), length-drop (min f 64) rest)) ∙ take_at vs (drop (min f 64) rest) (min f 64) n ∙ e ∙ sym (held-part spaces a f h)

module _ (old new vs : List ℕ) (a x f : ℕ) (h : a + 66 ≤ length old) (l : length vs ≡ 64) (e : new ≡ take (min f 64) vs) where
  abbrev k : ℕ
  k = a + 2 + min f 64 - (a + 2)

  abbrev zs : List ℕ
  zs = set (set old a x) (a + 1) f

  abbrev ws : List ℕ
  ws = put_mid (a + 2) k zs new

  length-zs : length zs ≡ length old
  length-zs = simp length-set

  length-new : length new ≡ min f 64
  length-new = ap length e ∙ length-take-le (min f 64) vs (omega arith)

  length-ws : length ws ≡ length old
  length-ws = same_len_mid (a + 2) k zs new (omega (arith, length-new, mid_len (a + 2) (a + 2 + min f 64) zs (omega (arith, length-zs)))) ∙ length-zs

  before : (i : ℕ) → i < a + 2 → get_or ws i 0 ≡ get_or zs i 0
  before i b = sym (get_or-take (a + 2) ws i 0 b) ∙ ap (λ (q : List ℕ). get_or q i 0) (take_put (a + 2) k zs new (omega (arith, length-zs))) ∙ get_or-take (a + 2) zs i 0 b

  pub held_store : Holds ws a x f (take f vs)
  held_store = record {
    lowest = before a (omega arith) ∙ get_or-set_other (set old a x) (a + 1) a f 0 (λ q. omega arith) ∙ get_or-set_same old a x 0 (omega arith);
    free = before (a + 1) (omega arith) ∙ get_or-set_same (set old a x) (a + 1) f 0 (simp length-set (omega arith));
    vectors = held-part ws a f (omega (arith, length-ws)) ∙ between-put_mid (a + 2) k zs new (a + 2 + min f 64) (omega (arith, length-zs)) (omega (arith, length-new)) ∙ e ∙ sym (front vs f l);
  }
