-- A line whose key is known begins with the name of that key, and with no other name.
--     Found rs l k      the line l begins with the name of a row of rs that has the key k
--     key_found         so does a line whose key among the rows rs is k
--     starts-front      a line is the bytes with which it begins, and what follows them
--     key_starts, starts_key      a line has the key k where it begins with its name
--     name-front        such a line is the name and what follows it
--     starts-same       a line with the key j begins with the name of k where j is k, and only there
-- Assumes nothing.
use Rattle.std.specs.Prelude.{Some}
use mathlib.Core.Bool.{Bool, true, false}
use mathlib.Core.Path.{◌≡◌, refl, sym, ap, ap₂, ◌∙◌}
use mathlib.Core.List.{List, [], ◌∷◌, ◌++◌}
use Prim.Native.Nat.{ℕ, suc, ◌<◌}
use native.Mathlib.Omega.{arith}
use borrow.Author.Tests.{eqb-true}
use lib.Dec.{eqb}
use lib.ListN.{length, get_or, drop}
use Rattle.words_bounded.proofs.Tests.{both, alike}
use Rattle.text_keys.specs.Keys.{Row, rows, blank, rank, row_at, name, same}
use Rattle.text_keys.specs.declared.Key.{Key}
use Rattle.text_keys.proofs.Table.{rank_at, rows-count, same_is, same_self}
use Rattle.text_key_of.specs.Begins.{starts, key_of}
use Rattle.text_key_of.proofs.Apart.{key_back}

known_is : (j k : Key) → Some j ≡ Some k → j ≡ k
known_is j k e = cc

record Found (rs : List Row) (l : List ℕ) (k : Key) : Type 0 where
  at : ℕ
  inside : at < length rs
  key : (get_or rs at blank).key ≡ k
  begins : starts (get_or rs at blank).name l ≡ true

key_found : (rs : List Row) (l : List ℕ) (k : Key) → key_of rs l ≡ Some k → Found rs l k
unfolding key_of
key_found [] l k e = absurd (let z : ◌≡◌ {A = ℕ} 0 1 = cc in omega arith)
key_found (r ∷ rs) l k e = go (starts r.name l) refl e (key_found rs l k)
  where
    go : (b : Bool) → starts r.name l ≡ b → elim b [ true ↦ Some r.key | false ↦ key_of rs l ] ≡ Some k → (key_of rs l ≡ Some k → Found rs l k) → Found (r ∷ rs) l k
    go true s e ih = record { at = 0; inside = omega arith; key = cc; begins = s }
    go false s e ih = let f = ih e in record { at = suc f.at; inside = omega (arith, f.inside); key = f.key; begins = f.begins }

starts-front : (k l : List ℕ) → starts k l ≡ true → k ++ drop (length k) l ≡ l
unfolding starts
starts-front [] l s = refl
starts-front (a ∷ k) [] s = cc
starts-front (a ∷ k) (b ∷ l) s =
    let t = both (eqb a b) (starts k l) s in
    ap₂ (λ (x : ℕ) (y : List ℕ). x ∷ y) (eqb-true a b t.0) (starts-front k l t.1)

module _ (k : Key) (l : List ℕ) where
  key_starts : key_of rows l ≡ Some k → starts (name k) l ≡ true
  unfolding name row_at
  key_starts e =
      let f = key_found rows l k e in
      let r : rank k ≡ f.at = ap rank (sym f.key) ∙ rank_at f.at (rw rows-count at f.inside) in
      ap (λ i. starts (row_at i).name l) r ∙ f.begins

  pub name-front : key_of rows l ≡ Some k → name k ++ drop (length (name k)) l ≡ l
  name-front e = starts-front (name k) l (key_starts e)

  starts_key : starts (name k) l ≡ true → key_of rows l ≡ Some k
  starts_key s = ap (key_of rows) (sym (starts-front (name k) l s)) ∙ key_back k (drop (length (name k)) l)

pub starts-same : (j k : Key) (l : List ℕ) → key_of rows l ≡ Some j → starts (name k) l ≡ same j k
starts-same j k l e =
    alike (starts (name k) l) (same j k)
    (λ s. let q : j ≡ k = known_is j k (sym e ∙ starts_key k l s) in rw q (same_self k))
    (λ t. rw (← (same_is j k t)) (key_starts j l e))
