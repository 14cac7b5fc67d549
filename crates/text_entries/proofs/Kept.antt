-- The entries that are kept are those that were read (`entries_in`).
--     flat-length      three numbers an entry
--     kept_back        a list with space for all, in which no other number is a rank, keeps just them
-- Assumes nothing.
use mathlib.Core.Path.{◌≡◌, refl, ap, ◌∙◌}
use mathlib.Core.List.{List, [], ◌∷◌, ◌++◌, append-nil}
use Prim.Native.Nat.{ℕ, zero, suc, ◌*◌, ◌-◌, ◌≤◌}
use native.Mathlib.Omega.{arith}
use lib.ListN.{length, drop, replicate, length-replicate}
use lib.Seq.{sets}
use Rattle.text_keys.specs.Keys.{count, rank}
use Rattle.text_keys.proofs.Table.{placed}
use Rattle.text_lines.specs.Form.{entry}
use Rattle.text_lines.specs.declared.Entry.{Entry}
use Rattle.text_write_bytes.proofs.Storing.{sets-front}
use Rattle.text_entries.specs.Flat.{flat, entries_in}
use Rattle.text_entries.proofs.Picking.{entry_in}

pub flat-length : (es : List Entry) → length (flat es) ≡ 3 * length es
unfolding flat
flat-length [] = refl
flat-length (e ∷ es) = let h = flat-length es in omega arith

flat-front : (es : List Entry) (l : List ℕ) → entries_in (flat es ++ l) ≡ es ++ entries_in l
unfolding flat
flat-front [] l = refl
flat-front (e ∷ es) l =
    entry_in (rank e.key) e.first e.second (flat es ++ l) (placed e.key).within
    ∙ ap (λ k. entry k e.first e.second ∷ entries_in (flat es ++ l)) (placed e.key).key
    ∙ ap (λ (x : List Entry). e ∷ x) (flat-front es l)

none_kept : (n : ℕ) → entries_in (replicate n count) ≡ []
unfolding entries_in
none_kept zero = refl
none_kept (suc zero) = refl
none_kept (suc (suc zero)) = refl
none_kept (suc (suc (suc n))) = none_kept n

drop-replicate : (m n : ℕ) → drop m (replicate n count) ≡ replicate (n - m) count
drop-replicate zero n = let e : n - 0 ≡ n = omega arith in rw e
drop-replicate (suc m) zero = let e : 0 - suc m ≡ 0 = omega arith in rw e
drop-replicate (suc m) (suc n) = let e : suc n - suc m ≡ n - m = omega arith in rw e (drop-replicate m n)

pub kept_back : (n : ℕ) (es : List Entry) → 3 * length es ≤ n → entries_in (sets (replicate n count) 0 (flat es)) ≡ es
kept_back n es h =
    let m = 3 * length es in
    let f : length (flat es) ≡ m = flat-length es in
    ap entries_in (sets-front (flat es) (replicate n count) m f (rw (length-replicate n count) h))
    ∙ flat-front es (drop m (replicate n count))
    ∙ ap (λ (l : List ℕ). es ++ entries_in l) (drop-replicate m n)
    ∙ ap (λ (l : List Entry). es ++ l) (none_kept (n - m))
    ∙ append-nil es
