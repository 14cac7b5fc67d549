-- The first members of a space in rising blocks, before the whole is searched.
--     front_more       the lowest clear member of a front and that of the block behind it give that of the front with one vector more
--     front_lowest     a clear member of a front is below all members behind it: the lowest of the front is the lowest of all
-- Assumes nothing.
use Rattle.std.specs.Prelude.{None, Option, Some}
use mathlib.Core.Path.{◌≡◌, refl, sym, ap, ◌∙◌, subst}
use mathlib.Core.Logic.{inl, ⊎_elim}
use mathlib.Core.List.{List}
use Prim.Native.Nat.{ℕ, ◌+◌, ◌^◌, ◌≤◌, ◌<◌}
use native.Mathlib.Numerals.{add-one}
use native.Mathlib.Omega.{arith}
use lib.Bits.{bit_xor}
use lib.ListN.{get_or, length, take, drop, take-append-drop}
use lib.Seq.{get_or-take, take-take, length-take-le}
use Rattle.words_bounded.proofs.Tests.{lt_or_le}
use Rattle.search_members.specs.Members.{pick}
use Rattle.search_space.specs.Space.{Rising}
use Rattle.search_space.proofs.Members.{Among}
use Rattle.search_space.proofs.Blocks.{block_within, front-within, front-split}
use Rattle.search_members.proofs.Numbers.{pick-among, pick-front, pick_rises, among-pick}
use Rattle.search_found.specs.Lower.{lower}
use Rattle.search_found.specs.Search.{lowest_clear}
use Rattle.search_rows.specs.declared.Pattern.{Pattern}
use Rattle.search_found.proofs.Finding.{Reached, Finds, kept_on, reached_on, finds_lower, kept_state}
use Rattle.search_found.proofs.Passing.{Passes, finds_lowest_clear, lowest_clear_finds}

module _ (p : Pattern) (table : List ℕ) (m x : ℕ) (vs : List ℕ) where
  abbrev Front : ℕ → ℕ → Type 0
  Front d = Passes p table m x (take d vs)

  module _ (d : ℕ) (lt : d < length vs) where
    abbrev y : ℕ
    y = bit_xor x (get_or vs d 0)

    -- a block of the front with one vector more
    within : (s : ℕ) → Among y (take d vs) s → Among x (take (d + 1) vs) s
    within s a =
        let g : get_or (take (d + 1) vs) d 0 ≡ get_or vs d 0 = get_or-take (d + 1) vs d 0 (omega arith) in
        let t : take d (take (d + 1) vs) ≡ take d vs = take-take d (d + 1) vs (omega arith) in
        block_within (take (d + 1) vs) x d s (omega (arith, length-take-le (d + 1) vs (omega arith))) (rw (g, t) a)

    front : (s : ℕ) → Among x (take d vs) s → Among x (take (d + 1) vs) s
    front s a = front-within (take (d + 1) vs) x d s (let t : take d (take (d + 1) vs) ≡ take d vs = take-take d (d + 1) vs (omega arith) in rw t a)

    pub front_more : (found r : Option ℕ) → found ≡ lowest_clear p table m x (take d vs) → r ≡ lower found (lowest_clear p table m y (take d vs)) → r ≡ lowest_clear p table m x (take (d + 1) vs)
    front_more found r e q =
        let f = lowest_clear_finds p table m x (take d vs) None found e in
        let b = lowest_clear_finds p table m y (take d vs) found r q in
        finds_lowest_clear p table m x (take (d + 1) vs) None r (record {
          kept = kept_on (Front (d + 1)) (Passes p table m y (take d vs)) None found r (λ s h. (within s h.0, h.1))
              (kept_on (Front (d + 1)) (Front d) None None found (λ s h. (front s h.0, h.1)) (inl refl) f.kept) b.kept;
          all = λ s w h. ⊎_elim
              (λ a. reached_on (Passes p table m y (take d vs)) found r s b.kept (f.all s w (a, h.1)))
              (λ a. b.all s w (a, h.1))
              (front-split vs x d s lt (subst (λ (n : ℕ). Among x (take n vs) s) (add-one d) h.0));
        })

  pub front_lowest : Rising x 0 vs → (d : ℕ) → d ≤ length vs → (found : Option ℕ) (s : ℕ) → found ≡ Some s → found ≡ lowest_clear p table m x (take d vs) → found ≡ lowest_clear p table m x vs
  front_lowest rises d l found s c e =
      finds_lowest_clear p table m x vs None found (finds_lower (Passes p table m x vs) None found s k.0 (front-within vs x d s k.1.0, k.1.1) above c)
    where
      f : Finds (Front d) None found
      f = lowest_clear_finds p table m x (take d vs) None found e

      k : (s < 2 ^ 64) × Front d s
      k = kept_state (Front d) found s c f.kept

      n : length (take d vs) ≡ d
      n = length-take-le d vs l

      -- a number of the front
      inside : (i : ℕ) → i < 2 ^ d → pick x vs i ≡ pick x (take d vs) i
      inside i h = ap (λ (us : List ℕ). pick x us i) (sym (take-append-drop d vs)) ∙ pick-front (take d vs) (drop d vs) x i (rw n h)

      above : (t : ℕ) → t < 2 ^ 64 → Passes p table m x vs t → s ≤ t
      above t w h =
          let i = among-pick vs x t h.0 in
          let j = among-pick (take d vs) x s k.1.0 in
          let jd : j.0 < 2 ^ d = rw n at j.1 in
          let js : s ≡ pick x vs j.0 = j.2 ∙ sym (inside j.0 jd) in
          ⊎_elim
          (λ b. subst (λ (g : Option ℕ). Reached g t) c (f.all t w (subst (λ (u : ℕ). Among x (take d vs) u) (sym (i.2 ∙ inside i.0 b)) (pick-among (take d vs) x i.0), h.1)))
          (λ b. let o = pick_rises vs x 0 j.0 i.0 rises (omega arith) i.1 in let z = i.2 in omega arith)
          (lt_or_le i.0 (2 ^ d))
