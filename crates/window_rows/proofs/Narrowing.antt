-- Laws of what is left of a space under a condition.
--     narrows_none       nothing is asked
--     narrows_same, narrowed_same     two conditions that are one
--     narrows_then, narrowed_then     one condition after another
--     narrowed_stop      no member is left before the other is asked
--     narrowed_onward    one condition after another, where the first may leave none
--     narrowed_restrict  an equation
--     Toward         what is left to ask, asked from here, is the whole asked from the start
-- Assumes nothing.
use Rattle.std.specs.Prelude.{None, Option, Some}
use Rattle.std.proofs.lemmas.Option.{none-some}
use mathlib.Core.Path.{◌≡◌, refl, sym, ◌∙◌}
use mathlib.Core.Bool.{Bool, true, ◌&&◌}
use mathlib.Core.List.{List, ◌++◌}
use Prim.Native.Nat.{ℕ, ◌<◌}
use lib.Dec.{eqb}
use lib.ListN.{length, take}
use borrow.Author.Tests.{eqb-true, eq-eqb, ne_eqb}
use Rattle.words_bounded.proofs.Tests.{both, and_yes, clash, fails}
use Rattle.words_gf2.specs.Words.{odd}
use Rattle.search_space.specs.declared.Space.{Space}
use Rattle.search_pivot.specs.Pivot.{pivot, without}
use Rattle.search_restrict.specs.Restricted.{shifted, restricted}
use Rattle.search_space.proofs.Members.{among_is, is_among}
use Rattle.search_restrict.proofs.Restricting.{restricts, restricted_none, restricted-left, restrict_sound, restrict_complete, restrict_rising}
use Rattle.window_rows.specs.Narrowing.{Narrows, Narrowed, NarrowedIf}

pub narrows_none : (y : Space) (vs : List ℕ) → Narrows (λ s. true) y vs y vs
narrows_none y vs = record { sound = λ s m. (m, refl); complete = λ s m q. m; rising = λ r. r }

pub narrows_same : (P Q : ℕ → Bool) (y : Space) (vs : List ℕ) (z : Space) (ws : List ℕ) → ((s : ℕ) → P s ≡ Q s) → Narrows P y vs z ws → Narrows Q y vs z ws
narrows_same P Q y vs z ws e c = record {
  sound = λ s m. (let h = c.sound s m in (h.0, sym (e s) ∙ h.1));
  complete = λ s m q. c.complete s m (e s ∙ q);
  rising = c.rising;
}

pub narrowed_same : (P Q : ℕ → Bool) (y : Space) (vs : List ℕ) (z : Option Space) (out : List ℕ) → ((s : ℕ) → P s ≡ Q s) → Narrowed P y vs z out → Narrowed Q y vs z out
narrowed_same P Q y vs None out e c = λ s m. sym (e s) ∙ c s m
narrowed_same P Q y vs (Some z) out e c = narrows_same P Q y vs z (take z.free out) e c

pub narrows_then : (P Q : ℕ → Bool) (y : Space) (vs : List ℕ) (z : Space) (ws : List ℕ) (u : Space) (us : List ℕ)
    → Narrows P y vs z ws → Narrows Q z ws u us → Narrows (λ s. P s && Q s) y vs u us
narrows_then P Q y vs z ws u us c d = record {
  sound = λ s m. (let h = d.sound s m in let k = c.sound s h.0 in (k.0, and_yes (P s) (Q s) k.1 h.1));
  complete = λ s m q. (let h = both (P s) (Q s) q in d.complete s (c.complete s m h.0) h.1);
  rising = λ r. d.rising (c.rising r);
}

pub narrowed_then : (P Q : ℕ → Bool) (y : Space) (vs : List ℕ) (z : Space) (ws : List ℕ) (u : Option Space) (out : List ℕ)
    → Narrows P y vs z ws → Narrowed Q z ws u out → Narrowed (λ s. P s && Q s) y vs u out
narrowed_then P Q y vs z ws None out c d = λ s m.
    fails (P s && Q s) (λ t. let h = both (P s) (Q s) t in clash (Q s) h.1 (d s (c.complete s m h.0)))
narrowed_then P Q y vs z ws (Some u) out c d = narrows_then P Q y vs z ws u (take u.free out) c d

pub narrowed_stop : (P Q : ℕ → Bool) (y : Space) (vs out new : List ℕ) → Narrowed P y vs None out → Narrowed (λ s. P s && Q s) y vs None new
narrowed_stop P Q y vs out new c = λ s m. rw (c s m)

pub narrowed_onward : (P Q : ℕ → Bool) (y : Space) (vs : List ℕ) (z : Option Space) (l : List ℕ) (u : Option Space) (out : List ℕ)
    → Narrowed P y vs z l → NarrowedIf Q z l u out → Narrowed (λ s. P s && Q s) y vs u out
narrowed_onward P Q y vs None l None out c d = narrowed_stop P Q y vs l out c
narrowed_onward P Q y vs None l (Some u) out c d = absurd (none-some u (sym d.0))
narrowed_onward P Q y vs (Some z) l u out c d = narrowed_then P Q y vs z (take z.free l) u out c d

module _ (mask b : ℕ) (lt : b < 2) (y : Space) (vs : List ℕ) where
  abbrev low : ℕ
  low = shifted mask b y.lowest (pivot mask vs)

  narrows_restrict : odd low mask ≡ b → Narrows (λ s. eqb (odd s mask) b) y vs (record { lowest = low; free = length (without mask vs) }) (without mask vs)
  narrows_restrict r = record {
    sound = λ s m.
        (let k = restrict_sound mask b vs y.lowest r s (among_is (without mask vs) low s m) in
        (is_among vs y.lowest s k.0, eq-eqb (odd s mask) b k.1));
    complete = λ s m q.
        is_among (without mask vs) low s (restrict_complete mask b vs y.lowest lt s (among_is vs y.lowest s m) (eqb-true (odd s mask) b q)).1;
    rising = λ h. restrict_rising mask b vs y.lowest r h;
  }

  pub narrowed_restrict : (z : Option Space) (out rest : List ℕ) → z ≡ restricted mask b vs y → out ≡ without mask vs ++ rest → Narrowed (λ s. eqb (odd s mask) b) y vs z out
  narrowed_restrict None out rest e q = λ s m.
      ne_eqb (odd s mask) b (λ t. restricted_none mask b vs y (sym e) (restrict_complete mask b vs y.lowest lt s (among_is vs y.lowest s m) t).0)
  narrowed_restrict (Some z) out rest e q =
      let r = restricts mask b vs y z (sym e) in
      rw (restricted-left mask b vs y z out rest (sym e) q, r.0) (narrows_restrict r.1)

-- P is left to ask of y, Q is the whole asked of x
abbrev pub Toward : (ℕ → Bool) → Space → List ℕ → (ℕ → Bool) → Space → List ℕ → Type 0
Toward Q x us P y vs = (z : Option Space) (out : List ℕ) → Narrowed P y vs z out → Narrowed Q x us z out
