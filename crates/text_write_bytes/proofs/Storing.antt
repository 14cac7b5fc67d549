-- Texts stored into a buffer from a place on, as far as the buffer goes.
--     Left old at text out place rest      the rest, stored into out from place on, gives what the text gives in old from at on
--     sets-front       a text at the front of a buffer with space for it
--     stored_byte      one byte
--     bytes_go         the bytes from i on
--     join             a text stored in two parts
--     left-start, left-length, left-fits, left-next, left_end      a loop that stores a text part by part
--     filled, filled_short      a text that was counted first: stored where there is space, and refused where there is not
-- Assumes nothing.
use Rattle.std.specs.Prelude.{Err, Ok}
use mathlib.Core.Path.{◌≡◌, refl, sym, ap, ◌∙◌}
use mathlib.Core.List.{List, [], ◌∷◌, ◌++◌}
use Prim.Native.Nat.{ℕ, ◌+◌, ◌≤◌, ◌<◌, ◌^◌}
use native.Mathlib.Nat.{zero-add}
use native.Mathlib.Numerals.{add-one}
use native.Mathlib.Omega.{arith}
use lib.ListN.{length, get_or, drop, length-append}
use lib.Seq.{sets, sets-eq, length-sets, drop-cons}
use Rattle.words_bounded.proofs.Front.{sets-append}
use Rattle.refusal_causes.specs.Outcome.{fill}
use Rattle.refusal_causes.specs.declared.Cause.TheVariants.{NoSpace}
use Rattle.refusal_causes.proofs.Outcome.{outcome_parts, refused_parts, fill-whole, fill_short}
use Rattle.text_write_bytes.specs.Stored.{Stored}

pub sets-front : (text out : List ℕ) (n : ℕ) → length text ≡ n → n ≤ length out → sets out 0 text ≡ text ++ drop n out
sets-front text out n e h = rw (sets-eq text out 0 (omega arith), zero-add, e)

pub stored_byte : {old out : List ℕ} {place next b : ℕ} → next ≡ place + 1 → out ≡ sets old place (b ∷ []) → Stored old place (b ∷ []) out next
stored_byte p e = record { place = p; bytes = e }

pub bytes_go : (part : List ℕ) (i : ℕ) → i < length part → drop i part ≡ (get_or part i 0 ∷ []) ++ drop (i + 1) part
bytes_go part i h = rw (drop-cons part i 0 h, add-one)

pub join : {old mid out a b : List ℕ} {at m end : ℕ} → Stored old at a mid m → Stored mid m b out end → Stored old at (a ++ b) out end
join {old} {mid} {out} {a} {b} {at} {m} {end} s t =
    record { place = omega (arith, s.place, t.place, length-append a b); bytes = rw (sets-append a b old at, ← s.bytes, ← s.place) t.bytes }

pub record Left (old : List ℕ) (at : ℕ) (text out : List ℕ) (place : ℕ) (rest : List ℕ) : Type 0 where
  pub count : place + length rest ≡ at + length text
  pub whole : sets out place rest ≡ sets old at text

pub left-start : {old text : List ℕ} {at : ℕ} → Left old at text old at text
left-start = record { count = refl; whole = refl }

module _ {old text out rest : List ℕ} {at place : ℕ} (left : Left old at text out place rest) where
  pub left-length : length out ≡ length old
  left-length = sym (length-sets out place rest) ∙ ap length left.whole ∙ length-sets old at text

  pub left_end : rest ≡ [] → Stored old at text out place
  left_end e = record { place = omega (arith, left.count, ap length e); bytes = rw e at left.whole }

  pub left-fits : (a next : List ℕ) → rest ≡ a ++ next → at + length text < 2 ^ 64 → place + length a < 2 ^ 64
  left-fits a next e h = omega (arith, left.count, ap length e, length-append a next)

  pub left-next : {a next now : List ℕ} {end : ℕ} → rest ≡ a ++ next → Stored out place a now end → Left old at text now end next
  left-next {a} {next} {now} {end} e s =
      record {
        count = omega (arith, left.count, s.place, ap length e, length-append a next);
        whole = rw (s.bytes, s.place) (sym (sets-append a next out place) ∙ ap (sets out place) (sym e) ∙ left.whole);
      }

module _ {none text counted : List ℕ} {needed : ℕ} (count : Stored none 0 text counted needed) (out : List ℕ) where
  needed_is : length text ≡ needed
  needed_is = omega (arith, count.place)

  pub filled : {now : List ℕ} {end : ℕ} → needed ≤ length out → Stored out 0 text now end → (Ok needed ≡ (fill text out).answer) × (now ≡ (fill text out).buffer)
  filled h s =
      let p = outcome_parts (fill text out) (Ok needed) (text ++ drop needed out) (fill-whole text out needed needed_is h) in
      (p.0, s.bytes ∙ sets-front text out needed needed_is h ∙ p.1)

  pub filled_short : length out < needed → (Err (NoSpace needed) ≡ (fill text out).answer) × (out ≡ (fill text out).buffer)
  filled_short h = refused_parts (fill text out) (NoSpace needed) out (fill_short text out needed needed_is h)
