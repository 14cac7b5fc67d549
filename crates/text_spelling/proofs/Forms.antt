-- A line that is read by its form (`formed`) is as it would be written, whatever its key.
--     numbered-said, sliced-said      a number and a slice that are said for a key
--     characters-said      characters that are accepted: one for each chain, and they say a slice
--     valued_spelt         a value that is accepted is as it would be written
--     Spells               the line has the key of the entry, and behind its name the value
--     keyed_spelt, formed_spelt       so does a line with a key, and every line
--     line_spelt           it is the name of its key and the value, as they would be written
-- Assumes nothing.
use Rattle.std.specs.Prelude.{None, Option, Some}
use Rattle.machine_slices.specs.declared.TestSlice.{TestSlice}
use mathlib.Core.Logic.{⊎_elim}
use mathlib.Core.Path.{◌≡◌, refl, sym, ap, ◌∙◌}
use mathlib.Core.List.{List, ◌++◌}
use Prim.Native.Nat.{ℕ, ◌<◌}
use native.Mathlib.Omega.{arith}
use lib.ListN.{length, drop}
use Rattle.words_bounded.proofs.Tests.{lt_or_le, eq_or_not}
use Rattle.text_numbers.specs.Numbers.{number}
use Rattle.text_characters.specs.Characters.{slice_of}
use Rattle.text_keys.specs.Keys.{rows, name, notation, longest}
use Rattle.text_keys.specs.declared.Key.{Key}
use Rattle.text_keys.specs.declared.LineCause.TheVariants.{Form}
use Rattle.text_keys.specs.declared.Notation.{Notation}
use Rattle.text_keys.specs.declared.Notation.TheVariants.{Decimal, Hexadecimal, Chainwise}
use Rattle.text_key_of.specs.Begins.{key_of}
use Rattle.text_lines.specs.Form.{entry, numbered, sliced, characters, valued, keyed, formed}
use Rattle.text_lines.specs.declared.Entry.{Entry}
use Rattle.text_lines.specs.declared.Line.TheVariants.{Said}
use Rattle.text_lines.proofs.Values.{characters_many, characters-other, characters_right, valued_decimal, valued_hexadecimal, valued_chainwise, keyed_long, keyed-value, formed_known, formed_unknown}
use Rattle.text_ranges.proofs.Accepting.{refused_said, said_inj}
use Rattle.text_readback.specs.Written.{slice_in, value}
use Rattle.text_readback.proofs.Forms.{value_decimal, value_hexadecimal, value_chainwise}
use Rattle.text_spelling.proofs.Numerals.{number_spelt}
use Rattle.text_spelling.proofs.Slices.{slice_spelt}
use Rattle.text_key_of.proofs.Names.{name-front}

module _ (k : Key) (e : Entry) where
  numbered-said : (d : Option ℕ) → numbered k d ≡ Said e → (e.key ≡ k) × (d ≡ Some e.first)
  unfolding numbered
  numbered-said None q = absurd (refused_said Form e q)
  numbered-said (Some v) q = rw (sym (said_inj (entry k v 0) e q)) (refl, refl)

  sliced-said : (d : Option TestSlice) → sliced k d ≡ Said e → (e.key ≡ k) × (d ≡ Some (slice_in e))
  unfolding sliced
  sliced-said None q = absurd (refused_said Form e q)
  sliced-said (Some s) q = rw (sym (said_inj (entry k s.specified s.bits) e q)) (refl, refl)

  module _ (chains : ℕ) (l : List ℕ) where
    characters-said : characters chains k l ≡ Said e → (length l ≡ chains) × (sliced k (slice_of l) ≡ Said e)
    characters-said q =
        ⊎_elim
        (λ h. absurd (refused_said Form e (sym (characters_many chains k l h) ∙ q)))
        (λ h. ⊎_elim (λ r. (r, sym (characters_right chains k l h r) ∙ q)) (λ n. absurd (refused_said Form e (sym (characters-other chains k l h n) ∙ q))) (eq_or_not (length l) chains))
        (lt_or_le 64 (length l))

    valued_spelt : valued chains k l ≡ Said e → (e.key ≡ k) × (value chains e ≡ l)
    valued_spelt q = go (notation k) refl
      where
        go : (n : Notation) → notation k ≡ n → (e.key ≡ k) × (value chains e ≡ l)
        go Decimal d =
            let s = numbered-said (number 10 4 l) (sym (valued_decimal chains k l d) ∙ q) in
            (s.0, value_decimal chains e (ap notation s.0 ∙ d) ∙ number_spelt 10 (omega arith) 4 (omega arith) l e.first s.1)
        go Hexadecimal d =
            let s = numbered-said (number 16 16 l) (sym (valued_hexadecimal chains k l d) ∙ q) in
            (s.0, value_hexadecimal chains e (ap notation s.0 ∙ d) ∙ number_spelt 16 (omega arith) 16 (omega arith) l e.first s.1)
        go Chainwise d =
            let c = characters-said (sym (valued_chainwise chains k l d) ∙ q) in
            let s = sliced-said (slice_of l) c.1 in
            (s.0, value_chainwise chains e (ap notation s.0 ∙ d) ∙ rw (← c.0) (slice_spelt l (slice_in e) s.1))

module _ (chains : ℕ) (l : List ℕ) (e : Entry) where
  abbrev Spells : Type 0
  Spells = (key_of rows l ≡ Some e.key) × (value chains e ≡ drop (length (name e.key)) l)

  keyed_spelt : (k : Key) → key_of rows l ≡ Some k → keyed chains k l ≡ Said e → length l < longest k → Spells
  keyed_spelt k u q h =
      let s = valued_spelt k e chains (drop (length (name k)) l) (sym (keyed-value chains k l h) ∙ q) in
      let j = sym s.0 in
      (u ∙ ap Some j, s.1 ∙ ap (λ i. drop (length (name i)) l) j)

  formed_spelt : formed chains l ≡ Said e → Spells
  formed_spelt q = go (key_of rows l) refl
    where
      go : (n : Option Key) → key_of rows l ≡ n → Spells
      go None u = absurd (refused_said Form e (sym (formed_unknown chains l u) ∙ q))
      go (Some k) u =
          let r = sym (formed_known chains k l u) ∙ q in
          ⊎_elim (keyed_spelt k u r) (λ h. absurd (refused_said Form e (sym (keyed_long chains k l h) ∙ r))) (lt_or_le (length l) (longest k))

  pub line_spelt : formed chains l ≡ Said e → name e.key ++ value chains e ≡ l
  line_spelt q = let s = formed_spelt q in ap (λ v. name e.key ++ v) s.1 ∙ name-front e.key l s.0
