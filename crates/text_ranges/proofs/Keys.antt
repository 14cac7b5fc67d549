-- The key of an accepted line.
--     numbered_key, sliced_key, valued_key, keyed_key, formed_key     what is said for a key has that key
--     said-formed     an accepted line is read by its form as what it says
--     said-starts     it begins with the name of its key, and with no other name
-- Assumes nothing.
use Rattle.std.specs.Prelude.{None, Option, Some}
use Rattle.machine_slices.specs.declared.TestSlice.{TestSlice}
use mathlib.Core.Logic.{⊎_elim}
use mathlib.Core.Path.{◌≡◌, refl, sym, ap, ◌∙◌}
use mathlib.Core.List.{List}
use Prim.Native.Nat.{ℕ}
use lib.ListN.{length, drop}
use Rattle.words_bounded.proofs.Tests.{lt_or_le, eq_or_not}
use Rattle.text_numbers.specs.Numbers.{number}
use Rattle.text_characters.specs.Characters.{slice_of}
use Rattle.text_keys.specs.Keys.{rows, name, same, notation, longest}
use Rattle.text_keys.specs.declared.Key.{Key}
use Rattle.text_keys.specs.declared.LineCause.TheVariants.{Form}
use Rattle.text_keys.specs.declared.Notation.{Notation}
use Rattle.text_keys.specs.declared.Notation.TheVariants.{Decimal, Hexadecimal, Chainwise}
use Rattle.text_key_of.specs.Begins.{starts, key_of}
use Rattle.text_key_of.proofs.Names.{starts-same}
use Rattle.text_lines.specs.Form.{entry, numbered, sliced, characters, valued, keyed, formed}
use Rattle.text_lines.specs.declared.Entry.{Entry}
use Rattle.text_lines.specs.declared.Line.{Line}
use Rattle.text_lines.specs.declared.Line.TheVariants.{Said, Refused}
use Rattle.text_lines.proofs.Values.{characters_many, characters-other, characters_right, valued_decimal, valued_hexadecimal, valued_chainwise, keyed_long, keyed-value, formed_known, formed_unknown}
use Rattle.text_order.specs.declared.Kind.{Kind}
use Rattle.text_place.specs.declared.Place.{Place}
use Rattle.text_ranges.specs.Ranges.{saying}
use Rattle.text_ranges.proofs.Ranging.{saying-said, saying_refused}
use Rattle.text_ranges.proofs.Accepting.{refused_said, said_inj, tested_accepted}

module _ (k : Key) (e : Entry) where
  numbered_key : (d : Option ℕ) → numbered k d ≡ Said e → e.key ≡ k
  unfolding numbered
  numbered_key None q = absurd (refused_said Form e q)
  numbered_key (Some v) q = rw (sym (said_inj (entry k v 0) e q)) refl

  sliced_key : (d : Option TestSlice) → sliced k d ≡ Said e → e.key ≡ k
  unfolding sliced
  sliced_key None q = absurd (refused_said Form e q)
  sliced_key (Some s) q = rw (sym (said_inj (entry k s.specified s.bits) e q)) refl

  module _ (chains : ℕ) (l : List ℕ) where
    characters_key : characters chains k l ≡ Said e → e.key ≡ k
    characters_key q =
        ⊎_elim
        (λ h. absurd (refused_said Form e (sym (characters_many chains k l h) ∙ q)))
        (λ h. ⊎_elim (λ r. sliced_key (slice_of l) (sym (characters_right chains k l h r) ∙ q)) (λ n. absurd (refused_said Form e (sym (characters-other chains k l h n) ∙ q))) (eq_or_not (length l) chains))
        (lt_or_le 64 (length l))

    valued_key : valued chains k l ≡ Said e → e.key ≡ k
    valued_key q = go (notation k) refl
      where
        go : (n : Notation) → notation k ≡ n → e.key ≡ k
        go Decimal d = numbered_key (number 10 4 l) (sym (valued_decimal chains k l d) ∙ q)
        go Hexadecimal d = numbered_key (number 16 16 l) (sym (valued_hexadecimal chains k l d) ∙ q)
        go Chainwise d = characters_key (sym (valued_chainwise chains k l d) ∙ q)

  keyed_key : (chains : ℕ) (l : List ℕ) → keyed chains k l ≡ Said e → e.key ≡ k
  keyed_key chains l q =
      ⊎_elim
      (λ h. valued_key chains (drop (length (name k)) l) (sym (keyed-value chains k l h) ∙ q))
      (λ h. absurd (refused_said Form e (sym (keyed_long chains k l h) ∙ q)))
      (lt_or_le (length l) (longest k))

pub formed_key : (chains : ℕ) (l : List ℕ) (e : Entry) → formed chains l ≡ Said e → key_of rows l ≡ Some e.key
formed_key chains l e q = go (key_of rows l) refl
  where
    go : (n : Option Key) → key_of rows l ≡ n → key_of rows l ≡ Some e.key
    go None u = absurd (refused_said Form e (sym (formed_unknown chains l u) ∙ q))
    go (Some k) u = u ∙ ap Some (sym (keyed_key k e chains l (sym (formed_known chains k l u) ∙ q)))

module _ (kind : Kind) (p : Place) (l : List ℕ) (e : Entry) (s : saying kind p l ≡ Said e) where
  pub said-formed : formed p.chains l ≡ Said e
  said-formed = go (formed p.chains l) refl
    where
      go : (f : Line) → formed p.chains l ≡ f → formed p.chains l ≡ Said e
      go (Said f) q = q ∙ ap Said (tested_accepted kind p e f (sym (saying-said kind p l f q) ∙ s)).0
      go (Refused c) q = absurd (refused_said c e (sym (saying_refused kind p l c q) ∙ s))

  pub said-starts : (k : Key) → starts (name k) l ≡ same e.key k
  said-starts k = starts-same e.key k l (formed_key p.chains l e said-formed)
