-- A text that is read to its end: its entries stand in order, and its lines before a key are as those of its entries would be written.
--     Ordered kind p es          the entries es are accepted one after another from the place p on, and the text may end after them
--     written_before k p es       their lines as they would be written, before the first with the key k
--     Through kind k p t es      the entries es are in order, and the text t has their lines before the key k
--     written_key, written_line      with a line of the key k in front, and with another one
--     said-written      a line that is accepted is as it would be written
--     through_line, through_end, text_through      one line more, the end of a text, and every text that is read to its end
-- Assumes nothing.
use Rattle.std.specs.Prelude.{Ok}
use mathlib.Core.Bool.{Bool, true, false}
use mathlib.Core.Path.{◌≡◌, refl, sym, ap, ◌∙◌}
use mathlib.Core.List.{List, [], ◌∷◌, ◌++◌}
use Prim.Native.Nat.{ℕ, ◌+◌}
use Rattle.text_keys.specs.Bytes.{feed}
use Rattle.text_keys.specs.Keys.{name, same}
use Rattle.text_keys.specs.declared.Key.{Key}
use Rattle.text_key_of.specs.Begins.{starts}
use Rattle.text_lines.specs.declared.Entry.{Entry}
use Rattle.text_lines.specs.declared.Line.{Line}
use Rattle.text_lines.specs.declared.Line.TheVariants as lines
use Rattle.text_split.specs.Text.{Text, line, rest}
use Rattle.text_order.specs.Order.{may_end}
use Rattle.text_order.specs.declared.Kind.{Kind}
use Rattle.text_place.specs.Places.{moved}
use Rattle.text_place.specs.declared.Place.{Place}
use Rattle.text_ranges.specs.Ranges.{saying}
use Rattle.text_ranges.proofs.Accepting.{Accepted, line_accepted}
use Rattle.text_ranges.proofs.Keys.{said-formed, said-starts}
use Rattle.text_ending.specs.Ending.{end_of}
use Rattle.text_ending.proofs.Ends.{end_early, refused_whole}
use Rattle.text_reading.specs.Reading.{Reading, onward, reading}
use Rattle.text_readback.specs.Written.{written}
use Rattle.text_readback.proofs.Lines.{line_text}
use Rattle.text_readback.proofs.Heads.{before_key, before_line}
use Rattle.text_readback.specs.Before.{lines_before}
use Rattle.text_spelling.proofs.Forms.{line_spelt}

abbrev pub Ordered : Kind → Place → List Entry → Type 0
Ordered kind p [] = may_end kind p ≡ true
Ordered kind p (e ∷ es) = Accepted kind p e × Ordered kind (moved p e.key e.first) es

unfoldable pub written_before : Key → Place → List Entry → List ℕ
written_before k p [] = []
written_before k p (e ∷ es) = elim (same e.key k) [ true ↦ [] | false ↦ written p.chains e ++ written_before k (moved p e.key e.first) es ]

pub record Through (kind : Kind) (k : Key) (p : Place) (t : Text) (es : List Entry) : Type 0 where
  pub order : Ordered kind p es
  pub before : lines_before k t ≡ written_before k p es

module _ (k : Key) where
  module _ (p : Place) (e : Entry) (es : List Entry) where
    written_key : same e.key k ≡ true → written_before k p (e ∷ es) ≡ []
    unfolding written_before
    written_key s = rw (s, written_before)

    pub written_line : same e.key k ≡ false → written_before k p (e ∷ es) ≡ written p.chains e ++ written_before k (moved p e.key e.first) es
    unfolding written_before
    written_line s = rw (s, written_before)

module _ (kind : Kind) (k : Key) (p : Place) where
  module _ (l : List ℕ) (e : Entry) (s : saying kind p l ≡ lines.Said e) where
    said-written : (x : List ℕ) → l ++ (feed ∷ x) ≡ written p.chains e ++ x
    said-written x = ap (λ m. m ++ (feed ∷ x)) (sym (line_spelt p.chains l e (said-formed kind p l e s))) ∙ sym (line_text kind p e x)

    through_line : (t : Text) (es : List Entry) → Through kind k (moved p e.key e.first) t es → Through kind k p (line l t) (e ∷ es)
    through_line t es h = record { order = (line_accepted kind p e l s, h.order); before = go (same e.key k) refl }
      where
        begins : starts (name k) l ≡ same e.key k
        begins = said-starts kind p l e s k

        go : (b : Bool) → same e.key k ≡ b → lines_before k (line l t) ≡ written_before k p (e ∷ es)
        go true q = before_key k l t (begins ∙ q) ∙ sym (written_key k p e es q)
        go false q = before_line k l t (begins ∙ q) ∙ ap (λ x. l ++ (feed ∷ x)) h.before ∙ said-written _ ∙ sym (written_line k p e es q)

  through_end : (n : ℕ) → end_of kind p n ≡ Ok tt → Through kind k p (rest []) []
  unfolding lines_before written_before
  through_end n e = record { order = go (may_end kind p) refl; before = refl }
    where
      go : (b : Bool) → may_end kind p ≡ b → may_end kind p ≡ true
      go true m = m
      go false m = absurd (refused_whole _ (sym (end_early kind p n m) ∙ e))

pub text_through : (kind : Kind) (k : Key) (t : Text) (p : Place) (n : ℕ) → (reading kind p n t).end ≡ Ok tt → Through kind k p t (reading kind p n t).entries
unfolding reading
text_through kind k (rest []) p n e = through_end kind k p n e
text_through kind k (rest (b ∷ o)) p n e = absurd (refused_whole _ e)
text_through kind k (line l t) p n e = go (saying kind p l) refl e (λ f. text_through kind k t (moved p f.key f.first) (n + 1))
  where
    next : Entry → Reading
    next f = reading kind (moved p f.key f.first) (n + 1) t

    go : (a : Line) → saying kind p l ≡ a → (onward a next n).end ≡ Ok tt → ((f : Entry) → (next f).end ≡ Ok tt → Through kind k (moved p f.key f.first) t (next f).entries) → Through kind k p (line l t) (onward a next n).entries
    go (lines.Said f) s e ih = through_line kind k p l f s t (next f).entries (ih f e)
    go (lines.Refused c) s e ih = absurd (refused_whole _ e)
