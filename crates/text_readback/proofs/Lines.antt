-- A line that is written is read back as what was written, at every place where it is accepted and whatever its key.
--     Reads kind p s es     the bytes s, at the place p, are read through and say the entries es
--     reads_end             nothing more, where the text may end
--     line_reads            a line that is written, in front of a text that is read through
-- Assumes nothing.
use Rattle.std.specs.Prelude.{Ok}
use mathlib.Core.Bool.{true}
use mathlib.Core.Path.{◌≡◌, ap, ◌∙◌}
use mathlib.Core.List.{List, [], ◌∷◌, ◌++◌, append_assoc}
use Prim.Native.Nat.{ℕ, ◌+◌}
use Rattle.text_keys.specs.Bytes.{feed}
use Rattle.text_keys.specs.Keys.{name, notation}
use Rattle.text_lines.specs.declared.Entry.{Entry}
use Rattle.text_lines.specs.declared.Line.{Line}
use Rattle.text_lines.specs.declared.Line.TheVariants.{Said}
use Rattle.text_split.specs.Text.{split}
use Rattle.text_order.specs.Order.{may_end}
use Rattle.text_order.specs.declared.Kind.{Kind}
use Rattle.text_place.specs.Places.{moved}
use Rattle.text_place.specs.declared.Place.{Place}
use Rattle.text_ranges.specs.Ranges.{saying}
use Rattle.text_ranges.proofs.Ranging.{saying-said, tested_right}
use Rattle.text_ranges.proofs.Accepting.{Accepted}
use Rattle.text_ending.proofs.Ends.{end_whole}
use Rattle.text_reading.specs.Reading.{stops, told, onward, reading}
use Rattle.text_readback.specs.Written.{value, written, Spelt}
use Rattle.text_readback.proofs.Splitting.{line_plain, split-feed}
use Rattle.text_readback.proofs.Forms.{formed_back}

abbrev pub Reads : Kind → Place → List ℕ → List Entry → Type 0
Reads kind p s es = (n : ℕ) → reading kind p n (split s) ≡ record { entries = es; end = Ok tt }

module _ (kind : Kind) (p : Place) where
  pub reads_end : may_end kind p ≡ true → Reads kind p [] []
  unfolding reading split
  reads_end r n = ap stops (end_whole kind p n r)

  module _ (e : Entry) where
    line_said : Accepted kind p e → Spelt p.chains (notation e.key) e → saying kind p (name e.key ++ value p.chains e) ≡ Said e
    line_said a s = saying-said kind p _ e (formed_back p.chains e s) ∙ tested_right kind p e a.order a.ranges

    pub line_text : (t : List ℕ) → written p.chains e ++ t ≡ (name e.key ++ value p.chains e) ++ (feed ∷ t)
    unfolding written
    line_text t = simp append_assoc

    pub line_reads : Accepted kind p e → Spelt p.chains (notation e.key) e → (t : List ℕ) (es : List Entry) → Reads kind (moved p e.key e.first) t es → Reads kind p (written p.chains e ++ t) (e ∷ es)
    unfolding reading
    line_reads a s t es r n =
        ap (λ x. reading kind p n (split x)) (line_text t)
        ∙ ap (reading kind p n) (split-feed (name e.key ++ value p.chains e) t (line_plain p.chains e))
        ∙ ap (λ (x : Line). onward x (λ f. reading kind (moved p f.key f.first) (n + 1) (split t)) n) (line_said a s)
        ∙ ap (told e) (r (n + 1))
