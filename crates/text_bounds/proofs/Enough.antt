-- Only the first `enough` bytes of a text decide how it is read (`reading_of`): every accepted line takes its bytes from those that may still come, and a line of more bytes than any key allows is refused as one without a line feed is.
--     cut_at b t        the text of the first b bytes of t
--     split_cut        so it is split
--     long_refused     a line of more bytes than any key allows is refused for its form
--     accepted_short   so an accepted one has fewer
--     enough-reads     the first `enough` bytes are read as the whole is
-- Assumes nothing.
use Rattle.std.specs.Prelude.{Err, None, Option, Some}
use mathlib.Core.Bool.{Bool, true, false}
use mathlib.Core.Logic.{⊎_elim}
use mathlib.Core.Path.{◌≡◌, refl, sym, ap, ◌∙◌}
use mathlib.Core.List.{List, [], ◌∷◌}
use Prim.Native.Nat.{ℕ, zero, suc, ◌+◌, ◌-◌, ◌≤◌, ◌<◌}
use native.Mathlib.Omega.{arith}
use borrow.Author.Tests.{lt-ltb, le-ltb, leb-true}
use lib.Dec.{eqb, ltb, leb}
use lib.ListN.{length, take}
use lib.Seq.{length-take-le}
use Rattle.words_bounded.proofs.Tests.{lt_or_le}
use Rattle.text_keys.specs.Keys.{rows, row_at, longest}
use Rattle.text_keys.specs.declared.Key.{Key}
use Rattle.text_keys.specs.declared.LineCause.TheVariants.{Form}
use Rattle.text_keys.proofs.Table.{every, every_key}
use Rattle.text_key_of.specs.Begins.{key_of}
use Rattle.text_lines.specs.Form.{formed}
use Rattle.text_lines.specs.declared.Entry.{Entry}
use Rattle.text_lines.specs.declared.Line.{Line}
use Rattle.text_lines.specs.declared.Line.TheVariants as lines
use Rattle.text_lines.proofs.Values.{keyed_long, formed_known, formed_unknown}
use Rattle.text_split.specs.Text.{Text, line, rest, joined, split}
use Rattle.text_order.specs.declared.Kind.{Kind}
use Rattle.text_order.specs.declared.Kind.TheVariants.{Sheet, SeedList}
use Rattle.text_place.specs.Places.{start, moved}
use Rattle.text_place.specs.declared.Place.{Place}
use Rattle.text_ranges.specs.Ranges.{saying}
use Rattle.text_ranges.proofs.Ranging.{saying_refused}
use Rattle.text_ranges.proofs.Accepting.{refused_said, line_accepted}
use Rattle.text_ending.specs.Ending.{refused_at}
use Rattle.text_reading.specs.Reading.{Reading, stops, told, onward, reading, reading_of}
use Rattle.text_bounds.specs.Bounds.{total, longest_of, longest_line, enough}
use Rattle.text_bounds.proofs.Ahead.{Sound, sound_start, sound_step, ahead, ahead_step, ahead_start}

-- The text of the first b bytes.
unfoldable cut_at : ℕ → Text → Text
cut_at b (rest o) = rest (take b o)
cut_at b (line l t) = elim (ltb (length l) b) [ true ↦ line l (cut_at (b - (length l + 1)) t) | false ↦ rest (take b l) ]

cut_line : (b : ℕ) (l : List ℕ) (t : Text) → length l < b → cut_at b (line l t) ≡ line l (cut_at (b - (length l + 1)) t)
unfolding cut_at
cut_line b l t h = rw (lt-ltb (length l) b h, cut_at)

cut_inside : (b : ℕ) (l : List ℕ) (t : Text) → b ≤ length l → cut_at b (line l t) ≡ rest (take b l)
unfolding cut_at
cut_inside b l t h = rw (le-ltb (length l) b h, cut_at)

cut_none : (t : Text) → cut_at 0 t ≡ rest []
unfolding cut_at
cut_none (rest o) = refl
cut_none (line l t) = cut_inside 0 l t (omega arith)

cut_joined : (c b : ℕ) (t : Text) → cut_at (suc b) (joined c t) ≡ joined c (cut_at b t)
unfolding cut_at
cut_joined c b (rest o) = refl
cut_joined c b (line l t) = ⊎_elim inside outside (lt_or_le (length l) b)
  where
    inside : length l < b → cut_at (suc b) (line (c ∷ l) t) ≡ joined c (cut_at b (line l t))
    inside h =
        let m : suc b - (suc (length l) + 1) ≡ b - (length l + 1) = omega arith in
        cut_line (suc b) (c ∷ l) t (omega arith) ∙ ap (λ k. line (c ∷ l) (cut_at k t)) m ∙ sym (ap (joined c) (cut_line b l t h))

    outside : b ≤ length l → cut_at (suc b) (line (c ∷ l) t) ≡ joined c (cut_at b (line l t))
    outside h = cut_inside (suc b) (c ∷ l) t (omega arith) ∙ sym (ap (joined c) (cut_inside b l t h))

split_cut : (b : ℕ) (s : List ℕ) → split (take b s) ≡ cut_at b (split s)
unfolding split cut_at
split_cut zero s = sym (cut_none (split s))
split_cut (suc b) [] = refl
split_cut (suc b) (c ∷ s) = go (eqb c 10) (split_cut b s)
  where
    go : (x : Bool) → split (take b s) ≡ cut_at b (split s) → elim x [ true ↦ line [] (split (take b s)) | false ↦ joined c (split (take b s)) ] ≡ cut_at (suc b) (elim x [ true ↦ line [] (split s) | false ↦ joined c (split s) ])
    go true ih = ap (line []) ih ∙ sym (cut_line (suc b) [] (split s) (omega arith) ∙ ap (λ k. line [] (cut_at k (split s))) (let m : suc b - (0 + 1) ≡ b = omega arith in m))
    go false ih = ap (joined c) ih ∙ sym (cut_joined c b (split s))

-- ---- lines that are too long

all_longest : every (λ r. leb r.longest longest_line) rows ≡ true
unfolding every rows longest_line longest_of
all_longest = refl

longest-most : (k : Key) → longest k ≤ longest_line
unfolding longest row_at
longest-most k = leb-true (longest k) longest_line (every_key (λ r. leb r.longest longest_line) all_longest k)

module _ (kind : Kind) (p : Place) (l : List ℕ) (h : longest_line ≤ length l) where
  long_refused : saying kind p l ≡ lines.Refused Form
  long_refused = saying_refused kind p l Form (go (key_of rows l) refl)
    where
      go : (n : Option Key) → key_of rows l ≡ n → formed p.chains l ≡ lines.Refused Form
      go None e = formed_unknown p.chains l e
      go (Some k) e = formed_known p.chains k l e ∙ keyed_long p.chains k l (let f = longest-most k in omega arith)

  long_onward : (n : ℕ) (next : Entry → Reading) → onward (saying kind p l) next n ≡ stops (Err (refused_at Form n))
  long_onward n next = rw long_refused

accepted_short : (kind : Kind) (p : Place) (l : List ℕ) (e : Entry) → saying kind p l ≡ lines.Said e → length l < longest_line
accepted_short kind p l e t = ⊎_elim (λ h. h) (λ h. absurd (refused_said Form e (sym (long_refused kind p l h) ∙ t))) (lt_or_le (length l) longest_line)

-- ---- the bytes that may still decide

module _ (kind : Kind) where
  -- All that may still come, and one byte more than a line can have.
  abbrev room : Place → ℕ
  room p = ahead (λ k. longest_line) kind p + (longest_line + 1)

  unended : (p : Place) (n : ℕ) (o : List ℕ) → 0 < length o → reading kind p n (rest o) ≡ stops (Err (refused_at Form n))
  unfolding reading
  unended p n [] h = absurd (omega arith)
  unended p n (c ∷ o) h = refl

  module _ (p : Place) (l : List ℕ) (t : Text) (n b : ℕ) (s : Sound p) (h : room p ≤ b)
      (ih : (q : Place) (m c : ℕ) → Sound q → room q ≤ c → reading kind q m (cut_at c t) ≡ reading kind q m t) where
    -- What follows an accepted line is read alike; a refused line is refused in both.
    onward_alike : (a : Line) → saying kind p l ≡ a → length l < b
        → onward a (λ e. reading kind (moved p e.key e.first) (n + 1) (cut_at (b - (length l + 1)) t)) n ≡ onward a (λ e. reading kind (moved p e.key e.first) (n + 1) t) n
    onward_alike (lines.Refused c) d g = refl
    onward_alike (lines.Said e) d g =
        let a = line_accepted kind p e l d in
        let f = ahead_step (λ k. longest_line) kind p e s a in
        let m = accepted_short kind p l e d in
        ap (told e) (ih (moved p e.key e.first) (n + 1) (b - (length l + 1)) (sound_step kind p e a) (omega arith))

    line_alike : reading kind p n (cut_at b (line l t)) ≡ reading kind p n (line l t)
    unfolding reading
    line_alike = ⊎_elim inside outside (lt_or_le (length l) b)
      where
        inside : length l < b → reading kind p n (cut_at b (line l t)) ≡ reading kind p n (line l t)
        inside g = ap (reading kind p n) (cut_line b l t g) ∙ onward_alike (saying kind p l) refl g

        outside : b ≤ length l → reading kind p n (cut_at b (line l t)) ≡ reading kind p n (line l t)
        outside g =
            let m : 0 < length (take b l) = rw (length-take-le b l g) (omega arith) in
            ap (reading kind p n) (cut_inside b l t g) ∙ unended p n (take b l) m ∙ sym (long_onward kind p l (omega arith) n _)

  cut_reads : (t : Text) (p : Place) (n b : ℕ) → Sound p → room p ≤ b → reading kind p n (cut_at b t) ≡ reading kind p n t
  unfolding reading cut_at
  cut_reads (rest []) p n zero s h = refl
  cut_reads (rest []) p n (suc b) s h = refl
  cut_reads (rest (c ∷ o)) p n zero s h = absurd (omega arith)
  cut_reads (rest (c ∷ o)) p n (suc b) s h = refl
  cut_reads (line l t) p n b s h = line_alike p l t n b s h (λ q m c. cut_reads t q m c)

  all_room : total (λ k. longest_line) kind + (longest_line + 1) ≤ enough → (s : List ℕ) → reading_of kind (take enough s) ≡ reading_of kind s
  unfolding reading_of
  all_room h s = ap (reading kind start _) (split_cut enough s) ∙ cut_reads (split s) start _ enough sound_start (rw (ahead_start (λ k. longest_line) kind) h)

pub enough-reads : (kind : Kind) (s : List ℕ) → reading_of kind (take enough s) ≡ reading_of kind s
unfolding enough
enough-reads Sheet s = all_room Sheet (omega arith) s
enough-reads SeedList s = all_room SeedList (omega arith) s
