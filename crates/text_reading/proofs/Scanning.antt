-- The loop of `scan`: what is left of the text, read from here on, fills the list as the whole does.
--     Left             what holds at the head of the loop
--     Ends             what a reading leaves
--     left-start       before the first line
--     left_long        the list keeps its length
--     left_end, left_unended, left_refused     no line is left, the last one has no line feed, or the line is refused
--     left_step        after a line that is accepted
-- Assumes nothing.
use Rattle.std.specs.Prelude.{Err, Result}
use Rattle.refusal_causes.specs.declared.Refusal.{Refusal}
use mathlib.Core.Path.{◌≡◌, refl, sym, ap, ◌∙◌}
use mathlib.Core.List.{List}
use Prim.Native.Nat.{ℕ, ◌+◌, ◌-◌, ◌≤◌, ◌<◌}
use native.Mathlib.Omega.{arith}
use lib.ListN.{length, take, drop, drop_of_length-le}
use lib.Seq.{sets, length-sets, drop-cons}
use Rattle.text_keys.specs.declared.LineCause.{LineCause}
use Rattle.text_keys.specs.declared.LineCause.TheVariants.{Form}
use Rattle.text_lines.specs.declared.Entry.{Entry}
use Rattle.text_lines.specs.declared.Line.{Line}
use Rattle.text_lines.specs.declared.Line.TheVariants as lines
use Rattle.text_split.specs.Text.{split, span}
use Rattle.text_split.proofs.Splitting.{split_line_at, split-rest_at}
use Rattle.text_entries.specs.Flat.{words, flat, past}
use Rattle.text_entries.proofs.Keeping.{flat_step}
use Rattle.text_place.specs.Places.{start, moved}
use Rattle.text_place.specs.declared.Place.{Place}
use Rattle.text_place.proofs.Runs.{run-most}
use Rattle.text_order.specs.declared.Kind.{Kind}
use Rattle.text_ranges.specs.Ranges.{saying}
use Rattle.text_ending.specs.Ending.{refused_at, refusal_of_line, end_of}
use Rattle.text_reading.specs.Reading.{Reading, stops, told, reading, reading_of}

pub record Left (kind : Kind) (s l₀ l : List ℕ) (p : Place) (n at i : ℕ) : Type 0 where
  pub here : at ≤ length s
  pub lines : n ≤ at + 1
  pub counted : p.run < n
  pub ends : (reading kind p n (split (drop at s))).end ≡ (reading_of kind s).end
  pub list : sets l i (flat (reading kind p n (split (drop at s))).entries) ≡ sets l₀ 0 (flat (reading_of kind s).entries)

abbrev pub Ends : Kind → List ℕ → List ℕ → List ℕ → Result (Unit {0}) Refusal → Type 0
Ends kind s l₀ l r = (r ≡ (reading_of kind s).end) × (l ≡ sets l₀ 0 (flat (reading_of kind s).entries))

module _ (kind : Kind) (s l₀ : List ℕ) where
  pub left-start : Left kind s l₀ l₀ start 1 0 0
  unfolding reading_of
  left-start = record { here = omega arith; lines = omega arith; counted = omega arith; ends = refl; list = refl }

  module _ (l : List ℕ) (p : Place) (n at i : ℕ) (w : Left kind s l₀ l p n at i) where
    pub left_long : length l ≡ length l₀
    left_long = sym (length-sets l i (flat (reading kind p n (split (drop at s))).entries)) ∙ ap length w.list ∙ length-sets l₀ 0 (flat (reading_of kind s).entries)

    left-stops : (r : Result (Unit {0}) Refusal) → reading kind p n (split (drop at s)) ≡ stops r → Ends kind s l₀ l r
    unfolding flat
    left-stops r e = (sym (ap (λ (x : Reading). x.end) e) ∙ w.ends, rw e at w.list)

    pub left_end : length s ≤ at → Ends kind s l₀ l (end_of kind p n)
    unfolding reading split
    left_end g = left-stops (end_of kind p n) (rw (drop_of_length-le s g))

    module _ (e : ℕ) (q : e ≡ at + span (drop at s)) where
      pub left_unended : at < length s → length s ≤ e → Ends kind s l₀ l (Err (refused_at Form n))
      unfolding reading
      left_unended g o = left-stops _ (rw (split-rest_at s at e q w.here o, drop-cons s at 0 g))

      module _ (o : e < length s) (said : Line) (d : said ≡ saying kind p (take (e - at) (drop at s))) where
        pub left_refused : (c : LineCause) → said ≡ lines.Refused c → Ends kind s l₀ l (Err (refusal_of_line said n))
        unfolding reading refusal_of_line
        left_refused c t = rw t (left-stops _ (rw (split_line_at s at e q o, ← d, t)))

        left-told : (f : Entry) → said ≡ lines.Said f → reading kind p n (split (drop at s)) ≡ told f (reading kind (moved p f.key f.first) (n + 1) (split (drop (e + 1) s)))
        unfolding reading
        left-told f t = rw (split_line_at s at e q o, ← d, t)

        pub left_step : (f : Entry) → said ≡ lines.Said f → Left kind s l₀ (sets l i (words f)) (moved p f.key f.first) (n + 1) (e + 1) (past (length l) i)
        unfolding moved
        left_step f t =
            let m = run-most p f.key in
            let r = left-told f t in
            record {
              here = omega arith;
              lines = let j = w.lines in omega arith;
              counted = let j = w.counted in omega arith;
              ends = sym (ap (λ (x : Reading). x.end) r) ∙ w.ends;
              list = sym (flat_step l i f _) ∙ (rw r at w.list);
            }
