-- The lines of a sheet before depth are read alike in front of a seed list's own lines.
--     before_key, before_line     the lines before a key, with a line of the key in front and with another one
--     plain t               no line of the text t has a line feed
--     split_plain           so it is with a text that was split
--     said_alike            a line before depth says the same in both kinds of text
--     line_alike            so it reads in front of a text that is read through
--     apart, picked-other, masks_more     what is picked of an entry in front
--     last_of d vs           the last of the numbers vs, or d where there is none
--     chains_moved          so it is with the chains of a place and the chains lines
--     stand_next            which keys may stand after a line that is no chain line
--     picked_slices         after depth there are slice lines only
--     Heading p t es        the entries es of the text t from the place p on, cut at depth: those before it, those behind it, the place where it stands, and the lines before it read in front of whatever a seed list goes on with there
--     at_depth, above_depth     with the depth line in front, and with a line before it
--     heading               so it is with every sheet that is read through
-- Assumes nothing.
use Rattle.std.specs.Prelude.{Ok}
use mathlib.Core.Bool.{Bool, true, false, not, ◌&&◌}
use mathlib.Core.Path.{◌≡◌, refl, sym, ap, subst, ◌∙◌}
use mathlib.Core.List.{List, [], ◌∷◌, ◌++◌, append_assoc}
use Prim.Native.Nat.{ℕ, ◌+◌}
use native.Mathlib.Omega.{arith}
use borrow.Author.Tests.{ne_eqb, not-true}
use lib.Dec.{eqb}
use lib.ListN.{length}
use Rattle.words_bounded.specs.Bounded.{any}
use Rattle.words_bounded.proofs.Tests.{clash, both}
use Rattle.text_keys.specs.Bytes.{feed}
use Rattle.text_keys.specs.Keys.{name, same}
use Rattle.text_keys.specs.declared.Key.{Key}
use Rattle.text_keys.specs.declared.Key.TheVariants as key
use Rattle.text_keys.proofs.Table.{same_is}
use Rattle.text_key_of.specs.Begins.{starts}
use Rattle.text_lines.specs.declared.Entry.{Entry}
use Rattle.text_lines.specs.declared.Line.{Line}
use Rattle.text_lines.specs.declared.Line.TheVariants as lines
use Rattle.text_entries.specs.Said.{picked, numbers_for, masks_of}
use Rattle.text_entries.specs.declared.Part.{Part}
use Rattle.text_split.specs.Text.{Text, line, rest, joined, split}
use Rattle.text_order.specs.Order.{after, may_stand, among, in_order}
use Rattle.text_order.specs.declared.Kind.{Kind}
use Rattle.text_order.specs.declared.Kind.TheVariants.{Sheet, SeedList}
use Rattle.text_order.proofs.Standing.{missing-none, stand_after, among_one}
use Rattle.text_order.proofs.Heads.{head, head-next, stop-next, head-ends}
use Rattle.text_place.specs.Places.{run_of, number_if, moved}
use Rattle.text_place.specs.declared.Place.{Place}
use Rattle.text_ranges.specs.Ranges.{saying}
use Rattle.text_ranges.proofs.Ranging.{saying-said, tested_right}
use Rattle.text_ranges.proofs.Accepting.{line_accepted}
use Rattle.text_ranges.proofs.Keys.{said-formed, said-starts}
use Rattle.text_ending.proofs.Ends.{end_early, refused_whole}
use Rattle.text_reading.specs.Reading.{told, onward, reading}
use Rattle.text_readback.specs.Before.{lines_before}
use Rattle.text_readback.proofs.Splitting.{is_feed, split-feed}
use Rattle.text_readback.proofs.Lines.{Reads}
use Rattle.text_readback.proofs.Chains.{had, is_chain, Held, accepted_steps, depth_counted}

module _ (k : Key) (l : List ℕ) (t : Text) where
  pub before_key : starts (name k) l ≡ true → lines_before k (line l t) ≡ []
  unfolding lines_before
  before_key s = rw (s, lines_before)

  pub before_line : starts (name k) l ≡ false → lines_before k (line l t) ≡ l ++ (feed ∷ lines_before k t)
  unfolding lines_before
  before_line s = rw (s, lines_before)

-- ---- lines have no line feed

unfoldable pub plain : Text → Bool
plain (rest o) = true
plain (line l t) = not (any is_feed l) && plain t

plain-joined : (b : ℕ) (t : Text) → is_feed b ≡ false → plain t ≡ true → plain (joined b t) ≡ true
unfolding plain any
plain-joined b (rest o) e h = refl
plain-joined b (line l t) e h = rw e h

pub split_plain : (s : List ℕ) → plain (split s) ≡ true
unfolding split plain any
split_plain [] = refl
split_plain (b ∷ s) = go (eqb b feed) refl (split_plain s)
  where
    go : (x : Bool) → eqb b feed ≡ x → plain (split s) ≡ true → plain (elim x [ true ↦ line [] (split s) | false ↦ joined b (split s) ]) ≡ true
    go true e h = h
    go false e h = plain-joined b (split s) e h

-- ---- one line

module _ (p : Place) (l : List ℕ) (e : Entry) (s : saying Sheet p l ≡ lines.Said e) where
  said_alike : in_order SeedList p e.key ≡ true → saying SeedList p l ≡ lines.Said e
  said_alike o = saying-said SeedList p l e (said-formed Sheet p l e s) ∙ tested_right SeedList p e o (line_accepted Sheet p e l s).ranges

  line_alike : in_order SeedList p e.key ≡ true → any is_feed l ≡ false → (x : List ℕ) (fs : List Entry) → Reads SeedList (moved p e.key e.first) x fs → Reads SeedList p (l ++ (feed ∷ x)) (e ∷ fs)
  unfolding reading
  line_alike o f x fs r n =
      ap (reading SeedList p n) (split-feed l x f)
      ∙ ap (λ (a : Line). onward a (λ g. reading SeedList (moved p g.key g.first) (n + 1) (split x)) n) (said_alike o)
      ∙ ap (told e) (r (n + 1))

-- ---- picking

apart : (j k : Key) (b : Bool) → head j ≡ b → head k ≡ not b → same j k ≡ false
apart j k b h g = go (same j k) refl
  where
    unlike : (c : Bool) → head j ≡ c → head j ≡ not c → ⊥
    unlike true x y = clash (head j) x y
    unlike false x y = clash (head j) y x

    go : (c : Bool) → same j k ≡ c → same j k ≡ false
    go true s = absurd (unlike b h (ap head (same_is j k s) ∙ g))
    go false s = s

pub picked-other : (k : Key) (q : Part) (e : Entry) (es : List Entry) → same e.key k ≡ false → picked k q (e ∷ es) ≡ picked k q es
unfolding picked
picked-other k q e es h = rw (h, picked)

masks_more : (e : Entry) (es : List Entry) → length (masks_of (e ∷ es)) ≡ is_chain e.key + length (masks_of es)
unfolding picked is_chain
masks_more e es = go (same e.key key.Chain)
  where
    go : (b : Bool) → length {A = ℕ} (elim b [ true ↦ e.first ∷ masks_of es | false ↦ masks_of es ]) ≡ elim b [ true ↦ 1 | false ↦ 0 ] + length (masks_of es)
    go true = omega arith
    go false = omega arith

unfoldable pub last_of : ℕ → List ℕ → ℕ
last_of d [] = d
last_of d (v ∷ vs) = last_of v vs

chains_moved : (p : Place) (e : Entry) (es : List Entry) → last_of (moved p e.key e.first).chains (numbers_for key.Chains es) ≡ last_of p.chains (numbers_for key.Chains (e ∷ es))
unfolding moved picked last_of
chains_moved p e es = go (same e.key key.Chains)
  where
    go : (b : Bool) → last_of (number_if b e.first p.chains) (numbers_for key.Chains es) ≡ last_of p.chains (elim b [ true ↦ e.first ∷ numbers_for key.Chains es | false ↦ numbers_for key.Chains es ])
    go true = refl
    go false = refl

-- ---- after depth

pub stand_next : (kind : Kind) (p : Place) (k : Key) (v : ℕ) → same k key.Chain ≡ false → may_stand kind (moved p k v) ≡ after kind k
unfolding moved
stand_next kind p k v n = let q = moved p k v in stand_after q kind (ne_eqb (run_of p k + 1) 0 (λ e. omega arith)) (missing-none q n)

module _ (k : Key) (q : Part) (h : head k ≡ true) where
  picked_slices : (t : Text) (p : Place) (n : ℕ) → may_stand Sheet p ≡ key.Slice ∷ [] → picked k q (reading Sheet p n t).entries ≡ []
  unfolding reading picked in_order after head among same
  picked_slices (rest []) p n s = refl
  picked_slices (rest (b ∷ o)) p n s = refl
  picked_slices (line l t) p n s = go (saying Sheet p l) refl (λ v. picked_slices t (moved p key.Slice v) (n + 1))
    where
      go : (a : Line) → saying Sheet p l ≡ a → ((v : ℕ) → may_stand Sheet (moved p key.Slice v) ≡ key.Slice ∷ [] → picked k q (reading Sheet (moved p key.Slice v) (n + 1) t).entries ≡ [])
          → picked k q (onward a (λ f. reading Sheet (moved p f.key f.first) (n + 1) t) n).entries ≡ []
      go (lines.Refused c) e ih = refl
      go (lines.Said f) e ih =
          let j = among_one f.key key.Slice (rw s at (line_accepted Sheet p f l e).order) in
          picked-other k q f (reading Sheet (moved p f.key f.first) (n + 1) t).entries (ap (λ i. same i k) j ∙ apart key.Slice k false refl h)
          ∙ ap (λ i. picked k q (reading Sheet (moved p i f.first) (n + 1) t).entries) j
          ∙ ih f.first (stand_next Sheet p key.Slice f.first refl)

pub record Heading (p : Place) (t : Text) (es : List Entry) : Type 0 where
  pub above : List Entry
  pub below : List Entry
  pub parts : es ≡ above ++ below
  pub place : Place
  pub next : in_order SeedList place key.Stop ≡ true
  pub fresh : same place.last key.Stop ≡ false
  pub counted : place.chains ≡ had p + length (masks_of above)
  pub said : place.chains ≡ last_of p.chains (numbers_for key.Chains above)
  pub reads : (x : List ℕ) (fs : List Entry) → Reads SeedList place x fs → Reads SeedList p (lines_before key.Depth t ++ x) (above ++ fs)
  pub heads : (k : Key) (q : Part) → head k ≡ false → picked k q above ≡ []
  pub tails : (k : Key) (q : Part) → head k ≡ true → picked k q below ≡ []

-- ---- all lines before depth

module _ (p : Place) (i : Held p) (l : List ℕ) (t : Text) (f : Entry) (s : saying Sheet p l ≡ lines.Said f) (n : ℕ) where
  abbrev others : List Entry
  others = (reading Sheet (moved p f.key f.first) (n + 1) t).entries

  begins : starts (name key.Depth) l ≡ same f.key key.Depth
  begins = said-starts Sheet p l f s key.Depth

  at_depth : same f.key key.Depth ≡ true → Heading p (line l t) (f ∷ others)
  unfolding picked head among same after last_of
  at_depth d =
      let j = same_is f.key key.Depth d in
      let o : in_order Sheet p key.Depth ≡ true = rw j at (line_accepted Sheet p f l s).order in
      record {
        above = [];
        below = f ∷ others;
        parts = refl;
        place = p;
        next = stop-next p i.heads o;
        fresh = apart p.last key.Stop true i.heads refl;
        counted = omega (arith, depth_counted p i o);
        said = refl;
        reads = λ x fs r. subst (λ (b : List ℕ). Reads SeedList p (b ++ x) fs) (sym (before_key key.Depth l t (begins ∙ d))) r;
        heads = λ k q h. refl;
        tails = λ k q h. picked-other k q f others (ap (λ m. same m k) j ∙ apart key.Depth k false refl h) ∙ ap (λ m. picked k q (reading Sheet (moved p m f.first) (n + 1) t).entries) j ∙ picked_slices k q h t (moved p key.Depth f.first) (n + 1) (stand_next Sheet p key.Depth f.first refl);
      }

  above_depth : same f.key key.Depth ≡ false → any is_feed l ≡ false → (Held (moved p f.key f.first) → Heading (moved p f.key f.first) t others) → Heading p (line l t) (f ∷ others)
  above_depth d u ih =
      let a = line_accepted Sheet p f l s in
      let g = head-next p i.heads f.key a.order d in
      let w = accepted_steps p i f a g.0 in
      let r = ih w.held in
      record {
        above = f ∷ r.above;
        below = r.below;
        parts = ap (λ (es : List Entry). f ∷ es) r.parts;
        place = r.place;
        next = r.next;
        fresh = r.fresh;
        counted = omega (arith, r.counted, w.more, masks_more f r.above);
        said = r.said ∙ chains_moved p f r.above;
        reads = λ x fs h. subst (λ (b : List ℕ). Reads SeedList p b (f ∷ (r.above ++ fs))) (sym (ap (λ (b : List ℕ). b ++ x) (before_line key.Depth l t (begins ∙ d)) ∙ append_assoc l (feed ∷ lines_before key.Depth t) x)) (line_alike p l f s g.1 u (lines_before key.Depth t ++ x) (r.above ++ fs) (r.reads x fs h));
        heads = λ k q h. picked-other k q f r.above (apart f.key k true g.0 h) ∙ r.heads k q h;
        tails = r.tails;
      }

pub heading : (t : Text) (p : Place) (n : ℕ) → plain t ≡ true → Held p → (reading Sheet p n t).end ≡ Ok tt → Heading p t (reading Sheet p n t).entries
unfolding reading plain
heading (rest []) p n u i e = absurd (refused_whole _ (sym (end_early Sheet p n (head-ends p i.heads)) ∙ e))
heading (rest (b ∷ o)) p n u i e = absurd (refused_whole _ e)
heading (line l t) p n u i e = go (saying Sheet p l) refl e (λ q m. heading t q m (both (not (any is_feed l)) (plain t) u).1)
  where
    go : (a : Line) → saying Sheet p l ≡ a → (onward a (λ f. reading Sheet (moved p f.key f.first) (n + 1) t) n).end ≡ Ok tt
        → ((q : Place) (m : ℕ) → Held q → (reading Sheet q m t).end ≡ Ok tt → Heading q t (reading Sheet q m t).entries)
        → Heading p (line l t) (onward a (λ f. reading Sheet (moved p f.key f.first) (n + 1) t) n).entries
    go (lines.Refused c) s e ih = absurd (refused_whole _ e)
    go (lines.Said f) s e ih = by (same f.key key.Depth) refl
      where
        by : (b : Bool) → same f.key key.Depth ≡ b → Heading p (line l t) (f ∷ (reading Sheet (moved p f.key f.first) (n + 1) t).entries)
        by true d = at_depth p i l t f s n d
        by false d = above_depth p i l t f s n d (not-true (any is_feed l) (both (not (any is_feed l)) (plain t) u).0) (λ h. ih (moved p f.key f.first) (n + 1) h e)
