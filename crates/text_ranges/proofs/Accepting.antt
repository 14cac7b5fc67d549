-- A line that is accepted at a place may stand there, and is none too many of its key.
--     Accepted kind p e     the entry e may stand at the place p and is in range there
--     said_inj, refused_said     an entry is its own, and no refusal is one
--     line_accepted         so it is with a line that is not refused there
--     accepted_fewer        there is room for one line more of its key
-- Assumes nothing.
use mathlib.Core.Bool.{Bool, true, false}
use mathlib.Core.Logic.{⊎_elim}
use mathlib.Core.Path.{◌≡◌, refl, sym, ◌∙◌}
use mathlib.Core.List.{List}
use Prim.Native.Nat.{ℕ, ◌<◌}
use native.Mathlib.Omega.{arith}
use Rattle.words_bounded.proofs.Tests.{lt_or_le}
use Rattle.text_keys.specs.Keys.{most}
use Rattle.text_keys.specs.declared.LineCause.{LineCause}
use Rattle.text_lines.specs.Form.{formed}
use Rattle.text_lines.specs.declared.Entry.{Entry}
use Rattle.text_lines.specs.declared.Line.{Line}
use Rattle.text_lines.specs.declared.Line.TheVariants.{Said, Refused}
use Rattle.text_order.specs.Order.{in_order}
use Rattle.text_order.specs.declared.Kind.{Kind}
use Rattle.text_place.specs.Places.{run_of}
use Rattle.text_place.specs.declared.Place.{Place}
use Rattle.text_ranges.specs.Ranges.{out_of_range, tested, saying}
use Rattle.text_ranges.proofs.Ranging.{range_many, tested-other, tested-beyond, tested_right, saying-said, saying_refused}

pub refused_said : (c : LineCause) (e : Entry) → Refused c ≡ Said e → ⊥
refused_said c e q = let z : ◌≡◌ {A = ℕ} 0 1 = cc in omega arith

pub said_inj : (e f : Entry) → Said e ≡ Said f → e ≡ f
said_inj e f q = cc

pub record Accepted (kind : Kind) (p : Place) (e : Entry) : Type 0 where
  pub order : in_order kind p e.key ≡ true
  pub ranges : out_of_range p e.key e.first ≡ false

module _ (kind : Kind) (p : Place) (e : Entry) where
  pub tested_accepted : (f : Entry) → tested kind p f ≡ Said e → (f ≡ e) × Accepted kind p f
  tested_accepted f t = go (in_order kind p f.key) refl (out_of_range p f.key f.first) refl
    where
      go : (a : Bool) → in_order kind p f.key ≡ a → (b : Bool) → out_of_range p f.key f.first ≡ b → (f ≡ e) × Accepted kind p f
      go false o b r = absurd (refused_said _ e (sym (tested-other kind p f o) ∙ t))
      go true o true r = absurd (refused_said _ e (sym (tested-beyond kind p f o r) ∙ t))
      go true o false r = (said_inj f e (sym (tested_right kind p f o r) ∙ t), record { order = o; ranges = r })

  module _ (l : List ℕ) (t : saying kind p l ≡ Said e) where
    pub line_accepted : Accepted kind p e
    line_accepted = go (formed p.chains l) refl
      where
        go : (f : Line) → formed p.chains l ≡ f → Accepted kind p e
        go (Said f) q = let a = tested_accepted f (sym (saying-said kind p l f q) ∙ t) in rw (← a.0) a.1
        go (Refused c) q = absurd (refused_said c e (sym (saying_refused kind p l c q) ∙ t))

  pub accepted_fewer : Accepted kind p e → run_of p e.key < most e.key
  accepted_fewer a = ⊎_elim (λ h. h) (λ h. absurd (let z = sym (range_many p e.key e.first h) ∙ a.ranges in let y : ◌≡◌ {A = ℕ} 0 1 = cc in omega arith)) (lt_or_le (run_of p e.key) (most e.key))
