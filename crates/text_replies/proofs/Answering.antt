-- What a call leaves (`called`).
--     Leaves r out a after          with the reply r, a is its answer and after its buffer
--     text_leaves                   a text that is written
--     refused_leaves                a refusal: the buffer is as it was
-- Assumes nothing.
use Rattle.std.specs.Prelude.{Result}
use Rattle.refusal_causes.specs.declared.Cause.{Cause}
use mathlib.Core.Path.{◌≡◌, refl, ap, ◌∙◌}
use mathlib.Core.List.{List}
use Prim.Native.Nat.{ℕ}
use Rattle.refusal_causes.specs.Outcome.{fill}
use Rattle.text_replies.specs.Replies.{Reply, text, refused}
use Rattle.text_replies.specs.Calls.{answered, called, written, refused_with, Answer}
use Rattle.refusal_causes.specs.declared.Refusal.{Refusal}

abbrev pub Leaves : Reply → List ℕ → Answer → List ℕ → Type 0
Leaves r out a after = (a ≡ (called r out).answer) × (after ≡ (called r out).buffer)

module _ (bs : List ℕ) (n : ℕ) (out : List ℕ) where
  pub text_leaves : (a : Answer) (w : Result ℕ Cause) (after : List ℕ) → a ≡ answered n w → w ≡ (fill bs out).answer → after ≡ (fill bs out).buffer → Leaves (text bs n) out a after
  unfolding called
  text_leaves a w after e f g = (e ∙ ap (answered n) f, g)

pub refused_leaves : (r : Refusal) (out : List ℕ) → Leaves (refused r) out (refused_with r 0) out
unfolding called
refused_leaves r out = (refl, refl)
