-- Outcomes, and what `fill` leaves, by whether there is space.
--     outcome_parts, refused_parts     the answer and the buffer of an outcome
--     fill-whole, fill_short           t entries, where there is space for them and where there is not
--     Full xs out o      the entries stand in the buffer
--     Short xs out o     the buffer is too short, and as it was
--     fill_cases         one of the two
--     fill_long          a buffer that is filled is as long as it was
-- Assumes nothing.
use Rattle.std.specs.Prelude.{Err, Ok, Result}
use mathlib.Core.Path.{◌≡◌, refl, sym, ap, ◌∙◌}
use mathlib.Core.Logic.{◌⊎◌, inl, inr, ⊎_elim}
use mathlib.Core.Bool.{Bool, true, false}
use mathlib.Core.List.{List, ◌++◌}
use Prim.Native.Nat.{ℕ, ◌≤◌, ◌<◌}
use native.Mathlib.Omega.{arith}
use lib.Dec.{leb}
use lib.ListN.{length, drop, length-append, length-drop}
use borrow.Author.Tests.{leb-true, leb-false, le-leb, lt-leb}
use Rattle.refusal_causes.specs.Outcome.{Outcome, refuse, fill}
use Rattle.refusal_causes.specs.declared.Cause.{Cause}
use Rattle.refusal_causes.specs.declared.Cause.TheVariants.{NoSpace}

pub outcome_parts : (o : Outcome) (answer : Result ℕ Cause) (buffer : List ℕ) → o ≡ record { answer = answer; buffer = buffer } → (answer ≡ o.answer) × (buffer ≡ o.buffer)
outcome_parts o answer buffer e = (sym (ap (λ (p : Outcome). p.answer) e), sym (ap (λ (p : Outcome). p.buffer) e))

pub refused_parts : (o : Outcome) (c : Cause) (out : List ℕ) → o ≡ refuse c out → (Err c ≡ o.answer) × (out ≡ o.buffer)
unfolding refuse
refused_parts o c out e = outcome_parts o (Err c) out e

module _ (xs out : List ℕ) (t : ℕ) (count : length xs ≡ t) where
  pub fill-whole : t ≤ length out → fill xs out ≡ record { answer = Ok t; buffer = xs ++ drop t out }
  unfolding fill
  fill-whole h =
      let whole : ℕ → Outcome = λ k. record { answer = Ok k; buffer = xs ++ drop k out } in
      rw (le-leb (length xs) (length out) (omega (arith, count)), fill) (ap whole count)

  pub fill_short : length out < t → fill xs out ≡ refuse (NoSpace t) out
  unfolding fill
  fill_short h = rw (lt-leb (length xs) (length out) (omega (arith, count)), fill) (ap (λ (k : ℕ). refuse (NoSpace k) out) count)

pub record Full (xs out : List ℕ) (o : Outcome) : Type 0 where
  pub room : length xs ≤ length out
  pub answer : o.answer ≡ Ok (length xs)
  pub buffer : o.buffer ≡ xs ++ drop (length xs) out

pub record Short (xs out : List ℕ) (o : Outcome) : Type 0 where
  pub room : length out < length xs
  pub answer : o.answer ≡ Err (NoSpace (length xs))
  pub buffer : o.buffer ≡ out

pub fill_cases : (xs out : List ℕ) → Full xs out (fill xs out) ⊎ Short xs out (fill xs out)
unfolding fill refuse
fill_cases xs out = go (leb (length xs) (length out)) refl
  where
    by : Bool → Outcome
    by b = elim b [ true ↦ record { answer = Ok (length xs); buffer = xs ++ drop (length xs) out } | false ↦ refuse (NoSpace (length xs)) out ]

    go : (b : Bool) → leb (length xs) (length out) ≡ b → Full xs out (by b) ⊎ Short xs out (by b)
    go true e = inl (record { room = leb-true (length xs) (length out) e; answer = refl; buffer = refl })
    go false e = inr (record { room = leb-false (length xs) (length out) e; answer = refl; buffer = refl })

pub fill_long : (xs out : List ℕ) → length (fill xs out).buffer ≡ length out
fill_long xs out = ⊎_elim whole (λ f. ap length f.buffer) (fill_cases xs out)
  where
    whole : Full xs out (fill xs out) → length (fill xs out).buffer ≡ length out
    whole f = ap length f.buffer ∙ omega (arith, f.room, length-append xs (drop (length xs) out), length-drop (length xs) out)
