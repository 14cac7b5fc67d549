-- The windows gathered and settled are the encoding of the set, which is one segment.
--     settled-encoding     so they are
--     gathered_held        the array holds their seeds
-- Assumes nothing.
use mathlib.Core.Path.{◌≡◌, refl, sym, ap, ◌∙◌}
use mathlib.Core.Logic.{⊎_elim}
use mathlib.Core.List.{List, ◌++◌}
use Prim.Native.Nat.{ℕ, ◌+◌, ◌≤◌}
use native.Mathlib.Omega.{arith}
use lib.ListN.{length, drop}
use lib.Seq.{sets, sets-eq, length-sets, take_at}
use borrow.Author.Tests.{eq-eqb, ne_eqb}
use Rattle.words_bounded.proofs.Tests.{eq_or_not}
use Rattle.refusal_causes.specs.Outcome.{refuse, fill}
use Rattle.machine_settings.specs.Machine.{Machine}
use Rattle.machine_slices.specs.declared.TestSlice.{TestSlice}
use Rattle.theory_cutting.specs.Greedy.{hop, ends, greedy}
use Rattle.theory_cutting.proofs.Hops.{hop_in, ends_cut}
use Rattle.theory_cutting.proofs.Parts.{cuts_count}
use Rattle.theory_covering.specs.Rules.{Rules}
use Rattle.theory_covering.specs.Windows.{ok}
use Rattle.theory_covering.proofs.Windows.{set-bounds}
use Rattle.encoder_meaning.specs.Encoding.{seeds_of, planned, encoding}
use Rattle.encoder_meaning.proofs.Seeds.{seeds-length}
use Rattle.encoder_settling.specs.Settling.{settled}
use Rattle.encoder_settling.specs.declared.Gathered.{Gathered}
use Rattle.encoder_settling.proofs.Settling.{settled_stuck, settled_through}
use Rattle.encoder_gathering.specs.Gathering.{gathered, gathered_seeds}
use Rattle.refusal_causes.specs.declared.Cause.TheVariants as cause

module _ (M : Machine) (R : Rules) (set : List TestSlice) where
  abbrev n : ℕ
  n = length set

  abbrev place : ℕ
  place = hop (ok M R set) n n 0

  abbrev S : List ℕ
  S = seeds_of M R set 0 (ends (ok M R set) n n 0)

  abbrev none : Gathered
  none = record { place = 0; count = 0 }

  planned_done : place ≡ n → (out : List ℕ) → encoding M R set out ≡ fill S out
  unfolding encoding greedy planned
  planned_done e out = rw (eq-eqb place n e, greedy, encoding)

  planned_stuck : (place ≡ n → ⊥) → (out : List ℕ) → encoding M R set out ≡ refuse (cause.NoCutting place) out
  unfolding encoding greedy planned
  planned_stuck ne out = rw (ne_eqb place n ne, greedy, encoding)

  few : length S ≤ n
  few = omega (arith, seeds-length M R set 0 (ends (ok M R set) n n 0), cuts_count (ok M R set) n (set-bounds M R set) (ends_cut (ok M R set) n (set-bounds M R set) n 0), hop_in (ok M R set) n (set-bounds M R set) n 0 (omega arith))

  module _ (old : List ℕ) (room : n ≤ length old) where
    front : sets old 0 S ≡ S ++ drop (length S) old
    front = let z : 0 + length S ≡ length S = omega arith in sets-eq S old 0 (omega (arith, few)) ∙ rw z

    -- the windows gathered, settled
    settled-gathered : (out : List ℕ) → settled n (gathered M R set none) (sets old 0 (gathered_seeds M R set 0)) out ≡ encoding M R set out
    unfolding gathered gathered_seeds
    settled-gathered out =
        let r : Gathered = record { place = place; count = 0 + length S } in
        let z : 0 + length S ≡ length S = omega arith in
        ⊎_elim
        (λ e.
        settled_through n r (sets old 0 S) out (omega arith)
        ∙ rw (z, front) (ap (λ (l : List ℕ). fill l out) (take_at S (drop (length S) old) (length S) refl)) ∙ sym (planned_done e out))
        (λ ne. settled_stuck n r (sets old 0 S) out (omega (arith, hop_in (ok M R set) n (set-bounds M R set) n 0 (omega arith))) ∙ sym (planned_stuck ne out))
        (eq_or_not place n)

    module _ (r : Gathered) (seeds : List ℕ) (e : r ≡ gathered M R set none) (q : seeds ≡ sets old 0 (gathered_seeds M R set 0)) where
      pub settled-encoding : (m : ℕ) (out : List ℕ) → n ≡ m → settled m r seeds out ≡ encoding M R set out
      settled-encoding m out l = rw (sym l, e, q) (settled-gathered out)

      -- the array holds the seeds
      pub gathered_held : r.count ≤ length seeds
      unfolding gathered gathered_seeds
      gathered_held = let c = ap (λ (u : Gathered). u.count) e in omega (arith, ap length q, length-sets old 0 S, few)
