-- The greedy windows of a segment, as the loop that gathers their seeds goes on: what is gathered and what is left, written from here, is the whole.
--     Gathering           what the loop keeps
--     gathering_start, gathering_next     at the start, and after a window
--     gathering_answer    what the loop answers where no window leads on
-- Assumes nothing.
use Rattle.std.specs.Prelude.{unwrap_or}
use mathlib.Core.Path.{◌≡◌, refl, sym, ap, ap₂, ◌∙◌}
use mathlib.Core.List.{List, [], ◌∷◌}
use Prim.Native.Nat.{ℕ, suc, ◌+◌, ◌-◌, ◌≤◌, ◌<◌}
use native.Mathlib.Numerals.{add-one}
use native.Mathlib.Omega.{arith}
use lib.ListN.{length, set as put, length-set}
use lib.Seq.{sets}
use Rattle.machine_settings.specs.Machine.{Machine}
use Rattle.machine_slices.specs.declared.TestSlice.{TestSlice}
use Rattle.theory_cutting.specs.Greedy.{reach, hop, ends}
use Rattle.theory_cutting.proofs.Hops.{ends_more, ends-stop, hop_stays}
use Rattle.theory_covering.specs.Rules.{Rules}
use Rattle.theory_covering.specs.Windows.{seed_at, ok}
use Rattle.theory_covering.proofs.Windows.{set-bounds}
use Rattle.encoder_meaning.specs.Encoding.{seeds_of}
use Rattle.encoder_meaning.proofs.Seeds.{seeds-length}
use Rattle.encoder_settling.specs.declared.Gathered.{Gathered}
use Rattle.encoder_gathering.specs.Gathering.{gathered, gathered_seeds}

module _ (M : Machine) (R : Rules) (set : List TestSlice) (old : List ℕ) (earlier : Gathered) where
  abbrev n : ℕ
  n = length set

  abbrev Ends : ℕ → ℕ → List ℕ
  Ends d a = ends (ok M R set) n d a

  abbrev Hop : ℕ → ℕ → ℕ
  Hop d a = hop (ok M R set) n d a

  -- the windows that n leaves after those gathered here
  abbrev left : ℕ → ℕ
  left count = n - (count - earlier.count)

  pub record Gathering (place count : ℕ) (out : List ℕ) : Type 0 where
    pub within : place ≤ n
    pub added : earlier.count ≤ count
    pub before : count + earlier.place ≤ place + earlier.count
    pub same : length out ≡ length old
    pub leads : Hop (left count) place ≡ Hop n earlier.place
    pub many : count + length (Ends (left count) place) ≡ earlier.count + length (Ends n earlier.place)
    pub written : sets out count (seeds_of M R set place (Ends (left count) place)) ≡ sets old earlier.count (seeds_of M R set earlier.place (Ends n earlier.place))

  pub gathering_start : earlier.place ≤ n → Gathering earlier.place earlier.count old
  gathering_start h =
      let e : left earlier.count ≡ n = omega arith in
      record { within = h; added = omega arith; before = omega arith; same = refl; leads = rw e; many = rw e; written = rw e }

  module _ (place count : ℕ) (out : List ℕ) (h : place < n) (f : Gathering place count out) where
    fuel : left count ≡ suc (left (count + 1))
    fuel = omega (arith, f.before, f.added)

    pub gathering_next : (k s : ℕ) → 0 < k → reach (ok M R set) n place ≡ place + k → place + k ≤ n → s ≡ unwrap_or (seed_at M R set place (place + k)) 0
        → Gathering (place + k) (count + 1) (put out count s)
    unfolding hop seeds_of
    gathering_next k s p e l q =
        let d : ℕ = left (count + 1) in
        let more : Ends (left count) place ≡ (place + k) ∷ Ends d (place + k) = rw fuel (ends_more (ok M R set) n d place (omega arith) ∙ rw e) in
        record {
          within = l;
          added = omega (arith, f.added);
          before = omega (arith, f.before);
          same = length-set out count s ∙ f.same;
          leads = ap (Hop d) (sym e) ∙ (rw fuel at f.leads);
          many = omega (arith, ap length more, f.many);
          written =
              ap₂ (λ (v i : ℕ). sets (put out count v) i (seeds_of M R set (place + k) (Ends d (place + k)))) q (add-one count)
              ∙ ap (λ (es : List ℕ). sets out count (seeds_of M R set place es)) (sym more) ∙ f.written;
        }

  pub gathering_answer : (place count : ℕ) (out : List ℕ) → reach (ok M R set) n place ≡ place → Gathering place count out
      → (record { place = place; count = count } ≡ gathered M R set earlier) × (out ≡ sets old earlier.count (gathered_seeds M R set earlier.place))
  unfolding seeds_of gathered gathered_seeds
  gathering_answer place count out e f =
      let none : Ends (left count) place ≡ [] = ends-stop (ok M R set) n (left count) place e in
      let to : place ≡ Hop n earlier.place = sym (hop_stays (ok M R set) n (set-bounds M R set) place e (left count)) ∙ f.leads in
      let c : count ≡ earlier.count + length (seeds_of M R set earlier.place (Ends n earlier.place)) = omega (arith, ap length none, f.many, seeds-length M R set earlier.place (Ends n earlier.place)) in
      let parts : ℕ → ℕ → Gathered = λ p k. record { place = p; count = k } in (
        ap₂ parts to c,
        ap (λ (es : List ℕ). sets out count (seeds_of M R set place es)) (sym none) ∙ f.written,
      )
