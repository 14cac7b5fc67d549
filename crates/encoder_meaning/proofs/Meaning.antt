-- The answer of the encoding of a set means what it says, for every setting whose stop is steady between edges.
--     shortest_list     the seeds of the greedy cutting are a shortest list, ahead at every seed
--     uncut_set         where greedy is stuck, there is no cutting, and the place is the longest start that can be cut
--     encoding_means    the outcome of the encoding
--     list_delivers     a list that covers a cutting, expanded, delivers the whole set in order
-- Assumes nothing.
use mathlib.Core.Path.{◌≡◌, refl, sym}
use mathlib.Core.Logic.{◌⊎◌, inl, inr}
use mathlib.Core.List.{List}
use Prim.Native.Nat.{ℕ, ◌<◌}
use native.Mathlib.Omega.{arith}
use lib.ListN.{length}
use Rattle.refusal_causes.specs.Outcome.{refuse, fill}
use Rattle.refusal_causes.proofs.Outcome.{Full, Short, fill_cases}
use Rattle.machine_settings.specs.Machine.{Machine}
use Rattle.machine_slices.specs.declared.TestSlice.{TestSlice}
use Rattle.theory_cutting.specs.Cutting.{Covering}
use Rattle.theory_cutting.specs.Greedy.{Plan, done, stuck, greedy, ends}
use Rattle.theory_cutting.specs.Meaning.{Fewest, StuckAt, Means}
use Rattle.theory_cutting.proofs.Theorem.{greedy_means}
use Rattle.theory_cutting.proofs.Parts.{covering_length, covering_cutting}
use Rattle.theory_covering.specs.Rules.{Rules}
use Rattle.theory_covering.specs.Windows.{CoveredBy, ok, Steady}
use Rattle.theory_covering.proofs.Windows.{set_windows}
use Rattle.theory_covering.proofs.Starts.{starts-closed}
use Rattle.expander_meaning.specs.Expanding.{expanding}
use Rattle.expander_meaning.proofs.Agreeing.{agree_length, agree_at}
use Rattle.expander_meaning.proofs.Walks.{expand_covering}
use Rattle.encoder_meaning.specs.Encoding.{seeds_of, planned, encoding}
use Rattle.encoder_meaning.specs.Meaning.{Delivers, Shortest, Uncut, Meaning}
use Rattle.encoder_meaning.proofs.Seeds.{seeds_cover, seeds-length, cuts_windows, windows_cuts, covering_cuts}
use Rattle.refusal_causes.specs.declared.Cause.TheVariants as cause

module _ (M : Machine) (R : Rules) (set : List TestSlice) where
  abbrev n : ℕ
  n = length set

  pub shortest_list : (es : List ℕ) → Fewest (ok M R set) n es → Shortest M R set (seeds_of M R set 0 es)
  shortest_list es f = record {
    ends = es;
    covers = seeds_cover M R set f.cuts;
    shortest = λ fs ss c. omega (arith, f.fewest fs (covering_cuts M R set c), covering_length (CoveredBy M R set) c, seeds-length M R set 0 es);
    ahead = λ b fs ss c j. f.ahead b fs (covering_cuts M R set c) j;
  }

  pub uncut_set : (g : ℕ) → StuckAt (ok M R set) n g → Uncut M R set g
  uncut_set g s = record {
    short = s.short;
    upto = s.upto;
    cuts = cuts_windows M R set s.cuts;
    longest = λ b es c. s.longest b es (windows_cuts M R set c);
    closed = ((starts-closed M set R).cut s.short).0 (cuts_windows M R set s.cuts);
    longest_closed = λ b es h c. s.longest b es (windows_cuts M R set (((starts-closed M set R).cut h).1 c));
  }

  module _ (out : List ℕ) where
    -- the seeds of a shortest list are written, or there is no space for them
    listed : (seeds : List ℕ) → Shortest M R set seeds → Full seeds out (fill seeds out) ⊎ Short seeds out (fill seeds out) → Meaning M R set out (fill seeds out)
    listed seeds l (inl f) = record {
      answered = inl (length seeds, f.answer);
      accepted = λ m e. (let c : length seeds ≡ m = cc in (record { seeds = seeds; shortest = l; count = c }, rw (sym c) f.buffer));
      uncut = λ g e. absurd (let z : ◌≡◌ {A = ℕ} 0 1 = cc in omega arith);
      no_space = λ m e. absurd (let z : ◌≡◌ {A = ℕ} 0 1 = cc in omega arith);
      exactly = (λ r. absurd (let e = r.1 in let z : ◌≡◌ {A = ℕ} 0 1 = cc in omega arith), λ none. absurd (none l.ends (covering_cutting (CoveredBy M R set) l.covers)));
    }
    listed seeds l (inr f) = record {
      answered = inr (inr (length seeds, f.answer));
      accepted = λ m e. absurd (let z : ◌≡◌ {A = ℕ} 0 1 = cc in omega arith);
      uncut = λ g e. absurd (let z : ◌≡◌ {A = ℕ} 0 1 = cc in omega arith);
      no_space = λ m e. (let c : length seeds ≡ m = cc in (record { seeds = seeds; shortest = l; count = c }, omega (arith, f.room), f.buffer));
      exactly = (λ r. absurd (let e = r.1 in let z : ◌≡◌ {A = ℕ} 0 1 = cc in omega arith), λ none. absurd (none l.ends (covering_cutting (CoveredBy M R set) l.covers)));
    }

    refused : (g : ℕ) → Uncut M R set g → Meaning M R set out (refuse (cause.NoCutting g) out)
    unfolding refuse
    refused g u = record {
      answered = inr (inl (g, refl));
      accepted = λ m e. absurd (let z : ◌≡◌ {A = ℕ} 0 1 = cc in omega arith);
      uncut = λ h e. (let c : g ≡ h = cc in (rw (sym c) u, refl));
      no_space = λ m e. absurd (let z : ◌≡◌ {A = ℕ} 0 1 = cc in omega arith);
      exactly = (λ r es c. omega (arith, u.short, u.longest n es c), λ none. (g, refl));
    }

    pub encoding_means : ((s : ℕ) → s < M.states → M.step s < M.states) → Steady R n → Meaning M R set out (encoding M R set out)
    unfolding encoding planned
    encoding_means stays steady = go (greedy (ok M R set) n) (greedy_means (ok M R set) n (set_windows M stays set R steady))
      where
        go : (p : Plan) → Means (ok M R set) n p → Meaning M R set out (planned M R set out p)
        go (done es) f = listed (seeds_of M R set 0 es) (shortest_list es f) (fill_cases (seeds_of M R set 0 es) out)
        go (stuck g) s = refused g (uncut_set g s)

  pub list_delivers : (es ss : List ℕ) → Covering (CoveredBy M R set) 0 es ss n → Delivers set (expanding M R n ss)
  list_delivers es ss c =
      let r = expand_covering M R set es ss c in
      record { slices = r.0; accepted = r.1; whole = agree_length r.2; agree = agree_at r.2 }
