-- Two limits of windows (document 02, R-3, which makes the limit a setting): what can be cut with a limit can be cut with a larger one, and a larger limit never needs more seeds. Of two rules or two answers, `large` goes with the limit that is not smaller.
--     LargerLimit M small large set       what holds of a set where `Raised small large`: `larger_limit` of proofs/Limits
--     Needs count refused answer n        the answer says that a shortest list has n seeds: it was written, or there was no space for it
--     NoWorse count refused small large   what holds of two answers for one set in the same space: `larger_encoding` of proofs/Limits
--     with_limit limit g                   the settings g with another limit
--     Larger g limit                      it is not smaller than that of g, and both are in range
--     LargerSet g masks stop specified bits out     what holds of the whole call with the stop slice handed in: `larger_set` of proofs/Limits
-- count, refused: how an answer says a number of seeds, and a refusal; a set with its stop slice and cubes have answers of different types.
use Rattle.std.specs.Prelude.{◌≡◌, ◌⊎◌, List, ℕ, ◌≤◌, Err, Ok}
use Rattle.refusal_causes.specs.declared.Cause.{Cause}
use Rattle.refusal_lengths.specs.Lengths.{most_limit}
use Rattle.machine_settings.specs.declared.Settings.{Settings}
use Rattle.machine_settings.specs.Machine.{Machine}
use Rattle.machine_slices.specs.declared.TestSlice.{TestSlice}
use Rattle.theory_cutting.specs.Cutting.{Cutting, Covering}
use Rattle.theory_covering.specs.Rules.{Rules}
use Rattle.theory_covering.specs.Windows.{CoveredBy, Window}
use Rattle.encoder_meaning.specs.Encoding.{encode_set}
use Rattle.encoder_meaning.specs.Meaning.{Uncut, Listed}
use Rattle.refusal_causes.specs.declared.Cause.TheVariants as cause

pub record LargerLimit (M : Machine) (small large : Rules) (set : List TestSlice) : Type 0 where
  -- what can be cut can be cut, by the same windows
  pub cut : (b : ℕ) (es : List ℕ) → Cutting (Window M small set) 0 es b → Cutting (Window M large set) 0 es b
  -- a list of states that covers a cutting still covers it
  pub covers : (b : ℕ) (es ss : List ℕ) → Covering (CoveredBy M small set) 0 es ss b → Covering (CoveredBy M large set) 0 es ss b
  -- a shortest list has no more seeds
  pub fewer : (m n : ℕ) → Listed M small set m → Listed M large set n → n ≤ m
  -- where the set has no cutting with either, the longest start that can be cut is no shorter
  pub farther : (g h : ℕ) → Uncut M small set g → Uncut M large set h → g ≤ h

module _ {A : Type 0} (count : ℕ → A) (refused : Cause → A) where
  abbrev pub Needs : A → ℕ → Type 0
  Needs answer n = (answer ≡ count n) ⊎ (answer ≡ refused (cause.NoSpace n))

  pub record NoWorse (small large : A) : Type 0 where
    -- a set that needs m seeds needs no more
    pub needs : (m : ℕ) → Needs small m → (n : ℕ) × Needs large n × (n ≤ m)
    -- what is accepted is accepted, with no more seeds
    pub accepted : (m : ℕ) → small ≡ count m → (n : ℕ) × (large ≡ count n) × (n ≤ m)
    -- cause 8 only where it was 8, and with no shorter start
    pub uncut : (h : ℕ) → large ≡ refused (cause.NoCutting h) → (g : ℕ) × (small ≡ refused (cause.NoCutting g)) × (g ≤ h)

abbrev pub with_limit : ℕ → Settings → Settings
with_limit limit g = record { cells = g.cells; taps = g.taps; limit = limit; invert = g.invert }

pub record Larger (g : Settings) (limit : ℕ) : Type 0 where
  pub least : 1 ≤ g.limit
  pub larger : g.limit ≤ limit
  pub most : limit ≤ most_limit

-- Whatever else is handed in, well-formed or not.
abbrev pub LargerSet : Settings → List ℕ → TestSlice → List ℕ → List ℕ → List ℕ → Type 0
LargerSet g masks stop specified bits out = (limit : ℕ) → Larger g limit
    → NoWorse Ok Err (encode_set g masks stop specified bits out).answer (encode_set (with_limit limit g) masks stop specified bits out).answer
