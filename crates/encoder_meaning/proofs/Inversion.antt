-- A set is encoded under inverted chains as its flipped slices are without inversion (document 02, R-4): the same places are windows, with the same seeds, so the greedy cutting and its seeds are the same.
--     encoding-upright      the encoding of a set, over two lists of numbers
--     inverted_encoding     the whole call
-- Assumes nothing.
use Rattle.std.specs.Prelude.{Option, unwrap_or}
use mathlib.Core.Path.{◌≡◌, refl, sym, ap, ap₂, fun_ext, ◌∙◌}
use mathlib.Core.Bool.{Bool}
use mathlib.Core.List.{List, [], ◌∷◌, map}
use Prim.Native.Nat.{ℕ}
use lib.ListN.{length, length-map}
use Rattle.refusal_causes.specs.Outcome.{fill}
use Rattle.machine_settings.specs.declared.Settings.{Settings}
use Rattle.machine_settings.specs.Machine.{Machine, machine}
use Rattle.machine_slices.specs.declared.TestSlice.{TestSlice}
use Rattle.machine_slices.specs.Slices.{paired}
use Rattle.machine_inversion.specs.Inversion.{flipped, flipped_bits, upright}
use Rattle.machine_inversion.proofs.Inversion.{flipped-paired}
use Rattle.theory_cutting.specs.Greedy.{Plan, done, stuck, greedy}
use Rattle.theory_covering.specs.Rules.{Rules, rules}
use Rattle.theory_covering.specs.Windows.{seed_at, ok}
use Rattle.theory_covering.specs.Inversion.{flipped_rules}
use Rattle.theory_covering.proofs.Inversion.{inverted_set}
use Rattle.theory_covering.proofs.Upright.{set-upright}
use Rattle.encoder_meaning.specs.Encoding.{seeds_of, planned, encoding}
use Rattle.encoder_meaning.specs.Inversion.{InvertedEncoding}
use Rattle.encoder_meaning.proofs.Calls.{set_well}

-- ---- an encoding is fixed by the seeds of its windows

module _ (M N : Machine) (R Q : Rules) (set other : List TestSlice) (seeds : (i k : ℕ) → seed_at M R set i k ≡ seed_at N Q other i k) where
  seeds-same : (a : ℕ) (es : List ℕ) → seeds_of M R set a es ≡ seeds_of N Q other a es
  unfolding seeds_of
  seeds-same a [] = refl
  seeds-same a (k ∷ es) = ap₂ (λ (o : Option ℕ) (l : List ℕ). unwrap_or o 0 ∷ l) (seeds a k) (seeds-same k es)

  planned-same : (out : List ℕ) (p : Plan) → planned M R set out p ≡ planned N Q other out p
  unfolding planned
  planned-same out (stuck g) = refl
  planned-same out (done es) = ap (λ (l : List ℕ). fill l out) (seeds-same 0 es)

  encoding-same : ((i k : ℕ) → ok M R set i k ≡ ok N Q other i k) → length set ≡ length other → (out : List ℕ) → encoding M R set out ≡ encoding N Q other out
  unfolding encoding
  encoding-same windows many out =
      planned-same out (greedy (ok M R set) (length set))
      ∙ ap₂ (λ (t : ℕ → ℕ → Bool) (n : ℕ). planned N Q other out (greedy t n)) (fun_ext (λ i. fun_ext (λ k. windows i k))) many

module _ (g : Settings) (masks : List ℕ) (stop : TestSlice) (ps bs out : List ℕ) where
  pub encoding-upright : encoding (machine g masks) (rules g stop) (paired ps bs) out ≡ encoding (machine (upright g) masks) (rules (upright g) (flipped g.invert stop)) (paired ps (flipped_bits g.invert ps bs)) out
  encoding-upright =
      let w = inverted_set g masks (rules g stop) (paired ps bs) in
      encoding-same (machine g masks) (machine (upright g) masks) (rules g stop) (flipped_rules g.invert (rules g stop)) (paired ps bs) (map (flipped g.invert) (paired ps bs)) w.seed w.window (sym (length-map (paired ps bs) (flipped g.invert))) out
      ∙ ap (λ (l : List TestSlice). encoding (machine (upright g) masks) (rules (upright g) (flipped g.invert stop)) l out) (sym (flipped-paired g.invert ps bs))

  pub inverted_encoding : InvertedEncoding g masks stop ps bs out
  inverted_encoding w =
      set_well g masks stop ps bs out w
      ∙ encoding-upright
      ∙ sym (set_well (upright g) masks (flipped g.invert stop) ps (flipped_bits g.invert ps bs) out (set-upright g masks stop ps bs w))
