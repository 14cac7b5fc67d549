-- Covering under inverted chains is covering without, of test slices and a stop slice that are flipped (document 02, R-4).
--     shows_inverted      of a state's slice: it shows the stop slice exactly when the slice without inversion shows the flipped one
--     inverted_window     of a window
--     inverted_set        of the windows of a set
-- Assumes nothing.
use mathlib.Core.Path.{◌≡◌, refl, sym, ap, ap₂, fun_ext, ◌∙◌}
use mathlib.Core.Bool.{Bool, not, ◌&&◌, ◌||◌}
use mathlib.Core.List.{List, [], ◌∷◌, map}
use Prim.Native.Nat.{ℕ, zero, suc, ◌-◌}
use lib.Bits.{xor_zero_r}
use lib.ListN.{length, take, drop, length-map}
use Rattle.words_bounded.specs.Bounded.{least_below}
use Rattle.machine_settings.specs.declared.Settings.{Settings}
use Rattle.machine_settings.specs.Machine.{Machine, machine}
use Rattle.machine_chains.specs.Chains.{slice}
use Rattle.machine_slices.specs.declared.TestSlice.{TestSlice}
use Rattle.machine_slices.specs.Slices.{agrees, shows}
use Rattle.machine_inversion.specs.Inversion.{flipped, upright}
use Rattle.machine_inversion.proofs.Inversion.{flipped-agrees, flipped-shows}
use Rattle.theory_covering.specs.Covering.{fits, quiet, covers, seed_of}
use Rattle.theory_covering.specs.Rules.{Rules}
use Rattle.theory_covering.specs.Windows.{part, far, placed, closes, seed_at, ok}
use Rattle.theory_covering.specs.Inversion.{flipped_rules, InvertedWindow, InvertedSet}

module _ (f : TestSlice → TestSlice) where
  map-take : (n : ℕ) (l : List TestSlice) → map f (take n l) ≡ take n (map f l)
  map-take zero l = refl
  map-take (suc n) [] = refl
  map-take (suc n) (t ∷ l) = ap (λ (r : List TestSlice). f t ∷ r) (map-take n l)

  map-drop : (n : ℕ) (l : List TestSlice) → map f (drop n l) ≡ drop n (map f l)
  map-drop zero l = refl
  map-drop (suc n) [] = refl
  map-drop (suc n) (t ∷ l) = map-drop n l

module _ (g : Settings) (masks : List ℕ) where
  abbrev M : Machine
  M = machine g masks

  abbrev N : Machine
  N = machine (upright g) masks

  abbrev flip : TestSlice → TestSlice
  flip t = flipped g.invert t

  agrees_at : (t : TestSlice) (s : ℕ) → agrees t (M.slice s) ≡ agrees (flip t) (N.slice s)
  agrees_at t s = flipped-agrees g.invert t (slice masks s) ∙ ap (agrees (flip t)) (sym (xor_zero_r (slice masks s)))

  module _ (stop : TestSlice) where
    pub shows_inverted : (s : ℕ) → shows stop (M.slice s) ≡ shows (flip stop) (N.slice s)
    shows_inverted s = flipped-shows g.invert stop (slice masks s) ∙ ap (shows (flip stop)) (sym (xor_zero_r (slice masks s)))

    fits_inverted : (closing : Bool) (w : List TestSlice) (s : ℕ) → fits M stop closing w s ≡ fits N (flip stop) closing (map flip w) s
    unfolding fits
    fits_inverted closing [] s = ap (λ (b : Bool). not closing || b) (shows_inverted s)
    fits_inverted closing (t ∷ w) s = ap₂ ◌&&◌ (agrees_at t s) (fits_inverted closing w (M.step s))

    quiet_inverted : (m s : ℕ) → quiet M stop m s ≡ quiet N (flip stop) m s
    unfolding quiet
    quiet_inverted zero s = refl
    quiet_inverted (suc m) s = ap₂ (λ (a b : Bool). not a && b) (shows_inverted s) (quiet_inverted m (M.step s))

    covers_inverted : (closing : Bool) (w : List TestSlice) (s : ℕ) → covers M stop closing w s ≡ covers N (flip stop) closing (map flip w) s
    unfolding covers
    covers_inverted closing w s = ap₂ ◌&&◌ (fits_inverted closing w s) (quiet_inverted (length w) s ∙ ap (λ (m : ℕ). quiet N (flip stop) m s) (sym (length-map w flip)))

    seed_inverted : (closing : Bool) (w : List TestSlice) → seed_of M stop closing w ≡ seed_of N (flip stop) closing (map flip w)
    unfolding seed_of
    seed_inverted closing w = ap (λ (p : ℕ → Bool). least_below p M.states) (fun_ext (λ s. covers_inverted closing w s))

    pub inverted_window : (w : List TestSlice) → InvertedWindow g masks stop w
    inverted_window w = record { covered = λ closing s. covers_inverted closing w s; seed = λ closing. seed_inverted closing w }

  module _ (R : Rules) (set : List TestSlice) where
    -- the slices of a window, flipped
    map_part : (i k : ℕ) → map flip (part i k set) ≡ part i k (map flip set)
    map_part i k = map-take flip (k - i) (drop i set) ∙ ap (take (k - i)) (map-drop flip i set)

    at_inverted : (i k : ℕ) → seed_at M R set i k ≡ seed_at N (flipped_rules g.invert R) (map flip set) i k
    unfolding seed_at closes
    at_inverted i k = rw (sym (map_part i k), length-map set flip) (seed_inverted (R.live i) (closes R (length set) k) (part i k set))

    ok_inverted : (i k : ℕ) → ok M R set i k ≡ ok N (flipped_rules g.invert R) (map flip set) i k
    unfolding ok placed far
    ok_inverted i k = rw (at_inverted i k, length-map set flip)

    pub inverted_set : InvertedSet g masks R set
    inverted_set = record { seed = at_inverted; window = ok_inverted }
