-- How the test of a window is put together from parts that are kept by suffixes; and how the windows of a cutting are weakened.
--     suffix_under      a second part need be kept only where the first holds
--     cutting_map, covering_map     a cutting by one kind of window is one by a wider kind; a covering likewise
--     covering_cutting, covering_length     a covering is a cutting whose windows are covered, with one state for each
--     cuts_count        a cutting has at most as many windows as slices
-- Assumes nothing.
use mathlib.Core.Path.{◌≡◌, refl, ap}
use mathlib.Core.Bool.{Bool, true, ◌&&◌}
use mathlib.Core.List.{List}
use Prim.Native.Nat.{ℕ, suc, ◌+◌, ◌≤◌, ◌<◌}
use native.Mathlib.Omega.{arith}
use lib.ListN.{length}
use Rattle.words_bounded.proofs.Tests.{both, and_yes}
use Rattle.theory_cutting.specs.Cutting.{Cutting, no_window, window, Covering, without_state, state}
use Rattle.theory_cutting.specs.Meaning.{Cuts, Bounds, Suffix}

pub suffix_under : (p q : ℕ → ℕ → Bool) → Suffix p → ((i j k : ℕ) → i ≤ j → j < k → p i k ≡ true → q i k ≡ true → q j k ≡ true) → Suffix (λ i k. p i k && q i k)
suffix_under p q sp sq i j k le lt t =
    let h = both (p i k) (q i k) t in
    and_yes (p j k) (q j k) (sp i j k le lt h.0) (sq i j k le lt h.0 h.1)

pub cutting_map : (U W : ℕ → ℕ → Type 0) → ((i k : ℕ) → U i k → W i k) → {a b : ℕ} {es : List ℕ} → Cutting U a es b → Cutting W a es b
cutting_map U W f no_window = no_window
cutting_map U W f (window {a = a} {k = k} v c) = window (f a k v) (cutting_map U W f c)

pub covering_map : (C D : ℕ → ℕ → ℕ → Type 0) → ((i k s : ℕ) → C i k s → D i k s) → {a b : ℕ} {es ss : List ℕ} → Covering C a es ss b → Covering D a es ss b
covering_map C D f without_state = without_state
covering_map C D f (state {a = a} {k = k} {s = s} h c) = state (f a k s h) (covering_map C D f c)

pub covering_cutting : (C : ℕ → ℕ → ℕ → Type 0) → {a b : ℕ} {es ss : List ℕ} → Covering C a es ss b → Cutting (λ i k. (s : ℕ) × C i k s) a es b
covering_cutting C without_state = no_window
covering_cutting C (state {s = s} h c) = window (s, h) (covering_cutting C c)

pub covering_length : (C : ℕ → ℕ → ℕ → Type 0) → {a b : ℕ} {es ss : List ℕ} → Covering C a es ss b → length es ≡ length ss
covering_length C without_state = refl
covering_length C (state h c) = ap suc (covering_length C c)

-- each window goes forward, so there are at most as many as slices
pub cuts_count : (ok : ℕ → ℕ → Bool) (n : ℕ) → Bounds ok n → {a b : ℕ} {es : List ℕ} → Cuts ok a es b → a + length es ≤ b
cuts_count ok n w no_window = omega arith
cuts_count ok n w (window {a = a} {k = k} t c) = omega (arith, w.forward a k t, cuts_count ok n w c)
