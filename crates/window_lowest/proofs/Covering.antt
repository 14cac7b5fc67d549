-- Covering is what the tables say: the equations of the window's bits and its closing stop, and the rows of the stop's table.
--     agrees-meets        a slice agrees with a well-formed test slice where each specified position reads its bit
--     meets_pulled        read after t steps, or before them through masks pulled back
--     meets-chosen        the specified positions alone read the same
--     fits-allowed        the equations
--     quiet-clear         the rows of the stop's table
--     covers_tables       both: a state covers a window
-- Assumes nothing.
use mathlib.Core.Path.{◌≡◌, refl, sym, ap, ap₂, ◌∙◌}
use mathlib.Core.Logic.{⊎_elim}
use mathlib.Core.Bool.{Bool, true, false, not, ◌&&◌, ◌||◌, and_assoc}
use mathlib.Core.List.{List, [], ◌∷◌, map}
use Prim.Native.Nat.{ℕ, zero, suc, ◌+◌, ◌*◌, ◌/◌, ◌%◌, ◌^◌, ◌≤◌, ◌<◌, min}
use native.Mathlib.Nat.{zero-lt-suc}
use native.Mathlib.Omega.{arith}
use lib.Bits.{bit_and, bit_xor, and_step, and_zero_r, xor_zero_r}
use lib.Dec.{eqb}
use lib.ListN.{length, length-map}
use borrow.Author.Tests.{eqb-true, eq-eqb, not-true}
use Rattle.words_bounded.specs.Bounded.{any}
use Rattle.words_bounded.proofs.Tests.{both, and_yes, alike, neither, eq_or_not}
use Rattle.words_gf2.specs.Words.{odd}
use Rattle.words_gf2.proofs.Digits.{no_beyond}
use Rattle.words_gf2.proofs.Parity.{odd_lt}
use Rattle.machine_settings.specs.declared.Settings.{Settings}
use Rattle.machine_register.specs.Register.{steps, pulls}
use Rattle.machine_chains.specs.Chains.{slice, bad_mask}
use Rattle.machine_settings.specs.Machine.{Machine, machine}
use Rattle.machine_register.proofs.Steps.{pulls_law}
use Rattle.machine_register.proofs.Causes.{cells_within, taps_below}
use Rattle.machine_chains.proofs.Causes.{chains_masked}
use Rattle.machine_slices.specs.declared.TestSlice.{TestSlice}
use Rattle.machine_slices.specs.Slices.{agrees, shows, bad_slice}
use Rattle.machine_slices.proofs.Formed.{Formed, slice-formed, stop-slice}
use Rattle.search_rows.specs.declared.Pattern.{Pattern}
use Rattle.search_rows.specs.Rows.{row, reads, shown, clear}
use Rattle.search_rows.proofs.Reading.{clear_at, none-clear}
use Rattle.search_table.specs.Chosen.{chosen, packed}
use Rattle.search_table.proofs.Choosing.{chosen-take, chosen_skip, chosen-map}
use Rattle.search_table.proofs.Packing.{packed-take, packed_skip}
use Rattle.theory_covering.specs.Covering.{fits, quiet, covers}
use Rattle.window_tables.specs.Tables.{Tables}
use Rattle.window_rows.specs.Meeting.{meets, all_meet}
use Rattle.window_fitting.specs.Closing.{allowed, closed}
use Rattle.window_rows.proofs.Meeting.{meets-take, meets_skip}

-- ---- one slice

-- two numbers are one where their lowest bits and the rests are
eq_parts : (x y a c : ℕ) → a < 2 → c < 2 → eqb (x * 2 + a) (y * 2 + c) ≡ (eqb a c && eqb x y)
eq_parts x y a c ha hc = alike (eqb (x * 2 + a) (y * 2 + c)) (eqb a c && eqb x y)
    (λ t. let e = eqb-true (x * 2 + a) (y * 2 + c) t in and_yes (eqb a c) (eqb x y) (eq-eqb a c (omega arith)) (eq-eqb x y (omega arith)))
    (λ t. let h = both (eqb a c) (eqb x y) t in eq-eqb (x * 2 + a) (y * 2 + c) (omega (arith, eqb-true a c h.0, eqb-true x y h.1)))

agrees-meets : (ms : List ℕ) (p b s : ℕ) → p < 2 ^ length ms → bit_and b p ≡ b → eqb (bit_and (slice ms s) p) b ≡ meets ms p b s
unfolding slice meets
agrees-meets [] p b s h i =
    let z : p ≡ 0 = omega arith in
    let q : b ≡ 0 = sym i ∙ rw (z, and_zero_r) in
    eq-eqb 0 b (sym q)
agrees-meets (m ∷ ms) p b s h i =
    let a : ℕ = odd s m in
    let v : ℕ = slice ms s in
    let la : a < 2 = odd_lt s m in
    let half : (a + 2 * v) / 2 ≡ v = omega arith in
    let low : (a + 2 * v) % 2 ≡ a = omega arith in
    let e : bit_and (a + 2 * v) p ≡ bit_and v (p / 2) * 2 + min a (p % 2) = rw (half, low) at (and_step (a + 2 * v) p) in
    let lb : min (b % 2) (p % 2) < 2 = omega arith in
    let j : bit_and (b / 2) (p / 2) ≡ b / 2 = omega (arith, and_step b p) in
    let k : min (b % 2) (p % 2) ≡ b % 2 = omega (arith, and_step b p) in
    let d : b ≡ b / 2 * 2 + b % 2 = omega arith in
    let h2 : p < 2 ^ suc (length ms) = h in
    let ih = agrees-meets ms (p / 2) (b / 2) s (omega (arith, h2)) j in
    let lm : min a (p % 2) < 2 = omega arith in
    ap₂ eqb e d ∙ eq_parts (bit_and v (p / 2)) (b / 2) (min a (p % 2)) (b % 2) lm (omega arith)
    ∙ ⊎_elim
    (λ o. let q : min a (p % 2) ≡ a = omega arith in rw (q, ih, meets-take m ms p b s o))
    (λ n.
    let q : min a (p % 2) ≡ 0 = omega arith in
    let r : b % 2 ≡ 0 = omega arith in
    rw (q, r, ih, meets_skip m ms p b s n))
    (eq_or_not (p % 2) 1)

-- ---- the specified positions alone

meets-chosen : (ms : List ℕ) (p b s : ℕ) → reads (chosen p ms) (packed p b (length ms)) s ≡ meets ms p b s
unfolding chosen packed reads meets
meets-chosen [] p b s = refl
meets-chosen (m ∷ ms) p b s = ⊎_elim
    (λ e.
    let w : ℕ = packed (p / 2) (b / 2) (length ms) in
    let q = packed-take p b (length ms) e in
    let l : (b % 2 + 2 * w) % 2 ≡ b % 2 = omega arith in
    let h : (b % 2 + 2 * w) / 2 ≡ w = omega arith in
    rw (chosen-take p m ms e, q, reads, l, h, meets-chosen ms (p / 2) (b / 2) s, meets-take m ms p b s e))
    (λ n. rw (chosen_skip p m ms n, packed_skip p b (length ms) n, meets-chosen ms (p / 2) (b / 2) s, meets_skip m ms p b s n))
    (eq_or_not (p % 2) 1)

-- ---- after t steps

module _ (cells taps : ℕ) (some : 0 < cells) (tapped : taps < 2 ^ cells) where
  meets_pulled : (ms : List ℕ) (p b t s : ℕ) → any (bad_mask cells) ms ≡ false → meets (map (pulls taps t) ms) p b s ≡ meets ms p b (steps cells taps t s)
  unfolding any bad_mask meets
  meets_pulled [] p b t s g = refl
  meets_pulled (m ∷ ms) p b t s g =
      let a = neither (bad_mask cells m) (any (bad_mask cells) ms) g in
      let h : m < 2 ^ cells = no_beyond cells m (neither (eqb m 0) _ a.0).1 in
      let q : odd s (pulls taps t m) ≡ odd (steps cells taps t s) m = sym (pulls_law cells taps t s m some tapped h) in
      let r = meets_pulled ms (p / 2) (b / 2) t s a.1 in
      ⊎_elim
      (λ e. rw (meets-take (pulls taps t m) (map (pulls taps t) ms) p b s e, q, r, meets-take m ms p b (steps cells taps t s) e))
      (λ n. rw (meets_skip (pulls taps t m) (map (pulls taps t) ms) p b s n, r, meets_skip m ms p b (steps cells taps t s) n))
      (eq_or_not (p % 2) 1)

-- ---- the whole window

module _ (g : Settings) (masks : List ℕ) (stop : TestSlice) (p : Pattern) (table stops : List ℕ) (n : ℕ) (r : Tables g masks stop p table stops n) where
  abbrev M : Machine
  M = machine g masks

  abbrev c : ℕ
  c = length masks

  abbrev run : ℕ → ℕ → ℕ
  run t s = steps g.cells g.taps t s

  -- slice t of the seed s agrees with a test slice: row t of the table
  agrees-row : (x : TestSlice) (t s : ℕ) → t < n → Formed c x → agrees x (M.slice (run t s)) ≡ meets (row c table t) x.specified x.bits s
  unfolding agrees
  agrees-row x t s h f =
      ap (λ (v : ℕ). eqb (bit_and v x.specified) x.bits) (ap (bit_xor (slice masks (run t s))) r.upright ∙ xor_zero_r (slice masks (run t s)))
      ∙ agrees-meets masks x.specified x.bits (run t s) f.among f.inside
      ∙ sym (meets_pulled g.cells g.taps (cells_within g.cells g.taps r.register).0 (taps_below g.cells g.taps r.register) masks x.specified x.bits t s (chains_masked g.cells masks r.chains))
      ∙ sym (ap (λ (l : List ℕ). meets l x.specified x.bits s) (r.table.rows t h))

  stop-formed : Formed c stop
  stop-formed = slice-formed c stop (stop-slice c stop r.stop)

  -- it shows the stop: row t of the stop's table
  shows-row : (t s : ℕ) → t < n → shows stop (M.slice (run t s)) ≡ shown p stops t s
  unfolding shows shown
  shows-row t s h =
      agrees-row stop t s h stop-formed
      ∙ ap (λ (l : List ℕ). meets l stop.specified stop.bits s) (r.table.rows t h)
      ∙ sym (meets-chosen (map (pulls g.taps t) masks) stop.specified stop.bits s)
      ∙ ap₂ (λ (l : List ℕ) (k : ℕ). reads l (packed stop.specified stop.bits k) s) (chosen-map (pulls g.taps t) stop.specified masks) (length-map masks (pulls g.taps t))
      ∙ sym (rw r.pattern (ap (λ (l : List ℕ). reads l (packed stop.specified stop.bits c) s) (r.stops.rows t h)))

  fits_from : (w : List TestSlice) (closing : Bool) (t s : ℕ) → t + length w < n → any (bad_slice c) w ≡ false
      → fits M stop closing w (run t s) ≡ (all_meet c table t w s && (not closing || meets (row c table (t + length w)) stop.specified stop.bits s))
  unfolding fits all_meet any shows steps
  fits_from [] closing t s h f = let e : t + 0 ≡ t = omega arith in rw (e, agrees-row stop t s (omega arith) stop-formed)
  fits_from (x ∷ w) closing t s h f =
      let a = neither (bad_slice c x) (any (bad_slice c) w) f in
      let e : t + suc (length w) ≡ suc t + length w = omega arith in
      let close : Bool = not closing || meets (row c table (suc t + length w)) stop.specified stop.bits s in
      rw (agrees-row x t s (omega arith) (slice-formed c x a.0), e)
      (ap (λ (b : Bool). meets (row c table t) x.specified x.bits s && b) (fits_from w closing (suc t) s (omega arith) a.1)
      ∙ sym (and_assoc (meets (row c table t) x.specified x.bits s) (all_meet c table (suc t) w s) close))

  quiet_at : (m t s : ℕ) → t + m ≤ n → quiet M stop m (run t s) ≡ true → (u : ℕ) → u < m → shown p stops (t + u) s ≡ false
  unfolding quiet steps
  quiet_at zero t s h q u l = absurd (omega arith)
  quiet_at (suc m) t s h q zero l =
      let e : t + 0 ≡ t = omega arith in
      rw e (sym (shows-row t s (omega arith)) ∙ not-true (shows stop (M.slice (run t s))) (both (not (shows stop (M.slice (run t s)))) (quiet M stop m (run (suc t) s)) q).0)
  quiet_at (suc m) t s h q (suc u) l =
      let e : t + suc u ≡ suc t + u = omega arith in
      rw e (quiet_at m (suc t) s (omega arith) (both (not (shows stop (M.slice (run t s)))) (quiet M stop m (run (suc t) s)) q).1 u (omega arith))

  at_quiet : (m t s : ℕ) → t + m ≤ n → ((u : ℕ) → u < m → shown p stops (t + u) s ≡ false) → quiet M stop m (run t s) ≡ true
  unfolding quiet steps
  at_quiet zero t s h f = refl
  at_quiet (suc m) t s h f =
      let e : t + 0 ≡ t = omega arith in
      and_yes (not (shows stop (M.slice (run t s)))) (quiet M stop m (run (suc t) s))
      (ap not (shows-row t s (omega arith) ∙ (rw e at (f 0 (zero-lt-suc m)))))
      (at_quiet m (suc t) s (omega arith) (λ u l. (let q : suc t + u ≡ t + suc u = omega arith in rw q (f (suc u) (omega arith)))))

  quiet-clear : (m s : ℕ) → m ≤ n → quiet M stop m s ≡ clear p stops m s
  unfolding steps
  quiet-clear m s h = alike (quiet M stop m s) (clear p stops m s)
      (λ q. none-clear p stops s m (λ u l. (let e : 0 + u ≡ u = omega arith in rw e at (quiet_at m 0 s (omega arith) q u l))))
      (λ q. at_quiet m 0 s (omega arith) (λ u l. (let e : 0 + u ≡ u = omega arith in rw e (clear_at p stops s m u q l))))

  fits-allowed : (w : List TestSlice) (closing : Bool) (s : ℕ) → length w < n → any (bad_slice c) w ≡ false → fits M stop closing w s ≡ allowed c table stop closing w s
  unfolding allowed closed steps
  fits-allowed w closing s h f = let e : 0 + length w ≡ length w = omega arith in (rw e at (fits_from w closing 0 s (omega arith) f))

  pub covers_tables : (w : List TestSlice) (closing : Bool) (s : ℕ) → length w < n → any (bad_slice c) w ≡ false
      → covers M stop closing w s ≡ (allowed c table stop closing w s && clear p stops (length w) s)
  unfolding covers
  covers_tables w closing s h f = ap₂ (λ (a b : Bool). a && b) (fits-allowed w closing s h f) (quiet-clear (length w) s (omega arith))
