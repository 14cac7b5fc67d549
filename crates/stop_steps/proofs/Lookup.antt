-- A slice that is looked up is in exactly while the published steps leave it in (document 02, R-7).
--     in_each, each_in                  a slice is in: it has the stop's bit at each set position
--     one_weight                        the weight of a position
--     unset_free, free_unset, free_bit  an unset position, and its bit
--     put_specified, put_bits, put-here, put_bit, put-formed     a position more is set
--     in_put                            after a position is set, the slices in are those that were in and have its bit
--     in_start                          before the first step all are in
--     left_in                           the slices that a step leaves in are those that are looked up to be in after it
--     count_in_lem                          the count of a choice, looked up
-- Assumes nothing.
use mathlib.Core.Path.{◌≡◌, refl, sym, ap, ◌∙◌}
use mathlib.Core.Logic.{⊎_elim}
use mathlib.Core.Bool.{Bool, true, false, ◌&&◌}
use mathlib.Core.List.{List}
use Prim.Native.Nat.{ℕ, ◌+◌, ◌-◌, ◌*◌, ◌/◌, ◌%◌, ◌^◌, ◌<◌, min}
use native.Mathlib.Omega.{arith}
use lib.Bits.{bit_and, and_zero_r}
use lib.Dec.{eqb}
use lib.ListN.{length}
use borrow.Author.Tests.{eqb-true, eqb-false, eq-eqb, ne_eqb}
use Rattle.words_bounded.proofs.Tests.{clash, lt_or_le, both, and_yes, alike}
use Rattle.words_gf2.specs.Words.{digit}
use Rattle.words_gf2.proofs.Digits.{digit_and, digit_lt, words_equal, put_same, put_other}
use Rattle.machine_slices.specs.declared.TestSlice.{TestSlice}
use Rattle.machine_slices.specs.Slices.{agrees, shows}
use Rattle.machine_slices.proofs.Agreeing.{agrees-each, each-agrees}
use Rattle.stop_steps.specs.Steps.{has, is_set, filter, count, put, settle, keep, start}
use Rattle.stop_steps.specs.Lookup.{HasAll, BitsSpecified, is_in}
use Rattle.stop_steps.proofs.Filter.{filter_alike, filter-filter, filter_all}

module _ (stop t : TestSlice) where
  pub in_each : is_in stop t ≡ true → HasAll stop t
  unfolding is_in shows
  in_each h p s =
      let b = both (eqb (bit_and t.specified stop.specified) stop.specified) (shows stop t.bits) h in
      let e : digit (bit_and t.specified stop.specified) p ≡ digit stop.specified p = ap (λ (x : ℕ). digit x p) (eqb-true _ _ b.0) in
      let one = eqb-true (digit stop.specified p) 1 s in
      let a = digit_and t.specified stop.specified p in
      let l = digit_lt t.specified p in
      and_yes (eqb (digit t.specified p) 1) (eqb (digit t.bits p) (digit stop.bits p)) (eq-eqb (digit t.specified p) 1 (omega arith)) (eq-eqb _ _ (agrees-each stop t.bits b.1 p one))

  pub each_in : BitsSpecified stop → HasAll stop t → is_in stop t ≡ true
  unfolding is_in shows
  each_in f each = and_yes (eqb (bit_and t.specified stop.specified) stop.specified) (shows stop t.bits) (eq-eqb _ _ (words_equal _ _ specified_each)) (each-agrees stop t.bits f bits_each)
    where
      parts : (p : ℕ) → digit stop.specified p ≡ 1 → (digit t.specified p ≡ 1) × (digit t.bits p ≡ digit stop.bits p)
      parts p one =
          let b = both (eqb (digit t.specified p) 1) (eqb (digit t.bits p) (digit stop.bits p)) (each p (eq-eqb (digit stop.specified p) 1 one)) in
          (eqb-true _ 1 b.0, eqb-true _ _ b.1)

      bits_each : (p : ℕ) → digit stop.specified p ≡ 1 → digit t.bits p ≡ digit stop.bits p
      bits_each p one = (parts p one).1

      specified_each : (p : ℕ) → digit (bit_and t.specified stop.specified) p ≡ digit stop.specified p
      specified_each p =
          let a = digit_and t.specified stop.specified p in
          let l = digit_lt t.specified p in
          let m = digit_lt stop.specified p in
          ⊎_elim (λ z. omega arith) (λ o. let e = parts p (omega arith) in omega arith) (lt_or_le (digit stop.specified p) 1)

pub one_weight : (x p : ℕ) → x + 1 * 2 ^ p ≡ x + 2 ^ p
one_weight x p = omega arith

pub unset_free : (stop : TestSlice) (p : ℕ) → is_set p stop ≡ false → digit stop.specified p ≡ 0
unset_free stop p unset =
    let l = digit_lt stop.specified p in
    ⊎_elim (λ z. omega arith) (λ o. absurd (eqb-false (digit stop.specified p) 1 unset (omega arith))) (lt_or_le (digit stop.specified p) 1)

pub free_unset : (stop : TestSlice) (p : ℕ) → digit stop.specified p ≡ 0 → is_set p stop ≡ false
free_unset stop p z = ne_eqb (digit stop.specified p) 1 (λ e. omega arith)

module _ (stop : TestSlice) (p b : ℕ) (unset : is_set p stop ≡ false) (bit : b < 2) (f : BitsSpecified stop) where
  free : digit stop.specified p ≡ 0
  free = unset_free stop p unset

  pub free_bit : digit stop.bits p ≡ 0
  free_bit =
      let e : digit (bit_and stop.bits stop.specified) p ≡ digit stop.bits p = ap (λ (x : ℕ). digit x p) f in
      omega (arith, digit_and stop.bits stop.specified p, free)

  put_specified : (i : ℕ) → (i ≡ p → ⊥) → digit (put p b stop).specified i ≡ digit stop.specified i
  put_specified i ne = rw (one_weight stop.specified p) at (put_other 1 (omega arith) stop.specified p i free ne)

  put_bits : (i : ℕ) → (i ≡ p → ⊥) → digit (put p b stop).bits i ≡ digit stop.bits i
  put_bits i ne = put_other b bit stop.bits p i free_bit ne

  put-here : digit (put p b stop).specified p ≡ 1
  put-here = rw (one_weight stop.specified p) at (put_same 1 (omega arith) stop.specified p free)

  put_bit : digit (put p b stop).bits p ≡ b
  put_bit = put_same b bit stop.bits p free_bit

  pub put-formed : BitsSpecified (put p b stop)
  put-formed = words_equal _ _ (λ i. digit_and (put p b stop).bits (put p b stop).specified i ∙ go i (eqb i p) refl)
    where
      go : (i : ℕ) (t : Bool) → eqb i p ≡ t → min (digit (put p b stop).bits i) (digit (put p b stop).specified i) ≡ digit (put p b stop).bits i
      go i true e = rw (eqb-true i p e, put-here, put_bit) (omega arith)
      go i false e =
          let ne = eqb-false i p e in
          rw (put_specified i ne, put_bits i ne) (sym (digit_and stop.bits stop.specified i) ∙ ap (λ (x : ℕ). digit x i) f)

  module _ (t : TestSlice) where
    was_in : is_in (put p b stop) t ≡ true → is_in stop t && has p b t ≡ true
    was_in h = and_yes (is_in stop t) (has p b t) (each_in stop t f before) (rw put_bit at (in_each (put p b stop) t h p (eq-eqb _ 1 put-here)))
      where
        before : HasAll stop t
        before i s =
            let ne : (i ≡ p → ⊥) = λ e. clash (is_set i stop) s (rw e unset) in
            rw (put_bits i ne) at (in_each (put p b stop) t h i (eq-eqb _ 1 (put_specified i ne ∙ eqb-true _ 1 s)))

    still_in : is_in stop t && has p b t ≡ true → is_in (put p b stop) t ≡ true
    still_in h = each_in (put p b stop) t put-formed (λ i s. go i (eqb i p) refl s)
      where
        parts : (is_in stop t ≡ true) × (has p b t ≡ true)
        parts = both (is_in stop t) (has p b t) h

        go : (i : ℕ) (c : Bool) → eqb i p ≡ c → is_set i (put p b stop) ≡ true → has i (digit (put p b stop).bits i) t ≡ true
        go i true e s = rw (eqb-true i p e, put_bit) parts.1
        go i false e s =
            let ne = eqb-false i p e in
            rw (put_bits i ne) (in_each stop t parts.0 i (eq-eqb _ 1 (sym (put_specified i ne) ∙ eqb-true _ 1 s)))

    in_put : is_in (put p b stop) t ≡ is_in stop t && has p b t
    in_put = alike (is_in (put p b stop) t) (is_in stop t && has p b t) was_in still_in

-- before the first step all are in
pub in_start : (set : List TestSlice) → filter (is_in (start set).stop) set ≡ set
unfolding is_in shows agrees
in_start set = filter_all (is_in (start set).stop) (λ t. rw (and_zero_r t.specified, and_zero_r t.bits)) set

module _ (stop : TestSlice) (f : BitsSpecified stop) (q : ℕ) (unset : is_set (q / 2) stop ≡ false) (set : List TestSlice) where
  pub left_in : keep q (filter (is_in stop) set) ≡ filter (is_in (settle q stop)) set
  unfolding keep settle
  left_in =
      filter-filter (has (q / 2) (1 - q % 2)) (is_in stop) set
      ∙ filter_alike _ _ (λ t. sym (in_put stop (q / 2) (1 - q % 2) unset (omega arith) f t)) set

  pub count_in_lem : count q (filter (is_in stop) set) ≡ length (filter (is_in (put (q / 2) (q % 2) stop)) set)
  unfolding count
  count_in_lem =
      ap length (filter-filter (has (q / 2) (q % 2)) (is_in stop) set
      ∙ filter_alike _ _ (λ t. sym (in_put stop (q / 2) (q % 2) unset (omega arith) f t)) set)
