-- The best choice, tracked with its count.
--     track_more, track_less     a choice against the best of the lower ones
--     weighed-set, weighed_unset     a choice at a set position, and at an unset one
--     weigh-next                 the best of the choices below q, and one choice more
-- Assumes nothing.
use Rattle.std.specs.Prelude.{None, Option, Some}
use mathlib.Core.Path.{◌≡◌, refl, ap}
use mathlib.Core.Bool.{Bool, true, false}
use mathlib.Core.List.{List}
use Prim.Native.Nat.{ℕ, ◌+◌, ◌/◌, ◌%◌, ◌≤◌, ◌<◌}
use native.Mathlib.Numerals.{add-one}
use native.Mathlib.Omega.{arith}
use lib.Dec.{ltb}
use borrow.Author.Tests.{lt-ltb, le-ltb, eq-eqb}
use Rattle.words_gf2.specs.Words.{digit}
use Rattle.words_gf2.proofs.Digits.{digit_lt}
use Rattle.machine_slices.specs.declared.TestSlice.{TestSlice}
use Rattle.machine_slices.specs.Slices.{paired}
use Rattle.stop_steps.specs.Steps.{is_set, put, better, choice}
use Rattle.stop_steps.specs.Lookup.{BitsSpecified, in_count}
use Rattle.stop_choice.specs.Choosing.{counted, tracked, track, count_in, weighed}
use Rattle.stop_steps.proofs.Lookup.{free_unset, count_in_lem}
use Rattle.stop_choice.specs.declared.Best.{Best}

pub track_more : (q n r most : ℕ) → most < n → track q n (counted r most) ≡ counted q n
unfolding track
track_more q n r most h = rw (lt-ltb most n h, track)

pub track_less : (q n r most : ℕ) → n ≤ most → track q n (counted r most) ≡ counted r most
unfolding track
track_less q n r most h = rw (le-ltb most n h, track)

tracked-better : (counts : ℕ → ℕ) (q : ℕ) (o : Option ℕ) → track q (counts q) (tracked counts o) ≡ tracked counts (better counts q o)
unfolding better track
tracked-better counts q None = refl
tracked-better counts q (Some r) = go (ltb (counts r) (counts q))
  where
    go : (b : Bool) → elim b [ true ↦ counted q (counts q) | false ↦ counted r (counts r) ] ≡ tracked counts (elim b [ true ↦ Some q | false ↦ Some r ])
    go true = refl
    go false = refl

module _ (stop : TestSlice) (specified bits : List ℕ) where
  abbrev counts : ℕ → ℕ
  counts = count_in stop specified bits

  module _ (q : ℕ) (best : Option Best) where
    pub weighed-set : (digit stop.specified (q / 2) ≡ 0 → ⊥) → weighed stop specified bits q best ≡ best
    unfolding weighed
    weighed-set h = rw (eq-eqb (digit stop.specified (q / 2)) 1 (omega (arith, digit_lt stop.specified (q / 2))), weighed)

    pub weighed_unset : BitsSpecified stop → digit stop.specified (q / 2) ≡ 0 → weighed stop specified bits q best ≡ track q (in_count (put (q / 2) (q % 2) stop) specified bits) best
    unfolding weighed in_count
    weighed_unset f z =
        let u = free_unset stop (q / 2) z in
        rw (u, weighed) (ap (λ (n : ℕ). track q n best) (count_in_lem stop f q u (paired specified bits)))

  pub weigh-next : (q : ℕ) → weighed stop specified bits q (tracked counts (choice stop counts q)) ≡ tracked counts (choice stop counts (q + 1))
  unfolding choice weighed
  weigh-next q = rw add-one (go (is_set (q / 2) stop))
    where
      go : (b : Bool) → elim b [ true ↦ tracked counts (choice stop counts q) | false ↦ track q (counts q) (tracked counts (choice stop counts q)) ]
          ≡ tracked counts (elim b [ true ↦ choice stop counts q | false ↦ better counts q (choice stop counts q) ])
      go true = refl
      go false = tracked-better counts q (choice stop counts q)
