-- Laws of the closing stop after the slices of a window.
--     closed_yes, closed_no     the closing stop after the slices, or none
--     allowed-closed    the slices and the closing stop
--     closed_yes_if, closed_no_if, allowed_closed_if     the same of a space that may be absent, its vectors the first entries of a buffer
-- Assumes nothing.
use Rattle.std.specs.Prelude.{None, Option, Some}
use mathlib.Core.Path.{◌≡◌, refl}
use mathlib.Core.Bool.{Bool, true, false, ◌&&◌}
use mathlib.Core.List.{List}
use Prim.Native.Nat.{ℕ}
use lib.ListN.{length, take}
use Rattle.search_space.specs.declared.Space.{Space}
use Rattle.search_rows.specs.Rows.{row}
use Rattle.machine_slices.specs.declared.TestSlice.{TestSlice}
use Rattle.window_rows.specs.Meeting.{meets, all_meet}
use Rattle.window_rows.specs.Narrowing.{Narrows, Narrowed, NarrowedIf}
use Rattle.window_rows.proofs.Narrowing.{narrows_none, narrows_same, narrowed_same, narrowed_then, narrowed_onward}
use Rattle.window_fitting.specs.Closing.{closed, allowed}

module _ (c : ℕ) (table : List ℕ) (stop : TestSlice) (n : ℕ) where
  module _ (y : Space) (vs : List ℕ) where
    pub closed_yes : (z : Option Space) (out : List ℕ) (closing : Bool) → closing ≡ true → Narrowed (meets (row c table n) stop.specified stop.bits) y vs z out → Narrowed (closed c table stop closing n) y vs z out
    unfolding closed
    closed_yes z out closing e g = narrowed_same (meets (row c table n) stop.specified stop.bits) (closed c table stop closing n) y vs z out (λ s. rw e) g

    pub closed_no : (closing : Bool) → closing ≡ false → Narrows (closed c table stop closing n) y vs y vs
    unfolding closed
    closed_no closing e = narrows_same (λ s. true) (closed c table stop closing n) y vs y vs (λ s. rw e) (narrows_none y vs)

  module _ (l : List ℕ) where
    pub closed_yes_if : (y z : Option Space) (out : List ℕ) (closing : Bool) → closing ≡ true → NarrowedIf (meets (row c table n) stop.specified stop.bits) y l z out → NarrowedIf (closed c table stop closing n) y l z out
    closed_yes_if None z out closing e g = g
    closed_yes_if (Some y) z out closing e g = closed_yes y (take y.free l) z out closing e g

    pub closed_no_if : (y : Option Space) (closing : Bool) → closing ≡ false → NarrowedIf (closed c table stop closing n) y l y l
    closed_no_if None closing e = (refl, refl)
    closed_no_if (Some y) closing e = closed_no y (take y.free l) closing e

pub allowed-closed : (c : ℕ) (table : List ℕ) (stop : TestSlice) (w : List TestSlice) (x : Space) (us : List ℕ) (y : Space) (vs : List ℕ) (z : Option Space) (out : List ℕ) (closing : Bool) (n : ℕ) → length w ≡ n
    → Narrows (all_meet c table 0 w) x us y vs → Narrowed (closed c table stop closing n) y vs z out → Narrowed (allowed c table stop closing w) x us z out
unfolding allowed
allowed-closed c table stop w x us y vs z out closing n l f g =
    narrowed_same (λ s. all_meet c table 0 w s && closed c table stop closing n s) (allowed c table stop closing w) x us z out
    (λ s. rw l)
    (narrowed_then (all_meet c table 0 w) (closed c table stop closing n) x us y vs z out f g)

pub allowed_closed_if : (c : ℕ) (table : List ℕ) (stop : TestSlice) (w : List TestSlice) (x : Space) (us : List ℕ) (y : Option Space) (l : List ℕ) (z : Option Space) (out : List ℕ) (closing : Bool) (n : ℕ) → length w ≡ n
    → Narrowed (all_meet c table 0 w) x us y l → NarrowedIf (closed c table stop closing n) y l z out → Narrowed (allowed c table stop closing w) x us z out
unfolding allowed
allowed_closed_if c table stop w x us y l z out closing n e f g =
    narrowed_same (λ s. all_meet c table 0 w s && closed c table stop closing n s) (allowed c table stop closing w) x us z out
    (λ s. rw e)
    (narrowed_onward (all_meet c table 0 w) (closed c table stop closing n) x us y l z out f g)
