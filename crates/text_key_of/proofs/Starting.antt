-- Whether a line begins with a name (`starts`), as std says it.
--     starts-std       std's test of equal bytes at the front
-- Assumes nothing.
use mathlib.Core.Bool.{◌&&◌}
use mathlib.Core.Path.{◌≡◌, refl, ap}
use mathlib.Core.List.{List, [], ◌∷◌}
use Prim.Native.Nat.{ℕ}
use lib.Dec.{eqb}
use Rattle.std.specs.List.{starts_with}
use Rattle.text_key_of.specs.Begins.{starts}

pub starts-std : (k l : List ℕ) → starts_with eqb l k ≡ starts k l
unfolding starts
starts-std [] l = refl
starts-std (a ∷ k) [] = refl
starts-std (a ∷ k) (b ∷ l) = ap (λ t. eqb a b && t) (starts-std k l)
