-- Where the pivot of a mask stands.
--     first_odd mask vs     the place of the first vector that is odd under the mask, or None where none is
use Rattle.std.specs.Prelude.{List, ℕ, eqb, Option}
use Rattle.std.specs.List.{position_from}
use Rattle.words_gf2.specs.Words.{odd}

abbrev pub first_odd : ℕ → List ℕ → Option ℕ
first_odd mask vs = position_from (λ v. eqb (odd v mask) 1) 0 vs
