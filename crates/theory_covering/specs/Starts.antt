-- The starts of a set, where its last window need not close with its stop (document 02, R-5: "Refusal 8 counts only starts whose windows all close with the stop").
--     StartsClosed M R set     the law: a row of windows that ends before the set does is one of windows that all close, and the other way round
use Rattle.std.specs.Prelude.{List, ◌↔◌, ℕ, ◌<◌, length}
use Rattle.machine_settings.specs.Machine.{Machine}
use Rattle.machine_slices.specs.declared.TestSlice.{TestSlice}
use Rattle.theory_cutting.specs.Cutting.{Cutting, Covering}
use Rattle.theory_covering.specs.Rules.{Rules, closed_rules}
use Rattle.theory_covering.specs.Windows.{CoveredBy, Window}

pub record StartsClosed (M : Machine) (R : Rules) (set : List TestSlice) : Type 0 where
  pub cut : {a b : ℕ} {es : List ℕ} → b < length set → Cutting (Window M R set) a es b ↔ Cutting (Window M (closed_rules R) set) a es b
  pub covered : {a b : ℕ} {es ss : List ℕ} → b < length set → Covering (CoveredBy M R set) a es ss b ↔ Covering (CoveredBy M (closed_rules R) set) a es ss b
