-- `search_pivot::take_out` meets its contract. Assumes nothing.
use mathlib.Core.Path.{sym, ◌∙◌, ap₂}
use Prim.Native.Nat.{ℕ}
use Rattle.search_pivot.proofs.Taking.{taken_none, taken_some}
use Rattle.search_pivot.specs.declared.Taken.{Taken}
use Rattle.search_pivot.proofs.take_out.Goals as goal

pub returns-in_default : goal.returns-in_default
returns-in_default c =
    let a = c.args in
    let r = taken_none a.mask a.free a.vectors.now c.min-count.result c.min-count.ensures (sym c.first_odd.ensures.first ∙ c.in_default.is) in
    let taken : ℕ → ℕ → Taken = λ p n. record { pivot = p; left = n } in record { answer = ap₂ taken r.0 r.1; buffer = r.2 }

pub returns : goal.returns
returns c =
    let a = c.args in
    let n = c.min-count in
    let r = taken_some a.mask a.free a.vectors.now n.result n.ensures c.in-Some.place (sym c.first_odd.ensures.first ∙ c.in-Some.is) in
    let taken : ℕ → ℕ → Taken = λ p n. record { pivot = p; left = n } in record { answer = ap₂ taken r.0 r.1; buffer = c.close_up.ensures ∙ r.2 }
