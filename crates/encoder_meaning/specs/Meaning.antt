-- What the answer of the encoding of a set means (document 01, "Covering and cutting"; demands 2 and 3). These name neither the greedy cutting nor the seed of a window.
--     Delivers set expanded      an expanding is accepted where there is space, with the set's total, and slice i agrees with test slice i; `expanded` gives its outcome for a lent buffer
--     Shortest M R set seeds     the seeds cover a cutting of the set, and no list of states that covers any cutting of it is shorter; after any number of seeds no other list has delivered more
--     Uncut M R set g            the set has no cutting, and its longest start that can be cut has g slices: into windows that all close with their stop, for none of them ends the set
--     Listed M R set n           a shortest list of the set has n seeds
--     Meaning M R set out o      what the outcome o says of the set
--     SetMeaning .. o            what the outcome o of the whole call says, with the stop slice handed in
use Rattle.std.specs.Prelude.{◌≡◌, ◌↔◌, ◌⊎◌, true, List, ◌++◌, ℕ, ◌≤◌, ◌<◌, length, get_or, take, drop, Err, Ok}
use Rattle.refusal_causes.specs.declared.Cause.{Cause}
use Rattle.refusal_causes.specs.Outcome.{Outcome, refuse, fill}
use Rattle.machine_slices.specs.declared.TestSlice.{TestSlice}
use Rattle.theory_cutting.specs.Cutting.{Cutting, Covering, delivered}
use Rattle.theory_covering.specs.Rules.{Rules, rules, closed_rules}
use Rattle.theory_covering.specs.Windows.{CoveredBy, Window}
use Rattle.machine_settings.specs.declared.Settings.{Settings}
use Rattle.machine_settings.specs.Machine.{Machine, machine}
use Rattle.machine_slices.specs.Slices.{agrees, paired}
use Rattle.refusal_order.specs.Order.{judged}
use Rattle.refusal_checks.specs.Calls.{set_faults}
use Rattle.expander_meaning.specs.Expanding.{expand_list}
use Rattle.refusal_causes.specs.declared.Cause.TheVariants as cause

pub record Delivers (set : List TestSlice) (expanded : List ℕ → Outcome) : Type 0 where
  pub slices : List ℕ
  pub accepted : (out : List ℕ) → expanded out ≡ fill slices out
  pub whole : length slices ≡ length set
  pub agree : (i : ℕ) (t : TestSlice) → i < length set → agrees (get_or set i t) (get_or slices i 0) ≡ true

pub record Shortest (M : Machine) (R : Rules) (set : List TestSlice) (seeds : List ℕ) : Type 0 where
  pub ends : List ℕ
  pub covers : Covering (CoveredBy M R set) 0 ends seeds (length set)
  pub shortest : (es ss : List ℕ) → Covering (CoveredBy M R set) 0 es ss (length set) → length seeds ≤ length ss
  pub ahead : (b : ℕ) (es ss : List ℕ) → Covering (CoveredBy M R set) 0 es ss b → (j : ℕ) → delivered 0 es j ≤ delivered 0 ends j

pub record Uncut (M : Machine) (R : Rules) (set : List TestSlice) (g : ℕ) : Type 0 where
  pub short : g < length set
  pub upto : List ℕ
  pub cuts : Cutting (Window M R set) 0 upto g
  pub longest : (b : ℕ) (es : List ℕ) → Cutting (Window M R set) 0 es b → b ≤ g
  -- document 02, R-5: only starts whose windows all close count
  pub closed : Cutting (Window M (closed_rules R) set) 0 upto g
  pub longest_closed : (b : ℕ) (es : List ℕ) → b < length set → Cutting (Window M (closed_rules R) set) 0 es b → b ≤ g

pub record Listed (M : Machine) (R : Rules) (set : List TestSlice) (n : ℕ) : Type 0 where
  pub seeds : List ℕ
  pub shortest : Shortest M R set seeds
  pub count : length seeds ≡ n

pub record Meaning (M : Machine) (R : Rules) (set : List TestSlice) (out : List ℕ) (o : Outcome) : Type 0 where
  -- one of three: accepted, 8 or 9
  pub answered : ((n : ℕ) × (o.answer ≡ Ok n)) ⊎ (((g : ℕ) × (o.answer ≡ Err (cause.NoCutting g))) ⊎ ((n : ℕ) × (o.answer ≡ Err (cause.NoSpace n))))
  -- accepted: the seeds stand in the buffer, and every other entry is as it was
  pub accepted : (n : ℕ) → o.answer ≡ Ok n → (l : Listed M R set n) × (o.buffer ≡ l.seeds ++ drop n out)
  -- cause 8: whatever the space
  pub uncut : (g : ℕ) → o.answer ≡ Err (cause.NoCutting g) → Uncut M R set g × (o.buffer ≡ out)
  -- cause 9: only the space is short
  pub no_space : (n : ℕ) → o.answer ≡ Err (cause.NoSpace n) → Listed M R set n × (length out < n) × (o.buffer ≡ out)
  -- refused by 8 exactly when the set has no cutting
  pub exactly : ((g : ℕ) × (o.answer ≡ Err (cause.NoCutting g))) ↔ ((es : List ℕ) → Cutting (Window M R set) 0 es (length set) → ⊥)

-- The call with the stop slice handed in: the first of causes 1 to 5 that holds; otherwise what the encoding means, and an accepted list expands back to the set.
pub record SetMeaning (g : Settings) (masks : List ℕ) (stop : TestSlice) (specified bits out : List ℕ) (o : Outcome) : Type 0 where
  pub refused : (c : Cause) → judged (set_faults g masks stop specified bits) ≡ Err c → o ≡ refuse c out
  pub meaning : judged (set_faults g masks stop specified bits) ≡ Ok tt → Meaning (machine g masks) (rules g stop) (paired specified bits) out o
  pub delivers : (n : ℕ) → judged (set_faults g masks stop specified bits) ≡ Ok tt → o.answer ≡ Ok n
      → Delivers (paired specified bits) (expand_list g masks stop (length specified) (take n o.buffer))
