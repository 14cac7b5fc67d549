-- The expanding of a seed list (document 01, under its refusal sheet: "In expanding, seeds are tested one after another by 10, 11, 12; then 14, then 9"; document 02, R-5: the last seed ends where the slices end).
--     Walk                                  the slices of all seeds, or the cause of the first refused seed, or 14 of a last seed with nothing left
--     after vs w                            the slices vs, then those of the walk w
--     is_last ss                             no seed is left behind this one
--     adding M done s m w                   the seed s delivers m slices after done others, then comes the walk w
--     walk M R n place done seeds           the seeds from that place on, when done of n slices are delivered
--     totalled n out w                      the outcome of a walk: its cause, 14 where the total differs, or the slices, or 9
--     expanding M R n seeds out             the answer and the buffer that expanding leaves
--     expand_list g masks stop n seeds out     the same of the whole call: causes 1, 2, 3 and 5 come first
use Rattle.std.specs.Prelude.{Bool, true, false, ◌&&◌, List, [], ◌∷◌, ◌++◌, ℕ, zero, suc, ◌+◌, ◌-◌, eqb, length, Err, Ok}
use Rattle.refusal_causes.specs.declared.Cause.{Cause}
use Rattle.refusal_causes.specs.declared.Cause.TheVariants.{Total}
use Rattle.refusal_causes.specs.Outcome.{Outcome, refuse, fill}
use Rattle.machine_settings.specs.declared.Settings.{Settings}
use Rattle.machine_settings.specs.Machine.{Machine, machine}
use Rattle.machine_slices.specs.declared.TestSlice.{TestSlice}
use Rattle.refusal_order.specs.Order.{judged}
use Rattle.refusal_checks.specs.Calls.{list_faults}
use Rattle.theory_covering.specs.Rules.{Rules, rules}
use Rattle.expander_meaning.specs.Run.{slices_of, gives, fails, delivers}

pub data Walk : Type 0 where
  ran : List ℕ → Walk
  failed : Cause → Walk

unfoldable pub after : List ℕ → Walk → Walk
after vs (ran ws) = ran (vs ++ ws)
after vs (failed c) = failed c

abbrev pub is_last : List ℕ → Bool
is_last [] = true
is_last (s ∷ ss) = false

-- A last seed with nothing left to deliver adds 0: cause 14 with what the seeds before it delivered.
unfoldable pub adding : Machine → ℕ → ℕ → ℕ → Walk → Walk
adding M done s zero w = failed (Total done)
adding M done s (suc m) w = after (slices_of M (suc m) s) w

unfoldable pub walk : Machine → Rules → ℕ → ℕ → ℕ → List ℕ → Walk
walk M R n place done [] = ran []
walk M R n place done (s ∷ ss) = elim (delivers M R (R.live done) place (R.open_end && is_last ss) (n - done) s) [
  | fails c ↦ failed c
  | gives m ↦ adding M done s m (walk M R n (suc place) (done + m) ss)
]

-- A list with no seed is cause 14 with 0.
unfoldable pub totalled : ℕ → List ℕ → Walk → Outcome
totalled n out (failed c) = refuse c out
totalled n out (ran vs) = elim (eqb (length vs) n) [ true ↦ fill vs out | false ↦ refuse (Total (length vs)) out ]

unfoldable pub expanding : Machine → Rules → ℕ → List ℕ → List ℕ → Outcome
expanding M R n seeds out = totalled n out (walk M R n 0 0 seeds)

unfoldable pub expand_list : Settings → List ℕ → TestSlice → ℕ → List ℕ → List ℕ → Outcome
expand_list g masks stop n seeds out = elim (judged (list_faults g masks stop n (length seeds))) [
  | Err c ↦ refuse c out
  | (Ok tt) ↦ expanding (machine g masks) (rules g stop) n seeds out
]
