-- `window_single::seed_upright` meets its contract. Assumes nothing.
use Rattle.std.specs.Prelude.{None, Option, Some, ok_or}
use mathlib.Core.Path.{◌≡◌, refl, sym, ap, ◌∙◌}
use Prim.Native.Nat.{ℕ, ◌+◌}
use Rattle.refusal_causes.specs.declared.Cause.TheVariants as cause
use Rattle.theory_covering.specs.Single.{lowest_or7}
use native.Mathlib.Omega.{arith}
use native.Mathlib.Numerals.{add-one}
use lib.ListN.{length}
use Rattle.refusal_lengths.proofs.Lengths.{window_within}
use Rattle.refusal_checks.proofs.Formed.{window_formed}
use Rattle.window_tables.proofs.Tables.{table-room, tables_filled}
use Rattle.window_single.proofs.seed_upright.Goals as goal

pub fill-requires : goal.fill-requires
fill-requires c =
    let a = c.args in
    let w = window_formed a.settings a.masks.now a.stop a.specified.now a.bits.now c.requires.0 in
    table-room (length a.specified.now + 1) (length a.masks.now) (omega (arith, (window_within a.settings.limit (length a.specified.now) w.lengths).1, w.most)) w.few

pub fill_stops-pattern-requires : goal.fill_stops-pattern-requires
fill_stops-pattern-requires c =
    let a = c.args in
    let w = window_formed a.settings a.masks.now a.stop a.specified.now a.bits.now c.requires.0 in
    (w.few, table-room (length a.specified.now + 1) (length a.masks.now) (omega (arith, (window_within a.settings.limit (length a.specified.now) w.lengths).1, w.most)) w.few)

pub found_anew-requires : goal.found_anew-requires
found_anew-requires c =
    let a = c.args in
    let w = window_formed a.settings a.masks.now a.stop a.specified.now a.bits.now c.requires.0 in
    let k = c.fill_stops-pattern in
    let f = c.fill in record { tables_for = rw (sym (add-one (length a.specified.now))) (tables_filled a.settings a.masks.now a.stop k.result f.new.table k.new.stops _ _ (length a.specified.now + 1) w.register w.chains c.requires.1 w.stop k.ensures.answer f.ensures k.ensures.buffer); bits_value = w.slices }

or7 : (o : Option ℕ) → ok_or o cause.NoSeed ≡ lowest_or7 o
unfolding lowest_or7
or7 None = refl
or7 (Some s) = refl

pub returns : goal.returns
returns c = c.ok_or.ensures.value ∙ ap (λ (o : Option ℕ). ok_or o cause.NoSeed) c.found_anew.ensures ∙ or7 _
