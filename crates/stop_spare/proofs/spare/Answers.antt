-- `stop_spare::spare` meets its contract: each pattern passed over is taken. Assumes nothing.
use mathlib.Core.Path.{◌≡◌, sym, ◌∙◌}
use Prim.Native.Nat.{◌^◌}
use native.Mathlib.Omega.{arith}
use borrow.Author.Rules.{rules}
use Rattle.words_gf2.proofs.Digits.{one_shifted}
use Rattle.machine_slices.specs.Slices.{paired}
use Rattle.stop_spare.proofs.Search.{passed_more, spare-found, spare-none, patterns_fit}
use Rattle.stop_spare.proofs.spare.Goals as goal

pub overflow_shl-patterns : goal.overflow_shl-patterns
overflow_shl-patterns c =
    patterns_fit c.args.chains c.args.specified.now c.args.bits.now c.requires.few (search rules)

pub loop-candidate-init : goal.loop-candidate-init
loop-candidate-init c =
    (one_shifted c.args.chains (patterns_fit c.args.chains c.args.specified.now c.args.bits.now c.requires.few (search rules)), λ v h. absurd (omega arith))

pub returns-then-not-taken : goal.returns-then-not-taken
returns-then-not-taken c =
    let l = c.loop-candidate in
    let a = c.args in
    let e = l.invariant.0 in
    let p = c.pattern_of-pattern.ensures in
    let free = sym c.taken.ensures ∙ c.if-not-taken.true in
    rw (p, e) (sym ((spare-found a.chains (paired a.specified.now a.bits.now) l.candidate (omega arith) l.invariant.1 (rw (p, e) at free))))

pub loop-candidate-preserved : goal.loop-candidate-preserved
loop-candidate-preserved c =
    let l = c.loop-candidate in
    let a = c.args in
    let e = l.invariant.0 in
    let p = c.pattern_of-pattern.ensures in
    let held = sym c.taken.ensures ∙ c.if-not-taken.false in
    (e, passed_more a.chains (paired a.specified.now a.bits.now) l.candidate l.invariant.1 (rw (p, e) at held))

pub returns : goal.returns
returns c =
    let l = c.loop-candidate in
    let a = c.args in
    let e : l.candidate ≡ 2 ^ a.chains = omega arith in
    sym ((spare-none a.chains (paired a.specified.now a.bits.now) (rw e at l.invariant.1)))
