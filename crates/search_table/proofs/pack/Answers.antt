-- `search_table::pack` meets its contract. Assumes nothing.
use mathlib.Core.Path.{ap, subst, ◌≡◌, ◌∙◌, sym}
use Prim.Native.Nat.{◌-◌, ◌/◌, ◌^◌, ℕ, min}
use native.Mathlib.Omega.{arith}
use borrow.Author.Rules.{rules}
use Rattle.words_gf2.proofs.Digits.{digit_lt}
use Rattle.search_table.specs.Chosen.{packed}
use Rattle.search_table.proofs.Packing.{pack-start, pack-take, pack_skip, pack_end, pack-room}
use Rattle.search_table.proofs.pack.Goals as goal

pub loop-position-init : goal.loop-position-init
loop-position-init c = pack-start c.args.specified c.args.bits c.min-position.result

pub overflow_mul-word : goal.overflow_mul-word
overflow_mul-word c =
    let l = c.loop-position in
    let r = pack-room c.args.specified c.args.bits c.min-position.result l.position (omega arith) (omega arith) (omega arith) in
    search rules

pub overflow_add-word : goal.overflow_add-word
overflow_add-word c =
    let l = c.loop-position in
    let r = pack-room c.args.specified c.args.bits c.min-position.result l.position (omega arith) (omega arith) (omega arith) in
    let d = digit_lt c.args.bits (l.position - 1) in
    search rules

pub loop-position-preserved-then-digit-eq1 : goal.loop-position-preserved-then-digit-eq1
loop-position-preserved-then-digit-eq1 c =
    let l = c.loop-position in
    rw (l.invariant, c.digit-then-digit-eq1.ensures) (pack-take c.args.specified c.args.bits c.min-position.result l.position (omega arith) (omega arith) (sym c.digit.ensures ∙ c.if-digit-eq1.true))

pub loop-position-preserved : goal.loop-position-preserved
loop-position-preserved c =
    let l = c.loop-position in
    l.invariant ∙ pack_skip c.args.specified c.args.bits c.min-position.result l.position (omega arith) (omega arith) (λ e. c.if-digit-eq1.false (c.digit.ensures ∙ e))

pub returns : goal.returns
returns c =
    let l = c.loop-position in
    let e : l.position ≡ 0 = omega arith in
    let n : c.min-position.result ≡ min 64 c.args.chains = omega arith in
    subst (λ (k : ℕ). l.word ≡ packed (c.args.specified / 2 ^ k) (c.args.bits / 2 ^ k) (c.min-position.result - k)) e l.invariant
    ∙ pack_end c.args.specified c.args.bits c.min-position.result ∙ ap (packed c.args.specified c.args.bits) n
