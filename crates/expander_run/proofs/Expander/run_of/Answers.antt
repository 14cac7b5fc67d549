-- `expander_run::Expander::run_of` meets its contract. Assumes nothing.
use Rattle.std.specs.Prelude.{Ok}
use mathlib.Core.Path.{◌≡◌, sym, ap, ◌∙◌}
use mathlib.Core.Bool.{◌&&◌}
use native.Mathlib.Omega.{arith}
use lib.Dec.{leb}
use Rattle.expander_run.proofs.Looking.{counted_by, told-beyond, told_at_stop, told_open, told-closed, told_endless}
use Rattle.expander_run.proofs.Expander.run_of.Goals as goal
use Rattle.expander_run.proofs.Expander.run_of.Goals.{then-last, else-last}

pub returns-then-beyond : goal.returns-then-beyond
returns-then-beyond c =
    let a = c.args in
    let x = a.self.now in
    sym (told-beyond x.settings x.masks.now x.stop a.place a.last a.left a.seed (sym c.beyond.ensures ∙ c.if-beyond.true))

pub returns-then-self-length : goal.returns-then-self-length
returns-then-self-length c =
    let a = c.args in
    let x = a.self.now in
    let j = c.if-last in
    let e : j.unclosed ≡ (a.last && leb a.left x.settings.limit) = elim j.branch [ then-last v ↦ rw (v.unclosed-is, v.if-last.true) | else-last v ↦ rw (v.unclosed-is, v.if-last.false) ] in
    let state = sym c.beyond.ensures ∙ c.if-beyond.false in
    let t = c.before_stop-length in
    let n = counted_by x.settings x.masks.now x.stop a.place a.last a.left a.seed t.result _ j.unclosed t.ensures c.looked_at-looked.ensures e in
    sym (told_endless x.settings x.masks.now x.stop a.place a.last a.left a.seed state t.result n (sym e ∙ c.if-unclosed.false) c.if-self-length.true)

pub returns-then-length-eq0 : goal.returns-then-length-eq0
returns-then-length-eq0 c =
    let a = c.args in
    let x = a.self.now in
    let j = c.if-last in
    let e : j.unclosed ≡ (a.last && leb a.left x.settings.limit) = elim j.branch [ then-last v ↦ rw (v.unclosed-is, v.if-last.true) | else-last v ↦ rw (v.unclosed-is, v.if-last.false) ] in
    let state = sym c.beyond.ensures ∙ c.if-beyond.false in
    let t = c.before_stop-length in
    let n = counted_by x.settings x.masks.now x.stop a.place a.last a.left a.seed t.result _ j.unclosed t.ensures c.looked_at-looked.ensures e in
    sym (told_at_stop x.settings x.masks.now x.stop a.place a.last a.left a.seed state t.result n c.if-length-eq0.true)

pub returns-then-unclosed : goal.returns-then-unclosed
returns-then-unclosed c =
    let a = c.args in
    let x = a.self.now in
    let j = c.if-last in
    let e : j.unclosed ≡ (a.last && leb a.left x.settings.limit) = elim j.branch [ then-last v ↦ rw (v.unclosed-is, v.if-last.true) | else-last v ↦ rw (v.unclosed-is, v.if-last.false) ] in
    let state = sym c.beyond.ensures ∙ c.if-beyond.false in
    let t = c.before_stop-length in
    let n = counted_by x.settings x.masks.now x.stop a.place a.last a.left a.seed t.result _ j.unclosed t.ensures c.looked_at-looked.ensures e in
    ap Ok c.min.ensures ∙ sym (told_open x.settings x.masks.now x.stop a.place a.last a.left a.seed state t.result n (sym e ∙ c.if-unclosed.true) (omega (arith, c.if-length-eq0.false)))

pub returns : goal.returns
returns c =
    let a = c.args in
    let x = a.self.now in
    let j = c.if-last in
    let e : j.unclosed ≡ (a.last && leb a.left x.settings.limit) = elim j.branch [ then-last v ↦ rw (v.unclosed-is, v.if-last.true) | else-last v ↦ rw (v.unclosed-is, v.if-last.false) ] in
    let state = sym c.beyond.ensures ∙ c.if-beyond.false in
    let t = c.before_stop-length in
    let n = counted_by x.settings x.masks.now x.stop a.place a.last a.left a.seed t.result _ j.unclosed t.ensures c.looked_at-looked.ensures e in
    sym (told-closed x.settings x.masks.now x.stop a.place a.last a.left a.seed state t.result n (sym e ∙ c.if-unclosed.false) (omega (arith, c.if-length-eq0.false)) c.if-self-length.false)
