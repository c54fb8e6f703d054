use Rattle.std.proofs.Common.{ap, sym, ◌∙◌, ◌*◌, ◌+◌, ◌-◌, ◌/◌, ◌≡◌, length, arith}
use Rattle.lent.proofs.Scan.{ends, goes, stops}
use Rattle.plan_rules.specs.Rule.{want_at}
use Rattle.defaults.specs.Defaults.{mark_holds}
use Rattle.defaults.proofs.marks_hold.Goals as goal

pub returns-then-not-mark_holds : goal.returns-then-not-mark_holds
returns-then-not-mark_holds c = let a = c.args in let l = c.loop-k in
    stops (want_at a.cat.now a.marks.now a.table.now) 16 (16 * l.k) (length a.table.now / 16 - l.k) (mark_holds a.cat.now a.header a.body.now) _ l.invariant (omega arith)
    (ap (mark_holds a.cat.now a.header a.body.now) (sym c.want_at-want.ensures) ∙ sym c.mark_holds.ensures ∙ c.if-not-mark_holds.true)

pub loop-k-preserved : goal.loop-k-preserved
loop-k-preserved c = let a = c.args in let l = c.loop-k in
    let at : 16 * (l.k + 1) ≡ 16 * l.k + 16 = omega arith in
    let left : length a.table.now / 16 - (l.k + 1) ≡ (length a.table.now / 16 - l.k) - 1 = omega arith in
    rw (at, left) (goes (want_at a.cat.now a.marks.now a.table.now) 16 (16 * l.k) (length a.table.now / 16 - l.k) (mark_holds a.cat.now a.header a.body.now) _ l.invariant (omega arith)
    (ap (mark_holds a.cat.now a.header a.body.now) (sym c.want_at-want.ensures) ∙ sym c.mark_holds.ensures ∙ c.if-not-mark_holds.false))

pub returns : goal.returns
returns c = let a = c.args in let l = c.loop-k in
    ends (want_at a.cat.now a.marks.now a.table.now) 16 (16 * l.k) (length a.table.now / 16 - l.k) (mark_holds a.cat.now a.header a.body.now) _ l.invariant (omega arith)
