use mathlib.Core.Path.{sym, ◌∙◌, subst}
use Rattle.std.proofs.Common.{Some, None}
use Rattle.lent.proofs.Turns.{last-goes, last-ends}
use Rattle.layout.proofs.Nearby.{Near-last}
use Rattle.layout.specs.Find.{is_of, last_of, Near}
use Rattle.layout.proofs.find.last_of.Goals as goal

pub loop-h-init : goal.loop-h-init
unfolding last_of
loop-h-init c = rw (c.into_iter-h-iterator.ensures.into_iter_gives, c.heads_of-h-items.ensures.heads)

pub loop-h-preserved-then-is_of : goal.loop-h-preserved-then-is_of
loop-h-preserved-then-is_of c =
    let e = sym c.is_of.ensures ∙ c.if-is_of.true in
    rw e at (last-goes (is_of c.args.l.now c.args.rtype) Some c.loop-h.found c.loop-h.invariant c.in-Some.ensures.steps)

pub loop-h-preserved : goal.loop-h-preserved
loop-h-preserved c =
    let e = sym c.is_of.ensures ∙ c.if-is_of.false in
    rw e at (last-goes (is_of c.args.l.now c.args.rtype) Some c.loop-h.found c.loop-h.invariant c.in-Some.ensures.steps)

pub returns-clause-place : goal.returns-clause-place
returns-clause-place c = last-ends (is_of c.args.l.now c.args.rtype) Some c.loop-h.found c.loop-h.invariant c.in-None.ensures.steps.0

pub returns-clause-near : goal.returns-clause-near
unfolding last_of
returns-clause-near c =
    let place = last-ends (is_of c.args.l.now c.args.rtype) Some c.loop-h.found c.loop-h.invariant c.in-None.ensures.steps.0 in
    let heads = c.heads_of-h-items.ensures.near in
    subst (λ place. Near place) (sym place) (Near-last (is_of c.args.l.now c.args.rtype) None _ tt (rw c.heads_of-h-items.ensures.heads at heads))
