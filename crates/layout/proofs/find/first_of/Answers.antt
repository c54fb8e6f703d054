use mathlib.Core.Path.{sym, ◌∙◌, subst}
use Rattle.std.proofs.Common.{Some, None}
use Rattle.lent.proofs.Turns.{first-stops, first-goes, first-ends}
use Rattle.layout.proofs.Nearby.{Near-first}
use Rattle.layout.specs.Find.{is_of, first_of, Near}
use Rattle.layout.proofs.find.first_of.Goals as goal

pub loop-h-init : goal.loop-h-init
unfolding first_of
loop-h-init c = rw (c.into_iter-h-iterator.ensures.into_iter_gives, c.heads_of-h-items.ensures.heads)

pub returns-then-is_of-clause-place : goal.returns-then-is_of-clause-place
returns-then-is_of-clause-place c =
    first-stops (is_of c.args.l.now c.args.rtype) Some None c.loop-h.invariant c.in-Some.ensures.steps (sym c.is_of.ensures ∙ c.if-is_of.true)

pub returns-then-is_of-clause-near : goal.returns-then-is_of-clause-near
unfolding first_of
returns-then-is_of-clause-near c =
    let place = first-stops (is_of c.args.l.now c.args.rtype) Some None c.loop-h.invariant c.in-Some.ensures.steps (sym c.is_of.ensures ∙ c.if-is_of.true) in
    let heads = c.heads_of-h-items.ensures.near in
    subst (λ place. Near place) (sym place) (Near-first (is_of c.args.l.now c.args.rtype) _ (rw c.heads_of-h-items.ensures.heads at heads))

pub loop-h-preserved : goal.loop-h-preserved
loop-h-preserved c =
    first-goes (is_of c.args.l.now c.args.rtype) Some None c.loop-h.invariant c.in-Some.ensures.steps (sym c.is_of.ensures ∙ c.if-is_of.false)

pub returns-clause-place : goal.returns-clause-place
returns-clause-place c = first-ends (is_of c.args.l.now c.args.rtype) Some None c.loop-h.invariant c.in-None.ensures.steps.0
