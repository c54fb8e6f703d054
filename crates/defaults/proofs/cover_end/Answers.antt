use Rattle.std.proofs.Common.{◌+◌, ◌&&◌, arith}
use Rattle.field.specs.Field.{counts}
use Rattle.lent.proofs.Turns.{first-stops, first-goes, first-ends}
use Rattle.defaults.specs.Defaults.{holds}
use Rattle.defaults.proofs.cover_end.Goals as goal

pub returns-then-counts-start : goal.returns-then-counts-start
returns-then-counts-start c = let a = c.args in (
  rw c.end_of-end.ensures.0 (first-stops (λ f. counts a.cat.now f && holds f a.i) (λ f. f.offset + f.size) a.i c.loop-f.invariant c.in-Some.ensures.steps
      (rw (← c.counts.ensures, ← c.end_of-end.ensures.0, ← c.from-start.ensures) c.if-counts-start.true)),
  c.end_of-end.ensures.1,
)

pub loop-f-preserved : goal.loop-f-preserved
loop-f-preserved c = let a = c.args in
    first-goes (λ f. counts a.cat.now f && holds f a.i) (λ f. f.offset + f.size) a.i c.loop-f.invariant c.in-Some.ensures.steps
    (rw (← c.counts.ensures, ← c.end_of-end.ensures.0, ← c.from-start.ensures) c.if-counts-start.false)

pub returns : goal.returns
returns c = let a = c.args in
    (first-ends (λ f. counts a.cat.now f && holds f a.i) (λ f. f.offset + f.size) a.i c.loop-f.invariant c.in-None.ensures.steps.0, omega arith)
