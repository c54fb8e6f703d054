use Rattle.std.proofs.Common.{rules, length, ap}
use Rattle.std.proofs.lemmas.List.{take_rest}
use Rattle.step.specs.Packed.{steps_of}
use Rattle.step.proofs.Behind.{no-step, first-step}
use Rattle.step.proofs.packed.UnpackedIterator.next.Goals as goal

pub returns-then-self-lt-SIZE-clause-steps : goal.returns-then-self-lt-SIZE-clause-steps
returns-then-self-lt-SIZE-clause-steps c =
    let e = no-step c.args.self.now.rest.now c.if-self-lt-SIZE.true in (e, e)

pub returns-clause-steps : goal.returns-clause-steps
returns-clause-steps c =
    let t = c.args.self.now.rest.now in
    rw (c.step_in-step.ensures, take_rest t 16) (first-step t c.if-self-lt-SIZE.false)

pub returns-clause-goes : goal.returns-clause-goes
returns-clause-goes c =
    let t = c.args.self.now.rest.now in
    let rest = ap steps_of (take_rest t 16) in
    let shorter = ap length (first-step t c.if-self-lt-SIZE.false) in search rules
