use Rattle.plan_match.proofs.Parted.{not-stood, put-in-line, stood-there}
use Rattle.plan_text.proofs.Laid.{step-most}
use Rattle.plan_text.specs.Text.{step_line}
use lib.ListN.{length}
use mathlib.Core.Path.{◌≡◌}
use native.Mathlib.Omega.{arith}
use Rattle.plan_match.proofs.step_stands.Goals as goal

pub put_step-n-requires : goal.put_step-n-requires
put_step-n-requires c = let m = step-most c.args.step.op in omega arith

pub stands-requires : goal.stands-requires
stands-requires c = let m = step-most c.args.step.op in let b = c.put_step-n.ensures.behind in omega arith

pub returns-then-not-stands : goal.returns-then-not-stands
returns-then-not-stands c = let m = step-most c.args.step.op in
    let w : c.put_step-n.result ≡ length (step_line c.args.step.op) = let b = c.put_step-n.ensures.behind in omega arith in
    not-stood (step_line c.args.step.op) c.args.text.now c.args.at _ (rw (put-in-line 64 c.put_step-n.ensures (omega arith), w) at c.stands.ensures) c.if-not-stands.true

pub returns : goal.returns
returns c = let m = step-most c.args.step.op in
    let w : c.put_step-n.result ≡ length (step_line c.args.step.op) = let b = c.put_step-n.ensures.behind in omega arith in
    stood-there (step_line c.args.step.op) c.args.text.now c.args.at _ (rw (put-in-line 64 c.put_step-n.ensures (omega arith), w) at c.stands.ensures) c.put_step-n.result w c.if-not-stands.false
