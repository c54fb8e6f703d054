-- Copied, mapped, or skipped.
use Rattle.interpreter.proofs.Runs.{copy-fits, copy-runs, copy-skips, int-fits, int-runs, int-skips}
use mathlib.Core.Path.{◌∙◌}
use native.Mathlib.Omega.{arith}
use Rattle.interpreter.proofs.run_step.Goals as goal

pub copy-requires : goal.copy-requires
copy-requires c = (omega arith, rw (c.wide16-n.ensures.0, c.wide16.ensures.0) (copy-fits c.args.step _ _ _ c.in-Copy.is _ (c.requires)))

pub carry_int-requires : goal.carry_int-requires
carry_int-requires c = let f = int-fits c.args.step _ _ _ _ _ _ c.in-Int.is _ (c.requires) in
    ((rw c.wide16-from.ensures.0 f.0.0, rw c.wide16-to.ensures.0 f.0.1), (omega arith, rw (c.wide16-target.ensures.0, c.wide16-to.ensures.0) f.1))

pub returns-then-source-n : goal.returns-then-source-n
returns-then-source-n c = c.copy.ensures
    ∙ copy-runs c.args.step _ _ _ c.in-Copy.is c.args.src.now c.args.dst.now _ _ c.wide16-source.ensures.0 c.wide16-n.ensures.0 _ c.wide16.ensures.0 c.if-source-n.true

pub returns-else-source-n : goal.returns-else-source-n
returns-else-source-n c = copy-skips c.args.step _ _ _ c.in-Copy.is c.args.src.now c.args.dst.now _ _ c.wide16-source.ensures.0 c.wide16-n.ensures.0 c.if-source-n.false

pub returns-then-source-from : goal.returns-then-source-from
returns-then-source-from c = c.carry_int.ensures
    ∙ int-runs c.args.step _ _ _ _ _ _ c.in-Int.is c.args.src.now c.args.dst.now _ _ c.wide16-source-in-Int.ensures.0 c.wide16-from.ensures.0 _ _ c.wide16-target.ensures.0 c.wide16-to.ensures.0 c.if-source-from.true

pub returns-else-source-from : goal.returns-else-source-from
returns-else-source-from c = int-skips c.args.step _ _ _ _ _ _ c.in-Int.is c.args.src.now c.args.dst.now _ _ c.wide16-source-in-Int.ensures.0 c.wide16-from.ensures.0 c.if-source-from.false
