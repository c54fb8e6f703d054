use Rattle.plan_text.proofs.Whole.{held, says-bad, says-short, says-text}
use mathlib.Core.Path.{◌∙◌, sym}
use native.Mathlib.Omega.{arith}
use Rattle.plan_text.proofs.writer.write_plan.Goals as goal

pub returns-then-not-is_ok : goal.returns-then-not-is_ok
returns-then-not-is_ok c = says-bad c.args.slot.now c.args.text.now (sym c.is_ok.ensures ∙ c.if-not-is_ok.true)

pub of_text-n-requires : goal.of_text-n-requires
of_text-n-requires c = held c.args.slot.now (sym c.is_ok.ensures ∙ c.if-not-is_ok.false)

pub returns-then-text-n : goal.returns-then-text-n
returns-then-text-n c = says-short c.args.slot.now c.args.text.now c.of_text-n.result (sym c.is_ok.ensures ∙ c.if-not-is_ok.false) c.of_text-n.ensures.0 c.if-text-n.true

pub put_text-requires : goal.put_text-requires
put_text-requires c = (held c.args.slot.now (sym c.is_ok.ensures ∙ c.if-not-is_ok.false), let e = c.of_text-n.ensures.0 in omega arith)

pub returns : goal.returns
returns c = says-text c.args.slot.now _ c.of_text-n.result (sym c.is_ok.ensures ∙ c.if-not-is_ok.false) c.of_text-n.ensures.0 _ c.if-text-n.false c.put_text.ensures
