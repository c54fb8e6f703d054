use Rattle.dispatch.proofs.Answers.{apply-goes, apply-refused}
use mathlib.Core.Path.{◌∙◌, sym}
use Rattle.dispatch.proofs.apply.Goals as goal

pub returns-then-bad_length : goal.returns-then-bad_length
returns-then-bad_length c =
    let both = (apply-refused c.args.slot.now c.args.src.now c.args.stated c.args.dst.now (sym c.bad_length.ensures ∙ c.if-bad_length.true)) in
    record { answer = both.0; target = both.1 }

pub returns : goal.returns
returns c =
    let both = (apply-goes c.args.slot.now c.args.src.now c.args.stated c.args.dst.now (sym c.bad_length.ensures ∙ c.if-bad_length.false) _ _ _ c.window.ensures (c.planned.ensures.answer, c.planned.ensures.target)) in
    record { answer = both.0; target = both.1 }
