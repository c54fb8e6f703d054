use Rattle.builders.specs.Builder.{building_of}
use Rattle.calls_rules.proofs.Ends.{over}
use Rattle.calls_rules.specs.Calls.{noted_all}
use Rattle.cursor_rules.specs.Cursor.{align_up}
use mathlib.Core.Path.{◌∙◌, ap}
use Rattle.calls.proofs.finish_all.Goals as goal

pub returns-then-b-gt-MAX_BYTES-clause-made : goal.returns-then-b-gt-MAX_BYTES-clause-made
returns-then-b-gt-MAX_BYTES-clause-made c = let b = building_of c.args.b.now in
    ap noted_all (over c.args.cat.now (align_up b.state.cursor 8) b c.if-b-gt-MAX_BYTES.true)

pub returns-clause-made : goal.returns-clause-made
returns-clause-made c = c.end_at.ensures.made ∙ rw c.align_up.ensures.0
