use Rattle.builders.specs.Builder.{building_of}
use Rattle.calls_rules.proofs.Ends.{over}
use Rattle.calls_rules.specs.Calls.{base_end, noted_all}
use mathlib.Core.Path.{◌∙◌, ap}
use Rattle.calls.proofs.finish_base.Goals as goal

pub returns-then-b-gt-MAX_BYTES-clause-made : goal.returns-then-b-gt-MAX_BYTES-clause-made
returns-then-b-gt-MAX_BYTES-clause-made c = let b = building_of c.args.b.now in
    ap noted_all (over c.args.cat.now (base_end b.state) b c.if-b-gt-MAX_BYTES.true)

pub returns-clause-made : goal.returns-clause-made
returns-clause-made c = c.end_at.ensures.made ∙ rw c.base_end.ensures
