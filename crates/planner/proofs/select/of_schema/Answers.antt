use Rattle.planner.proofs.select.of_schema.Goals as goal

pub returns : goal.returns
returns c = rw c.record_schema.ensures
