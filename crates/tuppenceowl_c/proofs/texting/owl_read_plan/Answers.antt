use Rattle.tuppenceowl_c.proofs.texting.owl_read_plan.Goals as goal

pub returns-in-Ok : goal.returns-in-Ok
returns-in-Ok c = record { answer = c.read_plan.result; told = rw c.in-Ok.is; kept = c.read_plan.ensures }

pub returns-in-Err : goal.returns-in-Err
returns-in-Err c = record { answer = c.read_plan.result; told = rw c.in-Err.is c.number.ensures; kept = c.read_plan.ensures }
