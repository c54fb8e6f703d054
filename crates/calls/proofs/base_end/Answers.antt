use Rattle.calls.proofs.base_end.Goals as goal

pub returns-then-c : goal.returns-then-c
returns-then-c c = rw c.if-c.true

pub returns-else-c : goal.returns-else-c
returns-else-c c = rw (c.if-c.false, c.align_up.ensures.0)
