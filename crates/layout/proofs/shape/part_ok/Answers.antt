use Rattle.layout.proofs.shape.part_ok.Goals as goal

pub returns : goal.returns
returns c = rw (← c.u32_at.ensures.0, ← c.u32_at-2.ensures.0) c.has_window.ensures
