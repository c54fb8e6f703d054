use Rattle.layout.specs.Layout.{record_at, struct_at}
use Rattle.layout.proofs.block.table_at.Goals as goal

pub returns-in-Record : goal.returns-in-Record
unfolding record_at
returns-in-Record c = rw (c.in-Record.is, ← c.at.ensures.0) c.part_at.ensures

pub returns-in-Struct : goal.returns-in-Struct
unfolding struct_at
returns-in-Struct c = rw (c.in-Struct.is, ← c.at-in-Struct.ensures.0) c.part_at-in-Struct.ensures
