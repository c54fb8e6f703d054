use Rattle.layout.specs.Layout.{record_at}
use Rattle.layout.specs.Shape.{record_shape}
use Rattle.layout.proofs.shape.record_shape.Goals as goal

pub returns : goal.returns
unfolding record_shape record_at
returns c = rw (c.record_base-base.ensures, c.name_ok.ensures, c.table_shape.ensures, c.names_shape.ensures, c.at-at.ensures.0)
