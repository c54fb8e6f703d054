use Rattle.layout.specs.Layout.{struct_at}
use Rattle.layout.specs.Shape.{struct_shape}
use Rattle.layout.proofs.shape.struct_shape.Goals as goal

pub returns : goal.returns
unfolding struct_shape struct_at
returns c = rw (c.struct_size-size.ensures, c.name_ok.ensures, c.table_shape.ensures, c.at-at.ensures.0)
