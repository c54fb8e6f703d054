use mathlib.Core.Path.{◌∙◌}
use Rattle.calls.proofs.nested.Goals as goal

pub returns-clause-made : goal.returns-clause-made
returns-clause-made c = c.place.ensures.made ∙ rw (c.nested_size.ensures, c.id_of.ensures, c.times_flag.ensures, c.count_of.ensures.0, c.widest-align.ensures.0, c.table_at.ensures, c.struct_head.ensures.0)
