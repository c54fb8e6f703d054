use Rattle.cursor_rules.proofs.Align.{below32}
use Rattle.calls.proofs.nested_size.Goals as goal

pub overflow_mul-size : goal.overflow_mul-size
overflow_mul-size c = record { fits = below32 c.struct_bytes-size.ensures.1 c.times_of.ensures.1 }

pub returns : goal.returns
returns c = rw (c.min.ensures, c.struct_bytes-size.ensures.0, c.struct_head.ensures.0, c.times_of.ensures.0)
