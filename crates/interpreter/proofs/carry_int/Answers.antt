-- Read, mapped, stored.
use Rattle.mapping.proofs.Widths.{width-range}
use Rattle.interpreter.proofs.carry_int.Goals as goal

pub map_int-w-requires : goal.map_int-w-requires
map_int-w-requires c = (width-range c.args.n c.requires.0.0, width-range c.args.m c.requires.0.1, c.number_in-v.ensures.1)

pub returns : goal.returns
returns c = rw (c.store_number.ensures, c.map_int-w.ensures, c.number_in-v.ensures.0)
