-- Past the end `get_or` gives its default.
use lib.ListN.{get_or-eq_default}
use mathlib.Core.Path.{sym}
use Rattle.lent.proofs.byte_at.Goals as goal

pub returns : goal.returns
returns c = sym (get_or-eq_default c.args.s.now 0 c.if-at-s.false)
