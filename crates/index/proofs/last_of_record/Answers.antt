use Rattle.lent.specs.Scan.{last}
use mathlib.Core.Path.{◌∙◌, sym}
use Rattle.index.proofs.last_of_record.Goals as goal

pub returns-then-is_of : goal.returns-then-is_of
returns-then-is_of c = rw (sym c.is_of.ensures ∙ c.if-is_of.true, ← c.table_at.ensures) c.last_in.ensures

pub returns : goal.returns
unfolding last
returns c = rw (sym c.is_of.ensures ∙ c.if-is_of.false)
