use mathlib.Core.Path.{◌∙◌, sym}
use Rattle.field.proofs.pair.same_arrayness.Goals as goal

pub returns-then-is_array : goal.returns-then-is_array
returns-then-is_array c = c.is_array-then-is_array.ensures ∙ rw (sym c.is_array.ensures ∙ c.if-is_array.true)

pub returns : goal.returns
returns c = rw (c.is_array-2.ensures, sym c.is_array.ensures ∙ c.if-is_array.false)
