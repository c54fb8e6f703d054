use Rattle.equal_rules.specs.Equal.{field_eq}
use mathlib.Core.Path.{◌∙◌, sym}
use Rattle.equal.proofs.field_eq.Goals as goal

pub returns-then-not-eq_except_def_index : goal.returns-then-not-eq_except_def_index
unfolding field_eq
returns-then-not-eq_except_def_index c = rw (sym c.eq_except_def_index.ensures ∙ c.if-not-eq_except_def_index.true)

pub returns-then-not-is_struct : goal.returns-then-not-is_struct
unfolding field_eq
returns-then-not-is_struct c = rw (sym c.eq_except_def_index.ensures ∙ c.if-not-eq_except_def_index.false, sym c.is_struct.ensures ∙ c.if-not-is_struct.true)

pub returns : goal.returns
unfolding field_eq
returns c = rw (sym c.eq_except_def_index.ensures ∙ c.if-not-eq_except_def_index.false, sym c.is_struct.ensures ∙ c.if-not-is_struct.false) c.named_eq.ensures
