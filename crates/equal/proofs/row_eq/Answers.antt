use Rattle.equal_rules.proofs.Equal.{ids-differ}
use Rattle.field.specs.Field.{field_at}
use mathlib.Core.Path.{◌∙◌, sym}
use Rattle.equal.proofs.row_eq.Goals as goal

pub returns-then-u16_in : goal.returns-then-u16_in
unfolding field_at
returns-then-u16_in c = ids-differ c.args.cat.now c.args.s.now (field_at c.args.haves.now c.args.from) c.args.c.now (field_at c.args.wants.now c.args.at) (λ e. absurd (c.if-u16_in.true (c.u16_in.ensures ∙ e ∙ sym c.u16_in-2.ensures)))

pub returns : goal.returns
returns c = rw (← c.field_in.ensures, ← c.field_in-2.ensures) c.field_eq.ensures
