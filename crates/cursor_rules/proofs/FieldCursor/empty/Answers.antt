use Rattle.cursor_rules.proofs.FieldCursor.empty.Goals as goal

pub returns : goal.returns
returns c = rw c.field_limit.ensures
