use Rattle.field.specs.Field.{field_at}
use Rattle.compare.proofs.is_id.Goals as goal

pub returns : goal.returns
unfolding field_at
returns c = rw c.u16_in.ensures
