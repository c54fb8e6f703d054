-- Inside as `field_in`; else each number is the definition's all the same.
use Rattle.field.specs.Field.{field_at}
use mir.Syntax.{w8}
use mir.ValLaws.{to_z-of_z}
use Rattle.field.proofs.field_at.Goals as goal

pub returns-then-at-t : goal.returns-then-at-t
returns-then-at-t c = c.field_in.ensures

pub returns : goal.returns
unfolding field_at
returns c = rw (
  to_z-of_z w8 c.signed_byte.result (record { sfits = c.signed_byte.type_inv }),
  c.u16_at.ensures,
  c.u16_at-2.ensures,
  c.u16_at-3.ensures,
  c.u16_at-4.ensures,
  c.byte_at.ensures,
  c.byte_at-2.ensures,
  c.signed_byte.ensures,
  c.byte_at-3.ensures,
  c.reserved_at.ensures,
)
