-- Each number is the definition's; the scale, kept as its bits, is read back.
use Rattle.field.specs.Field.{field_at}
use mir.Syntax.{w8}
use mir.ValLaws.{to_z-of_z}
use Rattle.field.proofs.field_in.Goals as goal

pub returns : goal.returns
unfolding field_at
returns c = rw (
  to_z-of_z w8 c.signed_byte.result (record { sfits = c.signed_byte.type_inv }),
  c.u16_in.ensures,
  c.u16_in-2.ensures,
  c.u16_in-3.ensures,
  c.u16_in-4.ensures,
  c.signed_byte.ensures,
  c.reserved_in.ensures,
)
