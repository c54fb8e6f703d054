-- Byte by byte; the scale goes by way of its bits and back.
use Rattle.cursor_rules.specs.Cursor.{row_of}
use Rattle.field.specs.Field.{byte_of}
use mathlib.Core.Path.{◌∙◌, ◌≡◌}
use mir.Syntax.{w8}
use mir.Val.{SFits}
use mir.ValLaws.{to_z-of_z}
use native.Mathlib.Omega.{arith}
use Rattle.builders.proofs.bytes.row.Goals as goal

pub returns : goal.returns
unfolding row_of
returns c = let small : SFits w8 c.args.f.scale = record { sfits = omega arith } in
    let same : c.scale_byte.result ≡ byte_of c.args.f.scale = c.scale_byte.ensures ∙ rw (to_z-of_z w8 c.args.f.scale small) in
    rw (c.low.ensures, c.high.ensures, c.low-2.ensures, c.high-2.ensures, c.low-3.ensures, c.high-3.ensures, c.low-4.ensures, c.high-4.ensures, same)
