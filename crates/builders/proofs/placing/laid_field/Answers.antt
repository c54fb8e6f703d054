-- The scale goes by way of its bits and back.
use Rattle.cursor_rules.specs.Cursor.{laid}
use mir.Syntax.{w8}
use mir.Val.{SFits}
use mir.ValLaws.{to_z-of_z}
use native.Mathlib.Omega.{arith}
use Rattle.builders.proofs.placing.laid_field.Goals as goal

pub returns : goal.returns
unfolding laid
returns c = let small : SFits w8 c.args.f.scale = record { sfits = omega arith } in
    rw (c.align_up.ensures.0, c.flags_after.ensures, to_z-of_z w8 c.args.f.scale small)
