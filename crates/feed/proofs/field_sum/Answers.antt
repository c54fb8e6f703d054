-- Two numbers; the scale goes by way of its bits and back.
use Rattle.feed.proofs.Fed.{fed-field}
use Rattle.field.specs.Field.{byte_of}
use mathlib.Core.Path.{◌∙◌, ◌≡◌}
use mir.Syntax.{w8}
use mir.Val.{SFits}
use mir.ValLaws.{to_z-of_z}
use native.Mathlib.Omega.{arith}
use Rattle.feed.proofs.field_sum.Goals as goal

pub returns : goal.returns
returns c = let a = c.args in
    let fits : SFits w8 a.f.scale = record { sfits = omega (arith, c.struct_told-1.given) } in
    let same : c.scale_byte-scale.result ≡ byte_of a.f.scale = c.scale_byte-scale.ensures ∙ rw (to_z-of_z w8 a.f.scale fits) in
    fed-field a.f (record { id = omega arith; size = omega arith; type = omega arith; flags = omega arith })
    a.start _ _ c.step_number-sum.ensures (rw (← same) c.step_number.ensures)
