-- The size of an admitted record is no more than the most bytes. Assumes nothing.
use Prim.Native.Nat.{ℕ, ◌≤◌, ◌<◌}
use native.Mathlib.Omega.{arith}
use mathlib.Core.Path.{◌≡◌}
use mathlib.Core.Bool.{true}
use mathlib.Core.List.{List, [], ◌∷◌}
use borrow.Author.Tests.{leb-true}
use lib.Dec.{leb, ltb}
use Rattle.limits.specs.Limits.{max_bytes}
use Rattle.lent.specs.Scan.{every, highest}
use Rattle.lent.proofs.Scan.{both}
use Rattle.field.specs.Field.{fields_of, end_of}
use Rattle.field.specs.declared.FieldDef.{FieldDef}
use Rattle.table_rules.specs.Table.{in_bounds}
use Rattle.table_rules.specs.declared.Rule.TheVariants.{Bounds}
use Rattle.layout.specs.Layout.{record_of, count_of}
use Rattle.layout.specs.Shape.{shape_ok}
use Rattle.field.specs.declared.Holder.TheVariants.{Record}
use Rattle.layout.proofs.Shapes.{base-in-record}
use Rattle.record_size.specs.Size.{last_end, record_size}
use Rattle.admission_rules.specs.Admission.{layout_ok}
use Rattle.admission_rules.proofs.Records.{record-keeps}

-- no field passes a limit, so the last end does not
pub last-inside : (most : ℕ) (fs : List FieldDef) → every (in_bounds most) fs ≡ true → last_end fs ≤ most
unfolding every highest
last-inside most [] e = omega arith
last-inside most (f ∷ fs) e =
    let a = both (in_bounds most f) (every (in_bounds most) fs) e in
    let b : end_of f ≤ most = leb-true _ _ (both (ltb 0 f.size) (leb (end_of f) most) a.0).1 in
    let c = last-inside most fs a.1 in
    omega arith

pub size_small : (cat l : List ℕ) (k : ℕ) → k < count_of Record l → shape_ok l ≡ true → layout_ok Bounds cat l ≡ true → record_size (record_of l k) ≤ max_bytes
size_small cat l k there shaped bounds =
    let e = last-inside max_bytes (fields_of (record_of l k).table) (record-keeps cat l k there Bounds bounds) in
    omega (arith, base-in-record l k shaped there)
