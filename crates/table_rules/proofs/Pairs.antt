-- A turn of the loop over pairs: a field, and those after it. Assumes nothing.
use mathlib.Core.Path.{◌≡◌}
use mathlib.Core.Bool.{Bool, true, false}
use mathlib.Core.List.{List, [], ◌∷◌}
use Rattle.lent.specs.Scan.{every}
use Rattle.field.specs.declared.FieldDef.{FieldDef}
use Rattle.table_rules.specs.Table.{clear_of, apart}

module _ {left : List FieldDef} {all : Bool} (so : apart left ≡ all) where
  pub pairs-stop : {f : FieldDef} {fs : List FieldDef} → left ≡ f ∷ fs → every (clear_of f) fs ≡ false → false ≡ all
  unfolding apart
  pairs-stop e t = rw (e, t) at so

  pub pairs-go : {f : FieldDef} {fs : List FieldDef} → left ≡ f ∷ fs → every (clear_of f) fs ≡ true → apart fs ≡ all
  unfolding apart
  pairs-go e t = rw (e, t) at so

  pub pairs_end : left ≡ [] → true ≡ all
  unfolding apart
  pairs_end e = rw e at so
