-- What the parts of the code compute: one test a field, and two quick tests, that no two fields share a byte and that all is as it should be.
use Rattle.std.specs.Prelude.{ℕ, Bool, true, ◌&&◌, List, [], ◌∷◌, leb}
use Rattle.field.specs.Field.{end_of}
use Rattle.field.specs.declared.FieldDef.{FieldDef}
use Rattle.table_rules.specs.Table.{reserved_zero, in_bounds, width_ok}
use Rattle.table_rules.specs.declared.Rule.{Rule}
use Rattle.table_rules.specs.declared.Rule.TheVariants.{Reserved, Bounds, Apart, Width}

-- the rule on one field; that fields lie apart is no matter of one
abbrev pub field_ok : Rule → List ℕ → ℕ → FieldDef → Bool
field_ok Reserved cat most f = reserved_zero f
field_ok Bounds cat most f = in_bounds most f
field_ok Apart cat most f = true
field_ok Width cat most f = width_ok cat f

-- each field starts at `low` or later, and where the one before it ends or later
unfoldable pub chain : ℕ → List FieldDef → Bool
chain low [] = true
chain low (f ∷ fs) = leb low f.offset && chain (end_of f) fs

-- what 3, 4 and 6 ask of one field
abbrev pub alone : List ℕ → ℕ → FieldDef → Bool
alone cat most f = reserved_zero f && (in_bounds most f && width_ok cat f)

-- each field keeps them and starts at `low` or later, and where the one before it ends or later: enough for all four
unfoldable pub tidy : List ℕ → ℕ → ℕ → List FieldDef → Bool
tidy cat most low [] = true
tidy cat most low (f ∷ fs) = (leb low f.offset && alone cat most f) && tidy cat most (end_of f) fs
