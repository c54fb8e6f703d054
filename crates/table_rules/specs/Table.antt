-- Refusals 3 to 6 of one table, given its fields and the end that none may pass.
use Rattle.std.specs.Prelude.{ℕ, min, max, Bool, true, not, ◌&&◌, ◌||◌, List, [], ◌∷◌, leb, ltb, eqb}
use Rattle.lent.specs.Scan.{every}
use Rattle.catalogue.specs.Catalogue.{width_of}
use Rattle.field.specs.Field.{end_of, is_plain_integer}
use Rattle.field.specs.declared.FieldDef.{FieldDef}
use Rattle.table_rules.specs.declared.Rule.{Rule}
use Rattle.table_rules.specs.declared.Rule.TheVariants.{Reserved, Bounds, Apart, Width}

-- 3: the five last bytes are zero
abbrev pub reserved_zero : FieldDef → Bool
reserved_zero f = eqb f.reserved 0

-- 4: a size, and an end not past the limit
abbrev pub in_bounds : ℕ → FieldDef → Bool
in_bounds most f = ltb 0 f.size && leb (end_of f) most

-- 5: no two fields share a byte, padding or not
abbrev pub share_byte : FieldDef → FieldDef → Bool
share_byte f g = ltb (max f.offset g.offset) (min (end_of f) (end_of g))

abbrev pub clear_of : FieldDef → FieldDef → Bool
clear_of f g = not (share_byte f g)

unfoldable pub apart : List FieldDef → Bool
apart [] = true
apart (f ∷ fs) = every (clear_of f) fs && apart fs

-- 6: an integer that is no array has its width
abbrev pub width_ok : List ℕ → FieldDef → Bool
width_ok cat f = not (is_plain_integer cat f) || eqb f.size (width_of cat f.type_id)

-- the test of each refusal
abbrev pub table_ok : Rule → List ℕ → ℕ → List FieldDef → Bool
table_ok Reserved cat most fs = every reserved_zero fs
table_ok Bounds cat most fs = every (in_bounds most) fs
table_ok Apart cat most fs = apart fs
table_ok Width cat most fs = every (width_ok cat) fs
