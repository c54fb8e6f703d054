-- The lookups: by rtype and id, and by rtype and name.
use Rattle.std.specs.Prelude.{None, Option, Some}
use Rattle.std.specs.Prelude.{ℕ, Bool, not, cond, ◌&&◌, List, [], ◌∷◌, ◌++◌, eqb}
use Rattle.lent.specs.Scan.{first, last, alike}
use Rattle.field.specs.Field.{fields_of, is_padding}
use Rattle.field.specs.declared.FieldDef.{FieldDef}
use Rattle.layout.specs.Layout.{RecordLayout, record_at, records}
use Rattle.layout.specs.Find.{first_of, at_place}

-- the fields of a record, if it is of the rtype
abbrev pub fields_if_of : ℕ → RecordLayout → List FieldDef
fields_if_of rtype r = cond (eqb r.rtype rtype) (fields_of r.table) []

-- the fields of all records of an rtype, record by record
unfoldable pub fields_of_rtype : ℕ → List RecordLayout → List FieldDef
fields_of_rtype rtype [] = []
fields_of_rtype rtype (r ∷ rs) = fields_if_of rtype r ++ fields_of_rtype rtype rs

-- a field of that id that isn't padding
abbrev pub has_id : List ℕ → ℕ → FieldDef → Bool
has_id cat id f = eqb f.field_id id && not (is_padding cat f)

-- the last of them
unfoldable pub by_id : List ℕ → List ℕ → ℕ → ℕ → Option FieldDef
by_id cat l rtype id = last (has_id cat id) Some None (fields_of_rtype rtype (records l))

-- a field and its name
pub record Named : Type 0 where
  pub name : List ℕ
  pub def : FieldDef

unfoldable pub named : List (List ℕ) → List FieldDef → List Named
named [] fs = []
named (n ∷ ns) [] = []
named (n ∷ ns) (f ∷ fs) = record { name = n; def = f } ∷ named ns fs

-- a field of that name that isn't padding
abbrev pub has_name : List ℕ → List ℕ → Named → Bool
has_name cat name f = alike eqb f.name name && not (is_padding cat f.def)

-- the first of a record
abbrev pub name_in : List ℕ → List ℕ → RecordLayout → Option FieldDef
name_in cat name r = first (has_name cat name) (λ f. Some f.def) None (named r.names (fields_of r.table))

-- the last field with the id of that
abbrev pub by_its_id : List ℕ → List ℕ → ℕ → Option FieldDef → Option FieldDef
by_its_id cat l rtype None = None
by_its_id cat l rtype (Some f) = by_id cat l rtype f.field_id

-- in the first record of the rtype
unfoldable pub by_name : List ℕ → List ℕ → ℕ → List ℕ → Option FieldDef
by_name cat l rtype name =
    at_place (first_of l rtype) None (λ h. by_its_id cat l rtype (name_in cat name (record_at l h)))
