-- What the parts of the code compute: a rule on every table, or all of them at once.
use Rattle.std.specs.Prelude.{ℕ, Bool, ◌&&◌, List}
use Rattle.lent.specs.Scan.{every}
use Rattle.field.specs.Field.{fields_of}
use Rattle.field.specs.declared.FieldDef.{FieldDef}
use Rattle.table_rules.specs.Table.{table_ok}
use Rattle.table_rules.specs.Parts.{tidy}
use Rattle.layout.specs.Layout.{heads, table_at, limit_at}
use Rattle.field.specs.declared.Holder.{Holder}
use Rattle.field.specs.declared.Holder.TheVariants.{Record, Struct}
use Rattle.admission_rules.specs.declared.Test.{Test}
use Rattle.admission_rules.specs.declared.Test.TheVariants.{Each, Tidy}

abbrev pub test_ok : Test → List ℕ → ℕ → List FieldDef → Bool
test_ok (Each rule) cat most fs = table_ok rule cat most fs
test_ok Tidy cat most fs = tidy cat most 0 fs

-- of the table whose head begins at h
abbrev pub head_passes : Test → Holder → List ℕ → List ℕ → ℕ → Bool
head_passes test holder cat l h = test_ok test cat (limit_at holder l h) (fields_of (table_at holder l h))

-- of every table of a layout
abbrev pub layout_passes : Test → List ℕ → List ℕ → Bool
layout_passes test cat l = every (head_passes test Record cat l) (heads Record l) && every (head_passes test Struct cat l) (heads Struct l)
