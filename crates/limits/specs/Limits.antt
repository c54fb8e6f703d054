-- The limits, under the names that the code gives them.
use Rattle.std.specs.Prelude.{ℕ}

-- bytes of a record or a struct
abbrev pub max_bytes : ℕ
max_bytes = 4096

-- fields of a record's table, and of a struct's
abbrev pub max_fields : ℕ
max_fields = 128

abbrev pub max_struct_fields : ℕ
max_struct_fields = 32

-- records of a layout, and structs
abbrev pub max_records : ℕ
max_records = 16

abbrev pub max_structs : ℕ
max_structs = 16

-- bytes of a name
abbrev pub max_name : ℕ
max_name = 32

-- bytes of a header
abbrev pub max_header : ℕ
max_header = 64

-- steps of a plan
abbrev pub max_steps : ℕ
max_steps = 128

-- the deepest level that a walk enters
abbrev pub max_level : ℕ
max_level = 8

-- visits of a walk that is given no budget
abbrev pub default_budget : ℕ
default_budget = 65536
