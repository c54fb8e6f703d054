-- The walk behind a layout's hash: which bytes it feeds a sum, in order, and how many fields it visits.
use Rattle.std.specs.Prelude.{ℕ, zero, suc, ◌+◌, Bool, cond, ◌&&◌, List, [], ◌∷◌, ltb}
use Rattle.limits.specs.Limits.{max_level}
use Rattle.limits.specs.declared.refusal.Refusal.{Refusal}
use Rattle.limits.specs.declared.refusal.Refusal.TheVariants.{TooDeep, OverBudget}
use Rattle.lent.specs.Bytes.{bytes_of}
use Rattle.field.specs.Field.{fields_of, is_struct}
use Rattle.field.specs.declared.FieldDef.{FieldDef}
use Rattle.field.specs.Order.{by_offset}
use Rattle.layout.specs.Layout.{struct_of, has_struct}
use Rattle.feed.specs.Feed.{field_bytes}

-- where a walk stands: what it has fed and how many fields it has visited; or why it stopped
pub data Walked (S : Type 0) : Type 0 where
  Went : S → ℕ → Walked S
  Stopped : Refusal → Walked S

-- a struct field whose def_index is in the table
abbrev pub names_struct : List ℕ → List ℕ → FieldDef → Bool
names_struct cat l f = is_struct cat f && has_struct l f

-- on from where a walk stands
abbrev pub after : {S : Type 0} → Walked S → (S → ℕ → Walked S) → Walked S
after (Went s visits) next = next s visits
after (Stopped refusal) next = Stopped refusal

-- `feed` says what becomes of bytes that go in
module _ {S : Type 0} (feed : S → List ℕ → S) (cat l : List ℕ) (budget : ℕ) where
  -- one field, if the budget lasts, and behind it the struct that it names: its size and its fields, which `enter` walks
  unfoldable pub walk_field : (List FieldDef → S → ℕ → Walked S) → FieldDef → S → ℕ → Walked S
  walk_field enter f s visits =
      cond (ltb visits budget)
      (cond (names_struct cat l f)
      (enter (fields_of (struct_of l f).table) (feed (feed s (field_bytes f)) (bytes_of 2 (struct_of l f).size)) (visits + 1))
      (Went (feed s (field_bytes f)) (visits + 1)))
      (Stopped OverBudget)

  -- fields, one after the other
  unfoldable pub walk_fields : (List FieldDef → S → ℕ → Walked S) → List FieldDef → S → ℕ → Walked S
  walk_fields enter [] s visits = Went s visits
  walk_fields enter (f ∷ fs) s visits = after (walk_field enter f s visits) (walk_fields enter fs)

  -- a table in offset order, where so many levels may be entered
  unfoldable pub walk_table : ℕ → List FieldDef → S → ℕ → Walked S
  walk_table zero fs s visits = Stopped TooDeep
  walk_table (suc levels) fs s visits = walk_fields (walk_table levels) (by_offset fs) s visits

  -- a record's own fields are level 1
  abbrev pub walk_record : List FieldDef → S → Walked S
  walk_record fs s = walk_table max_level fs s 0
