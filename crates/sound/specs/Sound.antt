-- What holds of a building after every call: its fields lie one behind the other from 0 to the cursor, none is refused, and there are not too many.
use Rattle.std.specs.Prelude.{Result, Ok, Err, ℕ, ◌*◌, ◌≤◌, ◌≡◌, Bool, true, cond, ◌&&◌, List, [], ◌∷◌, leb, ltb, eqb, take}
use Rattle.limits.specs.Limits.{max_bytes, max_name}
use Rattle.lent.specs.Bytes.{byte_at}
use Rattle.lent.specs.Scan.{gather, every, tally}
use Rattle.field.specs.Field.{field_at, end_of}
use Rattle.field.specs.declared.FieldDef.{FieldDef}
use Rattle.table_rules.specs.Table.{reserved_zero, width_ok, table_ok}
use Rattle.table_rules.specs.declared.Rule.{Rule}
use Rattle.field.specs.declared.Holder.{Holder}
use Rattle.cursor_rules.specs.Cursor.{Building, building, Outcome, room, field_limit}
use Rattle.cursor_rules.specs.declared.FieldCursor.{FieldCursor}
use Rattle.limits.specs.declared.refusal.Refusal.{Refusal}

-- fields with a size, the first at `from`, each where the one before it ends, the last up to `to`
unfoldable pub tiles : ℕ → ℕ → List FieldDef → Bool
tiles from to [] = eqb from to
tiles from to (f ∷ fs) = eqb f.offset from && (ltb 0 f.size && tiles (end_of f) to fs)

-- byte i lies in the field
abbrev pub covers : ℕ → FieldDef → Bool
covers i f = leb f.offset i && ltb i (end_of f)

-- refusals 3 to 6 pass a table of these fields whose end is `end`, and its every byte lies in exactly one of them
pub record Filled (cat : List ℕ) (end : ℕ) (fs : List FieldDef) : Type 0 where
  pub admitted : (rule : Rule) (most : ℕ) → end ≤ most → table_ok rule cat most fs ≡ true
  pub once : (i : ℕ) → tally (covers i) fs ≡ cond (ltb i end) 1 0

-- ---- a building: its fields so far, and what holds of them

abbrev pub table_of : Building → List ℕ
table_of b = take (16 * b.state.count) b.table

abbrev pub fields_in : Building → List FieldDef
fields_in b = gather (field_at b.table) 16 0 b.state.count

abbrev pub plain : List ℕ → FieldDef → Bool
plain cat f = reserved_zero f && width_ok cat f

-- the first bytes of the names so far, which say how long each is
abbrev pub lengths_in : Building → List ℕ
lengths_in b = gather (byte_at b.names) 33 0 b.state.count

abbrev pub short : ℕ → Bool
short n = leb n max_name

pub record Sound (cat : List ℕ) (holder : Holder) (b : Building) : Type 0 where
  pub tiled : tiles 0 b.state.cursor (fields_in b) ≡ true
  pub fine : every (plain cat) (fields_in b) ≡ true
  pub within : b.state.cursor ≤ max_bytes
  pub roomy : b.state.count ≤ room b
  pub limited : b.state.most ≡ field_limit holder
  pub based : b.state.base ≤ b.state.cursor
  pub named : every short (lengths_in b) ≡ true

-- no more fields than the holder may have, and no end past the limit
pub record Limited (holder : Holder) (c : FieldCursor) : Type 0 where
  pub few : c.count ≤ field_limit holder
  pub ended : c.cursor ≤ max_bytes
  pub based : c.base ≤ c.cursor

-- what one goes on with: the state that was answered, and after a refusal the one before
abbrev pub state_after : FieldCursor → Result FieldCursor Refusal → FieldCursor
state_after c (Ok d) = d
state_after c (Err refusal) = c

abbrev pub after : Building → Outcome → Building
after b o = building (state_after b.state o.answer) o.table o.names
