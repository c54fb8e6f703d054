-- What hosts are told of a call of the field cursor: a status, and what the state's five numbers, the table and the names become.
use Rattle.std.specs.Prelude.{Result, Ok, Err, ℕ, Bool, cond, not, List, [], ◌∷◌, eqb, get_or}
use Rattle.limits.specs.Refusal.{number_of}
use Rattle.limits.specs.declared.refusal.Refusal.{Refusal}
use Rattle.field.specs.declared.Holder.{Holder}
use Rattle.field.specs.declared.Holder.TheVariants.{Record, Struct}
use Rattle.cursor_rules.specs.Cursor.{Building, building, Outcome}
use Rattle.cursor_rules.specs.declared.FieldCursor.{FieldCursor}

-- a base is noted where the last number is not 0
abbrev pub state_in : List ℕ → FieldCursor
state_in s =
    record { most = get_or s 0 0; count = get_or s 1 0; cursor = get_or s 2 0; base = get_or s 3 0; based = not (eqb (get_or s 4 0) 0) }

abbrev pub state_out : FieldCursor → List ℕ
state_out c = c.most ∷ c.count ∷ c.cursor ∷ c.base ∷ cond c.based 1 0 ∷ []

-- what a call is given
abbrev pub lent_to : List ℕ → List ℕ → List ℕ → Building
lent_to s t ns = building (state_in s) t ns

abbrev pub holder_of : Bool → Holder
holder_of of_struct = cond of_struct Struct Record

abbrev pub placed_status : Result FieldCursor Refusal → ℕ
placed_status (Ok c) = 0
placed_status (Err refusal) = number_of refusal

abbrev pub state_or : Result FieldCursor Refusal → List ℕ → List ℕ
state_or (Ok c) found = state_out c
state_or (Err refusal) found = found

pub record Hosted : Type 0 where
  pub status : ℕ
  pub state : List ℕ
  pub table : List ℕ
  pub names : List ℕ

abbrev pub hosted : ℕ → List ℕ → List ℕ → List ℕ → Hosted
hosted status s t ns = record { status = status; state = s; table = t; names = ns }

abbrev pub hosted_of : Outcome → List ℕ → Hosted
hosted_of o s = hosted (placed_status o.answer) (state_or o.answer s) o.table o.names
