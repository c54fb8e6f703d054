-- Any calls in any order, each going on with what the one before it left.
use Rattle.std.specs.Prelude.{ℕ, Bool, true, List, [], ◌∷◌, ltb}
use Rattle.field.specs.declared.FieldDef.{FieldDef}
use Rattle.field.specs.declared.Holder.{Holder}
use Rattle.cursor_rules.specs.Cursor.{Building, building, Outcome, fresh}
use Rattle.cursor_rules.specs.declared.Times.{Times}
use Rattle.calls_rules.specs.Calls.{scalar_of, string_of, like_of, nested_of, at_of, finish_base_of}
use Rattle.finishing.specs.Finish.{finish_of}
use Rattle.sound.specs.Sound.{after}

-- a call with all that it is given, in the order of its parameters
pub data Call : Type 0 where
  Scalar : ℕ → ℕ → ℕ → ℕ → ℕ → List ℕ → Call
  Chars : ℕ → ℕ → ℕ → ℕ → List ℕ → Call
  Like : FieldDef → ℕ → List ℕ → Call
  Nested : List ℕ → ℕ → ℕ → Times → List ℕ → Call
  Goes : ℕ → Call
  EndBase : Call

abbrev pub answer_of : List ℕ → Call → Building → Outcome
answer_of cat (Scalar field type size flags index name) = scalar_of cat field type size flags index name
answer_of cat (Chars field type size flags name) = string_of cat field type size flags name
answer_of cat (Like f index name) = like_of cat f index name
answer_of cat (Nested l field k times name) = nested_of cat l field k times name
answer_of cat (Goes offset) = at_of cat offset
answer_of cat EndBase = finish_base_of cat

-- the type id that is given is a byte
abbrev pub type_fits : Call → Bool
type_fits (Scalar field type size flags index name) = ltb type 256
type_fits (Chars field type size flags name) = ltb type 256
type_fits (Like f index name) = ltb f.type_id 256
type_fits (Nested l field k times name) = true
type_fits (Goes offset) = true
type_fits EndBase = true

unfoldable pub made_from : List ℕ → List Call → Building → Building
made_from cat [] b = b
made_from cat (c ∷ cs) b = made_from cat cs (after b (answer_of cat c b))

-- calls on a fresh cursor over a table and names, and finish
abbrev pub made : List ℕ → Holder → List ℕ → List ℕ → List Call → Building
made cat holder t n cs = made_from cat cs (building (fresh holder) t n)

abbrev pub finished : List ℕ → List ℕ → Building → Building
finished cat ids b = after b (finish_of cat ids b)
