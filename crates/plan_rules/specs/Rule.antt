-- The field rule: what a target field takes from a source record, a step or else, where there is none, its default.
use Rattle.std.specs.Prelude.{ℕ, ◌/◌, Bool, cond, not, ◌&&◌, ◌||◌, List, leb, ltb, eqb, length, Some, None}
use Rattle.std.specs.declared.option.Option.{Option}
use Rattle.lent.specs.Bytes.{byte_at}
use Rattle.lent.specs.Scan.{gather, first}
use Rattle.field.specs.Field.{field_at, is_plain_integer, counts, is_string, is_signed}
use Rattle.field.specs.Pair.{same_kind, apart, same_sign}
use Rattle.field.specs.declared.FieldDef.{FieldDef}
use Rattle.step.specs.Step.{copy, int}
use Rattle.step.specs.declared.Step.{Step}
use Rattle.plan_rules.specs.declared.Want.{Want as WantedField}

abbrev pub when : Bool → Option Step → Option Step
when test carried = cond test carried None

-- what a source field brings to a target field of its id
unfoldable pub step_for : List ℕ → FieldDef → FieldDef → Bool → Option Step
step_for cat have want marked =
    cond (same_kind cat have want) (Some (copy have.offset want.offset want.size))
    (cond (apart cat have want) None
    (cond (is_string cat have && is_string cat want)
    (when (leb have.size want.size) (Some (copy have.offset want.offset have.size)))
    (when (same_sign cat have want && (ltb have.size want.size || marked))
    (Some (int have.offset want.offset have.size want.size (is_signed cat have) marked)))))

-- ---- the target's fields

-- a target field and its mark
abbrev pub Want : Type 0
Want = WantedField

abbrev pub is_marked : List ℕ → List ℕ → ℕ → FieldDef → Bool
is_marked cat marks k f = not (eqb (byte_at marks k) 0) && is_plain_integer cat f

-- the field at a place of the target's table; marks are a byte a field
abbrev pub want_at : List ℕ → List ℕ → List ℕ → ℕ → Want
want_at cat marks t at = record { def = field_at t at; marked = is_marked cat marks (at / 16) (field_at t at) }

abbrev pub wants : List ℕ → List ℕ → List ℕ → List Want
wants cat marks t = gather (want_at cat marks t) 16 0 (length t / 16)

abbrev pub same_id : FieldDef → FieldDef → Bool
same_id want have = eqb have.field_id want.field_id

-- from the first source field with its id
unfoldable pub step_of : List ℕ → List FieldDef → Want → Option Step
step_of cat haves w =
    when (counts cat w.def) (first (same_id w.def) (λ have. step_for cat have w.def w.marked) None haves)
