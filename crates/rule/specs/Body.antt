-- The field rule's body: each byte is that of the target field it lies in, carried or else the default.
use Rattle.std.specs.Prelude.{ℕ, Bool, cond, ◌&&◌, List, ◌++◌, map, leb, ltb, drop}
use Rattle.lent.specs.Scan.{first}
use Rattle.field.specs.Field.{end_of}
use Rattle.field.specs.declared.FieldDef.{FieldDef}
use Rattle.step.specs.Step.{gives}
use Rattle.step.specs.declared.Step.{Step}
use Rattle.plan_rules.specs.Rule.{Want, step_of}
use Rattle.std.specs.declared.option.Option.{Option}
use Rattle.std.specs.Prelude.{Some, None}
use Rattle.interpreter.specs.Run.{carried, reaches}
use Rattle.rule.specs.Bytewise.{step_byte, bytewise}

-- the target's fields without their marks
abbrev pub defs : List Want → List FieldDef
defs ws = map (λ w. w.def) ws

-- byte i lies in the field
abbrev pub holds : FieldDef → ℕ → Bool
holds f i = leb f.offset i && ltb i (end_of f)

-- byte i of what a field carries, `old` in its default
abbrev pub carried_byte : List ℕ → Option Step → ℕ → ℕ → ℕ
carried_byte src None i old = old
carried_byte src (Some s) i old = step_byte src s i old

-- byte i of the target, `old` in the default body
unfoldable pub rule_byte : List ℕ → List FieldDef → List Want → List ℕ → ℕ → ℕ → ℕ
rule_byte cat haves ws src i old = first (λ w. holds w.def i) (λ w. carried_byte src (step_of cat haves w) i old) old ws

-- the body of the record src, which stands at offset h, of the default body b
abbrev pub rule_body : List ℕ → List FieldDef → List Want → List ℕ → ℕ → List ℕ → List ℕ
rule_body cat haves ws src h b = bytewise (rule_byte cat haves ws src) h b

-- ---- the same, field by field

-- the bytes of a field: what is carried, and the default behind it; the default where nothing is, or the record ends before
abbrev pub value_of : List ℕ → Option Step → List ℕ → List ℕ
value_of src None default = default
value_of src (Some s) default = cond (reaches src s) (carried src s.op ++ drop (gives s) default) default
