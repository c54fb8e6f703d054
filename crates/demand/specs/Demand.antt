-- The words of demand 3: a plan that the planner makes of two tables, and a plan that differs from it only in cuts.
use Rattle.std.specs.Prelude.{ℕ, ◌+◌, ◌*◌, ◌≤◌, max, ◌≡◌, true, false, List, length}
use Rattle.std.proofs.Math.Option.{Option, none, some}
use Rattle.limits.specs.Limits.{max_bytes, max_header, max_fields}
use Rattle.lent.specs.Bytes.{Bytes}
use Rattle.lent.specs.Scan.{every, first}
use Rattle.catalogue.specs.Catalogue.{unsigned, class_of, catalogue_ok}
use Rattle.field.specs.Field.{fields_of, is_array}
use Rattle.field.specs.declared.FieldDef.{FieldDef}
use Rattle.table_rules.specs.Table.{table_ok}
use Rattle.table_rules.specs.declared.Rule.{Rule}
use Rattle.record_size.specs.Size.{last_end}
use Rattle.step.specs.declared.Step.{Step}
use Rattle.slot.specs.Plan.{Plan, rtypes_ok, plan_ok}
use Rattle.plan_rules.specs.Rule.{wants, same_id}
use Rattle.steps.specs.Steps.{planned_steps}
use Rattle.defaults.specs.Defaults.{starts_after}
use Rattle.rule.specs.Recut.{Recut}

-- a table of bytes that refusals 3 to 6 leave
pub record Admitted (cat table : List ℕ) : Type 0 where
  pub bytes : Bytes table
  pub rules : (rule : Rule) → table_ok rule cat max_bytes (fields_of table) ≡ true

-- a plan that the planner makes of two tables and marks, as refusals 1 to 8 leave it
pub record Planned (cat src_table dst_table marks : List ℕ) (p : Plan) : Type 0 where
  pub catalogue : catalogue_ok cat ≡ true
  pub source : Admitted cat src_table
  pub target : Admitted cat dst_table
  pub few : length dst_table ≤ 16 * max_fields
  pub rtypes : rtypes_ok p ≡ true
  pub src_base : p.src_base ≤ max_bytes
  pub base : p.base ≤ max_bytes
  pub size : p.size ≡ max p.base (last_end (fields_of dst_table))
  pub header : p.header ≤ max_header
  pub after : every (starts_after cat p.header) (fields_of dst_table) ≡ true
  pub body : p.header + length p.body ≡ p.size
  pub bytes : Bytes p.body
  pub steps : p.steps ≡ planned_steps cat (fields_of src_table) (wants cat marks dst_table) p.src_base p.base

-- a plan with other steps
abbrev pub with_steps : Plan → List Step → Plan
with_steps p ss =
    record {
      src_rtype = p.src_rtype;
      rtype = p.rtype;
      src_base = p.src_base;
      header = p.header;
      base = p.base;
      size = p.size;
      body = p.body;
      steps = ss;
    }

-- q keeps every rule of a plan, and is p but for copies that are cut or joined inside the source base
pub record Recuts (p q : Plan) : Type 0 where
  pub valid : plan_ok q ≡ true
  pub same : q ≡ with_steps p q.steps
  pub steps : Recut p.src_base p.steps q.steps

-- ---- sequence numbers

-- an unsigned field of eight bytes that is no array
pub record Sequence (cat : List ℕ) (f : FieldDef) : Type 0 where
  pub class : class_of cat f.type_id ≡ unsigned
  pub wide : f.size ≡ 8
  pub single : is_array cat f ≡ false

-- the source field that a target field is carried from: the first with its id
abbrev pub first_for : List FieldDef → FieldDef → Option FieldDef
first_for haves want = first (same_id want) some none haves
