-- The theorem is not empty: tables that the planner makes the document's case P6 of, and the body that the field rule gives. Assumes nothing.
use Prim.Native.Nat.{ℕ, zero, suc}
use native.Mathlib.Omega.{arith}
use mathlib.Core.Path.{◌≡◌, refl}
use mathlib.Core.Bool.{true, false}
use mathlib.Core.List.{List, [], ◌∷◌, ◌++◌}
use borrow.Author.Tests.{ltb-true}
use lib.Dec.{ltb}
use lib.ListN.{replicate}
use Rattle.limits.specs.Limits.{max_bytes}
use Rattle.lent.specs.Bytes.{Bytes, bytes_of}
use Rattle.lent.specs.Scan.{every, gather, first, tally, highest}
use Rattle.lent.proofs.Scan.{both}
use Rattle.catalogue.specs.Catalogue.{catalogue_ok}
use Rattle.field.specs.Field.{field_at, fields_of}
use Rattle.field.specs.Order.{insert_by, sort_by}
use Rattle.table_rules.specs.Table.{table_ok, apart}
use Rattle.admission_rules.proofs.When.{by-rule}
use Rattle.step.specs.Step.{copy, int}
use Rattle.slot.specs.Plan.{Plan, is_byte}
use Rattle.plan_rules.specs.Rule.{step_for, step_of, wants}
use Rattle.coalesce.specs.Joins.{joins, join_from, join_all}
use Rattle.steps.specs.Steps.{steps_of, planned_steps}
use Rattle.mapping.specs.Mapping.{half, span, integer_of, least, largest, number_of, mapped, map_int}
use Rattle.rule.specs.Bytewise.{step_byte, bytewise}
use Rattle.rule.specs.Body.{rule_byte, rule_body}
use Rattle.demand.specs.Demand.{Admitted, Planned}

-- bytes, by a test of all
of-bytes : (s : List ℕ) → every is_byte s ≡ true → Bytes s
unfolding every
of-bytes [] e i = omega arith
of-bytes (x ∷ xs) e zero = ltb-true x 256 (both (ltb x 256) (every is_byte xs) e).0
of-bytes (x ∷ xs) e (suc i) = of-bytes xs (both (ltb x 256) (every is_byte xs) e).1 i

-- ids 0 to 7 are unsigned and signed of 1, 2, 4 and 8 bytes, 8 the decimal, 9 and 10 strings, 11 the struct, 12 padding
cat : List ℕ
cat = (17 ∷ 18 ∷ 20 ∷ 24 ∷ 33 ∷ 34 ∷ 36 ∷ 40 ∷ 56 ∷ 64 ∷ 64 ∷ 80 ∷ 96 ∷ []) ++ (replicate 243 0 ++ (1 ∷ 2 ∷ 0 ∷ 0 ∷ 9 ∷ 0 ∷ []))

row : ℕ → ℕ → ℕ → ℕ → List ℕ
row id offset size type = bytes_of 2 id ++ (bytes_of 2 offset ++ (bytes_of 2 size ++ (type ∷ replicate 9 0)))

-- the header, an integer of two bytes, two strings that lie together
source : List ℕ
source = row 0 0 16 200 ++ (row 3 22 2 1 ++ (row 1 16 4 9 ++ row 2 20 2 9))

-- a marked integer of four bytes, the second string, the header, the first string, padding, and a marked integer that the source lacks
target : List ℕ
target = row 3 32 4 2 ++ (row 2 28 2 9 ++ (row 0 0 24 200 ++ (row 1 24 4 9 ++ (row 9 30 2 12 ++ row 4 36 2 1))))

marks : List ℕ
marks = 1 ∷ 0 ∷ 0 ∷ 0 ∷ 0 ∷ 1 ∷ []

plan : Plan
plan =
    record {
      src_rtype = 1;
      rtype = 1;
      src_base = 24;
      header = 24;
      base = 40;
      size = 40;
      body = replicate 8 0 ++ (replicate 6 255 ++ replicate 2 0);
      steps = copy 16 24 6 ∷ int 22 32 2 4 false true ∷ [];
    }

source-admitted : Admitted cat source
unfolding cat row source every gather field_at apart
source-admitted = record { bytes = of-bytes source refl; rules = by-rule (λ rule. table_ok rule cat max_bytes (fields_of source) ≡ true) refl refl refl refl }

target-admitted : Admitted cat target
unfolding cat row target every gather field_at apart
target-admitted = record { bytes = of-bytes target refl; rules = by-rule (λ rule. table_ok rule cat max_bytes (fields_of target) ≡ true) refl refl refl refl }

-- the planner makes the plan of the tables
made : Planned cat source target marks plan
unfolding cat row source target marks plan catalogue_ok every gather tally field_at highest sort_by insert_by step_for step_of first steps_of joins join_from join_all planned_steps
made =
    record {
      catalogue = refl;
      source = source-admitted;
      target = target-admitted;
      few = omega arith;
      rtypes = refl;
      src_base = omega arith;
      base = omega arith;
      size = refl;
      header = omega arith;
      after = refl;
      body = refl;
      bytes = of-bytes plan.body refl;
      steps = refl;
    }

-- and the rule's body is P6's
body-p6 : rule_body cat (fields_of source) (wants cat marks target) (replicate 16 0 ++ (1 ∷ 2 ∷ 3 ∷ 4 ∷ 5 ∷ 6 ∷ 7 ∷ 0 ∷ [])) 24 plan.body
    ≡ 1 ∷ 2 ∷ 3 ∷ 4 ∷ 5 ∷ 6 ∷ 0 ∷ 0 ∷ 7 ∷ 0 ∷ 0 ∷ 0 ∷ 255 ∷ 255 ∷ 0 ∷ 0 ∷ []
unfolding cat row source target marks plan gather field_at step_for step_of first step_byte bytewise rule_byte half span integer_of least largest number_of mapped map_int
body-p6 = refl
