-- P1 to P8, by computation. Assumes nothing.
use mathlib.Core.Path.{◌≡◌, refl}
use mathlib.Core.Bool.{true}
use mathlib.Core.List.{List}
use Prim.Native.Nat.{ℕ}
use Rattle.lent.specs.Scan.{gather, every}
use Rattle.crc64.specs.Avro.{negated, turn, turns, fp_table, print_byte, print_from, fingerprint}
use Rattle.field.specs.Order.{sort_by}
use Rattle.hash_rules.specs.Walk.{walk_fields, walk_table}
use Rattle.hash_rules.specs.Hash.{hash_of}
use Rattle.step.specs.Step.{steps_ok}
use Rattle.slot.specs.Plan.{plan_ok}
use Rattle.mapping.specs.Mapping.{half, span, integer_of, least, largest, number_of, mapped, map_int}
use Rattle.interpreter.specs.Run.{run_step, run, upgraded}
use Rattle.checked.specs.Cases.{answer, plan, table, Agrees}

-- the whole table, under any catalogue, layout and budget
pub checked : (cat l : List ℕ) (budget : ℕ) → Agrees cat l budget table
unfolding Agrees table answer hash_of walk_table walk_fields sort_by fingerprint print_from print_byte fp_table gather turns turn negated
    map_int mapped integer_of number_of least largest span half upgraded run run_step
checked cat l budget = (refl, (refl, (refl, (refl, (refl, (refl, (refl, (refl, (refl, tt)))))))))

-- the plan of the table keeps every rule
pub plan-kept : plan_ok plan ≡ true
unfolding plan_ok every steps_ok
plan-kept = refl
