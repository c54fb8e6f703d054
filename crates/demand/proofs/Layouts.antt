-- What admission says of a record of an admitted layout, and a plan made of two such records. Assumes nothing.
use Prim.Native.Nat.{ℕ, ◌+◌, ◌≤◌, ◌<◌}
use native.Mathlib.Omega.{arith}
use mathlib.Core.Path.{◌≡◌, ap, ◌∙◌}
use mathlib.Core.Bool.{Bool, true, false, cond}
use mathlib.Core.List.{List, [], Memᴰ}
use lib.ListN.{length}
use Rattle.limits.specs.Limits.{max_header}
use Rattle.lent.specs.Bytes.{Bytes, window, has_window, part_of}
use Rattle.lent.specs.Scan.{every}
use Rattle.lent.proofs.Scan.{both}
use Rattle.field.specs.Field.{fields_of}
use Rattle.layout.specs.Layout.{start_at, length_at, record_at, record_head, record_of, count_of}
use Rattle.record_size.specs.Size.{record_size}
use Rattle.layout.specs.Shape.{shape_ok}
use Rattle.field.specs.declared.Holder.TheVariants.{Record}
use Rattle.layout.proofs.Shapes.{base-in-record, few-in-record}
use Rattle.admission_rules.specs.Admission.{layout_ok}
use Rattle.admission_rules.proofs.When.{Passed}
use Rattle.admission_rules.proofs.Records.{record-keeps}
use Rattle.slot.specs.Plan.{Plan, rtypes_ok}
use Rattle.slot.proofs.Checking.{bytes-window}
use Rattle.plan_rules.specs.Rule.{wants}
use Rattle.steps.specs.Steps.{planned_steps}
use Rattle.defaults.specs.Defaults.{starts_after}
use Rattle.demand.specs.Demand.{Admitted, Planned}

-- ---- bytes of a part

bytes-part : (s : List ℕ) (at n : ℕ) → Bytes s → Bytes (part_of s at n)
unfolding part_of
bytes-part s at n h = go (has_window s at n) where
  go : (t : Bool) → Bytes (cond t (window s at n) [])
  go true = bytes-window s at n h
  go false = λ i. omega arith

-- ---- one of the layouts lent

every_one : {A : Type 0} (p : A → Bool) {x : A} {xs : List A} → Memᴰ x xs → every p xs ≡ true → p x ≡ true
unfolding every
every_one p (Memᴰ.head {x = y} {xs = ys} e) k = ap p e ∙ (both (p y) (every p ys) k).0
every_one p (Memᴰ.tail {x = y} {xs = ys} m) k = every_one p m (both (p y) (every p ys) k).1

module _ (cat : List ℕ) (ls : List (List ℕ)) (passed : Passed cat ls) (l : List ℕ) (one : Memᴰ l ls) (k : ℕ) (there : k < count_of Record l) where
  record-admitted : Bytes l → Admitted cat (record_of l k).table
  unfolding record_at
  record-admitted bytes =
      record {
        bytes = bytes-part l (start_at l (record_head k + 16)) (length_at l (record_head k + 16)) bytes;
        rules = λ rule. record-keeps cat l k there rule (every_one (layout_ok rule cat) one (passed.rules rule));
      }

  shaped : shape_ok l ≡ true
  shaped = every_one shape_ok one passed.shaped

-- a plan made of two records of admitted layouts, with what refusals 7 and 8 leave
pub planned-of-records : (cat : List ℕ) (ls : List (List ℕ)) → Passed cat ls → (a b : List ℕ) → Memᴰ a ls → Memᴰ b ls → Bytes a → Bytes b
    → (i j : ℕ) → i < count_of Record a → j < count_of Record b → (marks : List ℕ) (p : Plan) → rtypes_ok p ≡ true
    → p.src_base ≡ (record_of a i).base → p.base ≡ (record_of b j).base → p.size ≡ record_size (record_of b j)
    → p.header ≤ max_header → every (starts_after cat p.header) (fields_of (record_of b j).table) ≡ true
    → p.header + length p.body ≡ p.size → Bytes p.body
    → p.steps ≡ planned_steps cat (fields_of (record_of a i).table) (wants cat marks (record_of b j).table) p.src_base p.base
    → Planned cat (record_of a i).table (record_of b j).table marks p
planned-of-records cat ls passed a b one two bytes bytes' i j hi hj marks p rtypes es eb size header after body fine steps =
    record {
      catalogue = passed.valid;
      source = record-admitted cat ls passed a one i hi bytes;
      target = record-admitted cat ls passed b two j hj bytes';
      few = few-in-record b j (shaped cat ls passed b two j hj) hj;
      rtypes = rtypes;
      src_base = omega (arith, base-in-record a i (shaped cat ls passed a one i hi) hi);
      base = omega (arith, base-in-record b j (shaped cat ls passed b two j hj) hj);
      size = rw eb size;
      header = header;
      after = after;
      body = body;
      bytes = fine;
      steps = steps;
    }
