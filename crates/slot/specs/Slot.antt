-- A plan in a slot of lent bytes: eight numbers of two bytes (source rtype, rtype, source base, header length, target base, record size,
-- step count, zero), room for the steps, and room for the body.
use Rattle.std.specs.Prelude.{ℕ, ◌+◌, ◌-◌, ◌*◌, Bool, ◌&&◌, List, [], ◌∷◌, ◌++◌, eqb, length, take, replicate}
use Rattle.limits.specs.Limits.{max_bytes, max_steps}
use Rattle.lent.specs.Bytes.{number_at, bytes_of, window}
use Rattle.lent.specs.Scan.{every, places}
use Rattle.step.specs.Step.{steps_ok}
use Rattle.step.specs.Packed.{packed_of, flags_ok, steps_at}
use Rattle.step.specs.declared.Step.{Step}
use Rattle.slot.specs.declared.UpgradePlan.{UpgradePlan}
use Rattle.slot.specs.Plan.{Plan, plan_ok}

-- where the steps start, where the body does, and where the slot ends
abbrev pub steps_from : ℕ
steps_from = 16

abbrev pub body_from : ℕ
body_from = steps_from + 16 * max_steps

abbrev pub slot_size : ℕ
slot_size = body_from + max_bytes

-- ---- the plan that a slot holds

abbrev pub header_in : List ℕ → ℕ
header_in slot = number_at slot 6 2

abbrev pub size_in : List ℕ → ℕ
size_in slot = number_at slot 10 2

abbrev pub count_in : List ℕ → ℕ
count_in slot = number_at slot 12 2

abbrev pub plan_in : List ℕ → Plan
plan_in slot =
    record {
      src_rtype = number_at slot 0 2;
      rtype = number_at slot 2 2;
      src_base = number_at slot 4 2;
      header = header_in slot;
      base = number_at slot 8 2;
      size = size_in slot;
      body = window slot body_from (size_in slot - header_in slot);
      steps = steps_at slot steps_from (count_in slot);
    }

-- kind, sign and mark of each of n packed steps are 0 or 1
abbrev pub all_flags : List ℕ → ℕ → ℕ → Bool
all_flags slot at n = every (flags_ok slot) (places 16 at n)

-- a slot that holds a plan which keeps every rule; bytes past its steps and its body are not looked at
unfoldable pub slot_ok : List ℕ → Bool
slot_ok slot = eqb (length slot) slot_size && (all_flags slot steps_from (count_in slot) && plan_ok (plan_in slot))

-- what is asked of the n steps from `at` on, in one pass over them
abbrev pub keeps : List ℕ → ℕ → ℕ → ℕ → ℕ → Bool
keeps slot at n low high = all_flags slot at n && steps_ok low high (steps_at slot at n)

-- ---- the plan that an UpgradePlan and the body lent beside it are

abbrev pub plan_of : UpgradePlan → List ℕ → Plan
plan_of p body =
    record {
      src_rtype = p.numbers.src_rtype;
      rtype = p.numbers.rtype;
      src_base = p.numbers.src_base;
      header = p.numbers.header;
      base = p.numbers.base;
      size = p.numbers.size;
      body = body;
      steps = take p.steps.count p.steps.steps;
    }

-- ---- the slot of a plan, zero wherever the plan does not reach

-- zeros behind bytes, up to n
abbrev pub filled : ℕ → List ℕ → List ℕ
filled n bytes = bytes ++ replicate (n - length bytes) 0

abbrev pub packed_steps : List Step → List ℕ
packed_steps [] = []
packed_steps (s ∷ ss) = packed_of s ++ packed_steps ss

abbrev pub head_as : ℕ → ℕ → ℕ → ℕ → ℕ → ℕ → ℕ → List ℕ
head_as src_rtype rtype src_base header base size count =
    bytes_of 2 src_rtype ++ (bytes_of 2 rtype ++ (bytes_of 2 src_base ++ (bytes_of 2 header
    ++ (bytes_of 2 base ++ (bytes_of 2 size ++ (bytes_of 2 count ++ bytes_of 2 0))))))

abbrev pub head_of : Plan → List ℕ
head_of p = head_as p.src_rtype p.rtype p.src_base p.header p.base p.size (length p.steps)

unfoldable pub slot_of : Plan → List ℕ
slot_of p = head_of p ++ (filled (16 * max_steps) (packed_steps p.steps) ++ filled max_bytes p.body)
