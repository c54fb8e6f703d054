-- What the parts of the writer rest on and compute: a slot that holds a plan of the right sizes, and a run of its numbers.
use Rattle.std.specs.Prelude.{ℕ, zero, suc, ◌+◌, ◌≤◌, ◌≡◌, List, [], ◌++◌, length}
use Rattle.lent.specs.Bytes.{number_at}
use Rattle.limits.specs.Limits.{max_bytes, max_steps}
use Rattle.slot.specs.Slot.{slot_size, header_in, size_in, count_in}
use Rattle.decimal.specs.Decimal.{cell}
use Rattle.plan_text.specs.Text.{tab, head_line}

pub record Held (slot : List ℕ) : Type 0 where
  pub long : length slot ≡ slot_size
  pub few : count_in slot ≤ max_steps
  pub most : size_in slot ≤ max_bytes
  pub headed : header_in slot ≤ size_in slot

-- n numbers of a slot from `at` on, each with a tab behind it
unfoldable pub tabbed : List ℕ → ℕ → ℕ → List ℕ
tabbed slot at zero = []
tabbed slot at (suc n) = cell (number_at slot at 2) tab ++ tabbed slot (at + 2) n

-- the head line of the plan that a slot holds
abbrev pub head_in : List ℕ → List ℕ
head_in slot = head_line (number_at slot 0 2) (number_at slot 2 2) (number_at slot 4 2) (header_in slot) (number_at slot 8 2) (size_in slot) (count_in slot)
