-- What admission says of one record of a layout. Assumes nothing.
use Prim.Native.Nat.{ℕ, ◌<◌}
use mathlib.Core.Path.{◌≡◌}
use mathlib.Core.Bool.{true}
use mathlib.Core.List.{List}
use Rattle.limits.specs.Limits.{max_bytes}
use Rattle.lent.specs.Scan.{every}
use Rattle.lent.proofs.Scan.{both, nth}
use Rattle.field.specs.Field.{fields_of}
use Rattle.table_rules.specs.Table.{table_ok}
use Rattle.table_rules.specs.declared.Rule.{Rule}
use Rattle.layout.specs.Layout.{record_of, count_of, heads}
use Rattle.field.specs.declared.Holder.TheVariants.{Record}
use Rattle.admission_rules.specs.Admission.{head_ok, layout_ok}

module _ (cat l : List ℕ) (k : ℕ) (there : k < count_of Record l) where
  -- a rule on every table holds of the record's
  pub record-keeps : (rule : Rule) → layout_ok rule cat l ≡ true → table_ok rule cat max_bytes (fields_of (record_of l k).table) ≡ true
  unfolding layout_ok
  record-keeps rule ok = nth (head_ok rule Record cat l) (λ (h : ℕ). h) 72 8 (count_of Record l) k there (both (every (head_ok rule Record cat l) (heads Record l)) _ ok).0
