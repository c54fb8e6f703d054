-- What refusals 7 and 8 leave, and the answers of the planner case by case. Assumes nothing.
use Prim.Native.Nat.{ℕ, ◌+◌, ◌≤◌, ◌<◌}
use mathlib.Core.Path.{◌≡◌}
use mathlib.Core.Bool.{Bool, true, false, ◌&&◌}
use mathlib.Core.List.{List}
use borrow.Author.Tests.{leb-true, ltb-true, eqb-true, le-leb, lt-leb}
use lib.Dec.{leb, ltb, eqb}
use lib.ListN.{length}
use Rattle.limits.specs.Limits.{max_header}
use Rattle.lent.specs.Scan.{every}
use Rattle.lent.proofs.Scan.{both}
use Rattle.field.specs.declared.FieldDef.{FieldDef}
use Rattle.limits.specs.declared.refusal.Refusal.TheVariants.{BadHeader, BadDefaults, NoRoom}
use Rattle.field.specs.Field.{fields_of}
use Rattle.layout.specs.Layout.{RecordLayout}
use Rattle.record_size.specs.Size.{record_size}
use Rattle.slot.specs.Slot.{slot_size}
use Rattle.plan_rules.specs.Rule.{Want, wants}
use Rattle.defaults.specs.Defaults.{starts_after, header_ok, defaults_ok}
use Rattle.planner.specs.Planner.{between_of}
use Rattle.std.specs.Prelude.{Ok}
use Rattle.admission_rules.specs.Admission.{failed}

pub header-fits : (cat : List ℕ) (header size : ℕ) (fs : List FieldDef) → header_ok cat header size fs ≡ true
    → (header ≤ max_header) × (header ≤ size) × (every (starts_after cat header) fs ≡ true)
unfolding header_ok
header-fits cat header size fs e =
    let a = both (leb header max_header && leb header size) (every (starts_after cat header) fs) e in
    let b = both (leb header max_header) (leb header size) a.0 in
    (leb-true header max_header b.0, leb-true header size b.1, a.1)

pub body-fits : (cat : List ℕ) (header size : ℕ) (fs : List FieldDef) (ws : List Want) (body : List ℕ) → defaults_ok cat header size fs ws body ≡ true
    → header + length body ≡ size
unfolding defaults_ok
body-fits cat header size fs ws body e = eqb-true (header + length body) size (both (eqb (header + length body) size) _ e).0

-- ---- the answers

module _ (cat : List ℕ) (want : RecordLayout) (header : ℕ) (body marks : List ℕ) (room : ℕ) where
  abbrev fields : List FieldDef
  fields = fields_of want.table

  abbrev defaults : Bool
  defaults = defaults_ok cat header (record_size want) fields (wants cat marks want.table) body

  pub in-header : header_ok cat header (record_size want) fields ≡ false → failed BadHeader ≡ between_of cat want header body marks room
  unfolding between_of
  in-header h = rw h

  pub wrong-body : header_ok cat header (record_size want) fields ≡ true → defaults ≡ false → failed BadDefaults ≡ between_of cat want header body marks room
  unfolding between_of
  wrong-body h d = rw (h, d)

  pub no_room : header_ok cat header (record_size want) fields ≡ true → defaults ≡ true → room < slot_size → failed NoRoom ≡ between_of cat want header body marks room
  unfolding between_of
  no_room h d r = rw (h, d, lt-leb slot_size room r)

  pub is_made : header_ok cat header (record_size want) fields ≡ true → defaults ≡ true → slot_size ≤ room → Ok tt ≡ between_of cat want header body marks room
  unfolding between_of
  is_made h d r = rw (h, d, le-leb slot_size room r)

-- both records are there
pub both-there : (k n m o : ℕ) → (ltb k n && ltb m o) ≡ true → (k < n) × (m < o)
both-there k n m o e = let b = both (ltb k n) (ltb m o) e in (ltb-true k n b.0, ltb-true m o b.1)
