-- The plan from a record of one layout to a record of another, and when it is refused.
use Rattle.std.specs.Prelude.{ℕ, cond, Result, Ok, Err, ◌&&◌, List, leb, ltb, length}
use Rattle.std.proofs.lemmas.List.Edits.{sets}
use Rattle.limits.specs.declared.refusal.Refusal.TheVariants.{BadHeader, BadDefaults, NoRoom}
use Rattle.field.specs.Field.{fields_of}
use Rattle.layout.specs.Layout.{RecordLayout, record_of, count_of}
use Rattle.record_size.specs.Size.{record_size}
use Rattle.field.specs.declared.Holder.TheVariants.{Record}
use Rattle.admission_rules.specs.Admission.{admit_both, unless, or_refused, failed}
use Rattle.slot.specs.Plan.{Plan}
use Rattle.slot.specs.Slot.{slot_size, slot_of}
use Rattle.plan_rules.specs.Rule.{wants}
use Rattle.steps.specs.Steps.{planned_steps}
use Rattle.defaults.specs.Defaults.{header_ok, defaults_ok}
use Rattle.limits.specs.declared.refusal.Failure.{Failure}
use Rattle.limits.specs.declared.refusal.Failure.TheVariants.{NoRecord, Refused}

-- a header length, a default body and marks go with the target
unfoldable pub plan_between : List ℕ → RecordLayout → RecordLayout → ℕ → List ℕ → List ℕ → Plan
plan_between cat have want header body marks =
    record {
      src_rtype = have.rtype;
      rtype = want.rtype;
      src_base = have.base;
      header = header;
      base = want.base;
      size = record_size want;
      body = body;
      steps = planned_steps cat (fields_of have.table) (wants cat marks want.table) have.base want.base;
    }

-- 7, 8, and 11 where there is no room for a slot
unfoldable pub between_of : List ℕ → RecordLayout → ℕ → List ℕ → List ℕ → ℕ → Result (Unit {0}) Failure
between_of cat want header body marks room =
    unless (header_ok cat header (record_size want) (fields_of want.table)) (Refused BadHeader)
    (unless (defaults_ok cat header (record_size want) (fields_of want.table) (wants cat marks want.table) body) (Refused BadDefaults)
    (unless (leb slot_size room) (Refused NoRoom) (Ok tt)))

-- from record k of the source's layout to record `to` of the target's
unfoldable pub planned_of : List ℕ → List ℕ → ℕ → List ℕ → ℕ → ℕ → List ℕ → List ℕ → ℕ → Result (Unit {0}) Failure
planned_of cat source k target to header body marks room =
    or_refused failed (admit_both cat source target)
    (cond (ltb k (count_of Record source) && ltb to (count_of Record target)) (between_of cat (record_of target to) header body marks room) (Err NoRecord))

-- what is left of the lent room: the plan's slot, or all as found
abbrev pub or_found : Result (Unit {0}) Failure → List ℕ → List ℕ → List ℕ
or_found (Ok done) new old = new
or_found (Err failure) new old = old

abbrev pub laid_between : List ℕ → RecordLayout → RecordLayout → ℕ → List ℕ → List ℕ → List ℕ → List ℕ
laid_between cat have want header body marks room = sets room 0 (slot_of (plan_between cat have want header body marks))

unfoldable pub after_plan : List ℕ → List ℕ → ℕ → List ℕ → ℕ → ℕ → List ℕ → List ℕ → List ℕ → List ℕ
after_plan cat source k target to header body marks room =
    or_found (planned_of cat source k target to header body marks (length room))
    (laid_between cat (record_of source k) (record_of target to) header body marks room) room
