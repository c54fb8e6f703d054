-- What `apply` and `upgrade` answer, and what they leave of the target. A refusal leaves it as found.
use Rattle.std.specs.Prelude.{ℕ, ◌+◌, ◌-◌, ◌/◌, Bool, cond, ◌||◌, List, Option, Some, None, Result, Ok, Err, ltb, eqb, length}
use Rattle.std.proofs.lemmas.List.Edits.{sets}
use Rattle.limits.specs.Limits.{max_bytes, max_header}
use Rattle.limits.specs.declared.refusal.Refusal.{Refusal}
use Rattle.limits.specs.declared.refusal.Refusal.TheVariants.{BadHeader, BadLength, Unplanned, NoRoom, BadPlan}
use Rattle.lent.specs.Bytes.{number_at, window}
use Rattle.lent.specs.Scan.{first, some, places}
use Rattle.slot.specs.Slot.{slot_size, size_in, plan_in, slot_ok}
use Rattle.interpreter.specs.Run.{upgraded}
use Rattle.dispatch.specs.declared.Upgraded.{Upgraded}

-- a stated length above what is lent, or above the limit
abbrev pub bad_length : List ℕ → ℕ → Bool
bad_length src stated = ltb (length src) stated || ltb max_bytes stated

-- the record: as many bytes as are stated
abbrev pub record_in : List ℕ → ℕ → List ℕ
record_in src stated = window src 0 stated

-- the target's rtype, and the upgraded record's size
abbrev pub done : ℕ → ℕ → Result Upgraded Refusal
done rtype size = Ok (record { rtype = rtype; size = size })

-- a target that is written where the answer is no refusal
abbrev pub after : Result Upgraded Refusal → List ℕ → List ℕ → List ℕ
after (Ok made) written dst = written
after (Err refusal) written dst = dst

-- ---- one plan: room for the size that it states, then its rules

unfoldable pub planned_of : List ℕ → List ℕ → Result Upgraded Refusal
planned_of slot dst =
    cond (ltb (length dst) (size_in slot)) (Err NoRoom)
    (cond (slot_ok slot) (done (plan_in slot).rtype (size_in slot)) (Err BadPlan))

unfoldable pub applied_of : List ℕ → List ℕ → ℕ → List ℕ → Result Upgraded Refusal
applied_of slot src stated dst = cond (bad_length src stated) (Err BadLength) (planned_of slot dst)

abbrev pub after_apply : List ℕ → List ℕ → ℕ → List ℕ → List ℕ
after_apply slot src stated dst = after (applied_of slot src stated dst) (upgraded (plan_in slot) (record_in src stated) dst) dst

-- ---- the dispatch: the first plan of the rtype, of the whole slots of a run

abbrev pub is_of : List ℕ → ℕ → ℕ → Bool
is_of plans rtype at = eqb (number_at plans at 2) rtype

unfoldable pub first_plan : List ℕ → ℕ → Option ℕ
first_plan plans rtype = first (is_of plans rtype) Some None (places slot_size 0 (length plans / slot_size))

abbrev pub slot_at : List ℕ → ℕ → List ℕ
slot_at plans at = window plans at slot_size

-- is it one of the rtypes that are listed unplanned?
unfoldable pub listed : List ℕ → ℕ → Bool
listed unplanned rtype = some (λ one. eqb one rtype) unplanned

-- without a plan: the target's header, and what stands after the source's
abbrev pub bare_size : ℕ → ℕ → ℕ → ℕ
bare_size src_header dst_header stated = dst_header + (stated - src_header)

unfoldable pub bare_of : List ℕ → ℕ → ℕ → ℕ → ℕ → List ℕ → Result Upgraded Refusal
bare_of unplanned rtype src_header dst_header stated dst =
    cond (listed unplanned rtype) (Err Unplanned)
    (cond (ltb (length dst) (bare_size src_header dst_header stated)) (Err NoRoom) (done rtype (bare_size src_header dst_header stated)))

abbrev pub chosen : Option ℕ → List ℕ → List ℕ → ℕ → ℕ → ℕ → ℕ → List ℕ → Result Upgraded Refusal
chosen (Some at) plans unplanned rtype src_header dst_header stated dst = planned_of (slot_at plans at) dst
chosen None plans unplanned rtype src_header dst_header stated dst = bare_of unplanned rtype src_header dst_header stated dst

unfoldable pub upgraded_of : List ℕ → List ℕ → ℕ → ℕ → ℕ → List ℕ → ℕ → List ℕ → Result Upgraded Refusal
upgraded_of plans unplanned rtype src_header dst_header src stated dst =
    cond (ltb max_header src_header || ltb max_header dst_header) (Err BadHeader)
    (cond (bad_length src stated || ltb stated src_header) (Err BadLength)
    (chosen (first_plan plans rtype) plans unplanned rtype src_header dst_header stated dst))

-- what is written: by the plan, or the bytes after the source header as they are
abbrev pub written : Option ℕ → List ℕ → ℕ → ℕ → List ℕ → ℕ → List ℕ → List ℕ
written (Some at) plans src_header dst_header src stated dst = upgraded (plan_in (slot_at plans at)) (record_in src stated) dst
written None plans src_header dst_header src stated dst = sets dst dst_header (window (record_in src stated) src_header (stated - src_header))

abbrev pub after_upgrade : List ℕ → List ℕ → ℕ → ℕ → ℕ → List ℕ → ℕ → List ℕ → List ℕ
after_upgrade plans unplanned rtype src_header dst_header src stated dst =
    after (upgraded_of plans unplanned rtype src_header dst_header src stated dst) (written (first_plan plans rtype) plans src_header dst_header src stated dst) dst
