-- Refusals 7 and 8: the target's header against its fields, and its default body. Fields that count are neither padding nor the header.
use Rattle.std.specs.Prelude.{ℕ, suc, ◌+◌, ◌-◌, Bool, cond, not, ◌&&◌, ◌||◌, List, leb, ltb, eqb, length}
use Rattle.limits.specs.Limits.{max_header}
use Rattle.lent.specs.Bytes.{byte_at}
use Rattle.lent.specs.Scan.{every, some, first, places}
use Rattle.field.specs.declared.FieldDef.{FieldDef}
use Rattle.field.specs.Field.{counts, is_signed}
use Rattle.plan_rules.specs.Rule.{Want}

-- ---- refusal 7

abbrev pub starts_after : List ℕ → ℕ → FieldDef → Bool
starts_after cat header f = not (counts cat f) || leb header f.offset

-- within its limit, within the record, and no field that counts starts inside it
unfoldable pub header_ok : List ℕ → ℕ → ℕ → List FieldDef → Bool
header_ok cat header size fields = (leb header max_header && leb header size) && every (starts_after cat header) fields

-- ---- refusal 8

-- byte i of a record lies in the field
abbrev pub holds : FieldDef → ℕ → Bool
holds f i = leb f.offset i && ltb i (f.offset + f.size)

abbrev pub covered : List ℕ → List FieldDef → ℕ → Bool
covered cat fields i = some (λ f. counts cat f && holds f i) fields

-- zero at every byte of the record past the header that no field covers
abbrev pub gaps_zero : List ℕ → List FieldDef → ℕ → List ℕ → Bool
gaps_zero cat fields header body = every (λ i. covered cat fields i || eqb (byte_at body (i - header)) 0) (places 1 header (length body))

-- byte i of the largest integer of n bytes
abbrev pub largest_byte : Bool → ℕ → ℕ → ℕ
largest_byte signed n i = cond (signed && eqb (suc i) n) 127 255

abbrev pub is_largest : List ℕ → ℕ → ℕ → Bool → Bool
is_largest body at n signed = every (λ i. eqb (byte_at body (at + i)) (largest_byte signed n i)) (places 1 0 n)

-- the largest value at a marked integer
abbrev pub mark_holds : List ℕ → ℕ → List ℕ → Want → Bool
mark_holds cat header body w =
    not (counts cat w.def && w.marked) || is_largest body (w.def.offset - header) w.def.size (is_signed cat w.def)

-- a byte for each from the header's length to the record size, zero outside of the fields, the largest value where a field is marked
unfoldable pub defaults_ok : List ℕ → ℕ → ℕ → List FieldDef → List Want → List ℕ → Bool
defaults_ok cat header size fields wants body =
    eqb (header + length body) size && (gaps_zero cat fields header body && every (mark_holds cat header body) wants)

-- ---- how the gaps are found: at a byte that is not zero, on from the end of the field that holds it

-- where the field that holds byte i ends, or i where none does
abbrev pub cover_end : List ℕ → List FieldDef → ℕ → ℕ
cover_end cat fields i = first (λ f. counts cat f && holds f i) (λ f. f.offset + f.size) i fields
