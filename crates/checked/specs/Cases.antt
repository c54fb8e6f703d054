-- The checked cases, P1 to P8, in one table: what is asked, and the numbers that are stated for it.
use Rattle.std.specs.Prelude.{Result, Ok, Err, ℕ, ◌-◌, ◌^◌, Bool, true, false, List, [], ◌∷◌, ◌++◌, ◌≡◌, take, drop, replicate}
use Rattle.limits.specs.Refusal.{number_of}
use Rattle.crc64.specs.Avro.{fingerprint}
use Rattle.field.specs.declared.FieldDef.{FieldDef}
use Rattle.hash_rules.specs.Hash.{hash_of}
use Rattle.limits.specs.declared.refusal.Refusal.{Refusal}
use Rattle.hash_rules.specs.declared.Walked.{Walked}
use Rattle.step.specs.Step.{copy, int}
use Rattle.slot.specs.Plan.{Plan}
use Rattle.mapping.specs.Mapping.{map_int}
use Rattle.interpreter.specs.Run.{upgraded}

pub data Case : Type 0 where
  -- the hash of a table of fields, and the sum of bytes
  Fields : List FieldDef → Case
  Bytes : List ℕ → Case
  -- an integer by the number that its bytes hold: from so many bytes to so many, signed, marked
  Integer : ℕ → ℕ → Bool → Bool → ℕ → Case
  -- a record upgraded by a plan
  Record : Plan → List ℕ → Case

abbrev pub hash_numbers : Result Walked Refusal → List ℕ
hash_numbers (Ok walked) = walked.fp ∷ walked.visits ∷ []
hash_numbers (Err refusal) = number_of refusal ∷ []

-- a target that holds something else before
abbrev pub body_after : Plan → List ℕ → List ℕ
body_after p src = drop p.header (upgraded p src (replicate p.size 170))

-- the answer, under any catalogue, layout and budget
unfoldable pub answer : List ℕ → List ℕ → ℕ → Case → List ℕ
answer cat l budget (Fields fs) = hash_numbers (hash_of cat l budget fs)
answer cat l budget (Bytes bs) = fingerprint bs ∷ []
answer cat l budget (Integer from to signed marked v) = map_int from to signed marked v ∷ []
answer cat l budget (Record p src) = body_after p src

-- ---- the plan of P6 to P8, and its record

abbrev pub default : List ℕ
default = 0 ∷ 0 ∷ 0 ∷ 0 ∷ 0 ∷ 0 ∷ 0 ∷ 0 ∷ 255 ∷ 255 ∷ 255 ∷ 255 ∷ 255 ∷ 255 ∷ 0 ∷ 0 ∷ []

abbrev pub plan : Plan
plan =
    record {
      src_rtype = 1;
      rtype = 1;
      src_base = 24;
      header = 24;
      base = 40;
      size = 40;
      body = default;
      steps = copy 16 24 6 ∷ int 22 32 2 4 false true ∷ [];
    }

abbrev pub source : List ℕ
source = replicate 16 0 ++ (1 ∷ 2 ∷ 3 ∷ 4 ∷ 5 ∷ 6 ∷ 7 ∷ 0 ∷ [])

pub record Row : Type 0 where
  pub asked : Case
  pub stated : List ℕ

abbrev pub row : Case → List ℕ → Row
row asked stated = record { asked = asked; stated = stated }

unfoldable pub table : List Row
table =
    -- P1 no fields
    row (Fields []) (0xC15D213AA4D7A795 ∷ 0 ∷ [])
    -- P2 the byte 0x95 alone
    ∷ row (Bytes (0x95 ∷ [])) (0x00C15D213AA4D7A7 ∷ [])
    -- P3 i16 -200 to i8, marked
    ∷ row (Integer 2 1 true true (2 ^ 16 - 200)) (127 ∷ [])
    -- P4 i32 -1 to i64, no mark: -1
    ∷ row (Integer 4 8 true false (2 ^ 32 - 1)) ((2 ^ 64 - 1) ∷ [])
    -- P5 u32 4,294,967,295 to u64, unmarked and marked
    ∷ row (Integer 4 8 false false 4294967295) (4294967295 ∷ [])
    ∷ row (Integer 4 8 false true 4294967295) (18446744073709551615 ∷ [])
    -- P6 the plan on its record; P7 cut to 23 bytes; P8 cut to 21
    ∷ row (Record plan source) (1 ∷ 2 ∷ 3 ∷ 4 ∷ 5 ∷ 6 ∷ 0 ∷ 0 ∷ 7 ∷ 0 ∷ 0 ∷ 0 ∷ 255 ∷ 255 ∷ 0 ∷ 0 ∷ [])
    ∷ row (Record plan (take 23 source)) (1 ∷ 2 ∷ 3 ∷ 4 ∷ 5 ∷ 6 ∷ 0 ∷ 0 ∷ 255 ∷ 255 ∷ 255 ∷ 255 ∷ 255 ∷ 255 ∷ 0 ∷ 0 ∷ [])
    ∷ row (Record plan (take 21 source)) default
    ∷ []

-- each answer is the one that is stated
unfoldable pub Agrees : List ℕ → List ℕ → ℕ → List Row → Type 0
Agrees cat l budget [] = Unit
Agrees cat l budget (r ∷ rs) = (answer cat l budget r.asked ≡ r.stated) × Agrees cat l budget rs
