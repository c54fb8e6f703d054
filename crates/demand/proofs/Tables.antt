-- What admitted tables give the planner's laws, and the target's fields with their marks as fields. Assumes nothing.
use Prim.Native.Nat.{ℕ, zero, suc, ◌+◌, ◌/◌, ◌≤◌}
use native.Mathlib.Omega.{arith}
use mathlib.Core.Path.{◌≡◌, refl, ap}
use mathlib.Core.Bool.{Bool, true, ◌&&◌}
use mathlib.Core.List.{List, [], ◌∷◌}
use borrow.Author.Tests.{lt-ltb, le-leb}
use lib.Dec.{leb, ltb}
use lib.ListN.{length}
use Rattle.limits.specs.Limits.{max_bytes}
use Rattle.lent.specs.Bytes.{byte_at, Bytes}
use Rattle.lent.specs.Scan.{gather, every, highest}
use Rattle.field.specs.Field.{field_at, fields_of, end_of}
use Rattle.field.specs.declared.FieldDef.{FieldDef}
use Rattle.table_rules.specs.Table.{in_bounds, width_ok}
use Rattle.table_rules.specs.declared.Rule.TheVariants.{Bounds, Width}
use Rattle.record_size.specs.Size.{last_end}
use Rattle.plan_rules.specs.Rule.{want_at, wants}
use Rattle.rule.specs.Body.{defs}
use Rattle.defaults.specs.Defaults.{starts_after}
use Rattle.demand.specs.Demand.{Admitted}
use Rattle.lent.proofs.Scan.{both, gathered-length}
use Rattle.demand.proofs.Right.{admitted}
use Rattle.demand.proofs.Ascending.{placed}

-- the target's fields without their marks are the table's
defs-are : (cat marks t : List ℕ) (at n : ℕ) → defs (gather (want_at cat marks t) 16 at n) ≡ gather (field_at t) 16 at n
unfolding gather
defs-are cat marks t at zero = refl
defs-are cat marks t at (suc n) = ap (λ (l : List FieldDef). field_at t at ∷ l) (defs-are cat marks t (at + 16) n)

pub fields-are : (cat marks t : List ℕ) → defs (wants cat marks t) ≡ fields_of t
fields-are cat marks t = defs-are cat marks t 0 (length t / 16)

pub wants-length : (cat marks t : List ℕ) → length (wants cat marks t) ≡ length t / 16
wants-length cat marks t = gathered-length (want_at cat marks t) 16 0 (length t / 16)

-- ---- tests of all fields, put together

every-and : {A : Type 0} (p q : A → Bool) (xs : List A) → every p xs ≡ true → every q xs ≡ true → every (λ x. p x && q x) xs ≡ true
unfolding every
every-and p q [] e f = refl
every-and p q (x ∷ xs) e f =
    let a = both (p x) (every p xs) e in
    let b = both (q x) (every q xs) f in
    rw (a.0, b.0) (every-and p q xs a.1 b.1)

byte-types : (t : List ℕ) (at n : ℕ) → Bytes t → every (λ f. ltb f.type_id 256) (gather (field_at t) 16 at n) ≡ true
unfolding gather every field_at
byte-types t at zero h = refl
byte-types t at (suc n) h = rw (lt-ltb (byte_at t (at + 6)) 256 (h (at + 6))) (byte-types t (at + 16) n h)

pub all-admitted : (cat t : List ℕ) → Admitted cat t → every (admitted cat) (fields_of t) ≡ true
all-admitted cat t a =
    every-and (in_bounds max_bytes) (λ f. width_ok cat f && ltb f.type_id 256) (fields_of t) (a.rules Bounds)
    (every-and (width_ok cat) (λ f. ltb f.type_id 256) (fields_of t) (a.rules Width) (byte-types t 0 (length t / 16) a.bytes))

all_end : (size : ℕ) (fs : List FieldDef) → last_end fs ≤ size → every (λ f. leb (end_of f) size) fs ≡ true
unfolding highest every
all_end size [] h = refl
all_end size (f ∷ fs) h = rw (le-leb (end_of f) size (omega arith)) (all_end size fs (omega arith))

pub all_placed : (cat : List ℕ) (header size : ℕ) (fs : List FieldDef) → every (starts_after cat header) fs ≡ true → last_end fs ≤ size → every (placed cat header size) fs ≡ true
all_placed cat header size fs e h = every-and (starts_after cat header) (λ f. leb (end_of f) size) fs e (all_end size fs h)
