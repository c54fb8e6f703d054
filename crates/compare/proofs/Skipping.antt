-- A turn of the loop that passes over four fields of other ids. Assumes nothing.
use mathlib.Core.Path.{◌≡◌, ap}
use mathlib.Core.Bool.{false}
use mathlib.Core.List.{List}
use Prim.Native.Nat.{ℕ, ◌+◌, ◌-◌, ◌*◌, ◌/◌, ◌<◌}
use native.Mathlib.Omega.{arith}
use borrow.Author.Tests.{eqb-false}
use lib.Dec.{eqb}
use lib.ListN.{length}
use Rattle.lent.specs.Scan.{gather, some}
use Rattle.lent.proofs.Scan.{seeks}
use Rattle.field.specs.Field.{field_at, fields_of}
use Rattle.compare.specs.Parts.{Skips}

pub skips-none : (t : List ℕ) (id : ℕ) → Skips t id 0
skips-none t id =
    let e : length t / 16 - 0 ≡ length t / 16 = omega arith in
    record { within = omega arith; rest = λ test h. ap (λ (n : ℕ). some test (gather (field_at t) 16 0 n)) e }

-- one field more
pub one_more : (t : List ℕ) (id k at : ℕ) → Skips t id k → k < length t / 16 → at ≡ 16 * k → eqb (field_at t at).field_id id ≡ false → Skips t id (k + 1)
one_more t id k at s h ea e =
    let b : 16 * (k + 1) ≡ at + 16 = omega arith in
    let n : length t / 16 - (k + 1) ≡ length t / 16 - k - 1 = omega arith in
    record {
      within = omega arith;
      rest = λ test other.
          let so : some test (gather (field_at t) 16 at (length t / 16 - k)) ≡ some test (fields_of t) = rw ea (s.rest test other) in
          rw (b, n) (seeks (field_at t) 16 at (length t / 16 - k) test (some test (fields_of t)) so (omega arith) (other (field_at t at) (eqb-false _ _ e)));
    }
