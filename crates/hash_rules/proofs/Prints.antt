-- The walk that feeds a sum gives the fingerprint of the bytes of the walk that gathers them. Assumes nothing.
use mathlib.Core.Path.{◌≡◌, refl, sym, ap, ◌∙◌}
use mathlib.Core.Bool.{Bool, true, false, cond}
use mathlib.Core.List.{List, [], ◌∷◌, ◌++◌}
use Prim.Native.Nat.{ℕ, zero, suc, ◌+◌, ◌/◌}
use native.Mathlib.Omega.{arith}
use lib.Dec.{ltb}
use Rattle.limits.specs.declared.refusal.Refusal.TheVariants.{OverBudget}
use Rattle.lent.specs.Bytes.{Bytes, bytes_of}
use Rattle.crc64.specs.Sum.{empty, bytes_step}
use Rattle.crc64.specs.Avro.{print_byte, print_from, fingerprint}
use Rattle.crc64.proofs.Agree.{agree-from}
use Rattle.crc64.proofs.Vectors.{of-nothing}
use Rattle.field.specs.Field.{fields_of, byte_of}
use Rattle.field.specs.declared.FieldDef.{FieldDef}
use Rattle.field.specs.Order.{by_offset}
use Rattle.layout.specs.Layout.{struct_of}
use Rattle.feed.specs.Feed.{field_bytes}
use Rattle.hash_rules.specs.Walk.{Walked, Went, Stopped, after, names_struct, walk_field, walk_fields, walk_table}
use Rattle.hash_rules.specs.Hash.{summed, hash_of}
use Rattle.hash_rules.specs.Parts.{told}

-- ---- what the walk feeds are bytes

are-bytes : (n v : ℕ) → Bytes (bytes_of n v)
are-bytes zero v i = omega arith
are-bytes (suc n) v zero = omega arith
are-bytes (suc n) v (suc i) = are-bytes n (v / 256) i

both_bytes : (a b : List ℕ) → Bytes a → Bytes b → Bytes (a ++ b)
both_bytes [] b ha hb i = hb i
both_bytes (x ∷ a) b ha hb zero = ha 0
both_bytes (x ∷ a) b ha hb (suc i) = both_bytes a b (λ j. ha (suc j)) hb i

field-bytes : (f : FieldDef) → Bytes (field_bytes f)
unfolding field_bytes
field-bytes f =
    let last : List ℕ = bytes_of 1 (byte_of f.scale) in
    let flags : List ℕ = bytes_of 1 f.flags ++ last in
    let type : List ℕ = bytes_of 1 f.type_id ++ flags in
    let size : List ℕ = bytes_of 2 f.size ++ type in
    both_bytes (bytes_of 2 f.field_id) (bytes_of 2 f.offset ++ size) (are-bytes 2 f.field_id)
    (both_bytes (bytes_of 2 f.offset) size (are-bytes 2 f.offset)
    (both_bytes (bytes_of 2 f.size) type (are-bytes 2 f.size)
    (both_bytes (bytes_of 1 f.type_id) flags (are-bytes 1 f.type_id)
    (both_bytes (bytes_of 1 f.flags) last (are-bytes 1 f.flags) (are-bytes 1 (byte_of f.scale))))))

prints-join : (fp : ℕ) (a b : List ℕ) → print_from fp (a ++ b) ≡ print_from (print_from fp a) b
unfolding print_from
prints-join fp [] b = refl
prints-join fp (x ∷ a) b = prints-join (print_byte fp x) a b

-- bytes behind others go into the sum of those
fed : (bs x : List ℕ) → Bytes x → fingerprint (bs ++ x) ≡ bytes_step (fingerprint bs) x
unfolding fingerprint
fed bs x h = prints-join _ bs x ∙ agree-from _ x h

-- ---- one walk is the image of the other

image : Walked (List ℕ) → Walked ℕ
image (Went bs visits) = Went (fingerprint bs) visits
image (Stopped refusal) = Stopped refusal

image-of-choice : (p q : Bool) (a b : Walked (List ℕ))
    → image (cond p (cond q a b) (Stopped OverBudget)) ≡ cond p (cond q (image a) (image b)) (Stopped OverBudget)
unfolding image
image-of-choice true true a b = refl
image-of-choice true false a b = refl
image-of-choice false q a b = refl

module _ (cat l : List ℕ) (budget : ℕ) where
  -- a way to enter structs, seen through the sum
  Alike : (List FieldDef → List ℕ → ℕ → Walked (List ℕ)) → (List FieldDef → ℕ → ℕ → Walked ℕ) → Type 0
  Alike gathering summing = (fs : List FieldDef) (bs : List ℕ) (visits : ℕ) → image (gathering fs bs visits) ≡ summing fs (fingerprint bs) visits

  module _ (gathering : List FieldDef → List ℕ → ℕ → Walked (List ℕ)) (summing : List FieldDef → ℕ → ℕ → Walked ℕ) (alike : Alike gathering summing) where
    field_alike : (f : FieldDef) (bs : List ℕ) (visits : ℕ)
        → image (walk_field ◌++◌ cat l budget gathering f bs visits) ≡ walk_field bytes_step cat l budget summing f (fingerprint bs) visits
    unfolding walk_field Alike image
    field_alike f bs visits =
        let own : fingerprint (bs ++ field_bytes f) ≡ bytes_step (fingerprint bs) (field_bytes f) = fed bs (field_bytes f) (field-bytes f) in
        let size : fingerprint ((bs ++ field_bytes f) ++ bytes_of 2 (struct_of l f).size) ≡ bytes_step (bytes_step (fingerprint bs) (field_bytes f)) (bytes_of 2 (struct_of l f).size) =
        fed (bs ++ field_bytes f) (bytes_of 2 (struct_of l f).size) (are-bytes 2 (struct_of l f).size) ∙ ap (λ (s : ℕ). bytes_step s (bytes_of 2 (struct_of l f).size)) own in
        image-of-choice (ltb visits budget) (names_struct cat l f)
        (gathering (fields_of (struct_of l f).table) ((bs ++ field_bytes f) ++ bytes_of 2 (struct_of l f).size) (visits + 1))
        (Went (bs ++ field_bytes f) (visits + 1))
        ∙ rw (alike (fields_of (struct_of l f).table) ((bs ++ field_bytes f) ++ bytes_of 2 (struct_of l f).size) (visits + 1), size, own)

    after-alike : (w : Walked (List ℕ)) (next : List ℕ → ℕ → Walked (List ℕ)) (next' : ℕ → ℕ → Walked ℕ)
        → ((bs : List ℕ) (visits : ℕ) → image (next bs visits) ≡ next' (fingerprint bs) visits) → image (after w next) ≡ after (image w) next'
    unfolding image
    after-alike (Went bs visits) next next' h = h bs visits
    after-alike (Stopped refusal) next next' h = refl

    fields-alike : (fs : List FieldDef) (bs : List ℕ) (visits : ℕ)
        → image (walk_fields ◌++◌ cat l budget gathering fs bs visits) ≡ walk_fields bytes_step cat l budget summing fs (fingerprint bs) visits
    unfolding walk_fields image
    fields-alike [] bs visits = refl
    fields-alike (f ∷ fs) bs visits =
        after-alike (walk_field ◌++◌ cat l budget gathering f bs visits) (walk_fields ◌++◌ cat l budget gathering fs)
        (walk_fields bytes_step cat l budget summing fs) (λ b v. fields-alike fs b v)
        ∙ ap (λ (w : Walked ℕ). after w (walk_fields bytes_step cat l budget summing fs)) (field_alike f bs visits)

  table-alike : (levels : ℕ) → Alike (walk_table ◌++◌ cat l budget levels) (walk_table bytes_step cat l budget levels)
  unfolding Alike walk_table image
  table-alike zero fs bs visits = refl
  table-alike (suc levels) fs bs visits =
      fields-alike (walk_table ◌++◌ cat l budget levels) (walk_table bytes_step cat l budget levels) (table-alike levels) (by_offset fs) bs visits

  told-summed : (w : Walked (List ℕ)) → told (image w) ≡ summed w
  unfolding image
  told-summed (Went bs visits) = refl
  told-summed (Stopped refusal) = refl

  -- the hash is the fingerprint of the walk's bytes
  pub prints : (fs : List FieldDef) → told (walk_table bytes_step cat l budget 8 fs empty 0) ≡ hash_of cat l budget fs
  unfolding hash_of Alike
  prints fs =
      ap (λ (s : ℕ). told (walk_table bytes_step cat l budget 8 fs s 0)) (sym of-nothing)
      ∙ ap told (sym (table-alike 8 fs [] 0))
      ∙ told-summed (walk_table ◌++◌ cat l budget 8 fs [] 0)
