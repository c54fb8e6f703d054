-- Admission: refusals 1 to 6, each over the whole input before the next.
use Rattle.std.specs.Prelude.{Err, Ok, Result}
use Rattle.std.specs.Prelude.{ℕ, Bool, true, false, cond, ◌&&◌, List, [], ◌∷◌}
use Rattle.limits.specs.Refusal.{number_of}
use Rattle.limits.specs.declared.refusal.Failure.{Failure}
use Rattle.limits.specs.declared.refusal.Failure.TheVariants.{Refused}
use Rattle.limits.specs.declared.refusal.Refusal.{Refusal}
use Rattle.limits.specs.declared.refusal.Refusal.TheVariants.{BadCatalogue, BadShape, ReservedByte, OutOfBounds, SharedByte, WrongWidth}
use Rattle.lent.specs.Scan.{every}
use Rattle.catalogue.specs.Catalogue.{catalogue_ok}
use Rattle.field.specs.Field.{fields_of}
use Rattle.table_rules.specs.Table.{table_ok}
use Rattle.table_rules.specs.declared.Rule.{Rule}
use Rattle.table_rules.specs.declared.Rule.TheVariants.{Reserved, Bounds, Apart, Width}
use Rattle.layout.specs.Layout.{heads, table_at, limit_at}
use Rattle.layout.specs.Shape.{shape_ok}
use Rattle.field.specs.declared.Holder.{Holder}
use Rattle.field.specs.declared.Holder.TheVariants.{Record, Struct}

-- a rule on the table whose head begins at h
abbrev pub head_ok : Rule → Holder → List ℕ → List ℕ → ℕ → Bool
head_ok rule holder cat l h = table_ok rule cat (limit_at holder l h) (fields_of (table_at holder l h))

-- a rule on every table of a layout
unfoldable pub layout_ok : Rule → List ℕ → List ℕ → Bool
layout_ok rule cat l = every (head_ok rule Record cat l) (heads Record l) && every (head_ok rule Struct cat l) (heads Struct l)

-- the refusal unless the test passes
abbrev pub unless : {A E : Type 0} → Bool → E → Result A E → Result A E
unless true refusal rest = rest
unless false refusal rest = Err refusal

-- refusals 3 to 6 of the layouts lent, each of all of them before the next
abbrev pub admit_tables : List ℕ → List (List ℕ) → Result (Unit {0}) Refusal
admit_tables cat ls =
    unless (every (layout_ok Reserved cat) ls) ReservedByte
    (unless (every (layout_ok Bounds cat) ls) OutOfBounds
    (unless (every (layout_ok Apart cat) ls) SharedByte
    (unless (every (layout_ok Width cat) ls) WrongWidth (Ok tt))))

abbrev pub admit_catalogue : List ℕ → Result (Unit {0}) Refusal
admit_catalogue cat = unless (catalogue_ok cat) BadCatalogue (Ok tt)

unfoldable pub admit_all : List ℕ → List (List ℕ) → Result (Unit {0}) Refusal
admit_all cat ls = unless (catalogue_ok cat) BadCatalogue (unless (every shape_ok ls) BadShape (admit_tables cat ls))

-- one layout, and two
abbrev pub admit_of : List ℕ → List ℕ → Result (Unit {0}) Refusal
admit_of cat l = admit_all cat (l ∷ [])

abbrev pub admit_both : List ℕ → List ℕ → List ℕ → Result (Unit {0}) Refusal
admit_both cat a b = admit_all cat (a ∷ b ∷ [])

-- the refusal of admission as an answer of another kind, else what follows
abbrev pub or_refused : {A : Type 0} → (Refusal → A) → Result (Unit {0}) Refusal → A → A
or_refused refused (Ok done) rest = rest
or_refused refused (Err refusal) rest = refused refusal

-- the same as why a call on records has no answer
abbrev pub failed : {A : Type 0} → Refusal → Result A Failure
failed refusal = Err (Refused refusal)

-- what the code is lent: both, or the first alone
abbrev pub given : Bool → List ℕ → List ℕ → List (List ℕ)
given both a b = cond both (a ∷ b ∷ []) (a ∷ [])

-- the paper's number, 0 where nothing is refused
abbrev pub status_of : Result (Unit {0}) Refusal → ℕ
status_of (Ok done) = 0
status_of (Err refusal) = number_of refusal
