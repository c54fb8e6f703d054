use Rattle.std.proofs.Common.{sym, ◌∙◌, arith, Some, None}
use Rattle.field.specs.Field.{fields_of}
use Rattle.places.specs.Places.{has_id}
use Rattle.places.proofs.Firsts.{gives, inside, no_place}
use Rattle.places.proofs.Index.first.Goals as goal

pub returns-in_err-place : goal.returns-in_err-place
returns-in_err-place c = c.from_residual.ensures ∙ sym (no_place (has_id c.args.id) (λ f. Some f) None 0 (fields_of c.args.self.now.table.now) (sym c.in_err-place.ensures))

pub overflow_mul-place : goal.overflow_mul-place
overflow_mul-place c = let z = inside c.args.self.now.table.now (has_id c.args.id) c.in_ok-place.place (sym c.in_ok-place.ensures) in record { fits = omega arith }

pub field_in-requires : goal.field_in-requires
field_in-requires c = inside c.args.self.now.table.now (has_id c.args.id) c.in_ok-place.place (sym c.in_ok-place.ensures)

pub returns : goal.returns
returns c = rw c.field_in.ensures (sym (gives c.args.self.now.table.now (has_id c.args.id) c.in_ok-place.place (sym c.in_ok-place.ensures) (λ f. Some f) None))
