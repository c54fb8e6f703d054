use Rattle.std.proofs.Common.{◌∙◌, sym, rules, tests, inl, arith, Some, ◌%◌}
use Rattle.field.specs.Field.{fields_of, field_at}
use Rattle.field.proofs.Behind.{YieldsList-from_rows}
use Rattle.lent.proofs.Scan.{gathered-length}
use Rattle.std.proofs.lemmas.Iterator.Search.{position_from_yields_List}
use Rattle.std.proofs.lemmas.Iterator.Adapters.{position_from-zero}
use Rattle.places.specs.Places.{has_id, has_low}
use Rattle.places.proofs.Firsts.{inside}
use Rattle.places.proofs.Indexed.{entry, is-there, not_there}
use Rattle.places.proofs.Index.find.Goals as goal

pub returns-in_err-self : goal.returns-in_err-self
returns-in_err-self c = c.from_residual.ensures ∙ sym (not_there c.args.self.now.table.now c.args.self.now.firsts c.args.self.now.holds c.args.id (rw (← c.from.ensures) c.in_err-self.was))

pub u16_in-requires : goal.u16_in-requires
u16_in-requires c = omega (
  arith,
  c.from-place.ensures,
  inside c.args.self.now.table.now (has_low (c.args.id % 256)) c.in_ok-self.field-0
      (entry c.args.self.now.table.now c.args.self.now.firsts c.args.self.now.holds c.args.id (Some c.in_ok-self.field-0) (rw (← c.from.ensures) c.in_ok-self.was)),
)

pub returns-then-u16_in-id : goal.returns-then-u16_in-id
unfolding field_at
returns-then-u16_in-id c = sym (is-there c.args.self.now.table.now c.args.self.now.firsts c.args.self.now.holds c.args.id c.from-place.result
    (rw (← c.from.ensures, c.from-place.ensures) c.in_ok-self.was) (sym c.u16_in.ensures ∙ c.if-u16_in-id.true))

pub position-requires-clause-fits : goal.position-requires-clause-fits
position-requires-clause-fits c = inl (rw (c.rows_of.ensures, gathered-length) (omega arith))

pub returns : goal.returns
returns c = let a = c.args in position_from_yields_List (has_id a.id) c.position.new.self _ c.position.result c.position.ensures.ran (YieldsList-from_rows c.rows_of.result c.rows_of.ensures) (λ f b q k. search (rules, tests)) ∙ position_from-zero (has_id a.id) (fields_of a.self.now.table.now)
