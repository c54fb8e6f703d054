use mathlib.Core.Path.{sym, ◌∙◌}
use Rattle.field.specs.Field.{fields_of}
use Rattle.index_rules.proofs.Lookups.{name-here, name-later, names-end, fields-end}
use Rattle.layout.specs.Layout.{record_at}
use Rattle.index.proofs.name_in.Goals as goal

pub loop-f-init : goal.loop-f-init
unfolding record_at
loop-f-init c = rw (c.into_iter-f-iterator.ensures.into_iter_gives, c.rows_of-f-items.ensures, c.names_of-names.ensures, c.table_at.ensures)

pub returns-in_err-name : goal.returns-in_err-name
returns-in_err-name c =
    rw c.from_residual.ensures (names-end c.args.cat.now c.args.wanted.now c.loop-f.names (fields_of c.loop-f.f-iterator.rest.now) c.loop-f.invariant c.in_err-name.ensures.steps.0)

pub returns-then-has_name : goal.returns-then-has_name
returns-then-has_name c =
    name-here c.args.cat.now c.args.wanted.now c.loop-f.names (fields_of c.loop-f.f-iterator.rest.now) c.loop-f.invariant c.in_ok-name.ensures.steps c.in-Some.ensures.steps (sym c.has_name.ensures ∙ c.if-has_name.true)

pub loop-f-preserved : goal.loop-f-preserved
loop-f-preserved c =
    name-later c.args.cat.now c.args.wanted.now c.loop-f.names (fields_of c.loop-f.f-iterator.rest.now) c.loop-f.invariant c.in_ok-name.ensures.steps c.in-Some.ensures.steps (sym c.has_name.ensures ∙ c.if-has_name.false)

pub returns : goal.returns
returns c = fields-end c.args.cat.now c.args.wanted.now c.loop-f.names (fields_of c.loop-f.f-iterator.rest.now) c.loop-f.invariant c.in-None.ensures.steps.0
