use Rattle.compare.proofs.Bases.{base-larger, base-smaller, met-found, met-lacks, met-padding}
use Rattle.compare.specs.Compare.{met}
use Rattle.equal_rules.proofs.Equal.{ids-differ}
use Rattle.equal_rules.specs.Equal.{field_eq}
use Rattle.field.specs.Field.{field_at, fields_of}
use Rattle.layout.specs.Layout.{record_at}
use Rattle.lent.proofs.Scan.{ends, finds, goes, lacks, seeks, stops}
use mathlib.Core.Path.{◌∙◌, sym}
use native.Mathlib.Omega.{arith}
use Rattle.compare.proofs.is_base_compatible.Goals as goal

pub returns-then-record_base : goal.returns-then-record_base
returns-then-record_base c = base-smaller c.args.cat.now c.args.s.now (record_at c.args.s.now c.args.h) c.args.c.now (record_at c.args.c.now c.args.g) (omega (arith, c.record_base.ensures, c.record_base-2.ensures))

pub next-init : goal.next-init
next-init c = (
  omega arith,
  base-larger c.args.cat.now c.args.s.now (record_at c.args.s.now c.args.h) c.args.c.now (record_at c.args.c.now c.args.g) (omega (arith, c.record_base.ensures, c.record_base-2.ensures)) _ _ c.table_at-haves.ensures c.table_at-wants.ensures,
)

pub next-preserved-then-is_padding : goal.next-preserved-then-is_padding
next-preserved-then-is_padding c = (
  omega arith,
  goes (field_at c.table_at-wants.result.now) 16 c.next.at c.next.left (met c.args.cat.now c.args.s.now (fields_of c.table_at-haves.result.now) c.args.c.now) _ c.next.invariant.1 (omega arith)
      (met-padding c.args.cat.now c.args.s.now (fields_of c.table_at-haves.result.now) c.args.c.now (field_at c.table_at-wants.result.now c.next.at) (rw c.field_in-want.ensures at (sym c.is_padding.ensures ∙ c.if-is_padding.true))),
)

pub overflow_mul-from : goal.overflow_mul-from
overflow_mul-from c = omega (arith, c.skipped-front.ensures.within)

pub overflow_sub-rest : goal.overflow_sub-rest
overflow_sub-rest c = omega (arith, c.skipped-front.ensures.within)

pub loop-rest-init : goal.loop-rest-init
loop-rest-init c = (omega (arith, c.skipped-front.ensures.within), rw (← c.field_in-want.ensures) (c.skipped-front.ensures.rest _ (λ f h. sym (ids-differ c.args.cat.now c.args.s.now f c.args.c.now c.field_in-want.result h))))

pub row_eq-requires : goal.row_eq-requires
row_eq-requires c = (c.requires.0, c.requires.1, omega arith, omega arith)

pub next-preserved : goal.next-preserved
next-preserved c = (
  omega arith,
  goes (field_at c.table_at-wants.result.now) 16 c.next.at c.next.left (met c.args.cat.now c.args.s.now (fields_of c.table_at-haves.result.now) c.args.c.now) _ c.next.invariant.1 (omega arith)
      (met-found c.args.cat.now c.args.s.now (fields_of c.table_at-haves.result.now) c.args.c.now (field_at c.table_at-wants.result.now c.next.at)
      (finds (field_at c.table_at-haves.result.now) 16 c.loop-rest.from c.loop-rest.rest (λ have. field_eq c.args.cat.now c.args.s.now have c.args.c.now (field_at c.table_at-wants.result.now c.next.at)) _ c.loop-rest.invariant.1 (omega arith) (sym c.row_eq.ensures ∙ c.if-row_eq.true))),
)

pub loop-rest-preserved : goal.loop-rest-preserved
loop-rest-preserved c = (
  omega arith,
  seeks (field_at c.table_at-haves.result.now) 16 c.loop-rest.from c.loop-rest.rest (λ have. field_eq c.args.cat.now c.args.s.now have c.args.c.now (field_at c.table_at-wants.result.now c.next.at)) _ c.loop-rest.invariant.1 (omega arith) (sym c.row_eq.ensures ∙ c.if-row_eq.false),
)

pub returns-in-next : goal.returns-in-next
returns-in-next c = stops (field_at c.table_at-wants.result.now) 16 c.next.at c.next.left (met c.args.cat.now c.args.s.now (fields_of c.table_at-haves.result.now) c.args.c.now) _ c.next.invariant.1 (omega arith)
    (met-lacks c.args.cat.now c.args.s.now (fields_of c.table_at-haves.result.now) c.args.c.now (field_at c.table_at-wants.result.now c.next.at) (rw c.field_in-want.ensures at (sym c.is_padding.ensures ∙ c.if-is_padding.false))
    (lacks (field_at c.table_at-haves.result.now) 16 c.loop-rest.from c.loop-rest.rest (λ have. field_eq c.args.cat.now c.args.s.now have c.args.c.now (field_at c.table_at-wants.result.now c.next.at)) _ c.loop-rest.invariant.1 (omega arith)))

pub returns : goal.returns
returns c = ends (field_at c.table_at-wants.result.now) 16 c.next.at c.next.left (met c.args.cat.now c.args.s.now (fields_of c.table_at-haves.result.now) c.args.c.now) _ c.next.invariant.1 (omega arith)
