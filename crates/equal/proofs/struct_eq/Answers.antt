use Prim.Native.Nat.{◌*◌, ◌/◌, ◌≤◌}
use Rattle.equal_rules.proofs.Equal.{counts-differ, order-ends, order-goes, order-stops, orders, sizes-differ}
use Rattle.field.specs.Field.{field_at}
use Rattle.layout.specs.Layout.{struct_at}
use Rattle.limits.specs.Limits.{max_struct_fields}
use lib.ListN.{length}
use mathlib.Core.Path.{◌∙◌, ap, refl, sym}
use native.Mathlib.Omega.{arith}
use Rattle.equal.proofs.struct_eq.Goals as goal

pub returns-then-struct_size : goal.returns-then-struct_size
returns-then-struct_size c = sizes-differ (struct_at c.args.s.now c.args.h) (struct_at c.args.c.now c.args.g) _ _ refl refl (λ e. absurd (c.if-struct_size.true (c.struct_size.ensures ∙ e ∙ sym c.struct_size-2.ensures)))

pub returns-then-n-wants : goal.returns-then-n-wants
returns-then-n-wants c = counts-differ (struct_at c.args.s.now c.args.h) (struct_at c.args.c.now c.args.g) _ _ c.table_at-haves.ensures c.table_at-wants.ensures (sym c.struct_size.ensures ∙ c.if-struct_size.false ∙ c.struct_size-2.ensures) c.if-n-wants.true

pub by_offset-requires : goal.by_offset-requires
by_offset-requires c = let z : length c.table_at-haves.result.now ≤ 16 * max_struct_fields = rw c.table_at-haves.ensures c.requires.0 in
    (omega arith, omega arith)

pub by_offset-requires-2 : goal.by_offset-requires-2
by_offset-requires-2 c = let z : length c.table_at-haves.result.now ≤ 16 * max_struct_fields = rw c.table_at-haves.ensures c.requires.0 in
    (omega arith, omega arith)

pub loop-k-init : goal.loop-k-init
loop-k-init c = let z : length c.table_at-haves.result.now ≤ 16 * max_struct_fields = rw c.table_at-haves.ensures c.requires.0 in (
  omega arith,
  omega (arith, c.by_offset.ensures.1),
  omega (arith, c.by_offset-2.ensures.1),
  omega arith,
  orders (struct_at c.args.s.now c.args.h) (struct_at c.args.c.now c.args.g) _ _ c.table_at-haves.ensures c.table_at-wants.ensures
      (sym c.struct_size.ensures ∙ c.if-struct_size.false ∙ c.struct_size-2.ensures) _ _ _ refl c.if-n-wants.false c.by_offset.ensures.0 c.by_offset-2.ensures.0,
)

pub returns-then-not-eq_except_def_index : goal.returns-then-not-eq_except_def_index
returns-then-not-eq_except_def_index c = order-stops (field_at c.table_at-haves.result.now) (field_at c.table_at-wants.result.now) (length c.table_at-haves.result.now / 16) c.loop-k.k _ _ _ c.loop-k.invariant.4 c.loop-k.invariant.1 c.loop-k.invariant.2 (omega arith) _ _
    (c.field_at-have.ensures ∙ ap (field_at c.table_at-haves.result.now) c.wide16.ensures.0) (c.field_at-want.ensures ∙ ap (field_at c.table_at-wants.result.now) c.wide16-in-loop-k.ensures.0)
    (sym c.eq_except_def_index.ensures ∙ c.if-not-eq_except_def_index.true)

pub loop-k-preserved : goal.loop-k-preserved
loop-k-preserved c = (
  omega arith,
  c.loop-k.invariant.1,
  c.loop-k.invariant.2,
  c.loop-k.invariant.3,
  order-goes (field_at c.table_at-haves.result.now) (field_at c.table_at-wants.result.now) (length c.table_at-haves.result.now / 16) c.loop-k.k _ _ _ c.loop-k.invariant.4 c.loop-k.invariant.1 c.loop-k.invariant.2 (omega arith) _ _
      (c.field_at-have.ensures ∙ ap (field_at c.table_at-haves.result.now) c.wide16.ensures.0) (c.field_at-want.ensures ∙ ap (field_at c.table_at-wants.result.now) c.wide16-in-loop-k.ensures.0)
      (sym c.eq_except_def_index.ensures ∙ c.if-not-eq_except_def_index.false),
)

pub returns : goal.returns
returns c = order-ends (field_at c.table_at-haves.result.now) (field_at c.table_at-wants.result.now) (length c.table_at-haves.result.now / 16) c.loop-k.k _ _ _ c.loop-k.invariant.4 (omega arith)
