use Rattle.std.proofs.Common.{map, ap, add-one, drop-cons, arith}
use Rattle.field.specs.Field.{field_at}
use Rattle.table_rules.proofs.Chained.{chain-stops, chain-goes, chain-ends}
use lib.ListN.{drop_of_length-le}
use Rattle.table.proofs.chain_ok.Goals as goal

pub returns-then-from-low : goal.returns-then-from-low
returns-then-from-low c =
    let F = field_at c.args.t.now in
    let o = c.args.order.now in
    let k = c.loop-place.place-index in
    let here = c.loop-place-test.true in
    chain-stops c.loop-place.low c.loop-place.invariant.1 (ap (map F) (drop-cons o k 0 here)) (omega arith)

pub loop-place-preserved : goal.loop-place-preserved
loop-place-preserved c =
    let F = field_at c.args.t.now in
    let o = c.args.order.now in
    let k = c.loop-place.place-index in
    let here = c.loop-place-test.true in (
      omega arith,
      rw (c.offset_at-from.ensures.0, c.size_at.ensures.0, add-one k)
          (chain-goes c.loop-place.low c.loop-place.invariant.1 (ap (map F) (drop-cons o k 0 here)) (omega arith)),
    )

pub returns : goal.returns
returns c = chain-ends c.loop-place.low c.loop-place.invariant.1 (ap (map (field_at c.args.t.now)) (drop_of_length-le c.args.order.now c.loop-place-test.false))
