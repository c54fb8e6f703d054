use Rattle.index_rules.proofs.Lookups.{record-turn, records-end}
use Rattle.index_rules.specs.Index.{by_id, has_id}
use Rattle.index.proofs.field_by_id.Goals as goal

pub loop-h-init : goal.loop-h-init
unfolding by_id
loop-h-init c = rw (c.into_iter-h-iterator.ensures.into_iter_gives, c.heads_of-h-items.ensures.heads)

pub loop-h-preserved : goal.loop-h-preserved
loop-h-preserved c =
    rw c.last_of_record-found.ensures (record-turn (has_id c.args.cat.now c.args.id) c.args.l.now c.args.rtype c.loop-h.found c.loop-h.invariant c.in-Some.ensures.steps)

pub returns : goal.returns
returns c = records-end (has_id c.args.cat.now c.args.id) c.args.l.now c.args.rtype c.loop-h.found c.loop-h.invariant c.in-None.ensures.steps.0
