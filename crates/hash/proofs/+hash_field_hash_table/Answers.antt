-- A visit, taken, is the walk of its field (Walks.antt); of a table, each field's walk goes through or stops all.
use Rattle.std.proofs.lemmas.Result.{err_from_is_err_and}
use Rattle.crc64.specs.Sum.{bytes_step}
use Rattle.field.proofs.Placed.{placed}
use Rattle.field.specs.Field.{field_at}
use Rattle.hash_rules.proofs.Walks.{taken-walks, few-entered, walk-goes, walk-stops, walk_ends, walk-starts, too-deep}
use Rattle.hash_rules.specs.Walk.{walk_table}
use lib.ListN.{length, length-take}
use lib.Seq.{get_or-take}
use mathlib.Core.Path.{refl, ◌∙◌}
use Prim.Native.Nat.{◌/◌, ◌<◌}
use native.Mathlib.Omega.{arith}
use Rattle.hash.proofs.+hash_field_hash_table.Goals as goal

pub hash_field-returns-in_err-walked : goal.hash_field-returns-in_err-walked
hash_field-returns-in_err-walked t c =
    let a = c.args in
    let w = c.args.walk.now in
    let p = err_from_is_err_and c.from_residual.result c.from_residual.ensures.1 in
    rw (p.1, p.2)
    (taken-walks w.cat.now w.layout.now w.budget a.f a.so_far.fp a.so_far.visits (walk_table bytes_step w.cat.now w.layout.now w.budget a.levels) _ c.in_err-walked.ensures.visit)

pub hash_field-hash_table-requires : goal.hash_field-hash_table-requires
hash_field-hash_table-requires t c =
    let a = c.args in
    let w = c.args.walk.now in (
      omega (arith, c.decreases),
      (c.requires, rw c.table_at-table.ensures (few-entered w.cat.now w.layout.now w.budget a.f a.so_far.fp a.so_far.visits c.requires _ (rw c.in-Enter.is at c.in_ok-walked.ensures.visit))),
    )

pub hash_field-returns-in-On : goal.hash_field-returns-in-On
hash_field-returns-in-On t c =
    let a = c.args in
    let w = c.args.walk.now in
    taken-walks w.cat.now w.layout.now w.budget a.f a.so_far.fp a.so_far.visits (walk_table bytes_step w.cat.now w.layout.now w.budget a.levels) _ (rw c.in-On.is at c.in_ok-walked.ensures.visit)

pub hash_field-returns-in-Enter : goal.hash_field-returns-in-Enter
hash_field-returns-in-Enter t c =
    let a = c.args in
    let w = c.args.walk.now in
    c.hash_table.ensures
    ∙ rw c.table_at-table.ensures
    (taken-walks w.cat.now w.layout.now w.budget a.f a.so_far.fp a.so_far.visits (walk_table bytes_step w.cat.now w.layout.now w.budget a.levels) _ (rw c.in-Enter.is at c.in_ok-walked.ensures.visit))

pub hash_table-returns-then-levels-eq0 : goal.hash_table-returns-then-levels-eq0
hash_table-returns-then-levels-eq0 t c =
    let a = c.args in
    let w = c.args.walk.now in
    too-deep w.cat.now w.layout.now w.budget a.levels _ a.start.fp a.start.visits c.if-levels-eq0.true

pub hash_table-loop-place-init : goal.hash_table-loop-place-init
hash_table-loop-place-init t c =
    let a = c.args in
    let w = c.args.walk.now in
    walk-starts w.cat.now w.layout.now w.budget a.levels a.table.now _ _ a.start.fp a.start.visits (omega arith) refl c.by_offset.ensures.0

pub hash_table-field_in-f-requires : goal.hash_table-field_in-f-requires
hash_table-field_in-f-requires t c =
    let k = c.loop-place.place-index in
    let o = c.by_offset.new.order in
    let n = length c.args.table.now / 16 in
    let h : k < n = omega (arith, length-take n o) in
    rw (c.wide16.ensures.0, get_or-take n o k 0 h) (placed _ o n k _ (omega (arith, c.by_offset.ensures.1, c.requires.1)) h (omega arith) c.by_offset.ensures.2)

pub hash_table-returns-in_err-walked : goal.hash_table-returns-in_err-walked
hash_table-returns-in_err-walked t c =
    let a = c.args in
    let w = c.args.walk.now in
    let l = c.loop-place in
    let p = err_from_is_err_and c.from_residual.result c.from_residual.ensures.1 in
    rw (p.1, p.2)
    (walk-stops w.cat.now w.layout.now w.budget _ (field_at a.table.now) _ l.place-index l.walked.fp l.walked.visits _ l.invariant (omega arith) _
    (c.in_err-walked.ensures ∙ rw (c.field_in-f.ensures, c.wide16.ensures.0)))

pub hash_table-loop-place-preserved : goal.hash_table-loop-place-preserved
hash_table-loop-place-preserved t c =
    let a = c.args in
    let w = c.args.walk.now in
    let l = c.loop-place in
    walk-goes w.cat.now w.layout.now w.budget _ (field_at a.table.now) _ l.place-index l.walked.fp l.walked.visits _ l.invariant (omega arith) _
    (c.in_ok-walked.ensures ∙ rw (c.field_in-f.ensures, c.wide16.ensures.0))

pub hash_table-returns : goal.hash_table-returns
hash_table-returns t c =
    let a = c.args in
    let w = c.args.walk.now in
    let l = c.loop-place in
    walk_ends w.cat.now w.layout.now w.budget _ (field_at a.table.now) _ l.place-index l.walked.fp l.walked.visits _ l.invariant (omega arith)
