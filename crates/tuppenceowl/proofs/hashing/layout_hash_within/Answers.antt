-- The refusal of admission; else the record, whose layout has the right shape, if there is one.
use Prim.Native.Nat.{◌<◌}
use Rattle.admission_rules.proofs.When.{admitted, front, raised}
use Rattle.field.specs.declared.Holder.TheVariants.{Record}
use Rattle.layout.proofs.Shapes.{few-in-record, shaped-few}
use Rattle.layout.specs.Layout.{count_of}
use Rattle.layout.specs.Shape.{shape_ok}
use Rattle.tuppenceowl.specs.Answers.{summed_of}
use borrow.Author.Tests.{lt-ltb, le-ltb}
use mathlib.Core.List.{[], ◌∷◌}
use mathlib.Core.Path.{sym, ◌∙◌}
use native.Mathlib.Omega.{arith}
use Rattle.tuppenceowl.proofs.hashing.layout_hash_within.Goals as goal

pub hash_record-requires : goal.hash_record-requires
hash_record-requires c = let l = c.args.layout.now in
    let fine = admitted c.args.cat.now (l ∷ []) (sym c.admit.ensures ∙ c.in_ok-admit.was) in
    let shaped = front shape_ok l [] fine.shaped in
    let inside : c.args.k < count_of Record l = omega (arith, c.count_of.ensures.0, c.if-k-count_of.true) in (
      shaped-few l shaped,
      rw (c.table_at-table.ensures, c.record_head.ensures.0) (few-in-record l c.args.k shaped inside),
    )

pub returns-in_err-admit : goal.returns-in_err-admit
unfolding summed_of
returns-in_err-admit c = rw (sym c.admit.ensures ∙ c.in_err-admit.was) (raised _ _ c.from_residual.ensures.1)

pub returns-in_err-hash_record : goal.returns-in_err-hash_record
unfolding summed_of
returns-in_err-hash_record c =
    rw (sym c.admit.ensures ∙ c.in_ok-admit.was, ← c.count_of.ensures.0, lt-ltb _ _ c.if-k-count_of.true, ← c.record_head.ensures.0, ← c.table_at-table.ensures, sym c.hash_record.ensures ∙ c.in_err-hash_record.was)
    (raised _ _ c.from_residual-in_err-hash_record.ensures.1)

pub returns-then-k-count_of : goal.returns-then-k-count_of
unfolding summed_of
returns-then-k-count_of c =
    rw (sym c.admit.ensures ∙ c.in_ok-admit.was, ← c.count_of.ensures.0, lt-ltb _ _ c.if-k-count_of.true, ← c.record_head.ensures.0, ← c.table_at-table.ensures, sym c.hash_record.ensures ∙ c.in_ok-hash_record.was)

pub returns : goal.returns
unfolding summed_of
returns c = rw (sym c.admit.ensures ∙ c.in_ok-admit.was, ← c.count_of.ensures.0, le-ltb _ _ c.if-k-count_of.false)
