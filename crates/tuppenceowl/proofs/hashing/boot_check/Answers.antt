-- A hash is that of a record of the layout, which stores one.
use Rattle.tuppenceowl.proofs.Inside.{hash-inside, passed_on}
use mathlib.Core.Path.{sym, ◌∙◌}
use native.Mathlib.Omega.{arith}
use Rattle.tuppenceowl.proofs.hashing.boot_check.Goals as goal

pub record_head-requires : goal.record_head-requires
record_head-requires c =
    let inside = hash-inside c.args.cat.now c.args.layout.now c.args.k 65536 _ (sym c.in_ok-walked.was ∙ c.layout_hash.ensures) in
    omega (arith, inside, c.type_inv.layout 0, c.type_inv.layout 1)

pub returns-in_err-walked : goal.returns-in_err-walked
returns-in_err-walked c = rw (sym c.layout_hash.ensures ∙ c.in_err-walked.was) (passed_on _ _ c.from_residual.ensures.1)

pub returns : goal.returns
returns c = rw (sym c.layout_hash.ensures ∙ c.in_ok-walked.was, ← c.record_head.ensures.0, ← c.record_hash.ensures)
