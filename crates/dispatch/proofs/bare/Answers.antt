-- Listed, no room, or copied.
use Rattle.dispatch.proofs.Answers.{bare-done, bare-full, bare-listed}
use lib.ListN.{length}
use mathlib.Core.Path.{◌∙◌, sym}
use native.Mathlib.Omega.{arith}
use Rattle.dispatch.proofs.bare.Goals as goal

pub returns-then-is_listed : goal.returns-then-is_listed
returns-then-is_listed c =
    let both = (bare-listed c.args.unplanned.now c.args.rtype c.args.src_header c.args.dst_header (length c.args.src.now) c.args.dst.now _ (sym c.is_listed.ensures ∙ c.if-is_listed.true)) in
    record { answer = both.0; target = both.1 }

pub returns-then-dst-size : goal.returns-then-dst-size
returns-then-dst-size c =
    let both = (bare-full c.args.unplanned.now c.args.rtype c.args.src_header c.args.dst_header (length c.args.src.now) c.args.dst.now _ (sym c.is_listed.ensures ∙ c.if-is_listed.false) c.if-dst-size.true) in
    record { answer = both.0; target = both.1 }

pub copy-requires : goal.copy-requires
copy-requires c = (omega arith, omega arith)

pub returns : goal.returns
returns c =
    let both = (bare-done c.args.unplanned.now c.args.rtype c.args.src_header c.args.dst_header (length c.args.src.now) c.args.dst.now _ (sym c.is_listed.ensures ∙ c.if-is_listed.false) c.if-dst-size.false _ c.copy.ensures) in
    record { answer = both.0; target = both.1 }
