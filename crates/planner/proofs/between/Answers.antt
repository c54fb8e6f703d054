use Prim.Native.Nat.{◌≤◌}
use Rattle.defaults.specs.Defaults.{defaults_ok, header_ok}
use Rattle.field.specs.Field.{fields_of}
use Rattle.layout.specs.Layout.{record_at}
use Rattle.limits.specs.Limits.{max_bytes}
use Rattle.plan_rules.specs.Rule.{wants}
use Rattle.planner.proofs.Passing.{body-fits, header-fits, in-header, is_made, no_room, wrong-body}
use Rattle.record_size.specs.Size.{record_size}
use lib.ListN.{length}
use mathlib.Core.Bool.{false, true}
use mathlib.Core.Path.{◌∙◌, ◌≡◌, refl, sym}
use native.Mathlib.Omega.{arith}
use Rattle.planner.proofs.between.Goals as goal

pub returns-then-not-header_ok : goal.returns-then-not-header_ok
returns-then-not-header_ok c = let a = c.args in
    let h : header_ok a.cat.now a.header (record_size (record_at a.target.now a.to)) (fields_of (record_at a.target.now a.to).table) ≡ false = rw (← c.record_size-size.ensures, ← c.table_at-want.ensures, ← c.header_ok.ensures) (c.if-not-header_ok.true) in
    (in-header a.cat.now (record_at a.target.now a.to) a.header a.body.now a.marks.now (length a.room.now) h, refl)

pub defaults_ok-requires : goal.defaults_ok-requires
defaults_ok-requires c = let a = c.args in
    let h = header-fits a.cat.now a.header c.record_size-size.result (fields_of c.table_at-want.result.now) (sym c.header_ok.ensures ∙ c.if-not-header_ok.false) in
    (h.1, rw c.record_size-size.ensures c.requires.1, rw c.table_at-want.ensures c.requires.2)

pub returns-then-not-defaults_ok : goal.returns-then-not-defaults_ok
returns-then-not-defaults_ok c = let a = c.args in
    let h : header_ok a.cat.now a.header (record_size (record_at a.target.now a.to)) (fields_of (record_at a.target.now a.to).table) ≡ true = rw (← c.record_size-size.ensures, ← c.table_at-want.ensures, ← c.header_ok.ensures) (c.if-not-header_ok.false) in
    let d : defaults_ok a.cat.now a.header (record_size (record_at a.target.now a.to)) (fields_of (record_at a.target.now a.to).table) (wants a.cat.now a.marks.now (record_at a.target.now a.to).table) a.body.now ≡ false = rw (← c.record_size-size.ensures, ← c.table_at-want.ensures, ← c.defaults_ok.ensures) (c.if-not-defaults_ok.true) in
    (wrong-body a.cat.now (record_at a.target.now a.to) a.header a.body.now a.marks.now (length a.room.now) h d, refl)

pub returns-then-room-lt-SIZE : goal.returns-then-room-lt-SIZE
returns-then-room-lt-SIZE c = let a = c.args in
    let h : header_ok a.cat.now a.header (record_size (record_at a.target.now a.to)) (fields_of (record_at a.target.now a.to).table) ≡ true = rw (← c.record_size-size.ensures, ← c.table_at-want.ensures, ← c.header_ok.ensures) (c.if-not-header_ok.false) in
    let d : defaults_ok a.cat.now a.header (record_size (record_at a.target.now a.to)) (fields_of (record_at a.target.now a.to).table) (wants a.cat.now a.marks.now (record_at a.target.now a.to).table) a.body.now ≡ true = rw (← c.record_size-size.ensures, ← c.table_at-want.ensures, ← c.defaults_ok.ensures) (c.if-not-defaults_ok.false) in
    (no_room a.cat.now (record_at a.target.now a.to) a.header a.body.now a.marks.now (length a.room.now) h d c.if-room-lt-SIZE.true, refl)

pub lay-requires : goal.lay-requires
lay-requires c = let a = c.args in
    let h = header-fits a.cat.now a.header c.record_size-size.result (fields_of c.table_at-want.result.now) (sym c.header_ok.ensures ∙ c.if-not-header_ok.false) in
    let b = body-fits a.cat.now a.header c.record_size-size.result (fields_of c.table_at-want.result.now) _ a.body.now (sym c.defaults_ok.ensures ∙ c.if-not-defaults_ok.false) in
    let n : c.record_size-size.result ≤ max_bytes = rw c.record_size-size.ensures c.requires.1 in
    (h.0, c.requires.0, c.requires.1, c.requires.2, omega (arith, b, n), c.if-room-lt-SIZE.false, c.requires.3, c.record_size-size.ensures)

pub returns : goal.returns
returns c = let a = c.args in
    let h : header_ok a.cat.now a.header (record_size (record_at a.target.now a.to)) (fields_of (record_at a.target.now a.to).table) ≡ true = rw (← c.record_size-size.ensures, ← c.table_at-want.ensures, ← c.header_ok.ensures) (c.if-not-header_ok.false) in
    let d : defaults_ok a.cat.now a.header (record_size (record_at a.target.now a.to)) (fields_of (record_at a.target.now a.to).table) (wants a.cat.now a.marks.now (record_at a.target.now a.to).table) a.body.now ≡ true = rw (← c.record_size-size.ensures, ← c.table_at-want.ensures, ← c.defaults_ok.ensures) (c.if-not-defaults_ok.false) in
    (is_made a.cat.now (record_at a.target.now a.to) a.header a.body.now a.marks.now (length a.room.now) h d c.if-room-lt-SIZE.false, c.lay.ensures)
