use Rattle.std.proofs.Common.{rules, ◌≡◌, ℕ, ◌∷◌, List, length, drop, sym, ap, ◌∙◌, arith}
use Rattle.std.proofs.lemmas.List.{take_rest}
use Rattle.field.specs.Field.{fields_of}
use Rattle.field.proofs.Behind.{no-field, first-field}
use Rattle.field.proofs.rows.RowsIterator.next.Goals as goal

pub returns-then-self-lt-SIZE-clause-steps : goal.returns-then-self-lt-SIZE-clause-steps
returns-then-self-lt-SIZE-clause-steps c =
    let e = no-field c.args.self.now.rest.now c.if-self-lt-SIZE.true in (e, e)

pub returns-clause-steps : goal.returns-clause-steps
returns-clause-steps c =
    let t = c.args.self.now.rest.now in
    rw (c.field_in-f.ensures, take_rest t 16) (first-field t c.if-self-lt-SIZE.false)

pub returns-clause-goes : goal.returns-clause-goes
returns-clause-goes c =
    let t = c.args.self.now.rest.now in
    let rest = ap fields_of (take_rest t 16) in
    let shorter = ap length (first-field t c.if-self-lt-SIZE.false) in search rules
