use Rattle.catalogue.specs.Catalogue.{class_of}
use lib.Dec.{eqb}
use mathlib.Core.Bool.{◌&&◌, false, not, true}
use mathlib.Core.Path.{◌≡◌}
use Rattle.cursor_rules.proofs.flags_after.Goals as goal

pub returns-then-c-class_of : goal.returns-then-c-class_of
returns-then-c-class_of c = let e : (c.args.c.based && not (eqb (class_of c.args.cat.now c.args.f.type_id) 6)) ≡ true = rw (← c.class_of.ensures) c.if-c-class_of.true in
    rw (c.extension_flag.ensures, e)

pub returns : goal.returns
returns c = let e : (c.args.c.based && not (eqb (class_of c.args.cat.now c.args.f.type_id) 6)) ≡ false = rw (← c.class_of.ensures) c.if-c-class_of.false in
    rw e
