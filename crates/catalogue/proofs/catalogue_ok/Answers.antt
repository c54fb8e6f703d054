use Rattle.catalogue.specs.Catalogue.{catalogue_ok}
use borrow.Author.Tests.{eq-eqb, ne_eqb}
use Rattle.catalogue.proofs.catalogue_ok.Goals as goal

pub returns-then-cat-ne-SIZE : goal.returns-then-cat-ne-SIZE
unfolding catalogue_ok
returns-then-cat-ne-SIZE c = rw (ne_eqb _ 262 c.if-cat-ne-SIZE.true)

pub returns : goal.returns
unfolding catalogue_ok
returns c = rw (eq-eqb _ 262 c.if-cat-ne-SIZE.false, c.flags_ok.ensures, c.kinds_ok.ensures, c.one_each.ensures, c.one_each-2.ensures, c.others_ok.ensures)
