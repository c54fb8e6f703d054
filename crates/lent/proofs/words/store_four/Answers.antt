use Rattle.lent.proofs.Stored.{store-add}
use Rattle.lent.proofs.words.store_four.Goals as goal

pub returns : goal.returns
returns c = rw (c.store_two-2.ensures, c.store_two.ensures) (store-add c.args.d.now c.args.at 2 2 c.args.v)
