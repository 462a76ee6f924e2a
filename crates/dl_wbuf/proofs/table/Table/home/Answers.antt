-- The hash, less its lowest bits.
use Rattle.std.proofs.Common.{refl}
use Rattle.dl_wbuf.specs.Tables.{home}
use Rattle.dl_wbuf.proofs.table.Table.home.Goals as goal

pub returns-clause-value : goal.returns-clause-value
unfolding home
returns-clause-value c = rw (← c.self.view_is) refl

pub returns-clause-half : goal.returns-clause-half
unfolding home
returns-clause-half c = rw (← c.self.view_is) (c.self.invariant.homes c.args.number)
