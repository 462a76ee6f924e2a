use Rattle.std.proofs.Common.{◌/◌}
use Rattle.dl_chunk.proofs.Showing.{on_both, shown_put}
use Rattle.dl_chunk.proofs.view.SeenView.store.Goals as goal

pub returns-clause-laid : goal.returns-clause-laid
returns-clause-laid g c =
    let v = c.args.self.now in
    on_both c.put.result _ _ _ c.put.ensures.ok c.put.ensures.room
    (λ new room. shown_put (g.B.Base.bytes v.base.now) v.flights.now.slots v.core v.store.now c.put.new.self (c.args.word / 4) c.args.mask c.args.value c.put.ensures.apart room new)
