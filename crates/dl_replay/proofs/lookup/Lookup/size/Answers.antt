use Rattle.std.proofs.Common.{map, ◌∙◌}
use Rattle.dl_input.specs.Tracked.{interrupt_of}
use Rattle.dl_replay.proofs.Lookups.{size-is}
use Rattle.dl_replay.proofs.lookup.Lookup.size.Goals as goal

pub returns : goal.returns
returns g c =
    let l = c.self.inside in
    rw (← c.self.view_is)
    (c.size.ensures
    ∙ size-is l.version l.threads g.M.Mode.mode (g.M.Mode.logged l.log).kept (map interrupt_of l.interrupts.entries) l.inputs.inputs l.dmas.dmas c.args.actor c.args.index)
