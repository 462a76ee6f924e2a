use Rattle.std.proofs.Common.{sym, ◌∙◌, subst, arith}
use Rattle.std.proofs.lemmas.Result.{err_from_is_err_and}
use Rattle.dl_machine.specs.Events.{IsWanted}
use Rattle.dl_machine.proofs.Worlds.Applied.{few_events, few_replies}
use Rattle.dl_machine.proofs.Worlds.Events.{happens_reply, world_left}
use Rattle.dl_machine.proofs.state.State.take.Goals as goal

pub count-requires-clause-events : goal.count-requires-clause-events
count-requires-clause-events g c =
    let few = c.requires.events in
    let same = few_events c.args.event c.args.self.now c.act.new.self c.in_ok-reply.ensures.world in
    omega (arith, few, same)

pub count-requires-clause-replies : goal.count-requires-clause-replies
count-requires-clause-replies g c =
    few_replies c.args.event c.args.self.now c.act.new.self c.requires.ready c.in_ok-reply.ensures.world

pub returns-clause-reply : goal.returns-clause-reply
returns-clause-reply g c = c.in_ok-reply.ensures.reply ∙ sym (happens_reply c.args.self.now c.args.event)

pub returns-clause-world : goal.returns-clause-world
returns-clause-world g c =
    let e = c.in_ok-reply.ensures in
    world_left c.args.self.now c.args.event c.in_ok-reply.reply c.act.new.self c.count.new.self e.reply e.world c.count.ensures

pub returns-in_err-reply-clause-wanted : goal.returns-in_err-reply-clause-wanted
returns-in_err-reply-clause-wanted g c =
    let p = err_from_is_err_and c.from_residual.result c.from_residual.ensures.1 in
    rw p.1 (subst (IsWanted c.args.event) (sym (happens_reply c.args.self.now c.args.event)) c.in_err-reply.ensures.wanted)
