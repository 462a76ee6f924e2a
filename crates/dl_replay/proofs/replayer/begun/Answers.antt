use Rattle.dl_replay.specs.Following.{turn_seen}
use Rattle.dl_replay.proofs.Advancing.{followed-is}
use Rattle.dl_replay.proofs.replayer.begun.Goals as goal

pub returns : goal.returns
returns g c p a =
    let s = c.args.state.now in
    let log = c.args.log in
    followed-is log.log c.args.interval log.strata p s.used s.threads s.commits (turn_seen c.now_in-turn.result) a.commits (c.now_in-turn.ensures p a)
