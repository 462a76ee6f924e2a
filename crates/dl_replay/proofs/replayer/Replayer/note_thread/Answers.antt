use Rattle.std.proofs.Common.{◌+◌, sym, subst}
use Rattle.dl_replay.specs.Following.{Following}
use Rattle.dl_replay.specs.Lists.{Looked}
use Rattle.dl_replay.specs.Standings.{IsWithinIf}
use Rattle.dl_replay.proofs.Standings.{thread-within}
use Rattle.dl_replay.proofs.replayer.Replayer.note_thread.Goals as goal

pub returns-clause-within : goal.returns-clause-within
returns-clause-within g c =
    let n = c.args.state.now.commits in
    let was : IsWithinIf c.self.inside.log.strata n = subst (λ (r : Following). IsWithinIf r.strata n) (sym c.self.view_is) c.requires.within in
    subst (λ (l : Looked). IsWithinIf l.strata (n + 1)) (sym c.advance.ensures) (thread-within c.args.number c.self.inside.log.strata n was)
