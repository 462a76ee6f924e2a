use Rattle.std.proofs.Common.{sym, subst}
use Rattle.dl_replay.specs.Replays.{IsReplaying}
use Rattle.dl_sphere.specs.Played.{following_of}
use Rattle.dl_sphere.specs.declared.player.Players.{Players}
use Rattle.dl_sphere.proofs.player.Player.at.Goals as goal
use Rattle.dl_sphere.proofs.player.Player.at.Goals.{in-OrderSize+in_ok-at-in-OrderSize, in-OrderOnly+in_ok-at-in-OrderOnly, in-Picolog+in_ok-at-in-Picolog}

pub returns-clause-at : goal.returns-clause-at
returns-clause-at c =
    elim c.match-parts.branch [
      | in-OrderSize+in_ok-at-in-OrderSize w ↦ subst (λ (p : Players). IsReplaying (following_of p) c.args.state.now) (sym w.players-is) w.in_ok-at-in-OrderSize.ensures.at
      | in-OrderOnly+in_ok-at-in-OrderOnly w ↦ subst (λ (p : Players). IsReplaying (following_of p) c.args.state.now) (sym w.players-is) w.in_ok-at-in-OrderOnly.ensures.at
      | in-Picolog+in_ok-at-in-Picolog w ↦ subst (λ (p : Players). IsReplaying (following_of p) c.args.state.now) (sym w.players-is) w.in_ok-at-in-Picolog.ensures.at
    ]
