use Rattle.std.proofs.Common.{◌≡◌, sym, ap, subst}
use Rattle.dl_kernel.specs.States.{PlayState as State}
use Rattle.dl_replay.specs.Following.{Following}
use Rattle.dl_replay.specs.Replays.{IsReplaying}
use Rattle.dl_sphere.specs.Played.{following_of}
use Rattle.dl_sphere.specs.declared.player.Player.TheInside.{Inside}
use Rattle.dl_sphere.proofs.player.Player.end_chunk.Goals as goal
use Rattle.dl_sphere.proofs.player.Player.end_chunk.Goals.{in-OrderSize, in-OrderOnly, in-Picolog, in-Strata}

replays : (r s : Following) (x y : State) → s ≡ r → y ≡ x → IsReplaying r x → IsReplaying s y
replays r s x y replay state at = subst (λ (v : State). IsReplaying s v) (sym state) (subst (λ (p : Following). IsReplaying p x) (sym replay) at)

pub returns-clause-at : goal.returns-clause-at
returns-clause-at c =
    let seen = λ (i : Inside). following_of i.players in
    elim c.match-self.branch [
      | in-OrderSize w ↦ replays _ _ _ _ (ap seen w.self-inside-is) w.state-is w.end_chunk-verdict.ensures.at
      | in-OrderOnly w ↦ replays _ _ _ _ (ap seen w.self-inside-is) w.state-is w.end_chunk-verdict-in-OrderOnly.ensures.at
      | in-Picolog w ↦ replays _ _ _ _ (ap seen w.self-inside-is) w.state-is w.end_chunk-verdict-in-Picolog.ensures.at
      | in-Strata w ↦ replays _ _ _ _ (ap seen w.self-inside-is) w.state-is w.end_chunk-verdict-in-Strata.ensures.at
    ]
