use Rattle.std.proofs.Common.{◌∙◌, ap, arith}
use Rattle.std.proofs.lemmas.Bool.{le-ltb, lt-ltb}
use Rattle.spec_play.specs.Turns.{at_end, turn_of}
use Rattle.dl_replay.proofs.Advancing.{now-before, now-past}
use Rattle.dl_replay.proofs.turning.now_by.Goals as goal

pub returns-then-state-count : goal.returns-then-state-count
returns-then-state-count g c p a =
    let s = c.args.state.now in
    let l = c.args.log.now in
    c.turn_of.ensures ∙ ap (turn_of s.commits s.threads) c.next_actor-actor.ensures
    ∙ now-before l.log p s.used s.threads l.strata s.commits s.last a.commits a.last
    (lt-ltb s.commits l.log.count (omega (arith, c.if-state-count.true, c.count.ensures.value)))

pub returns-else-state-count : goal.returns-else-state-count
returns-else-state-count g c p a =
    let s = c.args.state.now in
    let l = c.args.log.now in
    c.at_end.ensures ∙ ap (at_end s.commits) c.has_left_over.ensures
    ∙ now-past l.log p s.used s.threads l.strata s.commits a.commits
    (le-ltb s.commits l.log.count (omega (arith, c.if-state-count.false, c.count.ensures.value)))
