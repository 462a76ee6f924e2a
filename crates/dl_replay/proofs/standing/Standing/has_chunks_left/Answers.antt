use Rattle.std.proofs.Common.{◌≡◌, drop, Some, sym, ap, ◌∙◌, subst}
use Rattle.std.specs.Prelude.{IsSome}
use Rattle.dl_entry.specs.declared.Actor.{Actor}
use Rattle.spec_strata.specs.Standing.{has_chunks_left}
use Rattle.dl_replay.specs.Standings.{Stood, count_in, done_in}
use Rattle.dl_replay.proofs.Standings.{head-left}
use Rattle.dl_replay.proofs.Takes.{is-head}
use Rattle.dl_replay.proofs.standing.Standing.has_chunks_left.Goals as goal

pub returns-then-is_head : goal.returns-then-is_head
returns-then-is_head c =
    let a = c.self.inside in
    let left = drop a.place a.strata.value.strata in
    let own : a.present.head ≡ Some (Actor.Thread c.args.thread) = is-head a.present.head (Actor.Thread c.args.thread) (sym c.is_head.ensures ∙ c.if-is_head.true) in
    let chunks : IsSome (count_in left) = subst IsSome c.self.invariant.6 (sym c.is_some.ensures ∙ c.if-is_some.true) in
    c.if-is_head.true
    ∙ sym (head-left left (done_in left a.done.items) c.args.thread chunks (sym c.self.invariant.7 ∙ own))
    ∙ ap (λ (x : Stood). has_chunks_left x.standing.strata x.standing.done c.args.thread) c.self.view_is
