use Rattle.std.proofs.Common.{refl, ap, sym, subst, ◌∙◌}
use Rattle.spec_isa.specs.declared.thread.Parts.{Parts}
use Rattle.dl_replay.specs.Replays.{IsReplaying}
use Rattle.dl_replay.specs.Following.{Following}
use Rattle.dl_sphere.specs.InStrata.{AreInStrataIf}
use Rattle.dl_sphere.specs.Inside.{cursor_in}
use Rattle.dl_sphere.proofs.Replays.InStrata.{piece-in}
use Rattle.dl_sphere.proofs.Replays.Limits.{may_going, moved_on}
use Rattle.dl_sphere.proofs.replaying.commit_piece.Goals as goal

pub returns-clause-at : goal.returns-clause-at
returns-clause-at g c =
    let s = c.args.past.now.state in
    let k = c.args.thread in
    let r = c.args.replay.now.player in
    let t = c.thread_at.result in
    let u = c.state.result.now in
    let there = c.thread_at.ensures.thread in
    let same = ap (λ (p : Parts). p.commits) c.state.ensures ∙ c.requires.same t there in
    let on = moved_on c.accept_piece.new.self s k t u there same (c.accept_piece.ensures.at s c.requires.at.replaying) in
    record {
      replaying = subst (λ ts. IsReplaying c.accept_piece.new.self (record s { threads = ts })) (sym c.set.ensures) on;
      counted = c.requires.at.counted;
      listed =
          subst (λ (r : Following). AreInStrataIf r.strata r.now c.args.past.now.first c.args.past.now.commits) (sym c.accept_piece.ensures.value)
          (piece-in r.strata r.now (cursor_in c.args.past.now c.args.replay.now) k c.args.past.now.first c.args.past.now.commits refl refl c.requires.at.listed c.requires.may);
    }

pub accept_piece-requires-clause-going : goal.accept_piece-requires-clause-going
accept_piece-requires-clause-going g c = may_going (cursor_in c.args.past.now c.args.replay.now) c.args.thread c.requires.may
