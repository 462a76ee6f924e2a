use Rattle.std.proofs.Common.{◌≡◌, Bool, [], Option, length, refl, sym, ap, subst, ◌∙◌, arith}
use Rattle.std.specs.Prelude.{option_map}
use Rattle.spec_play.specs.Effects.{serial_commit}
use Rattle.spec_play.specs.Verdicts.{serial_verdict}
use Rattle.spec_sphere.specs.sphere.Commits.{Diverged, Granted, serial_moved}
use Rattle.spec_sphere.specs.sphere.Spheres.{Replay}
use Rattle.spec_strata.specs.Standing.{place_of}
use Rattle.dl_kernel.specs.States.{PlayState as State}
use Rattle.dl_kernel.specs.InOrder.{listed}
use Rattle.dl_mode.specs.Strata.{begins}
use Rattle.dl_replay.specs.Judged.{Judged}
use Rattle.dl_replay.specs.declared.verdict.Verdict.{Verdict}
use Rattle.dl_sphere.specs.Inside.{cursor_in, replayed_at}
use Rattle.dl_sphere.specs.Moving.{put_at}
use Rattle.dl_sphere.specs.InStrata.{HasRoomIn, IsPutIn}
use Rattle.dl_sphere.proofs.Replays.Judging.{serial_is}
use Rattle.dl_sphere.proofs.Replays.InStrata.{commit-in, failed-in, one-more-in, put-in-place, room-in, same-in}
use Rattle.dl_sphere.proofs.Replays.Limits.{may_going}
use Rattle.dl_sphere.proofs.Replays.Moved.{HasCounted, agreed, commit_counted, commit_left, commit_log, commit_moved, in_state, made_of, put_in}
use Rattle.dl_sphere.proofs.replaying.serve_step.Goals as goal

pub returns-in-Ok-clause-moved : goal.returns-in-Ok-clause-moved
unfolding serial_moved
returns-in-Ok-clause-moved c moment t d there =
    let past = c.args.past.now in
    let replay = c.args.replay.now in
    let loads = replay.loads.items in
    let r = replay.player in
    let k = c.args.thread in
    let s = past.state in
    let x = replayed_at past replay in
    let left = c.in-Ok.left in
    let counted = c.requires.at.counted in
    let agrees = agreed past (Replay (cursor_in past replay)) counted in
    let v = serial_verdict r.log x.progress s.used k s.threads t s.memory in
    let said = rw c.in-Ok.is at (c.in_ok-left.ensures.judged x.progress t agrees there) in
    let served = rw c.in-Ok.is at (c.in_ok-left.ensures.served x.progress t agrees there) in
    let commit = serial_commit k left.loads left.outputs in
    let same = c.in_ok-make_room.ensures.same in
    let old = c.make_room.new.commits in
    let made = c.serial_commit-commit.result in
    let h = same-in r.strata r.now past.first past.commits old same c.requires.at.listed in
    let put = subst (λ (o : Option Bool). IsPutIn k o made old c.put.new.commits) c.begins.ensures c.put.ensures in
    let commits : (listed c.put.new.commits) ≡ put_in past r k commit =
    put-in-place r s x.progress k v (record { verdict = Verdict.Went; replay = c.serve_step.new.self; state = c.serve_step.new.state }) made past.first old c.put.new.commits said h put
    ∙ (λ i. put_at (option_map (place_of k) r.strata) (c.serial_commit-commit.ensures i) (same.all i))
    in
    (λ i. record {
      outcome = Granted;
      sphere = in_state past loads d c.serve_step.new.state (commits i) c.serve_step.new.self (c.clear.ensures.items i);
      words = left.words.words;
      devices = d;
    })
    ∙ ap (made_of past loads d (put_in past r k commit) left.words.words) said
    ∙ commit_moved past loads d r k v commit left.words.words counted
    (serial_is r.log x.progress s.used k s.threads t s.memory (record { words = left.words.words; loads = left.loads; outputs = left.outputs }) served)

pub returns-in-Ok-clause-at : goal.returns-in-Ok-clause-at
returns-in-Ok-clause-at c =
    let past = c.args.past.now in
    let replay = c.args.replay.now in
    let r = replay.player in
    let k = c.args.thread in
    let s = past.state in
    let x = replayed_at past replay in
    let t = c.thread_at.result in
    let was = c.requires.at.counted in
    let agrees = agreed past (Replay (cursor_in past replay)) was in
    let v = serial_verdict r.log x.progress s.used k s.threads t s.memory in
    let said = rw c.in-Ok.is at (c.in_ok-left.ensures.judged x.progress t agrees c.thread_at.ensures.thread) in
    let more = subst (HasCounted s) (sym said) (commit_counted r s x.progress k v) in
    let at = c.requires.at in
    let commit = c.serial_commit-commit.result in
    let same = c.in_ok-make_room.ensures.same in
    let old = c.make_room.new.commits in
    let h = same-in r.strata r.now past.first past.commits old same at.listed in
    let put = subst (λ (o : Option Bool). IsPutIn k o commit old c.put.new.commits) c.begins.ensures c.put.ensures in
    let j : Judged = record { verdict = Verdict.Went; replay = c.serve_step.new.self; state = c.serve_step.new.state } in
    let count = one-more-in (option_map begins j.replay.strata) k commit old c.put.new.commits put in
    record {
      replaying = c.serve_step.ensures.at;
      counted = omega (arith, was, more, count, ap length same.all);
      listed = commit-in r s x.progress k v j (cursor_in past replay) commit past.first old c.put.new.commits said refl refl refl h c.requires.may put;
    }

pub put-requires : goal.put-requires
put-requires c =
    let past = c.args.past.now in
    let replay = c.args.replay.now in
    let r = replay.player in
    let k = c.args.thread in
    let s = past.state in
    let x = replayed_at past replay in
    let t = c.thread_at.result in
    let agrees = agreed past (Replay (cursor_in past replay)) c.requires.at.counted in
    let said = rw c.in-Ok.is at (c.in_ok-left.ensures.judged x.progress t agrees c.thread_at.ensures.thread) in
    let j : Judged = record { verdict = Verdict.Went; replay = c.serve_step.new.self; state = c.serve_step.new.state } in
    subst (λ (o : Option Bool). HasRoomIn k o c.make_room.new.commits) (sym c.begins.ensures)
    (room-in r s x.progress k (serial_verdict r.log x.progress s.used k s.threads t s.memory) j c.make_room.new.commits said c.in_ok-make_room.ensures.ok)

pub serve_step-requires-clause-going : goal.serve_step-requires-clause-going
serve_step-requires-clause-going c = may_going (cursor_in c.args.past.now c.args.replay.now) c.args.thread c.requires.may

pub returns-in-Ok-clause-log : goal.returns-in-Ok-clause-log
returns-in-Ok-clause-log c =
    let past = c.args.past.now in
    let replay = c.args.replay.now in
    let s = past.state in
    let x = replayed_at past replay in
    let t = c.thread_at.result in
    let agrees = agreed past (Replay (cursor_in past replay)) c.requires.at.counted in
    ap (λ (j : Judged). j.replay.log) (c.in_ok-left.ensures.judged x.progress t agrees c.thread_at.ensures.thread)
    ∙ commit_log replay.player s x.progress c.args.thread (serial_verdict replay.player.log x.progress s.used c.args.thread s.threads t s.memory)

pub returns-in-Err-clause-moved : goal.returns-in-Err-clause-moved
unfolding serial_moved
returns-in-Err-clause-moved c moment t d there =
    let past = c.args.past.now in
    let replay = c.args.replay.now in
    let loads = replay.loads.items in
    let r = replay.player in
    let k = c.args.thread in
    let s = past.state in
    let x = replayed_at past replay in
    let counted = c.requires.at.counted in
    let agrees = agreed past (Replay (cursor_in past replay)) counted in
    let v = serial_verdict r.log x.progress s.used k s.threads t s.memory in
    let said = rw c.in-Err.is at (c.in_ok-left.ensures.judged x.progress t agrees there) in
    let still : c.serve_step.new.state ≡ s = subst (HasCounted s) (sym said) (commit_counted r s x.progress k v) in
    (λ i. record {
      outcome = Diverged (still i).commits c.in-Err.why;
      sphere = in_state past loads d c.serve_step.new.state (c.in_ok-make_room.ensures.same.all i) c.serve_step.new.self loads;
      words = [];
      devices = d;
    })
    ∙ commit_left past loads d r k v c.in-Err.why c.serve_step.new.self c.serve_step.new.state counted said

pub returns-in-Err-clause-at : goal.returns-in-Err-clause-at
returns-in-Err-clause-at c =
    let past = c.args.past.now in
    let replay = c.args.replay.now in
    let r = replay.player in
    let k = c.args.thread in
    let s = past.state in
    let x = replayed_at past replay in
    let t = c.thread_at.result in
    let was = c.requires.at.counted in
    let said = rw c.in-Err.is at (c.in_ok-left.ensures.judged x.progress t (agreed past (Replay (cursor_in past replay)) was) c.thread_at.ensures.thread) in
    let still : c.serve_step.new.state ≡ s = subst (HasCounted s) (sym said) (commit_counted r s x.progress k (serial_verdict r.log x.progress s.used k s.threads t s.memory)) in
    let same : c.serve_step.new.state.commits ≡ s.commits = ap (λ (y : State). y.commits) still in
    let room = c.in_ok-make_room.ensures.same in
    let j : Judged = record { verdict = Verdict.Diverged c.in-Err.why; replay = c.serve_step.new.self; state = c.serve_step.new.state } in
    record {
      replaying = c.serve_step.ensures.at;
      counted = omega (arith, was, same, ap length room.all);
      listed =
          failed-in r s x.progress k (serial_verdict r.log x.progress s.used k s.threads t s.memory) c.in-Err.why j past.first past.commits c.make_room.new.commits said refl
          room c.requires.at.listed;
    }

pub returns-in-Err-clause-log : goal.returns-in-Err-clause-log
returns-in-Err-clause-log c =
    let past = c.args.past.now in
    let replay = c.args.replay.now in
    let s = past.state in
    let x = replayed_at past replay in
    let t = c.thread_at.result in
    ap (λ (j : Judged). j.replay.log) (c.in_ok-left.ensures.judged x.progress t (agreed past (Replay (cursor_in past replay)) c.requires.at.counted) c.thread_at.ensures.thread)
    ∙ commit_log replay.player s x.progress c.args.thread (serial_verdict replay.player.log x.progress s.used c.args.thread s.threads t s.memory)
