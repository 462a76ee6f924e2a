use Rattle.std.proofs.Common.{◌≡◌, ◌+◌, ◌≤◌, Bool, true, false, [], Option, length, refl, sym, ap, subst, ◌∙◌, arith}
use Rattle.std.specs.Prelude.{option_map}
use Rattle.spec_isa.specs.declared.thread.Parts.{Parts}
use Rattle.spec_isa.specs.Runs.{Run}
use Rattle.spec_play.specs.Effects.{chunk_commit}
use Rattle.spec_play.specs.Verdicts.{chunk_verdict}
use Rattle.spec_sphere.specs.sphere.Commits.{Diverged, Granted, Piece, joined, chunk_moved, replayed_chunk}
use Rattle.spec_engine.specs.Closing.{is_piece}
use Rattle.spec_sphere.specs.sphere.Spheres.{Cursor, Replay}
use Rattle.spec_strata.specs.Standing.{place_of}
use Rattle.spec_log.proofs.Threads.{log-among}
use Rattle.dl_kernel.specs.States.{PlayState as State}
use Rattle.dl_kernel.specs.InOrder.{listed}
use Rattle.dl_mode.specs.Strata.{begins}
use Rattle.dl_replay.specs.Judged.{Judged}
use Rattle.dl_replay.specs.declared.verdict.Verdict.{Verdict}
use Rattle.dl_sphere.specs.Inside.{cursor_in, replayed_at}
use Rattle.dl_sphere.specs.Moving.{put_at}
use Rattle.dl_sphere.specs.InStrata.{HasRoomIn, IsPutIn}
use Rattle.dl_sphere.proofs.Replays.Judging.{chunk_is}
use Rattle.dl_sphere.proofs.Replays.Limits.{may_going, part_fits}
use Rattle.dl_sphere.proofs.Replays.InStrata.{commit-in, failed-in, one-more-in, put-in-place, room-in, same-in}
use Rattle.dl_sphere.proofs.Replays.Moved.{HasCounted, agreed, commit_counted, commit_log, commit_moved, in_state, made_of, put_in}
use Rattle.dl_sphere.proofs.replaying.commit_part.Goals as goal

pub commit_piece-requires-clause-fits : goal.commit_piece-requires-clause-fits
commit_piece-requires-clause-fits g c =
    let can = c.requires.1.1.0.1 in
    let ch = c.args.chunk.now.chunk in
    let b = cursor_in c.args.past.now c.args.replay.now in
    part_fits b c.args.thread ch.done.n ch.done.thread c.requires.1.1.1.replaying.is_log can.part.may can.part.room (subst (λ n. ch.done.n ≤ n) can.part.limit can.part.most)

pub returns-then-is_piece-clause-moved : goal.returns-then-is_piece-clause-moved
unfolding chunk_moved
returns-then-is_piece-clause-moved g c short d =
    let can = c.requires.1.1.0.1 in
    let k = c.args.thread in
    let run = c.args.chunk.now.chunk.done in
    let p = replayed_at c.args.past.now c.args.replay.now in
    let piece : is_piece g.how ≡ true = sym (c.is_piece.ensures g.how can.closed) ∙ c.if-is_piece.true in
    (λ i. record {
      outcome = Piece;
      sphere = c.in_ok-commit_piece.ensures.moved d i;
      words = (c.in_ok-words.ensures ∙ c.words.ensures.words) i;
      devices = d;
    })
    ∙ ap (λ (x : Bool). replayed_chunk x (cursor_in c.args.past.now c.args.replay.now) k run d p) (sym piece)

pub overflow_add-size : goal.overflow_add-size
overflow_add-size g c =
    let can = c.requires.1.1.0.1 in
    let ch = c.args.chunk.now.chunk in
    let b = cursor_in c.args.past.now c.args.replay.now in
    let is = c.requires.1.1.1.replaying.is_log in
    let fits = part_fits b c.args.thread ch.done.n ch.done.thread is can.part.may can.part.room (subst (λ n. ch.done.n ≤ n) can.part.limit can.part.most) in
    let most = (log-among b.log is).most in
    let total = c.pieces.ensures in
    let n = c.n.ensures.value in
    omega (arith, fits, most, total, n)

pub returns-in-Went-clause-moved : goal.returns-in-Went-clause-moved
unfolding chunk_moved
returns-in-Went-clause-moved g c short d =
    let can = c.requires.1.1.0.1 in
    let past = c.args.past.now in
    let replay = c.args.replay.now in
    let loads = replay.loads.items in
    let r = replay.player in
    let k = c.args.thread in
    let s = past.state in
    let run = c.args.chunk.now.chunk.done in
    let b : Cursor = cursor_in past replay in
    let x = replayed_at past replay in
    let counted = c.requires.1.1.1.counted in
    let agrees = agreed past (Replay b) counted in
    let all : Run = joined b run in
    let commit = c.in_ok-commit.commit in
    let size : all.n ≡ c.pieces.result + c.n.result = (λ i. sym c.pieces.ensures i + sym c.n.ensures.value i) in
    let whole : commit ≡ chunk_commit k all = c.in_ok-commit.ensures b (sym c.deref.ensures.value) (λ i. c.pieces.ensures i + c.n.ensures.value i) in
    let v = chunk_verdict r.log x.progress s.used k all in
    let said = rw c.in-Went.is at (c.end_chunk.ensures.judged x.progress all agrees (sym c.state.ensures) size) in
    let piece : false ≡ is_piece g.how = sym c.if-is_piece.false ∙ c.is_piece.ensures g.how can.closed in
    let same = c.in_ok-make_room.ensures.same in
    let old = c.make_room.new.commits in
    let h = same-in r.strata r.now past.first past.commits old same c.requires.1.1.1.listed in
    let put = subst (λ (o : Option Bool). IsPutIn k o commit old c.put.new.commits) c.begins.ensures c.put.ensures in
    let commits : (listed c.put.new.commits) ≡ put_in past r k (chunk_commit k all) =
    put-in-place r s x.progress k v (record { verdict = Verdict.Went; replay = c.end_chunk.new.self; state = c.end_chunk.new.state }) commit past.first old c.put.new.commits said h put
    ∙ (λ i. put_at (option_map (place_of k) r.strata) (whole i) (same.all i))
    in
    (λ i. record {
      outcome = Granted;
      sphere = in_state past loads d c.end_chunk.new.state (commits i) c.end_chunk.new.self (c.clear.ensures.items i);
      words = (c.in_ok-words.ensures ∙ c.words.ensures.words) i;
      devices = d;
    })
    ∙ ap (made_of past loads d (put_in past r k (chunk_commit k all)) run.words) said
    ∙ commit_moved past loads d r k v (chunk_commit k all) run.words counted (chunk_is r.log x.progress s.used k all)
    ∙ ap (λ (y : Bool). replayed_chunk y b k run d x) piece

pub returns-in-Went-clause-at : goal.returns-in-Went-clause-at
returns-in-Went-clause-at g c =
    let past = c.args.past.now in
    let replay = c.args.replay.now in
    let r = replay.player in
    let k = c.args.thread in
    let s = past.state in
    let b : Cursor = cursor_in past replay in
    let x = replayed_at past replay in
    let was = c.requires.1.1.1.counted in
    let all : Run = joined b c.args.chunk.now.chunk.done in
    let size : all.n ≡ c.pieces.result + c.n.result = (λ i. sym c.pieces.ensures i + sym c.n.ensures.value i) in
    let said = rw c.in-Went.is at (c.end_chunk.ensures.judged x.progress all (agreed past (Replay b) was) (sym c.state.ensures) size) in
    let more = subst (HasCounted s) (sym said) (commit_counted r s x.progress k (chunk_verdict r.log x.progress s.used k all)) in
    let commit = c.in_ok-commit.commit in
    let at = c.requires.1.1.1 in
    let same = c.in_ok-make_room.ensures.same in
    let old = c.make_room.new.commits in
    let h = same-in r.strata r.now past.first past.commits old same at.listed in
    let put = subst (λ (o : Option Bool). IsPutIn k o commit old c.put.new.commits) c.begins.ensures c.put.ensures in
    let j : Judged = record { verdict = Verdict.Went; replay = c.end_chunk.new.self; state = c.end_chunk.new.state } in
    let count = one-more-in (option_map begins j.replay.strata) k commit old c.put.new.commits put in
    record {
      replaying = c.end_chunk.ensures.at;
      counted = omega (arith, was, more, count, ap length same.all);
      listed =
          commit-in r s x.progress k (chunk_verdict r.log x.progress s.used k all) j b commit past.first old c.put.new.commits said refl refl refl h
          c.requires.1.1.0.1.part.may put;
    }

pub put-requires : goal.put-requires
put-requires g c =
    let past = c.args.past.now in
    let replay = c.args.replay.now in
    let r = replay.player in
    let k = c.args.thread in
    let s = past.state in
    let b : Cursor = cursor_in past replay in
    let x = replayed_at past replay in
    let all : Run = joined b c.args.chunk.now.chunk.done in
    let size : all.n ≡ c.pieces.result + c.n.result = (λ i. sym c.pieces.ensures i + sym c.n.ensures.value i) in
    let said = rw c.in-Went.is at (c.end_chunk.ensures.judged x.progress all (agreed past (Replay b) c.requires.1.1.1.counted) (sym c.state.ensures) size) in
    let j : Judged = record { verdict = Verdict.Went; replay = c.end_chunk.new.self; state = c.end_chunk.new.state } in
    subst (λ (o : Option Bool). HasRoomIn k o c.make_room.new.commits) (sym c.begins.ensures)
    (room-in r s x.progress k (chunk_verdict r.log x.progress s.used k all) j c.make_room.new.commits said c.in_ok-make_room.ensures.ok)

pub commit_piece-requires-clause-may : goal.commit_piece-requires-clause-may
commit_piece-requires-clause-may g c = c.requires.1.1.0.1.part.may

pub end_chunk-requires-clause-going : goal.end_chunk-requires-clause-going
end_chunk-requires-clause-going g c =
    may_going (cursor_in c.args.past.now c.args.replay.now) c.args.thread c.requires.1.1.0.1.part.may

pub returns-in-Went-clause-log : goal.returns-in-Went-clause-log
returns-in-Went-clause-log g c =
    let past = c.args.past.now in
    let replay = c.args.replay.now in
    let s = past.state in
    let b : Cursor = cursor_in past replay in
    let x = replayed_at past replay in
    let all : Run = joined b c.args.chunk.now.chunk.done in
    let size : all.n ≡ c.pieces.result + c.n.result = (λ i. sym c.pieces.ensures i + sym c.n.ensures.value i) in
    ap (λ (j : Judged). j.replay.log) (c.end_chunk.ensures.judged x.progress all (agreed past (Replay b) c.requires.1.1.1.counted) (sym c.state.ensures) size)
    ∙ commit_log replay.player s x.progress c.args.thread (chunk_verdict replay.player.log x.progress s.used c.args.thread all)

pub returns-in-Diverged-clause-moved : goal.returns-in-Diverged-clause-moved
unfolding chunk_moved
returns-in-Diverged-clause-moved g c short d =
    let can = c.requires.1.1.0.1 in
    let past = c.args.past.now in
    let replay = c.args.replay.now in
    let loads = replay.loads.items in
    let r = replay.player in
    let k = c.args.thread in
    let s = past.state in
    let run = c.args.chunk.now.chunk.done in
    let b : Cursor = cursor_in past replay in
    let x = replayed_at past replay in
    let counted = c.requires.1.1.1.counted in
    let all : Run = joined b run in
    let size : all.n ≡ c.pieces.result + c.n.result = (λ i. sym c.pieces.ensures i + sym c.n.ensures.value i) in
    let v = chunk_verdict r.log x.progress s.used k all in
    let said = rw c.in-Diverged.is at (c.end_chunk.ensures.judged x.progress all (agreed past (Replay b) counted) (sym c.state.ensures) size) in
    let still : c.end_chunk.new.state ≡ s = subst (HasCounted s) (sym said) (commit_counted r s x.progress k v) in
    let piece : false ≡ is_piece g.how = sym c.if-is_piece.false ∙ c.is_piece.ensures g.how can.closed in
    (λ i. record {
      outcome = Diverged (still i).commits c.in-Diverged.why;
      sphere = in_state past loads d c.end_chunk.new.state (c.in_ok-make_room.ensures.same.all i) c.end_chunk.new.self loads;
      words = [];
      devices = d;
    })
    ∙ ap (made_of past loads d (put_in past r k (chunk_commit k all)) run.words) said
    ∙ commit_moved past loads d r k v (chunk_commit k all) run.words counted (chunk_is r.log x.progress s.used k all)
    ∙ ap (λ (y : Bool). replayed_chunk y b k run d x) piece

pub returns-in-Diverged-clause-at : goal.returns-in-Diverged-clause-at
returns-in-Diverged-clause-at g c =
    let past = c.args.past.now in
    let replay = c.args.replay.now in
    let r = replay.player in
    let k = c.args.thread in
    let s = past.state in
    let b : Cursor = cursor_in past replay in
    let x = replayed_at past replay in
    let was = c.requires.1.1.1.counted in
    let all : Run = joined b c.args.chunk.now.chunk.done in
    let size : all.n ≡ c.pieces.result + c.n.result = (λ i. sym c.pieces.ensures i + sym c.n.ensures.value i) in
    let said = rw c.in-Diverged.is at (c.end_chunk.ensures.judged x.progress all (agreed past (Replay b) was) (sym c.state.ensures) size) in
    let still : c.end_chunk.new.state ≡ s = subst (HasCounted s) (sym said) (commit_counted r s x.progress k (chunk_verdict r.log x.progress s.used k all)) in
    let same : c.end_chunk.new.state.commits ≡ s.commits = ap (λ (y : State). y.commits) still in
    let room = c.in_ok-make_room.ensures.same in
    let j : Judged = record { verdict = Verdict.Diverged c.in-Diverged.why; replay = c.end_chunk.new.self; state = c.end_chunk.new.state } in
    record {
      replaying = c.end_chunk.ensures.at;
      counted = omega (arith, was, same, ap length room.all);
      listed =
          failed-in r s x.progress k (chunk_verdict r.log x.progress s.used k all) c.in-Diverged.why j past.first past.commits c.make_room.new.commits said refl
          room c.requires.1.1.1.listed;
    }

pub returns-in-Diverged-clause-log : goal.returns-in-Diverged-clause-log
returns-in-Diverged-clause-log g c =
    let past = c.args.past.now in
    let replay = c.args.replay.now in
    let s = past.state in
    let b : Cursor = cursor_in past replay in
    let x = replayed_at past replay in
    let all : Run = joined b c.args.chunk.now.chunk.done in
    let size : all.n ≡ c.pieces.result + c.n.result = (λ i. sym c.pieces.ensures i + sym c.n.ensures.value i) in
    ap (λ (j : Judged). j.replay.log) (c.end_chunk.ensures.judged x.progress all (agreed past (Replay b) c.requires.1.1.1.counted) (sym c.state.ensures) size)
    ∙ commit_log replay.player s x.progress c.args.thread (chunk_verdict replay.player.log x.progress s.used c.args.thread all)

pub end_chunk-requires-clause-commits : goal.end_chunk-requires-clause-commits
end_chunk-requires-clause-commits g c =
    let t = c.thread_at.result in
    let there = c.thread_at.ensures.thread in
    let same : c.args.chunk.now.chunk.done.thread.commits ≡ t.commits = c.requires.1.1.0.1.commits t there in
    let few : t.commits ≤ c.args.past.now.state.commits = c.requires.1.1.1.replaying.bounded.threads c.args.thread t there in
    omega (arith, same, few, ap (λ (u : Parts). u.commits) c.state.ensures)
