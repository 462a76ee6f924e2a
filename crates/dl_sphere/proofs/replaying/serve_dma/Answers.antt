use Rattle.std.proofs.Common.{◌≡◌, ◌∷◌, ◌++◌, [], length, suc, Some, refl, sym, ap, subst, ◌∙◌, arith}
use Rattle.spec_play.specs.Effects.{dma_commit}
use Rattle.spec_play.specs.Transfers.{dma_verdict}
use Rattle.spec_sphere.specs.sphere.Commits.{Diverged, Granted, MovedSphere, dma_moved}
use Rattle.spec_sphere.specs.sphere.Spheres.{Replay}
use Rattle.spec_sphere.proofs.Logs.Growing.{pushed_length}
use Rattle.dl_kernel.specs.States.{PlayState as State}
use Rattle.dl_kernel.specs.InOrder.{listed}
use Rattle.dl_replay.specs.Judged.{Judged}
use Rattle.dl_replay.specs.declared.verdict.Verdict.{Verdict}
use Rattle.dl_sphere.specs.Inside.{cursor_in, replayed_at}
use Rattle.dl_sphere.proofs.Replays.InStrata.{dma-commit-in, dma-failed-in, same-in}
use Rattle.dl_sphere.proofs.Replays.Moved.{HasCounted, agreed, dma_counted, dma_goes, dma_left, dma_log, dma_stores, in_state, made_of}
use Rattle.dl_sphere.proofs.replaying.serve_dma.Goals as goal

pub returns-in-Ok-clause-moved : goal.returns-in-Ok-clause-moved
unfolding dma_moved
returns-in-Ok-clause-moved c d =
    let past = c.args.past.now in
    let replay = c.args.replay.now in
    let loads = replay.loads.items in
    let r = replay.player in
    let s = past.state in
    let x = replayed_at past replay in
    let words = c.in-Ok.words in
    let counted = c.requires.at.counted in
    let agrees = agreed past (Replay (cursor_in past replay)) counted in
    let v = dma_verdict r.log x.progress s.used in
    let said = rw c.in-Ok.is at (c.in_ok-words.ensures.judged x.progress agrees) in
    let stored = rw c.in-Ok.is at (c.in_ok-words.ensures.stored x.progress agrees) in
    let commits : (listed c.push_reserved.new.self) ≡ (listed past.commits) ++ dma_commit ∷ [] =
    c.push_reserved.ensures.all ∙ (λ i. c.in_ok-reserve.ensures.same.all i ++ c.dma_commit.ensures i ∷ [])
    in
    ap (λ (m : MovedSphere). Some m)
    ((λ i. record {
      outcome = Granted;
      sphere = in_state past loads d c.serve_dma.new.state (commits i) c.serve_dma.new.self (c.clear.ensures.items i);
      words = words.words;
      devices = d;
    })
    ∙ ap (made_of past loads d ((listed past.commits) ++ dma_commit ∷ []) words.words) said
    ∙ dma_goes past loads d r v words.words counted (dma_stores past loads d words.words v stored))

pub returns-in-Ok-clause-at : goal.returns-in-Ok-clause-at
returns-in-Ok-clause-at c =
    let past = c.args.past.now in
    let replay = c.args.replay.now in
    let r = replay.player in
    let s = past.state in
    let x = replayed_at past replay in
    let was = c.requires.at.counted in
    let agrees = agreed past (Replay (cursor_in past replay)) was in
    let said = rw c.in-Ok.is at (c.in_ok-words.ensures.judged x.progress agrees) in
    let more = subst (HasCounted s) (sym said) (dma_counted r s x.progress (dma_verdict r.log x.progress s.used)) in
    let same = c.in_ok-reserve.ensures.same in
    let old = c.reserve.new.self in
    let count : length (listed c.push_reserved.new.self) ≡ suc (length (listed past.commits)) =
    ap length (c.push_reserved.ensures.all ∙ ap (λ xs. xs ++ c.dma_commit.result ∷ []) same.all) ∙ pushed_length (listed past.commits) c.dma_commit.result (length (listed past.commits)) refl
    in
    let j : Judged = record { verdict = Verdict.Went; replay = c.serve_dma.new.self; state = c.serve_dma.new.state } in
    record {
      replaying = c.serve_dma.ensures.at;
      counted = omega (arith, was, more, count);
      listed =
          dma-commit-in r s x.progress (dma_verdict r.log x.progress s.used) j c.dma_commit.result past.first old c.push_reserved.new.self said refl c.requires.turn
          (same-in r.strata r.now past.first past.commits old same c.requires.at.listed) c.push_reserved.ensures.all c.push_reserved.ensures.settled;
    }

pub returns-in-Ok-clause-log : goal.returns-in-Ok-clause-log
returns-in-Ok-clause-log c =
    let past = c.args.past.now in
    let replay = c.args.replay.now in
    let s = past.state in
    let x = replayed_at past replay in
    let agrees = agreed past (Replay (cursor_in past replay)) c.requires.at.counted in
    ap (λ (j : Judged). j.replay.log) (c.in_ok-words.ensures.judged x.progress agrees)
    ∙ dma_log replay.player s x.progress (dma_verdict replay.player.log x.progress s.used)

pub returns-in-Err-clause-moved : goal.returns-in-Err-clause-moved
unfolding dma_moved
returns-in-Err-clause-moved c d =
    let past = c.args.past.now in
    let replay = c.args.replay.now in
    let loads = replay.loads.items in
    let r = replay.player in
    let s = past.state in
    let x = replayed_at past replay in
    let counted = c.requires.at.counted in
    let v = dma_verdict r.log x.progress s.used in
    let said = rw c.in-Err.is at (c.in_ok-words.ensures.judged x.progress (agreed past (Replay (cursor_in past replay)) counted)) in
    let still : c.serve_dma.new.state ≡ s = subst (HasCounted s) (sym said) (dma_counted r s x.progress v) in
    ap (λ (m : MovedSphere). Some m)
    ((λ i. record {
      outcome = Diverged (still i).commits c.in-Err.why;
      sphere = in_state past loads d c.serve_dma.new.state (c.in_ok-reserve.ensures.same.all i) c.serve_dma.new.self loads;
      words = [];
      devices = d;
    })
    ∙ dma_left past loads d r v c.in-Err.why c.serve_dma.new.self c.serve_dma.new.state counted said)

pub returns-in-Err-clause-at : goal.returns-in-Err-clause-at
returns-in-Err-clause-at c =
    let past = c.args.past.now in
    let replay = c.args.replay.now in
    let r = replay.player in
    let s = past.state in
    let x = replayed_at past replay in
    let was = c.requires.at.counted in
    let said = rw c.in-Err.is at (c.in_ok-words.ensures.judged x.progress (agreed past (Replay (cursor_in past replay)) was)) in
    let still : c.serve_dma.new.state ≡ s = subst (HasCounted s) (sym said) (dma_counted r s x.progress (dma_verdict r.log x.progress s.used)) in
    let same : c.serve_dma.new.state.commits ≡ s.commits = ap (λ (y : State). y.commits) still in
    let room = c.in_ok-reserve.ensures.same in
    let j : Judged = record { verdict = Verdict.Diverged c.in-Err.why; replay = c.serve_dma.new.self; state = c.serve_dma.new.state } in
    record {
      replaying = c.serve_dma.ensures.at;
      counted = omega (arith, was, same, ap length room.all);
      listed =
          dma-failed-in r s x.progress (dma_verdict r.log x.progress s.used) c.in-Err.why j past.first past.commits c.reserve.new.self said refl room
          c.requires.at.listed;
    }

pub returns-in-Err-clause-log : goal.returns-in-Err-clause-log
returns-in-Err-clause-log c =
    let past = c.args.past.now in
    let replay = c.args.replay.now in
    let s = past.state in
    let x = replayed_at past replay in
    ap (λ (j : Judged). j.replay.log) (c.in_ok-words.ensures.judged x.progress (agreed past (Replay (cursor_in past replay)) c.requires.at.counted))
    ∙ dma_log replay.player s x.progress (dma_verdict replay.player.log x.progress s.used)
