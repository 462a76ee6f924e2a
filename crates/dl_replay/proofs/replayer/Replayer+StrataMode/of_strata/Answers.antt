use Rattle.std.proofs.Common.{◌≡◌, Some, None, ap, sym, subst, ◌∙◌, arith}
use Rattle.spec_log.specs.Log.{IsLog}
use Rattle.spec_play.specs.Progress.{position}
use Rattle.spec_play.specs.States.{progress_from}
use Rattle.spec_play.specs.Turns.{TurnOrEnd}
use Rattle.spec_strata.specs.Canonical.{canonical}
use Rattle.spec_strata.specs.Standing.{stratum_begun}
use Rattle.spec_strata.proofs.Images.Canonical.{canonical_is_log}
use Rattle.dl_kernel.specs.States.{state_in}
use Rattle.dl_replay.specs.Following.{Following, followed}
use Rattle.dl_replay.specs.Lists.{Looked}
use Rattle.dl_replay.specs.Replays.{IsReplaying}
use Rattle.dl_replay.proofs.Advancing.{agrees-self, goes-on}
use Rattle.dl_replay.proofs.FirstHeads.{now-first}
use Rattle.dl_replay.proofs.Standings.{begun-within}
use Rattle.dl_replay.proofs.replayer.Replayer+StrataMode.of_strata.Goals as goal

pub returns-clause-value : goal.returns-clause-value
returns-clause-value c =
    let v = c.args.strata.now.value in
    let s = c.args.state.now in
    let p = progress_from (state_in s) in
    let start : position p ≡ 0 = omega (arith, c.requires.start) in
    c.begun.ensures p (agrees-self s)
    ∙ ap (λ (l : Looked). followed l.log None l.strata p s.used s.threads) c.in_ok-log.ensures.value
    ∙ ap (λ (now : TurnOrEnd). (let r : Following = record { log = canonical v; interval = None; strata = Some (stratum_begun v.strata 0); now = now; total = 0 } in r))
    (now-first v p s.used s.threads c.in_ok-log.ensures.good start)

pub returns-clause-at : goal.returns-clause-at
returns-clause-at c =
    let v = c.args.strata.now.value in
    let s = c.args.state.now in
    let p = progress_from (state_in s) in
    let value = c.begun.ensures p (agrees-self s)
    ∙ ap (λ (l : Looked). followed l.log None l.strata p s.used s.threads) c.in_ok-log.ensures.value in
    subst (λ (x : Following). IsReplaying x s) (sym value)
    (goes-on (canonical v) None (Some (stratum_begun v.strata 0)) s (canonical_is_log v c.in_ok-log.ensures.good) c.requires.state c.requires.request
    (begun-within v.strata 0 s.commits (omega arith)))

pub begun-requires : goal.begun-requires
begun-requires c =
    record { log = subst (λ (l : Looked). IsLog l.log) (sym c.in_ok-log.ensures.value) (canonical_is_log c.args.strata.now.value c.in_ok-log.ensures.good) }
