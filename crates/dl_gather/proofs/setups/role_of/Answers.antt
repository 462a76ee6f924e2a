use Rattle.std.proofs.Common.{Option, None, sym, subst}
use Rattle.spec_play.specs.declared.interval.Interval.{Interval}
use Rattle.spec_sphere.specs.sphere.Setups.{IsReplayed}
use Rattle.dl_sphere.specs.Setups.{IsBegunIf, replay_setup}
use Rattle.dl_sphere.specs.declared.setup.Replay.{Replay}
use Rattle.dl_gather.specs.Intervals.{sphere_on}
use Rattle.dl_gather.proofs.setups.role_of.Goals as goal

pub returns-in_ok-begun-in-Replay-clause-begun : goal.returns-in_ok-begun-in-Replay-clause-begun
returns-in_ok-begun-in-Replay-clause-begun c =
    let log = c.in_ok-log-in-Replay.log in
    let begun = c.in_ok-begun-in-Replay.begun in
    let role = IsReplayed (replay_setup (Replay.Log log begun)) in (
      subst (λ (i : Option Interval). IsBegunIf (sphere_on c.args.image.now role) (record { log = log; interval = i; strata = None }) begun)
          (sym c.in_ok-begun-in-Replay.ensures.interval) (c.in_ok-begun-in-Replay.ensures.begun role),
      tt,
    )
