use Rattle.std.proofs.Common.{◌-◌, ◌≤◌, sym, ap, ◌∙◌, subst, arith}
use Rattle.spec_play.specs.Progress.{position}
use Rattle.spec_play.specs.States.{resumed}
use Rattle.dl_kernel.specs.States.{state_in}
use Rattle.dl_serial.specs.Playing.{Playing, played_more}
use Rattle.dl_serial.proofs.Ends.{plays-most}
use Rattle.dl_serial.proofs.walking.play_in.Goals as goal

pub into_walked-requires : goal.into_walked-requires
into_walked-requires g c =
    let more = c.args.to - c.args.from.commits in
    let is = c.in_ok-play_on.ensures ∙ ap (λ (p : Playing). played_more p more) c.in_ok-player.ensures in
    let most = plays-most c.args.log.now (resumed c.args.log.now (state_in c.args.from)) more in
    subst (λ (p : Playing). position p.played.progress ≤ c.args.to) (sym is) (omega (arith, most, c.requires.order))
