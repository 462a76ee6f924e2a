use Rattle.std.proofs.Common.{◌≡◌, ◌<◌, sym, ap, ◌∙◌, subst, arith}
use Rattle.std.specs.Prelude.{IsSome}
use Rattle.spec_play.specs.Plays.{plays}
use Rattle.dl_serial.specs.Playing.{Playing}
use Rattle.dl_serial.proofs.Turning.{more-none, over-more}
use Rattle.dl_serial.proofs.player.Player.play_on.Goals as goal

pub loop-init : goal.loop-init
loop-init g c = more-none c.args.self.now

pub returns-then-is_some : goal.returns-then-is_some
returns-then-is_some g c =
    let p = c.args.self.now in
    let now = c.self.inside.replayer.now in
    let is : (plays p.log p.played c.loop.counter).now ≡ now = sym (ap (λ (v : Playing). v.played.now) (c.self.view_is ∙ c.loop.invariant)) in
    let some = subst IsSome c.ended.ensures (sym c.is_some.ensures ∙ c.if-is_some.true) in
    let below : c.loop.counter < c.args.most = c.loop-test.true in
    c.loop.invariant ∙ over-more p c.loop.counter c.args.most now (omega arith) some is
