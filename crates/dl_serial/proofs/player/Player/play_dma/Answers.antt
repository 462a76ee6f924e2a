use Rattle.std.proofs.Common.{◌≡◌, ap, ◌∙◌}
use Rattle.dl_entry.specs.declared.Actor.{Actor}
use Rattle.spec_play.specs.Plays.{dma_settled}
use Rattle.spec_play.specs.Progress.{position}
use Rattle.spec_play.specs.Transfers.{dma_verdict}
use Rattle.spec_play.specs.Turns.{TurnOfDma}
use Rattle.spec_query.specs.Stores.{stores_of, words_transferred}
use Rattle.dl_serial.specs.Playing.{Playing, HaveCome, played_in, with_stores}
use Rattle.dl_serial.proofs.Turning.{dma-next, seen-played, on-ok}
use Rattle.dl_serial.proofs.player.Player.play_dma.Goals as goal

pub returns : goal.returns
returns g c =
    let r = c.self.inside.replayer in
    let s = c.self.inside.sphere in
    let log = r.log in
    let y = played_in r s.past in
    let v = dma_verdict log y.progress y.used in
    let more = stores_of (position y.progress) Actor.Dma y.memory (words_transferred v) in
    let turn : y.now ≡ TurnOfDma = ap (λ (v : Playing). v.played.now) c.self.view_is ∙ c.requires in
    let new = c.serve_dma.new in
    on-ok c.serve_dma.result (HaveCome log (dma_settled log y v) (with_stores s.stores.items y Actor.Dma (words_transferred v)) new.replayer new.sphere) _
    (seen-played log y (dma_settled log y v) s.stores.items more new.replayer new.sphere c.args.self.now (dma-next log y turn) c.self.view_is)
    c.serve_dma.ensures.came
