use Rattle.std.proofs.Common.{◌≡◌, Bool, List, map, take, ◌∙◌, ap}
use Rattle.std.proofs.lemmas.List.{take_all}
use Rattle.spec_log.specs.Head.{is_dma_at}
use Rattle.spec_log.specs.Noting.{kept_head}
use Rattle.dl_mode.specs.Strata.{head_at}
use Rattle.dl_input.specs.Tracked.{interrupt_of}
use Rattle.dl_replay.proofs.Lookups.{head-is, dma-is}
use Rattle.dl_replay.proofs.lookup.Lookup.head.Goals as goal

pub returns : goal.returns
returns g c =
    let l = c.self.inside in
    let i = c.args.position in
    let order = (g.M.Mode.logged l.log).kept.order in
    let dma : c.is_some-dma.result ≡ is_dma_at l.dmas.dmas i = c.is_some-dma.ensures ∙ dma-is i l.dmas.dmas (λ b. b.now) c.at.result c.at.ensures in
    let strata = g.M.Mode.strata l.log in
    let live : take 63 c.args.live.now ≡ c.args.live.now = take_all 63 c.args.live.now c.requires in
    rw (← c.self.view_is)
    (c.head.ensures
    ∙ ap (λ (b : Bool). head_at strata (kept_head g.M.Mode.mode order i b c.args.last (take 63 c.args.live.now))) dma
    ∙ ap (λ (lives : List Bool). head_at strata (kept_head g.M.Mode.mode order i (is_dma_at l.dmas.dmas i) c.args.last lives)) live
    ∙ ap (head_at strata) (head-is l.version l.threads g.M.Mode.mode (g.M.Mode.logged l.log).kept (map interrupt_of l.interrupts.entries) l.inputs.inputs l.dmas.dmas i c.args.last c.args.live.now))
