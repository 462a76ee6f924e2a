use Rattle.std.proofs.Common.{◌≡◌, ap, sym, ◌∙◌, Option}
use Rattle.dl_entry.specs.declared.Actor.{Actor}
use Rattle.spec_sphere.specs.sphere.Spheres.{actor_of}
use Rattle.dl_mode.specs.Strata.{is_head, takes_at}
use Rattle.dl_replay.specs.Following.{Following}
use Rattle.dl_replay.proofs.Takes.{not-zero, takes-head, takes-now}
use Rattle.dl_replay.proofs.replayer.Replayer.takes.Goals as goal

pub returns-then-self-eq0 : goal.returns-then-self-eq0
returns-then-self-eq0 g c used loads p =
    let r : Following = c.args.self.now in
    let a = c.args.actor in
    let total : c.self.inside.total ≡ r.total = ap (λ (x : Following). x.total) c.self.view_is in
    let t = takes-now r used loads p a c.requires.going (sym total ∙ c.if-self-eq0.true) in
    let same : c.takes.result ≡ takes_at r.strata (actor_of r.now) a =
    c.takes.ensures ∙ ap (λ (h : Option Actor). takes_at c.self.inside.log.strata h a) c.head-head.ensures
    ∙ ap (λ (x : Following). takes_at x.strata (actor_of r.now) a) c.self.view_is in
    (λ is. t.free (sym same ∙ is), λ free. same ∙ t.takes free)

pub returns-else-self-eq0 : goal.returns-else-self-eq0
returns-else-self-eq0 g c used loads p =
    let r : Following = c.args.self.now in
    let a = c.args.actor in
    let total : c.self.inside.total ≡ r.total = ap (λ (x : Following). x.total) c.self.view_is in
    let t = takes-head r used loads p a c.requires.going (not-zero r.total (λ e. c.if-self-eq0.false (total ∙ e))) in
    let same : c.is_head.result ≡ is_head (actor_of r.now) a = c.is_head.ensures ∙ ap (λ (h : Option Actor). is_head h a) c.head-head.ensures in
    (λ is. t.free (sym same ∙ is), λ free. same ∙ t.takes free)
