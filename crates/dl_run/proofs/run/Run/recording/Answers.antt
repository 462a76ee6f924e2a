use Rattle.std.proofs.Common.{◌∙◌, ◌≡◌, List, ap, refl, sym, subst}
use Rattle.std.specs.Prelude.{IsSome, None, Some}
use Rattle.std.proofs.lemmas.Result.{IfOk-weaker}
use Rattle.spec_protocol.specs.declared.event.Event.{Event}
use Rattle.spec_sphere.specs.sphere.Setups.{RecordSetup, IsRecorded}
use Rattle.spec_protocol.specs.promises.Sound.{image_at}
use Rattle.spec_sphere.specs.sphere.Spheres.{Role, Sphere}
use Rattle.spec_run.specs.Texts.{log_of_points}
use Rattle.dl_sphere.specs.Reading.{log_in}
use Rattle.dl_run.specs.Ran.{IsOver}
use Rattle.dl_run.proofs.Over.{log-of_points, recorded-role}
use Rattle.dl_run.proofs.run.Run.recording.Goals as goal

pub log-requires : goal.log-requires
log-requires c =
    let over = c.sphere.ensures.over in
    let role = recorded-role over.0 c.args.self.now c.args.sphere c.requires.recorded.0 over.1 c.requires.inside c.requires.recorded.1 c.requires.recorded.2 in
    subst (λ (x : Role). IsSome (log_in x)) (sym (ap (λ (q : Sphere). q.role) c.sphere.ensures.value ∙ role)) refl

pub returns : goal.returns
returns c =
    let r = c.args.self.now in
    let i = c.args.sphere in
    IfOk-weaker c.log.result
    (λ log. log_in c.sphere.result.now.sphere.role ≡ Some log)
    (λ log. (es : List Event) (asked : RecordSetup) → IsOver es r → (image_at r.setup i).role ≡ IsRecorded asked → asked.epochs ≡ None → log ≡ log_of_points r.setup es i asked)
    (λ log e es asked over is none.
    log-of_points es r i asked log over c.requires.inside is none
    (ap (λ (q : Sphere). log_in q.role) (sym c.sphere.ensures.value) ∙ e))
    c.log.ensures
