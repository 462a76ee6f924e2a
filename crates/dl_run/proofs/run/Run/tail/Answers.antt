use Rattle.std.proofs.Common.{◌∙◌, ◌≡◌, List, Option, Some, ap, refl, sym, subst}
use Rattle.std.specs.Option.{IsSome}
use Rattle.std.proofs.lemmas.Result.{IfOk-weaker}
use Rattle.spec_log.specs.Log.{IsLog}
use Rattle.spec_protocol.specs.declared.event.Event.{Event}
use Rattle.spec_sphere.specs.sphere.Setups.{EpochSetup, RecordSetup, IsRecorded}
use Rattle.spec_sphere.specs.sphere.Spheres.{Role, Sphere}
use Rattle.spec_sphere.specs.promises.Alike.{epochs_in}
use Rattle.spec_protocol.specs.promises.Sound.{image_at}
use Rattle.spec_run.specs.Promise.{HasWords}
use Rattle.spec_run.specs.Tails.{tail_of_points}
use Rattle.spec_tail.specs.Tails.{Tail, IsTail}
use Rattle.dl_kernel.specs.States.{state_in}
use Rattle.dl_record.specs.Epochs.{base_state}
use Rattle.dl_sphere.specs.Reading.{log_in}
use Rattle.dl_run.specs.Ran.{IsOver}
use Rattle.dl_run.specs.Tails.{tail_in}
use Rattle.dl_run.proofs.Over.{is-tail, tail-held, tail-told}
use Rattle.dl_run.proofs.run.Run.tail.Goals as goal

pub base-at-requires-clause-some : goal.base-at-requires-clause-some
base-at-requires-clause-some c =
    let over = c.sphere-sphere.ensures.over in
    let asked = c.requires.recorded in
    let held = tail-held over.0 c.args.self.now c.args.sphere asked.0 asked.1 over.1 c.requires.inside asked.2 asked.3 in
    subst (λ (x : Role). IsSome (epochs_in x)) (sym (ap (λ (q : Sphere). q.role) c.sphere-sphere.ensures.value ∙ held.role)) refl

pub tail_from-requires : goal.tail_from-requires
tail_from-requires c =
    let r = c.args.self.now in
    let i = c.args.sphere in
    let over = c.sphere-sphere.ensures.over in
    let asked = c.requires.recorded in
    let p = c.sphere-sphere.ensures.value in
    let told = tail-told over.0 r i asked.0 asked.1 c.base-at.result.at (state_in c.base-at.result.state.now) c.in_ok-log.field-0 over.1 c.requires.inside asked.2 asked.3
    (c.base-at.ensures.at ∙ ap (λ (q : Sphere). q.progress.first) p)
    (ap (λ (q : Sphere). base_state (epochs_in q.role)) (sym p) ∙ c.base-at.ensures.state)
    (ap (λ (q : Sphere). log_in q.role) (sym p) ∙ c.in_ok-log.ensures)
    in
    subst (λ (t : Tail). HasWords t → IsLog t.log → IsTail t) (sym told)
    (is-tail over.0 r i asked.0 asked.1 over.1 c.requires.inside asked.2 asked.3)

pub returns : goal.returns
returns c =
    let r = c.args.self.now in
    let i = c.args.sphere in
    let p = c.sphere-sphere.ensures.value in
    let state = state_in c.base-at.result.state.now in
    IfOk-weaker c.tail_from.result
    (λ tail. tail ≡ tail_in c.base-at.result.at state c.in_ok-log.field-0)
    (λ tail. (es : List Event) (asked : RecordSetup) (x : EpochSetup) → IsOver es r → (image_at r.setup i).role ≡ IsRecorded asked → asked.epochs ≡ Some x → tail ≡ tail_of_points r.setup es i asked x)
    (λ tail e es asked x over is some.
    e
    ∙ tail-told es r i asked x c.base-at.result.at state c.in_ok-log.field-0 over c.requires.inside is some
    (c.base-at.ensures.at ∙ ap (λ (q : Sphere). q.progress.first) p)
    (ap (λ (q : Sphere). base_state (epochs_in q.role)) (sym p) ∙ c.base-at.ensures.state)
    (ap (λ (q : Sphere). log_in q.role) (sym p) ∙ c.in_ok-log.ensures))
    c.tail_from.ensures
