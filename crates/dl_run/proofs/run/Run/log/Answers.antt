use Rattle.std.proofs.Common.{◌∙◌, ◌≡◌, List, Option, None, Some, ap, sym, inl, inr, refl}
use Rattle.std.specs.Option.{option_and_then}
use Rattle.std.specs.Prelude.{option_map}
use Rattle.std.proofs.lemmas.Option.{none-some}
use Rattle.spec_sphere.specs.sphere.Setups.{EpochSetup, RecordSetup, RoleSetup, IsPlain, IsRecorded, IsReplayed}
use Rattle.dl_sphere.specs.declared.setup.Role.{Role}
use Rattle.dl_sphere.specs.Setups.{epoch_setup, record_setup, replay_setup, role_setup}
use Rattle.dl_run.specs.declared.texts.SphereLog.TheVariants.{Tail as TailOf}
use Rattle.dl_run.proofs.Over.{log-is, no-log, tail-is}
use Rattle.dl_run.proofs.run.Run.log.Goals as goal

pub returns-in_ok-recording-in-None-clause-bytes : goal.returns-in_ok-recording-in-None-clause-bytes
returns-in_ok-recording-in-None-clause-bytes c es over =
    let here = c.in-Record in
    let is = sym c.role.ensures.value ∙ ap role_setup here.is in
    let none = ap (option_map epoch_setup) c.in-None.is in
    let log = c.in_ok-recording-in-None in
    let asked = record_setup here.version here.mode here.epochs in
    log-is c.args.self.now.setup es c.args.sphere asked log.field-0 is none (log.ensures es asked over is none)

pub returns-in_ok-tail-in-Some-clause-bytes : goal.returns-in_ok-tail-in-Some-clause-bytes
returns-in_ok-tail-in-Some-clause-bytes c es over =
    let here = c.in-Record in
    let is = sym c.role.ensures.value ∙ ap role_setup here.is in
    let some = ap (option_map epoch_setup) c.in-Some.is in
    let tail = c.in_ok-tail-in-Some in
    let asked = record_setup here.version here.mode here.epochs in
    let x = epoch_setup c.in-Some.field-0 in
    tail-is c.args.self.now.setup es c.args.sphere asked x tail.field-0 is some (tail.ensures es asked x over is some)

pub returns-in-Plain-clause-bytes : goal.returns-in-Plain-clause-bytes
returns-in-Plain-clause-bytes c es over =
    let s = c.args.self.now.setup in
    elim c.in-Plain.is [
      | inl is ↦ no-log s es c.args.sphere (inl (sym c.role.ensures.value ∙ ap role_setup is))
      | inr is ↦ no-log s es c.args.sphere (inr (replay_setup is.0, sym c.role.ensures.value ∙ ap role_setup is.1))
    ]

-- what is recorded in epochs
abbrev asked_of : RoleSetup → Option RecordSetup
asked_of IsPlain = None
asked_of (IsRecorded asked) = Some asked
asked_of (IsReplayed asked) = None

abbrev epochs_asked : RoleSetup → Option EpochSetup
epochs_asked role = option_and_then (λ asked. asked.epochs) (asked_of role)

pub returns-in-Plain-clause-tail : goal.returns-in-Plain-clause-tail
returns-in-Plain-clause-tail c = λ es asked x over is some.
    let recorded : asked_of (role_setup c.role.result.now) ≡ Some asked = ap asked_of (c.role.ensures.value ∙ is) in
    elim c.in-Plain.is [
      | inl plain ↦ absurd (none-some asked (ap (λ (r : Role). asked_of (role_setup r)) (sym plain) ∙ recorded))
      | inr replay ↦ absurd (none-some asked (ap (λ (r : Role). asked_of (role_setup r)) (sym replay.1) ∙ recorded))
    ]

pub returns-in_ok-recording-in-None-clause-tail : goal.returns-in_ok-recording-in-None-clause-tail
returns-in_ok-recording-in-None-clause-tail c = λ es asked x over is some.
    let here = c.in-Record in
    let own : IsRecorded (record_setup here.version here.mode here.epochs) ≡ IsRecorded asked = sym (ap role_setup here.is) ∙ c.role.ensures.value ∙ is in
    let none : None ≡ (record_setup here.version here.mode here.epochs).epochs = sym (ap (option_map epoch_setup) c.in-None.is) in
    absurd (none-some x (none ∙ ap (λ (r : RoleSetup). epochs_asked r) own ∙ some))

pub returns-in_ok-tail-in-Some-clause-tail : goal.returns-in_ok-tail-in-Some-clause-tail
returns-in_ok-tail-in-Some-clause-tail c = λ es asked x over is some. ap TailOf (c.in_ok-tail-in-Some.ensures es asked x over is some)
