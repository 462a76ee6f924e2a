use Rattle.std.proofs.Common.{◌≡◌, ◌<◌, ◌≤◌, ◌∙◌, false, length, None, sym, ap, subst}
use Rattle.std.specs.Prelude.{IfSome, OnSome}
use Rattle.dl_kernel.proofs.Rows.{room-more}
use Rattle.dl_entry.specs.declared.Commit.{Commit}
use Rattle.spec_kernel.specs.Devices.{Devices}
use Rattle.spec_kernel.specs.Needs.{need}
use Rattle.spec_kernel.specs.Answers.{taken}
use Rattle.spec_kernel.specs.Serving.{StepResult, serve, console_written}
use Rattle.spec_log.specs.Log.{IsInput}
use Rattle.spec_play.specs.Effects.{serial_commit}
use Rattle.dl_kernel.specs.StepResults.{result_in}
use Rattle.dl_kernel.specs.Outside.{devices_left}
use Rattle.dl_sphere.specs.Roles.{keeping_of, most_of, with_noted}
use Rattle.dl_sphere.proofs.Live.Devices.{record_taken, devices_taken, input_taken, if_copied, few_bytes}
use Rattle.dl_sphere.proofs.stepping.live_step.Goals as goal

pub serve-requires : goal.serve-requires
serve-requires c =
    let s = c.args.step.now in
    let d = c.args.devices.now in
    let n = need s.thread s.memory.now in
    let is = c.as_ref.ensures.value ∙ c.in_ok-input.ensures.left ∙ record_taken c.args.moment d n in
    if_copied (λ r. length r.bytes ≤ 4096) c.as_ref.result
    (subst (λ o. IfSome o (λ r. length r.bytes ≤ 4096)) (sym is) (few_bytes (taken n d c.args.moment).input (input_taken s.thread s.memory.now d c.args.moment c.size.ensures.memory.bytes c.input_left.ensures.bytes)))

pub note_reserved-requires-clause-input : goal.note_reserved-requires-clause-input
note_reserved-requires-clause-input c =
    let s = c.args.step.now in
    let d = c.args.devices.now in
    let n = need s.thread s.memory.now in
    let is = c.as_ref-2.ensures.value ∙ c.in_ok-input.ensures.left ∙ record_taken c.args.moment d n in
    if_copied IsInput c.as_ref-2.result
    (subst (λ o. IfSome o IsInput) (sym is) (input_taken s.thread s.memory.now d c.args.moment c.size.ensures.memory.bytes c.input_left.ensures.bytes))

pub returns-clause-thread : goal.returns-clause-thread
returns-clause-thread c =
    let s = c.args.step.now in
    let d = c.args.devices.now in
    let n = need s.thread s.memory.now in
    let g = taken n d c.args.moment in
    let is = c.as_ref.ensures.value ∙ c.in_ok-input.ensures.left ∙ record_taken c.args.moment d n in
    let served : result_in c.in_ok-served.served ≡ serve (most_of (keeping_of c.args.part.now)) s.number s.threads.now s.request s.thread s.memory.now g.input =
    c.in_ok-served.ensures.served
    ∙ (λ i. serve (c.threads_allowed.ensures.value i) s.number s.threads.now s.request s.thread s.memory.now (is i))
    in
    ap (λ (v : StepResult). v.thread) served

pub returns-clause-spawned : goal.returns-clause-spawned
returns-clause-spawned c =
    let s = c.args.step.now in
    let d = c.args.devices.now in
    let n = need s.thread s.memory.now in
    let g = taken n d c.args.moment in
    let is = c.as_ref.ensures.value ∙ c.in_ok-input.ensures.left ∙ record_taken c.args.moment d n in
    let served : result_in c.in_ok-served.served ≡ serve (most_of (keeping_of c.args.part.now)) s.number s.threads.now s.request s.thread s.memory.now g.input =
    c.in_ok-served.ensures.served
    ∙ (λ i. serve (c.threads_allowed.ensures.value i) s.number s.threads.now s.request s.thread s.memory.now (is i))
    in
    ap (λ (v : StepResult). v.spawned) served

pub returns-clause-room : goal.returns-clause-room
returns-clause-room c =
    let s = c.args.step.now in
    subst (λ n. OnSome c.in_ok-served.served.spawned (length s.threads.now < n)) c.threads_allowed.ensures.value c.in_ok-served.ensures.room

pub returns-clause-places : goal.returns-clause-places
returns-clause-places c =
    room-more c.in_ok-served.served.spawned (length c.args.step.now.threads.now) c.threads_allowed.result 63 c.threads_allowed.ensures.few c.in_ok-served.ensures.room

pub returns-clause-request : goal.returns-clause-request
returns-clause-request c =
    let s = c.args.step.now in
    let d = c.args.devices.now in
    let n = need s.thread s.memory.now in
    let g = taken n d c.args.moment in
    let is = c.as_ref.ensures.value ∙ c.in_ok-input.ensures.left ∙ record_taken c.args.moment d n in
    let served : result_in c.in_ok-served.served ≡ serve (most_of (keeping_of c.args.part.now)) s.number s.threads.now s.request s.thread s.memory.now g.input =
    c.in_ok-served.ensures.served
    ∙ (λ i. serve (c.threads_allowed.ensures.value i) s.number s.threads.now s.request s.thread s.memory.now (is i))
    in
    ap (λ (v : StepResult). v.request) served

pub returns-clause-words : goal.returns-clause-words
returns-clause-words c =
    let s = c.args.step.now in
    let d = c.args.devices.now in
    let n = need s.thread s.memory.now in
    let g = taken n d c.args.moment in
    let is = c.as_ref.ensures.value ∙ c.in_ok-input.ensures.left ∙ record_taken c.args.moment d n in
    let served : result_in c.in_ok-served.served ≡ serve (most_of (keeping_of c.args.part.now)) s.number s.threads.now s.request s.thread s.memory.now g.input =
    c.in_ok-served.ensures.served
    ∙ (λ i. serve (c.threads_allowed.ensures.value i) s.number s.threads.now s.request s.thread s.memory.now (is i))
    in
    ap (λ (v : StepResult). v.words) served

pub returns-clause-commit : goal.returns-clause-commit
returns-clause-commit c =
    let s = c.args.step.now in
    let d = c.args.devices.now in
    let n = need s.thread s.memory.now in
    let g = taken n d c.args.moment in
    let is = c.as_ref.ensures.value ∙ c.in_ok-input.ensures.left ∙ record_taken c.args.moment d n in
    let served : result_in c.in_ok-served.served ≡ serve (most_of (keeping_of c.args.part.now)) s.number s.threads.now s.request s.thread s.memory.now g.input =
    c.in_ok-served.ensures.served
    ∙ (λ i. serve (c.threads_allowed.ensures.value i) s.number s.threads.now s.request s.thread s.memory.now (is i))
    in
    c.serial_commit-commit.ensures ∙ ap (λ (v : StepResult). serial_commit s.number v.loads v.outputs) served

pub returns-clause-noted : goal.returns-clause-noted
returns-clause-noted c =
    let s = c.args.step.now in
    let d = c.args.devices.now in
    let n = need s.thread s.memory.now in
    let g = taken n d c.args.moment in
    let is = c.as_ref.ensures.value ∙ c.in_ok-input.ensures.left ∙ record_taken c.args.moment d n in
    let served : result_in c.in_ok-served.served ≡ serve (most_of (keeping_of c.args.part.now)) s.number s.threads.now s.request s.thread s.memory.now g.input =
    c.in_ok-served.ensures.served
    ∙ (λ i. serve (c.threads_allowed.ensures.value i) s.number s.threads.now s.request s.thread s.memory.now (is i))
    in
    let commit = c.serial_commit-commit.ensures ∙ ap (λ (v : StepResult). serial_commit s.number v.loads v.outputs) served in
    let input = c.as_ref-2.ensures.value ∙ c.in_ok-input.ensures.left ∙ record_taken c.args.moment d n in
    c.note_reserved.ensures ∙ (λ i. with_noted (commit i) false (input i) None (c.in_ok-reserve.ensures.same i))

pub returns-clause-devices : goal.returns-clause-devices
returns-clause-devices c =
    let s = c.args.step.now in
    let d = c.args.devices.now in
    let n = need s.thread s.memory.now in
    let g = taken n d c.args.moment in
    let is = c.as_ref.ensures.value ∙ c.in_ok-input.ensures.left ∙ record_taken c.args.moment d n in
    let served : result_in c.in_ok-served.served ≡ serve (most_of (keeping_of c.args.part.now)) s.number s.threads.now s.request s.thread s.memory.now g.input =
    c.in_ok-served.ensures.served
    ∙ (λ i. serve (c.threads_allowed.ensures.value i) s.number s.threads.now s.request s.thread s.memory.now (is i))
    in
    c.in_ok-outside_take.ensures.devices c.args.moment
    ∙ ap (λ (x : Commit). console_written s.thread s.memory.now x.outputs (devices_left c.args.moment d n)) c.serial_commit-commit.ensures
    ∙ ap (λ (v : StepResult). console_written s.thread s.memory.now v.outputs (devices_left c.args.moment d n)) served
    ∙ ap (λ (e : Devices). console_written s.thread s.memory.now (serve (most_of (keeping_of c.args.part.now)) s.number s.threads.now s.request s.thread s.memory.now g.input).outputs e) (devices_taken c.args.moment d n)
