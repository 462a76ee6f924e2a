use Rattle.std.proofs.Common.{◌≡◌, ℕ, ◌+◌, List, length, subst, Option, Some, None, option_map, option_copied, Ok, ap, sym, ◌∙◌, arith}
use Rattle.dl_entry.specs.declared.actor.Actor.{Actor}
use Rattle.dl_entry.specs.declared.end.Why.{Why}
use Rattle.spec_isa.specs.declared.thread.Parts.{Parts}
use Rattle.spec_log.specs.Size.{size_in}
use Rattle.spec_kernel.specs.Serving.{StepResult, serve}
use Rattle.spec_play.specs.Effects.{serial_effect}
use Rattle.spec_play.specs.Verdicts.{Fails, TakenRecord, serial_verdict, serial_why}
use Rattle.spec_play.specs.Spawned.{AreNew}
use Rattle.spec_play.proofs.Threads.{KeepsCommits, serve-keeps}
use Rattle.dl_kernel.proofs.Rows.{room-more}
use Rattle.dl_kernel.specs.StepResults.{result_in}
use Rattle.spec_sphere.specs.promises.Sound.{IsSoundIf}
use Rattle.dl_replay.specs.Judging.{given_by, step_verdict}
use Rattle.dl_replay.specs.declared.judging.Done.{Done}
use Rattle.dl_replay.proofs.Advancing.{some-same}
use Rattle.dl_replay.proofs.Requests.{serve-request}
use Rattle.dl_replay.proofs.Verdicts.{serial-is, refused-is, step-is}
use Rattle.dl_replay.proofs.judging.judge_step.Goals as goal

abbrev same : {left v : StepResult} (t : Parts) → left ≡ v → KeepsCommits t v.thread v.spawned → left.thread.commits ≡ t.commits
same t e keeps = ap (λ (v : StepResult). v.thread.commits) e ∙ keeps.commits

pub returns-in-Some-clause-verdict : goal.returns-in-Some-clause-verdict
returns-in-Some-clause-verdict g c p t a is =
    let s = c.args.state.now in
    let k = c.args.number in
    let log = c.args.log.now.log in
    let u = c.thread_at-thread.result in
    let why : Some c.in-Some.why ≡ serial_why (size_in log (Actor.Thread k) u.commits) = cc in
    subst (λ (x : Parts). Fails c.in-Some.why ≡ serial_verdict log p s.used k s.threads x s.memory) (some-same (sym c.thread_at-thread.ensures.thread ∙ is))
    (sym (refused-is log p s.used k s.threads u s.memory c.in-Some.why why))

pub returns-in_default-given-clause-verdict : goal.returns-in_default-given-clause-verdict
returns-in_default-given-clause-verdict g c p t a is =
    let s = c.args.state.now in
    let k = c.args.number in
    let log = c.args.log.now.log in
    let u = c.thread_at-thread.result in
    let none : Option Why = None in
    let why : none ≡ serial_why (size_in log (Actor.Thread k) u.commits) = cc in
    let missing : Option TakenRecord = None in
    subst (λ (x : Parts). Fails Why.Input ≡ serial_verdict log p s.used k s.threads x s.memory) (some-same (sym c.thread_at-thread.ensures.thread ∙ is))
    (sym (serial-is log p s.used k s.threads u s.memory none missing why (sym (ap (option_map given_by) c.in_default-given.is) ∙ c.given.ensures.value)))

pub counted-requires : goal.counted-requires
counted-requires g c =
    let s = c.args.state.now in
    let u = c.thread_at-thread.result in
    let keeps = serve-keeps c.threads.result c.args.number s.threads s.request u s.memory (option_copied c.in-Some-given.given.input) in
    let below = c.requires.bounded.threads c.args.number u c.thread_at-thread.ensures.thread in
    omega (arith, same u c.in_ok-left.ensures.served keeps, below, c.requires.few)

pub returns-in-Ok-clause-verdict : goal.returns-in-Ok-clause-verdict
returns-in-Ok-clause-verdict g c p t a is =
    let s = c.args.state.now in
    let k = c.args.number in
    let log = c.args.log.now.log in
    let u = c.thread_at-thread.result in
    let none : Option Why = None in
    let why : none ≡ serial_why (size_in log (Actor.Thread k) u.commits) = cc in
    let left = result_in c.in_ok-left.left in
    let d : Done = record { left = c.in_ok-left.left; finish = c.in-Ok.finish } in
    subst (λ (x : Parts). step_verdict k (Ok d) ≡ serial_verdict log p s.used k s.threads x s.memory) (some-same (sym c.thread_at-thread.ensures.thread ∙ is))
    (step-is log p s.used k s.threads u s.memory s.request (given_by c.in-Some-given.given) left _ a.request why
    (c.in-Some-given.ensures.value)
    (c.in_ok-left.ensures.served ∙ ap (λ (n : ℕ). serve n k s.threads s.request u s.memory (option_copied c.in-Some-given.given.input)) c.threads.ensures.value)
    (c.in-Ok.ensures.verdict (serial_effect k left) (sym c.counted.ensures)))

pub returns-in-Ok-clause-commits : goal.returns-in-Ok-clause-commits
returns-in-Ok-clause-commits g c =
    let s = c.args.state.now in
    let u = c.thread_at-thread.result in
    let keeps = serve-keeps c.threads.result c.args.number s.threads s.request u s.memory (option_copied c.in-Some-given.given.input) in
    let one = c.in-Ok.ensures.commits ∙ ap (λ (t : Parts). t.commits) c.counted.ensures ∙ ap (λ (n : ℕ). n + 1) (same u c.in_ok-left.ensures.served keeps) in
    let below = c.requires.bounded.threads c.args.number u c.thread_at-thread.ensures.thread in
    omega (arith, one, below)

pub returns-in-Ok-clause-spawned : goal.returns-in-Ok-clause-spawned
returns-in-Ok-clause-spawned g c =
    let s = c.args.state.now in
    let keeps = serve-keeps c.threads.result c.args.number s.threads s.request c.thread_at-thread.result s.memory (option_copied c.in-Some-given.given.input) in
    subst (λ (ts : List Parts). AreNew ts) (sym (ap (λ (v : StepResult). v.spawned) c.in_ok-left.ensures.served)) keeps.fresh

pub returns-in-Ok-clause-room : goal.returns-in-Ok-clause-room
returns-in-Ok-clause-room g c =
    room-more c.in_ok-left.left.spawned (length c.args.state.now.threads) c.threads.result 63 c.threads.ensures.few c.in_ok-left.ensures.room

pub returns-in-Ok-clause-request : goal.returns-in-Ok-clause-request
returns-in-Ok-clause-request g c =
    let s = c.args.state.now in
    let sound = serve-request c.threads.result c.args.number s.threads s.request c.thread_at-thread.result s.memory (option_copied c.in-Some-given.given.input) c.requires.request in
    subst (λ (v : StepResult). IsSoundIf (length s.memory) v.request) (sym c.in_ok-left.ensures.served) sound

pub returns-in-Err-clause-verdict : goal.returns-in-Err-clause-verdict
returns-in-Err-clause-verdict g c p t a is =
    let s = c.args.state.now in
    let k = c.args.number in
    let log = c.args.log.now.log in
    let u = c.thread_at-thread.result in
    let none : Option Why = None in
    let why : none ≡ serial_why (size_in log (Actor.Thread k) u.commits) = cc in
    let left = result_in c.in_ok-left.left in
    subst (λ (x : Parts). Fails c.in-Err.why ≡ serial_verdict log p s.used k s.threads x s.memory) (some-same (sym c.thread_at-thread.ensures.thread ∙ is))
    (step-is log p s.used k s.threads u s.memory s.request (given_by c.in-Some-given.given) left _ a.request why
    (c.in-Some-given.ensures.value)
    (c.in_ok-left.ensures.served ∙ ap (λ (n : ℕ). serve n k s.threads s.request u s.memory (option_copied c.in-Some-given.given.input)) c.threads.ensures.value)
    (c.in-Err.ensures.verdict (serial_effect k left) (sym c.counted.ensures)))
