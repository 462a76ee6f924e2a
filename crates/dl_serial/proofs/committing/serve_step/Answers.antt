use Rattle.std.proofs.Common.{◌≡◌, ◌+◌, List, length, Some, ◌∷◌, ◌++◌, [], refl, sym, ap, ◌∙◌, subst, arith}
use Rattle.dl_entry.specs.declared.Commit.{Commit}
use Rattle.spec_isa.specs.Threads.{IsThread}
use Rattle.spec_isa.specs.Inside.{AreInside}
use Rattle.spec_play.specs.Effects.{serial_commit}
use Rattle.spec_play.specs.Verdicts.{serial_verdict}
use Rattle.spec_query.specs.Stores.{stores_of}
use Rattle.dl_kernel.specs.States.{PlayState as State}
use Rattle.dl_replay.specs.Following.{Following}
use Rattle.dl_replay.specs.Left.{Served, served_by}
use Rattle.dl_replay.specs.Replays.{Agrees}
use Rattle.dl_replay.proofs.Answered.{failed, fails, gone}
use Rattle.dl_serial.specs.Playing.{progress_in}
use Rattle.dl_serial.specs.declared.sphere.Sphere.{Sphere}
use Rattle.dl_serial.proofs.Goes.{CanStep, step-left, whole-words}
use Rattle.dl_serial.proofs.Settling.{IsNoted, failed-come, failed-playing, gone-come, gone-playing}
use Rattle.dl_serial.proofs.Turning.{on-two}
use Rattle.dl_serial.proofs.committing.serve_step.Goals as goal

pub note-requires-clause-number : goal.note-requires-clause-number
note-requires-clause-number g c =
    let r = c.args.replayer.now in
    let s = c.args.sphere.now in
    let p = progress_in s.past in
    let k = c.args.number in
    let t = c.thread_at.result in
    let there = c.thread_at.ensures.thread in
    let m = s.past.state.memory in
    let v = serial_verdict r.log p s.past.state.used k s.past.state.threads t m in
    let agrees : Agrees s.past.state p = record { commits = c.requires.playing.counted; last = refl; request = refl } in
    let new = c.serve_step.new.self in
    let left = c.serve_step.new.state in
    let went = gone r s.past.state p new left k v c.requires.playing.order (rw c.in-Ok.is at (c.in_ok-words.ensures.judged p t agrees there)) in
    omega (arith, c.requires.playing.counted, ap length c.in_ok-reserve.ensures.same.all, ap (λ (x : State). x.commits) went.state)

pub note-requires-clause-inside : goal.note-requires-clause-inside
note-requires-clause-inside g c =
    let r = c.args.replayer.now in
    let s = c.args.sphere.now in
    let p = progress_in s.past in
    let k = c.args.number in
    let t = c.thread_at.result in
    let there = c.thread_at.ensures.thread in
    let m = s.past.state.memory in
    let v = serial_verdict r.log p s.past.state.used k s.past.state.threads t m in
    let agrees : Agrees s.past.state p = record { commits = c.requires.playing.counted; last = refl; request = refl } in
    let new = c.serve_step.new.self in
    let left = c.serve_step.new.state in
    let can : CanStep t m s.past.state.request =
    record { whole = whole-words (length m) c.size.ensures.memory.size; thread = subst IsThread c.parts.ensures.value c.parts.ensures.thread; request_sound = c.requires.playing.request }
    in
    let went = gone r s.past.state p new left k v c.requires.playing.order (rw c.in-Ok.is at (c.in_ok-words.ensures.judged p t agrees there)) in
    let by = step-left r.log p s.past.state.used k s.past.state.threads t m went.effect went.used can went.verdict in
    let served = (rw c.in-Ok.is at (c.in_ok-words.ensures.served p t agrees there)) ∙ ap served_by went.verdict in
    subst (λ (x : State). AreInside (length x.memory) c.in-Ok.field-0.words.words) (sym went.state)
    (subst (AreInside (length m)) (sym (ap (λ (x : Served). x.words) served)) by.inside)

pub returns-in-Ok-clause-log : goal.returns-in-Ok-clause-log
returns-in-Ok-clause-log g c =
    let r = c.args.replayer.now in
    let s = c.args.sphere.now in
    let p = progress_in s.past in
    let k = c.args.number in
    let t = c.thread_at.result in
    let there = c.thread_at.ensures.thread in
    let m = s.past.state.memory in
    let v = serial_verdict r.log p s.past.state.used k s.past.state.threads t m in
    let agrees : Agrees s.past.state p = record { commits = c.requires.playing.counted; last = refl; request = refl } in
    let new = c.serve_step.new.self in
    let left = c.serve_step.new.state in
    let went = gone r s.past.state p new left k v c.requires.playing.order (rw c.in-Ok.is at (c.in_ok-words.ensures.judged p t agrees there)) in
    ap (λ (x : Following). x.log) went.replay

pub returns-in-Ok-clause-playing : goal.returns-in-Ok-clause-playing
returns-in-Ok-clause-playing g c =
    let r = c.args.replayer.now in
    let s = c.args.sphere.now in
    let p = progress_in s.past in
    let k = c.args.number in
    let t = c.thread_at.result in
    let there = c.thread_at.ensures.thread in
    let m = s.past.state.memory in
    let v = serial_verdict r.log p s.past.state.used k s.past.state.threads t m in
    let agrees : Agrees s.past.state p = record { commits = c.requires.playing.counted; last = refl; request = refl } in
    let new = c.serve_step.new.self in
    let left = c.serve_step.new.state in
    let can : CanStep t m s.past.state.request =
    record { whole = whole-words (length m) c.size.ensures.memory.size; thread = subst IsThread c.parts.ensures.value c.parts.ensures.thread; request_sound = c.requires.playing.request }
    in
    let went = gone r s.past.state p new left k v c.requires.playing.order (rw c.in-Ok.is at (c.in_ok-words.ensures.judged p t agrees there)) in
    let by = step-left r.log p s.past.state.used k s.past.state.threads t m went.effect went.used can went.verdict in
    let commit = c.serial_commit-commit.result in
    let n : Sphere = record { past = c.note.new.past; stores = c.note.new.stores; words = s.words } in
    let noted : IsNoted s n commit =
    record {
      first = c.note.ensures.first;
      commits = c.note.ensures.commits ∙ ap (λ (cs : List Commit). cs ++ commit ∷ []) c.in_ok-reserve.ensures.same.all;
      capacity = refl;
    }
    in
    gone-playing c.note.result r new s n left k v c.in-Ok.field-0.words.words commit went c.serve_step.ensures.at by.request noted c.note.ensures.state c.note.ensures.still c.requires.playing

pub returns-in-Ok-clause-came : goal.returns-in-Ok-clause-came
returns-in-Ok-clause-came g c t there =
    let r = c.args.replayer.now in
    let s = c.args.sphere.now in
    let p = progress_in s.past in
    let k = c.args.number in
    let same : c.thread_at.result ≡ t = (let h : Some c.thread_at.result ≡ Some t = sym c.thread_at.ensures.thread ∙ there in cc) in
    let m = s.past.state.memory in
    let v = serial_verdict r.log p s.past.state.used k s.past.state.threads t m in
    let agrees : Agrees s.past.state p = record { commits = c.requires.playing.counted; last = refl; request = refl } in
    let new = c.serve_step.new.self in
    let left = c.serve_step.new.state in
    let can : CanStep t m s.past.state.request =
    record { whole = whole-words (length m) c.size.ensures.memory.size; thread = subst IsThread (c.parts.ensures.value ∙ same) c.parts.ensures.thread; request_sound = c.requires.playing.request }
    in
    let went = gone r s.past.state p new left k v c.requires.playing.order (rw c.in-Ok.is at (c.in_ok-words.ensures.judged p t agrees there)) in
    let by = step-left r.log p s.past.state.used k s.past.state.threads t m went.effect went.used can went.verdict in
    let served = (rw c.in-Ok.is at (c.in_ok-words.ensures.served p t agrees there)) ∙ ap served_by went.verdict in
    let commit = c.serial_commit-commit.result in
    let n : Sphere = record { past = c.note.new.past; stores = c.note.new.stores; words = s.words } in
    let noted : IsNoted s n commit =
    record {
      first = c.note.ensures.first;
      commits = c.note.ensures.commits ∙ ap (λ (cs : List Commit). cs ++ commit ∷ []) c.in_ok-reserve.ensures.same.all;
      capacity = refl;
    }
    in
    let is : commit ≡ went.effect.commit =
    c.serial_commit-commit.ensures ∙ ap (λ (x : Served). serial_commit k x.loads x.outputs) served ∙ sym by.commit
    in
    let number = ap (λ (cs : List Commit). s.past.first + length cs) c.in_ok-reserve.ensures.same.all in
    on-two c.note.result _ _ _ c.note.ensures.state c.note.ensures.stores
    (λ laid stores. gone-come r new s n left k v c.in-Ok.field-0.words.words commit went noted laid (ap (λ (x : Served). x.words) served) is
    (stores ∙ (λ i. s.stores.items ++ stores_of (number i) ((c.serial_commit-commit.ensures i).actor) (went.state i).memory c.in-Ok.field-0.words.words)) c.requires.playing)

pub returns-in-Err-clause-log : goal.returns-in-Err-clause-log
returns-in-Err-clause-log g c =
    let r = c.args.replayer.now in
    let s = c.args.sphere.now in
    let p = progress_in s.past in
    let k = c.args.number in
    let t = c.thread_at.result in
    let there = c.thread_at.ensures.thread in
    let m = s.past.state.memory in
    let v = serial_verdict r.log p s.past.state.used k s.past.state.threads t m in
    let agrees : Agrees s.past.state p = record { commits = c.requires.playing.counted; last = refl; request = refl } in
    let new = c.serve_step.new.self in
    let left = c.serve_step.new.state in
    let why = c.in-Err.field-0 in
    let said = rw c.in-Err.is at (c.in_ok-words.ensures.judged p t agrees there) in
    let fell = failed r s.past.state p new left k v why said in
    ap (λ (x : Following). x.log) fell.replay

pub returns-in-Err-clause-playing : goal.returns-in-Err-clause-playing
returns-in-Err-clause-playing g c =
    let r = c.args.replayer.now in
    let s = c.args.sphere.now in
    let p = progress_in s.past in
    let k = c.args.number in
    let t = c.thread_at.result in
    let there = c.thread_at.ensures.thread in
    let m = s.past.state.memory in
    let v = serial_verdict r.log p s.past.state.used k s.past.state.threads t m in
    let agrees : Agrees s.past.state p = record { commits = c.requires.playing.counted; last = refl; request = refl } in
    let new = c.serve_step.new.self in
    let left = c.serve_step.new.state in
    let why = c.in-Err.field-0 in
    let said = rw c.in-Err.is at (c.in_ok-words.ensures.judged p t agrees there) in
    let fell = failed r s.past.state p new left k v why said in
    let n : Sphere = record s { past = record s.past { commits = c.reserve.new.self; state = left } } in
    failed-playing r new s n left why fell c.serve_step.ensures.at
    (record { first = refl; commits = c.in_ok-reserve.ensures.same.all; state = refl; capacity = refl }) c.requires.playing

pub returns-in-Err-clause-came : goal.returns-in-Err-clause-came
returns-in-Err-clause-came g c t there =
    let r = c.args.replayer.now in
    let s = c.args.sphere.now in
    let p = progress_in s.past in
    let k = c.args.number in
    let v = serial_verdict r.log p s.past.state.used k s.past.state.threads t s.past.state.memory in
    let agrees : Agrees s.past.state p = record { commits = c.requires.playing.counted; last = refl; request = refl } in
    let new = c.serve_step.new.self in
    let left = c.serve_step.new.state in
    let why = c.in-Err.field-0 in
    let said = rw c.in-Err.is at (c.in_ok-words.ensures.judged p t agrees there) in
    let fell = failed r s.past.state p new left k v why said in
    let n : Sphere = record s { past = record s.past { commits = c.reserve.new.self; state = left } } in
    failed-come r new s n left k v why (fails r s.past.state p new left k v why said) fell
    (record { first = refl; commits = c.in_ok-reserve.ensures.same.all; state = refl; capacity = refl }) refl c.requires.playing
