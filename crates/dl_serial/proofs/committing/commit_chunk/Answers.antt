use Rattle.std.proofs.Common.{◌≡◌, ◌+◌, List, length, ◌∷◌, ◌++◌, [], refl, sym, ap, ◌∙◌, subst, arith}
use Rattle.dl_entry.specs.declared.Commit.{Commit}
use Rattle.spec_isa.specs.Runs.{Run}
use Rattle.spec_play.specs.Effects.{chunk_commit}
use Rattle.spec_play.specs.Verdicts.{chunk_verdict}
use Rattle.spec_sphere.specs.promises.Sound.{IsSoundIf}
use Rattle.spec_isa.specs.Inside.{AreInside}
use Rattle.spec_query.specs.Stores.{stores_of}
use Rattle.dl_kernel.specs.States.{PlayState as State}
use Rattle.dl_replay.specs.Following.{Following}
use Rattle.dl_replay.specs.Replays.{Agrees}
use Rattle.dl_replay.proofs.Answered.{failed, fails, gone}
use Rattle.dl_serial.specs.Playing.{progress_in}
use Rattle.dl_serial.specs.declared.sphere.Sphere.{Sphere}
use Rattle.dl_serial.specs.declared.chunk.Chunk.{Chunk}
use Rattle.dl_serial.proofs.Goes.{chunk-left}
use Rattle.dl_serial.proofs.Settling.{IsNoted, failed-come, failed-playing, gone-come, gone-playing}
use Rattle.dl_serial.proofs.Turning.{on-two}
use Rattle.dl_serial.proofs.committing.commit_chunk.Goals as goal

-- what judging looks at of a chunk
abbrev looked_at : Chunk → Run
looked_at c = record { thread = c.thread; words = []; loads = []; n = c.n }

pub note-requires-clause-number : goal.note-requires-clause-number
note-requires-clause-number g c =
    let r = c.args.replayer.now in
    let s = c.args.sphere.now in
    let p = progress_in s.past in
    let k = c.args.number in
    let agrees : Agrees s.past.state p = record { commits = c.requires.playing.counted; last = refl; request = refl } in
    let new = c.end_chunk.new.self in
    let left = c.end_chunk.new.state in
    let ran = looked_at c.args.chunk in
    let v = chunk_verdict r.log p s.past.state.used k ran in
    let went = gone r s.past.state p new left k v c.requires.playing.order (rw c.in-Went.is at (c.end_chunk.ensures.judged p ran agrees refl refl)) in
    omega (arith, c.requires.playing.counted, ap length c.in_ok-reserve.ensures.same.all, ap (λ (x : State). x.commits) went.state)

pub note-requires-clause-inside : goal.note-requires-clause-inside
note-requires-clause-inside g c =
    let r = c.args.replayer.now in
    let s = c.args.sphere.now in
    let p = progress_in s.past in
    let k = c.args.number in
    let agrees : Agrees s.past.state p = record { commits = c.requires.playing.counted; last = refl; request = refl } in
    let new = c.end_chunk.new.self in
    let left = c.end_chunk.new.state in
    let ran = looked_at c.args.chunk in
    let v = chunk_verdict r.log p s.past.state.used k ran in
    let went = gone r s.past.state p new left k v c.requires.playing.order (rw c.in-Went.is at (c.end_chunk.ensures.judged p ran agrees refl refl)) in
    subst (λ (x : State). AreInside (length x.memory) s.words.words) (sym went.state) c.requires.inside

pub returns-in-Went-clause-log : goal.returns-in-Went-clause-log
returns-in-Went-clause-log g c =
    let r = c.args.replayer.now in
    let s = c.args.sphere.now in
    let p = progress_in s.past in
    let k = c.args.number in
    let agrees : Agrees s.past.state p = record { commits = c.requires.playing.counted; last = refl; request = refl } in
    let new = c.end_chunk.new.self in
    let left = c.end_chunk.new.state in
    let ran = looked_at c.args.chunk in
    let v = chunk_verdict r.log p s.past.state.used k ran in
    let went = gone r s.past.state p new left k v c.requires.playing.order (rw c.in-Went.is at (c.end_chunk.ensures.judged p ran agrees refl refl)) in
    ap (λ (x : Following). x.log) went.replay

pub returns-in-Went-clause-playing : goal.returns-in-Went-clause-playing
returns-in-Went-clause-playing g c =
    let r = c.args.replayer.now in
    let s = c.args.sphere.now in
    let p = progress_in s.past in
    let k = c.args.number in
    let agrees : Agrees s.past.state p = record { commits = c.requires.playing.counted; last = refl; request = refl } in
    let new = c.end_chunk.new.self in
    let left = c.end_chunk.new.state in
    let ran = looked_at c.args.chunk in
    let v = chunk_verdict r.log p s.past.state.used k ran in
    let went = gone r s.past.state p new left k v c.requires.playing.order (rw c.in-Went.is at (c.end_chunk.ensures.judged p ran agrees refl refl)) in
    let n : Sphere = record { past = c.note.new.past; stores = c.note.new.stores; words = c.note.new.words } in
    let noted : IsNoted s n c.chunk_commit-commit.result =
    record {
      first = c.note.ensures.first;
      commits = c.note.ensures.commits ∙ ap (λ (cs : List Commit). cs ++ c.chunk_commit-commit.result ∷ []) c.in_ok-reserve.ensures.same.all;
      capacity = c.note.ensures.capacity;
    }
    in
    let by = chunk-left r.log p s.past.state.used k ran went.effect went.used went.verdict in
    gone-playing c.note.result r new s n left k v s.words.words c.chunk_commit-commit.result went c.end_chunk.ensures.at
    (subst (IsSoundIf (length s.past.state.memory)) (sym by.request) c.requires.playing.request) noted c.note.ensures.state c.note.ensures.still c.requires.playing

pub returns-in-Went-clause-came : goal.returns-in-Went-clause-came
returns-in-Went-clause-came g c ran e w =
    let r = c.args.replayer.now in
    let s = c.args.sphere.now in
    let p = progress_in s.past in
    let k = c.args.number in
    let agrees : Agrees s.past.state p = record { commits = c.requires.playing.counted; last = refl; request = refl } in
    let new = c.end_chunk.new.self in
    let left = c.end_chunk.new.state in
    let v = chunk_verdict r.log p s.past.state.used k ran in
    let said = c.end_chunk.ensures.judged p ran agrees (sym (ap (λ (x : Chunk). x.thread) e)) (sym (ap (λ (x : Chunk). x.n) e)) in
    let went = gone r s.past.state p new left k v c.requires.playing.order (rw c.in-Went.is at said) in
    let by = chunk-left r.log p s.past.state.used k ran went.effect went.used went.verdict in
    let commit : c.chunk_commit-commit.result ≡ chunk_commit k ran =
    c.chunk_commit-commit.ensures ran (ap (λ (x : Chunk). x.n) e) (ap (λ (x : Chunk). x.loads) e)
    in
    let n : Sphere = record { past = c.note.new.past; stores = c.note.new.stores; words = c.note.new.words } in
    let noted : IsNoted s n c.chunk_commit-commit.result =
    record {
      first = c.note.ensures.first;
      commits = c.note.ensures.commits ∙ ap (λ (cs : List Commit). cs ++ c.chunk_commit-commit.result ∷ []) c.in_ok-reserve.ensures.same.all;
      capacity = c.note.ensures.capacity;
    }
    in
    let number = ap (λ (cs : List Commit). s.past.first + length cs) c.in_ok-reserve.ensures.same.all in
    on-two c.note.result _ _ _ c.note.ensures.state c.note.ensures.stores
    (λ laid stores. gone-come r new s n left k v s.words.words c.chunk_commit-commit.result went noted laid (w ∙ sym by.words) (commit ∙ sym by.commit)
    (stores ∙ (λ i. s.stores.items ++ stores_of (number i) (commit i).actor (went.state i).memory s.words.words)) c.requires.playing)

pub returns-in-Diverged-clause-log : goal.returns-in-Diverged-clause-log
returns-in-Diverged-clause-log g c =
    let r = c.args.replayer.now in
    let s = c.args.sphere.now in
    let p = progress_in s.past in
    let k = c.args.number in
    let agrees : Agrees s.past.state p = record { commits = c.requires.playing.counted; last = refl; request = refl } in
    let new = c.end_chunk.new.self in
    let left = c.end_chunk.new.state in
    let ran = looked_at c.args.chunk in
    let v = chunk_verdict r.log p s.past.state.used k ran in
    let why = c.in-Diverged.field-0 in
    let fell = failed r s.past.state p new left k v why (rw c.in-Diverged.is at (c.end_chunk.ensures.judged p ran agrees refl refl)) in
    ap (λ (x : Following). x.log) fell.replay

pub returns-in-Diverged-clause-playing : goal.returns-in-Diverged-clause-playing
returns-in-Diverged-clause-playing g c =
    let r = c.args.replayer.now in
    let s = c.args.sphere.now in
    let p = progress_in s.past in
    let k = c.args.number in
    let agrees : Agrees s.past.state p = record { commits = c.requires.playing.counted; last = refl; request = refl } in
    let new = c.end_chunk.new.self in
    let left = c.end_chunk.new.state in
    let ran = looked_at c.args.chunk in
    let v = chunk_verdict r.log p s.past.state.used k ran in
    let why = c.in-Diverged.field-0 in
    let fell = failed r s.past.state p new left k v why (rw c.in-Diverged.is at (c.end_chunk.ensures.judged p ran agrees refl refl)) in
    let n : Sphere = record s { past = record s.past { commits = c.reserve.new.self; state = left } } in
    failed-playing r new s n left why fell c.end_chunk.ensures.at
    (record { first = refl; commits = c.in_ok-reserve.ensures.same.all; state = refl; capacity = refl }) c.requires.playing

pub returns-in-Diverged-clause-came : goal.returns-in-Diverged-clause-came
returns-in-Diverged-clause-came g c ran e w =
    let r = c.args.replayer.now in
    let s = c.args.sphere.now in
    let p = progress_in s.past in
    let k = c.args.number in
    let agrees : Agrees s.past.state p = record { commits = c.requires.playing.counted; last = refl; request = refl } in
    let new = c.end_chunk.new.self in
    let left = c.end_chunk.new.state in
    let v = chunk_verdict r.log p s.past.state.used k ran in
    let said = c.end_chunk.ensures.judged p ran agrees (sym (ap (λ (x : Chunk). x.thread) e)) (sym (ap (λ (x : Chunk). x.n) e)) in
    let why = c.in-Diverged.field-0 in
    let judged = rw c.in-Diverged.is at said in
    let fell = failed r s.past.state p new left k v why judged in
    let n : Sphere = record s { past = record s.past { commits = c.reserve.new.self; state = left } } in
    failed-come r new s n left k v why (fails r s.past.state p new left k v why judged) fell
    (record { first = refl; commits = c.in_ok-reserve.ensures.same.all; state = refl; capacity = refl }) refl c.requires.playing
