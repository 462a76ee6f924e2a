use Rattle.std.proofs.Common.{◌+◌, List, length, ◌∷◌, ◌++◌, [], refl, sym, ap, ◌∙◌, subst, arith}
use Rattle.dl_entry.specs.declared.Commit.{Commit}
use Rattle.spec_isa.specs.Inside.{AreInside}
use Rattle.spec_play.specs.Transfers.{dma_verdict}
use Rattle.spec_query.specs.Stores.{stores_of}
use Rattle.dl_kernel.specs.States.{PlayState as State}
use Rattle.dl_replay.specs.Following.{Following}
use Rattle.dl_replay.specs.Replays.{Agrees}
use Rattle.dl_replay.proofs.Answered.{dma-failed, dma-fails, dma-gone}
use Rattle.dl_serial.specs.Playing.{progress_in}
use Rattle.dl_serial.specs.declared.sphere.Sphere.{Sphere}
use Rattle.dl_serial.proofs.Goes.{dma-inside, whole-words}
use Rattle.dl_serial.proofs.Settling.{IsNoted, failed-playing, not-transferred-come, transferred-come, transferred-playing, words-in}
use Rattle.dl_serial.proofs.Turning.{on-two}
use Rattle.dl_serial.proofs.committing.serve_dma.Goals as goal

pub note-requires-clause-number : goal.note-requires-clause-number
note-requires-clause-number g c =
    let r = c.args.replayer.now in
    let s = c.args.sphere.now in
    let p = progress_in s.past in
    let v = dma_verdict r.log p s.past.state.used in
    let agrees : Agrees s.past.state p = record { commits = c.requires.playing.counted; last = refl; request = refl } in
    let new = c.serve_dma.new.self in
    let left = c.serve_dma.new.state in
    let went = dma-gone r s.past.state p new left v c.requires.playing.order (rw c.in-Ok.is at (c.in_ok-words.ensures.judged p agrees)) in
    omega (arith, c.requires.playing.counted, ap length c.in_ok-reserve.ensures.same.all, ap (λ (x : State). x.commits) went.state)

pub note-requires-clause-inside : goal.note-requires-clause-inside
note-requires-clause-inside g c =
    let r = c.args.replayer.now in
    let s = c.args.sphere.now in
    let p = progress_in s.past in
    let v = dma_verdict r.log p s.past.state.used in
    let agrees : Agrees s.past.state p = record { commits = c.requires.playing.counted; last = refl; request = refl } in
    let new = c.serve_dma.new.self in
    let left = c.serve_dma.new.state in
    let went = dma-gone r s.past.state p new left v c.requires.playing.order (rw c.in-Ok.is at (c.in_ok-words.ensures.judged p agrees)) in
    let stored = rw c.in-Ok.is at (c.in_ok-words.ensures.stored p agrees) in
    let size = length s.past.state.memory in
    subst (λ (x : State). AreInside (length x.memory) c.in-Ok.words.words) (sym went.state)
    (dma-inside size r.log p s.past.state.used c.in-Ok.words.words (whole-words size c.size.ensures.memory.size) c.requires.playing.request (sym stored))

pub returns-in-Ok-clause-log : goal.returns-in-Ok-clause-log
returns-in-Ok-clause-log g c =
    let r = c.args.replayer.now in
    let s = c.args.sphere.now in
    let p = progress_in s.past in
    let v = dma_verdict r.log p s.past.state.used in
    let agrees : Agrees s.past.state p = record { commits = c.requires.playing.counted; last = refl; request = refl } in
    let new = c.serve_dma.new.self in
    let left = c.serve_dma.new.state in
    let went = dma-gone r s.past.state p new left v c.requires.playing.order (rw c.in-Ok.is at (c.in_ok-words.ensures.judged p agrees)) in
    ap (λ (x : Following). x.log) went.replay

pub returns-in-Ok-clause-playing : goal.returns-in-Ok-clause-playing
returns-in-Ok-clause-playing g c =
    let r = c.args.replayer.now in
    let s = c.args.sphere.now in
    let p = progress_in s.past in
    let v = dma_verdict r.log p s.past.state.used in
    let agrees : Agrees s.past.state p = record { commits = c.requires.playing.counted; last = refl; request = refl } in
    let new = c.serve_dma.new.self in
    let left = c.serve_dma.new.state in
    let went = dma-gone r s.past.state p new left v c.requires.playing.order (rw c.in-Ok.is at (c.in_ok-words.ensures.judged p agrees)) in
    let commit = c.dma_commit-commit.result in
    let n : Sphere = record { past = c.note.new.past; stores = c.note.new.stores; words = s.words } in
    let noted : IsNoted s n commit =
    record {
      first = c.note.ensures.first;
      commits = c.note.ensures.commits ∙ ap (λ (cs : List Commit). cs ++ commit ∷ []) c.in_ok-reserve.ensures.same.all;
      capacity = refl;
    }
    in
    transferred-playing c.note.result r new s n left v c.in-Ok.words.words commit went c.serve_dma.ensures.at noted c.note.ensures.state c.note.ensures.still c.requires.playing

pub returns-in-Ok-clause-came : goal.returns-in-Ok-clause-came
returns-in-Ok-clause-came g c =
    let r = c.args.replayer.now in
    let s = c.args.sphere.now in
    let p = progress_in s.past in
    let v = dma_verdict r.log p s.past.state.used in
    let agrees : Agrees s.past.state p = record { commits = c.requires.playing.counted; last = refl; request = refl } in
    let new = c.serve_dma.new.self in
    let left = c.serve_dma.new.state in
    let went = dma-gone r s.past.state p new left v c.requires.playing.order (rw c.in-Ok.is at (c.in_ok-words.ensures.judged p agrees)) in
    let stored = rw c.in-Ok.is at (c.in_ok-words.ensures.stored p agrees) in
    let commit = c.dma_commit-commit.result in
    let n : Sphere = record { past = c.note.new.past; stores = c.note.new.stores; words = s.words } in
    let noted : IsNoted s n commit =
    record {
      first = c.note.ensures.first;
      commits = c.note.ensures.commits ∙ ap (λ (cs : List Commit). cs ++ commit ∷ []) c.in_ok-reserve.ensures.same.all;
      capacity = refl;
    }
    in
    let is = c.dma_commit-commit.ensures in
    let number = ap (λ (cs : List Commit). s.past.first + length cs) c.in_ok-reserve.ensures.same.all in
    on-two c.note.result _ _ _ c.note.ensures.state c.note.ensures.stores
    (λ laid stores. transferred-come r new s n left v c.in-Ok.words.words commit went noted laid (words-in (stored ∙ went.verdict)) is
    (stores ∙ (λ i. s.stores.items ++ stores_of (number i) (is i).actor (went.state i).memory c.in-Ok.words.words)) c.requires.playing)

pub returns-in-Err-clause-log : goal.returns-in-Err-clause-log
returns-in-Err-clause-log g c =
    let r = c.args.replayer.now in
    let s = c.args.sphere.now in
    let p = progress_in s.past in
    let v = dma_verdict r.log p s.past.state.used in
    let agrees : Agrees s.past.state p = record { commits = c.requires.playing.counted; last = refl; request = refl } in
    let new = c.serve_dma.new.self in
    let left = c.serve_dma.new.state in
    let why = c.in-Err.field-0 in
    let said = rw c.in-Err.is at (c.in_ok-words.ensures.judged p agrees) in
    let fell = dma-failed r s.past.state p new left v why said in
    ap (λ (x : Following). x.log) fell.replay

pub returns-in-Err-clause-playing : goal.returns-in-Err-clause-playing
returns-in-Err-clause-playing g c =
    let r = c.args.replayer.now in
    let s = c.args.sphere.now in
    let p = progress_in s.past in
    let v = dma_verdict r.log p s.past.state.used in
    let agrees : Agrees s.past.state p = record { commits = c.requires.playing.counted; last = refl; request = refl } in
    let new = c.serve_dma.new.self in
    let left = c.serve_dma.new.state in
    let why = c.in-Err.field-0 in
    let said = rw c.in-Err.is at (c.in_ok-words.ensures.judged p agrees) in
    let fell = dma-failed r s.past.state p new left v why said in
    let n : Sphere = record s { past = record s.past { commits = c.reserve.new.self; state = left } } in
    failed-playing r new s n left why fell c.serve_dma.ensures.at
    (record { first = refl; commits = c.in_ok-reserve.ensures.same.all; state = refl; capacity = refl }) c.requires.playing

pub returns-in-Err-clause-came : goal.returns-in-Err-clause-came
returns-in-Err-clause-came g c =
    let r = c.args.replayer.now in
    let s = c.args.sphere.now in
    let p = progress_in s.past in
    let v = dma_verdict r.log p s.past.state.used in
    let agrees : Agrees s.past.state p = record { commits = c.requires.playing.counted; last = refl; request = refl } in
    let new = c.serve_dma.new.self in
    let left = c.serve_dma.new.state in
    let why = c.in-Err.field-0 in
    let said = rw c.in-Err.is at (c.in_ok-words.ensures.judged p agrees) in
    let fell = dma-failed r s.past.state p new left v why said in
    let n : Sphere = record s { past = record s.past { commits = c.reserve.new.self; state = left } } in
    not-transferred-come r new s n left v why (dma-fails r s.past.state p new left v why said) fell
    (record { first = refl; commits = c.in_ok-reserve.ensures.same.all; state = refl; capacity = refl }) refl c.requires.playing
