use Rattle.std.proofs.Common.{◌≡◌, ℕ, ◌+◌, ◌-◌, List, [], ◌++◌, length, take, drop, ◌∙◌, ap, sym, subst, arith, append-nil}
use Rattle.std.proofs.lemmas.List.{length-take-le}
use Rattle.std.proofs.lemmas.Result.{IfOk-weaker, IfErr-weaker}
use Rattle.dl_event.specs.Reading.{IsReadTo}
use Rattle.dl_event.specs.Script.{script_of}
use Rattle.dl_files.specs.Contents.{Begins, HoldsAt}
use Rattle.dl_files.specs.Seen.{Seen}
use Rattle.dl_scriptio.specs.Files.{SaysScript, read_view}
use Rattle.dl_scriptio.proofs.Pieces.{held_by, held_split, no_rest, read_as, read_on, says, says_held}
use Rattle.dl_scriptio.proofs.reading.read_script_file.Goals as goal

pub returns-in-Whole-clause-read : goal.returns-in-Whole-clause-read
returns-in-Whole-clause-read g c =
    let known = (g.F.Files.seen c.args.files.now).known in
    let name = c.args.name.now in
    let held = subst (Begins known name _ c.begin.new.into) c.in-Whole.is c.in_ok-beginning.ensures.begins in
    IfOk-weaker c.script_in.result _ (λ r. SaysScript known name (read_view r))
    (λ r e. says_held known name c.in-Whole.bytes.items (read_view r) held (ap script_of (sym c.deref.ensures.value) ∙ e))
    c.script_in.ensures.read

pub returns-in-Err-clause-read : goal.returns-in-Err-clause-read
returns-in-Err-clause-read g c =
    let known = (g.F.Files.seen c.args.files.now).known in
    let name = c.args.name.now in
    let offset = c.loop-offset.offset in
    let room = length c.loop-offset.piece in
    let piece = take c.loop-offset.n c.loop-offset.piece in
    let held = c.loop-offset.invariant.held in
    IfOk-weaker c.said.result _ (λ r. SaysScript known name (read_view r))
    (λ r e. says known name offset room piece (read_view r) held (λ m is content there.
    let split = held_split known m name content offset room piece held is there in
    let to = subst (λ text. IsReadTo content text c.loop-offset.reader) split (c.loop-offset.invariant.read m is content there) in
    e (script_of content) (c.in-Err.ensures.refused content (drop room (drop offset content)) to)))
    c.said.ensures.read

pub returns-then-n-lt-PIECE-clause-read : goal.returns-then-n-lt-PIECE-clause-read
returns-then-n-lt-PIECE-clause-read g c =
    let known = (g.F.Files.seen c.args.files.now).known in
    let name = c.args.name.now in
    let offset = c.loop-offset.offset in
    let room = length c.loop-offset.piece in
    let piece = take c.loop-offset.n c.loop-offset.piece in
    let last = c.in-Ok.read.1.now in
    let held = c.loop-offset.invariant.held in
    let long : length piece ≡ c.loop-offset.n = length-take-le c.loop-offset.n c.loop-offset.piece c.loop-offset.invariant.most in
    IfOk-weaker c.said-then-n-lt-PIECE.result _ (λ r. SaysScript known name (read_view r))
    (λ r e. says known name offset room piece (read_view r) held (λ m is content there.
    let split = held_split known m name content offset room piece held is there in
    let rest = drop room (drop offset content) in
    let to = subst (λ text. IsReadTo content text c.loop-offset.reader) split (c.loop-offset.invariant.read m is content there) in
    let none : rest ≡ [] = no_rest room (drop offset content) piece split (omega (arith, long)) in
    let end = subst (λ text. IsReadTo content text c.in-Ok.read.0) (ap (λ (xs : List ℕ). last ++ xs) none ∙ append-nil last) (c.in-Ok.ensures.read content rest to) in
    e (script_of content) (read_as (script_of content) c.read_last.result
    (IfOk-weaker c.read_last.result _ _ (λ events h. h content end) c.read_last.ensures.read)
    (IfErr-weaker c.read_last.result _ _ (λ error h. h content end) c.read_last.ensures.refused))))
    c.said-then-n-lt-PIECE.ensures.read

pub loop-offset-preserved : goal.loop-offset-preserved
loop-offset-preserved g c =
    let known = (g.F.Files.seen c.args.files.now).known in
    let name = c.args.name.now in
    let offset = c.loop-offset.offset in
    let room = length c.loop-offset.piece in
    let piece = take c.loop-offset.n c.loop-offset.piece in
    let last = c.in-Ok.read.1.now in
    let held = c.loop-offset.invariant.held in
    let long : length piece ≡ c.loop-offset.n = length-take-le c.loop-offset.n c.loop-offset.piece c.loop-offset.invariant.most in
    let same_room : room ≡ length c.read_at.new.into = omega arith in
    record {
      read = λ m is content there.
          let split = held_split known m name content offset room piece held is there in
          let rest = drop room (drop offset content) in
          let to = subst (λ text. IsReadTo content text c.loop-offset.reader) split (c.loop-offset.invariant.read m is content there) in
          subst (λ (n : ℕ). IsReadTo content (drop (offset + (n - length last)) content) c.in-Ok.read.0) long
          (read_on content rest piece last c.in-Ok.read.0 offset split c.in-Ok.ensures.behind (c.in-Ok.ensures.read content rest to));
      lines = (
          let h = c.in-Ok.ensures.lines in
          let short = c.in-Ok.ensures.behind.short in
          omega (arith, long, c.loop-offset.invariant.lines)
          );
      held =
          subst (λ (r : ℕ). HoldsAt known name (offset + (c.loop-offset.n - length last)) r (take c.in_ok-n.n c.read_at.new.into)) same_room
          (held_by known _ name _ room _ (ap (λ (s : Seen). s.known) c.loop-offset.invariant.seen) c.in_ok-n.ensures.bytes);
      most = omega (arith, c.in_ok-n.ensures.most);
      seen = c.in_ok-n.ensures.ok ∙ c.loop-offset.invariant.seen;
      room = omega (arith, same_room, c.loop-offset.invariant.room);
      pieces = omega (arith, c.read_at.ensures.asked, c.loop-offset.invariant.room, c.loop-offset.invariant.pieces);
    }
