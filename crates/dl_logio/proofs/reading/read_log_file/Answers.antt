use Rattle.std.proofs.Common.{◌≡◌, ℕ, [], ◌++◌, length, take, Err, sym, refl, ap, ◌∙◌, subst, arith, rules}
use Rattle.std.proofs.lemmas.List.{length-append, length-take-le}
use Rattle.std.proofs.lemmas.Result.{IfOk-weaker}
use Rattle.dl_files.specs.Contents.{HoldsAt}
use Rattle.dl_files.specs.Seen.{Seen}
use Rattle.dl_logio.specs.Files.{SaysLog, read_view}
use Rattle.dl_logfmt.specs.Feeding.{IsFeeding, fed as said_of}
use Rattle.dl_logfmt.proofs.Feeding.Faults.{faults_last}
use Rattle.spec_log.specs.declared.fault.Fault.{Fault}
use Rattle.spec_log.specs.Reading.{read_of}
use Rattle.dl_logio.proofs.Pieces.{held_by, none_read, more_read, all_read, fault_read, malformed_is_none, ok_is_none}
use Rattle.dl_logio.proofs.reading.read_log_file.Goals as goal

pub loop-reader-init : goal.loop-reader-init
loop-reader-init g c = record {
  fed = ([], c.new-reader.ensures, refl, omega arith, none_read _ _);
  seen = refl;
  room = search rules;
  pieces = omega arith;
}

pub returns-then-n-eq0-clause-read : goal.returns-then-n-eq0-clause-read
returns-then-n-eq0-clause-read g c =
    let fed = c.loop-reader.invariant.fed in
    let known = (g.F.Files.seen c.args.files.now).known in
    let name = c.args.name.now in
    let offset = c.loop-reader.offset in
    let into = c.read_at.new.into in
    let held = held_by known _ name offset _ (take c.in_ok-n.n into) (ap (λ (s : Seen). s.known) c.loop-reader.invariant.seen) c.in_ok-n.ensures.bytes in
    let none = subst (λ (n : ℕ). HoldsAt known name offset (length c.loop-reader.piece) (take n into)) c.if-n-eq0.true held in
    IfOk-weaker c.end_of.result _ (λ r. SaysLog known name (read_view r))
    (λ r e. all_read known name fed.0 offset (length c.loop-reader.piece) (read_view r) (omega arith) fed.2 fed.4 none (e fed.0 fed.1))
    c.end_of.ensures.read

pub returns-in-Err-Malformed-clause-read : goal.returns-in-Err-Malformed-clause-read
returns-in-Err-Malformed-clause-read g c =
    let fed = c.loop-reader.invariant.fed in
    let known = (g.F.Files.seen c.args.files.now).known in
    let name = c.args.name.now in
    let offset = c.loop-reader.offset in
    let piece = take c.in_ok-n.n c.read_at.new.into in
    let held = held_by known _ name offset _ piece (ap (λ (s : Seen). s.known) c.loop-reader.invariant.seen) c.in_ok-n.ensures.bytes in
    let bad = c.in-Err-Malformed in
    let whole = fed.0 ++ piece in
    let fault : Fault = bad.fault in
    let said = subst (λ e. IsFeeding (said_of (read_of whole)) (Err e)) bad.field-0-is (bad.ensures.answer fed.0 fed.1) in
    let still = bad.ensures.fed fed.0 fed.1 (λ o. malformed_is_none bad.field-0 fault bad.field-0-is o) in
    subst (λ (f : Fault). SaysLog known name (Err f)) (sym bad.fault-is)
    (fault_read known name fed.0 offset (length c.loop-reader.piece) piece fault fed.2 fed.4 held (λ rest. faults_last whole rest c.feed.new.self fault still said))

pub loop-reader-preserved : goal.loop-reader-preserved
loop-reader-preserved g c =
    let fed = c.loop-reader.invariant.fed in
    let known = (g.F.Files.seen c.args.files.now).known in
    let name = c.args.name.now in
    let offset = c.loop-reader.offset in
    let piece = take c.in_ok-n.n c.read_at.new.into in
    let held = held_by known _ name offset _ piece (ap (λ (s : Seen). s.known) c.loop-reader.invariant.seen) c.in_ok-n.ensures.bytes in
    let long : length piece ≡ c.in_ok-n.n = length-take-le c.in_ok-n.n c.read_at.new.into (omega (arith, c.in_ok-n.ensures.most)) in
    record {
      fed = (
        fed.0 ++ piece,
        c.in-Ok.ensures.fed fed.0 fed.1 (λ o. ok_is_none o),
        omega (arith, length-append fed.0 piece, long, fed.2),
        c.in-Ok.ensures.few fed.0 fed.1,
        more_read known name fed.0 offset (length c.loop-reader.piece) piece fed.2 fed.4 held,
      );
      seen = c.in_ok-n.ensures.ok ∙ c.loop-reader.invariant.seen;
      room = omega (arith, c.loop-reader.invariant.room);
      pieces = omega (arith, c.read_at.ensures.asked, c.loop-reader.invariant.room, c.loop-reader.invariant.pieces);
    }

pub overflow_add-offset : goal.overflow_add-offset
overflow_add-offset g c =
    let fed = c.loop-reader.invariant.fed in
    let piece = take c.in_ok-n.n c.read_at.new.into in
    let long : length piece ≡ c.in_ok-n.n = length-take-le c.in_ok-n.n c.read_at.new.into (omega (arith, c.in_ok-n.ensures.most)) in
    let few = c.in-Ok.ensures.few fed.0 fed.1 in
    omega (arith, few, length-append fed.0 piece, long, fed.2)
