use Rattle.std.proofs.Common.{◌≡◌, ℕ, List, [], ◌++◌, take, subst, arith}
use Rattle.dl_files.specs.Contents.{with_file}
use Rattle.dl_files.specs.Seen.{IsWritten}
use Rattle.dl_logio.specs.Files.{LogStops}
use Rattle.spec_log.specs.Bytes.{log_bytes}
use Rattle.dl_logio.proofs.Appending.{all_given, err_carried, pieces_join, stops_after, stops_first, written_more}
use Rattle.dl_logio.proofs.writing.write_log_file.Goals as goal

pub loop-writer-init : goal.loop-writer-init
loop-writer-init g c = record { done = ([], c.new-writer.ensures, c.in_ok-create.ensures.created) }

pub returns-in_err-create-clause-err : goal.returns-in_err-create-clause-err
returns-in_err-create-clause-err g c =
    err_carried c.from_residual.result c.in_err-create.field-0.0 (LogStops c.args.name.now (log_bytes c.args.log.now) (g.F.Files.seen c.args.files.now) (g.F.Files.seen c.create.new.self)) c.from_residual.ensures.1
    (stops_first _ _ c.args.name.now _ _ c.in_err-create.ensures.err)

pub returns-then-n-eq0-clause-written : goal.returns-then-n-eq0-clause-written
returns-then-n-eq0-clause-written g c =
    let done = c.loop-writer.invariant.done in
    let old = g.F.Files.seen c.args.files.now in
    let all : done.0 ≡ log_bytes c.args.log.now = all_given c.next-n.result done.0 c.loop-writer.writer c.loop-writer.piece _ c.next-n.ensures.count c.if-n-eq0.true (omega arith) done.1 in
    subst (λ (b : List ℕ). IsWritten (with_file c.args.name.now b old.known) old (g.F.Files.seen c.loop-writer.files)) all done.2

pub loop-writer-preserved : goal.loop-writer-preserved
loop-writer-preserved g c =
    let done = c.loop-writer.invariant.done in
    let name = c.args.name.now in
    let piece = take c.next-n.result c.next-n.new.into in
    record {
      done = (
        done.0 ++ piece,
        pieces_join c.next-n.result done.0 c.loop-writer.writer c.loop-writer.piece c.next-n.new.into c.next-n.new.self _ c.next-n.ensures.count c.next-n.ensures.bytes c.next-n.ensures.left done.1,
        written_more _ _ _ name done.0 piece done.2 c.in_ok-append.ensures.appended,
      );
    }

pub returns-in_err-append-clause-err : goal.returns-in_err-append-clause-err
returns-in_err-append-clause-err g c =
    let done = c.loop-writer.invariant.done in
    err_carried c.from_residual-in_err-append.result c.in_err-append.field-0.0 (LogStops c.args.name.now (log_bytes c.args.log.now) (g.F.Files.seen c.args.files.now) (g.F.Files.seen c.append.new.self)) c.from_residual-in_err-append.ensures.1
    (stops_after _ _ _ c.args.name.now done.0 c.loop-writer.writer _ _ done.1 done.2 c.in_err-append.ensures.err)
