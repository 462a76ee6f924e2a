use Rattle.spec_program.specs.Files.{log_at}
use Rattle.dl_gather.proofs.Unread.{no_log, unread_file}
use Rattle.dl_gather.proofs.reading.read_log.Goals as goal

pub returns-in-Err-clause-halt : goal.returns-in-Err-clause-halt
returns-in-Err-clause-halt g c =
    let name = c.args.name.now in
    unread_file name (λ m. log_at m name) _ _ c.in-Err.error c.unread.result (λ m. no_log m name) c.in-Err.ensures.err c.unread.ensures
