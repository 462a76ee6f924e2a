use Rattle.spec_program.specs.Files.{read_at}
use Rattle.dl_gather.proofs.Unread.{no_bytes, unread_file}
use Rattle.dl_gather.proofs.reading.read_file.Goals as goal

pub returns-in-Err-clause-halt : goal.returns-in-Err-clause-halt
returns-in-Err-clause-halt g c =
    let name = c.args.name.now in
    unread_file name (λ m. read_at m name) _ _ c.in-Err.error c.unread.result (λ m. no_bytes m name) c.in-Err.ensures.err c.unread.ensures
