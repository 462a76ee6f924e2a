use Rattle.dl_logfmt.proofs.LogLaws.{written_again, read_again}
use Rattle.dl_logfmt.proofs.law.reading_undoes_writing.Goals as goal

pub returns : goal.returns
returns c = record { read = read_again; written = written_again }
