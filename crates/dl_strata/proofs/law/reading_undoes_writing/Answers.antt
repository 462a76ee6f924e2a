use Rattle.dl_strata.proofs.StrataLaws.{written_again, read_again}
use Rattle.dl_strata.proofs.law.reading_undoes_writing.Goals as goal

pub returns : goal.returns
returns c = record { read = read_again; written = written_again }
