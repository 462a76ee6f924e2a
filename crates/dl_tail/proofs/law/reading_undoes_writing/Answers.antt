use Rattle.dl_tail.proofs.TailLaws.{read_again, tail-good, written_again}
use Rattle.dl_tail.proofs.law.reading_undoes_writing.Goals as goal

pub returns : goal.returns
returns c = record { read = read_again; written = written_again; good = tail-good }
