use Rattle.spec_engine.proofs.Searches.{told-zero, told-tell, told-tell_other, all_told-at, all_told-from}
use Rattle.spec_engine.proofs.laws.cores_are_told.Goals as goal

pub returns : goal.returns
returns c = record { none = told-zero; same = told-tell; other = told-tell_other; each = all_told-at; all = all_told-from }
