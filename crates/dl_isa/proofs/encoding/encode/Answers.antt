-- The word that spells an instruction is read back as that instruction.
use Rattle.spec_isa.proofs.RoundTrip.{denotes_denoted}
use Rattle.dl_isa.proofs.encoding.encode.Goals as goal

pub returns-clause-back : goal.returns-clause-back
returns-clause-back c = denotes_denoted c.spelled.ensures
