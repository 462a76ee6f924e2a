use Rattle.std.proofs.Common.{Err, subst}
use Rattle.dl_logfmt.specs.Answer.{IsReading}
use Rattle.spec_log.specs.Reading.{read_of}
use Rattle.dl_logio.proofs.reading.end_of.Goals as goal

pub returns-in-Err-Malformed-clause-read : goal.returns-in-Err-Malformed-clause-read
returns-in-Err-Malformed-clause-read c bytes fed =
    let bad = c.in-Err-Malformed in
    subst (λ e. IsReading (read_of bytes) (Err e)) bad.field-0-is (bad.ensures.log bytes fed)
