-- What a reader answers that is fed all bytes at once.
use Rattle.std.proofs.Common.{◌≡◌, ◌==◌, Bool, true, false, Result, Ok, Err, if◌then◌else◌}
use Rattle.spec_log.specs.declared.log.LogParts.{LogParts}
use Rattle.spec_log.specs.declared.fault.Fault.{Fault}
use Rattle.dl_logfmt.specs.Answer.{IsReading}
use Rattle.dl_logfmt.specs.Feeding.{IsFeeding, fed}
use Rattle.dl_logfmt.specs.declared.error.LogError.{LogError}
use Rattle.dl_logfmt.specs.declared.error.LogError.TheVariants.{Malformed, OutOfMemory}

same-fault : (short : Bool) (fault other : Fault) → ◌≡◌ {A = Result (Unit {0}) Fault} (if short then Ok tt else Err fault) (Err other)
    → ◌≡◌ {A = Result LogParts Fault} (Err fault) (Err other)
same-fault true fault other e = absurd cc
same-fault false fault other e = cc

fed-fault : (reading : Result LogParts Fault) (fault : Fault) → fed reading ≡ Err fault → reading ≡ Err fault
fed-fault (Ok log) fault e = absurd cc
fed-fault (Err other) fault e = same-fault (other.number == 1) other fault e

-- where feeding fails, the bytes are read so
pub unfed : (reading : Result LogParts Fault) (error : LogError) → IsFeeding (fed reading) (Err error) → IsReading reading (Err error)
unfed reading (Malformed fault) h = fed-fault reading fault h
unfed reading OutOfMemory h = tt
