-- The bytes of the log that a sphere has.
use Rattle.std.specs.Prelude.{ℕ, Bool, true, false, List, []}
use Rattle.spec_log.specs.Bytes.{log_bytes}
use Rattle.spec_tail.specs.Bytes.{tail_bytes}
use Rattle.dl_run.specs.declared.texts.SphereLog.{SphereLog}

-- none if there is no log
abbrev pub bytes_of : SphereLog → List ℕ
bytes_of SphereLog.None = []
bytes_of (SphereLog.Whole log) = log_bytes log
bytes_of (SphereLog.Tail tail) = tail_bytes tail

abbrev pub is_whole : SphereLog → Bool
is_whole SphereLog.None = false
is_whole (SphereLog.Whole log) = true
is_whole (SphereLog.Tail tail) = false
