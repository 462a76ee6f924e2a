-- What a role says of its sphere: how its replay ended, how much of a commit has gone in pieces, and the log so far.
use Rattle.std.specs.Prelude.{ℕ, Bool, false, Option, Some, None}
use Rattle.dl_entry.specs.declared.Actor.{Actor}
use Rattle.dl_entry.specs.declared.End.{End}
use Rattle.dl_entry.specs.declared.Request.{Request}
use Rattle.spec_log.specs.declared.LogParts.{LogParts}
use Rattle.spec_sphere.specs.sphere.Spheres.{Role, Plain, Record, Replay, joins_in}
use Rattle.spec_play.specs.Transfers.{DmaGoes}
use Rattle.spec_sphere.specs.sphere.Commits.{MovedSphere}
use Rattle.dl_replay.specs.Following.{end_of}
use Rattle.dl_replay.specs.Left.{Stores}
use Rattle.dl_sphere.specs.declared.moved.DmaSize.{DmaSize}

-- how a replay ended, if it did
abbrev pub end_in : Role → Option End
end_in Plain = None
end_in (Record recording) = None
end_in (Replay b) = end_of b.now

-- whether an actor may commit although it isn't its turn
abbrev pub joins : Role → Actor → Bool
joins Plain actor = false
joins (Record recording) actor = false
joins (Replay b) (Actor.Thread k) = joins_in b.strata k b.total
joins (Replay b) Actor.Dma = false

-- the instructions of the pieces of a replay's present commit
abbrev pub pieces_in : Role → ℕ
pieces_in Plain = 0
pieces_in (Record recording) = 0
pieces_in (Replay b) = b.total

-- the log of a recording so far
abbrev pub log_in : Role → Option LogParts
log_in Plain = None
log_in (Record recording) = Some recording.log
log_in (Replay b) = None

-- a size is the number of the bytes that a DMA stores after it
abbrev pub SaysBytes : DmaSize → Option Request → Option MovedSphere → Type 0
SaysBytes (DmaSize.Bytes n) request None = ⊥
SaysBytes (DmaSize.Bytes n) request (Some v) = Stores n request (DmaGoes v.words)
SaysBytes (DmaSize.Diverged why) request v = Unit {0}
