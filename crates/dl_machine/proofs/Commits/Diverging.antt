-- A divergence leaves the devices as they are, and no serial step or DMA is a piece of a commit.
use Rattle.std.proofs.Common.{◌≡◌, ℕ, Option, Some, None, refl}
use Rattle.dl_entry.specs.declared.Request.{Request}
use Rattle.spec_isa.specs.declared.thread.Parts.{Parts}
use Rattle.spec_kernel.specs.Devices.{Devices}
use Rattle.spec_play.specs.Verdicts.{LogVerdict, Goes, Fails, serial_verdict}
use Rattle.spec_play.specs.Transfers.{DmaVerdict, DmaGoes, DmaFails, dma_verdict}
use Rattle.spec_sphere.specs.sphere.Spheres.{Cursor, Role, Plain, Record, Replay, Sphere}
use Rattle.spec_sphere.specs.sphere.Commits.{CommitOutcome, Granted, Piece, Diverged, MovedSphere, by_verdict, serial_in, serial_moved, dma_by_verdict, live_dma, dma_in, dma_moved}

-- a move that diverges leaves the devices as they were, and none is a piece
abbrev pub IsApart : Devices → MovedSphere → CommitOutcome → Type 0
IsApart d v Granted = Unit {0}
IsApart d v Piece = ⊥
IsApart d v (Diverged i why) = v.devices ≡ d

verdict_apart : (b : Cursor) (k : ℕ) (x : LogVerdict) (d : Devices) (p : Sphere) → let v = by_verdict b k x d p in IsApart d v v.outcome
verdict_apart b k (Fails why) d p = refl
verdict_apart b k (Goes e u) d p = tt

serial_in_apart : (role : Role) (k moment : ℕ) (t : Parts) (d : Devices) (p : Sphere) → let v = serial_in role k moment t d p in IsApart d v v.outcome
serial_in_apart Plain k moment t d p = tt
serial_in_apart (Record recording) k moment t d p = tt
serial_in_apart (Replay b) k moment t d p = verdict_apart b k (serial_verdict b.log p.progress b.used k p.threads t p.memory) d p

-- a serial step that diverges leaves the devices as they are
pub serial_apart : (k moment : ℕ) (t : Parts) (d : Devices) (p : Sphere) → let v = serial_moved k moment t d p in IsApart d v v.outcome
unfolding serial_moved
serial_apart k moment t d p = serial_in_apart p.role k moment t d p

-- a move, if there is one, leaves the devices as they were where it diverges
abbrev pub AreApart : Devices → Option MovedSphere → Type 0
AreApart d None = Unit {0}
AreApart d (Some v) = IsApart d v v.outcome

live_apart : (role : Role) (d : Devices) (p : Sphere) (o : Option Request) → AreApart d (live_dma role d p o)
live_apart role d p None = tt
live_apart role d p (Some request) = tt

dma_verdict_apart : (b : Cursor) (x : DmaVerdict) (d : Devices) (p : Sphere) → let v = dma_by_verdict b x d p in IsApart d v v.outcome
dma_verdict_apart b (DmaFails why) d p = refl
dma_verdict_apart b (DmaGoes words) d p = tt

dma_in_apart : (role : Role) (d : Devices) (p : Sphere) → AreApart d (dma_in role d p)
dma_in_apart Plain d p = live_apart Plain d p p.progress.request
dma_in_apart (Record recording) d p = live_apart _ d p p.progress.request
dma_in_apart (Replay b) d p = dma_verdict_apart b (dma_verdict b.log p.progress b.used) d p

-- a DMA that diverges leaves the devices as they are
pub dma_apart : (d : Devices) (p : Sphere) → AreApart d (dma_moved d p)
unfolding dma_moved
dma_apart d p = dma_in_apart p.role d p
