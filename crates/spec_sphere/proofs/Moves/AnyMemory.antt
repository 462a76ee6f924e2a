-- A granted chunk and a DMA look at no memory: over another memory they move a sphere in the same way.
use Rattle.std.proofs.Common.{◌≡◌, ℕ, Bool, true, false, List, Option, Some, None, refl, ap}
use Rattle.std.specs.Prelude.{option_map}
use Rattle.dl_entry.specs.declared.Request.{Request}
use Rattle.spec_isa.specs.Runs.{Run}
use Rattle.spec_kernel.specs.Devices.{Devices}
use Rattle.spec_play.specs.Verdicts.{LogVerdict, Goes, Fails, chunk_verdict}
use Rattle.spec_play.specs.Transfers.{DmaVerdict, DmaGoes, DmaFails, dma_verdict}
use Rattle.spec_sphere.specs.sphere.Spheres.{Recording, Cursor, Role, Plain, Record, Replay, Sphere}
use Rattle.spec_sphere.specs.sphere.Commits.{MovedSphere, by_verdict, joined, replayed_chunk, chunk_in, chunk_moved, dma_by_verdict, live_dma, dma_log, dma_in, dma_moved}

-- the sphere over another memory
abbrev pub over : List ℕ → Sphere → Sphere
over m p = record p { memory = m }

-- the move with its sphere over another memory
abbrev pub relaid : List ℕ → MovedSphere → MovedSphere
relaid m v = record v { sphere = over m v.sphere }

verdict_relaid : (b : Cursor) (k : ℕ) (verdict : LogVerdict) (devices : Devices) (p : Sphere) (m : List ℕ) → by_verdict b k verdict devices (over m p) ≡ relaid m (by_verdict b k verdict devices p)
verdict_relaid b k (Goes e u) devices p m = refl
verdict_relaid b k (Fails why) devices p m = refl

replayed_relaid : (b : Cursor) (k : ℕ) (piece : Bool) (r : Run) (devices : Devices) (p : Sphere) (m : List ℕ) → replayed_chunk piece b k r devices (over m p) ≡ relaid m (replayed_chunk piece b k r devices p)
replayed_relaid b k true r devices p m = refl
replayed_relaid b k false r devices p m = verdict_relaid b k (chunk_verdict b.log p.progress b.used k (joined b r)) devices p m

chunk_in_relaid : (role : Role) (k : ℕ) (piece short : Bool) (r : Run) (devices : Devices) (p : Sphere) (m : List ℕ) → chunk_in role k piece short r devices (over m p) ≡ relaid m (chunk_in role k piece short r devices p)
chunk_in_relaid Plain k piece short r devices p m = refl
chunk_in_relaid (Record recording) k piece short r devices p m = refl
chunk_in_relaid (Replay b) k piece short r devices p m = replayed_relaid b k piece r devices p m

-- a granted chunk moves the sphere over another memory in the same way
pub chunk-relaid : (k : ℕ) (piece short : Bool) (r : Run) (devices : Devices) (p : Sphere) (m : List ℕ) → chunk_moved k piece short r devices (over m p) ≡ relaid m (chunk_moved k piece short r devices p)
unfolding chunk_moved
chunk-relaid k piece short r devices p m = chunk_in_relaid p.role k piece short r devices p m

live_relaid : (role : Role) (devices : Devices) (p : Sphere) (o : Option Request) (m : List ℕ) → live_dma role devices (over m p) o ≡ option_map (relaid m) (live_dma role devices p o)
live_relaid role devices p None m = refl
live_relaid role devices p (Some request) m = refl

dma_verdict_relaid : (b : Cursor) (verdict : DmaVerdict) (devices : Devices) (p : Sphere) (m : List ℕ) → dma_by_verdict b verdict devices (over m p) ≡ relaid m (dma_by_verdict b verdict devices p)
dma_verdict_relaid b (DmaGoes words) devices p m = refl
dma_verdict_relaid b (DmaFails why) devices p m = refl

recorded_relaid : (recording : Recording) (devices : Devices) (p : Sphere) (o : Option Request) (m : List ℕ)
    → live_dma (Record (record recording { log = dma_log recording.log devices (over m p) o })) devices (over m p) o ≡ option_map (relaid m) (live_dma (Record (record recording { log = dma_log recording.log devices p o })) devices p o)
recorded_relaid recording devices p None m = refl
recorded_relaid recording devices p (Some request) m = refl

dma_log_relaid : (role : Role) (devices : Devices) (p : Sphere) (m : List ℕ) → dma_in role devices (over m p) ≡ option_map (relaid m) (dma_in role devices p)
dma_log_relaid Plain devices p m = live_relaid Plain devices p p.progress.request m
dma_log_relaid (Record recording) devices p m = recorded_relaid recording devices p p.progress.request m
dma_log_relaid (Replay b) devices p m = ap Some (dma_verdict_relaid b (dma_verdict b.log p.progress b.used) devices p m)

-- a DMA moves the sphere over another memory in the same way
pub dma-relaid : (devices : Devices) (p : Sphere) (m : List ℕ) → dma_moved devices (over m p) ≡ option_map (relaid m) (dma_moved devices p)
unfolding dma_moved
dma-relaid devices p m = dma_log_relaid p.role devices p m
