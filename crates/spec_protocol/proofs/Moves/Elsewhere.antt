-- What is done in one sphere leaves every other as it was.
use Rattle.std.proofs.Common.{◌≡◌, ◌≢◌, ℕ, Option, Some, None, refl}
use Rattle.std.specs.Prelude.{slice_get}
use Rattle.spec_isa.specs.declared.thread.Parts.{Parts}
use Rattle.spec_engine.specs.declared.answers.How.{How}
use Rattle.spec_sphere.specs.sphere.Spheres.{Sphere}
use Rattle.spec_sphere.specs.sphere.Commits.{MovedSphere, dma_moved}
use Rattle.spec_protocol.specs.machine.World.{Numbers, MoveKind, OfChunk, OfSerial, OfDma, OfRaise, Move}
use Rattle.spec_protocol.specs.machine.Serial.{SerialState, do_serial, do_dma, do_raise}
use Rattle.spec_protocol.specs.machine.Moves.{move_chunk, do_by_kind, do_at}
use Rattle.spec_strata.proofs.Shares.Steps.{get-set_other}

chunk_away : (z : Numbers) (x : SerialState) (i j k : ℕ) (how : How) (n limit : ℕ) (p : Sphere) (o : Option Parts) → j ≢ i → slice_get (move_chunk z x i k how n limit p o).spheres j ≡ slice_get x.spheres j
chunk_away z x i j k how n limit p None ne = refl
chunk_away z x i j k how n limit p (Some t) ne = get-set_other x.spheres i j _ ne

-- a serial step in sphere i leaves every other sphere
pub serial-away : (x : SerialState) (i j k moment : ℕ) (p : Sphere) (o : Option Parts) → j ≢ i → slice_get (do_serial x i k moment p o).spheres j ≡ slice_get x.spheres j
serial-away x i j k moment p None ne = refl
serial-away x i j k moment p (Some t) ne = get-set_other x.spheres i j _ ne

-- a DMA in sphere i leaves every other sphere
pub dma-away : (x : SerialState) (i j : ℕ) (o : Option MovedSphere) → j ≢ i → slice_get (do_dma x i o).spheres j ≡ slice_get x.spheres j
dma-away x i j None ne = refl
dma-away x i j (Some v) ne = get-set_other x.spheres i j _ ne

-- an interrupt in sphere i leaves every other sphere
pub raise-away : (x : SerialState) (i j k value : ℕ) (p : Sphere) (o : Option Parts) → j ≢ i → slice_get (do_raise x i k value p o).spheres j ≡ slice_get x.spheres j
raise-away x i j k value p None ne = refl
raise-away x i j k value p (Some t) ne = get-set_other x.spheres i j _ ne

what_away : (z : Numbers) (x : SerialState) (moment i j : ℕ) (p : Sphere) (what : MoveKind) → j ≢ i → slice_get (do_by_kind z x moment i p what).spheres j ≡ slice_get x.spheres j
what_away z x moment i j p (OfChunk k how n limit) ne = chunk_away z x i j k how n limit p (slice_get p.threads k) ne
what_away z x moment i j p (OfSerial k) ne = serial-away x i j k moment p (slice_get p.threads k) ne
what_away z x moment i j p OfDma ne = dma-away x i j (dma_moved x.devices p) ne
what_away z x moment i j p (OfRaise k value) ne = raise-away x i j k value p (slice_get p.threads k) ne

-- a move leaves every sphere but its own
pub at-away : (z : Numbers) (x : SerialState) (m : Move) (j : ℕ) (o : Option Sphere) → j ≢ m.sphere → slice_get (do_at z x m o).spheres j ≡ slice_get x.spheres j
at-away z x m j None ne = refl
at-away z x m j (Some p) ne = what_away z x m.moment m.sphere j p m.what ne
