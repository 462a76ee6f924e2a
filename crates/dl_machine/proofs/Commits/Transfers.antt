-- A DMA answers what it comes to. Without a request only a replay has one.
use Rattle.std.proofs.Common.{◌≡◌, ℕ, false, Option, Some, None, List, refl, sym, ap, ◌∙◌, subst}
use Rattle.dl_entry.specs.declared.Request.{Request}
use Rattle.spec_isa.specs.Words.{Stored}
use Rattle.spec_kernel.specs.Devices.{Devices}
use Rattle.spec_engine.specs.Flights.{AreOfSize}
use Rattle.spec_engine.specs.Signatures.{Signature, nothing, signed}
use Rattle.spec_sphere.specs.sphere.Spheres.{Role, Plain, Record, Replay, Sphere, replays}
use Rattle.spec_sphere.specs.sphere.Commits.{CommitOutcome, MovedSphere, live_dma, dma_in, dma_moved}
use Rattle.spec_protocol.specs.machine.World.{World}
use Rattle.spec_protocol.proofs.Memory.Covering.{bits-signed}
use Rattle.dl_machine.specs.Ready.{IsReady}
use Rattle.dl_machine.specs.Transfers.{ComesTo}
use Rattle.dl_machine.proofs.Worlds.Ready.{slots_size}

none_live : (role : Role) (d : Devices) (p : Sphere) (o : Option Request) → o ≡ None → live_dma role d p o ≡ None
none_live role d p None e = refl
none_live role d p (Some r) e = cc

none_in : (role : Role) (d : Devices) (p : Sphere) → replays role ≡ false → p.progress.request ≡ None → dma_in role d p ≡ None
none_in Plain d p e none = none_live Plain d p p.progress.request none
none_in (Record recording) d p e none = none_live _ d p p.progress.request none
none_in (Replay b) d p e none = cc

-- without a request there is no DMA, but in a replay
pub no_dma : (d : Devices) (p : Sphere) → replays p.role ≡ false → p.progress.request ≡ None → dma_moved d p ≡ None
unfolding dma_moved
no_dma d p e none = none_in p.role d p e none

-- a DMA that comes to an outcome has it as its answer
pub comes_to : (o : CommitOutcome) (m : Option MovedSphere) (v : MovedSphere) → ComesTo o m → m ≡ Some v → v.outcome ≡ o
comes_to o None v c e = absurd c
comes_to o (Some u) v c e = let same : u ≡ v = cc in ap (λ (x : MovedSphere). x.outcome) (sym same) ∙ c

-- a signature of words has the size of those of the flights
pub marks_fit : (w : World) (i : ℕ) (words : List Stored) (marks empty : Signature) → IsReady w → marks ≡ signed i words empty → empty ≡ nothing w.numbers.bits → AreOfSize marks.bits w.slots
marks_fit w i words marks empty ready em ee =
    subst (λ (n : ℕ). AreOfSize n w.slots) (sym (ap (λ (g : Signature). g.bits) em ∙ bits-signed i words empty ∙ ap (λ (g : Signature). g.bits) ee)) (slots_size w ready)
