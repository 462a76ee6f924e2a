-- In a world that is ready, what a core, a slot or a sphere holds is of the sizes that calls ask for.
use Rattle.std.proofs.Common.{◌≡◌, ℕ, ◌<◌, List, length, map, Option, Some, None, refl, sym, ap, ◌∙◌, subst}
use Rattle.std.specs.Prelude.{IfSome, option_map, slice_get}
use Rattle.std.proofs.lemmas.List.{length-map}
use Rattle.spec_isa.specs.declared.thread.Parts.{Parts}
use Rattle.spec_play.specs.Progress.{position}
use Rattle.spec_sphere.specs.sphere.Setups.{SphereSetup}
use Rattle.spec_sphere.specs.sphere.Spheres.{Cursor, Role, Replay, Sphere}
use Rattle.spec_sphere.specs.promises.Alike.{epochs_in, role_without, forgotten}
use Rattle.spec_sphere.specs.promises.Sound.{IsSoundCursor, IsSoundRole, IsSoundSphere, IsSoundThread}
use Rattle.spec_protocol.specs.promises.Sound.{image_at}
use Rattle.spec_protocol.proofs.Alike.Forgetting.{sphere-forgotten}
use Rattle.spec_sphere.proofs.Alike.Sound.{position-without}
use Rattle.std.proofs.lemmas.Option.{none-some, same_Some, slice_get_within}
use Rattle.spec_engine.specs.Flights.{Flight, AreOfSize, IsInside, IsOfSize, at}
use Rattle.spec_isa.specs.Inside.{AreInside}
use Rattle.spec_engine.specs.Chunks.{Chunk}
use Rattle.spec_protocol.specs.machine.Flying.{younger_of}
use Rattle.spec_protocol.specs.machine.World.{Occupant, World, sphere_at}
use Rattle.dl_machine.specs.Cores.{seen, reads_in, writes_in}
use Rattle.dl_machine.specs.declared.one_core.Held.{Held as Seen}
use Rattle.dl_machine.specs.Held.{IsOf, sphere_of}
use Rattle.dl_machine.specs.Ready.{IsReady}

-- what is sound of a sphere, whatever its recording has given up: of a replay its cursor is
pub record IsSoundHere (s : ℕ) (image : SphereSetup) (events : ℕ) (p : Sphere) : Type 0 where
  pub size : length p.memory ≡ length image.memory
  pub threads : (k : ℕ) (t : Parts) → slice_get p.threads k ≡ Some t → IsSoundThread (position p.progress) t
  pub replay : (b : Cursor) → p.role ≡ Replay b → IsSoundCursor (position p.progress) p.threads b

cursor_in : (s n : ℕ) (ts : List Parts) (r : Role) (b : Cursor) → r ≡ Replay b → IsSoundRole s n ts (role_without n r) → IsSoundCursor n ts b
cursor_in s n ts r b is sound = subst (λ (x : Role). IsSoundRole s n ts (role_without n x)) is sound

sound_here : (s : ℕ) (image : SphereSetup) (events : ℕ) (p : Sphere) → IsSoundSphere s image events (forgotten p) → IsSoundHere s image events p
sound_here s image events p h =
    let here = position-without (epochs_in p.role) p.progress in
    record {
      size = h.size;
      threads = λ k t there. subst (λ (n : ℕ). IsSoundThread n t) here (h.threads k t there);
      replay = λ b is. cursor_in s (position p.progress) p.threads p.role b is (subst (λ (n : ℕ). IsSoundRole s n p.threads (role_without (position p.progress) p.role)) here h.role);
    }

-- so it is of each sphere of a world that is ready
pub sphere_sound : (w : World) (i : ℕ) (ready : IsReady w) → i < length w.spheres → IsSoundHere ready.setup.numbers.s (image_at ready.setup i) w.counts.events (sphere_at w i)
sphere_sound w i ready inside =
    let many : length (map forgotten w.spheres) ≡ length w.spheres = length-map w.spheres forgotten in
    let z = ready.setup in
    sound_here z.numbers.s (image_at z i) w.counts.events (sphere_at w i)
    (subst (IsSoundSphere z.numbers.s (image_at z i) w.counts.events) (sphere-forgotten w i) (ready.sound.spheres i (subst (λ (n : ℕ). i < n) (sym many) inside)))

seen_of : (w : World) (c : ℕ) (o : Option Occupant) → IsReady w → at w.cores c ≡ o → IfSome (option_map seen o) (IsOf w)
seen_of w c None ready is = tt
seen_of w c (Some h) ready is = let g = ready.good.held c h is in record { sphere = g.sphere; thread = slice_get_within _ _ _ g.thread.start }

-- what a core holds is of a sphere and a thread that there are
pub held_is_of : (w : World) (c : ℕ) (r : Option Seen) → IsReady w → r ≡ option_map seen (at w.cores c) → IfSome r (IsOf w)
held_is_of w c r ready is = subst (λ (o : Option Seen). IfSome o (IsOf w)) (sym is) (seen_of w c (at w.cores c) ready refl)

reads_size : (w : World) (c : ℕ) (o : Option Occupant) → IsReady w → at w.cores c ≡ o → (reads_in w.numbers.bits o).bits ≡ w.numbers.bits
reads_size w c None ready is = refl
reads_size w c (Some h) ready is = (ready.good.held c h is).chunk.reads_size

writes_size : (w : World) (c : ℕ) (o : Option Occupant) → IsReady w → at w.cores c ≡ o → (writes_in w.numbers.bits o).bits ≡ w.numbers.bits
writes_size w c None ready is = refl
writes_size w c (Some h) ready is = (ready.good.held c h is).chunk.writes_size

slot_size : (w : World) (k : ℕ) (o : Option Flight) → IsReady w → at w.slots k ≡ o → IsOfSize w.numbers.bits o
slot_size w k None ready is = tt
slot_size w k (Some f) ready is = (ready.good.covered k f is).size

-- the signature of a core's reads has the size of those in the slots
pub reads_fit : (w : World) (c k : ℕ) → IsReady w → IsOfSize (reads_in w.numbers.bits (at w.cores c)).bits (at w.slots k)
reads_fit w c k ready = subst (λ (n : ℕ). IsOfSize n (at w.slots k)) (sym (reads_size w c (at w.cores c) ready refl)) (slot_size w k (at w.slots k) ready refl)

-- the signature of a core's writes has the size of those in the slots
pub writes_fit : (w : World) (c k : ℕ) → IsReady w → IsOfSize (writes_in w.numbers.bits (at w.cores c)).bits (at w.slots k)
writes_fit w c k ready = subst (λ (n : ℕ). IsOfSize n (at w.slots k)) (sym (writes_size w c (at w.cores c) ready refl)) (slot_size w k (at w.slots k) ready refl)

-- the signatures of a core's younger chunk have the size of those in the slots
pub younger_sizes : (w : World) (c k : ℕ) (o : Option Occupant) (y : Chunk) → IsReady w → at w.cores c ≡ o → younger_of o ≡ Some y → IsOfSize y.reads.bits (at w.slots k) × IsOfSize y.writes.bits (at w.slots k)
younger_sizes w c k None y ready is e = absurd (none-some y e)
younger_sizes w c k (Some h) y ready is e =
    let good = (ready.good.held c h is).younger y e in
    let slot = slot_size w k (at w.slots k) ready refl in (
      subst (λ (n : ℕ). IsOfSize n (at w.slots k)) (sym good.reads_size) slot,
      subst (λ (n : ℕ). IsOfSize n (at w.slots k)) (sym good.writes_size) slot,
    )

-- a flight's words lie in the memory of its sphere
pub flight_inside : (w : World) (k : ℕ) (o : Option Flight) → IsReady w → at w.slots k ≡ o → IfSome (option_map sphere_of o) (λ i. (i < length w.spheres) × IsInside (length (sphere_at w i).memory) o)
flight_inside w k None ready is = tt
flight_inside w k (Some f) ready is =
    let i = ready.good.flights k f is in
    (i, subst (λ (n : ℕ). AreInside n f.words) (sym (sphere_sound w f.sphere ready i).size) (ready.sound.flights k f is).inside)

-- the signatures in the slots have the world's size
pub slots_size : (w : World) → IsReady w → AreOfSize w.numbers.bits w.slots
slots_size w ready = record { each = λ k. slot_size w k (at w.slots k) ready refl }

-- the signature of a held chunk's reads has the size of those in the slots
pub chunk_reads : (w : World) (c : ℕ) (o : Option Occupant) (ch : Chunk) → IsReady w → at w.cores c ≡ o → Some ch ≡ option_map (λ h. h.chunk) o → AreOfSize ch.reads.bits w.slots
chunk_reads w c None ch ready is e = absurd (none-some ch (sym e))
chunk_reads w c (Some h) ch ready is e =
    subst (λ (n : ℕ). AreOfSize n w.slots) (sym (ap (λ (d : Chunk). d.reads.bits) (same_Some _ _ e) ∙ (ready.good.held c h is).chunk.reads_size)) (slots_size w ready)

-- the signature of a held chunk's writes has the size of those in the slots
pub chunk_writes : (w : World) (c : ℕ) (o : Option Occupant) (ch : Chunk) → IsReady w → at w.cores c ≡ o → Some ch ≡ option_map (λ h. h.chunk) o → AreOfSize ch.writes.bits w.slots
chunk_writes w c None ch ready is e = absurd (none-some ch (sym e))
chunk_writes w c (Some h) ch ready is e =
    subst (λ (n : ℕ). AreOfSize n w.slots) (sym (ap (λ (d : Chunk). d.writes.bits) (same_Some _ _ e) ∙ (ready.good.held c h is).chunk.writes_size)) (slots_size w ready)
