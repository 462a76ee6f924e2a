-- What the parts of a machine hold after a granted request is the world that the definitions give.
use Rattle.std.proofs.Common.{◌≡◌, ℕ, zero, suc, ◌%◌, ◌^◌, ◌<◌, Bool, true, false, List, [], ◌∷◌, ◌++◌, Option, Some, None, length, slice_set, refl, sym, ap, ◌∙◌, subst}
use Rattle.std.specs.Prelude.{option_map, slice_get}
use Rattle.std.proofs.lemmas.Option.{none-some, same_Some}
use Rattle.std.proofs.lemmas.List.{get_or-set_same}
use Rattle.dl_entry.specs.declared.Actor.{Actor}
use Rattle.dl_entry.specs.declared.CommitKind.{CommitKind}
use Rattle.dl_entry.specs.declared.Counts.{Counts}
use Rattle.dl_entry.specs.declared.Point.{Point}
use Rattle.spec_isa.specs.declared.thread.Parts.{Parts}
use Rattle.spec_isa.specs.Words.{Stored}
use Rattle.spec_kernel.specs.Devices.{Devices}
use Rattle.spec_engine.specs.declared.answers.How.{How}
use Rattle.spec_engine.specs.Signatures.{Signature, nothing, signed}
use Rattle.spec_engine.specs.Chunks.{Chunk}
use Rattle.spec_engine.specs.Flights.{Flights, at}
use Rattle.spec_sphere.specs.sphere.Spheres.{Sphere}
use Rattle.spec_sphere.specs.sphere.Commits.{CommitOutcome, Granted, Piece, Diverged, MovedSphere, chunk_moved, serial_moved}
use Rattle.spec_engine.specs.Closing.{is_piece, is_short}
use Rattle.spec_protocol.specs.machine.World.{EventOutcome, Numbers, Occupant, World, OfChunk, OfSerial, moment, sphere_at, held_afresh, flown, with_core}
use Rattle.spec_protocol.specs.machine.Asking.{CommitRequest, granted, grant_chunk, grant_serial, promoted}
use Rattle.spec_protocol.specs.machine.Flying.{younger_of}
use Rattle.dl_machine.specs.declared.one_core.Held.{Held as Seen}
use Rattle.dl_machine.specs.Cores.{given_up, goes_on, seen, writes_in}
use Rattle.dl_machine.specs.Rows.{Cores, Spheres, nth_sphere, with_held, with_nth}
use Rattle.dl_machine.specs.Events.{passes_checks}
use Rattle.dl_machine.specs.Ready.{IsReady}
use Rattle.dl_machine.specs.Requests.{closed_by}
use Rattle.dl_machine.specs.States.{world_in}
use Rattle.dl_machine.proofs.Commits.Moments.{serial_cut}
use Rattle.dl_machine.proofs.Commits.Diverging.{IsApart, serial_apart}

-- the world after a grant: the sphere has moved, its words fly, the core goes on with what it holds then, and the point is
-- kept
abbrev pub with_grant : World → (core : ℕ) → Seen → Sphere → List Stored → Signature → Devices → Point → (goes : Option Occupant) → World
with_grant w c held p words marks devices point goes =
    record w {
      spheres = slice_set w.spheres held.sphere p;
      slots = flown held.sphere words marks (2 ^ c) w.slots;
      cores = slice_set w.cores c goes;
      devices = devices;
      points = w.points ++ point ∷ [];
    }

-- the point that a grant makes
abbrev pub point_in : World → Seen → CommitKind → (n : ℕ) → (short : Bool) → Point
point_in w held kind n short = Point.Commit (moment w) held.sphere (Actor.Thread held.thread) kind n short

-- the chunk that a core holds, and the younger one
abbrev pub chunk_of : Occupant → Chunk
chunk_of h = h.chunk

-- the younger chunk that an occupant has, if any
abbrev pub younger_in : Occupant → Option Chunk
younger_in h = h.younger

-- ---- the code's steps

set_again : {A : Type 0} (xs : List A) (k : ℕ) (a b : A) → slice_set (slice_set xs k a) k b ≡ slice_set xs k b
set_again [] k a b = refl
set_again (x ∷ xs) zero a b = refl
set_again {A = A} (x ∷ xs) (suc k) a b = ap (λ (ys : List A). x ∷ ys) (set_again xs k a b)

-- what a core goes on with doesn't depend on the lines that it has given up
given_goes : (z : Numbers) (p : Sphere) (o : Option Occupant) → goes_on z p (option_map given_up o) ≡ goes_on z p o
given_goes z p None = refl
given_goes z p (Some h) = refl

-- what a core goes on with, by what is seen of it and its younger chunk
pub goes_as : (z : Numbers) (p : Sphere) (o : Option Occupant) (held : Seen) → option_map seen o ≡ Some held → goes_on z p o ≡ promoted z held.sphere held.thread p (younger_of o) (slice_get p.threads held.thread)
goes_as z p None held e = absurd (none-some held e)
goes_as z p (Some h) held e = ap (λ (s : Seen). promoted z s.sphere s.thread p h.younger (slice_get p.threads s.thread)) (same_Some _ _ e)

-- A machine has these parts before a grant.
module _ (cores : Cores) (spheres : Spheres) (flights : Flights) (devices : Devices) (counts : Counts) (points : List Point) where
  -- Core c held a thread and asks for its commit: after_ is what the grant makes of the spheres, these words fly with these
  -- marks, and the points are more, by this one.
  module _ (c : ℕ) (held : Seen) (after_ : Spheres) (words : List Stored) (marks : Signature) (more : List Point) (point : Point) where
    -- the world with the words in flight
    abbrev with_flight : World → World
    with_flight w = record w { slots = flown held.sphere words marks (2 ^ c) w.slots }

    -- the world where the core then goes on after its chunk
    abbrev gone_on : World → World
    gone_on w = with_core w c (goes_on w.numbers (sphere_at w held.sphere) (at w.cores c))

    -- the world where the core then goes on with its thread afresh
    abbrev begun : World → World
    begun w = with_core w c (held_afresh w.numbers held.sphere held.thread (sphere_at w held.sphere))

    -- where the core has given up its lines, the parts of a grant are the world after it
    pub grant_done : (then_ : Cores) → c < length cores.held → then_ ≡ with_held c (option_map given_up (at cores.held c)) cores → after_ ≡ with_nth held.sphere (nth_sphere held.sphere after_) spheres → more ≡ points ++ point ∷ []
        → let w = world_in cores spheres flights devices counts points in let p = nth_sphere held.sphere after_ in
        gone_on (with_flight (world_in then_ after_ flights devices counts more)) ≡ with_grant w c held p words marks devices point (goes_on w.numbers p (at w.cores c))
    grant_done then_ within ec es ep =
        let z : Numbers = record { s = spheres.s; capacity = cores.capacity; bits = cores.bits; depth = cores.depth } in
        let p = nth_sphere held.sphere after_ in
        let o = option_map given_up (at cores.held c) in
        let there : at (slice_set cores.held c o) c ≡ o = get_or-set_same cores.held c o None within in
        let goes : goes_on z p (at (slice_set cores.held c o) c) ≡ goes_on z p (at cores.held c) = ap (goes_on z p) there ∙ given_goes z p (at cores.held c) in
        let again = set_again cores.held c o (goes_on z p (at cores.held c)) in
        cc

    -- where the core has its lines still and the devices have changed, the parts of a grant are the world after it
    pub serial_done : (then_ : Devices) → after_ ≡ with_nth held.sphere (nth_sphere held.sphere after_) spheres → more ≡ points ++ point ∷ []
        → let w = world_in cores spheres flights devices counts points in let p = nth_sphere held.sphere after_ in
        begun (with_flight (world_in cores after_ flights then_ counts more)) ≡ with_grant w c held p words marks then_ point (held_afresh w.numbers held.sphere held.thread p)
    serial_done then_ es ep = cc

-- ---- under what a core holds

-- what is read of the event of what a core holds is read of the event
pub held_after : {A : Type 0} (g : EventOutcome → A) (f : Occupant → EventOutcome) (o : Option Occupant) (a : EventOutcome) → Some a ≡ option_map f o → Some (g a) ≡ option_map (λ h. g (f h)) o
held_after g f None a e = absurd (none-some a (sym e))
held_after g f (Some h) a e = ap (λ (b : EventOutcome). Some (g b)) (same_Some _ _ e)

-- the chunk that a core holds was closed as the core says
pub closed_is : (o : Option Occupant) (ch : Chunk) (how : How) → option_map closed_by o ≡ Some (Some how) → Some ch ≡ option_map chunk_of o → ch.closed ≡ Some how
closed_is None ch how e c = absurd (none-some (Some how) e)
closed_is (Some h) ch how e c = ap (λ (d : Chunk). d.closed) (same_Some _ _ c) ∙ same_Some _ _ e

-- a core that holds something has the younger chunk that it holds, or none
pub younger_is : (o : Option Occupant) (held : Seen) → option_map seen o ≡ Some held → Some (younger_of o) ≡ option_map younger_in o
younger_is None held e = absurd (none-some held e)
younger_is (Some h) held e = refl

-- ---- a chunk

-- a thread's commit request for a chunk that was closed so, with its younger chunk, if any
abbrev pub chunk_asked : World → Seen → How → Chunk → (younger : Option Chunk) → CommitRequest
chunk_asked w held how ch younger =
    record {
      sphere = held.sphere;
      thread = held.thread;
      what = OfChunk held.thread how ch.done.n ch.limit;
      kind = CommitKind.Chunk;
      n = ch.done.n;
      short = is_short w.numbers.s how ch.limit;
      younger = younger;
    }

-- what a granted chunk makes of its sphere
abbrev pub moved_by : World → Seen → How → Chunk → MovedSphere
moved_by w held how ch =
    chunk_moved held.thread (is_piece how) (is_short w.numbers.s how ch.limit) ch.done w.devices (sphere_at w held.sphere)

chunk_is : (w : World) (c : ℕ) (h : Occupant) (how : How) → grant_chunk w c h how ≡ (let v = moved_by w (seen h) how h.chunk in granted w c (chunk_asked w (seen h) how h.chunk h.younger) h.chunk.writes v v.outcome)
unfolding grant_chunk
chunk_is w c h how = refl

-- a chunk's request comes to what the move of its sphere makes of the world
pub chunk_after : (w : World) (c : ℕ) (how : How) (o : Option Occupant) (held : Seen) (ch : Chunk) (y : Option Chunk) (marks : Signature) (v : MovedSphere) → option_map seen o ≡ Some held → Some ch ≡ option_map chunk_of o → Some y ≡ option_map younger_in o
    → marks ≡ writes_in w.numbers.bits o → v ≡ moved_by w held how ch → Some (granted w c (chunk_asked w held how ch y) marks v v.outcome) ≡ option_map (λ h. grant_chunk w c h how) o
chunk_after w c how None held ch y marks v eh ec ey em ev = absurd (none-some held eh)
chunk_after w c how (Some h) held ch y marks v eh ec ey em ev =
    let seen_ : held ≡ seen h = sym (same_Some _ _ eh) in
    let same : ch ≡ h.chunk = same_Some _ _ ec in
    let younger : y ≡ h.younger = same_Some _ _ ey in
    ap (λ (u : MovedSphere). Some (granted w c (chunk_asked w held how ch y) marks u u.outcome)) ev
    ∙ ap (λ (m : Signature). Some (let u = moved_by w held how ch in granted w c (chunk_asked w held how ch y) m u u.outcome)) em
    ∙ ap (λ (z : Option Chunk). Some (let u = moved_by w held how ch in granted w c (chunk_asked w held how ch z) h.chunk.writes u u.outcome)) younger
    ∙ ap (λ (d : Chunk). Some (let u = moved_by w held how d in granted w c (chunk_asked w held how d h.younger) h.chunk.writes u u.outcome)) same
    ∙ ap (λ (s : Seen). Some (let u = moved_by w s how h.chunk in granted w c (chunk_asked w s how h.chunk h.younger) h.chunk.writes u u.outcome)) seen_
    ∙ ap (λ (a : EventOutcome). Some a) (sym (chunk_is w c h how))

-- ---- a serial step

-- a thread's commit request for a serial step: of size 0, without a younger chunk
abbrev pub serial_asked : Seen → CommitRequest
serial_asked held =
    record {
      sphere = held.sphere;
      thread = held.thread;
      what = OfSerial held.thread;
      kind = CommitKind.Serial;
      n = 0;
      short = false;
      younger = None;
    }

serial_is : (w : World) (c : ℕ) (h : Occupant) → grant_serial w c h ≡ (let v = serial_moved h.thread (moment w) h.chunk.start w.devices (sphere_at w h.chunk.sphere) in granted w c (serial_asked (seen h)) (signed h.chunk.sphere v.words (nothing w.numbers.bits)) v v.outcome)
unfolding grant_serial
serial_is w c h = refl

-- what a granted serial step comes to, by what it makes of its sphere
abbrev pub serial_after_of : World → (core : ℕ) → Seen → MovedSphere → EventOutcome
serial_after_of w c held v = granted w c (serial_asked held) (signed held.sphere v.words (nothing w.numbers.bits)) v v.outcome

-- a serial step's request comes to what the move of its sphere makes of the world
pub serial_after : (w : World) (c : ℕ) (o : Option Occupant) (held : Seen) (v : MovedSphere) → IsReady w → at w.cores c ≡ o → option_map seen o ≡ Some held
    → ((t : Parts) → slice_get (sphere_at w held.sphere).threads held.thread ≡ Some t → v ≡ serial_moved held.thread (moment w % 2 ^ 32) t w.devices (sphere_at w held.sphere))
    → Some (serial_after_of w c held v) ≡ option_map (grant_serial w c) o
serial_after w c None held v ready eo eh ev = absurd (none-some held eh)
serial_after w c (Some h) held v ready eo eh ev =
    let seen_ : held ≡ seen h = sym (same_Some _ _ eh) in
    let moved : v ≡ serial_moved h.thread (moment w % 2 ^ 32) h.chunk.start w.devices (sphere_at w h.chunk.sphere) =
    subst (λ (s : Seen). (t : Parts) → slice_get (sphere_at w s.sphere).threads s.thread ≡ Some t → v ≡ serial_moved s.thread (moment w % 2 ^ 32) t w.devices (sphere_at w s.sphere)) seen_ ev h.chunk.start (ready.good.held c h eo).thread.start
    in
    let whole : v ≡ serial_moved h.thread (moment w) h.chunk.start w.devices (sphere_at w h.chunk.sphere) = moved ∙ serial_cut h.thread (moment w) h.chunk.start w.devices (sphere_at w h.chunk.sphere) in
    ap (λ (s : Seen). Some (serial_after_of w c s v)) seen_
    ∙ ap (λ (u : MovedSphere). Some (serial_after_of w c (seen h) u)) whole
    ∙ ap (λ (a : EventOutcome). Some a) (sym (serial_is w c h))

-- where a serial step diverges, the devices stay as they are
pub serial_still : (w : World) (c : ℕ) (o : Option Occupant) (held : Seen) (v : MovedSphere) → IsReady w → at w.cores c ≡ o → option_map seen o ≡ Some held
    → ((t : Parts) → slice_get (sphere_at w held.sphere).threads held.thread ≡ Some t → v ≡ serial_moved held.thread (moment w % 2 ^ 32) t w.devices (sphere_at w held.sphere))
    → IsApart w.devices v v.outcome
serial_still w c None held v ready eo eh ev = absurd (none-some held eh)
serial_still w c (Some h) held v ready eo eh ev =
    let seen_ : held ≡ seen h = sym (same_Some _ _ eh) in
    let moved : v ≡ serial_moved h.thread (moment w % 2 ^ 32) h.chunk.start w.devices (sphere_at w h.chunk.sphere) =
    subst (λ (s : Seen). (t : Parts) → slice_get (sphere_at w s.sphere).threads s.thread ≡ Some t → v ≡ serial_moved s.thread (moment w % 2 ^ 32) t w.devices (sphere_at w s.sphere)) seen_ ev h.chunk.start (ready.good.held c h eo).thread.start
    in
    subst (λ (u : MovedSphere). IsApart w.devices u u.outcome) (sym moved) (serial_apart h.thread (moment w % 2 ^ 32) h.chunk.start w.devices (sphere_at w h.chunk.sphere))

-- ---- what passes every check

granted_passes : (w : World) (c : ℕ) (q : CommitRequest) (marks : Signature) (v : MovedSphere) (o : CommitOutcome) → passes_checks (granted w c q marks v o).reply ≡ true
granted_passes w c q marks v Granted = refl
granted_passes w c q marks v Piece = refl
granted_passes w c q marks v (Diverged i why) = refl

-- a granted chunk answers as what passed every check
pub chunk_passes : (w : World) (c : ℕ) (h : Occupant) (how : How) → passes_checks (grant_chunk w c h how).reply ≡ true
chunk_passes w c h how =
    let v = moved_by w (seen h) how h.chunk in
    ap (λ (a : EventOutcome). passes_checks a.reply) (chunk_is w c h how) ∙ granted_passes w c (chunk_asked w (seen h) how h.chunk h.younger) h.chunk.writes v v.outcome

-- a granted serial step answers as what passed every check
pub serial_passes : (w : World) (c : ℕ) (h : Occupant) → passes_checks (grant_serial w c h).reply ≡ true
serial_passes w c h =
    let v = serial_moved h.thread (moment w) h.chunk.start w.devices (sphere_at w h.chunk.sphere) in
    ap (λ (a : EventOutcome). passes_checks a.reply) (serial_is w c h) ∙ granted_passes w c (serial_asked (seen h)) (signed h.chunk.sphere v.words (nothing w.numbers.bits)) v v.outcome
