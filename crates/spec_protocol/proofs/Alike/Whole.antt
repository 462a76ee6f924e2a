-- A sphere that isn't recorded in epochs has given up nothing: one that is alike to it is the same. A plain one stays plain.
use Rattle.std.proofs.Common.{◌≡◌, ◌≢◌, ℕ, ◌+◌, inl, inr, List, [], ◌∷◌, length, Option, Some, None, refl, sym, ap, ◌∙◌, subst, arith}
use Rattle.std.specs.Prelude.{slice_get}
use Rattle.std.proofs.lemmas.Bool.{cases_eq}
use Rattle.std.proofs.lemmas.Option.{none-some}
use Rattle.dl_entry.specs.declared.Request.{Request}
use Rattle.spec_isa.specs.declared.thread.Parts.{Parts}
use Rattle.spec_isa.specs.Runs.{run}
use Rattle.spec_kernel.specs.Answers.{dma_bytes, dma_taken}
use Rattle.spec_kernel.specs.Copies.{dma_words}
use Rattle.spec_log.specs.declared.LogParts.{LogParts}
use Rattle.spec_engine.specs.declared.answers.How.{How}
use Rattle.spec_play.specs.Epochs.{Epochs}
use Rattle.spec_play.specs.Progress.{Progress, position}
use Rattle.spec_protocol.specs.declared.event.Event.{Event}
use Rattle.spec_sphere.specs.sphere.Spheres.{Recording, Role, Plain, Record, Replay, Sphere}
use Rattle.spec_engine.specs.Closing.{is_short, is_piece}
use Rattle.spec_sphere.specs.sphere.Commits.{MovedSphere, chunk_in, chunk_moved, serial_in, serial_moved, dma_as, live_dma, dma_in, dma_moved, role_raised, raised}
use Rattle.spec_sphere.specs.sphere.Setups.{IsPlain, RoleSetup, SphereSetup, sphere_as}
use Rattle.spec_protocol.specs.machine.Machine.{Setup, world_of, moves}
use Rattle.spec_protocol.specs.machine.Moves.{move_chunk, do_by_kind, do_at, do_move, do_moves}
use Rattle.spec_protocol.specs.machine.Serial.{SerialState, serial_start, do_moved, do_serial, do_dma, do_raise}
use Rattle.spec_sphere.specs.sphere.Commits.{laid}
use Rattle.spec_protocol.specs.machine.Shown.{shown_of}
use Rattle.spec_protocol.specs.machine.World.{Numbers, MoveKind, OfChunk, OfSerial, OfDma, OfRaise, Move}
use Rattle.spec_sphere.specs.promises.Alike.{epochs_in, epochs_without, log_without, progress_without, role_without, forgotten}
use Rattle.spec_protocol.specs.promises.Promises.{IsSetup, after}
use Rattle.spec_protocol.proofs.Invariants.Schedules.{moves_are, start-sphere}
use Rattle.spec_protocol.proofs.Moves.Elsewhere.{at-away}
use Rattle.spec_strata.proofs.Shares.Steps.{get-set_same}

-- ---- nothing is forgotten

abbrev sphere_so : (memory : List ℕ) → List Parts → Progress → Role → Sphere
sphere_so m ts g role = record { memory = m; threads = ts; progress = g; role = role }

forgotten_so : (m : List ℕ) (ts : List Parts) (g : Progress) (role : Role) → epochs_in role ≡ None → forgotten (sphere_so m ts g role) ≡ sphere_so m ts g role
forgotten_so m ts g Plain none = refl
forgotten_so m ts g (Record recording) none =
    (λ j. sphere_so m ts (progress_without (none j) g) (Record (record { log = log_without (none j) (position g) recording.log; epochs = epochs_without (none j) })))
    ∙ (λ j. sphere_so m ts g (Record (record recording { epochs = sym none j })))
forgotten_so m ts g (Replay b) none = refl

-- if there are no epochs
pub nothing-forgotten : (p : Sphere) → epochs_in p.role ≡ None → forgotten p ≡ p
nothing-forgotten p none = forgotten_so p.memory p.threads p.progress p.role none

epochs_so : (n : ℕ) (role : Role) → epochs_in (role_without n role) ≡ epochs_without (epochs_in role)
epochs_so n Plain = refl
epochs_so n (Record recording) = refl
epochs_so n (Replay b) = refl

no_epochs : (o : Option Epochs) → epochs_without o ≡ None → o ≡ None
no_epochs None none = refl
no_epochs (Some x) none = absurd (none-some _ (sym none))

-- so a sphere alike to it is the same
pub same-whole : (p q : Sphere) → forgotten p ≡ forgotten q → epochs_in q.role ≡ None → p ≡ q
same-whole p q same none =
    let role : epochs_without (epochs_in p.role) ≡ None =
    sym (epochs_so (position p.progress) p.role) ∙ ap (λ (x : Sphere). epochs_in x.role) same ∙ epochs_so (position q.progress) q.role ∙ ap epochs_without none in
    sym (nothing-forgotten p (no_epochs (epochs_in p.role) role)) ∙ same ∙ nothing-forgotten q none

-- ---- what is the same in any case

position_so : (o : Option Epochs) (g : Progress) → position (progress_without o g) ≡ position g
position_so None g = refl
position_so (Some x) g = let none : position g + 0 ≡ position g = omega arith in none

-- they have done as many commits
pub same-position : (p q : Sphere) → forgotten p ≡ forgotten q → position p.progress ≡ position q.progress
same-position p q same =
    sym (position_so (epochs_in p.role) p.progress) ∙ ap (λ (x : Sphere). position x.progress) same ∙ position_so (epochs_in q.role) q.progress

-- ---- plain spheres

-- sphere i is there, and plain
record StaysPlain (i : ℕ) (x : SerialState) : Type 0 where
  sphere : Sphere
  there : slice_get x.spheres i ≡ Some sphere
  role : sphere.role ≡ Plain

moved_plain : (x : SerialState) (i : ℕ) (p : Sphere) (v : MovedSphere) → slice_get x.spheres i ≡ Some p → v.sphere.role ≡ Plain → StaysPlain i (do_moved x i v)
moved_plain x i p v is role = record { sphere = laid v; there = get-set_same x.spheres i (laid v) p is; role = role }

chunk_plain : (z : Numbers) (x : SerialState) (i k : ℕ) (how : How) (n limit : ℕ) (p : Sphere) (o : Option Parts) → slice_get x.spheres i ≡ Some p → p.role ≡ Plain → StaysPlain i (move_chunk z x i k how n limit p o)
unfolding chunk_moved
chunk_plain z x i k how n limit p None is role = record { sphere = p; there = is; role = role }
chunk_plain z x i k how n limit p (Some t) is role =
    moved_plain x i p (chunk_moved k (is_piece how) (is_short z.s how limit) (run p.memory t n) x.devices p) is
    (ap (λ (r : Role). (chunk_in r k (is_piece how) (is_short z.s how limit) (run p.memory t n) x.devices p).sphere.role) role)

serial_plain : (x : SerialState) (i k moment : ℕ) (p : Sphere) (o : Option Parts) → slice_get x.spheres i ≡ Some p → p.role ≡ Plain → StaysPlain i (do_serial x i k moment p o)
unfolding serial_moved
serial_plain x i k moment p None is role = record { sphere = p; there = is; role = role }
serial_plain x i k moment p (Some t) is role =
    moved_plain x i p (serial_moved k moment t x.devices p) is (ap (λ (r : Role). (serial_in r k moment t x.devices p).sphere.role) role)

live_plain : (x : SerialState) (i : ℕ) (p : Sphere) (o : Option Request) → slice_get x.spheres i ≡ Some p → p.role ≡ Plain → StaysPlain i (do_dma x i (live_dma Plain x.devices p o))
live_plain x i p None is role = record { sphere = p; there = is; role = role }
live_plain x i p (Some request) is role = moved_plain x i p (dma_as Plain (dma_words request (dma_bytes x.devices request)) (dma_taken x.devices request) p) is refl

dma_plain : (x : SerialState) (i : ℕ) (p : Sphere) → slice_get x.spheres i ≡ Some p → p.role ≡ Plain → StaysPlain i (do_dma x i (dma_moved x.devices p))
unfolding dma_moved
dma_plain x i p is role =
    subst (λ (r : Role). StaysPlain i (do_dma x i (dma_in r x.devices p))) (sym role) (live_plain x i p p.progress.request is role)

raise_plain : (x : SerialState) (i k value : ℕ) (p : Sphere) (o : Option Parts) → slice_get x.spheres i ≡ Some p → p.role ≡ Plain → StaysPlain i (do_raise x i k value p o)
unfolding raised
raise_plain x i k value p None is role = record { sphere = p; there = is; role = role }
raise_plain x i k value p (Some t) is role =
    record {
      sphere = raised k value t p;
      there = get-set_same x.spheres i (raised k value t p) p is;
      role = ap (role_raised k t.commits value) role;
    }

what_plain : (z : Numbers) (x : SerialState) (moment i : ℕ) (p : Sphere) (what : MoveKind) → slice_get x.spheres i ≡ Some p → p.role ≡ Plain → StaysPlain i (do_by_kind z x moment i p what)
what_plain z x moment i p (OfChunk k how n limit) is role = chunk_plain z x i k how n limit p (slice_get p.threads k) is role
what_plain z x moment i p (OfSerial k) is role = serial_plain x i k moment p (slice_get p.threads k) is role
what_plain z x moment i p OfDma is role = dma_plain x i p is role
what_plain z x moment i p (OfRaise k value) is role = raise_plain x i k value p (slice_get p.threads k) is role

move_plain : (z : Numbers) (x : SerialState) (m : Move) (i : ℕ) → StaysPlain i x → StaysPlain i (do_move z x m)
unfolding do_move
move_plain z x m i h =
    elim (cases_eq i m.sphere) [
      | inl e ↦ (
          let there : slice_get x.spheres m.sphere ≡ Some h.sphere = ap (slice_get x.spheres) (sym e) ∙ h.there in
          subst (λ (o : Option Sphere). StaysPlain i (do_at z x m o)) (sym there)
          (subst (λ (n : ℕ). StaysPlain n (do_by_kind z x m.moment m.sphere h.sphere m.what)) (sym e) (what_plain z x m.moment m.sphere h.sphere m.what there h.role))
          )
      | inr ne ↦ record { sphere = h.sphere; there = at-away z x m i (slice_get x.spheres m.sphere) ne ∙ h.there; role = h.role }
    ]

moves_plain : (z : Numbers) (x : SerialState) (ms : List Move) (i : ℕ) → StaysPlain i x → StaysPlain i (do_moves z x ms)
moves_plain z x [] i h = h
moves_plain z x (m ∷ ms) i h = moves_plain z (do_move z x m) ms i (move_plain z x m i h)

-- after any events a sphere that was set up as plain is plain
pub plain-after : (s : Setup) (es : List Event) (i : ℕ) (image : SphereSetup) (p : Sphere) → IsSetup s → slice_get s.spheres i ≡ Some image → image.role ≡ IsPlain
    → slice_get (shown_of (after s es)).spheres i ≡ Some p → p.role ≡ Plain
plain-after s es i image p is there role shown =
    let z = s.numbers.s in
    let start : StaysPlain i (serial_start s) =
    record {
      sphere = sphere_as z image IsPlain;
      there = start-sphere z s.spheres i image there ∙ ap (λ (r : RoleSetup). Some (sphere_as z image r)) role;
      role = refl;
    } in
    let h = moves_plain s.numbers (serial_start s) (moves (world_of s) es) i start in
    let same : h.sphere ≡ p = (let e : Some h.sphere ≡ Some p = sym h.there ∙ ap (λ (x : SerialState). slice_get x.spheres i) (sym (moves_are s es is).same) ∙ shown in cc) in
    ap (λ (q : Sphere). q.role) (sym same) ∙ h.role
