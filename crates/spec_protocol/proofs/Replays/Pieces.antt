-- Pieces of a commit stay together: in a sphere that has done some it is their thread's turn, until the last part is done.
use Rattle.std.proofs.Common.{◌≡◌, ℕ, zero, suc, ◌<◌, inl, inr, Bool, true, false, List, [], ◌∷◌, length, map, Option, Some, None, refl, sym, ap, ◌∙◌, subst, arith, set}
use Rattle.std.specs.Prelude.{slice_get}
use Rattle.std.proofs.lemmas.Bool.{true≢false, cases_eq, cases_lt, lt-ltb}
use Rattle.std.proofs.lemmas.List.{get_or_past}
use Rattle.std.proofs.lemmas.Option.{none-some}
use Rattle.dl_entry.specs.declared.Actor.{Actor}
use Rattle.dl_entry.specs.declared.Request.{Request}
use Rattle.spec_isa.specs.declared.thread.Parts.{Parts}
use Rattle.spec_isa.specs.Runs.{Run, run}
use Rattle.spec_kernel.specs.Devices.{Devices}
use Rattle.spec_play.specs.Turns.{TurnOrEnd, Turn, TurnOfDma, Ended}
use Rattle.spec_play.specs.Verdicts.{LogVerdict, Goes, Fails, chunk_verdict, serial_verdict}
use Rattle.spec_play.specs.Transfers.{DmaVerdict, DmaGoes, DmaFails, dma_verdict}
use Rattle.spec_engine.specs.declared.answers.How.{How}
use Rattle.spec_sphere.specs.sphere.Spheres.{other_than, turn_in, turn_against, Cursor, Role, Plain, Record, Replay, Sphere, is_over, is_stopped, actor_of, is_in_pieces, no_sphere, replays}
use Rattle.spec_sphere.specs.sphere.Commits.{MovedSphere, joined, by_verdict, replayed_chunk, chunk_in, chunk_moved, serial_in, serial_moved, live_dma, dma_by_verdict, dma_log, dma_in, dma_moved, role_raised, raised, laid}
use Rattle.spec_engine.specs.Closing.{is_piece, is_short}
use Rattle.spec_protocol.specs.machine.World.{Numbers, World, MoveKind, OfChunk, OfSerial, OfDma, OfRaise, Move, sphere_at}
use Rattle.spec_sphere.specs.sphere.Setups.{RoleSetup, IsPlain, IsRecorded, IsReplayed, SphereSetup, sphere_as, sphere_of}
use Rattle.spec_protocol.specs.machine.Machine.{moves, world_of}
use Rattle.spec_protocol.specs.machine.Serial.{SerialState, serial_start, do_serial, do_dma, do_raise}
use Rattle.spec_protocol.specs.machine.Shown.{shown, shown_of}
use Rattle.spec_protocol.specs.machine.Moves.{move_chunk, do_by_kind, do_at, do_move, do_moves, FitsChunk, FitsSerial, FitsWhat, FitsAt, Fits, FitsIf, FitAll}
use Rattle.spec_sphere.specs.sphere.Moves.{FitsRaise}
use Rattle.spec_protocol.specs.promises.Promises.{after}
use Rattle.spec_protocol.specs.promises.Pieces.{IsChunkOf, PiecesStayTogether, StoppedSpheresStay}
use Rattle.spec_sphere.proofs.Moves.Joining.{may_go, joins-whole}
use Rattle.spec_strata.proofs.Shares.Steps.{get-set_other, get-set_same}
use Rattle.spec_protocol.proofs.Invariants.Preserved.{shown-get}
use Rattle.spec_protocol.proofs.Invariants.Schedules.{happens-preserved, moves_are, invariants_hold}
use Rattle.spec_sphere.proofs.Replays.Turns.{no_raise}

-- ---- whose turn it is

-- a sphere in pieces that hasn't stopped has a thread whose turn it is
abbrev InTurn : Role → Type 0
InTurn Plain = Unit {0}
InTurn (Record recording) = Unit {0}
InTurn (Replay b) = is_over b.now ≡ false → 0 < b.total → (k : ℕ) × (b.now ≡ Turn k)

abbrev AllInTurn : SerialState → Type 0
AllInTurn x = (i : ℕ) (p : Sphere) → slice_get x.spheres i ≡ Some p → InTurn p.role

-- ---- what a move leaves

verdict_turn : (b : Cursor) (k : ℕ) (verdict : LogVerdict) (devices : Devices) (p : Sphere) → InTurn (by_verdict b k verdict devices p).sphere.role
verdict_turn b k (Goes e u) devices p = λ going some. absurd (omega arith)
verdict_turn b k (Fails why) devices p = λ going some. absurd (true≢false going)

replayed_turn : (piece : Bool) (b : Cursor) (k : ℕ) (r : Run) (devices : Devices) (p : Sphere) → InTurn (replayed_chunk piece b k r devices p).sphere.role
replayed_turn true b k r devices p = λ going some. (k, refl)
replayed_turn false b k r devices p = verdict_turn b k (chunk_verdict b.log p.progress b.used k (joined b r)) devices p

chunk_in_turn : (role : Role) (k : ℕ) (piece short : Bool) (r : Run) (devices : Devices) (p : Sphere) → InTurn (chunk_in role k piece short r devices p).sphere.role
chunk_in_turn Plain k piece short r devices p = tt
chunk_in_turn (Record recording) k piece short r devices p = tt
chunk_in_turn (Replay b) k piece short r devices p = replayed_turn piece b k r devices p

chunk_turn : (z : Numbers) (k : ℕ) (how : How) (n limit : ℕ) (t : Parts) (devices : Devices) (p : Sphere) → InTurn (laid (chunk_moved k (is_piece how) (is_short z.s how limit) (run p.memory t n) devices p)).role
unfolding chunk_moved
chunk_turn z k how n limit t devices p = chunk_in_turn p.role k (is_piece how) (is_short z.s how limit) (run p.memory t n) devices p

serial_in_turn : (role : Role) (k moment : ℕ) (t : Parts) (devices : Devices) (p : Sphere) → InTurn (serial_in role k moment t devices p).sphere.role
serial_in_turn Plain k moment t devices p = tt
serial_in_turn (Record recording) k moment t devices p = tt
serial_in_turn (Replay b) k moment t devices p = verdict_turn b k (serial_verdict b.log p.progress b.used k p.threads t p.memory) devices p

serial_turn : (k moment : ℕ) (t : Parts) (devices : Devices) (p : Sphere) → InTurn (laid (serial_moved k moment t devices p)).role
unfolding serial_moved
serial_turn k moment t devices p = serial_in_turn p.role k moment t devices p

abbrev MovedInTurn : Option MovedSphere → Type 0
MovedInTurn None = Unit {0}
MovedInTurn (Some v) = InTurn v.sphere.role

live_turn : (role : Role) (devices : Devices) (p : Sphere) (o : Option Request) → InTurn role → MovedInTurn (live_dma role devices p o)
live_turn role devices p None turn = tt
live_turn role devices p (Some request) turn = turn

dma_verdict_turn : (b : Cursor) (verdict : DmaVerdict) (devices : Devices) (p : Sphere) → InTurn (dma_by_verdict b verdict devices p).sphere.role
dma_verdict_turn b (DmaGoes words) devices p = λ going some. absurd (omega arith)
dma_verdict_turn b (DmaFails why) devices p = λ going some. absurd (true≢false going)

dma_in_turn : (role : Role) (devices : Devices) (p : Sphere) → MovedInTurn (dma_in role devices p)
dma_in_turn Plain devices p = live_turn Plain devices p p.progress.request tt
dma_in_turn (Record recording) devices p = live_turn (Record (record recording { log = dma_log recording.log devices p p.progress.request })) devices p p.progress.request tt
dma_in_turn (Replay b) devices p = dma_verdict_turn b (dma_verdict b.log p.progress b.used) devices p

dma_turn : (devices : Devices) (p : Sphere) → MovedInTurn (dma_moved devices p)
unfolding dma_moved
dma_turn devices p = dma_in_turn p.role devices p

raise_turn : (k n value : ℕ) (role : Role) → InTurn role → InTurn (role_raised k n value role)
raise_turn k n value Plain turn = tt
raise_turn k n value (Record recording) turn = tt
raise_turn k n value (Replay b) turn = turn

-- ---- all moves

turn_set : (x : SerialState) (i : ℕ) (p q : Sphere) (devices : Devices) → AllInTurn x → slice_get x.spheres i ≡ Some p → InTurn q.role → AllInTurn (record { spheres = set x.spheres i q; devices = devices })
turn_set x i p q devices all is turn j r e =
    elim (cases_eq j i) [
      | inl ji ↦ (
          let same : q ≡ r = (let h : Some q ≡ Some r = sym (get-set_same x.spheres i q p is) ∙ ap (slice_get (set x.spheres i q)) (sym ji) ∙ e in cc) in
          subst (λ (s : Sphere). InTurn s.role) same turn
          )
      | inr ne ↦ all j r (sym (get-set_other x.spheres i j q ne) ∙ e)
    ]

chunk_keeps_turn : (z : Numbers) (x : SerialState) (i k : ℕ) (how : How) (n limit : ℕ) (p : Sphere) (o : Option Parts) → AllInTurn x → slice_get x.spheres i ≡ Some p → FitsChunk z p k how n limit o → AllInTurn (move_chunk z x i k how n limit p o)
chunk_keeps_turn z x i k how n limit p None all is fits = all
chunk_keeps_turn z x i k how n limit p (Some t) all is fits =
    let v : MovedSphere = chunk_moved k (is_piece how) (is_short z.s how limit) (run p.memory t n) x.devices p in
    turn_set x i p (laid v) v.devices all is (chunk_turn z k how n limit t x.devices p)

serial_keeps_turn : (x : SerialState) (i k moment : ℕ) (p : Sphere) (o : Option Parts) → AllInTurn x → slice_get x.spheres i ≡ Some p → AllInTurn (do_serial x i k moment p o)
serial_keeps_turn x i k moment p None all is = all
serial_keeps_turn x i k moment p (Some t) all is =
    let v : MovedSphere = serial_moved k moment t x.devices p in
    turn_set x i p (laid v) v.devices all is (serial_turn k moment t x.devices p)

dma_keeps_turn : (x : SerialState) (i : ℕ) (p : Sphere) (o : Option MovedSphere) → AllInTurn x → slice_get x.spheres i ≡ Some p → MovedInTurn o → AllInTurn (do_dma x i o)
dma_keeps_turn x i p None all is turn = all
dma_keeps_turn x i p (Some v) all is turn = turn_set x i p (laid v) v.devices all is turn

raise_keeps_turn : (x : SerialState) (i k value : ℕ) (p : Sphere) (o : Option Parts) → AllInTurn x → slice_get x.spheres i ≡ Some p → AllInTurn (do_raise x i k value p o)
unfolding raised
raise_keeps_turn x i k value p None all is = all
raise_keeps_turn x i k value p (Some t) all is = turn_set x i p (raised k value t p) x.devices all is (raise_turn k t.commits value p.role (all i p is))

what_keeps_turn : (z : Numbers) (x : SerialState) (moment i : ℕ) (p : Sphere) (what : MoveKind) → AllInTurn x → slice_get x.spheres i ≡ Some p → FitsWhat z x.devices p what → AllInTurn (do_by_kind z x moment i p what)
what_keeps_turn z x moment i p (OfChunk k how n limit) all is fits = chunk_keeps_turn z x i k how n limit p (slice_get p.threads k) all is fits
what_keeps_turn z x moment i p (OfSerial k) all is fits = serial_keeps_turn x i k moment p (slice_get p.threads k) all is
what_keeps_turn z x moment i p OfDma all is fits = dma_keeps_turn x i p (dma_moved x.devices p) all is (dma_turn x.devices p)
what_keeps_turn z x moment i p (OfRaise k value) all is fits = raise_keeps_turn x i k value p (slice_get p.threads k) all is

at_keeps_turn : (z : Numbers) (x : SerialState) (m : Move) (o : Option Sphere) → AllInTurn x → slice_get x.spheres m.sphere ≡ o → FitsAt z x.devices m o → AllInTurn (do_at z x m o)
at_keeps_turn z x m None all is fits = all
at_keeps_turn z x m (Some p) all is fits = what_keeps_turn z x m.moment m.sphere p m.what all is fits

moves_keep_turn : (z : Numbers) (x : SerialState) (ms : List Move) → AllInTurn x → FitAll z x ms → AllInTurn (do_moves z x ms)
unfolding do_move
moves_keep_turn z x [] all fits = all
moves_keep_turn z x (m ∷ ms) all fits = moves_keep_turn z (do_move z x m) ms (at_keeps_turn z x m (slice_get x.spheres m.sphere) all refl fits.0) fits.1

-- ---- the start

start_role : (z : ℕ) (image : SphereSetup) (setup : RoleSetup) → InTurn (sphere_as z image setup).role
start_role z image IsPlain = tt
start_role z image (IsRecorded asked) = tt
start_role z image (IsReplayed asked) = λ going some. absurd (omega arith)

start_turn : (z : ℕ) (ds : List SphereSetup) (i : ℕ) (p : Sphere) → slice_get (map (sphere_of z) ds) i ≡ Some p → InTurn p.role
start_turn z [] i p e = absurd (none-some p e)
start_turn z (d ∷ ds) zero p e = subst (λ (q : Sphere). InTurn q.role) (let h : sphere_of z d ≡ p = cc in h) (start_role z d d.role)
start_turn z (d ∷ ds) (suc i) p e = start_turn z ds i p e

-- ---- what can come next

some_total : (b : Cursor) (role : Role) → role ≡ Replay b → 0 < b.total → is_in_pieces role ≡ true
some_total b role is some = ap is_in_pieces is ∙ lt-ltb 0 b.total some

own_chunk : (z : Numbers) (p : Sphere) (b : Cursor) (k j : ℕ) (how : How) (n limit : ℕ) (o : Option Parts) → p.role ≡ Replay b → b.now ≡ Turn k → 0 < b.total → FitsChunk z p j how n limit o → j ≡ k
unfolding turn_against
own_chunk z p b k j how n limit None role turn some fits = absurd fits
own_chunk z p b k j how n limit (Some t) role turn some fits =
    let may = may_go b j p (sym (ap is_stopped role) ∙ fits.going) (sym (ap (λ (r : Role). turn_in r p (Actor.Thread j)) role) ∙ fits.turn) in
    elim may.turn [
      | inl its ↦ (
          let same : Turn k ≡ Turn j = sym turn ∙ its in
          sym (ap (λ (now : TurnOrEnd). elim now [ Turn i ↦ i | TurnOfDma ↦ 0 | Ended how ↦ 0 ]) same)
          )
      | inr joins ↦ absurd (let e = joins-whole b.strata j b.total joins in omega (arith, e, some))
    ]

no_serial : (p : Sphere) (b : Cursor) (k : ℕ) (o : Option Parts) → p.role ≡ Replay b → 0 < b.total → FitsSerial p k o → ⊥
no_serial p b k None role some fits = fits
no_serial p b k (Some t) role some fits = true≢false (sym (some_total b p.role role some) ∙ fits.whole)

only_chunks : (z : Numbers) (devices : Devices) (p : Sphere) (b : Cursor) (k : ℕ) (what : MoveKind) → p.role ≡ Replay b → b.now ≡ Turn k → 0 < b.total → FitsWhat z devices p what → IsChunkOf k what
unfolding turn_against
only_chunks z devices p b k (OfChunk j how n limit) role turn some fits = own_chunk z p b k j how n limit (slice_get p.threads j) role turn some fits
only_chunks z devices p b k (OfSerial j) role turn some fits = no_serial p b j (slice_get p.threads j) role some fits
only_chunks z devices p b k OfDma role turn some fits =
    none-some (Actor.Thread k) (sym (sym (ap (λ (r : Role). turn_in r p Actor.Dma) role ∙ ap (λ (now : TurnOrEnd). other_than Actor.Dma (actor_of now)) turn) ∙ fits.turn))
only_chunks z devices p b k (OfRaise j value) role turn some fits = no_raise p b (slice_get p.threads j) role fits

-- nothing where it has stopped
stopped_replays : (role : Role) → is_stopped role ≡ true → replays role ≡ true
stopped_replays Plain stopped = absurd (true≢false (sym stopped))
stopped_replays (Record recording) stopped = absurd (true≢false (sym stopped))
stopped_replays (Replay b) stopped = refl

no_chunk_there : (z : Numbers) (p : Sphere) (k : ℕ) (how : How) (n limit : ℕ) (o : Option Parts) → is_stopped p.role ≡ true → FitsChunk z p k how n limit o → ⊥
no_chunk_there z p k how n limit None stopped fits = fits
no_chunk_there z p k how n limit (Some t) stopped fits = true≢false (sym stopped ∙ fits.going)

no_serial_there : (p : Sphere) (k : ℕ) (o : Option Parts) → is_stopped p.role ≡ true → FitsSerial p k o → ⊥
no_serial_there p k None stopped fits = fits
no_serial_there p k (Some t) stopped fits = true≢false (sym stopped ∙ fits.going)

no_raise_there : (p : Sphere) (o : Option Parts) → is_stopped p.role ≡ true → FitsRaise p o → ⊥
no_raise_there p None stopped fits = fits
no_raise_there p (Some t) stopped fits = true≢false (sym (stopped_replays p.role stopped) ∙ fits.live)

nothing_there : (z : Numbers) (devices : Devices) (p : Sphere) (what : MoveKind) → is_stopped p.role ≡ true → FitsWhat z devices p what → ⊥
nothing_there z devices p (OfChunk k how n limit) stopped fits = no_chunk_there z p k how n limit (slice_get p.threads k) stopped fits
nothing_there z devices p (OfSerial k) stopped fits = no_serial_there p k (slice_get p.threads k) stopped fits
nothing_there z devices p OfDma stopped fits = true≢false (sym stopped ∙ fits.going)
nothing_there z devices p (OfRaise k value) stopped fits = no_raise_there p (slice_get p.threads k) stopped fits

-- ---- all

-- a sphere that replays is one of the spheres
pub there-is : (w : World) (i : ℕ) → replays (sphere_at w i).role ≡ true → i < length w.spheres
there-is w i replay = elim (cases_lt i (length w.spheres)) [
  | inl l ↦ l
  | inr l ↦ absurd (true≢false (sym replay ∙ ap (λ (p : Sphere). replays p.role) (get_or_past w.spheres i no_sphere l)))
]

-- pieces of one commit stay together
pub pieces_stay : PiecesStayTogether
unfolding shown
pieces_stay s es i b is role going some =
    let w : World = after s es in
    let p : Sphere = shown w.slots i (sphere_at w i) in
    let e : slice_get (shown_of w).spheres i ≡ Some p = shown-get w.slots i w.spheres (there-is w i (ap replays role)) in
    let m = moves_are s es is in
    let all : AllInTurn (do_moves s.numbers (serial_start s) (moves (world_of s) es)) = moves_keep_turn s.numbers (serial_start s) (moves (world_of s) es) (start_turn s.numbers.s s.spheres) m.possible in
    let k = subst InTurn role (all i p (ap (λ (x : SerialState). slice_get x.spheres i) (sym m.same) ∙ e)) going some in (
      k.0,
      record {
        turn = k.1;
        only = λ event move is_move of_i.
            let fits : Fits w.numbers (shown_of w) move = subst (FitsIf w.numbers (shown_of w)) is_move (happens-preserved w event (invariants_hold s es is)).fits in
            only_chunks w.numbers w.devices p b k.0 move.what role k.1 some
            (subst (FitsAt w.numbers w.devices move) (ap (slice_get (shown_of w).spheres) of_i ∙ e) fits);
      },
    )

-- no event moves a sphere that has stopped
pub stopped_stay : StoppedSpheresStay
unfolding shown
stopped_stay s es i is stopped event move is_move of_i =
    let w : World = after s es in
    let p : Sphere = shown w.slots i (sphere_at w i) in
    let e : slice_get (shown_of w).spheres i ≡ Some p = shown-get w.slots i w.spheres (there-is w i (stopped_replays p.role stopped)) in
    let fits : Fits w.numbers (shown_of w) move = subst (FitsIf w.numbers (shown_of w)) is_move (happens-preserved w event (invariants_hold s es is)).fits in
    nothing_there w.numbers w.devices p move.what stopped (subst (FitsAt w.numbers w.devices move) (ap (slice_get (shown_of w).spheres) of_i ∙ e) fits)
