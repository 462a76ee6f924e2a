-- The event Ask keeps the invariant.
use Rattle.std.proofs.Common.{cond, ◌≡◌, ℕ, zero, suc, ◌<◌, Bool, true, false, not, ◌&&◌, eqb, List, [], ◌∷◌, ◌++◌, length, Option, Some, None, refl, sym, ap, ◌∙◌, subst, arith, inl, inr}
use Rattle.std.specs.Prelude.{slice_get, IsSome}
use Rattle.std.proofs.lemmas.Bool.{true≢false, and_parts, and_from, or_parts, eqb-true, eqb-false, eq-eqb, not-true, not-false}
use Rattle.std.proofs.lemmas.Option.{none-some}
use Rattle.dl_entry.specs.declared.Actor.{Actor}
use Rattle.spec_isa.specs.Words.{Stored, lays, Apart}
use Rattle.spec_isa.specs.Runs.{Run, run_start, run}
use Rattle.spec_isa.specs.declared.thread.Parts.{Parts}
use Rattle.spec_log.specs.declared.ModeName.{ModeName}
use Rattle.spec_kernel.specs.Needs.{next_kind}
use Rattle.spec_engine.specs.declared.answers.How.{How}
use Rattle.spec_engine.specs.Signatures.{hits, nothing, signed}
use Rattle.spec_engine.specs.Flights.{Flight, at, first_slot, is_full, meets_chunk, is_of_sphere}
use Rattle.spec_engine.specs.Chunks.{Chunk, is_serial, is_empty_serial, may_follow}
use Rattle.spec_engine.specs.Laws.{CoversWords}
use Rattle.spec_engine.proofs.Searches.{first_none}
use Rattle.spec_sphere.specs.sphere.Spheres.{other_than, takes_turns, turn_against, Role, Plain, Record, Replay, Sphere, is_stopped, recording_turn, head_in, is_in_pieces}
use Rattle.spec_sphere.specs.sphere.Commits.{MovedSphere, chunk_moved, serial_moved}
use Rattle.spec_engine.specs.Closing.{is_piece, is_short}
use Rattle.spec_protocol.specs.machine.World.{Occupant, World, moment, sphere_at, answered}
use Rattle.spec_protocol.specs.machine.Asking.{move_at, chunk_request, grant_chunk, serial_request, grant_serial, asks_serial, asking}
use Rattle.spec_protocol.specs.machine.Serial.{do_moved, do_serial}
use Rattle.spec_engine.specs.Flying.{flying}
use Rattle.spec_protocol.specs.machine.Shown.{shown, shown_of}
use Rattle.spec_protocol.specs.machine.Moves.{move_chunk, do_at, do_move, ChunkFits, FitsChunk, FitsSerial, FitsAt, Fits}
use Rattle.spec_sphere.specs.sphere.Moves.{SerialFits}
use Rattle.spec_sphere.proofs.Memory.Laying.{AllLack_nil, AllLack_flip}
use Rattle.spec_protocol.proofs.Memory.Slots.{words-other}
use Rattle.spec_protocol.proofs.Memory.Covering.{bits-signed, CoversWords-signed, apart-covered, flying-all_lack}
use Rattle.spec_sphere.proofs.Moves.Granted.{HasTurn, chunk-stores, chunk-lives, serial-lives, chunk-moves, serial-moves, MovesOnly, Leaves, chunk-leaves, piece-replayed}
use Rattle.spec_sphere.proofs.Moves.AnyMemory.{over, relaid, chunk-relaid}
use Rattle.spec_protocol.proofs.Invariants.Preserved.{Preserved, shown-get, unchanged-preserved}
use Rattle.spec_protocol.proofs.Moves.AnyEvent.{any-ask}
use Rattle.spec_protocol.proofs.Invariants.Granting.{Grants, granted-preserved, GoesOn}
use Rattle.spec_protocol.specs.promises.Currency.{seen_by, Meets, IsCurrent}
use Rattle.spec_play.specs.Touching.{AllLack}
use Rattle.spec_protocol.specs.promises.Invariants.{current, IsGoodHeld, IsGood, IsGoodOver}
use Rattle.spec_sphere.specs.sphere.Spheres.{replays}
use Rattle.spec_protocol.proofs.Invariants.Held.{fits-stays}

-- ---- what is shown of the sphere that asks

-- the world shows each sphere as its memory with the flying words laid over it
pub shown_at : (w : World) (i : ℕ) → i < length w.spheres → slice_get (shown_of w).spheres i ≡ Some (shown w.slots i (sphere_at w i))
shown_at w i within = shown-get w.slots i w.spheres within

-- what is shown of a sphere is the sphere over its current memory
pub shown_over : (w : World) (i : ℕ) → shown w.slots i (sphere_at w i) ≡ over (current w i) (sphere_at w i)
unfolding shown
shown_over w i = refl

-- ---- a chunk

abbrev chunk_move : World → Occupant → How → MovedSphere
chunk_move w h how =
    chunk_moved h.thread (is_piece how) (is_short w.numbers.s how h.chunk.limit) h.chunk.done w.devices (sphere_at w h.chunk.sphere)

-- done whole: a run of its instructions on the current memory
chunk_whole : (w : World) (h : Occupant) (how : How) → h.chunk.sphere < length w.spheres → slice_get (sphere_at w h.chunk.sphere).threads h.thread ≡ Some h.chunk.start → run (current w h.chunk.sphere) h.chunk.start h.chunk.done.n ≡ h.chunk.done
    → do_move w.numbers (shown_of w) (move_at (moment w) (chunk_request w h how)) ≡ do_moved (shown_of w) h.chunk.sphere (relaid (current w h.chunk.sphere) (chunk_move w h how))
unfolding do_move
chunk_whole w h how within start runs =
    let i = h.chunk.sphere in
    let ch = h.chunk in
    let p = sphere_at w i in
    let m = current w i in
    let move = move_at (moment w) (chunk_request w h how) in
    ap (do_at w.numbers (shown_of w) move) (shown_at w i within ∙ ap Some (shown_over w i))
    ∙ ap (move_chunk w.numbers (shown_of w) i h.thread how ch.done.n ch.limit (over m p)) start
    ∙ ap (λ (r : Run). do_moved (shown_of w) i (chunk_moved h.thread (is_piece how) (is_short w.numbers.s how ch.limit) r w.devices (over m p))) runs
    ∙ ap (do_moved (shown_of w) i) (chunk-relaid h.thread (is_piece how) (is_short w.numbers.s how ch.limit) ch.done w.devices p m)

-- no flight at all hits the chunk
pub never_hits : (w : World) (ch : Chunk) → first_slot (meets_chunk ch.reads ch.writes) w.slots ≡ None → (k : ℕ) (f : Flight) → at w.slots k ≡ Some f → (hits f.writes ch.reads ≡ false) × (hits f.writes ch.writes ≡ false)
never_hits w ch none k f is =
    or_parts (hits f.writes ch.reads) (hits f.writes ch.writes) (first_none (meets_chunk ch.reads ch.writes) w.slots none k f is)

chunk_lacks : (w : World) (c : ℕ) (h : Occupant) → IsGood w → IsGoodHeld w c h → first_slot (meets_chunk h.chunk.reads h.chunk.writes) w.slots ≡ None → AllLack h.chunk.done.words (flying h.chunk.sphere w.slots)
chunk_lacks w c h good held none =
    flying-all_lack h.chunk.sphere h.chunk.done.words w.slots
    (λ k f is same.
    let cov = good.covered k f is in
    AllLack_flip f.words h.chunk.done.words
    (apart-covered h.chunk.sphere f.writes h.chunk.writes f.words h.chunk.done.words (held.chunk.writes_size ∙ sym cov.size) (subst (λ (n : ℕ). CoversWords n f.writes f.words) same cov.words) held.chunk.writes
    (never_hits w h.chunk none k f is).1))

-- a core's chunk that no flight hits comes out the same on the sphere's current memory
pub chunk_live : (w : World) (c : ℕ) (h : Occupant) → IsGoodHeld w c h → first_slot (meets_chunk h.chunk.reads h.chunk.writes) w.slots ≡ None → IsCurrent (current w h.chunk.sphere) h.chunk
chunk_live w c h held none = held.chunk.live (record { misses = λ k f is same untold. (never_hits w h.chunk none k f is).0 })

-- ---- turns

recording_over : (mode : ModeName) (p : Sphere) (m : List ℕ) → recording_turn mode (over m p) ≡ recording_turn mode p
recording_over ModeName.Picolog p m = refl
recording_over ModeName.OrderSize p m = refl
recording_over ModeName.OrderOnly p m = refl

head_in_over : (role : Role) (p : Sphere) (m : List ℕ) → head_in role (over m p) ≡ head_in role p
head_in_over Plain p m = refl
head_in_over (Record recording) p m = recording_over recording.log.mode p m
head_in_over (Replay b) p m = refl

-- whose turn it is doesn't depend on the memory
pub turn_over : (p : Sphere) (actor : Actor) (m : List ℕ) → turn_against (over m p) actor ≡ turn_against p actor
unfolding turn_against
turn_over p actor m = ap (λ (head : Option Actor). cond (takes_turns actor p.role) (other_than actor head) None) (head_in_over p.role p m)

has_turn : (k : ℕ) (p : Sphere) → is_stopped p.role ≡ false → turn_against p (Actor.Thread k) ≡ None → HasTurn k p.role p
unfolding turn_against
has_turn k p going turn = record { going = going; turn = turn }

-- ---- a chunk

-- it is no request for a serial step: where it met a serial instruction at once, pieces stand before it
pieces_before : (ch : Chunk) (role : Role) → asks_serial ch role ≡ false → ch.closed ≡ Some How.Serial → ch.done.n ≡ 0 → is_in_pieces role ≡ true
pieces_before ch role e closed none =
    let empty : is_empty_serial ch ≡ true = and_from (eqb ch.done.n 0) (is_serial ch.closed) (eq-eqb ch.done.n 0 none) (ap is_serial closed) in
    not-false (is_in_pieces role) (ap (λ (b : Bool). b && not (is_in_pieces role)) (sym empty) ∙ e)

chunk_fits : (w : World) (c : ℕ) (h : Occupant) (how : How) → IsGoodHeld w c h → IsCurrent (current w h.chunk.sphere) h.chunk → h.chunk.closed ≡ Some how → is_stopped (sphere_at w h.chunk.sphere).role ≡ false → turn_against (sphere_at w h.chunk.sphere) (Actor.Thread h.thread) ≡ None
    → asks_serial h.chunk (sphere_at w h.chunk.sphere).role ≡ false → ChunkFits w.numbers (over (current w h.chunk.sphere) (sphere_at w h.chunk.sphere)) h.thread h.chunk.start how h.chunk.done.n h.chunk.limit
chunk_fits w c h how held live closed going turn chunk =
    let p = sphere_at w h.chunk.sphere in
    let m = current w h.chunk.sphere in
    let limit = held.thread.limit going in
    let closes = held.chunk.closes in
    record {
      going = going;
      turn = turn_over p (Actor.Thread h.thread) m ∙ turn;
      live = held.thread.lives;
      positive = closes.positive;
      limited = limit.most;
      replayed = limit.replayed;
      ran = ap (λ (r : Run). r.n) live.runs;
      full = λ e. closes.full (closed ∙ ap Some e);
      early = λ ne. closes.early how closed ne;
      serial = λ e. subst (λ (r : Run). IsSome (next_kind r.thread (lays m r.words))) (sym live.runs) (subst (Meets (seen_by h.chunk) m h.chunk.done) (closed ∙ ap Some e) live.next).serial;
      some = λ e none. pieces_before h.chunk p.role chunk (closed ∙ ap Some e) none;
      cut = λ e. closes.cut (closed ∙ ap Some e);
      room = λ e. (let a = closes.room (closed ∙ ap Some e) in let b = closes.few in omega arith);
    }

chunk_fits_at : (w : World) (h : Occupant) (how : How) → h.chunk.sphere < length w.spheres → slice_get (sphere_at w h.chunk.sphere).threads h.thread ≡ Some h.chunk.start
    → ChunkFits w.numbers (over (current w h.chunk.sphere) (sphere_at w h.chunk.sphere)) h.thread h.chunk.start how h.chunk.done.n h.chunk.limit → Fits w.numbers (shown_of w) (move_at (moment w) (chunk_request w h how))
chunk_fits_at w h how within start fits =
    let i = h.chunk.sphere in
    let p = over (current w i) (sphere_at w i) in
    subst (FitsAt w.numbers w.devices (move_at (moment w) (chunk_request w h how))) (sym (shown_at w i within ∙ ap Some (shown_over w i)))
    (subst (FitsChunk w.numbers p h.thread how h.chunk.done.n h.chunk.limit) (sym start) fits)

chunk_turn : (w : World) (h : Occupant) (how : How) → is_stopped (sphere_at w h.chunk.sphere).role ≡ false → turn_against (sphere_at w h.chunk.sphere) (Actor.Thread h.thread) ≡ None → Apart h.chunk.done.words
    → MovesOnly h.thread w.devices (sphere_at w h.chunk.sphere) (chunk_move w h how)
chunk_turn w h how going turn apart =
    let p = sphere_at w h.chunk.sphere in
    chunk-moves h.thread (is_piece how) (is_short w.numbers.s how h.chunk.limit) h.chunk.done w.devices p (has_turn h.thread p going turn) apart

-- the younger chunk goes on after a chunk that is granted whole
chunk_goes : (w : World) (c : ℕ) (h : Occupant) (how : How) (y : Chunk) → h.younger ≡ Some y → IsGoodHeld w c h → is_stopped (sphere_at w h.chunk.sphere).role ≡ false → MovesOnly h.thread w.devices (sphere_at w h.chunk.sphere) (chunk_move w h how)
    → Leaves h.thread (sphere_at w h.chunk.sphere) h.chunk.done (chunk_move w h how) → GoesOn w c (chunk_request w h how) (chunk_move w h how) y
chunk_goes w c h how y e held going moves leaves =
    let b = held.follows y e in
    let p = sphere_at w h.chunk.sphere in
    let q = (chunk_move w h how).sphere in
    record {
      sphere = b.sphere;
      start = λ t there untaken. elim (leaves.thread t there) [
        | inl same ↦ same ∙ sym b.start
        | inr m ↦ absurd (true≢false (sym (and_from t.mask (not y.start.mask) m.0 (ap (λ (u : Parts). not u.mask) b.start ∙ ap not m.1)) ∙ untaken))
      ];
      halving = b.halving ∙ sym moves.keeps.halving;
      limit = λ _. fits-stays p.role q.role _ _ y.limit moves.keeps.replaying (leaves.limits w.numbers.s y.start) (b.limit going);
      chunk = subst (λ (ws : List Stored). IsGoodOver w c h.chunk.sphere ws y) (sym leaves.words) (held.younger y e);
    }

piece_alone : (how : How) → is_piece how ≡ true → may_follow true (Some how) ≡ false
piece_alone How.Limit e = absurd (true≢false (sym e))
piece_alone How.Serial e = refl
piece_alone How.Overflow e = refl
piece_alone How.Cut e = refl

-- no younger chunk follows a piece
none_over_piece : (w : World) (c : ℕ) (h : Occupant) (how : How) (o : Option Chunk) → h.younger ≡ o → IsGoodHeld w c h → h.chunk.closed ≡ Some how → replays (sphere_at w h.chunk.sphere).role ≡ true → is_piece how ≡ true → h.younger ≡ None
none_over_piece w c h how None is held closed replayed piece = is
none_over_piece w c h how (Some y) is held closed replayed piece =
    absurd (true≢false (sym (held.follows y is).allowed ∙ (λ j. may_follow (replayed j) (closed j)) ∙ piece_alone how piece))

chunk_grants : (w : World) (c : ℕ) (h : Occupant) (how : How) → IsGood w → at w.cores c ≡ Some h → h.chunk.closed ≡ Some how → is_stopped (sphere_at w h.chunk.sphere).role ≡ false → turn_against (sphere_at w h.chunk.sphere) (Actor.Thread h.thread) ≡ None
    → is_full w.slots ≡ false → asks_serial h.chunk (sphere_at w h.chunk.sphere).role ≡ false → first_slot (meets_chunk h.chunk.reads h.chunk.writes) w.slots ≡ None
    → Grants w c h (chunk_request w h how) h.chunk.writes (chunk_move w h how)
chunk_grants w c h how good is closed going turn free chunk none =
    let held = good.held c h is in
    let i = h.chunk.sphere in
    let p = sphere_at w i in
    let live = chunk_live w c h held none in
    let v = chunk_move w h how in
    let short = is_short w.numbers.s how h.chunk.limit in
    record {
      is = is;
      sphere = refl;
      thread = refl;
      within = held.sphere;
      going = going;
      moves = chunk-moves h.thread (is_piece how) short h.chunk.done w.devices p (has_turn h.thread p going turn) held.chunk.apart;
      free = free;
      covered = record {
        size = held.chunk.writes_size;
        words = chunk-stores (CoversWords i h.chunk.writes) h.thread (is_piece how) short h.chunk.done w.devices p tt held.chunk.writes;
      };
      lack = chunk-stores (λ (ws : List Stored). AllLack ws (flying i w.slots)) h.thread (is_piece how) short h.chunk.done w.devices p tt (chunk_lacks w c h good held none);
      lives = λ e. chunk-lives h.thread (is_piece how) short h.chunk.done w.devices p e;
      tells = refl;
      whole = chunk_whole w h how held.sphere held.thread.start live.runs;
      fits = chunk_fits_at w h how held.sphere held.thread.start (chunk_fits w c h how held live closed going turn chunk);
      goes = λ granted y e. chunk_goes w c h how y e held going (chunk_turn w h how going turn held.chunk.apart) (chunk-leaves h.thread (is_piece how) short h.chunk.done w.devices p h.chunk.start held.thread.start granted);
      pieces = λ e. let q = piece-replayed h.thread (is_piece how) short h.chunk.done w.devices p e in none_over_piece w c h how h.younger refl held closed q.0 q.1;
    }

-- ---- a serial step

no_flying : (i : ℕ) (xs : List (Option Flight)) → ((k : ℕ) (f : Flight) → at xs k ≡ Some f → eqb f.sphere i ≡ false) → flying i xs ≡ []
no_flying i [] each = refl
no_flying i (None ∷ xs) each = no_flying i xs (λ k f e. each (suc k) f e)
no_flying i (Some f ∷ xs) each =
    (λ j. words-other i f (eqb-false f.sphere i (each zero f refl)) j ++ flying i xs) ∙ no_flying i xs (λ k g e. each (suc k) g e)

none_of_sphere : (w : World) (i : ℕ) → first_slot (is_of_sphere i) w.slots ≡ None → flying i w.slots ≡ []
none_of_sphere w i none = no_flying i w.slots (λ k f is. first_none (is_of_sphere i) w.slots none k f is)

memory_itself : (w : World) (i : ℕ) → flying i w.slots ≡ [] → current w i ≡ (sphere_at w i).memory
memory_itself w i e = ap (lays (sphere_at w i).memory) e

abbrev serial_move : World → Occupant → MovedSphere
serial_move w h = serial_moved h.thread (moment w) h.chunk.start w.devices (sphere_at w h.chunk.sphere)

serial_whole : (w : World) (h : Occupant) → h.chunk.sphere < length w.spheres → slice_get (sphere_at w h.chunk.sphere).threads h.thread ≡ Some h.chunk.start → flying h.chunk.sphere w.slots ≡ [] → (serial_move w h).sphere.memory ≡ (sphere_at w h.chunk.sphere).memory
    → do_move w.numbers (shown_of w) (move_at (moment w) (serial_request h)) ≡ do_moved (shown_of w) h.chunk.sphere (relaid (current w h.chunk.sphere) (serial_move w h))
unfolding do_move
serial_whole w h within start none memory =
    let i = h.chunk.sphere in
    let p = sphere_at w i in
    let v = serial_move w h in
    let itself : over (current w i) p ≡ p = (λ j. over (memory_itself w i none j) p) in
    let same : v.sphere.memory ≡ current w i = memory ∙ sym (memory_itself w i none) in
    ap (do_at w.numbers (shown_of w) (move_at (moment w) (serial_request h))) (shown_at w i within ∙ ap Some (shown_over w i ∙ itself))
    ∙ ap (do_serial (shown_of w) i h.thread (moment w) p) start
    ∙ (λ j. do_moved (shown_of w) i (relaid (same j) v))

-- the thread has run nothing, and its next instruction is serial
serial_next : (m : List ℕ) (ch : Chunk) → IsCurrent m ch → ch.closed ≡ Some How.Serial → ch.done.n ≡ 0 → IsSome (next_kind ch.start m)
serial_next m ch live closed none =
    let e : run_start ch.start ≡ ch.done = subst (λ (n : ℕ). run m ch.start n ≡ ch.done) none live.runs in
    subst (λ (r : Run). IsSome (next_kind r.thread (lays m r.words))) (sym e) (subst (Meets (seen_by ch) m ch.done) closed live.next).serial

serial_closed : (o : Option How) → is_serial o ≡ true → o ≡ Some How.Serial
serial_closed None e = absurd (true≢false (sym e))
serial_closed (Some How.Limit) e = absurd (true≢false (sym e))
serial_closed (Some How.Serial) e = refl
serial_closed (Some How.Overflow) e = absurd (true≢false (sym e))
serial_closed (Some How.Cut) e = absurd (true≢false (sym e))

serial_fits_at : (w : World) (h : Occupant) → h.chunk.sphere < length w.spheres → slice_get (sphere_at w h.chunk.sphere).threads h.thread ≡ Some h.chunk.start
    → SerialFits (over (current w h.chunk.sphere) (sphere_at w h.chunk.sphere)) h.thread h.chunk.start → Fits w.numbers (shown_of w) (move_at (moment w) (serial_request h))
serial_fits_at w h within start fits =
    let i = h.chunk.sphere in
    subst (FitsAt w.numbers w.devices (move_at (moment w) (serial_request h))) (sym (shown_at w i within ∙ ap Some (shown_over w i)))
    (subst (FitsSerial (over (current w i) (sphere_at w i)) h.thread) (sym start) fits)

serial_grants : (w : World) (c : ℕ) (h : Occupant) → IsGood w → at w.cores c ≡ Some h → is_stopped (sphere_at w h.chunk.sphere).role ≡ false → turn_against (sphere_at w h.chunk.sphere) (Actor.Thread h.thread) ≡ None → is_full w.slots ≡ false
    → asks_serial h.chunk (sphere_at w h.chunk.sphere).role ≡ true → first_slot (is_of_sphere h.chunk.sphere) w.slots ≡ None
    → Grants w c h (serial_request h) (signed h.chunk.sphere (serial_move w h).words (nothing w.numbers.bits)) (serial_move w h)
serial_grants w c h good is going turn free serial none =
    let held = good.held c h is in
    let i = h.chunk.sphere in
    let p = sphere_at w i in
    let v = serial_move w h in
    let empty = none_of_sphere w i none in
    let asks = and_parts (is_empty_serial h.chunk) (not (is_in_pieces p.role)) serial in
    let parts = and_parts (eqb h.chunk.done.n 0) (is_serial h.chunk.closed) asks.0 in
    let live : IsCurrent (current w i) h.chunk = held.chunk.live (record { misses = λ k f at_k same untold. absurd (eqb-false f.sphere i (first_none (is_of_sphere i) w.slots none k f at_k) same) }) in
    let moves = serial-moves h.thread (moment w) h.chunk.start w.devices p (has_turn h.thread p going turn) in
    record {
      is = is;
      sphere = refl;
      thread = refl;
      within = held.sphere;
      going = going;
      moves = moves;
      free = free;
      covered = record {
        size = bits-signed i v.words (nothing w.numbers.bits);
        words = CoversWords-signed i v.words (nothing w.numbers.bits);
      };
      lack = subst (AllLack v.words) (sym empty) (AllLack_nil v.words);
      lives = λ e. serial-lives h.thread (moment w) h.chunk.start w.devices p e;
      tells = refl;
      whole = serial_whole w h held.sphere held.thread.start empty moves.keeps.memory;
      fits = serial_fits_at w h held.sphere held.thread.start
          (record {
            going = going;
            turn = turn_over p (Actor.Thread h.thread) (current w i) ∙ turn;
            live = held.thread.lives;
            whole = not-true (is_in_pieces p.role) asks.1;
            serial = serial_next (current w i) h.chunk live (serial_closed h.chunk.closed parts.1) (eqb-true h.chunk.done.n 0 parts.0);
          });
      goes = λ granted y e. absurd (none-some y e);
      pieces = λ e. refl;
    }

-- ---- the event

grant_chunk_preserved : (w : World) (c : ℕ) (h : Occupant) (how : How) → IsGood w → Grants w c h (chunk_request w h how) h.chunk.writes (chunk_move w h how) → Preserved w (grant_chunk w c h how)
unfolding grant_chunk
grant_chunk_preserved w c h how good g = granted-preserved w c h (chunk_request w h how) h.chunk.writes (chunk_move w h how) _ refl good g

grant_serial_preserved : (w : World) (c : ℕ) (h : Occupant) → IsGood w → Grants w c h (serial_request h) (signed h.chunk.sphere (serial_move w h).words (nothing w.numbers.bits)) (serial_move w h) → Preserved w (grant_serial w c h)
unfolding grant_serial
grant_serial_preserved w c h good g = granted-preserved w c h (serial_request h) _ (serial_move w h) _ refl good g

-- the event Ask keeps the invariant
pub ask-preserved : (w : World) (c : ℕ) → IsGood w → Preserved w (asking w c)
ask-preserved w c good =
    any-ask w (Preserved w) (λ r none. unchanged-preserved w (answered w r) refl refl refl good) c
    (λ h how may chunk none. grant_chunk_preserved w c h how good (chunk_grants w c h how good may.is may.closed may.going may.turn may.free chunk none))
    (λ h how may serial none. grant_serial_preserved w c h good (serial_grants w c h good may.is may.going may.turn may.free serial none))
