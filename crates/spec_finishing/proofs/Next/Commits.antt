-- If no flight is left and it is an actor's turn, its commit is done: a closed chunk's ask, or a DMA.
use Rattle.std.proofs.Common.{◌≡◌, ℕ, ◌+◌, ◌<◌, ◌≤◌, Bool, true, false, eqb, cond, List, length, Option, Some, None, refl, sym, ap, ◌∙◌, subst, arith}
use Rattle.std.proofs.lemmas.Bool.{true≢false, and_parts, eqb-true, eq-eqb}
use Rattle.dl_entry.specs.declared.Actor.{Actor}
use Rattle.spec_engine.specs.declared.answers.How.{How}
use Rattle.spec_engine.specs.Signatures.{Signature, nothing, signed}
use Rattle.spec_engine.specs.Flights.{Flight, at, is_none, free_slot, is_full, first_slot, meets_chunk, is_of_sphere}
use Rattle.spec_engine.specs.Chunks.{is_serial, is_empty_serial}
use Rattle.spec_engine.specs.Asking.{ask, ask_serial, denied_by, busy_by}
use Rattle.spec_engine.proofs.Searches.{full_at}
use Rattle.spec_play.specs.Transfers.{dma_verdict}
use Rattle.spec_protocol.specs.declared.reply.Reply.{Reply}
use Rattle.spec_sphere.specs.sphere.Spheres.{other_than, takes_turns, turn_in, turn_against, Cursor, Role, Replay, Sphere, is_stopped, actor_of}
use Rattle.spec_sphere.specs.sphere.Commits.{CommitOutcome, Granted, Piece, Diverged, MovedSphere, chunk_moved, serial_moved, dma_by_verdict, dma_in, dma_moved}
use Rattle.spec_engine.specs.Closing.{is_piece}
use Rattle.spec_protocol.specs.machine.World.{World, Occupant, Move, EventOutcome, moment, sphere_at, answered}
use Rattle.spec_protocol.specs.machine.Asking.{CommitRequest, move_at, granted, chunk_request, grant_chunk, serial_request, grant_serial, unless_denied, unless_busy, asks_serial, ask_arbiter, unless_turn, ask_closed, ask_held, asking}
use Rattle.spec_protocol.specs.machine.Transferring.{dma_move, dma_done, transfer, dma_with, dma_if, transferring}
use Rattle.spec_protocol.specs.machine.Machine.{Setup}
use Rattle.spec_protocol.specs.machine.Finishing.{standing}
use Rattle.spec_finishing.specs.Ending.{furthers_finishing}
use Rattle.spec_finishing.proofs.Paying.Moves.{what_more}
use Rattle.spec_finishing.proofs.Next.Turns.{no-flight, HasActor}
use Rattle.spec_finishing.proofs.Next.UnderWay.{OnCore}
use Rattle.spec_finishing.proofs.Next.StepRises.{none_found}

-- the event is done, and has a move in sphere i, which pays for n events and three
pub record Commits (i n : ℕ) (a : EventOutcome) : Type 0 where
  pub done : furthers_finishing a.reply ≡ true
  pub move : Move
  pub is : a.move ≡ Some move
  pub sphere : move.sphere ≡ i
  pub more : n + 3 ≤ what_more move.what

-- ---- with no flight left

not_full : (xs : List (Option Flight)) (o : Option ℕ) → free_slot xs ≡ o → ((k : ℕ) → at xs k ≡ None) → 0 < length xs → is_none o ≡ false
not_full xs None e none l = absurd (true≢false (sym (ap is_none (none 0)) ∙ full_at xs e 0 l))
not_full xs (Some k) e none l = refl

room_there : (xs : List (Option Flight)) → ((k : ℕ) → at xs k ≡ None) → 0 < length xs → is_full xs ≡ false
room_there xs none l = not_full xs (free_slot xs) refl none l

not_denied : (w : World) (a : EventOutcome) (reads writes : Signature) → ((k : ℕ) → at w.slots k ≡ None) → unless_denied (ask reads writes w.slots) w a ≡ a
not_denied w a reads writes none =
    ap (λ (o : Option ℕ). unless_denied (denied_by o) w a) (none_found (meets_chunk reads writes) w.slots (first_slot (meets_chunk reads writes) w.slots) refl none)

not_busy : (w : World) (a : EventOutcome) (i : ℕ) → ((k : ℕ) → at w.slots k ≡ None) → unless_busy (ask_serial i w.slots) w a ≡ a
not_busy w a i none =
    ap (λ (o : Option ℕ). unless_busy (busy_by o) w a) (none_found (is_of_sphere i) w.slots (first_slot (is_of_sphere i) w.slots) refl none)

-- ---- Ask

granted_commits : (w : World) (c : ℕ) (q : CommitRequest) (writes : Signature) (v : MovedSphere) (o : CommitOutcome) (n : ℕ) → n + 3 ≤ what_more q.what → Commits q.sphere n (granted w c q writes v o)
granted_commits w c q writes v Granted n l = record { done = refl; move = move_at (moment w) q; is = refl; sphere = refl; more = l }
granted_commits w c q writes v Piece n l = record { done = refl; move = move_at (moment w) q; is = refl; sphere = refl; more = l }
granted_commits w c q writes v (Diverged i why) n l = record { done = refl; move = move_at (moment w) q; is = refl; sphere = refl; more = l }

chunk_commits : (w : World) (c : ℕ) (h : Occupant) (how : How) → Commits h.chunk.sphere h.chunk.done.n (grant_chunk w c h how)
unfolding grant_chunk
chunk_commits w c h how =
    let q = chunk_request w h how in
    let v = chunk_moved h.thread (is_piece how) q.short h.chunk.done w.devices (sphere_at w h.chunk.sphere) in
    granted_commits w c q h.chunk.writes v v.outcome h.chunk.done.n (omega arith)

serial_commits : (w : World) (c : ℕ) (h : Occupant) → h.chunk.done.n ≡ 0 → Commits h.chunk.sphere h.chunk.done.n (grant_serial w c h)
unfolding grant_serial
serial_commits w c h e =
    let v = serial_moved h.thread (moment w) h.chunk.start w.devices (sphere_at w h.chunk.sphere) in
    granted_commits w c (serial_request h) (signed h.chunk.sphere v.words (nothing w.numbers.bits)) v v.outcome h.chunk.done.n (omega (arith, e))

arbiter_commits : (w : World) (c : ℕ) (h : Occupant) (how : How) (serial : Bool) → ((k : ℕ) → at w.slots k ≡ None) → (serial ≡ true → h.chunk.done.n ≡ 0) → Commits h.chunk.sphere h.chunk.done.n (ask_arbiter w c h how serial)
arbiter_commits w c h how true none empty =
    subst (Commits h.chunk.sphere h.chunk.done.n) (sym (not_busy w (grant_serial w c h) h.chunk.sphere none)) (serial_commits w c h (empty refl))
arbiter_commits w c h how false none empty =
    subst (Commits h.chunk.sphere h.chunk.done.n) (sym (not_denied w (grant_chunk w c h how) h.chunk.reads h.chunk.writes none)) (chunk_commits w c h how)

empty_of : (h : Occupant) (role : Role) → asks_serial h.chunk role ≡ true → h.chunk.done.n ≡ 0
empty_of h role e =
    let a = and_parts (is_empty_serial h.chunk) _ e in
    let b = and_parts (eqb h.chunk.done.n 0) (is_serial h.chunk.closed) a.0 in
    eqb-true h.chunk.done.n 0 b.0

own_turn : (k : ℕ) → other_than (Actor.Thread k) (Some (Actor.Thread k)) ≡ None
own_turn k = ap {A = Bool} (λ b. cond b None (Some (Actor.Thread k))) (eq-eqb k k refl)

-- whether or not it waits for its turn
free_by : (takes : Bool) (o : Option Actor) → o ≡ None → cond takes o None ≡ None
free_by true o free = free
free_by false o free = refl

turn_of_head : (p : Sphere) (b : Cursor) (k : ℕ) → p.role ≡ Replay b → actor_of b.now ≡ Some (Actor.Thread k) → turn_against p (Actor.Thread k) ≡ None
unfolding turn_against
turn_of_head p b k role turn =
    ap (λ (r : Role). turn_in r p (Actor.Thread k)) role
    ∙ free_by (takes_turns (Actor.Thread k) (Replay b)) (other_than (Actor.Thread k) (actor_of b.now))
    (ap (λ (o : Option Actor). other_than (Actor.Thread k) o) turn ∙ own_turn k)

ask_is : (w : World) (c : ℕ) (h : Occupant) (how : How) → at w.cores c ≡ Some h → h.chunk.closed ≡ Some how → is_stopped (sphere_at w h.chunk.sphere).role ≡ false → turn_against (sphere_at w h.chunk.sphere) (Actor.Thread h.thread) ≡ None → is_full w.slots ≡ false
    → asking w c ≡ ask_arbiter w c h how (asks_serial h.chunk (sphere_at w h.chunk.sphere).role)
unfolding asking
ask_is w c h how is closed going turn free =
    let p = sphere_at w h.chunk.sphere in
    let arbiter = ask_arbiter w c h how (asks_serial h.chunk p.role) in
    let room = cond (is_full w.slots) (answered w Reply.WindowFull) arbiter in
    ap (ask_held w c) is
    ∙ ap (ask_closed w c h) closed
    ∙ ap {A = Bool} (λ b. cond b (answered w Reply.Stopped) (unless_turn (turn_against p (Actor.Thread h.thread)) w room)) going
    ∙ ap (λ (o : Option Actor). unless_turn o w room) turn
    ∙ ap {A = Bool} (λ b. cond b (answered w Reply.WindowFull) arbiter) free

-- the ask of the closed chunk of the thread whose turn it is commits it
pub ask-commits : (s : Setup) (w : World) (i k c : ℕ) (h : Occupant) (how : How) → standing w ≡ None → 0 < length w.slots → HasActor s w i (Actor.Thread k) → OnCore w i k c h → h.chunk.closed ≡ Some how → Commits i h.chunk.done.n (asking w c)
ask-commits s w i k c h how none l a on closed =
    let p = sphere_at w h.chunk.sphere in
    let same : p ≡ a.sphere = ap (sphere_at w) on.sphere ∙ a.at in
    let going : is_stopped p.role ≡ false = ap (λ (q : Sphere). is_stopped q.role) same ∙ ap is_stopped a.role ∙ a.going in
    let turn : turn_against p (Actor.Thread h.thread) ≡ None =
    ap (λ (j : ℕ). turn_against p (Actor.Thread j)) on.thread ∙ turn_of_head p a.cursor k (ap (λ (q : Sphere). q.role) same ∙ a.role) a.turn
    in
    let e = ask_is w c h how on.there closed going turn (room_there w.slots (no-flight w none) l) in
    subst (λ (j : ℕ). Commits j h.chunk.done.n (asking w c)) on.sphere
    (subst (Commits h.chunk.sphere h.chunk.done.n) (sym e)
    (arbiter_commits w c h how (asks_serial h.chunk p.role) (no-flight w none) (empty_of h p.role)))

-- ---- Dma

done_commits : (w : World) (i : ℕ) (v : MovedSphere) → ((k : ℕ) → at w.slots k ≡ None) → 0 < length w.slots → Commits i 0 (transfer w i v)
unfolding transfer
done_commits w i v none l =
    let writes = signed i v.words (nothing w.numbers.bits) in
    subst (Commits i 0)
    (sym (ap {A = Bool} (λ b. cond b (answered w Reply.WindowFull) (unless_denied (ask writes writes w.slots) w (dma_done w i writes v))) (room_there w.slots none l)
    ∙ not_denied w (dma_done w i writes v) writes writes none))
    (record { done = refl; move = dma_move w i; is = refl; sphere = refl; more = omega arith })

outcome_commits : (w : World) (i : ℕ) (v : MovedSphere) (o : CommitOutcome) → ((k : ℕ) → at w.slots k ≡ None) → 0 < length w.slots → Commits i 0 (dma_with w i v o)
outcome_commits w i v Granted none l = done_commits w i v none l
outcome_commits w i v Piece none l = done_commits w i v none l
outcome_commits w i v (Diverged j why) none l = record { done = refl; move = dma_move w i; is = refl; sphere = refl; more = omega arith }

dma_is : (w : World) (i : ℕ) (p : Sphere) (b : Cursor) → sphere_at w i ≡ p → p.role ≡ Replay b → is_stopped (Replay b) ≡ false → actor_of b.now ≡ Some Actor.Dma
    → transferring w i ≡ dma_if w i (dma_in (Replay b) w.devices p)
unfolding transferring dma_moved turn_against
dma_is w i p b at role going turn =
    let by = λ (q : Sphere) (r : Role). cond (is_stopped r) (answered w Reply.Stopped) (unless_turn (turn_in r q Actor.Dma) w (dma_if w i (dma_in r w.devices q))) in
    (λ j. by (at j) (at j).role) ∙ ap (by p) role
    ∙ ap {A = Bool} (λ c. cond c (answered w Reply.Stopped) (unless_turn (turn_in (Replay b) p Actor.Dma) w (dma_if w i (dma_in (Replay b) w.devices p)))) going
    ∙ ap (λ (o : Option Actor). unless_turn (other_than Actor.Dma o) w (dma_if w i (dma_in (Replay b) w.devices p))) turn

-- at the DMA's turn it is done
pub dma-commits : (s : Setup) (w : World) (i : ℕ) → standing w ≡ None → 0 < length w.slots → HasActor s w i Actor.Dma → Commits i 0 (transferring w i)
dma-commits s w i none l a =
    let b = a.cursor in
    let v = dma_by_verdict b (dma_verdict b.log a.sphere.progress b.used) w.devices a.sphere in
    subst (Commits i 0) (sym (dma_is w i a.sphere b a.at a.role a.going a.turn))
    (outcome_commits w i v v.outcome (no-flight w none) l)
