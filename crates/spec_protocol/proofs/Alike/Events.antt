-- An event does the same in worlds whose recordings have forgotten what they recorded.
use Rattle.std.proofs.Common.{◌≡◌, ℕ, ◌%◌, ◌^◌, Bool, true, false, not, ◌&&◌, cond, List, length, map, Option, Some, None, refl, sym, ap, ◌∙◌, set, get_or}
use Rattle.std.specs.Prelude.{slice_get, option_map}
use Rattle.std.proofs.lemmas.List.{length-map}
use Rattle.std.proofs.lemmas.Option.{none-some, same_Some}
use Rattle.dl_entry.specs.declared.Actor.{Actor}
use Rattle.dl_entry.specs.declared.CommitKind.{CommitKind}
use Rattle.dl_entry.specs.declared.Point.{Point}
use Rattle.spec_isa.specs.declared.thread.Parts.{Parts}
use Rattle.spec_isa.specs.Words.{lays}
use Rattle.spec_kernel.specs.Interrupts.{is_live, has_handler}
use Rattle.spec_play.specs.Progress.{position}
use Rattle.spec_engine.specs.declared.answers.Asked.{Asked}
use Rattle.spec_engine.specs.declared.answers.AskedSerial.{AskedSerial}
use Rattle.spec_engine.specs.declared.answers.Deliver.{Deliver}
use Rattle.spec_engine.specs.declared.answers.How.{How}
use Rattle.spec_engine.specs.Signatures.{Signature, nothing, signed}
use Rattle.spec_engine.specs.Flights.{Flight, at, is_full, drain, deliver, retire}
use Rattle.spec_engine.specs.Chunks.{Chunk, step, cut, is_open, is_empty_serial}
use Rattle.spec_engine.specs.Asking.{ask, ask_serial}
use Rattle.spec_protocol.specs.declared.event.Event.{Event}
use Rattle.spec_protocol.specs.declared.reply.Reply.{Reply}
use Rattle.spec_sphere.specs.sphere.Spheres.{Sphere, no_sphere, is_stopped, turn_against, is_in_pieces, replays}
use Rattle.spec_sphere.specs.sphere.Commits.{CommitOutcome, Granted, Piece, Diverged, MovedSphere, chunk_moved, serial_moved, dma_moved, raised}
use Rattle.spec_engine.specs.Closing.{is_piece}
use Rattle.spec_protocol.specs.machine.World.{Numbers, World, Occupant, flown, OfRaise, EventOutcome, moment, sphere_at, with_sphere, with_core, with_slot, with_memory, thread_afresh, held_afresh, core_of, answered}
use Rattle.spec_protocol.specs.machine.Stepping.{stepped, stepped_younger, younger_for, step_younger, step_held, stepping, cut_to, cut_in, cut_held, cutting}
use Rattle.spec_protocol.specs.machine.Flying.{reply_of_drain, drain_slot, draining, told, reads_of, writes_of, younger_of, hits_younger, deliver_to, delivering, reply_of_retire, retiring}
use Rattle.spec_protocol.specs.machine.Asking.{CommitRequest, point_at, move_at, was_interrupted, promoted, goes_on_with, granted, chunk_request, grant_chunk, serial_request, grant_serial, unless_denied, unless_busy, asks_serial, ask_arbiter, unless_turn, ask_closed, ask_held, asking}
use Rattle.spec_protocol.specs.machine.Transferring.{dma_move, dma_done, transfer, dma_with, dma_if, transferring}
use Rattle.spec_protocol.specs.machine.Placing.{unless_elsewhere, place_thread, placing, with_renewed, raise_in, raise_thread, raising}
use Rattle.spec_protocol.specs.machine.Machine.{core_no, sphere_no, slot_no, act, with_event, happens}
use Rattle.spec_sphere.specs.promises.Alike.{forgotten}
use Rattle.spec_protocol.specs.promises.Alike.{all_forgotten, AreAlike, EndAlike}
use Rattle.spec_protocol.proofs.Alike.Forgetting.{sphere-forgotten, all-twice, younger-without, thread_afresh-forgotten, held_afresh-forgotten}
use Rattle.spec_sphere.proofs.Alike.Forgetting.{set-forgotten, forgotten-twice, rows-twice, put-alike, stopped-without, replays-without, pieces-without, turn-forgotten, moved_forgotten, chunk-forgotten, serial-forgotten, dma-forgotten, raise-forgotten}

-- what an event has come to, in a world that has forgotten
abbrev pub end_forgotten : EventOutcome → EventOutcome
end_forgotten a = record a { world = all_forgotten a.world }

-- of two choices by one test each side is known
either : (b : Bool) (x y u v : EventOutcome) → end_forgotten x ≡ end_forgotten u → end_forgotten y ≡ end_forgotten v → end_forgotten (cond b x y) ≡ end_forgotten (cond b u v)
either true x y u v p q = p
either false x y u v p q = q

promoted_same : (z : Numbers) (i k : ℕ) (p : Sphere) (younger : Option Chunk) (o : Option Parts) → promoted z i k (forgotten p) younger o ≡ promoted z i k p younger o
promoted_same z i k p None o = thread_afresh-forgotten z i k p o
promoted_same z i k p (Some y) None = refl
promoted_same z i k p (Some y) (Some t) =
    ap (λ (h : Option Occupant). cond (is_live t && not (was_interrupted y t)) (Some (record { thread = k; chunk = y; younger = None })) h) (thread_afresh-forgotten z i k p (Some t))

goes_on_same : (z : Numbers) (q : CommitRequest) (p : Sphere) → goes_on_with z q (forgotten p) ≡ goes_on_with z q p
goes_on_same z q p = promoted_same z q.sphere q.thread p q.younger (slice_get p.threads q.thread)

goes_on_alike : (z : Numbers) (q : CommitRequest) (x y : MovedSphere) → moved_forgotten x ≡ moved_forgotten y → goes_on_with z q x.sphere ≡ goes_on_with z q y.sphere
goes_on_alike z q x y same = sym (goes_on_same z q x.sphere) ∙ ap (λ (v : MovedSphere). goes_on_with z q v.sphere) same ∙ goes_on_same z q y.sphere

-- the world, and how it is once it has forgotten
module _ (w : World) where
  still : (r : Reply) → end_forgotten (answered (all_forgotten w) r) ≡ end_forgotten (answered w r)
  still r = ap (λ (u : World). answered u r) (all-twice w)

  -- ---- steps

  younger_steps : (c : ℕ) (h : Occupant) (p : Sphere) (o : Option Chunk) → sphere_at (all_forgotten w) h.chunk.sphere ≡ p → p.memory ≡ (sphere_at w h.chunk.sphere).memory
      → end_forgotten (step_younger (all_forgotten w) c h o) ≡ end_forgotten (step_younger w c h o)
  younger_steps c h p None is same = still Reply.Waiting
  younger_steps c h p (Some y) is same =
      let s = λ (m : List ℕ). step w.numbers.capacity (lays m h.chunk.done.words) w.slots c y in
      let m = (sphere_at w h.chunk.sphere).memory in
      either (is_open y) (stepped_younger (all_forgotten w) c h (s (sphere_at (all_forgotten w) h.chunk.sphere).memory)) (answered (all_forgotten w) Reply.Waiting) (stepped_younger w c h (s m)) (answered w Reply.Waiting)
      (ap (λ (q : Sphere). end_forgotten (stepped_younger (all_forgotten w) c h (s q.memory))) is ∙ ap (λ (n : List ℕ). end_forgotten (stepped_younger (all_forgotten w) c h (s n))) same
      ∙ ap (λ (u : World). stepped_younger u c h (s m)) (all-twice w))
      (still Reply.Waiting)

  held_steps : (c : ℕ) (o : Option Occupant) → end_forgotten (step_held (all_forgotten w) c o) ≡ end_forgotten (step_held w c o)
  held_steps c None = still Reply.Idle
  held_steps c (Some h) =
      let v = all_forgotten w in
      let i = h.chunk.sphere in
      let p = sphere_at w i in
      let q = sphere_at v i in
      let s = λ (m : List ℕ). step w.numbers.capacity m w.slots c h.chunk in
      let at_ : q ≡ forgotten p = sphere-forgotten w i in
      let o = younger_for w.numbers p.role h h.younger in
      let e : younger_for w.numbers q.role h h.younger ≡ o = ap (λ (x : Sphere). younger_for w.numbers x.role h h.younger) at_ ∙ younger-without w.numbers _ p.role h in
      let f : is_stopped q.role ≡ is_stopped p.role = ap (λ (x : Sphere). is_stopped x.role) at_ ∙ stopped-without _ p.role in
      ap (λ (b : Bool). end_forgotten (cond b (answered v Reply.Stopped) (cond (is_open h.chunk) (stepped v c h (s q.memory)) (step_younger v c h (younger_for w.numbers q.role h h.younger))))) f
      ∙ ap (λ (y : Option Chunk). end_forgotten (cond (is_stopped p.role) (answered v Reply.Stopped) (cond (is_open h.chunk) (stepped v c h (s q.memory)) (step_younger v c h y)))) e
      ∙ either (is_stopped p.role) (answered v Reply.Stopped) (cond (is_open h.chunk) (stepped v c h (s q.memory)) (step_younger v c h o)) (answered w Reply.Stopped) (cond (is_open h.chunk) (stepped w c h (s p.memory)) (step_younger w c h o))
      (still Reply.Stopped)
      (either (is_open h.chunk) (stepped v c h (s q.memory)) (step_younger v c h o) (stepped w c h (s p.memory)) (step_younger w c h o)
      (ap (λ (x : Sphere). end_forgotten (stepped v c h (s x.memory))) at_ ∙ ap (λ (u : World). stepped u c h (s p.memory)) (all-twice w))
      (younger_steps c h (forgotten p) o at_ refl))

  step_blind : (c : ℕ) → end_forgotten (stepping (all_forgotten w) c) ≡ end_forgotten (stepping w c)
  unfolding stepping
  step_blind c = held_steps c (at w.cores c)

  -- ---- cuts

  cuts : (c : ℕ) (h : Occupant) (o : Option Chunk) → end_forgotten (cut_in (all_forgotten w) c h o) ≡ end_forgotten (cut_in w c h o)
  cuts c h None = ap (λ (u : World). cut_in u c h None) (all-twice w)
  cuts c h (Some y) = ap (λ (u : World). cut_in u c h (Some y)) (all-twice w)

  held_cuts : (c : ℕ) (o : Option Occupant) → end_forgotten (cut_held (all_forgotten w) c o) ≡ end_forgotten (cut_held w c o)
  held_cuts c None = still Reply.Idle
  held_cuts c (Some h) =
      let v = all_forgotten w in
      let p = sphere_at w h.chunk.sphere in
      let f : is_stopped (sphere_at v h.chunk.sphere).role ≡ is_stopped p.role = ap (λ (x : Sphere). is_stopped x.role) (sphere-forgotten w h.chunk.sphere) ∙ stopped-without _ p.role in
      ap (λ (b : Bool). end_forgotten (cond b (answered v Reply.Stopped) (cut_in v c h h.younger))) f
      ∙ either (is_stopped p.role) (answered v Reply.Stopped) (cut_in v c h h.younger) (answered w Reply.Stopped) (cut_in w c h h.younger) (still Reply.Stopped) (cuts c h h.younger)

  cut_blind : (c : ℕ) → end_forgotten (cutting (all_forgotten w) c) ≡ end_forgotten (cutting w c)
  unfolding cutting
  cut_blind c = held_cuts c (at w.cores c)

  -- ---- flights

  drains : (k : ℕ) (o : Option Flight) → end_forgotten (drain_slot (all_forgotten w) k o) ≡ end_forgotten (drain_slot w k o)
  drains k None = still Reply.NoCommit
  drains k (Some f) =
      let v = all_forgotten w in
      let i = f.sphere in
      let p = sphere_at w i in
      let drained = λ (u : World) (x : Sphere). (
      let d = drain x.memory (Some f) in answered (with_slot (with_sphere u i (record x { memory = d.memory })) k d.slot) (reply_of_drain d.reply)
      ) in
      let d = drain p.memory (Some f) in
      ap (λ (x : Sphere). end_forgotten (drained v x)) (sphere-forgotten w i)
      ∙ (λ j. answered (record w {
        spheres = put-alike w.spheres i (record (forgotten p) { memory = d.memory }) (record p { memory = d.memory }) (forgotten-twice (record p { memory = d.memory })) j;
        slots = set w.slots k d.slot;
      }) (reply_of_drain d.reply))

  drain_blind : (k : ℕ) → end_forgotten (draining (all_forgotten w) k) ≡ end_forgotten (draining w k)
  unfolding draining
  drain_blind k = drains k (at w.slots k)

  tells : (k c : ℕ) (slot : Option Flight) (held : Option Occupant) (d : Deliver) (hit : Bool) → end_forgotten (told (with_slot (all_forgotten w) k slot) c held d hit) ≡ end_forgotten (told (with_slot w k slot) c held d hit)
  tells k c slot held Deliver.NoCommit hit = ap (λ (u : World). told (with_slot u k slot) c held Deliver.NoCommit hit) (all-twice w)
  tells k c slot held Deliver.Already hit = ap (λ (u : World). told (with_slot u k slot) c held Deliver.Already hit) (all-twice w)
  tells k c slot held Deliver.Squashed hit = ap (λ (u : World). told (with_slot u k slot) c held Deliver.Squashed hit) (all-twice w)
  tells k c slot held Deliver.Delivered true = ap (λ (u : World). told (with_slot u k slot) c held Deliver.Delivered true) (all-twice w)
  tells k c slot held Deliver.Delivered false = ap (λ (u : World). told (with_slot u k slot) c held Deliver.Delivered false) (all-twice w)

  reads_same : (o : Option Occupant) → reads_of (all_forgotten w) o ≡ reads_of w o
  reads_same None = refl
  reads_same (Some h) = refl

  writes_same : (o : Option Occupant) → writes_of (all_forgotten w) o ≡ writes_of w o
  writes_same None = refl
  writes_same (Some h) = refl

  deliver_blind : (c k : ℕ) → end_forgotten (delivering (all_forgotten w) c k) ≡ end_forgotten (delivering w c k)
  unfolding delivering
  deliver_blind c k =
      let held = at w.cores c in
      let v = all_forgotten w in
      let tell = λ (u : World) (reads writes : Signature). (
      let d = deliver c reads writes (at w.slots k) in told (with_slot u k d.slot) c held d.reply (hits_younger (at w.slots k) (younger_of held))
      ) in
      (λ j. end_forgotten (tell v (reads_same held j) (writes_same held j)))
      ∙ tells k c _ held _ _

  retire_blind : (k : ℕ) → end_forgotten (retiring (all_forgotten w) k) ≡ end_forgotten (retiring w k)
  unfolding retiring
  retire_blind k =
      let d = retire (length w.cores) (at w.slots k) in
      ap (λ (u : World). answered (with_slot u k d.slot) (reply_of_retire d.reply)) (all-twice w)

  -- ---- asks

  grants : (c : ℕ) (q : CommitRequest) (writes : Signature) (x y : MovedSphere) (o : CommitOutcome) → moved_forgotten x ≡ moved_forgotten y → end_forgotten (granted (all_forgotten w) c q writes x o) ≡ end_forgotten (granted w c q writes y o)
  grants c q writes x y Granted same = (λ j. record {
    reply = Reply.Granted;
    world = record w {
      spheres = put-alike w.spheres q.sphere x.sphere y.sphere (ap (λ (v : MovedSphere). v.sphere) same) j;
      slots = flown q.sphere (same j).words writes (2 ^ c) w.slots;
      cores = set w.cores c (goes_on_alike w.numbers q x y same j);
      devices = (same j).devices;
    };
    point = Some (point_at (moment w) q q.kind);
    move = Some (move_at (moment w) q);
  })
  grants c q writes x y Piece same = (λ j. record {
    reply = Reply.Piece;
    world = record w {
      spheres = put-alike w.spheres q.sphere x.sphere y.sphere (ap (λ (v : MovedSphere). v.sphere) same) j;
      slots = flown q.sphere (same j).words writes (2 ^ c) w.slots;
      cores = set w.cores c (goes_on_alike w.numbers q x y same j);
      devices = (same j).devices;
    };
    point = Some (point_at (moment w) q CommitKind.Piece);
    move = Some (move_at (moment w) q);
  })
  grants c q writes x y (Diverged n why) same = (λ j. record {
    reply = Reply.Diverged n why;
    world = record w { spheres = put-alike w.spheres q.sphere x.sphere y.sphere (ap (λ (v : MovedSphere). v.sphere) same) j };
    point = None;
    move = Some (move_at (moment w) q);
  })

  chunk_blind : (c : ℕ) (h : Occupant) (how : How) → end_forgotten (grant_chunk (all_forgotten w) c h how) ≡ end_forgotten (grant_chunk w c h how)
  unfolding grant_chunk
  chunk_blind c h how =
      let v = all_forgotten w in
      let q = chunk_request w h how in
      let moved = λ (p : Sphere). chunk_moved h.thread (is_piece how) q.short h.chunk.done w.devices p in
      let p = sphere_at w h.chunk.sphere in
      let x = moved (sphere_at v h.chunk.sphere) in
      let same : moved_forgotten x ≡ moved_forgotten (moved p) = ap (λ (r : Sphere). moved_forgotten (moved r)) (sphere-forgotten w h.chunk.sphere) ∙ chunk-forgotten h.thread (is_piece how) q.short h.chunk.done w.devices p in
      ap (λ (y : MovedSphere). end_forgotten (granted v c q h.chunk.writes x y.outcome)) same
      ∙ grants c q h.chunk.writes x (moved p) (moved p).outcome same

  serial_blind : (c : ℕ) (h : Occupant) → end_forgotten (grant_serial (all_forgotten w) c h) ≡ end_forgotten (grant_serial w c h)
  unfolding grant_serial
  serial_blind c h =
      let v = all_forgotten w in
      let i = h.chunk.sphere in
      let q = serial_request h in
      let moved = λ (p : Sphere). serial_moved h.thread (moment w) h.chunk.start w.devices p in
      let writes = λ (y : MovedSphere). signed i y.words (nothing w.numbers.bits) in
      let p = sphere_at w i in
      let x = moved (sphere_at v i) in
      let same : moved_forgotten x ≡ moved_forgotten (moved p) = ap (λ (r : Sphere). moved_forgotten (moved r)) (sphere-forgotten w i) ∙ serial-forgotten h.thread (moment w) h.chunk.start w.devices p in
      ap (λ (y : MovedSphere). end_forgotten (granted v c q (writes y) x y.outcome)) same
      ∙ grants c q (writes (moved p)) x (moved p) (moved p).outcome same

  denials : (a : Asked) (x y : EventOutcome) → end_forgotten x ≡ end_forgotten y → end_forgotten (unless_denied a (all_forgotten w) x) ≡ end_forgotten (unless_denied a w y)
  denials Asked.Grant x y same = same
  denials (Asked.Denied k) x y same = still (Reply.Denied k)

  busies : (a : AskedSerial) (x y : EventOutcome) → end_forgotten x ≡ end_forgotten y → end_forgotten (unless_busy a (all_forgotten w) x) ≡ end_forgotten (unless_busy a w y)
  busies AskedSerial.Grant x y same = same
  busies (AskedSerial.SphereBusy k) x y same = still (Reply.SphereBusy k)

  turns : (a : Option Actor) (x y : EventOutcome) → end_forgotten x ≡ end_forgotten y → end_forgotten (unless_turn a (all_forgotten w) x) ≡ end_forgotten (unless_turn a w y)
  turns None x y same = same
  turns (Some actor) x y same = still (Reply.NotTurn actor)

  arbiters : (c : ℕ) (h : Occupant) (how : How) (serial : Bool) → end_forgotten (ask_arbiter (all_forgotten w) c h how serial) ≡ end_forgotten (ask_arbiter w c h how serial)
  arbiters c h how true = busies (ask_serial h.chunk.sphere w.slots) (grant_serial (all_forgotten w) c h) (grant_serial w c h) (serial_blind c h)
  arbiters c h how false = denials (ask h.chunk.reads h.chunk.writes w.slots) (grant_chunk (all_forgotten w) c h how) (grant_chunk w c h how) (chunk_blind c h how)

  closed_asks : (c : ℕ) (h : Occupant) (o : Option How) → end_forgotten (ask_closed (all_forgotten w) c h o) ≡ end_forgotten (ask_closed w c h o)
  closed_asks c h None = still Reply.NotClosed
  closed_asks c h (Some how) =
      let v = all_forgotten w in
      let p = sphere_at w h.chunk.sphere in
      let actor = Actor.Thread h.thread in
      let asked = λ (u : World) (stopped : Bool) (turn : Option Actor) (serial : Bool). (
      cond stopped (answered u Reply.Stopped) (unless_turn turn u (cond (is_full w.slots) (answered u Reply.WindowFull) (ask_arbiter u c h how serial)))
      ) in
      let serial = asks_serial h.chunk p.role in
      ap (λ (q : Sphere). end_forgotten (asked v (is_stopped q.role) (turn_against q actor) (asks_serial h.chunk q.role))) (sphere-forgotten w h.chunk.sphere)
      ∙ (λ j. end_forgotten (asked v (stopped-without (position p.progress) p.role j) (turn-forgotten p actor j) (is_empty_serial h.chunk && not (pieces-without (position p.progress) p.role j))))
      ∙ either (is_stopped p.role) (answered v Reply.Stopped) (unless_turn (turn_against p actor) v (cond (is_full w.slots) (answered v Reply.WindowFull) (ask_arbiter v c h how serial)))
      (answered w Reply.Stopped) (unless_turn (turn_against p actor) w (cond (is_full w.slots) (answered w Reply.WindowFull) (ask_arbiter w c h how serial)))
      (still Reply.Stopped)
      (turns (turn_against p actor) _ _
      (either (is_full w.slots) (answered v Reply.WindowFull) (ask_arbiter v c h how serial) (answered w Reply.WindowFull) (ask_arbiter w c h how serial) (still Reply.WindowFull) (arbiters c h how serial)))

  held_asks : (c : ℕ) (o : Option Occupant) → end_forgotten (ask_held (all_forgotten w) c o) ≡ end_forgotten (ask_held w c o)
  held_asks c None = still Reply.Idle
  held_asks c (Some h) = closed_asks c h h.chunk.closed

  ask_blind : (c : ℕ) → end_forgotten (asking (all_forgotten w) c) ≡ end_forgotten (asking w c)
  unfolding asking
  ask_blind c = held_asks c (at w.cores c)

  -- ---- DMAs

  done_alike : (i : ℕ) (writes : Signature) (x y : MovedSphere) → moved_forgotten x ≡ moved_forgotten y → end_forgotten (dma_done (all_forgotten w) i writes x) ≡ end_forgotten (dma_done w i writes y)
  done_alike i writes x y same = (λ j. record {
    reply = Reply.DmaDone;
    world = record w {
      spheres = put-alike w.spheres i x.sphere y.sphere (ap (λ (v : MovedSphere). v.sphere) same) j;
      slots = flown i (same j).words writes 0 w.slots;
      devices = (same j).devices;
    };
    point = Some (Point.Commit (moment w) i Actor.Dma CommitKind.Dma 0 false);
    move = Some (dma_move w i);
  })

  transfers : (i : ℕ) (x y : MovedSphere) → moved_forgotten x ≡ moved_forgotten y → end_forgotten (transfer (all_forgotten w) i x) ≡ end_forgotten (transfer w i y)
  unfolding transfer
  transfers i x y same =
      let v = all_forgotten w in
      let writes = λ (u : MovedSphere). signed i u.words (nothing w.numbers.bits) in
      let g = writes y in
      ap (λ (u : MovedSphere). end_forgotten (cond (is_full w.slots) (answered v Reply.WindowFull) (unless_denied (ask (writes u) (writes u) w.slots) v (dma_done v i (writes u) x)))) same
      ∙ either (is_full w.slots) (answered v Reply.WindowFull) (unless_denied (ask g g w.slots) v (dma_done v i g x)) (answered w Reply.WindowFull) (unless_denied (ask g g w.slots) w (dma_done w i g y))
      (still Reply.WindowFull)
      (denials (ask g g w.slots) (dma_done v i g x) (dma_done w i g y) (done_alike i g x y same))

  dma_ends : (i : ℕ) (x y : MovedSphere) (o : CommitOutcome) → moved_forgotten x ≡ moved_forgotten y → end_forgotten (dma_with (all_forgotten w) i x o) ≡ end_forgotten (dma_with w i y o)
  dma_ends i x y Granted same = transfers i x y same
  dma_ends i x y Piece same = transfers i x y same
  dma_ends i x y (Diverged n why) same = (λ j. record {
    reply = Reply.Diverged n why;
    world = record w { spheres = put-alike w.spheres i x.sphere y.sphere (ap (λ (v : MovedSphere). v.sphere) same) j };
    point = None;
    move = Some (dma_move w i);
  })

  dma_both : (i : ℕ) (o q : Option MovedSphere) → option_map moved_forgotten o ≡ option_map moved_forgotten q → end_forgotten (dma_if (all_forgotten w) i o) ≡ end_forgotten (dma_if w i q)
  dma_both i None None same = still Reply.NoDma
  dma_both i None (Some y) same = absurd (none-some (moved_forgotten y) same)
  dma_both i (Some x) None same = absurd (none-some (moved_forgotten x) (sym same))
  dma_both i (Some x) (Some y) same =
      let e : moved_forgotten x ≡ moved_forgotten y = same_Some _ _ same in
      ap (λ (u : MovedSphere). end_forgotten (dma_with (all_forgotten w) i x u.outcome)) e ∙ dma_ends i x y y.outcome e

  dma_blind : (i : ℕ) → end_forgotten (transferring (all_forgotten w) i) ≡ end_forgotten (transferring w i)
  unfolding transferring
  dma_blind i =
      let v = all_forgotten w in
      let p = sphere_at w i in
      let q = sphere_at v i in
      let rest = λ (u : World) (o : Option MovedSphere) (stopped : Bool) (turn : Option Actor). cond stopped (answered u Reply.Stopped) (unless_turn turn u (dma_if u i o)) in
      let e = sphere-forgotten w i in
      let same : option_map moved_forgotten (dma_moved w.devices q) ≡ option_map moved_forgotten (dma_moved w.devices p) = ap (λ (r : Sphere). option_map moved_forgotten (dma_moved w.devices r)) e ∙ dma-forgotten w.devices p in
      ap (λ (r : Sphere). end_forgotten (rest v (dma_moved w.devices q) (is_stopped r.role) (turn_against r Actor.Dma))) e
      ∙ (λ j. end_forgotten (rest v (dma_moved w.devices q) (stopped-without (position p.progress) p.role j) (turn-forgotten p Actor.Dma j)))
      ∙ either (is_stopped p.role) (answered v Reply.Stopped) (unless_turn (turn_against p Actor.Dma) v (dma_if v i (dma_moved w.devices q)))
      (answered w Reply.Stopped) (unless_turn (turn_against p Actor.Dma) w (dma_if w i (dma_moved w.devices p)))
      (still Reply.Stopped)
      (turns (turn_against p Actor.Dma) _ _ (dma_both i (dma_moved w.devices q) (dma_moved w.devices p) same))

  -- ---- threads

  elsewheres : (o : Option ℕ) (x y : EventOutcome) → end_forgotten x ≡ end_forgotten y → end_forgotten (unless_elsewhere o (all_forgotten w) x) ≡ end_forgotten (unless_elsewhere o w y)
  elsewheres None x y same = same
  elsewheres (Some d) x y same = still (Reply.Elsewhere d)

  places : (c i k : ℕ) (o : Option Parts) → end_forgotten (place_thread (all_forgotten w) c i k o) ≡ end_forgotten (place_thread w c i k o)
  places c i k None = still Reply.NoThread
  places c i k (Some t) =
      let v = all_forgotten w in
      let placed = λ (u : World) (held : Option Occupant). answered (with_core u c held) Reply.Placed in
      let held = held_afresh w.numbers i k (sphere_at w i) in
      let e : held_afresh w.numbers i k (sphere_at v i) ≡ held = ap (held_afresh w.numbers i k) (sphere-forgotten w i) ∙ held_afresh-forgotten w.numbers i k (sphere_at w i) in
      ap (λ (h : Option Occupant). end_forgotten (cond (is_live t) (unless_elsewhere (core_of w i k) v (placed v h)) (answered v Reply.Ended))) e
      ∙ either (is_live t) (unless_elsewhere (core_of w i k) v (placed v held)) (answered v Reply.Ended) (unless_elsewhere (core_of w i k) w (placed w held)) (answered w Reply.Ended)
      (elsewheres (core_of w i k) (placed v held) (placed w held) (ap (λ (u : World). placed u held) (all-twice w)))
      (still Reply.Ended)

  place_blind : (c i k : ℕ) → end_forgotten (placing (all_forgotten w) c i k) ≡ end_forgotten (placing w c i k)
  unfolding placing
  place_blind c i k =
      ap (λ (p : Sphere). end_forgotten (place_thread (all_forgotten w) c i k (slice_get p.threads k))) (sphere-forgotten w i)
      ∙ places c i k (slice_get (sphere_at w i).threads k)

  renewed : (i k : ℕ) (x y : Sphere) (o : Option ℕ) → forgotten x ≡ forgotten y → all_forgotten (with_renewed (with_sphere (all_forgotten w) i x) i k o) ≡ all_forgotten (with_renewed (with_sphere w i y) i k o)
  renewed i k x y None same = (λ j. record w { spheres = put-alike w.spheres i x y same j })
  renewed i k x y (Some c) same =
      let u = with_sphere (all_forgotten w) i x in
      let v = with_sphere w i y in
      let z = w.numbers in
      let rows = put-alike w.spheres i x y same in
      let e : forgotten (sphere_at u i) ≡ forgotten (sphere_at v i) = sym (sphere-forgotten u i) ∙ ap (λ (ps : List Sphere). get_or ps i no_sphere) rows ∙ sphere-forgotten v i in
      let held : held_afresh z i k (sphere_at u i) ≡ held_afresh z i k (sphere_at v i) = sym (held_afresh-forgotten z i k (sphere_at u i)) ∙ ap (held_afresh z i k) e ∙ held_afresh-forgotten z i k (sphere_at v i) in
      (λ j. record w { spheres = rows j; cores = set w.cores c (held j) })

  raises : (i k value : ℕ) (t : Parts) → end_forgotten (raise_in (all_forgotten w) i k value t) ≡ end_forgotten (raise_in w i k value t)
  raises i k value t =
      let v = all_forgotten w in
      let p = sphere_at w i in
      let x = raised k value t (sphere_at v i) in
      let y = raised k value t p in
      let same : forgotten x ≡ forgotten y = ap (λ (q : Sphere). forgotten (raised k value t q)) (sphere-forgotten w i) ∙ raise-forgotten k value t p in
      (λ j. record {
        reply = Reply.Raised;
        world = renewed i k x y (core_of w i k) same j;
        point = Some (Point.Raise (moment w) i k value);
        move = Some (record { moment = moment w; sphere = i; what = OfRaise k value });
      })

  raise_threads : (i k value : ℕ) (o : Option Parts) → end_forgotten (raise_thread (all_forgotten w) i k value o) ≡ end_forgotten (raise_thread w i k value o)
  raise_threads i k value None = still Reply.NoThread
  raise_threads i k value (Some t) =
      let v = all_forgotten w in
      let unmasked = λ (u : World). cond t.mask (answered u Reply.Masked) (raise_in u i k value t) in
      let handled = λ (u : World). cond (has_handler t) (unmasked u) (answered u Reply.NoHandler) in
      either (is_live t) (handled v) (answered v Reply.Ended) (handled w) (answered w Reply.Ended)
      (either (has_handler t) (unmasked v) (answered v Reply.NoHandler) (unmasked w) (answered w Reply.NoHandler)
      (either t.mask (answered v Reply.Masked) (raise_in v i k value t) (answered w Reply.Masked) (raise_in w i k value t) (still Reply.Masked) (raises i k value t))
      (still Reply.NoHandler))
      (still Reply.Ended)

  raise_blind : (i k value : ℕ) → end_forgotten (raising (all_forgotten w) i k value) ≡ end_forgotten (raising w i k value)
  unfolding raising
  raise_blind i k value =
      let v = all_forgotten w in
      let p = sphere_at w i in
      let rest = λ (u : World) (b : Bool) (o : Option Parts). cond b (answered u Reply.FromLog) (raise_thread u i k value o) in
      let o = slice_get p.threads k in
      ap (λ (q : Sphere). end_forgotten (rest v (replays q.role) (slice_get q.threads k))) (sphere-forgotten w i)
      ∙ ap (λ (b : Bool). end_forgotten (rest v b o)) (replays-without (position p.progress) p.role)
      ∙ either (replays p.role) (answered v Reply.FromLog) (raise_thread v i k value o) (answered w Reply.FromLog) (raise_thread w i k value o)
      (still Reply.FromLog) (raise_threads i k value o)

  -- ---- all

  count_same : length (all_forgotten w).spheres ≡ length w.spheres
  count_same = length-map w.spheres forgotten

  act_blind : (e : Event) → end_forgotten (act (all_forgotten w) e) ≡ end_forgotten (act w e)
  unfolding act
  act_blind (Event.Step c) = step_blind (core_no w c)
  act_blind (Event.Cut c) = cut_blind (core_no w c)
  act_blind (Event.Ask c) = ask_blind (core_no w c)
  act_blind (Event.Drain k) = drain_blind (slot_no w k)
  act_blind (Event.Deliver c k) = deliver_blind (core_no w c) (slot_no w k)
  act_blind (Event.Retire k) = retire_blind (slot_no w k)
  act_blind (Event.Place c i k) =
      ap (λ (n : ℕ). end_forgotten (placing (all_forgotten w) (core_no w c) (i % n) k)) count_same ∙ place_blind (core_no w c) (sphere_no w i) k
  act_blind (Event.Raise i k value) =
      ap (λ (n : ℕ). end_forgotten (raising (all_forgotten w) (i % n) k value)) count_same ∙ raise_blind (sphere_no w i) k value
  act_blind (Event.Dma i) = ap (λ (n : ℕ). end_forgotten (transferring (all_forgotten w) (i % n))) count_same ∙ dma_blind (sphere_no w i)

  -- an event at the world that has forgotten comes to what it comes to, with its log forgotten
  pub happens-forgotten : (e : Event) → end_forgotten (happens (all_forgotten w) e) ≡ end_forgotten (happens w e)
  unfolding happens
  happens-forgotten e = ap (λ (a : EventOutcome). record a { world = with_event a }) (act_blind e)

-- worlds that are alike stay so through every event
pub happen-alike : (w v : World) (e : Event) → AreAlike w v → EndAlike (happens w e) (happens v e)
happen-alike w v e same =
    let all : end_forgotten (happens w e) ≡ end_forgotten (happens v e) = sym (happens-forgotten w e) ∙ ap (λ (u : World). end_forgotten (happens u e)) same ∙ happens-forgotten v e in
    record {
      reply = ap (λ (a : EventOutcome). a.reply) all;
      point = ap (λ (a : EventOutcome). a.point) all;
      move = ap (λ (a : EventOutcome). a.move) all;
      worlds = ap (λ (a : EventOutcome). a.world) all;
    }
