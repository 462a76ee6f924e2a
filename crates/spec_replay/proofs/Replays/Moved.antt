-- What each move makes of a replayed sphere: it is in the play of its log again.
use Rattle.std.proofs.Common.{◌≡◌, ℕ, ◌<◌, ◌≤◌, inl, inr, false, List, Option, Some, None, refl, sym, ap, ◌∙◌, subst, arith, set}
use Rattle.std.specs.Prelude.{slice_get, IsSome, ◌⊎◌}
use Rattle.std.proofs.lemmas.Bool.{true≢false, ltb-false}
use Rattle.dl_entry.specs.declared.Actor.{Actor}
use Rattle.spec_isa.specs.declared.thread.Parts.{Parts}
use Rattle.spec_isa.specs.Words.{lays}
use Rattle.spec_isa.specs.Runs.{run}
use Rattle.spec_log.specs.declared.LogParts.{LogParts}
use Rattle.spec_kernel.specs.Devices.{Devices}
use Rattle.spec_kernel.specs.Needs.{next_kind}
use Rattle.spec_play.specs.Turns.{TurnOrEnd, Turn, TurnOfDma}
use Rattle.spec_play.specs.Verdicts.{LogVerdict, serial_verdict}
use Rattle.spec_play.specs.Transfers.{DmaVerdict, dma_verdict}
use Rattle.spec_play.specs.Plays.{Played, plays}
use Rattle.spec_engine.specs.declared.answers.How.{How}
use Rattle.spec_sphere.specs.sphere.Spheres.{turn_in, turn_against, Cursor, Role, Replay, Sphere, is_over, is_stopped, is_in_pieces}
use Rattle.spec_sphere.specs.sphere.Commits.{MovedSphere, replayed_chunk, by_verdict, chunk_in, chunk_moved, serial_in, serial_moved, dma_by_verdict, dma_in, dma_moved}
use Rattle.spec_engine.specs.Closing.{is_piece, is_short}
use Rattle.spec_protocol.specs.machine.World.{Numbers, MoveKind, OfChunk, OfSerial, OfDma, OfRaise}
use Rattle.spec_sphere.specs.sphere.Commits.{laid}
use Rattle.spec_sphere.specs.sphere.Setups.{ReplaySetup}
use Rattle.spec_protocol.specs.machine.Serial.{SerialState, do_moved, do_serial, do_dma}
use Rattle.spec_protocol.specs.machine.Moves.{move_chunk, do_by_kind, FitsChunk, FitsSerial, DmaFits, FitsWhat}
use Rattle.spec_sphere.specs.sphere.Moves.{SerialFits}
use Rattle.spec_strata.proofs.Shares.Steps.{get-set_same}
use Rattle.spec_sphere.proofs.Moves.Joining.{MayGo, may_go, turn_in_order}
use Rattle.spec_sphere.proofs.Moves.Transfers.{dma-turn_is}
use Rattle.spec_sphere.proofs.PlayingBack.Sizes.{serial-turn}
use Rattle.spec_replay.specs.Following.{IsMovedOn, StandsAt, EndsWithin, Follows}
use Rattle.spec_replay.proofs.Intervals.{commits_of, now_as, IsStart, room-left}
use Rattle.spec_replay.proofs.Commits.Standing.{set_here}
use Rattle.spec_replay.proofs.Commits.Judging.{alike_same}
use Rattle.spec_replay.proofs.Commits.Done.{done_in, InOrder, Reaches, Beside, HasTurn, commit-reaches, transfer-reaches}
use Rattle.spec_replay.proofs.Commits.LastParts.{chunk-reaches}
use Rattle.spec_sphere.proofs.Replays.Turns.{no_raise}
use Rattle.spec_replay.proofs.Replays.Keeping.{Stands}

-- ---- whose turn it is

-- a replay that goes on has the play's turn
goes_with : (asked : ReplaySetup) (y : Played) (b : Cursor) (o : (b.now ≡ now_as asked y) ⊎ EndsWithin asked.log y b) → is_over b.now ≡ false → b.now ≡ now_as asked y
goes_with asked y b (inl e) going = e
goes_with asked y b (inr w) going = absurd (true≢false (ap is_over (sym w.over) ∙ going))

-- a replay that goes on, with that turn, beside its play
record Going (asked : ReplaySetup) (y : Played) (p : Sphere) (b : Cursor) (now : TurnOrEnd) : Type 0 where
  beside : Beside asked y p b
  same : b.now ≡ now_as asked y
  turn : now_as asked y ≡ now
  state : StandsAt asked.log y now p b

going_at : (asked : ReplaySetup) (y : Played) (p : Sphere) (now : TurnOrEnd) → 0 < asked.log.s → (f : Follows asked y p) → InOrder p.role → is_over f.cursor.now ≡ false → f.cursor.now ≡ now → Going asked y p f.cursor now
going_at asked y p now s f in_order going is =
    let same : f.cursor.now ≡ now_as asked y = goes_with asked y f.cursor f.now going in
    let turn : now_as asked y ≡ now = sym same ∙ is in
    record {
      beside = record { role = f.role; same_log = f.same_log; same_interval = f.same_interval; in_order = subst InOrder f.role in_order; progress = f.progress; used = f.used; standard = s };
      same = same;
      turn = turn;
      state = subst (λ (n : TurnOrEnd). StandsAt asked.log y n p f.cursor) turn f.state;
    }

not_over : (r : Role) (b : Cursor) → r ≡ Replay b → is_stopped r ≡ false → is_over b.now ≡ false
not_over r b role going = ap is_stopped (sym role) ∙ going

-- a replay that another thread's turn doesn't hold up has this thread's turn
pub may-go : (p : Sphere) (b : Cursor) (k : ℕ) → p.role ≡ Replay b → is_stopped p.role ≡ false → turn_against p (Actor.Thread k) ≡ None → MayGo b k
unfolding turn_against
may-go p b k role going free =
    may_go b k p (not_over p.role b role going) (ap (λ (r : Role). turn_in r p (Actor.Thread k)) (sym role) ∙ free)

turn_of_thread : (p : Sphere) (b : Cursor) (k : ℕ) → p.role ≡ Replay b → InOrder p.role → is_stopped p.role ≡ false → turn_against p (Actor.Thread k) ≡ None → b.now ≡ Turn k
turn_of_thread p b k role in_order going free = turn_in_order b k (may-go p b k role going free) (subst InOrder role in_order)

-- a replay that no thread's turn holds up before a DMA has the DMA's
pub turn_of_dma : (p : Sphere) (b : Cursor) → p.role ≡ Replay b → is_stopped p.role ≡ false → turn_against p Actor.Dma ≡ None → b.now ≡ TurnOfDma
unfolding turn_against
turn_of_dma p b role going free = dma-turn_is b.now (not_over p.role b role going) (ap (λ (r : Role). turn_in r p Actor.Dma) (sym role) ∙ free)

-- how the play of what is replayed begins, and how far the sphere is in it
record IsIn (asked : ReplaySetup) (start y : Played) (p : Sphere) : Type 0 where
  from : IsStart asked start
  at_ : y ≡ plays asked.log start (done_in p)

-- while it goes on, it has done fewer commits than are asked for
room_now : (asked : ReplaySetup) (start y : Played) (p : Sphere) (b : Cursor) (now : TurnOrEnd) → IsIn asked start y p → Going asked y p b now → is_over now ≡ false → done_in p < commits_of asked
room_now asked start y p b now h g going =
    room-left asked start h.from (done_in p) (ap (λ (z : Played). is_over (now_as asked z)) (sym h.at_) ∙ ap is_over g.turn ∙ going)

-- if it is a thread's, that thread has the turn
has_turn : (asked : ReplaySetup) (start y : Played) (p : Sphere) (b : Cursor) (k : ℕ) → IsIn asked start y p → (g : Going asked y p b (Turn k)) → HasTurn asked start y p b k g.state.0
has_turn asked start y p b k h g =
    record { at_ = h.at_; room = room_now asked start y p b (Turn k) h g refl; beside = g.beside; same = g.same; turn = g.turn; moved = g.state.1 }

-- ---- a serial step

serial_now : (b : Cursor) (r : Role) → r ≡ Replay b → is_in_pieces r ≡ false → b.total ≡ 0
serial_now b r role none = let h : b.total ≤ 0 = ltb-false 0 b.total (ap is_in_pieces (sym role) ∙ none) in omega arith

-- if no piece is done, memory and threads are the play's
unmoved : (log : LogParts) (y : Played) (k : ℕ) (t : Parts) (p : Sphere) (b : Cursor) → IsMovedOn log y k t p b → b.total ≡ 0 → (p.memory ≡ y.memory) × (p.threads ≡ y.threads)
unmoved log y k t p b m none = (
  m.memory ∙ ap (λ (n : ℕ). lays y.memory (run y.memory t n).words) none,
  m.threads ∙ ap (λ (n : ℕ). set y.threads k (run y.memory t n).thread) none ∙ set_here y.threads k t m.is,
)

serial_reaches : (asked : ReplaySetup) (start y : Played) (p : Sphere) (b : Cursor) (k : ℕ) (u : Parts) (devices : Devices) → IsIn asked start y p → Going asked y p b (Turn k) → slice_get p.threads k ≡ Some u → SerialFits p k u
    → Reaches asked start (laid (by_verdict b k (serial_verdict b.log p.progress b.used k p.threads u p.memory) devices p))
serial_reaches asked start y p b k u devices h g there f =
    let log : LogParts = asked.log in
    let t : Parts = g.state.0 in
    let m : IsMovedOn log y k t p b = g.state.1 in
    let none : b.total ≡ 0 = serial_now b p.role g.beside.role f.whole in
    let same = unmoved log y k t p b m none in
    let tu : t ≡ u = (let e : Some t ≡ Some u = sym m.is ∙ ap (λ (ts : List Parts). slice_get ts k) (sym same.1) ∙ there in cc) in
    let v : LogVerdict = serial_verdict b.log p.progress b.used k p.threads u p.memory in
    let w : LogVerdict = serial_verdict log y.progress y.used k y.threads t y.memory in
    let vw : v ≡ w = (λ i. serial_verdict (g.beside.same_log i) (g.beside.progress i) (g.beside.used i) k (same.1 i) (sym tu i) (same.0 i)) in
    let serial : IsSome (next_kind t y.memory) = subst IsSome (λ i. next_kind (sym tu i) (same.0 i)) f.serial in
    commit-reaches asked start y p b k t (has_turn asked start y p b k h g) v w devices (serial-turn log y k t (next_kind t y.memory) serial) (rw vw (alike_same p.memory y.memory w same.0))

-- ---- moves

-- how the play begins, if the log has a standard size
pub record CanReplay (asked : ReplaySetup) (start : Played) : Type 0 where
  pub from : IsStart asked start
  pub standard : 0 < asked.log.s

-- the replayed sphere i, which is p, is in the play of its log
module _ (asked : ReplaySetup) (start : Played) (x : SerialState) (i : ℕ) (p : Sphere) (c : CanReplay asked start) (is : slice_get x.spheres i ≡ Some p) (r : Reaches asked start p) where
  moved_stands : (v : MovedSphere) → Reaches asked start (laid v) → Stands (Reaches asked start) (do_moved x i v) i
  moved_stands v reaches = record { sphere = laid v; there = get-set_same x.spheres i (laid v) p is; is = reaches }

  is_in : IsIn asked start (plays asked.log start (done_in p)) p
  is_in = record { from = c.from; at_ = refl }

  thread_going : (k : ℕ) → is_stopped p.role ≡ false → turn_against p (Actor.Thread k) ≡ None → Going asked (plays asked.log start (done_in p)) p r.follows.cursor (Turn k)
  thread_going k going free =
      let f = r.follows in
      going_at asked (plays asked.log start (done_in p)) p (Turn k) c.standard f r.in_order (not_over p.role f.cursor f.role going) (turn_of_thread p f.cursor k f.role r.in_order going free)

  chunk_stands : (z : Numbers) (k : ℕ) (how : How) (n limit : ℕ) (o : Option Parts) → slice_get p.threads k ≡ o → FitsChunk z p k how n limit o → Stands (Reaches asked start) (move_chunk z x i k how n limit p o) i
  unfolding chunk_moved
  chunk_stands z k how n limit None there fits = absurd fits
  chunk_stands z k how n limit (Some u) there fits =
      let y : Played = plays asked.log start (done_in p) in
      let b : Cursor = r.follows.cursor in
      let g : Going asked y p b (Turn k) = thread_going k fits.going fits.turn in
      subst (λ (v : MovedSphere). Stands (Reaches asked start) (do_moved x i v) i)
      (sym (ap (λ (role : Role). chunk_in role k (is_piece how) (is_short z.s how limit) (run p.memory u n) x.devices p) r.follows.role))
      (moved_stands (replayed_chunk (is_piece how) b k (run p.memory u n) x.devices p)
      (chunk-reaches asked start y p b k g.state.0 (has_turn asked start y p b k is_in g) z u how n limit x.devices there fits))

  serial_stands : (moment k : ℕ) (o : Option Parts) → slice_get p.threads k ≡ o → FitsSerial p k o → Stands (Reaches asked start) (do_serial x i k moment p o) i
  unfolding serial_moved
  serial_stands moment k None there fits = absurd fits
  serial_stands moment k (Some u) there fits =
      let y : Played = plays asked.log start (done_in p) in
      let b : Cursor = r.follows.cursor in
      subst (λ (v : MovedSphere). Stands (Reaches asked start) (do_moved x i v) i)
      (sym (ap (λ (role : Role). serial_in role k moment u x.devices p) r.follows.role))
      (moved_stands (serial_in (Replay b) k moment u x.devices p) (serial_reaches asked start y p b k u x.devices is_in (thread_going k fits.going fits.turn) there fits))

  dma_stands : DmaFits x.devices p → Stands (Reaches asked start) (do_dma x i (dma_moved x.devices p)) i
  unfolding dma_moved
  dma_stands fits =
      let y : Played = plays asked.log start (done_in p) in
      let f = r.follows in
      let b : Cursor = f.cursor in
      let turn : b.now ≡ TurnOfDma = turn_of_dma p b f.role fits.going fits.turn in
      let g : Going asked y p b TurnOfDma = going_at asked y p TurnOfDma c.standard f r.in_order (not_over p.role b f.role fits.going) turn in
      let v : DmaVerdict = dma_verdict b.log p.progress b.used in
      let room = room_now asked start y p b TurnOfDma is_in g refl in
      subst (λ (o : Option MovedSphere). Stands (Reaches asked start) (do_dma x i o) i)
      (sym (ap (λ (role : Role). dma_in role x.devices p) f.role))
      (moved_stands (dma_by_verdict b v x.devices p)
      (transfer-reaches asked start y p b v x.devices (record { at_ = refl; room = room; beside = g.beside; turn = g.turn; whole = g.state })
      (λ j. dma_verdict (sym g.beside.same_log j) (sym g.beside.progress j) (sym g.beside.used j))))

  -- a move of a replayed sphere leaves it in its log's play
  pub what-stands : (z : Numbers) (moment : ℕ) (what : MoveKind) → FitsWhat z x.devices p what → Stands (Reaches asked start) (do_by_kind z x moment i p what) i
  what-stands z moment (OfChunk k how n limit) fits = chunk_stands z k how n limit (slice_get p.threads k) refl fits
  what-stands z moment (OfSerial k) fits = serial_stands moment k (slice_get p.threads k) refl fits
  what-stands z moment OfDma fits = dma_stands fits
  what-stands z moment (OfRaise k value) fits = absurd (no_raise p r.follows.cursor (slice_get p.threads k) r.follows.role fits)
