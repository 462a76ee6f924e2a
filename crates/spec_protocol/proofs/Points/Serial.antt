-- From all moves to the points of plain and recorded spheres: a replayed sphere touches neither them nor the devices.
use Rattle.std.proofs.Common.{◌≡◌, ℕ, zero, suc, ◌<◌, inl, inr, Bool, true, false, List, [], ◌∷◌, ◌++◌, length, Option, Some, None, refl, sym, ap, ◌∙◌, subst, arith, set}
use Rattle.std.specs.Prelude.{slice_get, IsSome}
use Rattle.std.proofs.lemmas.Bool.{true≢false, cases_eq, cases_Bool}
use Rattle.std.proofs.lemmas.Option.{none-some, slice_get_within}
use Rattle.dl_entry.specs.declared.Actor.{Actor}
use Rattle.dl_entry.specs.declared.CommitKind.{CommitKind}
use Rattle.dl_entry.specs.declared.Point.{Point}
use Rattle.dl_entry.specs.declared.Request.{Request}
use Rattle.spec_isa.specs.declared.thread.Parts.{Parts}
use Rattle.spec_isa.specs.Runs.{Run, run}
use Rattle.spec_kernel.specs.Devices.{Devices}
use Rattle.spec_kernel.specs.Copies.{dma_words}
use Rattle.spec_kernel.specs.Answers.{dma_bytes, dma_taken}
use Rattle.spec_play.specs.Verdicts.{LogVerdict, Goes, Fails, chunk_verdict, serial_verdict}
use Rattle.spec_play.specs.Transfers.{DmaVerdict, DmaGoes, DmaFails, dma_verdict}
use Rattle.spec_engine.specs.declared.answers.How.{How}
use Rattle.spec_protocol.specs.declared.event.Event.{Event}
use Rattle.spec_sphere.specs.sphere.Spheres.{Cursor, Role, Plain, Record, Replay, Sphere, is_in_pieces, replays}
use Rattle.spec_sphere.specs.sphere.Commits.{MovedSphere, joined, by_verdict, replayed_chunk, chunk_in, chunk_moved, serial_in, serial_moved, live_dma, dma_by_verdict, dma_in, dma_moved, dma_as, dma_log, role_raised, raised}
use Rattle.spec_engine.specs.Closing.{is_piece, is_short}
use Rattle.spec_sphere.specs.sphere.Commits.{laid}
use Rattle.spec_protocol.specs.machine.World.{Numbers, World, MoveKind, OfChunk, OfSerial, OfDma, OfRaise, Move, sphere_at}
use Rattle.spec_protocol.specs.machine.Machine.{Setup, world_of, with_point, act, happens, world_after}
use Rattle.spec_protocol.specs.machine.Serial.{SerialState, serial_start, do_moved, do_chunk, do_serial, do_dma, do_raise, in_live, do_commit, do_interrupt, do_point, do_points, CanChunk, CanSerial, CanTake, InLive, CanCommit, CanInterrupt, CanDo, CanDoAll}
use Rattle.spec_protocol.specs.machine.Shown.{shown, shown_from, shown_of}
use Rattle.spec_engine.specs.Flights.{Flight}
use Rattle.spec_protocol.specs.machine.Moves.{move_chunk, do_by_kind, do_at, do_move, do_if, ChunkFits, FitsChunk, FitsSerial, FitsWhat, FitsAt, FitsIf}
use Rattle.spec_sphere.specs.sphere.Moves.{FitsRaise}
use Rattle.spec_protocol.specs.promises.Promises.{IsSetup, after, CommitsAreSerial}
use Rattle.spec_strata.proofs.Shares.Steps.{get-set_other, get-set_same}
use Rattle.spec_protocol.proofs.Invariants.Preserved.{point_for, sphere_of_point, IsOf, PointOf, PointIs, shown-get}
use Rattle.spec_protocol.proofs.Points.Counts.{act-untold}
use Rattle.spec_protocol.proofs.Invariants.Schedules.{happens-preserved, start-good, start-shown}
use Rattle.spec_protocol.specs.promises.Invariants.{IsGood}

-- ---- in a replayed sphere

-- the devices are left alone, and the sphere stays a replay
record LeavesDevices (devices : Devices) (v : MovedSphere) : Type 0 where
  devices_ : v.devices ≡ devices
  replays_ : replays v.sphere.role ≡ true

verdict_leaves : (b : Cursor) (k : ℕ) (verdict : LogVerdict) (devices : Devices) (p : Sphere) → LeavesDevices devices (by_verdict b k verdict devices p)
verdict_leaves b k (Goes e u) devices p = record { devices_ = refl; replays_ = refl }
verdict_leaves b k (Fails why) devices p = record { devices_ = refl; replays_ = refl }

replayed_leaves : (b : Cursor) (k : ℕ) (piece : Bool) (r : Run) (devices : Devices) (p : Sphere) → LeavesDevices devices (replayed_chunk piece b k r devices p)
replayed_leaves b k true r devices p = record { devices_ = refl; replays_ = refl }
replayed_leaves b k false r devices p = verdict_leaves b k (chunk_verdict b.log p.progress b.used k (joined b r)) devices p

chunk_in_leaves : (role : Role) (k : ℕ) (piece short : Bool) (r : Run) (devices : Devices) (p : Sphere) → replays role ≡ true → LeavesDevices devices (chunk_in role k piece short r devices p)
chunk_in_leaves Plain k piece short r devices p e = absurd (true≢false (sym e))
chunk_in_leaves (Record recording) k piece short r devices p e = absurd (true≢false (sym e))
chunk_in_leaves (Replay b) k piece short r devices p e = replayed_leaves b k piece r devices p

chunk_leaves : (k : ℕ) (piece short : Bool) (r : Run) (devices : Devices) (p : Sphere) → replays p.role ≡ true → LeavesDevices devices (chunk_moved k piece short r devices p)
unfolding chunk_moved
chunk_leaves k piece short r devices p e = chunk_in_leaves p.role k piece short r devices p e

serial_in_leaves : (role : Role) (k moment : ℕ) (t : Parts) (devices : Devices) (p : Sphere) → replays role ≡ true → LeavesDevices devices (serial_in role k moment t devices p)
serial_in_leaves Plain k moment t devices p e = absurd (true≢false (sym e))
serial_in_leaves (Record recording) k moment t devices p e = absurd (true≢false (sym e))
serial_in_leaves (Replay b) k moment t devices p e = verdict_leaves b k (serial_verdict b.log p.progress b.used k p.threads t p.memory) devices p

serial_leaves : (k moment : ℕ) (t : Parts) (devices : Devices) (p : Sphere) → replays p.role ≡ true → LeavesDevices devices (serial_moved k moment t devices p)
unfolding serial_moved
serial_leaves k moment t devices p e = serial_in_leaves p.role k moment t devices p e

dma_verdict_leaves : (b : Cursor) (verdict : DmaVerdict) (devices : Devices) (p : Sphere) → LeavesDevices devices (dma_by_verdict b verdict devices p)
dma_verdict_leaves b (DmaGoes words) devices p = record { devices_ = refl; replays_ = refl }
dma_verdict_leaves b (DmaFails why) devices p = record { devices_ = refl; replays_ = refl }

dma_in_leaves : (role : Role) (devices : Devices) (p : Sphere) (v : MovedSphere) → replays role ≡ true → dma_in role devices p ≡ Some v → LeavesDevices devices v
dma_in_leaves Plain devices p v e is = absurd (true≢false (sym e))
dma_in_leaves (Record recording) devices p v e is = absurd (true≢false (sym e))
dma_in_leaves (Replay b) devices p v e is =
    subst (LeavesDevices devices) (let h : dma_by_verdict b (dma_verdict b.log p.progress b.used) devices p ≡ v = cc in h) (dma_verdict_leaves b (dma_verdict b.log p.progress b.used) devices p)

dma_leaves : (devices : Devices) (p : Sphere) (v : MovedSphere) → replays p.role ≡ true → dma_moved devices p ≡ Some v → LeavesDevices devices v
unfolding dma_moved
dma_leaves devices p v e is = dma_in_leaves p.role devices p v e is

-- in a plain or recorded sphere no chunk is a piece
chunk_in_whole : (role : Role) (k : ℕ) (a b short : Bool) (r : Run) (devices : Devices) (p : Sphere) → replays role ≡ false → chunk_in role k a short r devices p ≡ chunk_in role k b short r devices p
chunk_in_whole Plain k a b short r devices p e = refl
chunk_in_whole (Record recording) k a b short r devices p e = refl
chunk_in_whole (Replay c) k a b short r devices p e = absurd (true≢false e)

chunk_whole : (k : ℕ) (a b short : Bool) (r : Run) (devices : Devices) (p : Sphere) → replays p.role ≡ false → chunk_moved k a short r devices p ≡ chunk_moved k b short r devices p
unfolding chunk_moved
chunk_whole k a b short r devices p e = chunk_in_whole p.role k a b short r devices p e

-- ---- all spheres, and the plain and recorded ones

pub record Agrees (x y : SerialState) : Type 0 where
  pub devices : x.devices ≡ y.devices
  pub live : (i : ℕ) (p : Sphere) → slice_get x.spheres i ≡ Some p → replays p.role ≡ false → slice_get y.spheres i ≡ Some p
  pub replayed : (i : ℕ) (p : Sphere) → slice_get x.spheres i ≡ Some p → replays p.role ≡ true → (q : Sphere) × (slice_get y.spheres i ≡ Some q) × (replays q.role ≡ true)

-- a state agrees with itself
pub agrees_itself : (x : SerialState) → Agrees x x
agrees_itself x = record { devices = refl; live = λ i p e r. e; replayed = λ i p e r. (p, e, r) }

-- both sides have the same plain or recorded sphere at i now
agrees_set : (x y : SerialState) (i : ℕ) (p q : Sphere) (d e : Devices) → Agrees x y → slice_get x.spheres i ≡ Some p → slice_get y.spheres i ≡ Some p → replays q.role ≡ false → d ≡ e
    → Agrees (record { spheres = set x.spheres i q; devices = d }) (record { spheres = set y.spheres i q; devices = e })
agrees_set x y i p q d e a xi yi lives same =
    record {
      devices = same;
      live = λ j r h live. elim (cases_eq j i) [
        | inl ji ↦ ap (slice_get (set y.spheres i q)) ji ∙ get-set_same y.spheres i q p yi ∙ sym (get-set_same x.spheres i q p xi) ∙ ap (slice_get (set x.spheres i q)) (sym ji) ∙ h
        | inr ne ↦ get-set_other y.spheres i j q ne ∙ a.live j r (sym (get-set_other x.spheres i j q ne) ∙ h) live
      ];
      replayed = λ j r h rep. elim (cases_eq j i) [
        | inl ji ↦ (
            let qr : q ≡ r = (let o : Some q ≡ Some r = sym (get-set_same x.spheres i q p xi) ∙ ap (slice_get (set x.spheres i q)) (sym ji) ∙ h in cc) in
            absurd (true≢false (sym rep ∙ ap (λ (s : Sphere). replays s.role) (sym qr) ∙ lives))
            )
        | inr ne ↦ (
            let c = a.replayed j r (sym (get-set_other x.spheres i j q ne) ∙ h) rep in
            (c.0, get-set_other y.spheres i j q ne ∙ c.1, c.2)
            )
      ];
    }

-- only the first side's replay has changed
agrees_replay : (x y : SerialState) (i : ℕ) (p q : Sphere) (d : Devices) → Agrees x y → slice_get x.spheres i ≡ Some p → replays p.role ≡ true → replays q.role ≡ true → d ≡ x.devices → Agrees (record { spheres = set x.spheres i q; devices = d }) y
agrees_replay x y i p q d a xi rep now same =
    record {
      devices = same ∙ a.devices;
      live = λ j r h live. elim (cases_eq j i) [
        | inl ji ↦ (
            let qr : q ≡ r = (let o : Some q ≡ Some r = sym (get-set_same x.spheres i q p xi) ∙ ap (slice_get (set x.spheres i q)) (sym ji) ∙ h in cc) in
            absurd (true≢false (sym now ∙ ap (λ (s : Sphere). replays s.role) qr ∙ live))
            )
        | inr ne ↦ a.live j r (sym (get-set_other x.spheres i j q ne) ∙ h) live
      ];
      replayed = λ j r h rep'. elim (cases_eq j i) [
        | inl ji ↦ subst (λ (k : ℕ). (s : Sphere) × (slice_get y.spheres k ≡ Some s) × (replays s.role ≡ true)) (sym ji) (a.replayed i p xi rep)
        | inr ne ↦ a.replayed j r (sym (get-set_other x.spheres i j q ne) ∙ h) rep'
      ];
    }

-- ---- a move of a replayed sphere

moved_replay : (x y : SerialState) (i : ℕ) (p : Sphere) (v : MovedSphere) → Agrees x y → slice_get x.spheres i ≡ Some p → replays p.role ≡ true → LeavesDevices x.devices v → Agrees (do_moved x i v) y
moved_replay x y i p v a xi rep l = agrees_replay x y i p (laid v) v.devices a xi rep l.replays_ l.devices_

chunk_replay : (z : Numbers) (x y : SerialState) (i k : ℕ) (how : How) (n limit : ℕ) (p : Sphere) (o : Option Parts) → Agrees x y → slice_get x.spheres i ≡ Some p → replays p.role ≡ true → Agrees (move_chunk z x i k how n limit p o) y
chunk_replay z x y i k how n limit p None a xi rep = a
chunk_replay z x y i k how n limit p (Some t) a xi rep =
    moved_replay x y i p _ a xi rep (chunk_leaves k (is_piece how) (is_short z.s how limit) (run p.memory t n) x.devices p rep)

serial_replay : (x y : SerialState) (i k moment : ℕ) (p : Sphere) (o : Option Parts) → Agrees x y → slice_get x.spheres i ≡ Some p → replays p.role ≡ true → Agrees (do_serial x i k moment p o) y
serial_replay x y i k moment p None a xi rep = a
serial_replay x y i k moment p (Some t) a xi rep = moved_replay x y i p _ a xi rep (serial_leaves k moment t x.devices p rep)

dma_replay : (x y : SerialState) (i : ℕ) (p : Sphere) (o : Option MovedSphere) → Agrees x y → slice_get x.spheres i ≡ Some p → replays p.role ≡ true → dma_moved x.devices p ≡ o → Agrees (do_dma x i o) y
dma_replay x y i p None a xi rep is = a
dma_replay x y i p (Some v) a xi rep is = moved_replay x y i p v a xi rep (dma_leaves x.devices p v rep is)

raise_replay : (p : Sphere) (o : Option Parts) → FitsRaise p o → replays p.role ≡ true → ⊥
raise_replay p None fits rep = fits
raise_replay p (Some t) fits rep = true≢false (sym rep ∙ fits.live)

replay_what : (z : Numbers) (x y : SerialState) (moment i : ℕ) (p : Sphere) (what : MoveKind) → Agrees x y → slice_get x.spheres i ≡ Some p → replays p.role ≡ true → FitsWhat z x.devices p what → Agrees (do_by_kind z x moment i p what) y
replay_what z x y moment i p (OfChunk k how n limit) a xi rep fits = chunk_replay z x y i k how n limit p (slice_get p.threads k) a xi rep
replay_what z x y moment i p (OfSerial k) a xi rep fits = serial_replay x y i k moment p (slice_get p.threads k) a xi rep
replay_what z x y moment i p OfDma a xi rep fits = dma_replay x y i p (dma_moved x.devices p) a xi rep refl
replay_what z x y moment i p (OfRaise k value) a xi rep fits = absurd (raise_replay p (slice_get p.threads k) fits rep)

in_replay : (role : Role) (y done : SerialState) → replays role ≡ true → in_live role y done ≡ y
in_replay Plain y done e = absurd (true≢false (sym e))
in_replay (Record recording) y done e = absurd (true≢false (sym e))
in_replay (Replay b) y done e = refl

can_replay : (role : Role) (can : Type 0) → replays role ≡ true → InLive role can
can_replay Plain can e = absurd (true≢false (sym e))
can_replay (Record recording) can e = absurd (true≢false (sym e))
can_replay (Replay b) can e = tt

-- a point of a replayed sphere does nothing here
replay_point : (y : SerialState) (pt : Point) (q : Sphere) → slice_get y.spheres (sphere_of_point pt) ≡ Some q → replays q.role ≡ true → (do_point y pt ≡ y) × CanDo y pt
unfolding do_point
replay_point y (Point.Commit moment i actor kind size short) q yi rep = (
  ap (do_commit y moment i actor kind size short) yi ∙ in_replay q.role y _ rep,
  subst (CanCommit y.devices actor kind size) (sym yi) (can_replay q.role _ rep),
)
replay_point y (Point.Raise moment i k value) q yi rep =
    (ap (do_interrupt y i k value) yi ∙ in_replay q.role y _ rep, subst (CanInterrupt k) (sym yi) (can_replay q.role _ rep))

-- ---- a move of a plain or recorded sphere

in_living : (role : Role) (y done : SerialState) → replays role ≡ false → in_live role y done ≡ done
in_living Plain y done e = refl
in_living (Record recording) y done e = refl
in_living (Replay b) y done e = absurd (true≢false e)

can_living : (role : Role) (can : Type 0) → replays role ≡ false → can → InLive role can
can_living Plain can e c = c
can_living (Record recording) can e c = c
can_living (Replay b) can e c = absurd (true≢false e)

chunk_in_stays : (role : Role) (k : ℕ) (piece short : Bool) (r : Run) (devices : Devices) (p : Sphere) → replays role ≡ false → replays (chunk_in role k piece short r devices p).sphere.role ≡ false
chunk_in_stays Plain k piece short r devices p e = refl
chunk_in_stays (Record recording) k piece short r devices p e = refl
chunk_in_stays (Replay b) k piece short r devices p e = absurd (true≢false e)

chunk_stays : (k : ℕ) (piece short : Bool) (r : Run) (devices : Devices) (p : Sphere) → replays p.role ≡ false → replays (chunk_moved k piece short r devices p).sphere.role ≡ false
unfolding chunk_moved
chunk_stays k piece short r devices p e = chunk_in_stays p.role k piece short r devices p e

serial_in_stays : (role : Role) (k moment : ℕ) (t : Parts) (devices : Devices) (p : Sphere) → replays role ≡ false → replays (serial_in role k moment t devices p).sphere.role ≡ false
serial_in_stays Plain k moment t devices p e = refl
serial_in_stays (Record recording) k moment t devices p e = refl
serial_in_stays (Replay b) k moment t devices p e = absurd (true≢false e)

serial_stays : (k moment : ℕ) (t : Parts) (devices : Devices) (p : Sphere) → replays p.role ≡ false → replays (serial_moved k moment t devices p).sphere.role ≡ false
unfolding serial_moved
serial_stays k moment t devices p e = serial_in_stays p.role k moment t devices p e

live_stays : (role : Role) (devices : Devices) (p : Sphere) (o : Option Request) (v : MovedSphere) → replays role ≡ false → live_dma role devices p o ≡ Some v → (replays v.sphere.role ≡ false) × IsSome o
live_stays role devices p None v live e = absurd (none-some v e)
live_stays role devices p (Some request) v live e =
    let h : dma_as role (dma_words request (dma_bytes devices request)) (dma_taken devices request) p ≡ v = cc in
    (ap (λ (u : MovedSphere). replays u.sphere.role) (sym h) ∙ live, refl)

dma_in_stays : (role : Role) (devices : Devices) (p : Sphere) (v : MovedSphere) → replays role ≡ false → dma_in role devices p ≡ Some v → (replays v.sphere.role ≡ false) × IsSome p.progress.request
dma_in_stays Plain devices p v live e = live_stays Plain devices p p.progress.request v refl e
dma_in_stays (Record recording) devices p v live e = live_stays (Record (record recording { log = dma_log recording.log devices p p.progress.request })) devices p p.progress.request v refl e
dma_in_stays (Replay b) devices p v live e = absurd (true≢false live)

dma_stays : (devices : Devices) (p : Sphere) (v : MovedSphere) → replays p.role ≡ false → dma_moved devices p ≡ Some v → (replays v.sphere.role ≡ false) × IsSome p.progress.request
unfolding dma_moved
dma_stays devices p v live e = dma_in_stays p.role devices p v live e

raised_stays : (k n value : ℕ) (role : Role) → replays role ≡ false → replays (role_raised k n value role) ≡ false
raised_stays k n value Plain e = refl
raised_stays k n value (Record recording) e = refl
raised_stays k n value (Replay b) e = e

-- what both sides do to the same sphere
moved_live : (x y : SerialState) (i : ℕ) (p : Sphere) (v : MovedSphere) → Agrees x y → slice_get x.spheres i ≡ Some p → slice_get y.spheres i ≡ Some p → replays v.sphere.role ≡ false → Agrees (do_moved x i v) (do_moved y i v)
moved_live x y i p v a xi yi lives = agrees_set x y i p (laid v) v.devices v.devices a xi yi lives refl

chunk_both : (z : Numbers) (x y : SerialState) (i k : ℕ) (how : How) (n limit : ℕ) (p : Sphere) (o : Option Parts) → Agrees x y → slice_get x.spheres i ≡ Some p → slice_get y.spheres i ≡ Some p → replays p.role ≡ false
    → Agrees (move_chunk z x i k how n limit p o) (do_chunk y i k n (is_short z.s how limit) p o)
chunk_both z x y i k how n limit p None a xi yi live = a
chunk_both z x y i k how n limit p (Some t) a xi yi live =
    let short = is_short z.s how limit in
    let r = run p.memory t n in
    let e : chunk_moved k (is_piece how) short r x.devices p ≡ chunk_moved k false short r y.devices p =
    chunk_whole k (is_piece how) false short r x.devices p live ∙ ap (λ (d : Devices). chunk_moved k false short r d p) a.devices
    in
    subst (λ (v : MovedSphere). Agrees (do_moved x i v) (do_moved y i (chunk_moved k false short r y.devices p))) (sym e)
    (moved_live x y i p (chunk_moved k false short r y.devices p) a xi yi (chunk_stays k false short r y.devices p live))

serial_both : (x y : SerialState) (i k moment : ℕ) (p : Sphere) (o : Option Parts) → Agrees x y → slice_get x.spheres i ≡ Some p → slice_get y.spheres i ≡ Some p → replays p.role ≡ false → Agrees (do_serial x i k moment p o) (do_serial y i k moment p o)
serial_both x y i k moment p None a xi yi live = a
serial_both x y i k moment p (Some t) a xi yi live =
    subst (λ (d : Devices). Agrees (do_moved x i (serial_moved k moment t x.devices p)) (do_moved y i (serial_moved k moment t d p))) a.devices
    (moved_live x y i p (serial_moved k moment t x.devices p) a xi yi (serial_stays k moment t x.devices p live))

dma_both : (x y : SerialState) (i : ℕ) (p : Sphere) (o : Option MovedSphere) → Agrees x y → slice_get x.spheres i ≡ Some p → slice_get y.spheres i ≡ Some p → replays p.role ≡ false → dma_moved x.devices p ≡ o → Agrees (do_dma x i o) (do_dma y i o)
dma_both x y i p None a xi yi live is = a
dma_both x y i p (Some v) a xi yi live is = moved_live x y i p v a xi yi (dma_stays x.devices p v live is).0

raise_both : (x y : SerialState) (i k value : ℕ) (p : Sphere) (o : Option Parts) → Agrees x y → slice_get x.spheres i ≡ Some p → slice_get y.spheres i ≡ Some p → replays p.role ≡ false → Agrees (do_raise x i k value p o) (do_raise y i k value p o)
unfolding raised
raise_both x y i k value p None a xi yi live = a
raise_both x y i k value p (Some t) a xi yi live =
    agrees_set x y i p (raised k value t p) x.devices y.devices a xi yi (raised_stays k t.commits value p.role live) a.devices

-- a move's point, of a sphere that both sides have
live_what : (z : Numbers) (x y : SerialState) (moment i : ℕ) (p : Sphere) (what : MoveKind) → Agrees x y → slice_get x.spheres i ≡ Some p → replays p.role ≡ false → Agrees (do_by_kind z x moment i p what) (do_point y (point_for z moment i what))
unfolding do_point
live_what z x y moment i p (OfChunk k how n limit) a xi live =
    let yi = a.live i p xi live in
    let short = is_short z.s how limit in
    subst (λ (u : SerialState). Agrees (do_by_kind z x moment i p (OfChunk k how n limit)) u)
    (sym (ap (do_commit y moment i (Actor.Thread k) CommitKind.Chunk n short) yi ∙ in_living p.role y _ live))
    (chunk_both z x y i k how n limit p (slice_get p.threads k) a xi yi live)
live_what z x y moment i p (OfSerial k) a xi live =
    let yi = a.live i p xi live in
    subst (λ (u : SerialState). Agrees (do_by_kind z x moment i p (OfSerial k)) u)
    (sym (ap (do_commit y moment i (Actor.Thread k) CommitKind.Serial 0 false) yi ∙ in_living p.role y _ live))
    (serial_both x y i k moment p (slice_get p.threads k) a xi yi live)
live_what z x y moment i p OfDma a xi live =
    let yi = a.live i p xi live in
    subst (λ (u : SerialState). Agrees (do_by_kind z x moment i p OfDma) u)
    (sym (ap (do_commit y moment i Actor.Dma CommitKind.Dma 0 false) yi ∙ in_living p.role y _ live))
    (subst (λ (d : Devices). Agrees (do_dma x i (dma_moved x.devices p)) (do_dma y i (dma_moved d p))) a.devices
    (dma_both x y i p (dma_moved x.devices p) a xi yi live refl))
live_what z x y moment i p (OfRaise k value) a xi live =
    let yi = a.live i p xi live in
    subst (λ (u : SerialState). Agrees (do_by_kind z x moment i p (OfRaise k value)) u)
    (sym (ap (do_interrupt y i k value) yi ∙ in_living p.role y _ live))
    (raise_both x y i k value p (slice_get p.threads k) a xi yi live)

-- ---- whether the point can be done

not_in_pieces : (role : Role) → replays role ≡ false → is_in_pieces role ≡ false
not_in_pieces Plain e = refl
not_in_pieces (Record recording) e = refl
not_in_pieces (Replay b) e = absurd (true≢false e)

some_run : (z : Numbers) (p : Sphere) (k : ℕ) (t : Parts) (how : How) (n limit : ℕ) → 0 < z.capacity → replays p.role ≡ false → ChunkFits z p k t how n limit → 0 < n
some_run z p k t How.Limit n limit buffer live f = let e = f.full refl in let q = f.positive in omega arith
some_run z p k t How.Serial zero limit buffer live f = absurd (true≢false (sym (f.some refl refl) ∙ not_in_pieces p.role live))
some_run z p k t How.Serial (suc n) limit buffer live f = omega arith
some_run z p k t How.Overflow n limit buffer live f = let r = f.room refl in omega arith
some_run z p k t How.Cut n limit buffer live f = f.cut refl

can_chunk : (z : Numbers) (p : Sphere) (k : ℕ) (how : How) (n limit : ℕ) (o : Option Parts) → 0 < z.capacity → replays p.role ≡ false → FitsChunk z p k how n limit o → CanChunk n p o
can_chunk z p k how n limit None buffer live f = f
can_chunk z p k how n limit (Some t) buffer live f = record { live = f.live; some = some_run z p k t how n limit buffer live f; ran = f.ran }

can_serial : (p : Sphere) (k : ℕ) (o : Option Parts) → FitsSerial p k o → CanSerial 0 p o
can_serial p k None f = f
can_serial p k (Some t) f = record { live = f.live; empty = refl; serial = f.serial }

can_take : (p : Sphere) (o : Option Parts) → FitsRaise p o → CanTake o
can_take p None f = f
can_take p (Some t) f = f.takes

some_moved : (o : Option MovedSphere) → IsSome o → (v : MovedSphere) × (o ≡ Some v)
some_moved None e = absurd (true≢false (sym e))
some_moved (Some v) e = (v, refl)

live_can : (z : Numbers) (x y : SerialState) (moment i : ℕ) (p : Sphere) (what : MoveKind) → Agrees x y → slice_get x.spheres i ≡ Some p → replays p.role ≡ false → 0 < z.capacity → FitsWhat z x.devices p what → CanDo y (point_for z moment i what)
live_can z x y moment i p (OfChunk k how n limit) a xi live buffer fits =
    subst (CanCommit y.devices (Actor.Thread k) CommitKind.Chunk n) (sym (a.live i p xi live)) (can_living p.role _ live (can_chunk z p k how n limit (slice_get p.threads k) buffer live fits))
live_can z x y moment i p (OfSerial k) a xi live buffer fits =
    subst (CanCommit y.devices (Actor.Thread k) CommitKind.Serial 0) (sym (a.live i p xi live)) (can_living p.role _ live (can_serial p k (slice_get p.threads k) fits))
live_can z x y moment i p OfDma a xi live buffer fits =
    let v = some_moved (dma_moved x.devices p) fits.moves in
    subst (CanCommit y.devices Actor.Dma CommitKind.Dma 0) (sym (a.live i p xi live)) (can_living p.role _ live (refl, (dma_stays x.devices p v.0 live v.1).1))
live_can z x y moment i p (OfRaise k value) a xi live buffer fits =
    subst (CanInterrupt k) (sym (a.live i p xi live)) (can_living p.role _ live (can_take p (slice_get p.threads k) fits))

-- ---- one event

-- the point is done, if there is one
abbrev pub do_if_point : SerialState → Option Point → SerialState
do_if_point y None = y
do_if_point y (Some pt) = do_point y pt

abbrev pub CanIf : SerialState → Option Point → Type 0
CanIf y None = Unit {0}
CanIf y (Some pt) = CanDo y pt

-- the move of the one side is the point of the other, which can be done
pub record Follows (x y : SerialState) (z : Numbers) (move : Option Move) (point : Option Point) : Type 0 where
  pub agrees : Agrees (do_if z x move) (do_if_point y point)
  pub can : CanIf y point

fits_at : (z : Numbers) (devices : Devices) (m : Move) (o : Option Sphere) → FitsAt z devices m o → (p : Sphere) × (o ≡ Some p) × FitsWhat z devices p m.what
fits_at z devices m None f = absurd f
fits_at z devices m (Some p) f = (p, refl, f)

replay_follows : (z : Numbers) (x y : SerialState) (m : Move) (p : Sphere) (o : Option Point) → Agrees x y → slice_get x.spheres m.sphere ≡ Some p → replays p.role ≡ true → FitsWhat z x.devices p m.what → IsOf m.sphere o → Follows x y z (Some m) o
unfolding do_move
replay_follows z x y m p None a xi rep fits is =
    record {
      agrees = subst (λ (u : SerialState). Agrees u y) (sym (ap (do_at z x m) xi)) (replay_what z x y m.moment m.sphere p m.what a xi rep fits);
      can = tt;
    }
replay_follows z x y m p (Some pt) a xi rep fits is =
    let c = a.replayed m.sphere p xi rep in
    let r = replay_point y pt c.0 (ap (slice_get y.spheres) is ∙ c.1) c.2 in
    record {
      agrees = subst (λ (u : SerialState). Agrees u (do_point y pt)) (sym (ap (do_at z x m) xi)) (subst (Agrees (do_by_kind z x m.moment m.sphere p m.what)) (sym r.0) (replay_what z x y m.moment m.sphere p m.what a xi rep fits));
      can = r.1;
    }

live_follows : (z : Numbers) (x y : SerialState) (m : Move) (p : Sphere) (o : Option Point) → Agrees x y → slice_get x.spheres m.sphere ≡ Some p → replays p.role ≡ false → 0 < z.capacity → FitsWhat z x.devices p m.what → o ≡ Some (point_for z m.moment m.sphere m.what) → Follows x y z (Some m) o
unfolding do_move
live_follows z x y m p o a xi live buffer fits is =
    subst (Follows x y z (Some m)) (sym is)
    (record {
      agrees = subst (λ (u : SerialState). Agrees u (do_point y (point_for z m.moment m.sphere m.what))) (sym (ap (do_at z x m) xi)) (live_what z x y m.moment m.sphere p m.what a xi live);
      can = live_can z x y m.moment m.sphere p m.what a xi live buffer fits;
    })

-- as many spheres are shown as there are
pub shown_length : (xs : List (Option Flight)) (n : ℕ) (ps : List Sphere) → length (shown_from xs n ps) ≡ length ps
shown_length xs n [] = refl
shown_length xs n (p ∷ ps) = ap suc (shown_length xs (suc n) ps)

-- what is shown of a sphere has its role
shown_role : (w : World) (i : ℕ) (p : Sphere) → slice_get (shown_of w).spheres i ≡ Some p → replays p.role ≡ replays (sphere_at w i).role
unfolding shown
shown_role w i p e =
    let l : i < length w.spheres = (let h = slice_get_within (shown_of w).spheres i p e in let k = shown_length w.slots 0 w.spheres in omega arith) in
    let h : shown w.slots i (sphere_at w i) ≡ p = (let o : Some (shown w.slots i (sphere_at w i)) ≡ Some p = sym (shown-get w.slots i w.spheres l) ∙ e in cc) in
    ap (λ (q : Sphere). replays q.role) (sym h)

point_is : (w : World) (m : Move) (o : Option Point) (b : Bool) → PointIs w (Some m) o → replays (sphere_at w m.sphere).role ≡ b → PointOf w.numbers b m o
point_is w m o b is e = subst (λ (c : Bool). PointOf w.numbers c m o) e is

-- what an event shows is its point, done whole
pub event_follows : (w : World) (y : SerialState) (move : Option Move) (point : Option Point) → Agrees (shown_of w) y → 0 < w.numbers.capacity → FitsIf w.numbers (shown_of w) move → PointIs w move point → Follows (shown_of w) y w.numbers move point
event_follows w y None point a buffer fits is = subst (Follows (shown_of w) y w.numbers None) (sym is) (record { agrees = a; can = tt })
event_follows w y (Some m) point a buffer fits is =
    let f = fits_at w.numbers w.devices m (slice_get (shown_of w).spheres m.sphere) fits in
    elim (cases_Bool (replays f.0.role)) [
      | inl rep ↦ replay_follows w.numbers (shown_of w) y m f.0 point a f.1 rep f.2 (point_is w m point true is (sym (shown_role w m.sphere f.0 f.1) ∙ rep))
      | inr live ↦ live_follows w.numbers (shown_of w) y m f.0 point a f.1 live buffer f.2 (point_is w m point false is (sym (shown_role w m.sphere f.0 f.1) ∙ live))
    ]

-- ---- schedules

do_points-append : (x : SerialState) (ps : List Point) (p : Point) → do_points x (ps ++ p ∷ []) ≡ do_point (do_points x ps) p
do_points-append x [] p = refl
do_points-append x (q ∷ ps) p = do_points-append (do_point x q) ps p

can_append : (x : SerialState) (ps : List Point) (p : Point) → CanDoAll x ps → CanDo (do_points x ps) p → CanDoAll x (ps ++ p ∷ [])
can_append x [] p all one = (one, tt)
can_append x (q ∷ ps) p all one = (all.0, can_append (do_point x q) ps p all.1 one)

with_point_done : (x : SerialState) (ps : List Point) (o : Option Point) → do_points x (with_point o ps) ≡ do_if_point (do_points x ps) o
with_point_done x ps None = refl
with_point_done x ps (Some p) = do_points-append x ps p

with_point_can : (x : SerialState) (ps : List Point) (o : Option Point) → CanDoAll x ps → CanIf (do_points x ps) o → CanDoAll x (with_point o ps)
with_point_can x ps None all one = all
with_point_can x ps (Some p) all one = can_append x ps p all one

-- the world shows what its points give
pub record SerialSo (x : SerialState) (w : World) : Type 0 where
  pub agrees : Agrees (shown_of w) (do_points x w.points)
  pub possible : CanDoAll x w.points

points_kept : (w : World) (e : Event) → (happens w e).world.points ≡ with_point (happens w e).point (act w e).world.points
unfolding happens
points_kept w e = refl

serial_so : (x : SerialState) (w : World) (e : Event) → IsGood w → SerialSo x w → SerialSo x (happens w e).world
serial_so x w e good s =
    let a = happens w e in
    let k = happens-preserved w e good in
    let f = event_follows w (do_points x w.points) a.move a.point s.agrees good.buffer k.fits k.point in
    let points : a.world.points ≡ with_point a.point w.points = points_kept w e ∙ ap (with_point a.point) (act-untold w e).points in
    record {
      agrees = subst (λ (u : SerialState). Agrees u (do_points x a.world.points)) (sym k.whole)
          (subst (Agrees (do_if w.numbers (shown_of w) a.move)) (sym (ap (do_points x) points ∙ with_point_done x w.points a.point)) f.agrees);
      possible = subst (CanDoAll x) (sym points) (with_point_can x w.points a.point s.possible f.can);
    }

after_so : (x : SerialState) (w : World) (es : List Event) → IsGood w → SerialSo x w → SerialSo x (world_after w es)
after_so x w [] good s = s
after_so x w (e ∷ es) good s = after_so x (happens w e).world es (happens-preserved w e good).good (serial_so x w e good s)

-- what a world shows after a schedule is what its points, done one at a time, give
pub serial-after : (s : Setup) (es : List Event) → IsSetup s → SerialSo (serial_start s) (after s es)
serial-after s es is =
    let start : SerialSo (serial_start s) (world_of s) =
    record { agrees = subst (λ (u : SerialState). Agrees u (serial_start s)) (sym (start-shown s)) (agrees_itself (serial_start s)); possible = tt }
    in
    after_so (serial_start s) (world_of s) es (start-good s is) start

-- plain and recorded spheres and the devices are those of executing the points in their order
pub commits_are : CommitsAreSerial
commits_are s es is =
    let r = serial-after s es is in
    record { spheres = r.agrees.live; devices = r.agrees.devices; possible = r.possible }
