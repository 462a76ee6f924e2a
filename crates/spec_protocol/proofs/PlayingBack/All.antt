-- The play of a recorded log follows the recording from its start to its end.
use Rattle.std.proofs.Common.{◌≡◌, ℕ, suc, ◌+◌, ◌<◌, ◌≤◌, inl, inr, Bool, true, false, ◌&&◌, eqb, cond, List, [], ◌∷◌, length, Option, Some, None, refl, sym, ap, ◌∙◌, subst, arith}
use Rattle.std.specs.Prelude.{slice_get, nat_lt, IsSome, find, option_map}
use Rattle.std.specs.List.{list_all}
use Rattle.std.proofs.lemmas.Bool.{true≢false, cases_eq, cases_lt, le-ltb, lt-ltb, and_from, eq-eqb}
use Rattle.std.proofs.lemmas.Option.{none-some}
use Rattle.dl_entry.specs.declared.End.{End}
use Rattle.dl_entry.specs.declared.Request.{Request}
use Rattle.spec_isa.specs.declared.thread.Parts.{Parts}
use Rattle.spec_isa.specs.Runs.{run}
use Rattle.spec_log.specs.declared.ModeName.{ModeName}
use Rattle.spec_log.specs.declared.ShortSize.{ShortSize}
use Rattle.spec_log.specs.declared.Sizes.{Sizes}
use Rattle.spec_log.specs.declared.LogParts.{LogParts}
use Rattle.spec_play.specs.Progress.{Progress, position}
use Rattle.spec_play.specs.declared.used.Used.{Used}
use Rattle.spec_play.specs.Turns.{Ended, is_size_used, are_sizes_used, has_left_over, at_end, turn_of, next_actor, now_at}
use Rattle.spec_play.specs.Verdicts.{interrupt_at}
use Rattle.spec_play.specs.Recording.{interrupt_noted}
use Rattle.spec_play.specs.Plays.{Played, plays}
use Rattle.spec_engine.specs.declared.answers.How.{How}
use Rattle.spec_sphere.specs.sphere.Spheres.{Recording, Role, Record, Sphere}
use Rattle.spec_sphere.specs.sphere.Commits.{MovedSphere, chunk_in, chunk_moved, serial_in, serial_moved, dma_in, dma_moved, live_dma, dma_log, role_raised, raised, laid}
use Rattle.spec_engine.specs.Closing.{is_piece, is_short}
use Rattle.spec_protocol.specs.machine.World.{Numbers, MoveKind, OfChunk, OfSerial, OfDma, OfRaise, Move}
use Rattle.spec_sphere.specs.sphere.Setups.{all_of, last_played, first_played, RoleSetup, new_recording, SphereSetup, live_sphere, sphere_as}
use Rattle.spec_protocol.specs.machine.Machine.{moves, world_of}
use Rattle.spec_protocol.specs.machine.Serial.{SerialState, serial_start, do_moved, do_serial, do_dma, do_raise}
use Rattle.spec_protocol.specs.machine.Moves.{move_chunk, do_by_kind, do_at, do_move, do_moves, FitsChunk, FitsSerial, FitsWhat, FitsAt, Fits, FitAll}
use Rattle.spec_sphere.specs.sphere.Moves.{FitsRaise}
use Rattle.spec_sphere.specs.promises.PlayingBack.{PlaysBack}
use Rattle.spec_protocol.specs.promises.PlayingBack.{LogsPlayBack}
use Rattle.spec_strata.proofs.Shares.Steps.{get-set_same}
use Rattle.spec_protocol.proofs.Moves.Elsewhere.{at-away}
use Rattle.spec_sphere.specs.promises.Standing.{short_at, SizesStand, Stands}
use Rattle.spec_sphere.specs.promises.Sound.{commits_if, commits_in}
use Rattle.spec_sphere.proofs.Logs.Growing.{Ahead}
use Rattle.spec_sphere.proofs.Logs.Coming.{ahead-end}
use Rattle.spec_sphere.proofs.PlayingBack.Following.{early_same, pending, pending_same, sum_from, sum-zero, Follows}
use Rattle.spec_sphere.proofs.PlayingBack.Moves.{Reaches, Grown, grown_refl, grown_trans, serial-grown, dma-grown, raise-grown, recorded_dma}
use Rattle.spec_protocol.proofs.PlayingBack.Moves.{chunk-grown}
use Rattle.spec_protocol.proofs.Invariants.Schedules.{start-sphere, moves_are}
use Rattle.spec_sphere.proofs.PlayingBack.All.{start-stands, start_reaches}

-- ---- the recorded sphere after a move

-- sphere i has come from p, and its log from this
pub record Comes (x : SerialState) (i : ℕ) (p : Sphere) (plog : LogParts) : Type 0 where
  pub sphere : Sphere
  pub recording : Recording
  pub there : slice_get x.spheres i ≡ Some sphere
  pub role : sphere.role ≡ Record recording
  pub grown : Grown p sphere plog recording.log

moved_comes : (x : SerialState) (i : ℕ) (p : Sphere) (log : LogParts) (q : Recording) (v : MovedSphere) → slice_get x.spheres i ≡ Some p → (laid v).role ≡ Record q → Grown p (laid v) log q.log → Comes (do_moved x i v) i p log
moved_comes x i p log q v is role grown = record { sphere = laid v; recording = q; there = get-set_same x.spheres i (laid v) p is; role = role; grown = grown }

chunk_comes : (z : Numbers) (x : SerialState) (i : ℕ) (p : Sphere) (recording : Recording) (k : ℕ) (how : How) (n limit : ℕ) (o : Option Parts) → 0 < z.capacity → recording.log.s ≡ z.s → slice_get x.spheres i ≡ Some p → p.role ≡ Record recording
    → slice_get p.threads k ≡ o → FitsChunk z p k how n limit o → Comes (move_chunk z x i k how n limit p o) i p recording.log
unfolding chunk_moved
chunk_comes z x i p recording k how n limit None buffer s is role thread fits = absurd fits
chunk_comes z x i p recording k how n limit (Some t) buffer s is role thread fits =
    subst (λ (v : MovedSphere). Comes (do_moved x i v) i p recording.log)
    (sym (ap (λ (r : Role). chunk_in r k (is_piece how) (is_short z.s how limit) (run p.memory t n) x.devices p) role))
    (moved_comes x i p recording.log _ (chunk_in (Record recording) k (is_piece how) (is_short z.s how limit) (run p.memory t n) x.devices p) is refl
    (chunk-grown z recording p k t how n limit x.devices role s buffer thread fits))

serial_comes : (x : SerialState) (i moment : ℕ) (p : Sphere) (recording : Recording) (k : ℕ) (o : Option Parts) → slice_get x.spheres i ≡ Some p → p.role ≡ Record recording
    → slice_get p.threads k ≡ o → FitsSerial p k o → Comes (do_serial x i k moment p o) i p recording.log
unfolding serial_moved
serial_comes x i moment p recording k None is role thread fits = absurd fits
serial_comes x i moment p recording k (Some t) is role thread fits =
    subst (λ (v : MovedSphere). Comes (do_moved x i v) i p recording.log)
    (sym (ap (λ (r : Role). serial_in r k moment t x.devices p) role))
    (moved_comes x i p recording.log _ (serial_in (Record recording) k moment t x.devices p) is refl (serial-grown recording p k moment t x.devices role thread fits))

dma_comes : (x : SerialState) (i : ℕ) (p : Sphere) (recording : Recording) (o : Option Request) → slice_get x.spheres i ≡ Some p → p.role ≡ Record recording
    → p.progress.request ≡ o → IsSome (dma_moved x.devices p) → Comes (do_dma x i (dma_moved x.devices p)) i p recording.log
unfolding dma_moved
dma_comes x i p recording None is role asked some =
    let none : dma_in p.role x.devices p ≡ None =
    ap (λ (r : Role). dma_in r x.devices p) role ∙ (λ j. live_dma (Record (record recording { log = dma_log recording.log x.devices p (asked j) })) x.devices p (asked j)) in
    absurd (true≢false (sym (subst IsSome none some)))
dma_comes x i p recording (Some request) is role asked some =
    subst (λ (o : Option MovedSphere). Comes (do_dma x i o) i p recording.log)
    (sym (ap (λ (r : Role). dma_in r x.devices p) role ∙ (λ j. live_dma (Record (record recording { log = dma_log recording.log x.devices p (asked j) })) x.devices p (asked j))))
    (moved_comes x i p recording.log (record recording { log = dma_log recording.log x.devices p (Some request) }) (recorded_dma recording p x.devices request) is refl (dma-grown recording p x.devices request asked))

raise_comes : (x : SerialState) (i : ℕ) (p : Sphere) (recording : Recording) (k value : ℕ) (o : Option Parts) → slice_get x.spheres i ≡ Some p → p.role ≡ Record recording
    → slice_get p.threads k ≡ o → FitsRaise p o → Comes (do_raise x i k value p o) i p recording.log
unfolding raised
raise_comes x i p recording k value None is role thread fits = absurd fits
raise_comes x i p recording k value (Some t) is role thread fits =
    record {
      sphere = raised k value t p;
      recording = record recording { log = interrupt_noted k t.commits value recording.log };
      there = get-set_same x.spheres i (raised k value t p) p is;
      role = ap (role_raised k t.commits value) role;
      grown = raise-grown recording p k value t role thread fits.takes;
    }

what_comes : (z : Numbers) (x : SerialState) (moment i : ℕ) (p : Sphere) (recording : Recording) (what : MoveKind) → 0 < z.capacity → recording.log.s ≡ z.s → slice_get x.spheres i ≡ Some p → p.role ≡ Record recording → FitsWhat z x.devices p what → Comes (do_by_kind z x moment i p what) i p recording.log
what_comes z x moment i p recording (OfChunk k how n limit) buffer s is role fits = chunk_comes z x i p recording k how n limit (slice_get p.threads k) buffer s is role refl fits
what_comes z x moment i p recording (OfSerial k) buffer s is role fits = serial_comes x i moment p recording k (slice_get p.threads k) is role refl fits
what_comes z x moment i p recording OfDma buffer s is role fits = dma_comes x i p recording p.progress.request is role refl fits.moves
what_comes z x moment i p recording (OfRaise k value) buffer s is role fits = raise_comes x i p recording k value (slice_get p.threads k) is role refl fits

-- ---- moves

move_comes : (z : Numbers) (x : SerialState) (m : Move) (i : ℕ) (p : Sphere) (recording : Recording) → 0 < z.capacity → recording.log.s ≡ z.s → slice_get x.spheres i ≡ Some p → p.role ≡ Record recording → Fits z x m → Comes (do_move z x m) i p recording.log
unfolding do_move
move_comes z x m i p recording buffer s is role fits =
    elim (cases_eq i m.sphere) [
      | inl e ↦ (
          let there : slice_get x.spheres m.sphere ≡ Some p = ap (slice_get x.spheres) (sym e) ∙ is in
          subst (λ (o : Option Sphere). Comes (do_at z x m o) i p recording.log) (sym there)
          (subst (λ (n : ℕ). Comes (do_by_kind z x m.moment m.sphere p m.what) n p recording.log) (sym e)
          (what_comes z x m.moment m.sphere p recording m.what buffer s there role (subst (FitsAt z x.devices m) there fits)))
          )
      | inr ne ↦ record { sphere = p; recording = recording; there = at-away z x m i (slice_get x.spheres m.sphere) ne ∙ is; role = role; grown = grown_refl p recording.log }
    ]

-- moves that can be done let it come
pub moves_come : (z : Numbers) (x : SerialState) (ms : List Move) (i : ℕ) (p : Sphere) (recording : Recording) → 0 < z.capacity → recording.log.s ≡ z.s → slice_get x.spheres i ≡ Some p → p.role ≡ Record recording → FitAll z x ms → Comes (do_moves z x ms) i p recording.log
moves_come z x [] i p recording buffer s is role fits = record { sphere = p; recording = recording; there = is; role = role; grown = grown_refl p recording.log }
moves_come z x (m ∷ ms) i p recording buffer s is role fits =
    let a = move_comes z x m i p recording buffer s is role fits.0 in
    let b = moves_come z (do_move z x m) ms i a.sphere a.recording buffer (a.grown.s ∙ s) a.there a.role fits.1 in
    record { sphere = b.sphere; recording = b.recording; there = b.there; role = b.role; grown = grown_trans p a.sphere b.sphere recording.log a.recording.log b.recording.log a.grown b.grown }

-- ---- the end

same_list : (xs ys : List Parts) → length xs ≡ length ys → ((j : ℕ) (t : Parts) → slice_get ys j ≡ Some t → slice_get xs j ≡ Some t) → xs ≡ ys
same_list [] [] size each = refl
same_list [] (y ∷ ys) size each = absurd (omega arith)
same_list (x ∷ xs) [] size each = absurd (omega arith)
same_list (x ∷ xs) (y ∷ ys) size each =
    let h : x ≡ y = (let e : Some x ≡ Some y = each 0 y refl in cc) in
    (λ i. h i ∷ same_list xs ys (omega arith) (λ j t e. each (suc j) t e) i)

-- the first of these is found by its thread and index; and where none is found, none is of the rest
same_test : (a b : ℕ) → (eqb a a && eqb b b) ≡ true
same_test a b = and_from (eqb a a) (eqb b b) (eq-eqb a a refl) (eq-eqb b b refl)

first_found : (s : ShortSize) (ss : List ShortSize) → short_at (s ∷ ss) s.thread s.index ≡ Some s.size
first_found s ss = ap (λ (b : Bool). option_map (λ (x : ShortSize). x.size) (cond b (Some s) (find (λ (x : ShortSize). eqb x.thread s.thread && eqb x.index s.index) ss))) (same_test s.thread s.index)

rest_if : (b : Bool) (s : ShortSize) (o : Option ShortSize) → option_map (λ (x : ShortSize). x.size) (cond b (Some s) o) ≡ None → option_map (λ (x : ShortSize). x.size) o ≡ None
rest_if true s o e = absurd (none-some s.size (sym e))
rest_if false s o e = e

rest_none : (s : ShortSize) (ss : List ShortSize) (k i : ℕ) → short_at (s ∷ ss) k i ≡ None → short_at ss k i ≡ None
rest_none s ss k i e = rest_if (eqb s.thread k && eqb s.index i) s (find (λ (x : ShortSize). eqb x.thread k && eqb x.index i) ss) e

size_used : (o : Option Parts) (s : ShortSize) → (commits_if o ≤ s.index → ⊥) → is_size_used o s ≡ true
size_used None s less = absurd (less (omega arith))
size_used (Some t) s less = elim (cases_lt s.index t.commits) [
  | inl l ↦ lt-ltb s.index t.commits l
  | inr l ↦ absurd (less l)
]

shorts_used : (ts : List Parts) (ss : List ShortSize) → ((k i : ℕ) → commits_in ts k ≤ i → short_at ss k i ≡ None) → list_all (λ (s : ShortSize). is_size_used (slice_get ts s.thread) s) ss ≡ true
shorts_used ts [] none = refl
shorts_used ts (s ∷ ss) none =
    and_from _ _
    (size_used (slice_get ts s.thread) s (λ l. none-some s.size (sym (none s.thread s.index l) ∙ first_found s ss)))
    (shorts_used ts ss (λ k i l. rest_none s ss k i (none k i l)))

sizes_used : (mode : ModeName) (z : Sizes) (n : ℕ) (ts : List Parts) → SizesStand mode z n ts → are_sizes_used ts z ≡ true
sizes_used mode (Sizes.Each xs) n ts s = refl
sizes_used ModeName.OrderSize (Sizes.Short xs) n ts s = absurd s
sizes_used ModeName.OrderOnly (Sizes.Short xs) n ts s = shorts_used ts xs s
sizes_used ModeName.Picolog (Sizes.Short xs) n ts s = shorts_used ts xs s

none_left : (L : LogParts) (u : Used) (ts : List Parts) → are_sizes_used ts L.sizes ≡ true → u.inputs ≡ length L.inputs → u.interrupts ≡ length L.interrupts → u.dmas ≡ length L.dmas → has_left_over L u ts ≡ false
unfolding has_left_over
none_left L u ts sizes inputs interrupts dmas =
    ap (λ (b : Bool). cond b (cond (nat_lt u.interrupts (length L.interrupts)) true (cond (nat_lt u.inputs (length L.inputs)) true (nat_lt u.dmas (length L.dmas)))) true) sizes
    ∙ ap (λ (b : Bool). cond b true (cond (nat_lt u.inputs (length L.inputs)) true (nat_lt u.dmas (length L.dmas)))) (le-ltb u.interrupts (length L.interrupts) (omega arith))
    ∙ ap (λ (b : Bool). cond b true (nat_lt u.dmas (length L.dmas))) (le-ltb u.inputs (length L.inputs) (omega arith))
    ∙ le-ltb u.dmas (length L.dmas) (omega arith)

over_at : (L : LogParts) (p : Progress) (u : Used) (ts : List Parts) → position p ≡ L.count → has_left_over L u ts ≡ false → now_at L p u ts ≡ Ended (End.Complete L.count)
unfolding now_at
over_at L p u ts at_ left =
    ap (λ (b : Bool). cond b (turn_of (position p) ts (next_actor L p ts)) (at_end (position p) (has_left_over L u ts))) (le-ltb (position p) L.count (omega arith))
    ∙ ap (at_end (position p)) left ∙ ap (λ (n : ℕ). Ended (End.Complete n)) at_

ends : (L : LogParts) (image : SphereSetup) (q : Sphere) → Stands q L → Reaches L (first_played image (all_of L)) q L → PlaysBack L image q
ends L image q s r =
    let y0 : Played = first_played image (all_of L) in
    let f : Follows L q L (last_played image (all_of L)) = subst (λ (n : ℕ). Follows L q L (plays L y0 n)) (sym s.count) r in
    let y : Played = last_played image (all_of L) in
    let threads : y.threads ≡ q.threads = same_list y.threads q.threads f.size (λ j t e. f.threads j t e ∙ ap Some (early_same (interrupt_at L.interrupts j t.commits) (interrupt_at L.interrupts j t.commits) t refl)) in
    let sum : sum_from (pending L.interrupts L.interrupts) 0 q.threads ≡ 0 =
    sum-zero (pending L.interrupts L.interrupts) 0 q.threads (λ j t e. pending_same (interrupt_at L.interrupts (0 + j) t.commits) (interrupt_at L.interrupts (0 + j) t.commits) refl) in
    let at_ : position y.progress ≡ L.count = ap position f.progress ∙ sym s.count in
    record {
      fit = f.now ∙ over_at L y.progress y.used y.threads at_
          (none_left L y.used y.threads (ap (λ (ts : List Parts). are_sizes_used ts L.sizes) threads ∙ sizes_used L.mode L.sizes (position q.progress) q.threads s.sizes) f.inputs (let a = f.interrupts in omega arith) f.dmas);
      memory = f.memory;
      threads = threads;
      progress = f.progress;
    }

-- ---- all

-- the log of a recorded sphere fits its image, and its play leaves what the recording has
pub logs_play_back : LogsPlayBack
logs_play_back s es i image asked will p recording shown role_ =
    let is = will.setup in
    let there = will.there in
    let role = will.role in
    let m = moves_are s es is in
    let z : ℕ = s.numbers.s in
    let begins : Role = Record (new_recording asked z) in
    let c = moves_come s.numbers (serial_start s) (moves (world_of s) es) i (live_sphere image begins) (new_recording asked z) is.buffer refl
    (start-sphere z s.spheres i image there ∙ ap (λ (r : RoleSetup). Some (sphere_as z image r)) role) refl m.possible in
    let q : Sphere = c.sphere in
    let L : LogParts = c.recording.log in
    let same : q ≡ p = (let h : Some q ≡ Some p = sym c.there ∙ ap (λ (x : SerialState). slice_get x.spheres i) (sym m.same) ∙ shown in cc) in
    let kept : c.recording ≡ recording = (let h : Record c.recording ≡ Record recording = sym c.role ∙ ap (λ (x : Sphere). x.role) same ∙ role_ in cc) in
    let st = start-stands z image begins asked.version asked.mode in
    let last : Ahead L q L = ahead-end q L in
    let done : PlaysBack L image q = ends L image q (c.grown.stands st) (c.grown.reaches L (first_played image (all_of L)) st last (start_reaches L z image begins asked.version asked.mode (c.grown.ahead L last))) in
    subst (λ (r : Recording). PlaysBack r.log image p) kept (subst (PlaysBack L image) same done)
