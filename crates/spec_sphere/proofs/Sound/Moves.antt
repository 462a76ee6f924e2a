-- What a granted request of a chunk or a serial step makes of a sound sphere is sound.
use Rattle.std.proofs.Common.{◌≡◌, ℕ, suc, ◌+◌, ◌%◌, ◌<◌, ◌≤◌, Bool, true, false, eqb, List, ◌++◌, length, Option, Some, None, refl, sym, ap, ◌∙◌, subst, set, arith}
use Rattle.std.specs.Prelude.{slice_get, nat_le, ◌&&◌, ◌||◌}
use Rattle.std.proofs.Math.ListN.{length-set, length-append}
use Rattle.std.proofs.lemmas.Bool.{leb-true, eqb-true, and_parts}
use Rattle.std.proofs.lemmas.List.{append-nil}
use Rattle.std.proofs.lemmas.Option.{slice_get_within}
use Rattle.dl_entry.specs.Numbers.{plain_threads}
use Rattle.dl_entry.specs.declared.Actor.{Actor}
use Rattle.dl_entry.specs.declared.Input.{Input}
use Rattle.spec_isa.specs.declared.thread.Parts.{Parts}
use Rattle.spec_isa.specs.Runs.{Run}
use Rattle.spec_isa.specs.Threads.{IsThread}
use Rattle.spec_log.specs.declared.LogParts.{LogParts}
use Rattle.spec_log.specs.Size.{size_in}
use Rattle.spec_kernel.specs.Devices.{Devices, HaveByteInput}
use Rattle.spec_kernel.specs.Needs.{Need, Write, Read, Random, Clock, MomentWord, InputWord, need}
use Rattle.spec_kernel.specs.Answers.{Taken, taken}
use Rattle.spec_kernel.specs.Records.{has_no_bytes, went_nowhere, fits_read, fits_random, fits}
use Rattle.spec_kernel.specs.Interrupts.{lives, is_live}
use Rattle.spec_kernel.specs.Serving.{serve, console_written}
use Rattle.spec_play.specs.Effects.{chunk_effect, serial_effect}
use Rattle.spec_play.specs.Progress.{Progress, position, with_effect, with_input}
use Rattle.spec_play.specs.declared.used.Used.{Used}
use Rattle.spec_play.specs.Turns.{Turn}
use Rattle.spec_play.specs.Plays.{with_threads}
use Rattle.spec_play.specs.Recording.{noted, input_noted}
use Rattle.spec_play.specs.Verdicts.{ended, chunk_why, chunk_verdict, TakenRecord, given, serial_why, served_verdict, serial_verdict}
use Rattle.spec_sphere.specs.sphere.Spheres.{Cursor, Role, Plain, Record, Replay, Sphere, actor_of, whole_limit, most_in}
use Rattle.spec_sphere.specs.sphere.Commits.{joined, piece_moved, replayed_chunk, chunk_in, chunk_moved, served_as, serial_noted, serial_in, serial_moved}
use Rattle.spec_sphere.specs.sphere.Setups.{SphereSetup}
use Rattle.spec_sphere.specs.promises.Sound.{IsDoneInOrder, AreSoundWords, IsSoundIf, HasThread, IsSoundCursor, IsSoundLog, IsSoundRole, IsSoundThread, IsSoundSphere}
use Rattle.spec_strata.proofs.Shares.Steps.{get-set_same}
use Rattle.spec_play.proofs.Threads.{branch}
use Rattle.spec_sphere.proofs.Sound.Threads.{Brings, BringsIf}
use Rattle.spec_sphere.proofs.Sound.Devices.{IsSoundTaken, taken-sound, written-devices}
use Rattle.spec_sphere.proofs.Replays.Order.{done-piece}
use Rattle.spec_sphere.proofs.Replays.Uses.{rising-of, due-still, piece-commits}
use Rattle.spec_sphere.proofs.Moves.Joining.{MayGo, turn_in_order}
use Rattle.spec_sphere.proofs.Sound.Commits.{set-all, IsSoundMoved, granted-sound, chunk-effect, serial-effect, noted-sound}
use Rattle.spec_sphere.proofs.Replays.Verdicts.{Uses, IfGoes, unless-goes, SoundlyIn, ended-goes, verdict-sound}

-- ---- chunks

-- the run of thread k's chunk, which began as t
pub record IsSoundRun (size : ℕ) (t : Parts) (r : Run) : Type 0 where
  pub thread : IsThread r.thread
  pub commits : r.thread.commits ≡ t.commits
  pub status : r.thread.status ≡ t.status
  pub words : AreSoundWords size r.words
  pub loads : length r.loads ≤ r.n

-- a chunk that goes on does so soundly
pub chunk-goes : (size k : ℕ) (log : LogParts) (p : Progress) (u : Used) (ts : List Parts) (t : Parts) (r : Run) → slice_get ts k ≡ Some t → IsThread r.thread → r.thread.commits ≡ t.commits → AreSoundWords size r.words → IsSoundIf size p.request → length ts ≤ log.threads → Uses log ts u
    → IfGoes (SoundlyIn size log k ts t) (chunk_verdict log p u k r)
unfolding chunk_verdict
chunk-goes size k log p u ts t r is thread commits words request few uses =
    unless-goes (SoundlyIn size log k ts t) (chunk_why (size_in log (Actor.Thread k) r.thread.commits) r.n) (ended log k (chunk_effect k p.request r) u)
    (ended-goes size log k ts t (chunk_effect k p.request r) u is (chunk-effect size log.threads k ts t p.request r thread commits words request few) uses)

-- a sound cursor uses its log soundly
pub cursor-uses : (commits : ℕ) (threads : List Parts) (b : Cursor) → IsSoundCursor commits threads b → Uses b.log threads b.used
cursor-uses commits threads b s = record { rising = rising-of b.log.interrupts s.log.interrupts.rising; inputs = s.inputs; dmas = s.dmas; interrupts = s.interrupts }

-- where it is a piece, its commit has room for it and an instruction more
pub record FitsRole (k : ℕ) (t : Parts) (piece : Bool) (r : Run) (role : Role) : Type 0 where
  pub live : is_live t ≡ true
  pub turn : (b : Cursor) → role ≡ Replay b → MayGo b k
  pub room : (b : Cursor) → role ≡ Replay b → piece ≡ true → b.total + r.n < whole_limit b.log k t.commits

-- at this moment sphere p is sound, thread k of it is t, and the input is bytes
module _ (s : ℕ) (image : SphereSetup) (now k : ℕ) (t : Parts) (devices : Devices) (p : Sphere) (sound : IsSoundSphere s image now p) (is : slice_get p.threads k ≡ Some t) (d : HaveByteInput devices) where
  -- a piece leaves the thread's commits, and room for an instruction more
  piece-sound : (b : Cursor) (r : Run) → IsSoundCursor (position p.progress) p.threads b → MayGo b k → is_live t ≡ true → IsSoundRun (length image.memory) t r → b.total + r.n < whole_limit b.log k t.commits → length p.threads ≤ b.log.threads
      → IsSoundMoved s image (suc now) (piece_moved b k r devices p)
  piece-sound b r cursor turn live run room few =
      let n = position p.progress in
      let us = set p.threads k r.thread in
      let c = run.commits in
      let lives : is_live r.thread ≡ true = ap lives run.status ∙ live in
      let there = get-set_same p.threads k r.thread t is in
      record {
        sphere = record {
          size = sound.size;
          bytes = sound.bytes;
          request = sound.request;
          some = (let a = sound.some in let l = length-set p.threads k r.thread in omega (arith, l, a));
          few = (let l = length-set p.threads k r.thread in omega (arith, l, few));
          threads = set-all (IsSoundThread n) p.threads k r.thread (record { thread = run.thread; few = (let l = (sound.threads k t is).few in omega (arith, l, c)) }) sound.threads;
          commits = (let l = sound.commits in omega (arith, l));
          role = record {
            log = cursor.log;
            within = cursor.within;
            going = λ e. cursor.going turn.going;
            done = λ none. subst (IsDoneInOrder b.log.mode b.log.order n) (append-nil us) (done-piece b.log.mode b.log.order n k p.threads t r.thread is c (cursor.done none));
            named = λ actor none e. cursor.named actor none (ap actor_of (turn_in_order b k turn none) ∙ e);
            inputs = cursor.inputs;
            dmas = cursor.dmas;
            interrupts = cursor.interrupts ∙ sym (due-still b.log.interrupts p.threads us (piece-commits p.threads k t r.thread is c));
            loads = (let l = length-append b.loads r.loads in let a = cursor.loads in let q = run.loads in omega (arith, l, a, q));
            turn = λ j e. subst (HasThread (record b { now = Turn k; total = b.total + r.n; loads = b.loads ++ r.loads }) us) (let q : Turn k ≡ Turn j = e in let h : k ≡ j = cc in h)
                (record { thread = r.thread; there = there; live = lives; room = subst (λ (m : ℕ). b.total + r.n < whole_limit b.log k m) (sym c) room });
          };
        };
        words = run.words;
        devices = d;
      }

  replayed-sound : (b : Cursor) (piece : Bool) (r : Run) → IsSoundCursor (position p.progress) p.threads b → FitsRole k t piece r (Replay b) → IsSoundRun (length image.memory) t r → length p.threads ≤ b.log.threads
      → IsSoundMoved s image (suc now) (replayed_chunk piece b k r devices p)
  replayed-sound b true r cursor fits run few =
      piece-sound b r cursor (fits.turn b refl) fits.live run (fits.room b refl refl) few
  replayed-sound b false r cursor fits run few =
      verdict-sound s image now k b t (chunk_verdict b.log p.progress b.used k (joined b r)) devices p cursor (fits.turn b refl) sound few is
      (chunk-goes (length image.memory) k b.log p.progress b.used p.threads t (joined b r) is run.thread run.commits run.words sound.request few (cursor-uses (position p.progress) p.threads b cursor)) d

  chunk-in-sound : (role : Role) (piece short : Bool) (r : Run) → IsSoundRole s (position p.progress) p.threads role → FitsRole k t piece r role → IsSoundRun (length image.memory) t r → length p.threads ≤ most_in role
      → IsSoundMoved s image (suc now) (chunk_in role k piece short r devices p)
  chunk-in-sound Plain piece short r role fits run few =
      granted-sound s image now k None Plain t (chunk_effect k p.progress.request r) devices p sound is
      (chunk-effect (length image.memory) plain_threads k p.threads t p.progress.request r run.thread run.commits run.words sound.request few) tt d
  chunk-in-sound (Record recording) piece short r role fits run few =
      let e = chunk_effect k p.progress.request r in
      let effect = chunk-effect (length image.memory) recording.log.threads k p.threads t p.progress.request r run.thread run.commits run.words sound.request few in
      granted-sound s image now k None (Record (record recording { log = noted e.commit r.thread.commits short recording.log })) t e devices p sound is effect
      (noted-sound s k r.thread.commits short recording.log t e p is effect.commits role) d
  chunk-in-sound (Replay b) piece short r role fits run few = replayed-sound b piece r role fits run few

  -- a granted chunk leaves a sound sphere
  pub chunk-sound : (piece short : Bool) (r : Run) → FitsRole k t piece r p.role → IsSoundRun (length image.memory) t r → IsSoundMoved s image (suc now) (chunk_moved k piece short r devices p)
  unfolding chunk_moved
  chunk-sound piece short r fits run = chunk-in-sound p.role piece short r sound.role fits run sound.few

-- ---- serial steps

read-brings : (len : ℕ) (r : Input) → fits_read len r ≡ true → length r.bytes ≤ len
read-brings len r e =
    elim (nat_le r.result len && eqb (length r.bytes) r.result) as (λ (b : Bool). (nat_le r.result len && eqb (length r.bytes) r.result) ≡ b → (b || (went_nowhere r && has_no_bytes r)) ≡ true → length r.bytes ≤ len) [
      | true ↦ λ h _. (
          let q = and_parts (nat_le r.result len) (eqb (length r.bytes) r.result) h in
          let a = leb-true r.result len q.0 in
          let c = eqb-true (length r.bytes) r.result q.1 in
          omega (arith, a, c)
          )
      | false ↦ λ _ h. (let c = eqb-true (length r.bytes) 0 (and_parts (went_nowhere r) (has_no_bytes r) h).1 in omega (arith, c))
    ] refl e

-- the record that a log gives is no longer than what is wanted
pub fits-brings : (n : Need) (r : Input) → fits n r ≡ true → Brings (Some n) r
unfolding fits
fits-brings (Write channel bytes) r e = tt
fits-brings (Read channel buf len) r e = read-brings len r (and_parts (eqb r.kind 3) (fits_read len r) e).1
fits-brings (Random buf len) r e =
    let q = and_parts (eqb r.kind 4) (fits_random len r) e in
    let c = eqb-true (length r.bytes) len (and_parts (eqb r.result len) (eqb (length r.bytes) len) q.1).1 in
    omega (arith, c)
fits-brings Clock r e = tt
fits-brings MomentWord r e = tt
fits-brings InputWord r e = tt

-- what is given fits, and is among the records
record IsGiven (log : LogParts) (threads : List Parts) (o : Option Need) (g : TakenRecord) : Type 0 where
  brings : BringsIf o g.input
  uses : Uses log threads g.used

abbrev IfGiven : (log : LogParts) (threads : List Parts) → Option Need → Option TakenRecord → Type 0
IfGiven log threads o None = Unit {0}
IfGiven log threads o (Some g) = IsGiven log threads o g

given-sound : (log : LogParts) (threads : List Parts) (o : Option Need) (next : Option Input) (u : Used) → slice_get log.inputs u.inputs ≡ next → Uses log threads u → IfGiven log threads o (given o next u)
given-sound log threads None next u is uses = record { brings = tt; uses = uses }
given-sound log threads (Some n) None u is uses = tt
given-sound log threads (Some n) (Some r) u is uses =
    branch (IfGiven log threads (Some n)) (fits n r) (Some (record { input = Some r; used = with_input u })) None
    (λ e. record { brings = fits-brings n r e; uses = record { rising = uses.rising; inputs = (let l = slice_get_within log.inputs u.inputs r is in omega (arith, l)); dmas = uses.dmas; interrupts = uses.interrupts } })
    (λ _. tt)

served-goes : (size k : ℕ) (log : LogParts) (p : Progress) (ts : List Parts) (t : Parts) (m : List ℕ) (o : Option TakenRecord) → slice_get ts k ≡ Some t → IfGiven log ts (need t m) o → length m ≡ size → size % 4 ≡ 0 → IsThread t → IsSoundIf size p.request → length ts ≤ log.threads
    → IfGoes (SoundlyIn size log k ts t) (served_verdict log p k ts t m o)
served-goes size k log p ts t m None is each same whole thread request few = tt
served-goes size k log p ts t m (Some g) is each same whole thread request few =
    ended-goes size log k ts t (serial_effect k (serve log.threads k ts p.request t m g.input)) g.used is (serial-effect size log.threads k ts p.request t m g.input same whole each.brings thread request few) each.uses

-- a serial step that goes on does so soundly
pub serial-goes : (size k : ℕ) (log : LogParts) (p : Progress) (u : Used) (ts : List Parts) (t : Parts) (m : List ℕ) → slice_get ts k ≡ Some t → Uses log ts u → length m ≡ size → size % 4 ≡ 0 → IsThread t → IsSoundIf size p.request → length ts ≤ log.threads
    → IfGoes (SoundlyIn size log k ts t) (serial_verdict log p u k ts t m)
unfolding serial_verdict
serial-goes size k log p u ts t m is uses same whole thread request few =
    let g = given (need t m) (slice_get log.inputs u.inputs) u in
    unless-goes (SoundlyIn size log k ts t) (serial_why (size_in log (Actor.Thread k) t.commits)) (served_verdict log p k ts t m g)
    (served-goes size k log p ts t m g is (given-sound log ts (need t m) (slice_get log.inputs u.inputs) u refl uses) same whole thread request few)

-- the log keeps its standard size, and an input is no commit
input-log : (s n : ℕ) (threads : List Parts) (o : Option Input) (log : LogParts) → IsSoundLog s n threads log → IsSoundLog s n threads (input_noted o log)
input-log s n threads None log h = h
input-log s n threads (Some r) log h = record { version = h.version; size = h.size; count = h.count; interrupts = h.interrupts }

served-sound : (s : ℕ) (image : SphereSetup) (now k : ℕ) (role : Role) (t : Parts) (g : Taken) (p : Sphere) → length image.memory % 4 ≡ 0 → IsSoundSphere s image now p → slice_get p.threads k ≡ Some t → IsSoundTaken (need t p.memory) g → length p.threads ≤ most_in role
    → IsSoundRole s (position (with_effect k (serial_effect k (serve (most_in role) k p.threads p.progress.request t p.memory g.input)) p.progress)) (with_threads k (serial_effect k (serve (most_in role) k p.threads p.progress.request t p.memory g.input)) p.threads) role
    → IsSoundMoved s image (suc now) (served_as role k t g p)
served-sound s image now k role t g p whole sound is taken_ few role_sound =
    let v = serve (most_in role) k p.threads p.progress.request t p.memory g.input in
    granted-sound s image now k None role t (serial_effect k v) (console_written t p.memory v.outputs g.devices) p sound is
    (serial-effect (length image.memory) (most_in role) k p.threads p.progress.request t p.memory g.input sound.size whole taken_.brings (sound.threads k t is).thread sound.request few)
    role_sound (written-devices t p.memory v.outputs g.devices taken_.devices)

serial-in-sound : (s : ℕ) (image : SphereSetup) (now k moment : ℕ) (role : Role) (t : Parts) (devices : Devices) (p : Sphere) → length image.memory % 4 ≡ 0 → IsSoundRole s (position p.progress) p.threads role → ((b : Cursor) → role ≡ Replay b → MayGo b k)
    → IsSoundSphere s image now p → length p.threads ≤ most_in role → slice_get p.threads k ≡ Some t → HaveByteInput devices → IsSoundMoved s image (suc now) (serial_in role k moment t devices p)
serial-in-sound s image now k moment Plain t devices p whole role going sound few is d =
    served-sound s image now k Plain t (taken (need t p.memory) devices moment) p whole sound is (taken-sound t p.memory devices moment sound.bytes d) few tt
serial-in-sound s image now k moment (Record recording) t devices p whole role going sound few is d =
    let g = taken (need t p.memory) devices moment in
    let e = serial_effect k (serve recording.log.threads k p.threads p.progress.request t p.memory g.input) in
    let taken_ = taken-sound t p.memory devices moment sound.bytes d in
    let effect = serial-effect (length image.memory) recording.log.threads k p.threads p.progress.request t p.memory g.input sound.size whole taken_.brings (sound.threads k t is).thread sound.request few in
    served-sound s image now k (Record (record recording { log = serial_noted k t g recording.log p })) t g p whole sound is taken_ few
    (input-log s (position (with_effect k e p.progress)) (with_threads k e p.threads) g.input (noted e.commit t.commits false recording.log) (noted-sound s k t.commits false recording.log t e p is effect.commits role))
serial-in-sound s image now k moment (Replay b) t devices p whole role going sound few is d =
    verdict-sound s image now k b t (serial_verdict b.log p.progress b.used k p.threads t p.memory) devices p role (going b refl) sound few is
    (serial-goes (length image.memory) k b.log p.progress b.used p.threads t p.memory is (cursor-uses (position p.progress) p.threads b role) sound.size whole (sound.threads k t is).thread sound.request few) d

-- a granted serial step leaves a sound sphere
pub serial-sound : (s : ℕ) (image : SphereSetup) (now k moment : ℕ) (t : Parts) (devices : Devices) (p : Sphere) → length image.memory % 4 ≡ 0 → ((b : Cursor) → p.role ≡ Replay b → MayGo b k)
    → IsSoundSphere s image now p → slice_get p.threads k ≡ Some t → HaveByteInput devices → IsSoundMoved s image (suc now) (serial_moved k moment t devices p)
unfolding serial_moved
serial-sound s image now k moment t devices p whole going sound is d = serial-in-sound s image now k moment p.role t devices p whole sound.role going sound sound.few is d
