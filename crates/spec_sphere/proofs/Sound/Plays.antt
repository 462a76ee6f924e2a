-- A replay begins in a sound sphere, wherever in the play of its log that is.
use Rattle.std.proofs.Common.{◌≡◌, ℕ, zero, suc, ◌/◌, ◌%◌, ◌≤◌, List, [], ◌∷◌, length, Option, Some, None, refl, sym, ap, ◌∙◌, subst, arith}
use Rattle.std.specs.Prelude.{slice_get}
use Rattle.std.proofs.lemmas.Option.{none-some}
use Rattle.spec_isa.specs.declared.thread.Parts.{Parts}
use Rattle.spec_isa.specs.declared.thread.Kind.{Kind}
use Rattle.spec_isa.specs.Words.{Stored, lay, lays, read, IsBytes}
use Rattle.spec_isa.specs.Instruction.{Next, one, unless, value_at, serial_of, loads_of, next_of, load_of, store_of}
use Rattle.spec_isa.specs.Runs.{Run, followed, run}
use Rattle.spec_isa.specs.Threads.{IsThread, started}
use Rattle.spec_isa.proofs.MemoryLaws.{length_lays}
use Rattle.spec_log.specs.declared.LogParts.{LogParts}
use Rattle.spec_log.specs.Log.{IsLog}
use Rattle.spec_kernel.specs.Devices.{Devices, devices_of, HaveByteInput}
use Rattle.spec_kernel.specs.Needs.{next_kind}
use Rattle.spec_play.specs.Progress.{position, no_progress, nothing_used}
use Rattle.spec_play.specs.Turns.{TurnOrEnd, Turn, TurnOfDma, Ended}
use Rattle.spec_play.specs.Verdicts.{LogVerdict, Goes, Fails}
use Rattle.spec_play.specs.Transfers.{DmaVerdict, DmaGoes, DmaFails, dma_verdict}
use Rattle.spec_play.specs.Plays.{Played, opened, settled, size_or_standard, thread_verdict, play_thread, dma_settled, play_turn, play_one, plays}
use Rattle.spec_play.specs.Intervals.{before, without_commits}
use Rattle.spec_sphere.specs.sphere.Spheres.{Cursor, Sphere}
use Rattle.spec_sphere.specs.sphere.Commits.{MovedSphere, between, laid}
use Rattle.spec_sphere.specs.sphere.Setups.{ReplaySetup, all_of, SphereSetup, first_played, first_standing, replay_at}
use Rattle.spec_sphere.specs.promises.Sound.{IsImage, HaveBytes, AreSoundWords, IsSoundIf, IsSoundCursor, IsSoundThread, IsSoundSphere}
use Rattle.spec_sphere.proofs.Moves.Joining.{its_turn}
use Rattle.spec_sphere.proofs.Moves.Threads.{run-keeps}
use Rattle.spec_sphere.proofs.Sound.Words.{sound-none, lay-bytes}
use Rattle.spec_sphere.proofs.Sound.Threads.{started-thread}
use Rattle.spec_sphere.proofs.Sound.Instructions.{next-thread, next-store, with-words}
use Rattle.spec_sphere.proofs.Sound.Devices.{no-byte, start-bytes}
use Rattle.spec_sphere.proofs.Sound.Commits.{IsSoundMoved}
use Rattle.spec_sphere.proofs.Sound.Moves.{chunk-goes, serial-goes, cursor-uses}
use Rattle.spec_sphere.proofs.Sound.Transfers.{IfDmaGoes, dma-goes, dma-verdict-sound}
use Rattle.spec_sphere.proofs.Sound.Limits.{version-least}
use Rattle.spec_sphere.proofs.Replays.Order.{done-none}
use Rattle.spec_sphere.proofs.Replays.Uses.{none-due_first}
use Rattle.spec_sphere.proofs.Replays.Turns.{between-sound, strata-sound, turned-sound}
use Rattle.spec_sphere.proofs.Replays.Verdicts.{Uses, IfGoes, SoundlyIn, as-role, verdict-sound}

-- ---- a run

-- a run in a memory of that size leaves a thread, and words that are sound
record IsRunIn (size : ℕ) (r : Run) : Type 0 where
  thread : IsThread r.thread
  words : AreSoundWords size r.words

next-run : (size n f w : ℕ) (r : Run) (o : Option Kind) → n ≡ size → serial_of r.thread f n ≡ o → IsRunIn size r → let t = r.thread in IsRunIn size (followed r (unless o (Next (next_of t f w) (load_of t f w) (store_of t f w))))
next-run size n f w r (Some kind) same is sound = sound
next-run size n f w r None same is sound =
    let none = ap (serial_of r.thread f) (sym same) ∙ is in
    record {
      thread = next-thread r.thread f w size none sound.thread;
      words = with-words size r.words (store_of r.thread f w) (next-store r.thread f w size none) sound.words;
    }

more-run : (size : ℕ) (m : List ℕ) (r : Run) → length m ≡ size → IsRunIn size r → IsRunIn size (followed r (one r.thread m))
unfolding one
more-run size m r same sound =
    let f = read m (r.thread.pc / 4) in
    next-run size (length m) f (value_at m (loads_of r.thread f)) r (serial_of r.thread f (length m)) same refl sound

run-in : (size : ℕ) (m : List ℕ) (t : Parts) (n : ℕ) → length m ≡ size → IsThread t → IsRunIn size (run m t n)
run-in size m t zero same is = record { thread = is; words = sound-none size }
run-in size m t (suc n) same is =
    let r = run m t n in more-run size (lays m r.words) r (length_lays m r.words ∙ same) (run-in size m t n same is)

-- ---- its words in memory

lays-bytes : (m : List ℕ) (words : List Stored) → HaveBytes words → IsBytes m → IsBytes (lays m words)
lays-bytes m [] have bytes = bytes
lays-bytes m (w ∷ words) have bytes = lays-bytes (lay m w) words have.1 (lay-bytes m w have.0 bytes)

laid-sound : (s : ℕ) (image : SphereSetup) (now : ℕ) (v : MovedSphere) → IsSoundMoved s image now v → IsSoundSphere s image now (laid v)
laid-sound s image now v moved =
    let p = moved.sphere in
    record {
      size = length_lays v.sphere.memory v.words ∙ p.size;
      bytes = lays-bytes v.sphere.memory v.words moved.words.bytes p.bytes;
      request = p.request;
      some = p.some;
      few = p.few;
      threads = p.threads;
      commits = p.commits;
      role = p.role;
    }

-- ---- one commit of a play

-- the sphere that replays the whole log and is where the play is
abbrev replaying : LogParts → Played → Sphere
replaying log y = replay_at (all_of log) y

verdict-goes : (size k : ℕ) (log : LogParts) (y : Played) (t : Parts) (o : Option Kind) → slice_get y.threads k ≡ Some t → Uses log y.threads y.used → length y.memory ≡ size → size % 4 ≡ 0 → IsThread t → IsSoundIf size y.progress.request → length y.threads ≤ log.threads
    → IfGoes (SoundlyIn size log k y.threads t) (thread_verdict log y k t o)
verdict-goes size k log y t None is uses same whole thread request few =
    let n = size_or_standard log k t.commits in
    let ran = run-in size y.memory t n same thread in
    chunk-goes size k log y.progress y.used y.threads t (run y.memory t n) is ran.thread (run-keeps y.memory t n) ran.words request few uses
verdict-goes size k log y t (Some kind) is uses same whole thread request few =
    serial-goes size k log y.progress y.used y.threads t y.memory is uses same whole thread request few

-- The image s is whole words, and after so many commits the sphere that replays the log is sound.
module _ (s : ℕ) (image : SphereSetup) (now : ℕ) (log : LogParts) (y : Played) (whole : length image.memory % 4 ≡ 0) (sound : IsSoundSphere s image now (replaying log y)) where
  abbrev cursor : Cursor
  cursor = between log None None (position y.progress) y.used y.now

  -- what the devices hold doesn't matter
  abbrev none : Devices
  none = devices_of [] 0

  none-bytes : HaveByteInput none
  none-bytes = start-bytes [] 0 no-byte

  later : IsSoundSphere s image (suc now) (replaying log y)
  later = as-role s image now (replaying log y).role (replaying log y) sound.role sound.few sound

  settled-sound : (k : ℕ) (t : Parts) (v : LogVerdict) → y.now ≡ Turn k → slice_get y.threads k ≡ Some t → IfGoes (SoundlyIn (length image.memory) log k y.threads t) v
      → IsSoundSphere s image (suc now) (replaying log (settled log y k v))
  settled-sound k t (Goes e u) turn is goes =
      laid-sound s image (suc now) _ (verdict-sound s image now k cursor t (Goes e u) none (replaying log y) sound.role (its_turn cursor k turn) sound sound.few is goes none-bytes)
  settled-sound k t (Fails why) turn is goes =
      laid-sound s image (suc now) _ (verdict-sound s image now k cursor t (Fails why) none (replaying log y) sound.role (its_turn cursor k turn) sound sound.few is goes none-bytes)

  thread-sound : (k : ℕ) (o : Option Parts) → y.now ≡ Turn k → slice_get y.threads k ≡ o → IsSoundSphere s image (suc now) (replaying log (play_thread log y k o))
  thread-sound k None turn is = later
  thread-sound k (Some t) turn is =
      let kind = next_kind t y.memory in
      settled-sound k t (thread_verdict log y k t kind) turn is
      (verdict-goes (length image.memory) k log y t kind is (cursor-uses (position y.progress) y.threads cursor sound.role) sound.size whole (sound.threads k t is).thread sound.request sound.few)

  transferred-sound : (v : DmaVerdict) → y.now ≡ TurnOfDma → IfDmaGoes (length image.memory) log y.used v → IsSoundSphere s image (suc now) (replaying log (dma_settled log y v))
  transferred-sound (DmaGoes words) turn goes =
      laid-sound s image (suc now) _ (dma-verdict-sound s image now cursor (DmaGoes words) none (replaying log y) sound.role turn sound goes sound.few none-bytes)
  transferred-sound (DmaFails why) turn goes =
      laid-sound s image (suc now) _ (dma-verdict-sound s image now cursor (DmaFails why) none (replaying log y) sound.role turn sound goes sound.few none-bytes)

  now-sound : (turn : TurnOrEnd) → y.now ≡ turn → IsSoundSphere s image (suc now) (replaying log (play_turn log y turn))
  now-sound (Ended how) e = later
  now-sound TurnOfDma e =
      transferred-sound (dma_verdict log y.progress y.used) e (dma-goes (length image.memory) log y.progress y.used whole sound.request)
  now-sound (Turn k) e = thread-sound k (slice_get y.threads k) e refl

  one-sound : IsSoundSphere s image (suc now) (replaying log (play_one log y))
  unfolding play_one
  one-sound = now-sound y.now refl

-- ---- a play

-- thread 0, alone and before its first commit, is sound
pub first-thread : (entry k : ℕ) (t : Parts) → entry % 4 ≡ 0 → slice_get (started entry ∷ []) k ≡ Some t → IsSoundThread 0 t
first-thread entry zero t aligned e =
    subst (IsSoundThread 0) (let q : started entry ≡ t = cc in q) (record { thread = started-thread entry aligned; few = omega arith })
first-thread entry (suc k) t aligned e = absurd (none-some t e)

opened-sound : (s : ℕ) (image : SphereSetup) (log : LogParts) → IsImage s image → IsLog log → IsSoundSphere s image 0 (replaying log (opened log image.memory image.entry))
opened-sound s image log is good =
    let t = started image.entry in
    record {
      size = refl;
      bytes = is.bytes;
      request = tt;
      some = omega arith;
      few = version-least log.version log.threads good.version;
      threads = λ k x e. first-thread image.entry k x is.aligned e;
      commits = omega arith;
      role = turned-sound log None None no_progress nothing_used (t ∷ []) good (omega arith) (λ none. done-none log.mode log.order t refl) (omega arith) (omega arith)
          (sym (none-due_first t log.interrupts refl));
    }

plays-sound : (s : ℕ) (image : SphereSetup) (log : LogParts) (n : ℕ) → IsImage s image → IsLog log → IsSoundSphere s image n (replaying log (plays log (opened log image.memory image.entry) n))
plays-sound s image log zero is good = opened-sound s image log is good
plays-sound s image log (suc n) is good =
    let y = plays log (opened log image.memory image.entry) n in
    let pages = is.pages in
    one-sound s image n log y (omega (arith, pages)) (plays-sound s image log n is good)

-- ---- where an interval begins

without-sound : (s : ℕ) (image : SphereSetup) (n : ℕ) (asked : ReplaySetup) (y : Played) → IsSoundSphere s image n (replaying asked.log y) → IsSoundSphere s image 0 (replay_at asked (without_commits y))
without-sound s image n asked y sound =
    let e : position (without_commits y).progress ≡ position y.progress = omega arith in
    record {
      size = sound.size;
      bytes = sound.bytes;
      request = sound.request;
      some = sound.some;
      few = sound.few;
      threads = λ k t is. subst (λ (i : ℕ). IsSoundThread i t) (sym e) (sound.threads k t is);
      commits = omega arith;
      role = subst (λ (i : ℕ). IsSoundCursor i y.threads (between asked.log asked.interval (first_standing asked) i y.used y.now)) (sym e)
          (strata-sound asked.log asked.interval (first_standing asked) (position y.progress) y.used y.threads y.now
          (between-sound asked.log asked.interval None (position y.progress) y.used y.threads y.now sound.role));
    }

-- a replayed sphere begins sound
pub replay-sound : (s : ℕ) (image : SphereSetup) (asked : ReplaySetup) → IsImage s image → IsLog asked.log → IsSoundSphere s image 0 (replay_at asked (first_played image asked))
replay-sound s image asked is good =
    let n = before asked.interval in
    without-sound s image n asked (plays asked.log (opened asked.log image.memory image.entry) n) (plays-sound s image asked.log n is good)
