-- What a DMA or an interrupt makes of a sound sphere is sound.
use Rattle.std.proofs.Common.{◌≡◌, ℕ, suc, ◌%◌, ◌<◌, ◌≤◌, false, eqb, List, length, Option, Some, None, refl, sym, ap, subst, set, arith}
use Rattle.std.specs.Prelude.{slice_get, nat_le, option_map}
use Rattle.std.proofs.Math.ListN.{length-set}
use Rattle.std.proofs.lemmas.Bool.{true≢false, leb-true, and_parts}
use Rattle.std.proofs.lemmas.Option.{none-some, slice_get_within}
use Rattle.dl_entry.specs.declared.Actor.{Actor}
use Rattle.dl_entry.specs.declared.Request.{Request}
use Rattle.dl_entry.specs.declared.Why.{Why}
use Rattle.spec_isa.specs.declared.thread.Parts.{Parts}
use Rattle.spec_isa.specs.Words.{Stored}
use Rattle.spec_log.specs.declared.DmaRecord.{DmaRecord}
use Rattle.spec_log.specs.declared.LogParts.{LogParts}
use Rattle.spec_log.specs.Size.{size_in}
use Rattle.spec_kernel.specs.Devices.{Devices, HaveByteInput}
use Rattle.spec_kernel.specs.Copies.{dma_words}
use Rattle.spec_kernel.specs.Answers.{dma_bytes, dma_taken}
use Rattle.spec_kernel.specs.Interrupts.{interrupted}
use Rattle.spec_play.specs.Effects.{dma_commit}
use Rattle.spec_play.specs.Progress.{Progress, position, with_dma, with_dma_used}
use Rattle.spec_play.specs.declared.used.Used.{Used}
use Rattle.spec_play.specs.Turns.{TurnOfDma}
use Rattle.spec_play.specs.Verdicts.{serial_why}
use Rattle.spec_play.specs.Transfers.{DmaVerdict, DmaGoes, DmaFails, is_for, transferred, dma_unless, dma_verdict}
use Rattle.spec_strata.specs.Standing.{after_dma}
use Rattle.spec_sphere.specs.sphere.Spheres.{Recording, Cursor, Role, Plain, Record, Replay, Sphere, is_over, actor_of, most_in, replays}
use Rattle.spec_sphere.specs.sphere.Commits.{MovedSphere, dma_as, live_dma, dma_log, dma_by_verdict, dma_in, dma_moved, role_raised, raised}
use Rattle.spec_sphere.specs.sphere.Setups.{SphereSetup}
use Rattle.spec_sphere.specs.promises.Sound.{IsDoneInOrder, AreSoundWords, IsSoundIf, IsSoundCursor, IsSoundLog, IsSoundRole, IsSoundThread, IsSoundSphere}
use Rattle.spec_play.proofs.Threads.{branch}
use Rattle.spec_sphere.proofs.Moves.Joining.{none-mapped}
use Rattle.spec_sphere.proofs.Sound.Words.{dma-sound}
use Rattle.spec_sphere.proofs.Sound.Threads.{interrupted-thread}
use Rattle.spec_sphere.proofs.Sound.Devices.{dma-few, dma-devices}
use Rattle.spec_sphere.proofs.Logs.Fresh.{fresh-raise}
use Rattle.spec_sphere.proofs.Replays.Order.{done-dma}
use Rattle.spec_sphere.proofs.Sound.Commits.{set-all, later-thread, IsSoundMoved}
use Rattle.spec_sphere.proofs.Replays.Turns.{turned-sound}
use Rattle.spec_sphere.proofs.Replays.Verdicts.{diverged-sound}
use Rattle.spec_play.proofs.Positions.{position-more}

-- ---- DMAs

dma-position : (p : Progress) → position (with_dma p) ≡ suc (position p)
dma-position p = position-more p dma_commit

dma-as-sound : (s : ℕ) (image : SphereSetup) (now : ℕ) (role : Role) (words : List Stored) (devices : Devices) (p : Sphere) → IsSoundSphere s image now p → AreSoundWords (length image.memory) words → IsSoundRole s (position (with_dma p.progress)) p.threads role → length p.threads ≤ most_in role
    → HaveByteInput devices → IsSoundMoved s image (suc now) (dma_as role words devices p)
dma-as-sound s image now role words devices p sound words_sound role_sound few d =
    let n = dma-position p.progress in
    record {
      sphere = record {
        size = sound.size;
        bytes = sound.bytes;
        request = tt;
        some = sound.some;
        few = few;
        threads = λ j x h. later-thread (position p.progress) (position (with_dma p.progress)) x (omega (arith, n)) (sound.threads j x h);
        commits = (let l = sound.commits in omega (arith, n, l));
        role = role_sound;
      };
      words = words_sound;
      devices = d;
    }

abbrev IfMoved : (s : ℕ) (image : SphereSetup) (now : ℕ) → Option MovedSphere → Type 0
IfMoved s image now None = Unit {0}
IfMoved s image now (Some v) = IsSoundMoved s image now v

live-dma-sound : (s : ℕ) (image : SphereSetup) (now : ℕ) (role : Role) (devices : Devices) (p : Sphere) (o : Option Request) → length image.memory % 4 ≡ 0 → IsSoundSphere s image now p → IsSoundIf (length image.memory) o → IsSoundRole s (position (with_dma p.progress)) p.threads role → length p.threads ≤ most_in role
    → HaveByteInput devices → IfMoved s image (suc now) (live_dma role devices p o)
live-dma-sound s image now role devices p None whole sound request role_sound few d = tt
live-dma-sound s image now role devices p (Some q) whole sound request role_sound few d =
    dma-as-sound s image now role (dma_words q (dma_bytes devices q)) (dma_taken devices q) p sound (dma-sound (length image.memory) q (dma_bytes devices q) whole request (dma-few devices q)) role_sound few (dma-devices devices q d)

dma-log-sound : (s n m : ℕ) (log : LogParts) (devices : Devices) (p : Sphere) (o : Option Request) → m ≡ suc n → (o ≡ None → ⊥) → IsSoundLog s n p.threads log → IsSoundLog s m p.threads (dma_log log devices p o)
dma-log-sound s n m log devices p None e some h = absurd (some refl)
dma-log-sound s n m log devices p (Some q) e some h = record { version = h.version; size = h.size; count = (let c = h.count in omega (arith, c, e)); interrupts = h.interrupts }

recorded-dma-sound : (s : ℕ) (image : SphereSetup) (now : ℕ) (recording : Recording) (devices : Devices) (p : Sphere) (o : Option Request) → length image.memory % 4 ≡ 0 → IsSoundSphere s image now p → IsSoundIf (length image.memory) o → IsSoundLog s (position p.progress) p.threads recording.log → length p.threads ≤ recording.log.threads
    → HaveByteInput devices → IfMoved s image (suc now) (live_dma (Record (record recording { log = dma_log recording.log devices p o })) devices p o)
recorded-dma-sound s image now recording devices p None whole sound request role few d = tt
recorded-dma-sound s image now recording devices p (Some q) whole sound request role few d =
    live-dma-sound s image now (Record (record recording { log = dma_log recording.log devices p (Some q) })) devices p (Some q) whole sound request
    (dma-log-sound s (position p.progress) (position (with_dma p.progress)) recording.log devices p (Some q) (dma-position p.progress) (λ e. none-some q (sym e)) role) few d

-- what the log says of it
pub record DmaUses (size : ℕ) (log : LogParts) (u : Used) (words : List Stored) : Type 0 where
  pub words_sound : AreSoundWords size words
  pub among : u.dmas < length log.dmas

-- where the DMA goes on, it uses the log soundly
abbrev pub IfDmaGoes : (size : ℕ) (log : LogParts) (u : Used) → DmaVerdict → Type 0
IfDmaGoes size log u (DmaGoes words) = DmaUses size log u words
IfDmaGoes size log u (DmaFails why) = Unit {0}

transferred-goes : (size : ℕ) (log : LogParts) (u : Used) (i : ℕ) (o : Option Request) (next : Option DmaRecord) → size % 4 ≡ 0 → IsSoundIf size o → slice_get log.dmas u.dmas ≡ next → IfDmaGoes size log u (transferred i o next)
transferred-goes size log u i None next whole request is = tt
transferred-goes size log u i (Some q) None whole request is = tt
transferred-goes size log u i (Some q) (Some dma) whole request is =
    branch (IfDmaGoes size log u) (is_for i q dma) (DmaGoes (dma_words q dma.bytes)) (DmaFails Why.Dma)
    (λ e. record {
      words_sound = dma-sound size q dma.bytes whole request (leb-true (length dma.bytes) q.len (and_parts (eqb dma.position i) (nat_le (length dma.bytes) q.len) e).1);
      among = slice_get_within log.dmas u.dmas dma is;
    })
    (λ _. tt)

dma-unless-goes : (size : ℕ) (log : LogParts) (u : Used) (o : Option Why) (x : DmaVerdict) → IfDmaGoes size log u x → IfDmaGoes size log u (dma_unless o x)
dma-unless-goes size log u None x h = h
dma-unless-goes size log u (Some why) x h = tt

-- a DMA goes on only where it uses the log soundly
pub dma-goes : (size : ℕ) (log : LogParts) (p : Progress) (u : Used) → size % 4 ≡ 0 → IsSoundIf size p.request → IfDmaGoes size log u (dma_verdict log p u)
unfolding dma_verdict
dma-goes size log p u whole request =
    dma-unless-goes size log u (serial_why (size_in log Actor.Dma (position p))) (transferred (position p) p.request (slice_get log.dmas u.dmas))
    (transferred-goes size log u (position p) p.request (slice_get log.dmas u.dmas) whole request refl)

-- a DMA leaves a sound replay, whether it goes on or diverges
pub dma-verdict-sound : (s : ℕ) (image : SphereSetup) (now : ℕ) (b : Cursor) (x : DmaVerdict) (devices : Devices) (p : Sphere) → IsSoundCursor (position p.progress) p.threads b → b.now ≡ TurnOfDma → IsSoundSphere s image now p → IfDmaGoes (length image.memory) b.log b.used x → length p.threads ≤ b.log.threads
    → HaveByteInput devices → IsSoundMoved s image (suc now) (dma_by_verdict b x devices p)
dma-verdict-sound s image now b (DmaFails why) devices p cursor turn sound goes few d = diverged-sound s image now b why devices p cursor sound few d
dma-verdict-sound s image now b (DmaGoes words) devices p cursor turn sound goes few d =
    let n = dma-position p.progress in
    let l = cursor.going (ap is_over turn) in
    let done : b.strata ≡ None → IsDoneInOrder b.log.mode b.log.order (suc (position p.progress)) p.threads =
    λ none. done-dma b.log.mode b.log.order (position p.progress) p.threads (cursor.named Actor.Dma none (ap actor_of turn)) (cursor.done none)
    in
    dma-as-sound s image now _ words devices p sound goes.words_sound
    (turned-sound b.log b.interval (option_map after_dma b.strata) (with_dma p.progress) (with_dma_used b.used) p.threads cursor.log (omega (arith, n, l))
    (λ none. subst (λ (m : ℕ). IsDoneInOrder b.log.mode b.log.order m p.threads) (sym n) (done (none-mapped after_dma b.strata none))) cursor.inputs goes.among cursor.interrupts) few d

dma-in-sound : (s : ℕ) (image : SphereSetup) (now : ℕ) (role : Role) (devices : Devices) (p : Sphere) → length image.memory % 4 ≡ 0 → IsSoundRole s (position p.progress) p.threads role → ((b : Cursor) → role ≡ Replay b → b.now ≡ TurnOfDma) → IsSoundSphere s image now p → length p.threads ≤ most_in role
    → HaveByteInput devices → IfMoved s image (suc now) (dma_in role devices p)
dma-in-sound s image now Plain devices p whole role going sound few d = live-dma-sound s image now Plain devices p p.progress.request whole sound sound.request tt few d
dma-in-sound s image now (Record recording) devices p whole role going sound few d = recorded-dma-sound s image now recording devices p p.progress.request whole sound sound.request role few d
dma-in-sound s image now (Replay b) devices p whole role going sound few d =
    dma-verdict-sound s image now b (dma_verdict b.log p.progress b.used) devices p role (going b refl) sound (dma-goes (length image.memory) b.log p.progress b.used whole sound.request) few d

-- a DMA that is done leaves a sound sphere
pub dma-moved-sound : (s : ℕ) (image : SphereSetup) (now : ℕ) (devices : Devices) (p : Sphere) (v : MovedSphere) → length image.memory % 4 ≡ 0 → ((b : Cursor) → p.role ≡ Replay b → b.now ≡ TurnOfDma) → IsSoundSphere s image now p
    → HaveByteInput devices → dma_moved devices p ≡ Some v → IsSoundMoved s image (suc now) v
unfolding dma_moved
dma-moved-sound s image now devices p v whole going sound d is = subst (IfMoved s image (suc now)) is (dma-in-sound s image now p.role devices p whole sound.role going sound sound.few d)

-- ---- interrupts

role-raised-sound : (s n k value : ℕ) (t : Parts) (threads : List Parts) (role : Role) → replays role ≡ false → slice_get threads k ≡ Some t → IsSoundRole s n threads role → IsSoundRole s n (set threads k (interrupted value t)) (role_raised k t.commits value role)
role-raised-sound s n k value t threads Plain live is h = tt
role-raised-sound s n k value t threads (Record recording) live is h = record { version = h.version; size = h.size; count = h.count; interrupts = fresh-raise threads k value t recording.log.interrupts is h.interrupts }
role-raised-sound s n k value t threads (Replay b) live is h = absurd (true≢false live)

-- nor does it change how many threads there may be
raised-most : (k n value : ℕ) (role : Role) → most_in (role_raised k n value role) ≡ most_in role
raised-most k n value Plain = refl
raised-most k n value (Record recording) = refl
raised-most k n value (Replay b) = refl

-- an interrupt leaves a sound sphere
pub raised-sound : (s : ℕ) (image : SphereSetup) (now k value : ℕ) (t : Parts) (p : Sphere) → replays p.role ≡ false → slice_get p.threads k ≡ Some t → IsSoundSphere s image now p → IsSoundSphere s image (suc now) (raised k value t p)
unfolding raised
raised-sound s image now k value t p live is sound =
    let l = length-set p.threads k (interrupted value t) in
    let th = sound.threads k t is in
    record {
      size = sound.size;
      bytes = sound.bytes;
      request = sound.request;
      some = (let a = sound.some in omega (arith, l, a));
      few = (let a = sound.few in let e = raised-most k t.commits value p.role in omega (arith, l, a, e));
      threads = set-all (IsSoundThread (position p.progress)) p.threads k (interrupted value t) (record { thread = interrupted-thread value t th.thread; few = th.few }) sound.threads;
      commits = (let a = sound.commits in omega (arith, a));
      role = role-raised-sound s (position p.progress) k value t p.threads p.role live is sound.role;
    }
