-- A commit of a thread leaves a sound sphere: what its effect leaves, and what a recording notes of it.
use Rattle.std.proofs.Common.{◌≡◌, ℕ, zero, suc, ◌+◌, ◌%◌, ◌≤◌, inl, inr, Bool, List, [], ◌∷◌, length, Option, Some, None, refl, sym, ap, ◌∙◌, subst, set, arith}
use Rattle.std.specs.Prelude.{slice_get, slice_set, insert, take, drop}
use Rattle.std.proofs.Math.ListN.{length-set, length-append}
use Rattle.std.proofs.lemmas.List.{take-append-drop}
use Rattle.std.proofs.lemmas.Option.{none-some}
use Rattle.dl_entry.specs.declared.Input.{Input}
use Rattle.dl_entry.specs.declared.Request.{Request}
use Rattle.spec_isa.specs.declared.thread.Parts.{Parts}
use Rattle.spec_isa.specs.Runs.{Run}
use Rattle.spec_isa.specs.Threads.{IsThread}
use Rattle.spec_log.specs.declared.LogParts.{LogParts}
use Rattle.spec_kernel.specs.Devices.{Devices, HaveByteInput}
use Rattle.spec_kernel.specs.Needs.{need}
use Rattle.spec_kernel.specs.Interrupts.{interrupted}
use Rattle.spec_kernel.specs.Serving.{serve}
use Rattle.spec_play.specs.Effects.{Effect, chunk_effect, serial_effect}
use Rattle.spec_play.specs.Progress.{Progress, position, with_effect}
use Rattle.spec_play.specs.Plays.{with_threads}
use Rattle.spec_play.specs.Recording.{noted}
use Rattle.spec_strata.specs.Standing.{Standing, place_of}
use Rattle.spec_sphere.specs.sphere.Spheres.{Role, Sphere, most_in}
use Rattle.spec_sphere.specs.sphere.Commits.{MovedSphere, with_commit, granted_in}
use Rattle.spec_sphere.specs.sphere.Setups.{SphereSetup}
use Rattle.spec_sphere.specs.promises.Sound.{AreSoundWords, IsSoundIf, IsSoundLog, IsSoundRole, IsSoundThread, IsSoundSphere}
use Rattle.spec_sphere.proofs.Moves.Threads.{AreNew, serve-keeps}
use Rattle.spec_sphere.proofs.Logs.Growing.{get_cases}
use Rattle.spec_sphere.proofs.Moves.Spawning.{serve-few}
use Rattle.spec_sphere.proofs.Sound.Threads.{AreThreads, BringsIf, interrupted-thread, IsSoundStepResult, serve-sound}
use Rattle.spec_sphere.proofs.Logs.Fresh.{at-set_parts, fresh-commit}
use Rattle.spec_play.proofs.Positions.{position-more}

-- ---- rows of threads

-- what holds of a new thread and of all others holds of all after the change
pub set-all : (P : Parts → Type 0) (ts : List Parts) (k : ℕ) (u : Parts) → P u → ((j : ℕ) (x : Parts) → slice_get ts j ≡ Some x → P x) → (j : ℕ) (x : Parts) → slice_get (set ts k u) j ≡ Some x → P x
set-all P ts k u new old j x e = elim (at-set_parts ts k j u x e) [ inl q ↦ subst P q.1 new | inr q ↦ old j x q.1 ]

spawned-sound : (n : ℕ) (spawned : List Parts) (j : ℕ) (x : Parts) → AreThreads spawned → AreNew spawned → slice_get spawned j ≡ Some x → IsSoundThread n x
spawned-sound n [] j x threads new e = absurd (none-some x e)
spawned-sound n (t ∷ spawned) zero x threads new e =
    subst (IsSoundThread n) (let q : t ≡ x = cc in q) (record { thread = threads.0; few = (let l = new.0.commits in omega (arith, l)) })
spawned-sound n (t ∷ spawned) (suc j) x threads new e = spawned-sound n spawned j x threads.1 new.1 e

-- ---- a commit of a thread

-- what a commit of thread t leaves, in a memory of that size and among these threads, of which there may be so many
pub record IsSoundEffect (size most : ℕ) (ts : List Parts) (t : Parts) (e : Effect) : Type 0 where
  pub thread : IsThread e.thread
  pub commits : e.thread.commits ≡ t.commits + 1
  pub spawned : AreThreads e.spawned
  pub fresh : AreNew e.spawned
  pub few : length ts + length e.spawned ≤ most
  pub request : IsSoundIf size e.request
  pub words : AreSoundWords size e.words

-- a thread that is sound by a number of commits is so by every larger one
pub later-thread : (m n : ℕ) (x : Parts) → m ≤ n → IsSoundThread m x → IsSoundThread n x
later-thread m n x l s = record { thread = s.thread; few = (let k = s.few in omega (arith, l, k)) }

-- a commit makes the sphere's number of commits one more
pub next-position : (k : ℕ) (e : Effect) (p : Progress) → position (with_effect k e p) ≡ suc (position p)
next-position k e p = position-more p e.commit

-- in strata too, wherever the commit has its place
inserted-length : {A : Type 0} (xs : List A) (i : ℕ) (x : A) → length (insert xs i x) ≡ suc (length xs)
inserted-length xs i x =
    let l = length-append (take i xs) (x ∷ drop i xs) in
    let whole = sym (length-append (take i xs) (drop i xs)) ∙ ap length (take-append-drop i xs) in
    omega (arith, l, whole)

-- with or without strata a thread's commit adds one to the sphere's number of commits
pub commit-position : (o : Option Standing) (k : ℕ) (e : Effect) (p : Progress) → position (with_commit o k e p) ≡ suc (position p)
commit-position None k e p = next-position k e p
commit-position (Some x) k e p = let l = inserted-length p.commits (place_of k x) e.commit in omega (arith, l)

-- with or without strata the request after a thread's commit is the one that the commit leaves
pub commit-request : (o : Option Standing) (k : ℕ) (e : Effect) (p : Progress) → (with_commit o k e p).request ≡ e.request
commit-request None k e p = refl
commit-request (Some x) k e p = refl

commit-count : (o : Option Standing) (k : ℕ) (e : Effect) (p : Progress) → length (with_commit o k e p).commits ≡ suc (length p.commits)
commit-count None k e p = let n = next-position k e p in omega (arith, n)
commit-count (Some x) k e p = inserted-length p.commits (place_of k x) e.commit

commit-threads : (n size most k : ℕ) (ts : List Parts) (t : Parts) (e : Effect) → slice_get ts k ≡ Some t → IsSoundEffect size most ts t e → ((j : ℕ) (x : Parts) → slice_get ts j ≡ Some x → IsSoundThread n x)
    → (j : ℕ) (x : Parts) → slice_get (with_threads k e ts) j ≡ Some x → IsSoundThread (suc n) x
commit-threads n size most k ts t e is effect old j x there =
    elim (get_cases (slice_set ts k e.thread) e.spawned j x there) [
      | inl q ↦ set-all (IsSoundThread (suc n)) ts k e.thread
          (record { thread = effect.thread; few = (let l = (old k t is).few in let c = effect.commits in omega (arith, l, c)) })
          (λ i y h. later-thread n (suc n) y (omega arith) (old i y h)) j x q
      | inr q ↦ spawned-sound (suc n) e.spawned q.1.0 x effect.spawned effect.fresh q.1.1
    ]

commit-length : (k : ℕ) (ts : List Parts) (e : Effect) → length (with_threads k e ts) ≡ length ts + length e.spawned
commit-length k ts e = length-append (slice_set ts k e.thread) e.spawned ∙ ap (λ (n : ℕ). n + length e.spawned) (length-set ts k e.thread)

-- what a move leaves of a sphere that began as the image
pub record IsSoundMoved (s : ℕ) (image : SphereSetup) (now : ℕ) (v : MovedSphere) : Type 0 where
  pub sphere : IsSoundSphere s image now v.sphere
  pub words : AreSoundWords (length image.memory) v.words
  pub devices : HaveByteInput v.devices

-- a commit with a sound effect leaves a sound sphere, if its role is left sound
pub granted-sound : (s : ℕ) (image : SphereSetup) (now k : ℕ) (o : Option Standing) (role : Role) (t : Parts) (e : Effect) (devices : Devices) (p : Sphere) → IsSoundSphere s image now p → slice_get p.threads k ≡ Some t → IsSoundEffect (length image.memory) (most_in role) p.threads t e
    → IsSoundRole s (position (with_commit o k e p.progress)) (with_threads k e p.threads) role → HaveByteInput devices → IsSoundMoved s image (suc now) (granted_in o role k e devices p)
granted-sound s image now k o role t e devices p sound is effect role_sound devices_sound =
    let n = commit-position o k e p.progress in
    let count = commit-count o k e p.progress in
    let l = commit-length k p.threads e in
    record {
      sphere = record {
        size = sound.size;
        bytes = sound.bytes;
        request = subst (IsSoundIf (length image.memory)) (sym (commit-request o k e p.progress)) effect.request;
        some = (let a = sound.some in omega (arith, l, a));
        few = (let a = effect.few in omega (arith, l, a));
        threads = λ j x h. subst (λ (m : ℕ). IsSoundThread m x) (sym n) (commit-threads (position p.progress) (length image.memory) (most_in role) k p.threads t e is effect sound.threads j x h);
        commits = (let a = sound.commits in omega (arith, count, a));
        role = role_sound;
      };
      words = effect.words;
      devices = devices_sound;
    }

-- ---- effects

-- the effect of a chunk's sound run is sound
pub chunk-effect : (size most k : ℕ) (ts : List Parts) (t : Parts) (request : Option Request) (r : Run) → IsThread r.thread → r.thread.commits ≡ t.commits → AreSoundWords size r.words → IsSoundIf size request → length ts ≤ most → IsSoundEffect size most ts t (chunk_effect k request r)
chunk-effect size most k ts t request r thread commits words sound few =
    record {
      thread = record { pc = thread.pc; saved_pc = thread.saved_pc; handler = thread.handler; zero = thread.zero; registers = thread.registers };
      commits = ap (λ (n : ℕ). n + 1) commits;
      spawned = tt;
      fresh = tt;
      few = omega (arith, few);
      request = sound;
      words = words;
    }

-- the effect of a serial step is sound
pub serial-effect : (size most k : ℕ) (ts : List Parts) (request : Option Request) (t : Parts) (m : List ℕ) (input : Option Input) → length m ≡ size → size % 4 ≡ 0 → BringsIf (need t m) input → IsThread t → IsSoundIf size request → length ts ≤ most
    → IsSoundEffect size most ts t (serial_effect k (serve most k ts request t m input))
serial-effect size most k ts request t m input same whole brings thread sound few =
    let v = serve most k ts request t m input in
    let served : IsSoundStepResult size v =
    subst (λ (n : ℕ). n % 4 ≡ 0 → IsSoundIf n request → IsSoundStepResult n v) same (λ w q. serve-sound most k ts request t m input w brings thread q) whole sound
    in
    let keeps = serve-keeps most k ts request t m input in
    let th = served.thread in
    record {
      thread = record { pc = th.pc; saved_pc = th.saved_pc; handler = th.handler; zero = th.zero; registers = th.registers };
      commits = ap (λ (n : ℕ). n + 1) keeps.commits;
      spawned = served.spawned;
      fresh = keeps.fresh;
      few = serve-few most k ts request t m input few;
      request = served.request;
      words = served.words;
    }

-- the interrupt at its end
pub interrupted-effect : (size most value : ℕ) (ts : List Parts) (t : Parts) (e : Effect) → IsSoundEffect size most ts t e → IsSoundEffect size most ts t (record e { thread = interrupted value e.thread })
interrupted-effect size most value ts t e s =
    record {
      thread = interrupted-thread value e.thread s.thread;
      commits = s.commits;
      spawned = s.spawned;
      fresh = s.fresh;
      few = s.few;
      request = s.request;
      words = s.words;
    }

-- ---- recordings

-- a commit is noted, and nothing else of the log that matters here changes
pub noted-sound : (s k i : ℕ) (short : Bool) (log : LogParts) (t : Parts) (e : Effect) (p : Sphere) → slice_get p.threads k ≡ Some t → e.thread.commits ≡ t.commits + 1 → IsSoundLog s (position p.progress) p.threads log
    → IsSoundLog s (position (with_effect k e p.progress)) (with_threads k e p.threads) (noted e.commit i short log)
noted-sound s k i short log t e p is commits role =
    let n = next-position k e p.progress in
    let c = role.count in
    record { version = role.version; size = role.size; count = omega (arith, n, c); interrupts = fresh-commit p.threads e.spawned k t e.thread log.interrupts is commits role.interrupts }
