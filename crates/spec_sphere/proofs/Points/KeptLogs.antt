-- Points done one at a time: the log that a recorded sphere keeps is that of its points.
use Rattle.std.proofs.Common.{◌≡◌, ℕ, suc, ◌+◌, ◌<◌, ◌≤◌, inl, inr, Bool, true, false, eqb, cond, List, [], ◌∷◌, ◌++◌, length, Option, Some, None, refl, sym, ap, ◌∙◌, subst, arith, set}
use Rattle.std.specs.Prelude.{slice_get}
use Rattle.std.proofs.Math.ListN.{length-set}
use Rattle.std.proofs.lemmas.Bool.{cases_eq}
use Rattle.std.proofs.lemmas.List.{append-nil, length-append}
use Rattle.std.proofs.lemmas.Option.{slice_get_within}
use Rattle.dl_entry.specs.Numbers.{most_threads, plain_threads}
use Rattle.dl_entry.specs.declared.Actor.{Actor}
use Rattle.dl_entry.specs.declared.CommitKind.{CommitKind}
use Rattle.dl_entry.specs.declared.Point.{Point}
use Rattle.dl_entry.specs.declared.Request.{Request}
use Rattle.spec_isa.specs.declared.thread.Parts.{Parts}
use Rattle.spec_isa.specs.Runs.{Run, run}
use Rattle.spec_log.specs.declared.ModeName.{ModeName}
use Rattle.spec_log.specs.declared.LogParts.{LogParts}
use Rattle.spec_log.specs.Versions.{new_threads}
use Rattle.spec_log.specs.Size.{is_thread}
use Rattle.spec_kernel.specs.Devices.{Devices}
use Rattle.spec_kernel.specs.Needs.{need}
use Rattle.spec_kernel.specs.Answers.{Taken, taken, dma_bytes}
use Rattle.spec_kernel.specs.Interrupts.{takes_interrupt, interrupted}
use Rattle.spec_kernel.specs.Serving.{serve}
use Rattle.spec_play.specs.Effects.{chunk_effect, serial_effect, dma_commit}
use Rattle.spec_play.specs.Progress.{position}
use Rattle.spec_play.specs.Recording.{noted, interrupt_noted}
use Rattle.spec_play.specs.Epochs.{Epochs}
use Rattle.spec_sphere.specs.sphere.Spheres.{Recording, Record, Sphere}
use Rattle.spec_sphere.specs.sphere.Commits.{MovedSphere, chunk_in, serial_noted, dma_log, role_raised, raised, laid}
use Rattle.spec_sphere.specs.promises.Sound.{AreFresh, commits_in, commits_if}
use Rattle.spec_sphere.specs.sphere.Logged.{Supplied, actors_of, is_short_chunk, logged_after}
use Rattle.spec_strata.proofs.Shares.Steps.{get-set_other, get-set_same}
use Rattle.spec_sphere.specs.promises.Standing.{count_of}
use Rattle.spec_sphere.proofs.Logs.Growing.{ThreadCommit, commit_of, HasCommitted, has_committed-parts, Grows, grows_of, counts-grow}
use Rattle.spec_sphere.proofs.Logs.Fresh.{fresh-commit, fresh-raise}
use Rattle.spec_sphere.proofs.PlayingBack.Moves.{chunk-committed, serial-committed, recorded_serial, recorded_dma}
use Rattle.spec_sphere.proofs.PlayingBack.Transfers.{open-takes}
use Rattle.spec_sphere.proofs.Points.OneMore.{points_so, points-more, commits_of, actors-append}
use Rattle.spec_sphere.proofs.Points.Noted.{point_of, commit-logged, dma-logged, raise-logged}
use Rattle.spec_sphere.proofs.Points.Kept.{IsKeptByPoints}
use Rattle.spec_sphere.proofs.Moves.Spawning.{AreFew, serve-few}
use Rattle.spec_play.proofs.Positions.{position-more}

-- ---- what stands between two points

-- how a log is kept: in which version and mode, with which standard size and epochs; and what comes before it: so many
-- commits, and of thread k `done k`
pub record Keeping : Type 0 where
  pub version : ℕ
  pub mode : ModeName
  pub s : ℕ
  pub epochs : Option Epochs
  pub done : ℕ → ℕ
  pub before : ℕ

-- a log that is kept from the first commit on
abbrev pub whole_log : (version : ℕ) → ModeName → (s : ℕ) → Option Epochs → Keeping
whole_log version mode s epochs =
    record { version = version; mode = mode; s = s; epochs = epochs; done = λ (k : ℕ). 0; before = 0 }

-- the log of these points
abbrev pub log_by : Keeping → List Supplied → LogParts
log_by how cs = logged_after how.version how.mode how.s how.done how.before cs

-- what a sphere keeps whose log is this
abbrev pub keeping : Keeping → LogParts → Recording
keeping how log = record { log = log; epochs = how.epochs }

either_new : (b : Bool) → (1 ≤ cond b plain_threads most_threads) × (cond b plain_threads most_threads ≤ most_threads)
either_new true = (omega arith, omega arith)
either_new false = (omega arith, omega arith)

-- a new log may have a thread, and no more of them than any sphere can have
pub new-least : (version : ℕ) → 1 ≤ new_threads version
new-least version = (either_new (eqb version 1)).0

-- a new log of any version may have no more threads than any sphere
pub new-most : (version : ℕ) → new_threads version ≤ most_threads
new-most version = (either_new (eqb version 1)).1

-- the sphere keeps the log of these points, which has no interrupt of what comes next, has as many commits as they tell, and not
-- too many threads
pub record Keeps (how : Keeping) (cs : List Supplied) (p : Sphere) : Type 0 where
  pub role : p.role ≡ Record (keeping how (log_by how cs))
  pub commits : (k : ℕ) → how.done k + commits_of k (points_so cs) ≡ commits_in p.threads k
  pub place : how.before + length (actors_of (points_so cs)) ≡ position p.progress
  pub fresh : AreFresh p.threads (log_by how cs).interrupts
  pub few : length p.threads ≤ new_threads how.version

-- one point more tells its actor too
pub more-actors : (cs : List Supplied) (c : Supplied) → actors_of (points_so (cs ++ c ∷ [])) ≡ actors_of (points_so cs) ++ actors_of (c.point ∷ [])
more-actors cs c = ap actors_of (points-more cs c) ∙ actors-append (points_so cs) (c.point ∷ [])

-- a DMA is no thread's
pub no_thread_more : (j : ℕ) (acts : List Actor) → count_of j (acts ++ Actor.Dma ∷ []) ≡ count_of j acts
no_thread_more j [] = refl
no_thread_more j (a ∷ acts) = ap (λ (n : ℕ). cond (is_thread j a) (suc n) n) (no_thread_more j acts)

-- what a chunk makes of a recorded sphere
abbrev pub recorded_chunk : Keeping → LogParts → (thread : ℕ) → (short : Bool) → Run → Devices → Sphere → MovedSphere
recorded_chunk how log k short r devices p = chunk_in (Record (keeping how log)) k false short r devices p

-- ---- one point more

-- the points of a sphere so far, with what came from outside at each, and their log
module _ (how : Keeping) (cs : List Supplied) where
  -- ---- a commit of a thread

  commit_keeps : (c : ThreadCommit) (moment i size : ℕ) (kind : CommitKind) (short : Bool) (p q : Sphere) (qlog : LogParts)
      → Keeps how cs p → HasCommitted c p q (log_by how cs) qlog → q.role ≡ Record (keeping how qlog) → c.commit.size ≡ size → c.short ≡ is_short_chunk kind short → AreFew (new_threads how.version) p.threads c.spawned
      → Keeps how (cs ++ point_of moment i size kind short c ∷ []) q
  commit_keeps c moment i size kind short p q qlog keeps d role sized early few =
      let ps = points_so cs in
      let x : Supplied = point_of moment i size kind short c in
      let g : Grows c.thread p.threads q.threads c.before = grows_of c p q (log_by how cs) qlog d in
      let below : c.thread < most_threads = (let h = slice_get_within p.threads c.thread c.before d.start in let l = keeps.few in let n = new-most how.version in omega arith) in
      let before_ : c.before.commits ≡ how.done c.thread + commits_of c.thread ps = sym (keeps.commits c.thread ∙ g.was) in
      let now : qlog ≡ log_by how (cs ++ x ∷ []) = d.log_ ∙ commit-logged how.done how.before how.version how.mode how.s cs c moment i size kind short below before_ d.actor sized early in
      record {
        role = role ∙ ap (λ (log : LogParts). Record (keeping how log)) now;
        fresh = subst (λ (ts : List Parts). AreFresh ts (log_by how (cs ++ x ∷ [])).interrupts) (sym d.threads)
            (subst (AreFresh (set p.threads c.thread c.after ++ c.spawned)) (sym (has_committed-parts c p q (log_by how cs) qlog d).interrupts ∙ ap (λ (l : LogParts). l.interrupts) now)
            (fresh-commit p.threads c.spawned c.thread c.before c.after (log_by how cs).interrupts d.start d.commits keeps.fresh));
        commits = λ j. ap (λ (as_ : List Actor). how.done j + count_of j as_) (more-actors cs x) ∙ counts-grow how.done c.thread (actors_of ps) p.threads q.threads c.before g keeps.commits j;
        place = (let a = ap (λ (as_ : List Actor). length as_) (more-actors cs x) in let b = length-append (actors_of ps) (Actor.Thread c.thread ∷ []) in let h = keeps.place in let e = d.position_ in omega arith);
        few = (let a = ap (λ (ts : List Parts). length ts) d.threads in let b = length-append (set p.threads c.thread c.after) c.spawned in let h = length-set p.threads c.thread c.after in omega (arith, few));
      }

  -- after a chunk the sphere keeps the log of its points and the chunk's
  pub chunk-keeps : (moment i k size : ℕ) (short : Bool) (p : Sphere) (t : Parts) (devices : Devices) → Keeps how cs p → slice_get p.threads k ≡ Some t → (run p.memory t size).n ≡ size
      → Keeps how (cs ++ record { point = Point.Commit moment i (Actor.Thread k) CommitKind.Chunk size short; input = None; bytes = [] } ∷ []) (laid (recorded_chunk how (log_by how cs) k short (run p.memory t size) devices p))
  chunk-keeps moment i k size short p t devices keeps is ran =
      let r = run p.memory t size in
      let e = chunk_effect k p.progress.request r in
      let log = log_by how cs in
      let q = laid (recorded_chunk how log k short r devices p) in
      let d : HasCommitted (commit_of k short t e None) p q log (noted e.commit r.thread.commits short log) = chunk-committed (keeping how log) p k t false short size devices is in
      commit_keeps (commit_of k short t e None) moment i size CommitKind.Chunk short p q (noted e.commit r.thread.commits short log) keeps d refl ran refl (let l = keeps.few in omega arith)

  -- after a serial step the sphere keeps the log of its points and the step's
  pub serial-keeps : (moment i k size : ℕ) (short : Bool) (p : Sphere) (t : Parts) (devices : Devices) → Keeps how cs p → slice_get p.threads k ≡ Some t → size ≡ 0
      → Keeps how (cs ++ record { point = Point.Commit moment i (Actor.Thread k) CommitKind.Serial size short; input = (taken (need t p.memory) devices moment).input; bytes = [] } ∷ []) (laid (recorded_serial (keeping how (log_by how cs)) p k moment t devices))
  serial-keeps moment i k size short p t devices keeps is empty =
      let g : Taken = taken (need t p.memory) devices moment in
      let e = serial_effect k (serve (new_threads how.version) k p.threads p.progress.request t p.memory g.input) in
      let log = log_by how cs in
      let q = laid (recorded_serial (keeping how log) p k moment t devices) in
      let d : HasCommitted (commit_of k false t e g.input) p q log (serial_noted k t g log p) = serial-committed (keeping how log) p k moment t devices is in
      commit_keeps (commit_of k false t e g.input) moment i size CommitKind.Serial short p q (serial_noted k t g log p) keeps d refl (sym empty) refl (serve-few (new_threads how.version) k p.threads p.progress.request t p.memory g.input keeps.few)

  -- ---- a DMA

  -- after a DMA the sphere keeps the log of its points and the DMA's
  pub dma-keeps : (moment i : ℕ) (short : Bool) (p : Sphere) (request : Request) (devices : Devices) → Keeps how cs p
      → Keeps how (cs ++ record { point = Point.Commit moment i Actor.Dma CommitKind.Dma 0 short; input = None; bytes = dma_bytes devices request } ∷ []) (laid (recorded_dma (keeping how (log_by how cs)) p devices request))
  dma-keeps moment i short p request devices keeps =
      let bytes = dma_bytes devices request in
      let ps = points_so cs in
      let c : Supplied = record { point = Point.Commit moment i Actor.Dma CommitKind.Dma 0 short; input = None; bytes = bytes } in
      let log = log_by how cs in
      let q = laid (recorded_dma (keeping how log) p devices request) in
      let now : dma_log log devices p (Some request) ≡ log_by how (cs ++ c ∷ []) = dma-logged how.done how.before how.version how.mode how.s cs moment i (position p.progress) CommitKind.Dma short bytes (sym keeps.place) in
      record {
        role = ap (λ (log : LogParts). Record (keeping how log)) now;
        fresh = subst (AreFresh p.threads) (ap (λ (l : LogParts). l.interrupts) now) keeps.fresh;
        commits = λ j. ap (λ (as_ : List Actor). how.done j + count_of j as_) (more-actors cs c) ∙ ap (λ (n : ℕ). how.done j + n) (no_thread_more j (actors_of ps)) ∙ keeps.commits j;
        place = (let a = ap (λ (as_ : List Actor). length as_) (more-actors cs c) in let b = length-append (actors_of ps) (Actor.Dma ∷ []) in let h = keeps.place in let l = position-more p.progress dma_commit in omega arith);
        few = keeps.few;
      }

  -- ---- an interrupt

  -- after an interrupt the sphere keeps the log of its points and the interrupt's
  pub raise-keeps : (moment i k value : ℕ) (p : Sphere) (t : Parts) → Keeps how cs p → slice_get p.threads k ≡ Some t → takes_interrupt t ≡ true
      → Keeps how (cs ++ record { point = Point.Raise moment i k value; input = None; bytes = [] } ∷ []) (raised k value t p)
  unfolding raised
  raise-keeps moment i k value p t keeps is takes =
      let ps = points_so cs in
      let u : Parts = interrupted value t in
      let c : Supplied = record { point = Point.Raise moment i k value; input = None; bytes = [] } in
      let below : k < most_threads = (let h = slice_get_within p.threads k t is in let l = keeps.few in let n = new-most how.version in omega arith) in
      let same : actors_of (points_so (cs ++ c ∷ [])) ≡ actors_of ps = more-actors cs c ∙ append-nil (actors_of ps) in
      let log = log_by how cs in
      let fresh = keeps.fresh.unmasked k t is (open-takes t takes) in
      let now : interrupt_noted k t.commits value log ≡ log_by how (cs ++ c ∷ []) = raise-logged how.done how.before how.version how.mode how.s cs moment i k t.commits value below (sym (keeps.commits k ∙ ap commits_if is)) fresh in
      record {
        role = ap (role_raised k t.commits value) keeps.role ∙ ap (λ (log : LogParts). Record (keeping how log)) now;
        fresh = subst (AreFresh (set p.threads k u)) (ap (λ (l : LogParts). l.interrupts) now) (fresh-raise p.threads k value t log.interrupts is keeps.fresh);
        commits = λ j. ap (λ (as_ : List Actor). how.done j + count_of j as_) same ∙ keeps.commits j ∙ elim (cases_eq j k) [
          | inl e ↦ ap (commits_in p.threads) e ∙ ap commits_if is ∙ sym (ap (commits_in (set p.threads k u)) e ∙ ap commits_if (get-set_same p.threads k u t is))
          | inr ne ↦ sym (ap commits_if (get-set_other p.threads k j u ne))
        ];
        place = ap (λ (as_ : List Actor). how.before + length as_) same ∙ keeps.place;
        few = (let h = length-set p.threads k u in let l = keeps.few in omega arith);
      }

-- ---- all points

same_recording : (how : Keeping) (cs : List Supplied) (p : Sphere) (r : Recording) → Keeps how cs p → p.role ≡ Record r → keeping how (log_by how cs) ≡ r
same_recording how cs p r keeps role = let h : Record (keeping how (log_by how cs)) ≡ Record r = sym keeps.role ∙ role in cc

-- each point keeps it
pub keeps-by-points : (how : Keeping) → IsKeptByPoints (Keeps how)
keeps-by-points how =
    record {
      role = λ cs p keeps. (keeping how (log_by how cs), keeps.role);
      chunk = λ cs moment i k size short p t devices r keeps role is ran.
          subst (λ (q : Recording). Keeps how (cs ++ record { point = Point.Commit moment i (Actor.Thread k) CommitKind.Chunk size short; input = None; bytes = [] } ∷ []) (laid (chunk_in (Record q) k false short (run p.memory t size) devices p)))
          (same_recording how cs p r keeps role) (chunk-keeps how cs moment i k size short p t devices keeps is ran);
      serial = λ cs moment i k size short p t devices r keeps role is empty.
          subst (λ (q : Recording). Keeps how (cs ++ record { point = Point.Commit moment i (Actor.Thread k) CommitKind.Serial size short; input = (taken (need t p.memory) devices moment).input; bytes = [] } ∷ []) (laid (recorded_serial q p k moment t devices)))
          (same_recording how cs p r keeps role) (serial-keeps how cs moment i k size short p t devices keeps is empty);
      dma = λ cs moment i short p request devices r keeps role.
          subst (λ (q : Recording). Keeps how (cs ++ record { point = Point.Commit moment i Actor.Dma CommitKind.Dma 0 short; input = None; bytes = dma_bytes devices request } ∷ []) (laid (recorded_dma q p devices request)))
          (same_recording how cs p r keeps role) (dma-keeps how cs moment i short p request devices keeps);
      raise = λ cs moment i k value p t r keeps role is takes. raise-keeps how cs moment i k value p t keeps is takes;
    }
