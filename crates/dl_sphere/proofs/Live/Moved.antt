-- What the code makes of a chunk, and of a serial step and a DMA that real devices answer, is what the definitions make of it.
use Rattle.std.proofs.Common.{◌≡◌, ℕ, Bool, false, List, [], ◌∷◌, ◌++◌, Option, Some, None, refl, sym, ap, ◌∙◌, set, append-nil}
use Rattle.std.specs.Prelude.{slice_get}
use Rattle.dl_entry.specs.declared.Commit.{Commit}
use Rattle.dl_entry.specs.declared.Request.{Request}
use Rattle.spec_isa.specs.declared.thread.Parts.{Parts}
use Rattle.spec_isa.specs.Runs.{Run}
use Rattle.spec_kernel.specs.Devices.{Devices}
use Rattle.spec_kernel.specs.Needs.{need}
use Rattle.spec_kernel.specs.Answers.{Taken, taken, dma_bytes, dma_taken}
use Rattle.spec_kernel.specs.Copies.{dma_words}
use Rattle.spec_kernel.specs.Serving.{StepResult, serve, console_written}
use Rattle.spec_play.specs.Effects.{chunk_commit, counted, dma_commit, serial_commit}
use Rattle.spec_play.specs.Recording.{noted, input_noted}
use Rattle.spec_sphere.specs.sphere.Spheres as protocol
use Rattle.spec_sphere.specs.sphere.Commits.{Granted, MovedSphere, chunk_moved, dma_moved, serial_moved}
use Rattle.spec_sphere.specs.promises.Sound.{commits_if}
use Rattle.spec_play.specs.declared.used.Used.{Used}
use Rattle.dl_sphere.specs.Pasts.{sphere_with}
use Rattle.spec_play.specs.Noted.{as_log}
use Rattle.dl_sphere.specs.Roles.{Keeping, Plain, Recording, Replaying, role_of, most_of, with_noted, IsLive, IsLiveOf}
use Rattle.dl_sphere.proofs.Standing.Moves.{log_with, transferred_role}

-- the step of thread k, which is t, with what was taken and done
abbrev pub moved_by : (first : ℕ) → List ℕ → List Parts → List Commit → (k : ℕ) → Parts → Taken → StepResult → protocol.Role → MovedSphere
moved_by first m ts cs k t g v role =
    record {
      outcome = Granted;
      sphere = sphere_with first m (set ts k (counted v.thread) ++ v.spawned) (cs ++ serial_commit k v.loads v.outputs ∷ []) (Some k) v.request role;
      words = v.words;
      devices = console_written t m v.outputs g.devices;
    }

-- the chunk of thread k, which is a run
abbrev pub chunk_by : (first : ℕ) → List ℕ → List Parts → List Commit → (k : ℕ) → Option Request → Run → Devices → protocol.Role → MovedSphere
chunk_by first m ts cs k q r d role =
    record {
      outcome = Granted;
      sphere = sphere_with first m (set ts k (counted r.thread)) (cs ++ chunk_commit k r ∷ []) (Some k) q role;
      words = r.words;
      devices = d;
    }

-- it spawns no thread
chunk_same : (first : ℕ) (m : List ℕ) (ts : List Parts) (cs : List Commit) (k : ℕ) (q : Option Request) (r : Run) (d : Devices) (role : protocol.Role)
    → chunk_by first m ts cs k q r d role
    ≡ record {
      outcome = Granted;
      sphere = sphere_with first m (set ts k (counted r.thread) ++ []) (cs ++ chunk_commit k r ∷ []) (Some k) q role;
      words = r.words;
      devices = d;
    }
chunk_same first m ts cs k q r d role =
    λ i. record {
      outcome = Granted;
      sphere = sphere_with first m (sym (append-nil (set ts k (counted r.thread))) i) (cs ++ chunk_commit k r ∷ []) (Some k) q role;
      words = r.words;
      devices = d;
    }

-- A plain or recorded sphere of this memory and these threads has done these commits, the last one of a thread being of the
-- thread `last`; the devices are d.
module _ (first : ℕ) (m : List ℕ) (u : Used) (ts : List Parts) (cs : List Commit) (last : Option ℕ) (d : Devices) where
  -- a serial step of the sphere moves it as the definitions do
  pub step_is_moved : (s : ℕ) (x : Keeping) (q : Option Request) (k moment : ℕ) (t : Parts)
      → slice_get ts k ≡ Some t → IsLiveOf s (sphere_with first m ts cs last q (role_of u x)) x →
      let g = taken (need t m) d moment in
      let v = serve (most_of x) k ts q t m g.input in
      moved_by first m ts cs k t g v (role_of u (with_noted (serial_commit k v.loads v.outputs) false g.input None x)) ≡ serial_moved k moment t d (sphere_with first m ts cs last q (role_of u x))
  unfolding serial_moved
  step_is_moved s Plain q k moment t start h = refl
  step_is_moved s (Replaying r loads) q k moment t start h = absurd h
  step_is_moved s (Recording r) q k moment t start h =
      let g = taken (need t m) d moment in
      let v = serve (most_of (Recording r)) k ts q t m g.input in
      let c : Commit = serial_commit k v.loads v.outputs in
      ap (λ l. moved_by first m ts cs k t g v (protocol.Record (record { log = l; epochs = r.epochs }))) (log_with r c false g.input ∙ ap (λ i. input_noted g.input (noted c i false (as_log r.recorded))) (h.done k ∙ ap commits_if start))

  -- a chunk of the sphere moves it as the definitions do
  pub chunk_is_moved : (s : ℕ) (x : Keeping) (q : Option Request) (k : ℕ) (t : Parts) (piece short : Bool) (r : Run)
      → slice_get ts k ≡ Some t → r.thread.commits ≡ t.commits → IsLiveOf s (sphere_with first m ts cs last q (role_of u x)) x
      → chunk_by first m ts cs k q r d (role_of u (with_noted (chunk_commit k r) short None None x)) ≡ chunk_moved k piece short r d (sphere_with first m ts cs last q (role_of u x))
  unfolding chunk_moved
  chunk_is_moved s Plain q k t piece short r start same h = chunk_same first m ts cs k q r d protocol.Plain
  chunk_is_moved s (Replaying p loads) q k t piece short r start same h = absurd h
  chunk_is_moved s (Recording p) q k t piece short r start same h =
      let c : Commit = chunk_commit k r in
      ap (λ l. chunk_by first m ts cs k q r d (protocol.Record (record { log = l; epochs = p.epochs })))
      (log_with p c short None ∙ ap (λ i. noted c i short (as_log p.recorded)) (h.done k ∙ ap commits_if start ∙ sym same))
      ∙ chunk_same first m ts cs k q r d (protocol.Record (record { log = noted c r.thread.commits short (as_log p.recorded); epochs = p.epochs }))

  -- without a request it has no DMA
  pub none_moved : (x : Keeping) → IsLive x → dma_moved d (sphere_with first m ts cs last None (role_of u x)) ≡ None
  unfolding dma_moved
  none_moved Plain live = refl
  none_moved (Recording r) live = refl
  none_moved (Replaying r loads) live = absurd live

  -- a DMA moves it as the definitions do
  pub dma_is_moved : (s : ℕ) (x : Keeping) (request : Request)
      → IsLiveOf s (sphere_with first m ts cs last (Some request) (role_of u x)) x
      → dma_moved d (sphere_with first m ts cs last (Some request) (role_of u x))
      ≡ Some (record {
        outcome = Granted;
        sphere = sphere_with first m ts (cs ++ dma_commit ∷ []) last None (role_of u (with_noted dma_commit false None (Some (dma_bytes d request)) x));
        words = dma_words request (dma_bytes d request);
        devices = dma_taken d request;
      })
  unfolding dma_moved
  dma_is_moved s Plain request h = refl
  dma_is_moved s (Replaying r loads) request h = absurd h
  dma_is_moved s (Recording r) request h =
      let moved : protocol.Role → Option MovedSphere = λ role. Some (record {
        outcome = Granted;
        sphere = sphere_with first m ts (cs ++ dma_commit ∷ []) last None role;
        words = dma_words request (dma_bytes d request);
        devices = dma_taken d request;
      })
      in
      ap moved (sym (transferred_role u (sphere_with first m ts cs last (Some request) (role_of u (Recording r))) s (dma_bytes d request) r h))
