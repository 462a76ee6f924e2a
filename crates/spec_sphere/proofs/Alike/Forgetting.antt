-- A sphere that has forgotten what it recorded acts as before.
use Rattle.std.proofs.Common.{◌≡◌, ℕ, ◌+◌, Bool, List, [], ◌∷◌, ◌++◌, length, map, Option, Some, None, refl, sym, ap, ◌∙◌, arith, set}
use Rattle.std.specs.Prelude.{option_map}
use Rattle.std.proofs.lemmas.List.{map-set, length-append}
use Rattle.dl_entry.specs.declared.Actor.{Actor}
use Rattle.dl_entry.specs.declared.Commit.{Commit}
use Rattle.dl_entry.specs.declared.Request.{Request}
use Rattle.spec_isa.specs.declared.thread.Parts.{Parts}
use Rattle.spec_isa.specs.Runs.{Run}
use Rattle.spec_log.specs.declared.ModeName.{ModeName}
use Rattle.spec_log.specs.declared.LogParts.{LogParts}
use Rattle.spec_log.specs.Noting.{no_sizes}
use Rattle.spec_kernel.specs.Devices.{Devices}
use Rattle.spec_kernel.specs.Needs.{need}
use Rattle.spec_kernel.specs.Answers.{taken, dma_bytes, dma_taken}
use Rattle.spec_kernel.specs.Copies.{dma_words}
use Rattle.spec_kernel.specs.Interrupts.{interrupted}
use Rattle.spec_kernel.specs.Serving.{serve, console_written}
use Rattle.spec_play.specs.Effects.{chunk_effect, serial_effect, dma_commit}
use Rattle.spec_play.specs.Plays.{with_threads}
use Rattle.spec_play.specs.Recording.{noted}
use Rattle.spec_play.specs.Progress.{Progress, position}
use Rattle.spec_play.specs.Epochs.{Epochs}
use Rattle.spec_sphere.specs.sphere.Spheres.{Role, Plain, Record, Replay, Sphere, is_stopped, recording_turn, other_than, turn_against, limit_of, limit_after, halves, is_in_pieces, most_in, replays}
use Rattle.spec_sphere.specs.sphere.Commits.{Granted, MovedSphere, serial_noted, chunk_in, chunk_moved, serial_in, serial_moved, live_dma, dma_log, dma_in, dma_moved, role_raised, raised}
use Rattle.spec_sphere.specs.promises.Alike.{progress_without, log_without, epochs_without, role_without, forgotten}

-- ---- rows

-- so it is of a sphere that is put among them
pub set-forgotten : (ps : List Sphere) (i : ℕ) (p : Sphere) → map forgotten (set ps i p) ≡ set (map forgotten ps) i (forgotten p)
set-forgotten ps i p = map-set forgotten ps i p

-- ---- twice

twice_recorded : (m : List ℕ) (ts : List Parts) (g : Progress) (log : LogParts) (o : Option Epochs) → let p : Sphere = record { memory = m; threads = ts; progress = g; role = Record (record { log = log; epochs = o }) } in forgotten (forgotten p) ≡ forgotten p
twice_recorded m ts g log None = refl
twice_recorded m ts g log (Some x) =
    let e : position g + 0 ≡ position g = omega arith in
    (λ j. record {
      memory = m;
      threads = ts;
      progress = record g { first = e j; commits = [] };
      role = role_without (e j) (role_without (position g) (Record (record { log = log; epochs = Some x })));
    })

twice_in : (m : List ℕ) (ts : List Parts) (g : Progress) (r : Role) → let p : Sphere = record { memory = m; threads = ts; progress = g; role = r } in forgotten (forgotten p) ≡ forgotten p
twice_in m ts g Plain = refl
twice_in m ts g (Record r) = twice_recorded m ts g r.log r.epochs
twice_in m ts g (Replay b) = refl

-- what is forgotten is forgotten
pub forgotten-twice : (p : Sphere) → forgotten (forgotten p) ≡ forgotten p
forgotten-twice p = twice_in p.memory p.threads p.progress p.role

-- in each of a row
pub rows-twice : (ps : List Sphere) → map forgotten (map forgotten ps) ≡ map forgotten ps
rows-twice [] = refl
rows-twice (p ∷ ps) = (λ j. forgotten-twice p j ∷ rows-twice ps j)

-- two spheres that are alike, put into the row and into the one that has forgotten, leave rows that are alike
pub put-alike : (ps : List Sphere) (i : ℕ) (q p : Sphere) → forgotten q ≡ forgotten p → map forgotten (set (map forgotten ps) i q) ≡ map forgotten (set ps i p)
put-alike ps i q p same =
    set-forgotten (map forgotten ps) i q ∙ (λ j. set (rows-twice ps j) i (same j)) ∙ sym (set-forgotten ps i p)

-- ---- what roles say

-- a role says the same of its sphere's turns, limits and threads
pub stopped-without : (n : ℕ) (r : Role) → is_stopped (role_without n r) ≡ is_stopped r
stopped-without n Plain = refl
stopped-without n (Record recording) = refl
stopped-without n (Replay b) = refl

-- a role that has forgotten is a replay exactly if it was one before
pub replays-without : (n : ℕ) (r : Role) → replays (role_without n r) ≡ replays r
replays-without n Plain = refl
replays-without n (Record recording) = refl
replays-without n (Replay b) = refl

-- a role that has forgotten has squashes halve limits exactly if it did before
pub halves-without : (n : ℕ) (r : Role) → halves (role_without n r) ≡ halves r
halves-without n Plain = refl
halves-without n (Record recording) = refl
halves-without n (Replay b) = refl

-- a role that has forgotten has pieces of the present commit exactly if it had some before
pub pieces-without : (n : ℕ) (r : Role) → is_in_pieces (role_without n r) ≡ is_in_pieces r
pieces-without n Plain = refl
pieces-without n (Record recording) = refl
pieces-without n (Replay b) = refl

-- a role that has forgotten allows as many threads as before
pub most-without : (n : ℕ) (r : Role) → most_in (role_without n r) ≡ most_in r
most-without n Plain = refl
most-without n (Record recording) = refl
most-without n (Replay b) = refl

-- a role that has forgotten gives a new chunk of a thread the same limit
pub limit-without : (n s : ℕ) (r : Role) (k : ℕ) (t : Parts) → limit_of s (role_without n r) k t ≡ limit_of s r k t
unfolding limit_of
limit-without n s Plain k t = refl
limit-without n s (Record recording) k t = refl
limit-without n s (Replay b) k t = refl

-- a role that has forgotten gives a thread's following chunk the same limit
pub limit_after-without : (n s : ℕ) (r : Role) (k : ℕ) (t : Parts) → limit_after s (role_without n r) k t ≡ limit_after s r k t
unfolding limit_after
limit_after-without n s Plain k t = refl
limit_after-without n s (Record recording) k t = refl
limit_after-without n s (Replay b) k t = refl

same_turn : (mode : ModeName) (p : Sphere) → recording_turn mode (forgotten p) ≡ recording_turn mode p
same_turn ModeName.OrderSize p = refl
same_turn ModeName.OrderOnly p = refl
same_turn ModeName.Picolog p = refl

turn_in_role : (m : List ℕ) (ts : List Parts) (g : Progress) (r : Role) (actor : Actor) → let p : Sphere = record { memory = m; threads = ts; progress = g; role = r } in turn_against (forgotten p) actor ≡ turn_against p actor
unfolding turn_against
turn_in_role m ts g Plain actor = refl
turn_in_role m ts g (Record recording) (Actor.Thread k) =
    ap (other_than (Actor.Thread k)) (same_turn recording.log.mode (record { memory = m; threads = ts; progress = g; role = Record recording }))
turn_in_role m ts g (Record recording) Actor.Dma = refl
turn_in_role m ts g (Replay b) actor = refl

-- an actor is kept from committing by the same turn in a sphere that has forgotten
pub turn-forgotten : (p : Sphere) (actor : Actor) → turn_against (forgotten p) actor ≡ turn_against p actor
turn-forgotten p actor = turn_in_role p.memory p.threads p.progress p.role actor

-- ---- moves

-- what a move has made of its sphere, which has forgotten
abbrev pub moved_forgotten : MovedSphere → MovedSphere
moved_forgotten v = record v { sphere = forgotten v.sphere }

-- one more commit makes one more of those that are counted, whether or not the earlier ones are there
abbrev one_more : (g : Progress) (c : Commit) → position g + length (c ∷ []) ≡ g.first + length (g.commits ++ c ∷ [])
one_more g c = let e = length-append g.commits (c ∷ []) in omega arith

-- a recorded sphere, and one more commit of it with this log
abbrev with_commit : (m : List ℕ) (ts us : List Parts) (g : Progress) (last : Option ℕ) → Option Request → Commit → LogParts → Option Epochs → Sphere
with_commit m ts us g last request c log o =
    record {
      memory = m;
      threads = us;
      progress = record { first = g.first; commits = g.commits ++ c ∷ []; last = last; request = request };
      role = Record (record { log = log; epochs = o });
    }

-- two logs that have the same to begin with
record BeginAlike (a b : LogParts) : Type 0 where
  version : a.version ≡ b.version
  threads : a.threads ≡ b.threads
  mode : a.mode ≡ b.mode
  s : a.s ≡ b.s

-- it has forgotten all but that
commit_forgotten : (m : List ℕ) (ts us : List Parts) (g : Progress) (last : Option ℕ) (request : Option Request) (c : Commit) (a b : LogParts) (x : Epochs) → BeginAlike a b
    → let kept = progress_without (Some x) g in
    forgotten (with_commit m ts us kept last request c a (epochs_without (Some x))) ≡ forgotten (with_commit m ts us g last request c b (Some x))
commit_forgotten m ts us g last request c a b x same =
    let e = one_more g c in
    (λ j. record {
      memory = m;
      threads = us;
      progress = record { first = e j; commits = []; last = last; request = request };
      role = Record (record {
        log = record {
          version = same.version j;
          threads = same.threads j;
          mode = same.mode j;
          s = same.s j;
          count = e j;
          order = [];
          sizes = no_sizes (same.mode j);
          interrupts = [];
          inputs = [];
          dmas = [];
        };
        epochs = Some (record x { begun = [] });
      });
    })

abbrev recorded_sphere : (m : List ℕ) → List Parts → Progress → LogParts → Option Epochs → Sphere
recorded_sphere m ts g log o =
    record { memory = m; threads = ts; progress = g; role = Record (record { log = log; epochs = o }) }

chunk_recorded : (k : ℕ) (piece short : Bool) (r : Run) (d : Devices) (m : List ℕ) (ts : List Parts) (g : Progress) (log : LogParts) (o : Option Epochs) → let p = recorded_sphere m ts g log o in moved_forgotten (chunk_in (forgotten p).role k piece short r d (forgotten p)) ≡ moved_forgotten (chunk_in p.role k piece short r d p)
chunk_recorded k piece short r d m ts g log None = refl
chunk_recorded k piece short r d m ts g log (Some x) =
    let e = chunk_effect k g.request r in
    let a = noted e.commit r.thread.commits short (log_without (Some x) (position g) log) in
    let b = noted e.commit r.thread.commits short log in
    (λ j. record {
      outcome = Granted;
      sphere = commit_forgotten m ts (with_threads k e ts) g (Some k) e.request e.commit a b x (record { version = refl; threads = refl; mode = refl; s = refl }) j;
      words = e.words;
      devices = d;
    })

chunk_by_role : (k : ℕ) (piece short : Bool) (r : Run) (d : Devices) (m : List ℕ) (ts : List Parts) (g : Progress) (role : Role) → let p : Sphere = record { memory = m; threads = ts; progress = g; role = role } in moved_forgotten (chunk_in (forgotten p).role k piece short r d (forgotten p)) ≡ moved_forgotten (chunk_in p.role k piece short r d p)
chunk_by_role k piece short r d m ts g Plain = refl
chunk_by_role k piece short r d m ts g (Record recording) = chunk_recorded k piece short r d m ts g recording.log recording.epochs
chunk_by_role k piece short r d m ts g (Replay b) = refl

-- a chunk makes of a sphere that has forgotten what it makes of the sphere
pub chunk-forgotten : (k : ℕ) (piece short : Bool) (r : Run) (d : Devices) (p : Sphere) → moved_forgotten (chunk_moved k piece short r d (forgotten p)) ≡ moved_forgotten (chunk_moved k piece short r d p)
unfolding chunk_moved
chunk-forgotten k piece short r d p = chunk_by_role k piece short r d p.memory p.threads p.progress p.role

serial_recorded : (k moment : ℕ) (t : Parts) (d : Devices) (m : List ℕ) (ts : List Parts) (g : Progress) (log : LogParts) (o : Option Epochs) → let p = recorded_sphere m ts g log o in moved_forgotten (serial_in (forgotten p).role k moment t d (forgotten p)) ≡ moved_forgotten (serial_in p.role k moment t d p)
serial_recorded k moment t d m ts g log None = refl
serial_recorded k moment t d m ts g log (Some x) =
    let p = recorded_sphere m ts g log (Some x) in
    let q = taken (need t m) d moment in
    let v = serve log.threads k ts g.request t m q.input in
    let e = serial_effect k v in
    let a = serial_noted k t q (log_without (Some x) (position g) log) p in
    let b = serial_noted k t q log p in
    (λ j. record {
      outcome = Granted;
      sphere = commit_forgotten m ts (with_threads k e ts) g (Some k) e.request e.commit a b x (record { version = refl; threads = refl; mode = refl; s = refl }) j;
      words = e.words;
      devices = console_written t m v.outputs q.devices;
    })

serial_by_role : (k moment : ℕ) (t : Parts) (d : Devices) (m : List ℕ) (ts : List Parts) (g : Progress) (role : Role) → let p : Sphere = record { memory = m; threads = ts; progress = g; role = role } in moved_forgotten (serial_in (forgotten p).role k moment t d (forgotten p)) ≡ moved_forgotten (serial_in p.role k moment t d p)
serial_by_role k moment t d m ts g Plain = refl
serial_by_role k moment t d m ts g (Record recording) = serial_recorded k moment t d m ts g recording.log recording.epochs
serial_by_role k moment t d m ts g (Replay b) = refl

-- so does a serial step
pub serial-forgotten : (k moment : ℕ) (t : Parts) (d : Devices) (p : Sphere) → moved_forgotten (serial_moved k moment t d (forgotten p)) ≡ moved_forgotten (serial_moved k moment t d p)
unfolding serial_moved
serial-forgotten k moment t d p = serial_by_role k moment t d p.memory p.threads p.progress p.role

dma_recorded : (d : Devices) (m : List ℕ) (ts : List Parts) (g : Progress) (log : LogParts) (o : Option Epochs) (q : Option Request) → let p = recorded_sphere m ts g log o in let f = forgotten p in
    option_map moved_forgotten (live_dma (Record (record { log = dma_log (log_without o (position g) log) d f q; epochs = epochs_without o })) d f q) ≡ option_map moved_forgotten (live_dma (Record (record { log = dma_log log d p q; epochs = o })) d p q)
dma_recorded d m ts g log o None = refl
dma_recorded d m ts g log None (Some request) = refl
dma_recorded d m ts g log (Some x) (Some request) =
    let p = recorded_sphere m ts g log (Some x) in
    let a = dma_log (log_without (Some x) (position g) log) d (forgotten p) (Some request) in
    let b = dma_log log d p (Some request) in
    (λ j. Some (record {
      outcome = Granted;
      sphere = commit_forgotten m ts ts g g.last None dma_commit a b x (record { version = refl; threads = refl; mode = refl; s = refl }) j;
      words = dma_words request (dma_bytes d request);
      devices = dma_taken d request;
    }))

dma_by_role : (d : Devices) (m : List ℕ) (ts : List Parts) (g : Progress) (role : Role) → let p : Sphere = record { memory = m; threads = ts; progress = g; role = role } in option_map moved_forgotten (dma_in (forgotten p).role d (forgotten p)) ≡ option_map moved_forgotten (dma_in p.role d p)
dma_by_role d m ts g Plain = refl
dma_by_role d m ts g (Record recording) = dma_recorded d m ts g recording.log recording.epochs g.request
dma_by_role d m ts g (Replay b) = refl

-- so does a DMA
pub dma-forgotten : (d : Devices) (p : Sphere) → option_map moved_forgotten (dma_moved d (forgotten p)) ≡ option_map moved_forgotten (dma_moved d p)
unfolding dma_moved
dma-forgotten d p = dma_by_role d p.memory p.threads p.progress p.role

raise_recorded : (k value : ℕ) (t : Parts) (m : List ℕ) (ts : List Parts) (g : Progress) (log : LogParts) (o : Option Epochs) → let p = recorded_sphere m ts g log o in forgotten (raised k value t (forgotten p)) ≡ forgotten (raised k value t p)
unfolding raised
raise_recorded k value t m ts g log None = refl
raise_recorded k value t m ts g log (Some x) =
    let e : position g + 0 ≡ position g = omega arith in
    (λ j. record {
      memory = m;
      threads = set ts k (interrupted value t);
      progress = record g { first = e j; commits = [] };
      role = role_without (e j) (role_raised k t.commits value (Record (record { log = log; epochs = Some x })));
    })

raise_by_role : (k value : ℕ) (t : Parts) (m : List ℕ) (ts : List Parts) (g : Progress) (role : Role) → let p : Sphere = record { memory = m; threads = ts; progress = g; role = role } in forgotten (raised k value t (forgotten p)) ≡ forgotten (raised k value t p)
unfolding raised
raise_by_role k value t m ts g Plain = refl
raise_by_role k value t m ts g (Record recording) = raise_recorded k value t m ts g recording.log recording.epochs
raise_by_role k value t m ts g (Replay b) = refl

-- and an interrupt
pub raise-forgotten : (k value : ℕ) (t : Parts) (p : Sphere) → forgotten (raised k value t (forgotten p)) ≡ forgotten (raised k value t p)
raise-forgotten k value t p = raise_by_role k value t p.memory p.threads p.progress p.role
