-- What a granted request makes of its sphere. The machine lets the words fly; the serial execution lays them at once.
use Rattle.std.specs.Prelude.{ℕ, ◌+◌, nat_lt, Bool, true, false, List, [], ◌++◌, insert, slice_set, Option, Some, None, option_map, if◌then◌else◌}
use Rattle.dl_entry.specs.declared.End.{End}
use Rattle.dl_entry.specs.declared.Request.{Request}
use Rattle.dl_entry.specs.declared.Why.{Why}
use Rattle.spec_isa.specs.declared.thread.Parts.{Parts}
use Rattle.spec_isa.specs.Words.{Stored, lays}
use Rattle.spec_isa.specs.Runs.{Run}
use Rattle.spec_log.specs.declared.LogParts.{LogParts}
use Rattle.spec_kernel.specs.Devices.{Devices}
use Rattle.spec_kernel.specs.Copies.{dma_words}
use Rattle.spec_kernel.specs.Needs.{need}
use Rattle.spec_kernel.specs.Answers.{dma_bytes, dma_taken, Taken, taken}
use Rattle.spec_kernel.specs.Interrupts.{interrupted}
use Rattle.spec_kernel.specs.Serving.{serve, console_written}
use Rattle.spec_play.specs.Effects.{Effect, chunk_effect, serial_effect, dma_commit}
use Rattle.spec_play.specs.Progress.{Progress, position, with_effect, with_dma, with_dma_used}
use Rattle.spec_play.specs.declared.used.Used.{Used}
use Rattle.spec_play.specs.declared.interval.Interval.{Interval}
use Rattle.spec_play.specs.Turns.{TurnOrEnd, Turn, Ended, now_at, turn_of, at_end, has_left_over}
use Rattle.spec_play.specs.Intervals.{now_in}
use Rattle.spec_play.specs.Verdicts.{LogVerdict, Goes, Fails, chunk_verdict, serial_verdict}
use Rattle.spec_play.specs.Transfers.{DmaVerdict, DmaGoes, DmaFails, dma_verdict}
use Rattle.spec_play.specs.Plays.{with_threads}
use Rattle.spec_play.specs.Recording.{noted, input_noted, dma_noted, interrupt_noted}
use Rattle.spec_strata.specs.Standing.{Standing, head_standing, after_thread, after_dma, place_of, is_last}
use Rattle.spec_sphere.specs.sphere.Spheres.{Cursor, Role, Plain, Record, Replay, Sphere, most_in}

pub data CommitOutcome : Type 0 where
  -- a whole commit, or the last part of one
  Granted : CommitOutcome
  -- a piece of a commit
  Piece : CommitOutcome
  -- the replay leaves its log after so many commits
  Diverged : (commits : ℕ) (why : Why) → CommitOutcome

-- the sphere with its memory as before, the words to be stored, and the devices
pub record MovedSphere : Type 0 where
  pub outcome : CommitOutcome
  pub sphere : Sphere
  pub words : List Stored
  pub devices : Devices

-- ---- whole commits of threads

-- one more commit, of thread k: the last one; or in strata after those of the stratum that are of threads up to k
abbrev pub with_commit : Option Standing → (thread : ℕ) → Effect → Progress → Progress
with_commit None k e p = with_effect k e p
with_commit (Some x) k e p =
    record p {
      commits = insert p.commits (place_of k x) e.commit;
      last = if is_last k x then Some k else p.last;
      request = e.request;
    }

abbrev pub granted_in : Option Standing → Role → (thread : ℕ) → Effect → Devices → Sphere → MovedSphere
granted_in strata role k e devices p =
    record {
      outcome = Granted;
      sphere = record p {
        threads = with_threads k e p.threads;
        progress = with_commit strata k e p.progress;
        role = role;
      };
      words = e.words;
      devices = devices;
    }

abbrev pub granted_as : Role → (thread : ℕ) → Effect → Devices → Sphere → MovedSphere
granted_as role k e devices p = granted_in None role k e devices p

-- only the end is noted
abbrev pub diverged : Cursor → Why → Devices → Sphere → MovedSphere
diverged b why devices p =
    record {
      outcome = Diverged (position p.progress) why;
      sphere = record p { role = Replay (record b { now = Ended (End.Diverged (position p.progress) why) }) };
      words = [];
      devices = devices;
    }

-- the cursor after so many whole commits of a log, if in the log's own play it would now be this turn
abbrev pub between : LogParts → Option Interval → Option Standing → (commits : ℕ) → Used → TurnOrEnd → Cursor
between log i strata n used now =
    record { log = log; interval = i; strata = strata; used = used; now = now_in i log.count n now; total = 0; loads = [] }

-- whose turn it is: in strata that of their head
abbrev pub now_by : Option Standing → LogParts → Progress → Used → List Parts → TurnOrEnd
now_by None log progress used threads = now_at log progress used threads
now_by (Some x) log progress used threads =
    if nat_lt (position progress) log.count
    then turn_of (position progress) threads (head_standing x)
    else at_end (position progress) (has_left_over log used threads)

-- after a whole commit that left this progress and these threads
abbrev pub turned : LogParts → Option Interval → Option Standing → Progress → Used → List Parts → Cursor
turned log i strata progress used threads =
    between log i strata (position progress) used (now_by strata log progress used threads)

-- as the log says
abbrev pub by_verdict : Cursor → (thread : ℕ) → LogVerdict → Devices → Sphere → MovedSphere
by_verdict b k (Fails why) devices p = diverged b why devices p
by_verdict b k (Goes e u) devices p =
    let strata = option_map (after_thread k) b.strata in
    let progress = with_commit b.strata k e p.progress in
    granted_in b.strata (Replay (turned b.log b.interval strata progress u (with_threads k e p.threads))) k e devices p

-- ---- chunks

-- the run of the last part, with the instructions and the loads of the pieces before it
abbrev pub joined : Cursor → Run → Run
joined b r = record r { loads = b.loads ++ r.loads; n = b.total + r.n }

-- the thread's state moves on; its reservation stays, and the turn is its own until the commit is whole
abbrev pub piece_moved : Cursor → (thread : ℕ) → Run → Devices → Sphere → MovedSphere
piece_moved b k r devices p =
    record {
      outcome = Piece;
      sphere = record p {
        threads = slice_set p.threads k r.thread;
        role = Replay (record b { now = Turn k; total = b.total + r.n; loads = b.loads ++ r.loads });
      };
      words = r.words;
      devices = devices;
    }

abbrev pub replayed_chunk : (is_piece : Bool) → Cursor → (thread : ℕ) → Run → Devices → Sphere → MovedSphere
replayed_chunk true b k r devices p = piece_moved b k r devices p
replayed_chunk false b k r devices p =
    by_verdict b k (chunk_verdict b.log p.progress b.used k (joined b r)) devices p

abbrev pub chunk_in : Role → (thread : ℕ) → (is_piece short : Bool) → Run → Devices → Sphere → MovedSphere
chunk_in Plain k piece short r devices p = granted_as Plain k (chunk_effect k p.progress.request r) devices p
chunk_in (Record recording) k piece short r devices p =
    let e = chunk_effect k p.progress.request r in
    granted_as (Record (record recording { log = noted e.commit r.thread.commits short recording.log })) k e devices p
chunk_in (Replay b) k piece short r devices p = replayed_chunk piece b k r devices p

-- the chunk of thread k, which is a run. In a replay it may be a piece; in a recording it may be short, which is closed
-- before its standard size
unfoldable pub chunk_moved : (thread : ℕ) → (is_piece short : Bool) → Run → Devices → Sphere → MovedSphere
chunk_moved k piece short r devices p = chunk_in p.role k piece short r devices p

-- ---- serial steps

-- a role's part in a step that real devices have answered
abbrev pub served_as : Role → (thread : ℕ) → Parts → Taken → Sphere → MovedSphere
served_as role k t g p =
    let v = serve (most_in role) k p.threads p.progress.request t p.memory g.input in
    granted_as role k (serial_effect k v) (console_written t p.memory v.outputs g.devices) p

-- the log with a serial step and what came for it
abbrev pub serial_noted : (thread : ℕ) → Parts → Taken → LogParts → Sphere → LogParts
serial_noted k t g log p =
    let v = serve log.threads k p.threads p.progress.request t p.memory g.input in
    input_noted g.input (noted (serial_effect k v).commit t.commits false log)

abbrev pub serial_in : Role → (thread : ℕ) → (moment : ℕ) → Parts → Devices → Sphere → MovedSphere
serial_in Plain k moment t devices p = served_as Plain k t (taken (need t p.memory) devices moment) p
serial_in (Record recording) k moment t devices p =
    let g = taken (need t p.memory) devices moment in served_as (Record (record recording { log = serial_noted k t g recording.log p })) k t g p
serial_in (Replay b) k moment t devices p =
    by_verdict b k (serial_verdict b.log p.progress b.used k p.threads t p.memory) devices p

-- the serial step of thread k, which is t
unfoldable pub serial_moved : (thread : ℕ) → (moment : ℕ) → Parts → Devices → Sphere → MovedSphere
serial_moved k moment t devices p = serial_in p.role k moment t devices p

-- ---- DMAs

abbrev pub dma_as : Role → List Stored → Devices → Sphere → MovedSphere
dma_as role words devices p =
    record {
      outcome = Granted;
      sphere = record p { progress = with_dma p.progress; role = role };
      words = words;
      devices = devices;
    }

-- as many bytes of the input as are asked for, or as are left
abbrev pub live_dma : Role → Devices → Sphere → Option Request → Option MovedSphere
live_dma role devices p None = None
live_dma role devices p (Some request) =
    Some (dma_as role (dma_words request (dma_bytes devices request)) (dma_taken devices request) p)

abbrev pub dma_log : LogParts → Devices → Sphere → Option Request → LogParts
dma_log log devices p None = log
dma_log log devices p (Some request) =
    dma_noted (position p.progress) (dma_bytes devices request) (noted dma_commit (position p.progress) false log)

abbrev pub dma_by_verdict : Cursor → DmaVerdict → Devices → Sphere → MovedSphere
dma_by_verdict b (DmaFails why) devices p = diverged b why devices p
dma_by_verdict b (DmaGoes words) devices p =
    let strata = option_map after_dma b.strata in
    dma_as (Replay (turned b.log b.interval strata (with_dma p.progress) (with_dma_used b.used) p.threads)) words devices p

abbrev pub dma_in : Role → Devices → Sphere → Option MovedSphere
dma_in Plain devices p = live_dma Plain devices p p.progress.request
dma_in (Record recording) devices p =
    live_dma (Record (record recording { log = dma_log recording.log devices p p.progress.request })) devices p p.progress.request
dma_in (Replay b) devices p = Some (dma_by_verdict b (dma_verdict b.log p.progress b.used) devices p)

-- the sphere's DMA; none where no request is outstanding, which in a replay is a reason to diverge
unfoldable pub dma_moved : Devices → Sphere → Option MovedSphere
dma_moved devices p = dma_in p.role devices p

-- ---- interrupts

abbrev pub role_raised : (thread commits value : ℕ) → Role → Role
role_raised k commits value Plain = Plain
role_raised k commits value (Record recording) = Record (record recording { log = interrupt_noted k commits value recording.log })
role_raised k commits value (Replay b) = Replay b

-- thread k, which is t, is interrupted with the value
unfoldable pub raised : (thread value : ℕ) → Parts → Sphere → Sphere
raised k value t p =
    record p { threads = slice_set p.threads k (interrupted value t); role = role_raised k t.commits value p.role }

-- a commit's words are in memory at once
abbrev pub laid : MovedSphere → Sphere
laid v = record v.sphere { memory = lays v.sphere.memory v.words }
