-- What a command that is done says of its outcome.
use Rattle.std.proofs.Common.{◌≡◌, ℕ, ◌⊎◌, inl, inr, true, List, Option, Some, None, Result, Ok, ok_or, if◌then◌else◌, refl, sym, ap, ◌∙◌, subst, true≢false}
use Rattle.std.specs.FinMap.{get}
use Rattle.dl_asm.specs.File.{file_of}
use Rattle.dl_asm.specs.Sources.{lines_of, words_in}
use Rattle.dl_elf.specs.Loading.{image_of}
use Rattle.dl_entry.specs.declared.End.{End}
use Rattle.dl_files.specs.Contents.{Contents}
use Rattle.dl_words.specs.Commands.{CommandValues, PlaybackValues, QueryValues, IntervalValues, Run, Inspect, Walk, Query, Interval, Tail, Make, Drill, Asm, Migrate, Strata}
use Rattle.spec_log.specs.declared.LogParts.{LogParts}
use Rattle.spec_log.specs.declared.fault.Fault.{Fault}
use Rattle.spec_log.specs.Reading.{read_of}
use Rattle.spec_play.specs.Turns.{TurnOrEnd, Ended}
use Rattle.spec_play.proofs.Going.{play-over}
use Rattle.spec_protocol.specs.promises.Sound.{IsWithinLimits}
use Rattle.spec_query.specs.Texts.{end_text}
use Rattle.spec_run.specs.Runs.{end_of, has_diverged}
use Rattle.spec_strata.proofs.Images.Ending.{ends-as, fits-complete}
use Rattle.spec_run.proofs.Described.{points-possible}
use Rattle.spec_tail.specs.Reading as tails
use Rattle.spec_program.specs.declared.status.Status.{Status}
use Rattle.spec_program.specs.Accepted.{AreReadAgain}
use Rattle.spec_program.specs.Asked.{IsDone, outcome_for}
use Rattle.spec_program.specs.Built.{bad_image, bad_log}
use Rattle.spec_program.specs.commands.Asm as asm
use Rattle.spec_program.specs.commands.Drill as drill
use Rattle.spec_program.specs.commands.Inspect as inspect
use Rattle.spec_program.specs.commands.Interval as interval
use Rattle.spec_program.specs.commands.Make as make
use Rattle.spec_program.specs.commands.Migrate as migrate
use Rattle.spec_program.specs.commands.Query as query
use Rattle.spec_program.specs.commands.Run as run
use Rattle.spec_program.specs.commands.Strata as strata
use Rattle.spec_program.specs.commands.Tail as tail
use Rattle.spec_program.specs.commands.Walk as walk
use Rattle.spec_program.specs.Ends.{IsFinished, Stands, is_done}
use Rattle.spec_program.specs.Files.{read_at, log_at}
use Rattle.spec_program.specs.Headline.{Headline}
use Rattle.spec_program.specs.Operands.{IsLogAt, IsPlaybackAt, PlaybackRead, file_at, good_log_at, image_in, log_file_at, log_in, playback_at}
use Rattle.spec_program.specs.Outcomes.{Finish, Outcome, filed, said}
use Rattle.spec_program.specs.Outside.{Outside}
use Rattle.spec_program.specs.Sources.{assembled, refused_from, unless_refused}
use Rattle.spec_program.specs.Stages.{Refused}
use Rattle.spec_program.specs.Tasks.{Task, absent, setup_in, task_named}
use Rattle.spec_program.proofs.Able.{task_can_finish}
use Rattle.spec_program.proofs.Drilling.{drill_reproduced}
use Rattle.spec_program.proofs.Accepting.{tails_accepted}
use Rattle.spec_program.proofs.Made.{not_refused, then_ok}

-- a status that says that all is done
pub finished : (o : Outcome) (reads : List (List ℕ)) (m : Contents) (before after : Outside) (s : Status) → Stands o reads m before after s → is_done s ≡ true → IsFinished o m before after s
finished o reads m before after Status.Done e done = e
finished o reads m before after Status.Diverged e done = e
finished o reads m before after Status.Usage e done = absurd (true≢false (sym done))
finished o reads m before after Status.Plan e done = absurd (true≢false (sym done))
finished o reads m before after Status.Image e done = absurd (true≢false (sym done))
finished o reads m before after Status.Grammar e done = absurd (true≢false (sym done))
finished o reads m before after Status.Source e done = absurd (true≢false (sym done))
finished o reads m before after Status.Absent e done = absurd (true≢false (sym done))
finished o reads m before after Status.Fault e done = absurd (true≢false (sym done))
finished o reads m before after Status.Sink e done = absurd (true≢false (sym done))
finished o reads m before after Status.Memory e done = absurd (true≢false (sym done))

same_Ok : {A E : Type 0} (a b : A) → ◌≡◌ {A = Result A E} (Ok a) (Ok b) → a ≡ b
same_Ok a b e = cc

given : {A E : Type 0} (o : Option A) (e : E) (a : A) → ok_or o e ≡ Ok a → o ≡ Some a
given None e a is = absurd cc
given (Some b) e a is = cc

-- ---- what the words name

-- the bytes of a file that is read
there : (m : Contents) (name bytes : List ℕ) → file_at m name ≡ Ok bytes → get m name ≡ Some bytes
there m name bytes e = given (get m name) name bytes (not_refused absent (read_at m name) bytes e)

-- what is read as a log is what a file says, and it is good
log_is : (m : Contents) (name : List ℕ) (read : Result LogParts Fault) (log : LogParts) → log_file_at m name ≡ Ok read → log_in read ≡ Ok log → IsLogAt name m log
log_is m name read log e good =
    let file = then_ok (read_at m name) _ read (not_refused absent (log_at m name) read e) in
    record { bytes = file.0; there = given (get m name) name file.0 file.1; read = same_Ok (read_of file.0) read file.2 ∙ not_refused (bad_log 0) read log good }

-- a good log is that of its file
pub log_read : (m : Contents) (name : List ℕ) (log : LogParts) → good_log_at m name ≡ Ok log → IsLogAt name m log
log_read m name log e =
    let file = then_ok (log_file_at m name) log_in log e in
    log_is m name file.0 log file.1 file.2

-- a playback that is read is that of its files
pub playback_is : (m : Contents) (p : PlaybackValues) (read : PlaybackRead) → playback_at m p ≡ Ok read → IsPlaybackAt p m read
playback_is m p read e =
    let program = then_ok (file_at m p.image) _ read e in
    let file = then_ok (log_file_at m p.log) _ read program.2 in
    let image = then_ok (image_in p.memory program.0) _ read file.2 in
    let log = then_ok (log_in file.0) _ read image.2 in
    let made : PlaybackRead = record { image = image.0; log = log.0 } in
    subst (IsPlaybackAt p m) (same_Ok made read log.2) (record {
      program = program.0;
      there = there m p.image program.0 program.1;
      loaded = not_refused (bad_image 0) (image_of program.0 p.memory) image.0 image.1;
      log = log_is m p.log file.0 log.0 file.1 log.1;
    })

never_refused : (o : Option Refused) (file result : List ℕ) → unless_refused o file ≡ Ok result → result ≡ file
never_refused (Some refused) file result e = absurd cc
never_refused None file result e = cc

-- ---- each command. The files held m, what is outside was `before` and is `after`, and the status is s

module _ (m : Contents) (before after : Outside) (s : Status) where
  -- its outcome is this, and is reached
  abbrev IsReached : Finish → Type 0
  IsReached finish = IsFinished (Ok finish) m before after s

  reached : (made finish : Finish) → ◌≡◌ {A = Outcome} (Ok made) (Ok finish) → IsReached finish → IsReached made
  reached made finish e f = subst (λ (o : Outcome). IsFinished o m before after s) (sym e) f

  run_done : (plan : List ℕ) (finish : Finish) → run.outcome m plan ≡ Ok finish → run.HasRun plan m → IsReached finish → Headline plan m after.known before.taken after.taken s
  run_done plan finish e limits f =
      let task = then_ok (task_named m plan) _ finish e in
      let same : limits.0 ≡ task.0 = same_Ok limits.0 task.0 (sym limits.1 ∙ task.1) in
      let within = subst (λ (t : Task). IsWithinLimits (setup_in t)) same limits.2 in
      let g = subst (λ (o : Outcome). IsFinished o m before after s) (sym task.2) f in
      record {
        task = task.0;
        asked = task.1;
        limits = within;
        possible = points-possible (setup_in task.0) task.0.events (task_can_finish plan m task.0 task.1).setup;
        files = g.files;
        tails = tails_accepted task.0 within (subst (λ (t : Task). AreReadAgain t.plan (setup_in t) t.events) same limits.3);
        output = g.output;
        status = g.status;
      }

  inspect_done : (log : List ℕ) (finish : Finish) → inspect.outcome m log ≡ Ok finish → IsReached finish → inspect.IsInspected log m after.known before.taken after.taken s
  inspect_done log finish e f =
      let parts = then_ok (good_log_at m log) _ finish e in
      let g = reached (inspect.finish parts.0) finish parts.2 f in
      record { parts = parts.0; read = log_read m log parts.0 parts.1; output = g.output; files = g.files; status = g.status }

  walk_done : (playback : PlaybackValues) (finish : Finish) → walk.outcome m playback ≡ Ok finish → IsReached finish → walk.IsWalked playback m after.known before.taken after.taken s
  walk_done playback finish e f =
      let read = then_ok (playback_at m playback) _ finish e in
      let g = reached (walk.finish read.0) finish read.2 f in
      record { read = read.0; playback_read = playback_is m playback read.0 read.1; output = g.output; files = g.files; status = g.status }

  query_done : (asked : QueryValues) (finish : Finish) → query.outcome m asked ≡ Ok finish → IsReached finish → query.IsAnswered asked m after.known before.taken after.taken s
  query_done asked finish e f =
      let playback = then_ok (playback_at m asked.playback) _ finish e in
      let g = reached (query.finish asked playback.0) finish playback.2 f in
      record { playback = playback.0; playback_read = playback_is m asked.playback playback.0 playback.1; output = g.output; files = g.files; status = g.status }

  interval_done : (asked : IntervalValues) (finish : Finish) → interval.outcome m asked ≡ Ok finish → IsReached finish → interval.IsTold asked m after.known before.taken after.taken s
  interval_done asked finish e f =
      let read = then_ok (playback_at m asked.playback) _ finish e in
      let g = reached (interval.finish asked read.0) finish read.2 f in
      record { read = read.0; playback_read = playback_is m asked.playback read.0 read.1; output = g.output; files = g.files; status = g.status }

  tail_done : (name : List ℕ) (finish : Finish) → tail.outcome m name ≡ Ok finish → IsReached finish → tail.IsPlayed name m after.known before.taken after.taken s
  tail_done name finish e f =
      let read = then_ok (tail.tail_at m name) _ finish e in
      let file = then_ok (file_at m name) tail.tail_in read.0 read.1 in
      let g = reached (tail.finish read.0) finish read.2 f in
      record {
        bytes = file.0;
        there = there m name file.0 file.1;
        tail = read.0;
        read = not_refused (bad_log 0) (tails.read_of file.0) read.0 file.2;
        output = g.output;
        files = g.files;
        status = g.status;
      }

  asm_done : (source name : List ℕ) (finish : Finish) → asm.outcome m source name ≡ Ok finish → IsReached finish → asm.IsAssembled source name m after.known before.taken after.taken s
  asm_done source name finish e f =
      let file = then_ok (file_at m source) _ finish e in
      let made = then_ok (assembled file.0) _ finish file.2 in
      let words = file_of (words_in (lines_of file.0)) in
      let is : made.0 ≡ words = never_refused (refused_from (lines_of file.0) 0 _) words made.0 made.1 in
      let g = reached (asm.finish name words) finish (ap (λ (b : List ℕ). Ok (asm.finish name b)) (sym is) ∙ made.2) f in
      record { bytes = file.0; there = there m source file.0 file.1; kept = made.1 ∙ ap Ok is; files = g.files; output = g.output; status = g.status }

  migrate_done : (log name : List ℕ) (finish : Finish) → migrate.outcome m log name ≡ Ok finish → IsReached finish → migrate.IsMigrated log name m after.known before.taken after.taken s
  migrate_done log name finish e f =
      let parts = then_ok (good_log_at m log) _ finish e in
      let g = reached (migrate.finish name parts.0) finish parts.2 f in
      record { parts = parts.0; read = log_read m log parts.0 parts.1; files = g.files; output = g.output; status = g.status }

  abbrev cut_at : (name : List ℕ) → PlaybackRead → TurnOrEnd → Finish
  cut_at name read now =
      if has_diverged (end_of now) then said (end_text (end_of now)) true else filed name (strata.bytes read) (strata.text read)

  cut_done : (name : List ℕ) (read : PlaybackRead) (how : End) → (walk.played read).now ≡ Ended how → IsReached (cut_at name read (Ended how))
      → strata.IsDiverged read m after.known before.taken after.taken s ⊎ strata.IsWritten name read m after.known before.taken after.taken s
  cut_done name read (End.Complete n) e g =
      inr (record { fits = fits-complete read.log read.image.bytes read.image.entry n e; files = g.files; output = g.output; status = g.status })
  cut_done name read (End.Diverged i why) e g =
      inl (record { commit = i; why = why; diverged = e; output = g.output; files = g.files; status = g.status })
  cut_done name read (End.At i) e g = absurd (ends-as read.log read.image.bytes read.image.entry (End.At i) e)

  strata_done : (playback : PlaybackValues) (name : List ℕ) (finish : Finish) → strata.outcome m playback name ≡ Ok finish → IsReached finish → strata.IsCut playback name m after.known before.taken after.taken s
  strata_done playback name finish e f =
      let read = then_ok (playback_at m playback) _ finish e in
      let is = playback_is m playback read.0 read.1 in
      let g = reached (strata.finish name read.0) finish read.2 f in
      let over = play-over read.0.log read.0.image.bytes read.0.image.entry in
      record { read = read.0; playback_read = is; done = cut_done name read.0 over.0 over.1 (subst (λ (now : TurnOrEnd). IsReached (cut_at name read.0 now)) over.1 g) }

  -- the outcome of a command is reached; a run's machine is within its limits
  pub done_at : (command : CommandValues) (finish : Finish) → outcome_for m command ≡ Ok finish → ((plan : List ℕ) → command ≡ Run plan → run.HasRun plan m) → IsFinished (Ok finish) m before after s
      → IsDone command m after.known before.taken after.taken s
  done_at (Run plan) finish e limits f = run_done plan finish e (limits plan refl) f
  done_at (Inspect log) finish e limits f = inspect_done log finish e f
  done_at (Walk playback) finish e limits f = walk_done playback finish e f
  done_at (Query asked) finish e limits f = query_done asked finish e f
  done_at (Interval asked) finish e limits f = interval_done asked finish e f
  done_at (Tail name) finish e limits f = tail_done name finish e f
  done_at (Make number name) finish e limits f =
      let g = reached (make.finish number name) finish e f in
      record { files = g.files; output = g.output; status = g.status }
  done_at (Drill number) finish e limits f =
      let g = reached (drill.finish number) finish e f in
      record { equal = (drill_reproduced number).account; output = g.output; files = g.files; status = g.status }
  done_at (Asm source name) finish e limits f = asm_done source name finish e f
  done_at (Migrate log name) finish e limits f = migrate_done log name finish e f
  done_at (Strata playback name) finish e limits f = strata_done playback name finish e f
