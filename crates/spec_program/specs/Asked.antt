-- What the words ask for: of every command the names that it reads, its outcome over the files, and what 0 and 1 say of it.
use Rattle.std.specs.Prelude.{ℕ, List, [], Option, Some, None, Result, Ok, ok_or}
use Rattle.dl_files.specs.Contents.{Contents}
use Rattle.dl_words.specs.Commands.{CommandValues, Run, Inspect, Walk, Query, Interval, Tail, Make, Drill, Asm, Migrate, Strata, command_of}
use Rattle.spec_program.specs.declared.status.Refusal.{Refusal}
use Rattle.spec_program.specs.declared.status.Status.{Status}
use Rattle.spec_program.specs.commands.Asm as asm
use Rattle.spec_program.specs.commands.Drill as drill
use Rattle.spec_program.specs.commands.Inspect as inspect
use Rattle.spec_program.specs.commands.Interval as interval
use Rattle.spec_program.specs.commands.Make as make
use Rattle.spec_program.specs.commands.Migrate as migrate
use Rattle.spec_program.specs.commands.Query as query
use Rattle.spec_program.specs.commands.Run as run
use Rattle.spec_program.specs.commands.Strata as strata
use Rattle.spec_program.specs.commands.Tail as tail
use Rattle.spec_program.specs.commands.Walk as walk
use Rattle.spec_program.specs.Headline.{Headline}
use Rattle.spec_program.specs.Lines.{usage_line}
use Rattle.spec_program.specs.Operands.{playback_reads}
use Rattle.spec_program.specs.Outcomes.{Finish, Outcome}
use Rattle.spec_program.specs.Stages.{Refused, ◌>>◌}

-- ---- the names that are read, in the order of the work

abbrev pub reads_for : Contents → CommandValues → List (List ℕ)
reads_for m (Run plan) = run.reads m plan
reads_for m (Inspect log) = inspect.reads log
reads_for m (Walk playback) = playback_reads playback
reads_for m (Query asked) = playback_reads asked.playback
reads_for m (Interval asked) = playback_reads asked.playback
reads_for m (Tail name) = tail.reads name
reads_for m (Make number name) = []
reads_for m (Drill number) = []
reads_for m (Asm source name) = asm.reads source
reads_for m (Migrate log name) = migrate.reads log
reads_for m (Strata playback name) = playback_reads playback

abbrev pub reads_of_command : Contents → Option CommandValues → List (List ℕ)
reads_of_command m None = []
reads_of_command m (Some command) = reads_for m command

abbrev pub reads_of : (words : List (List ℕ)) → Contents → List (List ℕ)
reads_of words m = reads_of_command m (command_of words)

-- ---- the outcome

abbrev pub outcome_for : Contents → CommandValues → Result Finish Refused
outcome_for m (Run plan) = run.outcome m plan
outcome_for m (Inspect log) = inspect.outcome m log
outcome_for m (Walk playback) = walk.outcome m playback
outcome_for m (Query asked) = query.outcome m asked
outcome_for m (Interval asked) = interval.outcome m asked
outcome_for m (Tail name) = tail.outcome m name
outcome_for m (Make number name) = Ok (make.finish number name)
outcome_for m (Drill number) = Ok (drill.finish number)
outcome_for m (Asm source name) = asm.outcome m source name
outcome_for m (Migrate log name) = migrate.outcome m log name
outcome_for m (Strata playback name) = strata.outcome m playback name

abbrev pub usage : Refused
usage = record { why = Refusal.Usage; line = usage_line }

abbrev pub outcome_of : (words : List (List ℕ)) → Contents → Outcome
outcome_of words m = ok_or (command_of words) usage >> outcome_for m

-- ---- what 0 and 1 say. The files held m, and `known` is known of them now; the sink had taken `old` and now has `new`

abbrev pub IsDone : CommandValues → (m : Contents) → (known : Option Contents) → (old new : Option (List ℕ)) → Status → Type 0
IsDone (Run plan) m known old new s = Headline plan m known old new s
IsDone (Inspect log) m known old new s = inspect.IsInspected log m known old new s
IsDone (Walk playback) m known old new s = walk.IsWalked playback m known old new s
IsDone (Query asked) m known old new s = query.IsAnswered asked m known old new s
IsDone (Interval asked) m known old new s = interval.IsTold asked m known old new s
IsDone (Tail name) m known old new s = tail.IsPlayed name m known old new s
IsDone (Make number name) m known old new s = make.IsMade number name m known old new s
IsDone (Drill number) m known old new s = drill.IsDrilled number m known old new s
IsDone (Asm source name) m known old new s = asm.IsAssembled source name m known old new s
IsDone (Migrate log name) m known old new s = migrate.IsMigrated log name m known old new s
IsDone (Strata playback name) m known old new s = strata.IsCut playback name m known old new s
