-- `strata IMAGE MEMORY LOG NAME`: a log cut into strata on its image, as a file under a name.
use Rattle.std.specs.Prelude.{◌≡◌, ◌⊎◌, ℕ, true, List, length, Option, Some, Result, Ok, if◌then◌else◌}
use Rattle.std.specs.FinMap.{insert}
use Rattle.dl_entry.specs.declared.End.{End}
use Rattle.dl_entry.specs.declared.Why.{Why}
use Rattle.dl_files.specs.Contents.{Contents}
use Rattle.dl_words.specs.Commands.{PlaybackValues}
use Rattle.spec_play.specs.Plays.{FitsImage}
use Rattle.spec_play.specs.Turns.{Ended}
use Rattle.spec_query.specs.Texts.{end_text}
use Rattle.spec_run.specs.Runs.{has_diverged}
use Rattle.spec_strata.specs.Bytes.{strata_bytes}
use Rattle.spec_strata.specs.Making.{made}
use Rattle.spec_strata.specs.declared.strata.StrataParts.{StrataParts}
use Rattle.spec_program.specs.declared.status.Status.{Status}
use Rattle.spec_program.specs.commands.Walk.{end, played}
use Rattle.spec_program.specs.Ends.{TookAll}
use Rattle.spec_program.specs.Lines.{strata_line}
use Rattle.spec_program.specs.Operands.{IsPlaybackAt, PlaybackRead, playback_at}
use Rattle.spec_program.specs.Outcomes.{Finish, filed, said}
use Rattle.spec_program.specs.Stages.{Refused, ◌>>◌}

-- the strata that the log is cut into on the image
abbrev pub cut : PlaybackRead → StrataParts
cut read = made read.log read.image.bytes read.image.entry

-- their file
abbrev pub bytes : PlaybackRead → List ℕ
bytes read = strata_bytes (cut read)

-- how many there are, and how many bytes they have
abbrev pub text : PlaybackRead → List ℕ
text read = strata_line (length (cut read).strata) (length (bytes read))

-- if the play of the log diverges on the image, that is said, and nothing is written
abbrev pub finish : (name : List ℕ) → PlaybackRead → Finish
finish name read =
    if has_diverged (end read)
    then said (end_text (end read)) true
    else filed name (bytes read) (text read)

-- both files are read before the new one is written, so that its name may be theirs
abbrev pub outcome : Contents → PlaybackValues → (name : List ℕ) → Result Finish Refused
outcome m playback name = playback_at m playback >> λ read. Ok (finish name read)

-- ---- what 0 and 1 say

-- the play of the log on the image diverges: the sink took where and why, and no file has changed
pub record IsDiverged
    (read : PlaybackRead) (m : Contents) (known : Option Contents) (old new : Option (List ℕ)) (s : Status) : Type 0 where
  pub commit : ℕ
  pub why : Why
  pub diverged : (played read).now ≡ Ended (End.Diverged commit why)
  pub output : TookAll (end_text (End.Diverged commit why)) old new
  pub files : known ≡ Some m
  pub status : s ≡ Status.Diverged

-- the log fits the image: the named file holds the strata that it is cut into, and the sink took how many they are
pub record IsWritten
    (name : List ℕ) (read : PlaybackRead) (m : Contents) (known : Option Contents) (old new : Option (List ℕ)) (s : Status)
    : Type 0 where
  pub fits : FitsImage read.log read.image.bytes read.image.entry
  pub files : known ≡ Some (insert m name (bytes read))
  pub output : TookAll (text read) old new
  pub status : s ≡ Status.Done

pub record IsCut
    (playback : PlaybackValues) (name : List ℕ) (m : Contents) (known : Option Contents) (old new : Option (List ℕ)) (s : Status)
    : Type 0 where
  pub read : PlaybackRead
  pub playback_read : IsPlaybackAt playback m read
  pub done : IsDiverged read m known old new s ⊎ IsWritten name read m known old new s
