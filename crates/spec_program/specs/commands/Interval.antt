-- `interval IMAGE MEMORY LOG EVERY I J`: the commits of a log from number I up to number J, and the state after them. EVERY
-- says how often a state is kept on the way, and changes nothing of what is told.
use Rattle.std.specs.Prelude.{◌≡◌, ℕ, List, Option, Some, if◌then◌else◌, Result, Ok}
use Rattle.dl_files.specs.Contents.{Contents}
use Rattle.dl_words.specs.Commands.{IntervalValues}
use Rattle.spec_interval.specs.Slices.{Slice, slice}
use Rattle.spec_run.specs.Runs.{has_diverged}
use Rattle.spec_program.specs.declared.status.Status.{Status}
use Rattle.spec_program.specs.Ends.{TookAll}
use Rattle.spec_program.specs.Operands.{IsPlaybackAt, PlaybackRead, playback_at}
use Rattle.spec_program.specs.Outcomes.{Finish, said}
use Rattle.spec_program.specs.Stages.{Refused, ◌>>◌}

-- the slice of the log's play on the image
abbrev pub told : IntervalValues → PlaybackRead → Slice
told asked read = slice read.log read.image.bytes read.image.entry asked.from asked.to

abbrev pub finish : IntervalValues → PlaybackRead → Finish
finish asked read = said (told asked read).text (has_diverged (told asked read).end)

abbrev pub outcome : Contents → IntervalValues → Result Finish Refused
outcome m asked = playback_at m asked.playback >> λ read. Ok (finish asked read)

-- the sink took the slice, and the status says whether it diverges
pub record IsTold (asked : IntervalValues) (m : Contents) (known : Option Contents) (old new : Option (List ℕ)) (s : Status) : Type 0 where
  pub read : PlaybackRead
  pub playback_read : IsPlaybackAt asked.playback m read
  pub output : TookAll (told asked read).text old new
  pub files : known ≡ Some m
  pub status : s ≡ (if has_diverged (told asked read).end then Status.Diverged else Status.Done)
