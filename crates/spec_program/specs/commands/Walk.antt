-- `walk IMAGE MEMORY LOG`: a log played on an image, as an account.
use Rattle.std.specs.Prelude.{◌≡◌, ℕ, List, Option, Some, if◌then◌else◌, Result, Ok}
use Rattle.dl_entry.specs.declared.End.{End}
use Rattle.dl_files.specs.Contents.{Contents}
use Rattle.dl_words.specs.Commands.{PlaybackValues}
use Rattle.spec_play.specs.Plays.{Played, play}
use Rattle.spec_run.specs.Runs.{end_of, has_diverged}
use Rattle.spec_run.specs.Texts.{played_account}
use Rattle.spec_program.specs.declared.status.Status.{Status}
use Rattle.spec_program.specs.Ends.{TookAll}
use Rattle.spec_program.specs.Operands.{IsPlaybackAt, PlaybackRead, playback_at}
use Rattle.spec_program.specs.Outcomes.{Finish, said}
use Rattle.spec_program.specs.Stages.{Refused, ◌>>◌}

-- the play of the log on the image
abbrev pub played : PlaybackRead → Played
played read = play read.log read.image.bytes read.image.entry

-- how it ends
abbrev pub end : PlaybackRead → End
end read = end_of (played read).now

abbrev pub account : PlaybackRead → List ℕ
account read = played_account (played read) (end read)

abbrev pub finish : PlaybackRead → Finish
finish read = said (account read) (has_diverged (end read))

abbrev pub outcome : Contents → PlaybackValues → Result Finish Refused
outcome m playback = playback_at m playback >> λ read. Ok (finish read)

-- the sink took the account of the play of that log on that image, and the status says whether it diverges
pub record IsWalked
    (asked : PlaybackValues) (m : Contents) (known : Option Contents) (old new : Option (List ℕ)) (s : Status) : Type 0 where
  pub read : PlaybackRead
  pub playback_read : IsPlaybackAt asked m read
  pub output : TookAll (account read) old new
  pub files : known ≡ Some m
  pub status : s ≡ (if has_diverged (end read) then Status.Diverged else Status.Done)
