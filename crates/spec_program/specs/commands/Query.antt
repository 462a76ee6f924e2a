-- `watch IMAGE MEMORY LOG ADDR`, `who IMAGE MEMORY LOG ADDR I` and `when IMAGE MEMORY LOG ADDR VALUE`: which commits of a log
-- stored to a word, and what they left it.
use Rattle.std.specs.Prelude.{◌≡◌, ℕ, ◌/◌, List, ◌++◌, Option, Some, if◌then◌else◌, Result, Ok}
use Rattle.dl_files.specs.Contents.{Contents}
use Rattle.dl_words.specs.Commands.{QueryValues}
use Rattle.dl_words.specs.declared.Question.{Question}
use Rattle.spec_isa.specs.Words.{read}
use Rattle.spec_query.specs.declared.Store.{Store}
use Rattle.spec_query.specs.Stores.{stores_in}
use Rattle.spec_query.specs.Queries.{watch, when_changed, who}
use Rattle.spec_query.specs.Texts.{end_text, last_text, lines_text, when_text}
use Rattle.spec_run.specs.Runs.{has_diverged}
use Rattle.spec_program.specs.declared.status.Status.{Status}
use Rattle.spec_program.specs.commands.Walk.{end}
use Rattle.spec_program.specs.Ends.{TookAll}
use Rattle.spec_program.specs.Operands.{IsPlaybackAt, PlaybackRead, playback_at}
use Rattle.spec_program.specs.Outcomes.{Finish, said}
use Rattle.spec_program.specs.Stages.{Refused, ◌>>◌}

-- the stores of the play of the log on the image
abbrev pub stores : PlaybackRead → List Store
stores read = stores_in read.log read.image.bytes read.image.entry read.log.count

-- what is answered about the word at that address
abbrev pub answer : Question → (addr : ℕ) → PlaybackRead → List ℕ
answer Question.Watch addr playback = lines_text (watch (stores playback) addr)
answer (Question.Who before) addr playback = last_text (who (stores playback) addr before)
answer (Question.When value) addr playback =
    when_text (when_changed (stores playback) (read playback.image.bytes (addr / 4)) addr value)

-- the answer, and how the play diverges, if it does
abbrev pub text : QueryValues → PlaybackRead → List ℕ
text query playback = answer query.question query.address playback ++ end_text (end playback)

abbrev pub finish : QueryValues → PlaybackRead → Finish
finish query playback = said (text query playback) (has_diverged (end playback))

abbrev pub outcome : Contents → QueryValues → Result Finish Refused
outcome m query = playback_at m query.playback >> λ playback. Ok (finish query playback)

-- the sink took the answer of that log on that image, and the status says whether the play diverges
pub record IsAnswered (query : QueryValues) (m : Contents) (known : Option Contents) (old new : Option (List ℕ)) (s : Status) : Type 0 where
  pub playback : PlaybackRead
  pub playback_read : IsPlaybackAt query.playback m playback
  pub output : TookAll (text query playback) old new
  pub files : known ≡ Some m
  pub status : s ≡ (if has_diverged (end playback) then Status.Diverged else Status.Done)
