-- The files that the words of a command name: one by its bytes, a log, and an image with a log of it.
use Rattle.std.specs.Prelude.{◌≡◌, ℕ, List, [], ◌∷◌, Some, Result, Ok}
use Rattle.std.specs.FinMap.{get}
use Rattle.dl_elf.specs.Images.{Image}
use Rattle.dl_elf.specs.Loading.{image_of}
use Rattle.dl_files.specs.Contents.{Contents}
use Rattle.dl_words.specs.Commands.{PlaybackValues}
use Rattle.spec_log.specs.declared.LogParts.{LogParts}
use Rattle.spec_log.specs.declared.fault.Fault.{Fault}
use Rattle.spec_log.specs.Reading.{read_of}
use Rattle.spec_program.specs.Built.{bad_image, bad_log}
use Rattle.spec_program.specs.Files.{read_at, log_at}
use Rattle.spec_program.specs.Stages.{Refused, refusing, ◌>>◌}
use Rattle.spec_program.specs.Tasks.{absent}

-- ---- a file

abbrev pub file_at : Contents → (name : List ℕ) → Result (List ℕ) Refused
file_at m name = refusing absent (read_at m name)

-- ---- a log; of a line on it, it is that of sphere 0

abbrev pub log_file_at : Contents → (name : List ℕ) → Result (Result LogParts Fault) Refused
log_file_at m name = refusing absent (log_at m name)

abbrev pub log_in : (read : Result LogParts Fault) → Result LogParts Refused
log_in read = refusing (bad_log 0) read

abbrev pub good_log_at : Contents → (name : List ℕ) → Result LogParts Refused
good_log_at m name = log_file_at m name >> log_in

-- the file of that name is that log
pub record IsLogAt (name : List ℕ) (m : Contents) (log : LogParts) : Type 0 where
  pub bytes : List ℕ
  pub there : get m name ≡ Some bytes
  pub read : read_of bytes ≡ Ok log

-- ---- an image and a log, which are those of sphere 0 too

pub record PlaybackRead : Type 0 where
  pub image : Image
  pub log : LogParts

abbrev pub playback_reads : PlaybackValues → List (List ℕ)
playback_reads p = p.image ∷ p.log ∷ []

abbrev pub image_in : (memory : ℕ) → (program : List ℕ) → Result Image Refused
image_in memory program = refusing (bad_image 0) (image_of program memory)

-- both files are read before either is looked at, and the image is looked at first
abbrev pub playback_in : (memory : ℕ) → (program : List ℕ) → (read : Result LogParts Fault) → Result PlaybackRead Refused
playback_in memory program read =
    image_in memory program >> λ image.
    log_in read >> λ log.
    Ok (record { image = image; log = log })

abbrev pub playback_on : Contents → PlaybackValues → (program : List ℕ) → Result PlaybackRead Refused
playback_on m p program = log_file_at m p.log >> playback_in p.memory program

abbrev pub playback_at : Contents → PlaybackValues → Result PlaybackRead Refused
playback_at m p = file_at m p.image >> playback_on m p

-- the files of those names are that image, in that memory, and that log
pub record IsPlaybackAt (p : PlaybackValues) (m : Contents) (read : PlaybackRead) : Type 0 where
  pub program : List ℕ
  pub there : get m p.image ≡ Some program
  pub loaded : image_of program p.memory ≡ Ok read.image
  pub log : IsLogAt p.log m read.log
