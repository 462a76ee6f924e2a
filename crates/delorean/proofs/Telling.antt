-- What real files hold is what their system tells.
use Rattle.std.proofs.Common.{◌≡◌, Option, None, Some, refl}
use Rattle.dl_files.specs.Seen.{Counts}
use Rattle.dl_files.specs.Told.{Told, held, seen_by}

-- what is known of files is what their system tells that they hold
pub known_held : (told : Option Told) (counts : Counts) → (seen_by told counts).known ≡ held told
known_held None counts = refl
known_held (Some t) counts = refl
