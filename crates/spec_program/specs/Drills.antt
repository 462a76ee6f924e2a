-- Drills: a generated image is recorded on many cores, and its log is replayed on one.
use Rattle.std.specs.Prelude.{ℕ, List, [], ◌∷◌, ◌++◌, codes, None}
use Rattle.dl_asm.specs.File.{image_by}
use Rattle.dl_elf.specs.Images.{Image}
use Rattle.dl_event.specs.Seeded.{seeded, schedule}
use Rattle.dl_make.specs.Generated.{words_of}
use Rattle.spec_log.specs.declared.LogParts.{LogParts}
use Rattle.spec_log.specs.declared.ModeName.{ModeName}
use Rattle.spec_protocol.specs.declared.event.Event.{Event}
use Rattle.spec_sphere.specs.sphere.Setups.{all_of, RoleSetup, IsRecorded, IsReplayed, SphereSetup}
use Rattle.spec_protocol.specs.machine.Machine.{Setup}
use Rattle.spec_run.specs.Texts.{account_text, log_of_points, summary_text}
use Rattle.spec_program.specs.Lines.{line}

-- the generated image of that number, in a memory of 4,096 bytes
abbrev pub drill_image : (number : ℕ) → Image
drill_image v = image_by (words_of v) 4096

abbrev pub drill_sphere : (number : ℕ) → RoleSetup → SphereSetup
drill_sphere v role = record { memory = (drill_image v).bytes; entry = (drill_image v).entry; role = role }

-- ---- the recording, whose seed is the number

abbrev pub recording : (number : ℕ) → Setup
recording v =
    record {
      cores = 4;
      window = 2;
      numbers = record { s = 64; capacity = 8; bits = 128; depth = 1 };
      seed = v;
      input = [];
      spheres = drill_sphere v (IsRecorded (record { version = 1; mode = ModeName.OrderOnly; epochs = None })) ∷ [];
    }

abbrev pub recording_events : (number : ℕ) → List Event
recording_events v = schedule 20000 (seeded v)

abbrev pub recorded_log : (number : ℕ) → LogParts
recorded_log v = log_of_points (recording v) (recording_events v) 0 (record { version = 1; mode = ModeName.OrderOnly; epochs = None })

-- ---- the replay of its log, without a schedule

abbrev pub replaying : (number : ℕ) → Setup
replaying v =
    record {
      cores = 1;
      window = 1;
      numbers = record { s = 64; capacity = 1; bits = 64; depth = 1 };
      seed = 0;
      input = [];
      spheres = drill_sphere v (IsReplayed (all_of (recorded_log v))) ∷ [];
    }

-- ---- what is said

abbrev pub recorded_account : (number : ℕ) → List ℕ
recorded_account v = account_text (recording v) (recording_events v) 0

abbrev pub replayed_account : (number : ℕ) → List ℕ
replayed_account v = account_text (replaying v) [] 0

-- the summaries of both, and that their accounts are equal
abbrev pub drill_text : (number : ℕ) → List ℕ
drill_text v =
    summary_text (recording v) (recording_events v) ++ summary_text (replaying v) [] ++ line (codes "equal")
