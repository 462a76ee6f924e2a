-- A recording in epochs of two commits: an interrupt that comes right after an epoch's beginning is one of that epoch, and one that
-- was raised before the next beginning is in the state there.
use Rattle.std.proofs.Common.{◌≡◌, ℕ, true, false, Bool, List, [], ◌∷◌, map, length, Option, None, Some, refl}
use Rattle.dl_entry.specs.declared.Actor.{Actor}
use Rattle.dl_entry.specs.declared.CommitKind.{CommitKind}
use Rattle.dl_entry.specs.declared.Point.{Point}
use Rattle.spec_log.specs.declared.ModeName.{ModeName}
use Rattle.spec_log.specs.declared.Interrupt.{Interrupt}
use Rattle.spec_log.specs.declared.ShortSize.{ShortSize}
use Rattle.spec_log.specs.declared.Sizes.{Sizes}
use Rattle.spec_log.specs.declared.LogParts.{LogParts}
use Rattle.spec_play.specs.Recording.{new_log}
use Rattle.spec_play.specs.Epochs.{Epoch, Epochs}
use Rattle.spec_protocol.specs.declared.event.Event.{Event}
use Rattle.spec_sphere.specs.sphere.Spheres.{Role, Plain, Record, Replay, Sphere, head_of, turn_against, limit_of}
use Rattle.spec_protocol.specs.machine.World.{World, sphere_at}
use Rattle.spec_sphere.specs.sphere.Setups.{RecordSetup, IsRecorded}
use Rattle.spec_protocol.specs.machine.Machine.{Setup, world_of, world_after, act, happens}
use Rattle.spec_isa.specs.Instruction.{serial_of, loads_of, next_of, load_of, store_of, one}
use Rattle.spec_isa.specs.Words.{lay, read, merged}
use Rattle.spec_kernel.specs.Answers.{answer}
use Rattle.spec_kernel.specs.Calls.{called}
use Rattle.spec_kernel.specs.Needs.{next_kind, next_operation, need}
use Rattle.spec_kernel.specs.Records.{fits}
use Rattle.spec_kernel.specs.Serving.{serve, console_written}
use Rattle.spec_engine.specs.Choices.{on_option, choose}
use Rattle.spec_engine.specs.Chunks.{at_limit, reading, storing, loading, running, step}
use Rattle.spec_engine.specs.Flights.{first_slot, free_slot}
use Rattle.spec_engine.specs.Signatures.{meets}
use Rattle.spec_protocol.specs.machine.Asking.{grant_chunk, grant_serial, asking}
use Rattle.spec_sphere.specs.sphere.Commits.{chunk_moved, serial_moved, raised}
use Rattle.spec_protocol.specs.machine.Placing.{raising}
use Rattle.spec_protocol.specs.machine.Serial.{do_point}
use Rattle.spec_protocol.specs.machine.Stepping.{stepping, cutting}
use Rattle.spec_sphere.specs.sphere.Epochs.{epoch_begun, base_of}
use Rattle.spec_protocol.specs.machine.Epochs.{epochs_begun}
use Rattle.spec_protocol.specs.machine.Kept.{tail_log}
use Rattle.spec_protocol.proofs.Examples.Scenes.{alone}

-- a thread sets its handler and goes round; the handler goes round too
abbrev asked : (keep : ℕ) → RecordSetup
asked keep = record { version = 2; mode = ModeName.OrderOnly; epochs = Some (record { size = 2; keep = keep }) }

abbrev scene : (keep : ℕ) → Setup
scene keep =
    alone 1 (IsRecorded (asked keep)) 32
    (0x00600893 ∷ 0x01400513 ∷ 0x00000073 ∷ 0x0000006F ∷ 0x00000013
    ∷ 0x0000006F ∷ [])

-- two commits; an interrupt and two commits more
abbrev first_events : List Event
first_events = Event.Step 0 ∷ Event.Step 0 ∷ Event.Step 0 ∷ Event.Ask 0 ∷ Event.Step 0 ∷ Event.Ask 0 ∷ []

abbrev more_events : List Event
more_events =
    Event.Raise 0 0 5 ∷ Event.Step 0 ∷ Event.Cut 0 ∷ Event.Ask 0 ∷ Event.Step 0 ∷ Event.Cut 0
    ∷ Event.Ask 0 ∷ []

abbrev after_two : (keep : ℕ) → World
after_two keep = epochs_begun (world_after (epochs_begun (world_of (scene keep))) first_events)

abbrev after_four : (keep : ℕ) → World
after_four keep = epochs_begun (world_after (after_two keep) more_events)

-- what is kept

abbrev log_in : Role → LogParts
log_in Plain = new_log 2 ModeName.OrderOnly 0
log_in (Record recording) = recording.log
log_in (Replay b) = new_log 2 ModeName.OrderOnly 0

abbrev begun_by : Option Epochs → List Epoch
begun_by None = []
begun_by (Some x) = x.begun

abbrev begun_in : Role → List Epoch
begun_in Plain = []
begun_in (Record recording) = begun_by recording.epochs
begun_in (Replay b) = []

abbrev sphere : World → Sphere
sphere w = sphere_at w 0

abbrev log : World → LogParts
log w = log_in (sphere w).role

-- the number of commits at which each kept epoch begins, and whether its thread handles an interrupt there
abbrev beginnings : World → List ℕ
beginnings w = map (λ e. e.state.commits) (begun_in (sphere w).role)

abbrev masks : World → List (List Bool)
masks w = map (λ e. map (λ t. t.mask) e.state.threads) (begun_in (sphere w).role)

-- the value, and the number of commits before
abbrev raised_in : LogParts → List (ℕ × ℕ)
raised_in l = map (λ x. (x.value, x.index)) l.interrupts

abbrev interrupts : World → List (ℕ × ℕ)
interrupts w = raised_in (log w)

abbrev short_ones : Sizes → List (ℕ × ℕ)
short_ones (Sizes.Each sizes) = []
short_ones (Sizes.Short sizes) = map (λ x. (x.size, x.index)) sizes

abbrev shorts : World → List (ℕ × ℕ)
shorts w = short_ones (log w).sizes

abbrev points : List Point
points =
    Point.Commit 3 0 (Actor.Thread 0) CommitKind.Chunk 2 false ∷ Point.Commit 5 0 (Actor.Thread 0) CommitKind.Serial 0 false
    ∷ Point.Raise 6 0 0 5 ∷ Point.Commit 9 0 (Actor.Thread 0) CommitKind.Chunk 1 true
    ∷ Point.Commit 12 0 (Actor.Thread 0) CommitKind.Chunk 1 true ∷ []

-- the log of the points since so many commits
abbrev told_since : (n : ℕ) → LogParts
told_since n = tail_log (scene 2) points 0 (asked 2) n

pub record AreKept : Type 0 where
  -- one epoch is kept
  pub two_begun : beginnings (after_two 1) ≡ 2 ∷ []
  pub two_first : (sphere (after_two 1)).progress.first ≡ 2
  pub two_commits : length (sphere (after_two 1)).progress.commits ≡ 0
  pub two_masks : masks (after_two 1) ≡ (false ∷ []) ∷ []
  pub four_begun : beginnings (after_four 1) ≡ 4 ∷ []
  pub four_first : (sphere (after_four 1)).progress.first ≡ 4
  pub four_masks : masks (after_four 1) ≡ (true ∷ []) ∷ []
  pub four_interrupts : interrupts (after_four 1) ≡ []
  pub four_shorts : shorts (after_four 1) ≡ []
  pub four_count : (log (after_four 1)).count ≡ 0
  -- two are kept
  pub both_begun : beginnings (after_four 2) ≡ 2 ∷ 4 ∷ []
  pub both_first : (sphere (after_four 2)).progress.first ≡ 2
  pub both_commits : length (sphere (after_four 2)).progress.commits ≡ 2
  pub both_interrupts : interrupts (after_four 2) ≡ (5, 2) ∷ []
  pub both_shorts : shorts (after_four 2) ≡ (1, 2) ∷ (1, 3) ∷ []
  pub both_order : (log (after_four 2)).order ≡ Actor.Thread 0 ∷ Actor.Thread 0 ∷ []
  pub both_points : (after_four 2).points ≡ points
  -- where the base is
  pub base : base_of 6 2 2 ≡ 4
  pub base_one : base_of 6 2 1 ≡ 6
  pub base_all : base_of 6 2 4 ≡ 0

-- one or two epochs are kept, each with its own commits, interrupts and short sizes
pub epochs_kept : AreKept
unfolding serial_of loads_of next_of load_of store_of one lay read merged answer called next_kind next_operation need fits serve console_written on_option choose at_limit reading storing loading running step first_slot free_slot meets grant_chunk grant_serial asking chunk_moved serial_moved raised act happens raising do_point head_of turn_against limit_of stepping cutting epoch_begun epochs_begun
epochs_kept =
    record {
      two_begun = refl;
      two_first = refl;
      two_commits = refl;
      two_masks = refl;
      four_begun = refl;
      four_first = refl;
      four_masks = refl;
      four_interrupts = refl;
      four_shorts = refl;
      four_count = refl;
      both_begun = refl;
      both_first = refl;
      both_commits = refl;
      both_interrupts = refl;
      both_shorts = refl;
      both_order = refl;
      both_points = refl;
      base = refl;
      base_one = refl;
      base_all = refl;
    }

-- the points tell the same
pub record AreTold : Type 0 where
  pub interrupts_two : raised_in (told_since 2) ≡ (5, 2) ∷ []
  pub shorts_two : short_ones (told_since 2).sizes ≡ (1, 2) ∷ (1, 3) ∷ []
  pub count_two : (told_since 2).count ≡ 2
  pub interrupts_four : raised_in (told_since 4) ≡ []
  pub shorts_four : short_ones (told_since 4).sizes ≡ []
  pub count_four : (told_since 4).count ≡ 0

-- the points since a kept epoch's beginning tell the same interrupts, short sizes and count
pub epochs_told : AreTold
unfolding serial_of loads_of next_of load_of store_of one lay read merged answer called next_kind next_operation need fits serve console_written chunk_moved serial_moved raised do_point
epochs_told =
    record {
      interrupts_two = refl;
      shorts_two = refl;
      count_two = refl;
      interrupts_four = refl;
      shorts_four = refl;
      count_four = refl;
    }
