-- Recordings of small programs, event by event: what each answers, and the bytes of the log in the end.
use Rattle.std.proofs.Common.{◌≡◌, false, List, [], ◌∷◌, None, refl}
use Rattle.dl_entry.specs.declared.Actor.{Actor}
use Rattle.dl_entry.specs.declared.CommitKind.{CommitKind}
use Rattle.dl_entry.specs.declared.Point.{Point}
use Rattle.spec_log.specs.declared.ModeName.{ModeName}
use Rattle.spec_engine.specs.declared.answers.How.{How}
use Rattle.spec_protocol.specs.declared.event.Event.{Event}
use Rattle.spec_protocol.specs.declared.reply.Reply.{Reply}
use Rattle.spec_sphere.specs.sphere.Setups.{IsRecorded}
use Rattle.spec_protocol.specs.machine.Machine.{Setup, world_of, world_after, act, happens}
use Rattle.spec_isa.specs.Instruction.{serial_of, loads_of, next_of, load_of, store_of, one}
use Rattle.spec_isa.specs.Words.{lay, read, merged}
use Rattle.spec_kernel.specs.Answers.{answer}
use Rattle.spec_kernel.specs.Calls.{called}
use Rattle.spec_kernel.specs.Copies.{bytes_put}
use Rattle.spec_kernel.specs.Devices.{random_bytes, random_after}
use Rattle.spec_kernel.specs.Needs.{next_kind, next_operation, need}
use Rattle.spec_kernel.specs.Records.{fits}
use Rattle.spec_kernel.specs.Serving.{serve, console_written}
use Rattle.spec_play.specs.Plays.{play_one}
use Rattle.spec_play.specs.Transfers.{dma_verdict}
use Rattle.spec_play.specs.Turns.{has_left_over, now_at}
use Rattle.spec_play.specs.Verdicts.{chunk_verdict, serial_verdict}
use Rattle.spec_engine.specs.Choices.{on_option, choose}
use Rattle.spec_engine.specs.Chunks.{at_limit, reading, storing, loading, running, step}
use Rattle.spec_engine.specs.Flights.{first_slot, free_slot}
use Rattle.spec_engine.specs.Signatures.{meets}
use Rattle.spec_protocol.specs.machine.Asking.{grant_chunk, grant_serial, asking}
use Rattle.spec_sphere.specs.sphere.Commits.{chunk_moved, serial_moved, dma_moved, raised}
use Rattle.spec_protocol.specs.machine.Finishing.{next}
use Rattle.spec_protocol.specs.machine.Flying.{draining, delivering, retiring}
use Rattle.spec_protocol.specs.machine.Placing.{placing, raising}
use Rattle.spec_protocol.specs.machine.Serial.{do_point}
use Rattle.spec_protocol.specs.machine.Shown.{shown}
use Rattle.spec_sphere.specs.sphere.Spheres.{head_of, turn_against, limit_of}
use Rattle.spec_protocol.specs.machine.Stepping.{stepping, cutting}
use Rattle.spec_protocol.specs.machine.Transferring.{transfer, transferring}
use Rattle.spec_protocol.proofs.Examples.Scenes.{alone, replies, log_in}

-- two instructions, and then the call that ends the thread
abbrev exits : Setup
exits =
    alone 1 (IsRecorded (record { version = 1; mode = ModeName.OrderSize; epochs = None })) 16
    (0x00000893 ∷ 0x00700513 ∷ 0x00000073 ∷ [])

abbrev exits_events : List Event
exits_events =
    Event.Step 0 ∷ Event.Step 0 ∷ Event.Step 0 ∷ Event.Ask 0 ∷ Event.Step 0 ∷ Event.Ask 0 ∷ []

-- the same in order-only
abbrev exits_unsized : Setup
exits_unsized =
    alone 1 (IsRecorded (record { version = 1; mode = ModeName.OrderOnly; epochs = None })) 16
    (0x00000893 ∷ 0x00700513 ∷ 0x00000073 ∷ [])

abbrev exits_unsized_events : List Event
exits_unsized_events =
    Event.Step 0 ∷ Event.Step 0 ∷ Event.Step 0 ∷ Event.Ask 0 ∷ Event.Step 0 ∷ Event.Ask 0 ∷ []

-- the same in picolog
abbrev exits_in_turn : Setup
exits_in_turn =
    alone 1 (IsRecorded (record { version = 1; mode = ModeName.Picolog; epochs = None })) 16
    (0x00000893 ∷ 0x00700513 ∷ 0x00000073 ∷ [])

abbrev exits_in_turn_events : List Event
exits_in_turn_events =
    Event.Step 0 ∷ Event.Step 0 ∷ Event.Step 0 ∷ Event.Ask 0 ∷ Event.Step 0 ∷ Event.Ask 0 ∷ []

-- a handler takes one interrupt, and not the next while it runs
abbrev is_interrupted : Setup
is_interrupted =
    alone 1 (IsRecorded (record { version = 1; mode = ModeName.OrderSize; epochs = None })) 32
    (0x00600893 ∷ 0x01400513 ∷ 0x00000073 ∷ 0x0000006F ∷ 0x00000013
    ∷ 0x0000006F ∷ [])

abbrev is_interrupted_events : List Event
is_interrupted_events =
    Event.Step 0 ∷ Event.Step 0 ∷ Event.Step 0 ∷ Event.Ask 0 ∷ Event.Step 0 ∷ Event.Ask 0
    ∷ Event.Raise 0 0 5 ∷ Event.Raise 0 0 6 ∷ []

-- answers that change nothing, and a chunk that is cut off
abbrev refuses : Setup
refuses =
    alone 1 (IsRecorded (record { version = 1; mode = ModeName.OrderSize; epochs = None })) 16
    (0x00000893 ∷ 0x00700513 ∷ 0x00000073 ∷ [])

abbrev refuses_events : List Event
refuses_events =
    Event.Ask 0 ∷ Event.Cut 0 ∷ Event.Drain 0 ∷ Event.Deliver 0 0 ∷ Event.Retire 1 ∷ Event.Place 0 0 0
    ∷ Event.Place 0 0 3 ∷ Event.Raise 0 0 5 ∷ Event.Dma 0 ∷ Event.Step 0 ∷ Event.Cut 0 ∷ Event.Step 0
    ∷ Event.Ask 0 ∷ []

-- a jump to a place that is no multiple of 4
abbrev faults : Setup
faults =
    alone 1 (IsRecorded (record { version = 1; mode = ModeName.OrderSize; epochs = None })) 16
    (0x00600293 ∷ 0x000280E7 ∷ [])

abbrev faults_events : List Event
faults_events =
    Event.Step 0 ∷ Event.Step 0 ∷ Event.Ask 0 ∷ Event.Step 0 ∷ Event.Ask 0 ∷ Event.Step 0 ∷ []

-- the moment, a byte of input, a byte for the console, and a load that is no device's
abbrev reads_devices : Setup
reads_devices =
    record (alone 1 (IsRecorded (record { version = 1; mode = ModeName.OrderSize; epochs = None })) 32
    (0xF00002B7 ∷ 0x0002A303 ∷ 0x0042A383 ∷ 0x0072A423 ∷ 0x00028403 ∷ [])) { input = 0x41 ∷ [] }

abbrev reads_devices_events : List Event
reads_devices_events =
    Event.Step 0 ∷ Event.Step 0 ∷ Event.Ask 0 ∷ Event.Step 0 ∷ Event.Ask 0 ∷ Event.Step 0
    ∷ Event.Ask 0 ∷ Event.Step 0 ∷ Event.Ask 0 ∷ Event.Step 0 ∷ Event.Ask 0 ∷ []

pub record AreRecorded : Type 0 where
  pub exits_replies : replies (world_of exits) exits_events
      ≡ Reply.Ran ∷ Reply.Ran ∷ Reply.Closed How.Serial ∷ Reply.Granted ∷ Reply.Closed How.Serial ∷ Reply.Granted ∷ []
  pub exits_log : log_in (world_after (world_of exits) exits_events) 0
      ≡ 0x44 ∷ 0x4C ∷ 0x52 ∷ 0x4E ∷ 0x01 ∷ 0x00 ∷ 0x00 ∷ 0x00 ∷ 0x64 ∷ 0x00 ∷ 0x00 ∷ 0x00 ∷ 0x02 ∷ 0x00 ∷ 0x00 ∷ 0x00
      ∷ 0x02 ∷ 0x00 ∷ 0x00 ∷ 0x00 ∷ 0x00 ∷ 0x02 ∷ 0x00 ∷ 0x00 ∷ 0x00 ∷ 0x02 ∷ 0x00 ∷ 0x00 ∷ 0x00 ∷ 0x00 ∷ 0x00 ∷ 0x00
      ∷ 0x00 ∷ 0x00 ∷ 0x00 ∷ 0x00 ∷ 0x00 ∷ 0x00 ∷ 0x00 ∷ 0x00 ∷ 0x00 ∷ []
  pub exits_points : (world_after (world_of exits) exits_events).points
      ≡ Point.Commit 3 0 (Actor.Thread 0) CommitKind.Chunk 2 false ∷ Point.Commit 5 0 (Actor.Thread 0) CommitKind.Serial 0 false ∷ []
  pub exits_unsized_replies : replies (world_of exits_unsized) exits_unsized_events
      ≡ Reply.Ran ∷ Reply.Ran ∷ Reply.Closed How.Serial ∷ Reply.Granted ∷ Reply.Closed How.Serial ∷ Reply.Granted ∷ []
  pub exits_unsized_log : log_in (world_after (world_of exits_unsized) exits_unsized_events) 0
      ≡ 0x44 ∷ 0x4C ∷ 0x52 ∷ 0x4E ∷ 0x01 ∷ 0x01 ∷ 0x00 ∷ 0x00 ∷ 0x64 ∷ 0x00 ∷ 0x00 ∷ 0x00 ∷ 0x02 ∷ 0x00 ∷ 0x00 ∷ 0x00
      ∷ 0x02 ∷ 0x00 ∷ 0x00 ∷ 0x00 ∷ 0x00 ∷ 0x00 ∷ 0x00 ∷ 0x00 ∷ 0x00 ∷ 0x00 ∷ 0x00 ∷ 0x00 ∷ 0x00 ∷ 0x00 ∷ 0x00 ∷ 0x00
      ∷ 0x00 ∷ 0x00 ∷ 0x00 ∷ 0x00 ∷ 0x00 ∷ []
  pub exits_in_turn_replies : replies (world_of exits_in_turn) exits_in_turn_events
      ≡ Reply.Ran ∷ Reply.Ran ∷ Reply.Closed How.Serial ∷ Reply.Granted ∷ Reply.Closed How.Serial ∷ Reply.Granted ∷ []
  pub exits_in_turn_log : log_in (world_after (world_of exits_in_turn) exits_in_turn_events) 0
      ≡ 0x44 ∷ 0x4C ∷ 0x52 ∷ 0x4E ∷ 0x01 ∷ 0x02 ∷ 0x00 ∷ 0x00 ∷ 0x64 ∷ 0x00 ∷ 0x00 ∷ 0x00 ∷ 0x02 ∷ 0x00 ∷ 0x00 ∷ 0x00
      ∷ 0x00 ∷ 0x00 ∷ 0x00 ∷ 0x00 ∷ 0x00 ∷ 0x00 ∷ 0x00 ∷ 0x00 ∷ 0x00 ∷ 0x00 ∷ 0x00 ∷ 0x00 ∷ 0x00 ∷ 0x00 ∷ 0x00 ∷ 0x00
      ∷ 0x00 ∷ 0x00 ∷ 0x00 ∷ 0x00 ∷ []
  pub is_interrupted_replies : replies (world_of is_interrupted) is_interrupted_events
      ≡ Reply.Ran ∷ Reply.Ran ∷ Reply.Closed How.Serial ∷ Reply.Granted ∷ Reply.Closed How.Serial ∷ Reply.Granted
      ∷ Reply.Raised ∷ Reply.Masked ∷ []
  pub is_interrupted_log : log_in (world_after (world_of is_interrupted) is_interrupted_events) 0
      ≡ 0x44 ∷ 0x4C ∷ 0x52 ∷ 0x4E ∷ 0x01 ∷ 0x00 ∷ 0x00 ∷ 0x00 ∷ 0x64 ∷ 0x00 ∷ 0x00 ∷ 0x00 ∷ 0x02 ∷ 0x00 ∷ 0x00 ∷ 0x00
      ∷ 0x02 ∷ 0x00 ∷ 0x00 ∷ 0x00 ∷ 0x00 ∷ 0x02 ∷ 0x00 ∷ 0x00 ∷ 0x00 ∷ 0x02 ∷ 0x00 ∷ 0x00 ∷ 0x00 ∷ 0x01 ∷ 0x00 ∷ 0x00
      ∷ 0x00 ∷ 0x00 ∷ 0x02 ∷ 0x00 ∷ 0x00 ∷ 0x00 ∷ 0x05 ∷ 0x00 ∷ 0x00 ∷ 0x00 ∷ 0x00 ∷ 0x00 ∷ 0x00 ∷ 0x00 ∷ 0x00 ∷ 0x00
      ∷ 0x00 ∷ 0x00 ∷ []
  pub refuses_replies : replies (world_of refuses) refuses_events
      ≡ Reply.NotClosed ∷ Reply.NothingRun ∷ Reply.NoCommit ∷ Reply.NoCommit ∷ Reply.NoCommit ∷ Reply.Elsewhere 0
      ∷ Reply.NoThread ∷ Reply.NoHandler ∷ Reply.NoDma ∷ Reply.Ran ∷ Reply.Closed How.Cut ∷ Reply.Waiting
      ∷ Reply.Granted ∷ []
  pub refuses_log : log_in (world_after (world_of refuses) refuses_events) 0
      ≡ 0x44 ∷ 0x4C ∷ 0x52 ∷ 0x4E ∷ 0x01 ∷ 0x00 ∷ 0x00 ∷ 0x00 ∷ 0x64 ∷ 0x00 ∷ 0x00 ∷ 0x00 ∷ 0x01 ∷ 0x00 ∷ 0x00 ∷ 0x00
      ∷ 0x01 ∷ 0x00 ∷ 0x00 ∷ 0x00 ∷ 0x00 ∷ 0x01 ∷ 0x00 ∷ 0x00 ∷ 0x00 ∷ 0x01 ∷ 0x00 ∷ 0x00 ∷ 0x00 ∷ 0x00 ∷ 0x00 ∷ 0x00
      ∷ 0x00 ∷ 0x00 ∷ 0x00 ∷ 0x00 ∷ 0x00 ∷ 0x00 ∷ 0x00 ∷ []
  pub faults_replies : replies (world_of faults) faults_events
      ≡ Reply.Ran ∷ Reply.Closed How.Serial ∷ Reply.Granted ∷ Reply.Closed How.Serial ∷ Reply.Granted ∷ Reply.Idle ∷ []
  pub reads_devices_replies : replies (world_of reads_devices) reads_devices_events
      ≡ Reply.Ran ∷ Reply.Closed How.Serial ∷ Reply.Granted ∷ Reply.Closed How.Serial ∷ Reply.Granted ∷ Reply.Closed How.Serial
      ∷ Reply.Granted ∷ Reply.Closed How.Serial ∷ Reply.Granted ∷ Reply.Closed How.Serial ∷ Reply.Granted ∷ []
  pub reads_devices_log : log_in (world_after (world_of reads_devices) reads_devices_events) 0
      ≡ 0x44 ∷ 0x4C ∷ 0x52 ∷ 0x4E ∷ 0x01 ∷ 0x00 ∷ 0x00 ∷ 0x00 ∷ 0x64 ∷ 0x00 ∷ 0x00 ∷ 0x00 ∷ 0x05 ∷ 0x00 ∷ 0x00 ∷ 0x00
      ∷ 0x05 ∷ 0x00 ∷ 0x00 ∷ 0x00 ∷ 0x00 ∷ 0x00 ∷ 0x00 ∷ 0x05 ∷ 0x00 ∷ 0x00 ∷ 0x00 ∷ 0x01 ∷ 0x00 ∷ 0x00 ∷ 0x00 ∷ 0x00
      ∷ 0x00 ∷ 0x00 ∷ 0x00 ∷ 0x00 ∷ 0x00 ∷ 0x00 ∷ 0x00 ∷ 0x00 ∷ 0x00 ∷ 0x02 ∷ 0x00 ∷ 0x00 ∷ 0x00 ∷ 0x10 ∷ 0x04 ∷ 0x00
      ∷ 0x00 ∷ 0x00 ∷ 0x00 ∷ 0x00 ∷ 0x11 ∷ 0x41 ∷ 0x00 ∷ 0x00 ∷ 0x00 ∷ 0x00 ∷ 0x00 ∷ 0x00 ∷ 0x00 ∷ 0x00 ∷ 0x00 ∷ []

-- these recordings answer their events so, and their logs have these bytes
pub recordings : AreRecorded
unfolding serial_of loads_of next_of load_of store_of one lay read merged answer called bytes_put random_bytes random_after next_kind next_operation need fits serve console_written play_one dma_verdict has_left_over now_at chunk_verdict serial_verdict on_option choose at_limit reading storing loading running step first_slot free_slot meets grant_chunk grant_serial asking chunk_moved serial_moved dma_moved raised next draining delivering retiring act happens placing raising do_point shown head_of turn_against limit_of stepping cutting transfer transferring
recordings =
    record {
      exits_replies = refl;
      exits_log = refl;
      exits_points = refl;
      exits_unsized_replies = refl;
      exits_unsized_log = refl;
      exits_in_turn_replies = refl;
      exits_in_turn_log = refl;
      is_interrupted_replies = refl;
      is_interrupted_log = refl;
      refuses_replies = refl;
      refuses_log = refl;
      faults_replies = refl;
      reads_devices_replies = refl;
      reads_devices_log = refl;
    }
