-- Two chunks of a core, event by event: each is committed, the younger loads what the older has stored, and none follows a
-- piece or a chunk that met a serial instruction. A core that may have one chunk waits.
use Rattle.std.proofs.Common.{◌≡◌, ℕ, List, [], ◌∷◌, map, Option, Some, None, refl}
use Rattle.dl_entry.specs.declared.Actor.{Actor}
use Rattle.spec_isa.specs.declared.thread.Load.{Load}
use Rattle.spec_isa.specs.Instruction.{serial_of, loads_of, next_of, load_of, store_of, one}
use Rattle.spec_isa.specs.Words.{lay, read, merged}
use Rattle.spec_log.specs.declared.ModeName.{ModeName}
use Rattle.spec_kernel.specs.Answers.{answer}
use Rattle.spec_kernel.specs.Calls.{called}
use Rattle.spec_kernel.specs.Copies.{bytes_put}
use Rattle.spec_kernel.specs.Devices.{random_bytes, random_after}
use Rattle.spec_kernel.specs.Needs.{next_kind, next_operation, need}
use Rattle.spec_kernel.specs.Records.{fits}
use Rattle.spec_kernel.specs.Serving.{serve, console_written}
use Rattle.spec_play.specs.Plays.{play_one}
use Rattle.spec_play.specs.Recording.{new_log}
use Rattle.spec_play.specs.Transfers.{dma_verdict}
use Rattle.spec_play.specs.Turns.{has_left_over, now_at}
use Rattle.spec_play.specs.Verdicts.{chunk_verdict, serial_verdict}
use Rattle.spec_engine.specs.declared.answers.How.{How}
use Rattle.spec_engine.specs.Choices.{on_option, choose}
use Rattle.spec_engine.specs.Chunks.{Chunk, at_limit, reading, storing, loading, running, step}
use Rattle.spec_engine.specs.Flights.{at, first_slot, free_slot}
use Rattle.spec_engine.specs.Signatures.{meets}
use Rattle.spec_protocol.specs.declared.event.Event.{Event}
use Rattle.spec_protocol.specs.declared.reply.Reply.{Reply}
use Rattle.spec_protocol.specs.machine.Asking.{grant_chunk, grant_serial, asking}
use Rattle.spec_sphere.specs.sphere.Commits.{chunk_moved, serial_moved, dma_moved, raised}
use Rattle.spec_protocol.specs.machine.Finishing.{next}
use Rattle.spec_protocol.specs.machine.Flying.{draining, delivering, retiring}
use Rattle.spec_sphere.specs.sphere.Setups.{all_of, IsRecorded, IsReplayed, RoleSetup}
use Rattle.spec_protocol.specs.machine.Machine.{Setup, world_of, world_after, act, happens}
use Rattle.spec_protocol.specs.machine.Placing.{placing, raising}
use Rattle.spec_protocol.specs.machine.Serial.{do_point}
use Rattle.spec_protocol.specs.machine.Shown.{shown}
use Rattle.spec_sphere.specs.sphere.Spheres.{head_of, turn_against, limit_of, limit_after}
use Rattle.spec_protocol.specs.machine.Stepping.{stepping, cutting}
use Rattle.spec_protocol.specs.machine.Transferring.{transfer, transferring}
use Rattle.spec_protocol.specs.machine.World.{Occupant}
use Rattle.spec_protocol.proofs.Examples.Scenes.{alone, deep, replies, log_in}

-- two instructions, and then the call that ends the thread; the chunk is cut off after the first
abbrev exits : (depth : ℕ) → Setup
exits n =
    deep n (alone 1 (IsRecorded (record { version = 1; mode = ModeName.OrderSize; epochs = None })) 16
    (0x00000893 ∷ 0x00700513 ∷ 0x00000073 ∷ []))

abbrev exits_events : List Event
exits_events =
    Event.Step 0 ∷ Event.Cut 0 ∷ Event.Step 0 ∷ Event.Step 0 ∷ Event.Ask 0 ∷ Event.Ask 0 ∷ Event.Step 0 ∷ Event.Ask 0 ∷ []

-- a store, after which the chunk is cut off, and a load of the stored word
abbrev loads_back : RoleSetup → Setup
loads_back role =
    deep 2 (alone 1 role 272
    (0x00500293 ∷ 0x10502023 ∷ 0x10002303 ∷ 0x00000013 ∷ 0x00000073 ∷ []))

abbrev loads_back_events : List Event
loads_back_events = Event.Step 0 ∷ Event.Step 0 ∷ Event.Cut 0 ∷ Event.Step 0 ∷ []

abbrev recorded : RoleSetup
recorded = IsRecorded (record { version = 1; mode = ModeName.OrderOnly; epochs = None })

-- led by a log of one commit of thread 0, which is larger than what is cut off
abbrev replayed : RoleSetup
replayed =
    IsReplayed (all_of (record (new_log 1 ModeName.OrderOnly 100) { count = 1; order = Actor.Thread 0 ∷ [] }))

-- the values that the younger chunk of what a core holds has loaded
abbrev loaded_in : Option Chunk → List ℕ
loaded_in None = []
loaded_in (Some y) = map (λ (l : Load). l.value) y.done.loads

abbrev younger_loaded : Option Occupant → List ℕ
younger_loaded None = []
younger_loaded (Some h) = loaded_in h.younger

pub record RunTwoChunks : Type 0 where
  pub two : replies (world_of (exits 2)) exits_events
      ≡ Reply.Ran ∷ Reply.Closed How.Cut ∷ Reply.Ran ∷ Reply.Closed How.Serial ∷ Reply.Granted ∷ Reply.Granted
      ∷ Reply.Closed How.Serial ∷ Reply.Granted ∷ []
  -- each of the two chunks has its size in the log
  pub sizes : log_in (world_after (world_of (exits 2)) exits_events) 0
      ≡ 0x44 ∷ 0x4C ∷ 0x52 ∷ 0x4E ∷ 0x01 ∷ 0x00 ∷ 0x00 ∷ 0x00 ∷ 0x64 ∷ 0x00 ∷ 0x00 ∷ 0x00 ∷ 0x03 ∷ 0x00 ∷ 0x00 ∷ 0x00
      ∷ 0x03 ∷ 0x00 ∷ 0x00 ∷ 0x00 ∷ 0x00 ∷ 0x00 ∷ 0x03 ∷ 0x00 ∷ 0x00 ∷ 0x00 ∷ 0x01 ∷ 0x00 ∷ 0x01 ∷ 0x00 ∷ 0x00 ∷ 0x00
      ∷ 0x00 ∷ 0x00 ∷ 0x00 ∷ 0x00 ∷ 0x00 ∷ 0x00 ∷ 0x00 ∷ 0x00 ∷ 0x00 ∷ 0x00 ∷ 0x00 ∷ 0x00 ∷ []
  pub one : replies (world_of (exits 1)) exits_events
      ≡ Reply.Ran ∷ Reply.Closed How.Cut ∷ Reply.Waiting ∷ Reply.Waiting ∷ Reply.Granted ∷ Reply.NotClosed ∷ Reply.Ran
      ∷ Reply.NotClosed ∷ []
  -- memory doesn't have the word yet
  pub back : replies (world_of (loads_back recorded)) loads_back_events
      ≡ Reply.Ran ∷ Reply.Ran ∷ Reply.Closed How.Cut ∷ Reply.Ran ∷ []
  pub loaded : younger_loaded (at (world_after (world_of (loads_back recorded)) loads_back_events).cores 0) ≡ 5 ∷ []
  -- in a replay the chunk that was cut off is a piece
  pub piece : replies (world_of (loads_back replayed)) loads_back_events
      ≡ Reply.Ran ∷ Reply.Ran ∷ Reply.Closed How.Cut ∷ Reply.Waiting ∷ []
  -- no chunk follows one that met a serial instruction
  pub serial : replies (world_of (exits 2)) (Event.Step 0 ∷ Event.Step 0 ∷ Event.Step 0 ∷ Event.Step 0 ∷ [])
      ≡ Reply.Ran ∷ Reply.Ran ∷ Reply.Closed How.Serial ∷ Reply.Waiting ∷ []

-- a core that may have two chunks runs and commits both, and waits if none may follow
pub two_chunks : RunTwoChunks
unfolding serial_of loads_of next_of load_of store_of one lay read merged answer called bytes_put random_bytes random_after next_kind next_operation need fits serve console_written play_one dma_verdict has_left_over now_at chunk_verdict serial_verdict on_option choose at_limit reading storing loading running step first_slot free_slot meets grant_chunk grant_serial asking chunk_moved serial_moved dma_moved raised next draining delivering retiring act happens placing raising do_point shown head_of turn_against limit_of limit_after stepping cutting transfer transferring
two_chunks = record { two = refl; sizes = refl; one = refl; back = refl; loaded = refl; piece = refl; serial = refl }
