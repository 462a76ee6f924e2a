-- What becomes of two chunks of a core, event by event: in a replay each has the limit of its own commit, and both are
-- abandoned by an interrupt that is raised, by one that the log has after the older's commit, and by a place.
use Rattle.std.proofs.Common.{◌≡◌, ℕ, List, [], ◌∷◌, None, refl}
use Rattle.dl_entry.specs.declared.Actor.{Actor}
use Rattle.spec_isa.specs.Instruction.{serial_of, loads_of, next_of, load_of, store_of, one}
use Rattle.spec_isa.specs.Words.{lay, read, merged}
use Rattle.spec_log.specs.declared.Interrupt.{Interrupt}
use Rattle.spec_log.specs.declared.ModeName.{ModeName}
use Rattle.spec_log.specs.declared.Sizes.{Sizes}
use Rattle.spec_kernel.specs.Answers.{answer}
use Rattle.spec_kernel.specs.Calls.{called}
use Rattle.spec_kernel.specs.Copies.{bytes_put}
use Rattle.spec_kernel.specs.Devices.{random_bytes, random_after}
use Rattle.spec_kernel.specs.Needs.{next_kind, next_operation, need}
use Rattle.spec_kernel.specs.Records.{fits}
use Rattle.spec_kernel.specs.Serving.{serve, console_written}
use Rattle.spec_play.specs.Plays.{play_one}
use Rattle.spec_play.specs.Recording.{new_log}
use Rattle.spec_play.specs.Transfers.{dma_verdict}
use Rattle.spec_play.specs.Turns.{has_left_over, now_at}
use Rattle.spec_play.specs.Verdicts.{chunk_verdict, serial_verdict}
use Rattle.spec_engine.specs.declared.answers.How.{How}
use Rattle.spec_engine.specs.Choices.{on_option, choose}
use Rattle.spec_engine.specs.Chunks.{at_limit, reading, storing, loading, running, step}
use Rattle.spec_engine.specs.Flights.{first_slot, free_slot}
use Rattle.spec_engine.specs.Signatures.{meets}
use Rattle.spec_protocol.specs.declared.event.Event.{Event}
use Rattle.spec_protocol.specs.declared.reply.Reply.{Reply}
use Rattle.spec_protocol.specs.machine.Asking.{grant_chunk, grant_serial, asking}
use Rattle.spec_sphere.specs.sphere.Commits.{chunk_moved, serial_moved, dma_moved, raised}
use Rattle.spec_protocol.specs.machine.Finishing.{next}
use Rattle.spec_protocol.specs.machine.Flying.{draining, delivering, retiring}
use Rattle.spec_sphere.specs.sphere.Setups.{all_of, IsRecorded, IsReplayed, RoleSetup}
use Rattle.spec_protocol.specs.machine.Machine.{world_of, act, happens}
use Rattle.spec_protocol.specs.machine.Placing.{placing, raising}
use Rattle.spec_protocol.specs.machine.Serial.{do_point}
use Rattle.spec_protocol.specs.machine.Shown.{shown}
use Rattle.spec_sphere.specs.sphere.Spheres.{head_of, turn_against, limit_of, limit_after}
use Rattle.spec_protocol.specs.machine.Stepping.{stepping, cutting}
use Rattle.spec_protocol.specs.machine.Transferring.{transfer, transferring}
use Rattle.spec_protocol.proofs.Examples.Scenes.{alone, deep, replies}

abbrev replayed : (count : ℕ) → List Actor → List ℕ → List Interrupt → RoleSetup
replayed count order sizes interrupts =
    IsReplayed (all_of (record (new_log 1 ModeName.OrderSize 100) { count = count; order = order; sizes = Sizes.Each sizes; interrupts = interrupts }))

abbrev recorded : RoleSetup
recorded = IsRecorded (record { version = 1; mode = ModeName.OrderSize; epochs = None })

-- four instructions, and then the call that ends the thread
abbrev goes_on : List ℕ
goes_on = 0x00100293 ∷ 0x00200313 ∷ 0x00300393 ∷ 0x00000893 ∷ 0x00000073 ∷ []

-- its first commits are of one instruction, of two and of one
abbrev goes_on_log : RoleSetup
goes_on_log =
    replayed 4 (Actor.Thread 0 ∷ Actor.Thread 0 ∷ Actor.Thread 0 ∷ Actor.Thread 0 ∷ []) (1 ∷ 2 ∷ 1 ∷ 0 ∷ []) []

-- a handler is set, and returns at once
abbrev handles : List ℕ
handles =
    0x00600893 ∷ 0x02000513 ∷ 0x00000073 ∷ 0x00100293 ∷ 0x00200313 ∷ 0x00300393 ∷ 0x0000006F ∷ 0x00000013
    ∷ 0x00700893 ∷ 0x00000073 ∷ []

-- the interrupt comes after three commits
abbrev handles_log : RoleSetup
handles_log =
    replayed 6
    (Actor.Thread 0 ∷ Actor.Thread 0 ∷ Actor.Thread 0 ∷ Actor.Thread 0 ∷ Actor.Thread 0 ∷ Actor.Thread 0 ∷ [])
    (2 ∷ 0 ∷ 1 ∷ 1 ∷ 0 ∷ 1 ∷ []) (record { thread = 0; index = 3; value = 5 } ∷ [])

-- thread 0 spawns thread 1
abbrev spawns : List ℕ
spawns =
    0x00100893 ∷ 0x02000513 ∷ 0x00000613 ∷ 0x00000073 ∷ 0x10002283 ∷ 0x00000893 ∷ 0x00000073 ∷ 0x00000013
    ∷ 0x00900313 ∷ 0x10602023 ∷ 0x00000893 ∷ 0x00000073 ∷ []

pub record AreAbandoned : Type 0 where
  pub limits : replies (world_of (deep 2 (alone 1 goes_on_log 32 goes_on)))
      (Event.Step 0 ∷ Event.Step 0 ∷ Event.Step 0 ∷ Event.Step 0 ∷ Event.Step 0 ∷ Event.Ask 0 ∷ Event.Step 0 ∷ Event.Step 0
      ∷ Event.Ask 0 ∷ Event.Ask 0 ∷ Event.Step 0 ∷ Event.Ask 0 ∷ [])
      ≡ Reply.Closed How.Limit ∷ Reply.Ran ∷ Reply.Closed How.Limit ∷ Reply.Waiting ∷ Reply.Waiting ∷ Reply.Granted
      ∷ Reply.Closed How.Limit ∷ Reply.Waiting ∷ Reply.Granted ∷ Reply.Granted ∷ Reply.Closed How.Serial ∷ Reply.Granted ∷ []
  -- the chunk that is asked for after the interrupt has run nothing
  pub by_raise : replies (world_of (deep 2 (alone 1 recorded 48 handles)))
      (Event.Step 0 ∷ Event.Step 0 ∷ Event.Step 0 ∷ Event.Ask 0 ∷ Event.Step 0 ∷ Event.Ask 0 ∷ Event.Step 0 ∷ Event.Cut 0
      ∷ Event.Ask 0 ∷ Event.Step 0 ∷ Event.Cut 0 ∷ Event.Step 0 ∷ Event.Raise 0 0 5 ∷ Event.Ask 0 ∷ Event.Step 0
      ∷ Event.Step 0 ∷ Event.Ask 0 ∷ Event.Step 0 ∷ Event.Ask 0 ∷ Event.Step 0 ∷ Event.Cut 0 ∷ Event.Ask 0 ∷ [])
      ≡ Reply.Ran ∷ Reply.Ran ∷ Reply.Closed How.Serial ∷ Reply.Granted ∷ Reply.Closed How.Serial ∷ Reply.Granted
      ∷ Reply.Ran ∷ Reply.Closed How.Cut ∷ Reply.Granted ∷ Reply.Ran ∷ Reply.Closed How.Cut ∷ Reply.Ran ∷ Reply.Raised
      ∷ Reply.NotClosed ∷ Reply.Ran ∷ Reply.Closed How.Serial ∷ Reply.Granted ∷ Reply.Closed How.Serial ∷ Reply.Granted
      ∷ Reply.Ran ∷ Reply.Closed How.Cut ∷ Reply.Granted ∷ []
  -- after the third commit a step runs the handler's first instruction, and the next one meets the call
  pub by_the_log : replies (world_of (deep 2 (alone 1 handles_log 48 handles)))
      (Event.Step 0 ∷ Event.Step 0 ∷ Event.Step 0 ∷ Event.Ask 0 ∷ Event.Step 0 ∷ Event.Ask 0 ∷ Event.Step 0 ∷ Event.Step 0
      ∷ Event.Ask 0 ∷ Event.Step 0 ∷ Event.Step 0 ∷ Event.Cut 0 ∷ Event.Ask 0 ∷ Event.Ask 0 ∷ Event.Step 0 ∷ Event.Ask 0 ∷ [])
      ≡ Reply.Ran ∷ Reply.Closed How.Limit ∷ Reply.Closed How.Serial ∷ Reply.Granted ∷ Reply.Waiting ∷ Reply.Granted
      ∷ Reply.Closed How.Limit ∷ Reply.Closed How.Limit ∷ Reply.Granted ∷ Reply.Closed How.Limit ∷ Reply.Closed How.Serial
      ∷ Reply.Waiting ∷ Reply.Granted ∷ Reply.Granted ∷ Reply.Closed How.Limit ∷ Reply.Granted ∷ []
  pub by_place : replies (world_of (deep 2 (alone 1 recorded 272 spawns)))
      (Event.Step 0 ∷ Event.Step 0 ∷ Event.Step 0 ∷ Event.Step 0 ∷ Event.Ask 0 ∷ Event.Step 0 ∷ Event.Ask 0 ∷ Event.Step 0
      ∷ Event.Cut 0 ∷ Event.Step 0 ∷ Event.Place 0 0 1 ∷ Event.Ask 0 ∷ Event.Step 0 ∷ Event.Step 0 ∷ [])
      ≡ Reply.Ran ∷ Reply.Ran ∷ Reply.Ran ∷ Reply.Closed How.Serial ∷ Reply.Granted ∷ Reply.Closed How.Serial
      ∷ Reply.Granted ∷ Reply.Ran ∷ Reply.Closed How.Cut ∷ Reply.Ran ∷ Reply.Placed ∷ Reply.NotClosed ∷ Reply.Ran
      ∷ Reply.Ran ∷ []

-- chunks have limits of their own, and are abandoned by a raise, a logged interrupt or a place
pub abandoned : AreAbandoned
unfolding serial_of loads_of next_of load_of store_of one lay read merged answer called bytes_put random_bytes random_after next_kind next_operation need fits serve console_written play_one dma_verdict has_left_over now_at chunk_verdict serial_verdict on_option choose at_limit reading storing loading running step first_slot free_slot meets grant_chunk grant_serial asking chunk_moved serial_moved dma_moved raised next draining delivering retiring act happens placing raising do_point shown head_of turn_against limit_of limit_after stepping cutting transfer transferring
abandoned = record { limits = refl; by_raise = refl; by_the_log = refl; by_place = refl }
