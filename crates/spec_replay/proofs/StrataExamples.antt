-- Two threads replayed in strata: in the stratum in which both have a chunk, the later thread does its own first, in two
-- pieces; its commit is put after the other's, and all that follows is as the log says.
use Rattle.std.proofs.Common.{◌≡◌, ℕ, List, [], ◌∷◌, map, Option, Some, refl}
use Rattle.dl_entry.specs.declared.Actor.{Actor}
use Rattle.dl_entry.specs.declared.End.{End}
use Rattle.spec_engine.specs.declared.answers.How.{How}
use Rattle.spec_isa.specs.Instruction.{serial_of, loads_of, next_of, load_of, store_of, one}
use Rattle.spec_isa.specs.Words.{lay, read, merged}
use Rattle.spec_kernel.specs.Answers.{answer}
use Rattle.spec_kernel.specs.Calls.{called}
use Rattle.spec_kernel.specs.Copies.{bytes_put}
use Rattle.spec_kernel.specs.Devices.{random_bytes, random_after}
use Rattle.spec_kernel.specs.Needs.{next_kind, next_operation, need}
use Rattle.spec_kernel.specs.Records.{fits}
use Rattle.spec_kernel.specs.Serving.{serve, console_written}
use Rattle.spec_play.specs.Plays.{play_one, play}
use Rattle.spec_play.specs.Transfers.{dma_verdict}
use Rattle.spec_play.specs.Turns.{Turn, Ended, has_left_over, now_at}
use Rattle.spec_play.specs.Verdicts.{chunk_verdict, serial_verdict}
use Rattle.spec_play.proofs.Programs.{image}
use Rattle.spec_strata.specs.declared.stratum.Stratum.TheVariants.{Chunks, Serial}
use Rattle.spec_strata.specs.declared.strata.StrataParts.{StrataParts}
use Rattle.spec_strata.specs.Canonical.{canonical}
use Rattle.spec_engine.specs.Choices.{on_option, choose}
use Rattle.spec_engine.specs.Chunks.{at_limit, reading, storing, loading, running, step}
use Rattle.spec_engine.specs.Flights.{first_slot, free_slot}
use Rattle.spec_engine.specs.Signatures.{meets}
use Rattle.spec_protocol.specs.declared.event.Event.{Event}
use Rattle.spec_protocol.specs.declared.reply.Reply.{Reply}
use Rattle.spec_protocol.specs.machine.Asking.{grant_chunk, grant_serial, asking}
use Rattle.spec_sphere.specs.sphere.Commits.{chunk_moved, serial_moved, dma_moved, raised}
use Rattle.spec_protocol.specs.machine.Finishing.{next}
use Rattle.spec_protocol.specs.machine.Flying.{draining, delivering, retiring}
use Rattle.spec_sphere.specs.sphere.Setups.{in_strata, IsReplayed}
use Rattle.spec_protocol.specs.machine.Machine.{world_of, act, happens, world_after}
use Rattle.spec_protocol.specs.machine.Placing.{placing, raising}
use Rattle.spec_protocol.specs.machine.Serial.{do_point}
use Rattle.spec_protocol.specs.machine.Shown.{shown}
use Rattle.spec_sphere.specs.sphere.Spheres.{head_of, turn_against, limit_of}
use Rattle.spec_protocol.specs.machine.Stepping.{stepping, cutting}
use Rattle.spec_protocol.specs.machine.Transferring.{transfer, transferring}
use Rattle.spec_protocol.specs.machine.World.{World, sphere_at}
use Rattle.spec_replay.proofs.Examples.{replies, now_after, commits_after}

-- the call that starts a thread at 20, one instruction and the call that ends the thread; and at 20 two instructions and
-- that call
abbrev code : List ℕ
code =
    image 32 (0x00100893 ∷ 0x01400513 ∷ 0x00000073 ∷ 0x00000893 ∷ 0x00000073 ∷ 0x00100293 ∷ 0x00200313 ∷ 0x00000073 ∷ [])

abbrev strata : StrataParts
strata =
    record {
      counted = 2;
      threads = 15;
      s = 100;
      strata = Chunks (1 ∷ 0 ∷ []) ∷ Serial 0 ∷ Chunks (1 ∷ 1 ∷ []) ∷ Serial 0 ∷ Serial 1 ∷ [];
      sizes = [];
      interrupts = [];
      inputs = [];
      dmas = [];
    }

-- on two cores
abbrev start : World
start =
    world_of
    (record {
      cores = 2;
      window = 2;
      numbers = record { s = 100; capacity = 16; bits = 64; depth = 1 };
      seed = 0;
      input = [];
      spheres = record { memory = code; entry = 0; role = IsReplayed (in_strata strata) } ∷ [];
    })

-- ---- events

-- the first two strata, and the other thread on the other core
abbrev spawned : List Event
spawned =
    Event.Step 0 ∷ Event.Step 0 ∷ Event.Step 0 ∷ Event.Ask 0 ∷ Event.Step 0 ∷ Event.Ask 0 ∷ Event.Place 1 0 1 ∷ []

-- its chunk, the first instruction as a piece; meanwhile thread 0 has run its own
abbrev joined_in : List Event
joined_in =
    Event.Step 0 ∷ Event.Step 0 ∷ Event.Step 1 ∷ Event.Cut 1 ∷ Event.Ask 1 ∷ Event.Ask 0 ∷ Event.Step 1 ∷ Event.Step 1 ∷ Event.Ask 1 ∷ []

-- both calls at the end, and first the one that isn't next
abbrev ended : List Event
ended = Event.Ask 0 ∷ Event.Step 0 ∷ Event.Step 1 ∷ Event.Ask 1 ∷ Event.Ask 0 ∷ Event.Ask 1 ∷ []

abbrev actors_after : World → List Event → List Actor
actors_after w es = map (λ c. c.actor) (commits_after w es)

abbrev last_after : World → List Event → Option ℕ
last_after w es = (sphere_at (world_after w es) 0).progress.last

-- ---- rows

pub record AreInStrata : Type 0 where
  -- the call is a stratum by itself
  pub spawned_replies : replies start spawned
      ≡ Reply.Ran ∷ Reply.Ran ∷ Reply.Closed How.Serial ∷ Reply.Granted ∷ Reply.Closed How.Serial ∷ Reply.Granted ∷ Reply.Placed ∷ []
  pub spawned_now : now_after start spawned ≡ Some (Turn 0)
  -- thread 1 needn't wait for thread 0, which is the head; and once a piece is done, thread 0 waits
  pub joined_replies : replies (world_after start spawned) joined_in
      ≡ Reply.Ran ∷ Reply.Closed How.Serial ∷ Reply.Ran ∷ Reply.Closed How.Cut ∷ Reply.Piece ∷ Reply.NotTurn (Actor.Thread 1) ∷ Reply.Ran ∷ Reply.Closed How.Serial ∷ Reply.Granted ∷ []
  pub joined_now : now_after (world_after start spawned) joined_in ≡ Some (Turn 0)
  pub joined_actors : actors_after (world_after start spawned) joined_in ≡ Actor.Thread 0 ∷ Actor.Thread 0 ∷ Actor.Thread 1 ∷ []
  pub joined_last : last_after (world_after start spawned) joined_in ≡ Some 1
  -- thread 0's commit is put before that, which stays the last; and a serial step waits for its turn
  pub chunk_actors : actors_after (world_after (world_after start spawned) joined_in) (Event.Ask 0 ∷ [])
      ≡ Actor.Thread 0 ∷ Actor.Thread 0 ∷ Actor.Thread 0 ∷ Actor.Thread 1 ∷ []
  pub chunk_last : last_after (world_after (world_after start spawned) joined_in) (Event.Ask 0 ∷ []) ≡ Some 1
  pub ended_replies : replies (world_after (world_after start spawned) joined_in) ended
      ≡ Reply.Granted ∷ Reply.Closed How.Serial ∷ Reply.Closed How.Serial ∷ Reply.NotTurn (Actor.Thread 0) ∷ Reply.Granted ∷ Reply.Granted ∷ []
  pub ended_now : now_after (world_after (world_after start spawned) joined_in) ended ≡ Some (Ended (End.Complete 6))
  pub ended_commits : commits_after (world_after (world_after start spawned) joined_in) ended
      ≡ (play (canonical strata) code 0).progress.commits
  pub ended_play : (play (canonical strata) code 0).now ≡ Ended (End.Complete 6)

-- the replay in strata is complete, with the commits of its log's play in canonical order
pub strata_end : AreInStrata
unfolding serial_of loads_of next_of load_of store_of one lay read merged answer called bytes_put random_bytes random_after next_kind next_operation need fits serve console_written play_one dma_verdict has_left_over now_at chunk_verdict serial_verdict on_option choose at_limit reading storing loading running step first_slot free_slot meets grant_chunk grant_serial asking chunk_moved serial_moved dma_moved raised next draining delivering retiring act happens placing raising do_point shown head_of turn_against limit_of stepping cutting transfer transferring
strata_end =
    record {
      spawned_replies = refl;
      spawned_now = refl;
      joined_replies = refl;
      joined_now = refl;
      joined_actors = refl;
      joined_last = refl;
      chunk_actors = refl;
      chunk_last = refl;
      ended_replies = refl;
      ended_now = refl;
      ended_commits = refl;
      ended_play = refl;
    }
