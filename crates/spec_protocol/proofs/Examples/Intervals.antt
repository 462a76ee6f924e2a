-- Intervals of a log: a replay begins after the commits before its own and ends after its last; the play's divergence before it
-- is its end.
use Rattle.std.proofs.Common.{◌≡◌, ℕ, List, [], ◌∷◌, length, Option, Some, None, refl}
use Rattle.dl_entry.specs.declared.Actor.{Actor}
use Rattle.spec_isa.specs.Instruction.{serial_of, loads_of, next_of, load_of, store_of, one}
use Rattle.spec_isa.specs.Words.{lay, read, merged}
use Rattle.dl_entry.specs.declared.End.{End}
use Rattle.dl_entry.specs.declared.Why.{Why}
use Rattle.spec_log.specs.declared.ModeName.{ModeName}
use Rattle.spec_log.specs.declared.Sizes.{Sizes}
use Rattle.spec_kernel.specs.Answers.{answer}
use Rattle.spec_kernel.specs.Calls.{called}
use Rattle.spec_kernel.specs.Copies.{bytes_put}
use Rattle.spec_kernel.specs.Devices.{random_bytes, random_after}
use Rattle.spec_kernel.specs.Needs.{next_kind, next_operation, need}
use Rattle.spec_kernel.specs.Records.{fits}
use Rattle.spec_kernel.specs.Serving.{serve, console_written}
use Rattle.spec_play.specs.Plays.{play_one}
use Rattle.spec_play.specs.Recording.{new_log}
use Rattle.spec_play.specs.Transfers.{dma_verdict}
use Rattle.spec_play.specs.Turns.{TurnOrEnd, Turn, Ended, has_left_over, now_at}
use Rattle.spec_play.specs.Verdicts.{chunk_verdict, serial_verdict}
use Rattle.spec_engine.specs.declared.answers.How.{How}
use Rattle.spec_engine.specs.Choices.{on_option, choose}
use Rattle.spec_engine.specs.Chunks.{at_limit, reading, storing, loading, running, step}
use Rattle.spec_engine.specs.Flights.{first_slot, free_slot}
use Rattle.spec_engine.specs.Signatures.{meets}
use Rattle.spec_protocol.specs.declared.event.Event.{Event}
use Rattle.spec_protocol.specs.declared.reply.Reply.{Reply}
use Rattle.spec_protocol.specs.machine.Asking.{grant_chunk, grant_serial, asking}
use Rattle.spec_sphere.specs.sphere.Commits.{chunk_moved, serial_moved, dma_moved, raised}
use Rattle.spec_protocol.specs.machine.Finishing.{next}
use Rattle.spec_protocol.specs.machine.Flying.{draining, delivering, retiring}
use Rattle.spec_sphere.specs.sphere.Setups.{IsReplayed, RoleSetup}
use Rattle.spec_protocol.specs.machine.Machine.{world_of, world_after, act, happens}
use Rattle.spec_protocol.specs.machine.Placing.{placing, raising}
use Rattle.spec_protocol.specs.machine.Serial.{do_point}
use Rattle.spec_protocol.specs.machine.Shown.{shown}
use Rattle.spec_sphere.specs.sphere.Spheres.{Role, Plain, Record, Replay, Sphere, head_of, turn_against, limit_of, limit_after}
use Rattle.spec_protocol.specs.machine.Stepping.{stepping, cutting}
use Rattle.spec_protocol.specs.machine.Transferring.{transfer, transferring}
use Rattle.spec_protocol.specs.machine.World.{World, sphere_at}
use Rattle.spec_protocol.proofs.Examples.Scenes.{alone, replies}

-- four instructions, and then the call that ends the thread
abbrev goes_on : List ℕ
goes_on = 0x00100293 ∷ 0x00200313 ∷ 0x00300393 ∷ 0x00000893 ∷ 0x00000073 ∷ []

-- in four commits of these sizes, of which those from `first` to `last` are replayed
abbrev from_to : (sizes : List ℕ) → (first last : ℕ) → RoleSetup
from_to sizes first last =
    IsReplayed (record {
      log = record (new_log 1 ModeName.OrderSize 100) {
        count = 4;
        order = Actor.Thread 0 ∷ Actor.Thread 0 ∷ Actor.Thread 0 ∷ Actor.Thread 0 ∷ [];
        sizes = Sizes.Each sizes;
      };
      interval = Some (record { first = first; last = last });
      strata = None;
    })

-- as they are
abbrev good : (first last : ℕ) → RoleSetup
good first last = from_to (1 ∷ 2 ∷ 1 ∷ 0 ∷ []) first last

-- the second isn't the serial step that the log says
abbrev bad : (first last : ℕ) → RoleSetup
bad first last = from_to (1 ∷ 0 ∷ 3 ∷ 0 ∷ []) first last

abbrev start : RoleSetup → World
start role = world_of (alone 1 role 32 goes_on)

-- of the sphere the number of its first commit, how many it has done, and its turn or end
record Place : Type 0 where
  first : ℕ
  commits : ℕ
  now : Option TurnOrEnd

abbrev now_in_role : Role → Option TurnOrEnd
now_in_role Plain = None
now_in_role (Record recording) = None
now_in_role (Replay b) = Some b.now

abbrev place_of : Sphere → Place
place_of p = record { first = p.progress.first; commits = length p.progress.commits; now = now_in_role p.role }

abbrev place : World → Place
place w = place_of (sphere_at w 0)

abbrev two_commits : List Event
two_commits = Event.Step 0 ∷ Event.Step 0 ∷ Event.Ask 0 ∷ Event.Step 0 ∷ Event.Ask 0 ∷ []

abbrev last_commits : List Event
last_commits = Event.Step 0 ∷ Event.Ask 0 ∷ Event.Step 0 ∷ Event.Ask 0 ∷ []

pub record RunIntervals : Type 0 where
  begins : place (start (good 1 3)) ≡ record { first = 1; commits = 0; now = Some (Turn 0) }
  -- the sphere stops before the serial step, which the log has too
  within : replies (start (good 1 3)) (Event.Step 0 ∷ Event.Step 0 ∷ Event.Ask 0 ∷ Event.Step 0 ∷ Event.Ask 0 ∷ Event.Step 0 ∷ [])
      ≡ Reply.Ran ∷ Reply.Closed How.Limit ∷ Reply.Granted ∷ Reply.Closed How.Limit ∷ Reply.Granted ∷ Reply.Stopped ∷ []
  stops : place (world_after (start (good 1 3)) two_commits) ≡ record { first = 1; commits = 2; now = Some (Ended (End.At 3)) }
  -- up to the end of the log
  to_the_end : replies (start (good 2 4)) last_commits
      ≡ Reply.Closed How.Limit ∷ Reply.Granted ∷ Reply.Closed How.Serial ∷ Reply.Granted ∷ []
  ends : place (world_after (start (good 2 4)) last_commits) ≡ record { first = 2; commits = 2; now = Some (Ended (End.At 4)) }
  -- no commits at all: a thread that lives is on the core, and one that has ended isn't
  empty : place (start (good 2 2)) ≡ record { first = 2; commits = 0; now = Some (Ended (End.At 2)) }
  stopped : replies (start (good 2 2)) (Event.Step 0 ∷ []) ≡ Reply.Stopped ∷ []
  past_all : place (start (good 4 4)) ≡ record { first = 4; commits = 0; now = Some (Ended (End.At 4)) }
  idle : replies (start (good 4 4)) (Event.Step 0 ∷ []) ≡ Reply.Idle ∷ []
  -- the play diverges before the interval, and at its second commit
  before : place (start (bad 2 4)) ≡ record { first = 1; commits = 0; now = Some (Ended (End.Diverged 1 Why.NotSerial)) }
  in_it : place (world_after (start (bad 0 4)) (Event.Step 0 ∷ Event.Ask 0 ∷ Event.Step 0 ∷ Event.Ask 0 ∷ []))
      ≡ record { first = 0; commits = 1; now = Some (Ended (End.Diverged 1 Why.NotSerial)) }
  -- but not if the interval ends there
  short_of_it : place (start (bad 1 1)) ≡ record { first = 1; commits = 0; now = Some (Ended (End.At 1)) }

-- each of these replays begins, goes on and ends with its interval, or diverges as the play does
pub run_intervals : RunIntervals
unfolding serial_of loads_of next_of load_of store_of one lay read merged answer called bytes_put random_bytes random_after next_kind next_operation need fits serve console_written play_one dma_verdict has_left_over now_at chunk_verdict serial_verdict on_option choose at_limit reading storing loading running step first_slot free_slot meets grant_chunk grant_serial asking chunk_moved serial_moved dma_moved raised next draining delivering retiring act happens placing raising do_point shown head_of turn_against limit_of limit_after stepping cutting transfer transferring
run_intervals =
    record {
      begins = refl;
      within = refl;
      stops = refl;
      to_the_end = refl;
      ends = refl;
      empty = refl;
      stopped = refl;
      past_all = refl;
      idle = refl;
      before = refl;
      in_it = refl;
      short_of_it = refl;
    }
