-- Replays of small logs, event by event: what each answers, and where the sphere then is.
use Rattle.std.proofs.Common.{◌≡◌, ℕ, true, false, List, [], ◌∷◌, Option, Some, None, refl}
use Rattle.dl_entry.specs.declared.Actor.{Actor}
use Rattle.dl_entry.specs.declared.Commit.{Commit}
use Rattle.dl_entry.specs.declared.CommitKind.{CommitKind}
use Rattle.dl_entry.specs.declared.End.{End}
use Rattle.dl_entry.specs.declared.Point.{Point}
use Rattle.dl_entry.specs.declared.Why.{Why}
use Rattle.spec_log.specs.declared.ModeName.{ModeName}
use Rattle.spec_log.specs.declared.Sizes.{Sizes}
use Rattle.spec_log.specs.declared.LogParts.{LogParts}
use Rattle.spec_engine.specs.declared.answers.How.{How}
use Rattle.spec_protocol.specs.declared.event.Event.{Event}
use Rattle.spec_protocol.specs.declared.reply.Reply.{Reply}
use Rattle.spec_isa.specs.Instruction.{serial_of, loads_of, next_of, load_of, store_of, one}
use Rattle.spec_isa.specs.Words.{lay, read, merged}
use Rattle.spec_kernel.specs.Answers.{answer}
use Rattle.spec_kernel.specs.Calls.{called}
use Rattle.spec_kernel.specs.Copies.{bytes_put}
use Rattle.spec_kernel.specs.Devices.{random_bytes, random_after}
use Rattle.spec_kernel.specs.Needs.{next_kind, next_operation, need}
use Rattle.spec_kernel.specs.Records.{fits}
use Rattle.spec_kernel.specs.Serving.{serve, console_written}
use Rattle.spec_play.specs.Plays.{play_one}
use Rattle.spec_play.specs.Transfers.{dma_verdict}
use Rattle.spec_play.specs.Turns.{TurnOrEnd, Turn, Ended, has_left_over, now_at}
use Rattle.spec_play.specs.Verdicts.{chunk_verdict, serial_verdict}
use Rattle.spec_play.proofs.Programs.{image}
use Rattle.spec_engine.specs.Choices.{on_option, choose}
use Rattle.spec_engine.specs.Chunks.{at_limit, reading, storing, loading, running, step}
use Rattle.spec_engine.specs.Flights.{first_slot, free_slot}
use Rattle.spec_engine.specs.Signatures.{meets}
use Rattle.spec_protocol.specs.machine.Asking.{grant_chunk, grant_serial, asking}
use Rattle.spec_sphere.specs.sphere.Commits.{chunk_moved, serial_moved, dma_moved, raised}
use Rattle.spec_protocol.specs.machine.Finishing.{next}
use Rattle.spec_protocol.specs.machine.Flying.{draining, delivering, retiring}
use Rattle.spec_sphere.specs.sphere.Setups.{ReplaySetup, all_of, IsReplayed}
use Rattle.spec_protocol.specs.machine.Machine.{world_of, act, happens, world_after}
use Rattle.spec_protocol.specs.machine.Placing.{placing, raising}
use Rattle.spec_protocol.specs.machine.Serial.{do_point}
use Rattle.spec_protocol.specs.machine.Shown.{shown}
use Rattle.spec_sphere.specs.sphere.Spheres.{Role, Plain, Record, Replay, head_of, turn_against, limit_of}
use Rattle.spec_protocol.specs.machine.Stepping.{stepping, cutting}
use Rattle.spec_protocol.specs.machine.Transferring.{transfer, transferring}
use Rattle.spec_protocol.specs.machine.World.{World, sphere_at}

-- ---- scenes

-- two instructions, and then the call that ends the thread
abbrev code : List ℕ
code = image 16 (0x00000893 ∷ 0x00700513 ∷ 0x00000073 ∷ [])

-- one core replays what it is asked for, with chunks of 100, buffers of 16, a window of 2 and signatures of 64
abbrev replay_of : ReplaySetup → World
replay_of asked =
    world_of
    (record {
      cores = 1;
      window = 2;
      numbers = record { s = 100; capacity = 16; bits = 64; depth = 1 };
      seed = 0;
      input = [];
      spheres = record { memory = code; entry = 0; role = IsReplayed asked } ∷ [];
    })

-- a whole log
abbrev replay : LogParts → World
replay log = replay_of (all_of log)

-- the commits of a log from the first up to the last
abbrev replay_in : LogParts → (first last : ℕ) → World
replay_in log first last = replay_of (record { log = log; interval = Some (record { first = first; last = last }); strata = None })

-- what these events answer one after another, from this world on
abbrev pub replies : World → List Event → List Reply
replies w [] = []
replies w (e ∷ es) = let a = happens w e in a.reply ∷ replies a.world es

-- whose turn it is in a replay, or how it has ended
abbrev pub now_in : Role → Option TurnOrEnd
now_in Plain = None
now_in (Record recording) = None
now_in (Replay b) = Some b.now

-- whose turn it is then, or how the replay has ended
abbrev pub now_after : World → List Event → Option TurnOrEnd
now_after w es = now_in (sphere_at (world_after w es) 0).role

-- the commits that the first sphere has done after these events
abbrev pub commits_after : World → List Event → List Commit
commits_after w es = (sphere_at (world_after w es) 0).progress.commits

-- ---- logs

abbrev sized : (count : ℕ) → List Actor → List ℕ → LogParts
sized count order sizes =
    record { version = 1; threads = 15; mode = ModeName.OrderSize; s = 100; count = count; order = order; sizes = Sizes.Each sizes; interrupts = []; inputs = []; dmas = [] }

-- no commit
abbrev empty_log : LogParts
empty_log = sized 0 [] []

-- a thread that is not there
abbrev no_thread_log : LogParts
no_thread_log = sized 1 (Actor.Thread 5 ∷ []) (1 ∷ [])

-- the image's own
abbrev whole_log : LogParts
whole_log = sized 2 (Actor.Thread 0 ∷ Actor.Thread 0 ∷ []) (2 ∷ 0 ∷ [])

-- the same in order-only
abbrev unsized_log : LogParts
unsized_log =
    record { version = 1; threads = 15; mode = ModeName.OrderOnly; s = 100; count = 2; order = Actor.Thread 0 ∷ Actor.Thread 0 ∷ []; sizes = Sizes.Short []; interrupts = []; inputs = []; dmas = [] }

-- a longer chunk
abbrev longer_log : LogParts
longer_log = sized 2 (Actor.Thread 0 ∷ Actor.Thread 0 ∷ []) (3 ∷ 0 ∷ [])

-- a serial step where a chunk comes
abbrev serial_log : LogParts
serial_log = sized 2 (Actor.Thread 0 ∷ Actor.Thread 0 ∷ []) (0 ∷ 0 ∷ [])

-- ---- events

abbrev asks_at_once : List Event
asks_at_once = Event.Step 0 ∷ Event.Ask 0 ∷ Event.Cut 0 ∷ []

abbrev whole_events : List Event
whole_events = Event.Step 0 ∷ Event.Step 0 ∷ Event.Ask 0 ∷ Event.Step 0 ∷ Event.Ask 0 ∷ Event.Step 0 ∷ []

-- the chunk is cut after its first instruction
abbrev piece_events : List Event
piece_events =
    Event.Step 0 ∷ Event.Cut 0 ∷ Event.Ask 0 ∷ Event.Step 0 ∷ Event.Ask 0 ∷ Event.Step 0
    ∷ Event.Ask 0 ∷ Event.Step 0 ∷ []

-- it is cut right before the call, so that its last part is empty
abbrev empty_last_events : List Event
empty_last_events =
    Event.Step 0 ∷ Event.Step 0 ∷ Event.Cut 0 ∷ Event.Ask 0 ∷ Event.Step 0 ∷ Event.Ask 0
    ∷ Event.Step 0 ∷ Event.Ask 0 ∷ Event.Step 0 ∷ []

abbrev longer_events : List Event
longer_events =
    Event.Step 0 ∷ Event.Cut 0 ∷ Event.Ask 0 ∷ Event.Step 0 ∷ Event.Step 0 ∷ Event.Ask 0
    ∷ Event.Step 0 ∷ []

abbrev serial_events : List Event
serial_events = Event.Step 0 ∷ Event.Cut 0 ∷ Event.Ask 0 ∷ Event.Step 0 ∷ []

-- the second commit alone, and the first alone
abbrev second_events : List Event
second_events = Event.Step 0 ∷ Event.Ask 0 ∷ Event.Step 0 ∷ []

abbrev first_events : List Event
first_events = Event.Step 0 ∷ Event.Step 0 ∷ Event.Ask 0 ∷ Event.Step 0 ∷ []

-- what a replay refuses while it goes on
abbrev refused_events : List Event
refused_events =
    Event.Step 0 ∷ Event.Cut 0 ∷ Event.Place 0 0 0 ∷ Event.Raise 0 0 5 ∷ Event.Dma 0 ∷ Event.Step 0
    ∷ Event.Ask 0 ∷ []

-- two instructions and the call
abbrev two_instructions : Commit
two_instructions = record { actor = Actor.Thread 0; kind = CommitKind.Chunk; size = 2; loads = []; outputs = [] }

abbrev call : Commit
call = record { actor = Actor.Thread 0; kind = CommitKind.Serial; size = 0; loads = []; outputs = [] }

abbrev two_commits : List Commit
two_commits = two_instructions ∷ call ∷ []

-- ---- rows

pub record AreReplayed : Type 0 where
  -- a replay can be over before its first commit
  pub empty_now : now_after (replay empty_log) [] ≡ Some (Ended (End.Complete 0))
  pub empty_replies : replies (replay empty_log) asks_at_once ≡ Reply.Stopped ∷ Reply.NotClosed ∷ Reply.Stopped ∷ []
  pub empty_next : next (replay empty_log) ≡ None
  pub no_thread_now : now_after (replay no_thread_log) [] ≡ Some (Ended (End.Diverged 0 Why.NoThread))
  pub no_thread_next : next (replay no_thread_log) ≡ None
  -- whole, in two pieces, and with an empty last part the commits are the same
  pub whole_replies : replies (replay whole_log) whole_events
      ≡ Reply.Ran ∷ Reply.Closed How.Limit ∷ Reply.Granted ∷ Reply.Closed How.Serial ∷ Reply.Granted ∷ Reply.Idle ∷ []
  pub whole_commits : commits_after (replay whole_log) whole_events ≡ two_commits
  pub whole_now : now_after (replay whole_log) whole_events ≡ Some (Ended (End.Complete 2))
  pub piece_replies : replies (replay whole_log) piece_events
      ≡ Reply.Ran ∷ Reply.Closed How.Cut ∷ Reply.Piece ∷ Reply.Closed How.Limit ∷ Reply.Granted ∷ Reply.Closed How.Serial
      ∷ Reply.Granted ∷ Reply.Idle ∷ []
  pub piece_commits : commits_after (replay whole_log) piece_events ≡ two_commits
  pub piece_now : now_after (replay whole_log) piece_events ≡ Some (Ended (End.Complete 2))
  pub piece_points : (world_after (replay whole_log) piece_events).points
      ≡ Point.Commit 2 0 (Actor.Thread 0) CommitKind.Piece 1 true ∷ Point.Commit 4 0 (Actor.Thread 0) CommitKind.Chunk 1 true
      ∷ Point.Commit 6 0 (Actor.Thread 0) CommitKind.Serial 0 false ∷ []
  pub empty_last_replies : replies (replay unsized_log) empty_last_events
      ≡ Reply.Ran ∷ Reply.Ran ∷ Reply.Closed How.Cut ∷ Reply.Piece ∷ Reply.Closed How.Serial ∷ Reply.Granted
      ∷ Reply.Closed How.Serial ∷ Reply.Granted ∷ Reply.Idle ∷ []
  pub empty_last_commits : commits_after (replay unsized_log) empty_last_events ≡ two_commits
  pub empty_last_now : now_after (replay unsized_log) empty_last_events ≡ Some (Ended (End.Complete 2))
  -- the pieces count if a commit is too short, and no commit is noted
  pub longer_replies : replies (replay longer_log) longer_events
      ≡ Reply.Ran ∷ Reply.Closed How.Cut ∷ Reply.Piece ∷ Reply.Ran ∷ Reply.Closed How.Serial ∷ Reply.Diverged 0 (Why.Short 3 2)
      ∷ Reply.Stopped ∷ []
  pub longer_commits : commits_after (replay longer_log) longer_events ≡ []
  pub longer_now : now_after (replay longer_log) longer_events ≡ Some (Ended (End.Diverged 0 (Why.Short 3 2)))
  -- if a serial step is logged, one instruction is run
  pub serial_replies : replies (replay serial_log) serial_events ≡ Reply.Closed How.Limit ∷ Reply.Waiting ∷ Reply.Diverged 0 Why.NotSerial ∷ Reply.Stopped ∷ []
  -- after a piece it is the same thread's turn
  pub refused_replies : replies (replay whole_log) refused_events
      ≡ Reply.Ran ∷ Reply.Closed How.Cut ∷ Reply.Elsewhere 0 ∷ Reply.FromLog ∷ Reply.NotTurn (Actor.Thread 0) ∷ Reply.Waiting
      ∷ Reply.Piece ∷ []
  pub refused_now : now_after (replay whole_log) refused_events ≡ Some (Turn 0)
  -- an interval begins after the commits before it, and stops after its last; it has ended at once if it has no commit, or
  -- if the play diverges before its first
  pub second_replies : replies (replay_in whole_log 1 2) second_events ≡ Reply.Closed How.Serial ∷ Reply.Granted ∷ Reply.Idle ∷ []
  pub second_commits : commits_after (replay_in whole_log 1 2) second_events ≡ call ∷ []
  pub second_now : now_after (replay_in whole_log 1 2) second_events ≡ Some (Ended (End.At 2))
  pub first_replies : replies (replay_in whole_log 0 1) first_events ≡ Reply.Ran ∷ Reply.Closed How.Limit ∷ Reply.Granted ∷ Reply.Stopped ∷ []
  pub first_commits : commits_after (replay_in whole_log 0 1) first_events ≡ two_instructions ∷ []
  pub first_now : now_after (replay_in whole_log 0 1) first_events ≡ Some (Ended (End.At 1))
  pub none_now : now_after (replay_in whole_log 1 1) [] ≡ Some (Ended (End.At 1))
  pub none_next : next (replay_in whole_log 1 1) ≡ None
  pub before_now : now_after (replay_in longer_log 1 2) [] ≡ Some (Ended (End.Diverged 0 (Why.Short 3 2)))
  pub before_next : next (replay_in longer_log 1 2) ≡ None

-- these replays answer their events so, and have these commits and this turn or end after them
pub replays_end : AreReplayed
unfolding serial_of loads_of next_of load_of store_of one lay read merged answer called bytes_put random_bytes random_after next_kind next_operation need fits serve console_written play_one dma_verdict has_left_over now_at chunk_verdict serial_verdict on_option choose at_limit reading storing loading running step first_slot free_slot meets grant_chunk grant_serial asking chunk_moved serial_moved dma_moved raised next draining delivering retiring act happens placing raising do_point shown head_of turn_against limit_of stepping cutting transfer transferring
replays_end =
    record {
      empty_now = refl;
      empty_replies = refl;
      empty_next = refl;
      no_thread_now = refl;
      no_thread_next = refl;
      whole_replies = refl;
      whole_commits = refl;
      whole_now = refl;
      piece_replies = refl;
      piece_commits = refl;
      piece_now = refl;
      piece_points = refl;
      empty_last_replies = refl;
      empty_last_commits = refl;
      empty_last_now = refl;
      longer_replies = refl;
      longer_commits = refl;
      longer_now = refl;
      serial_replies = refl;
      refused_replies = refl;
      refused_now = refl;
      second_replies = refl;
      second_commits = refl;
      second_now = refl;
      first_replies = refl;
      first_commits = refl;
      first_now = refl;
      none_now = refl;
      none_next = refl;
      before_now = refl;
      before_next = refl;
    }
