-- What is left of small replays, and which events finish them.
use Rattle.std.proofs.Common.{◌≡◌, ℕ, List, [], ◌∷◌, Some, None, refl}
use Rattle.dl_entry.specs.declared.Actor.{Actor}
use Rattle.spec_log.specs.declared.ModeName.{ModeName}
use Rattle.spec_log.specs.declared.Sizes.{Sizes}
use Rattle.spec_log.specs.declared.LogParts.{LogParts}
use Rattle.spec_protocol.specs.declared.event.Event.{Event}
use Rattle.spec_isa.specs.Instruction.{serial_of, loads_of, next_of, load_of, store_of, one}
use Rattle.spec_isa.specs.Words.{lay, read, merged}
use Rattle.spec_kernel.specs.Answers.{answer}
use Rattle.spec_kernel.specs.Calls.{called}
use Rattle.spec_kernel.specs.Copies.{bytes_put}
use Rattle.spec_kernel.specs.Devices.{random_bytes, random_after}
use Rattle.spec_kernel.specs.Needs.{next_kind, next_operation, need}
use Rattle.spec_kernel.specs.Records.{fits}
use Rattle.spec_kernel.specs.Serving.{serve, console_written}
use Rattle.spec_play.specs.Plays.{play_one}
use Rattle.spec_play.specs.Transfers.{dma_verdict}
use Rattle.spec_play.specs.Turns.{has_left_over, now_at}
use Rattle.spec_play.specs.Verdicts.{chunk_verdict, serial_verdict}
use Rattle.spec_strata.specs.declared.stratum.Stratum.TheVariants.{Chunks, Serial}
use Rattle.spec_strata.specs.declared.strata.StrataParts.{StrataParts}
use Rattle.spec_strata.specs.Shares.{share_more}
use Rattle.spec_engine.specs.Choices.{on_option, choose}
use Rattle.spec_engine.specs.Chunks.{at_limit, reading, storing, loading, running, step}
use Rattle.spec_engine.specs.Flights.{first_slot, free_slot}
use Rattle.spec_engine.specs.Signatures.{meets}
use Rattle.spec_protocol.specs.machine.Asking.{grant_chunk, grant_serial, asking}
use Rattle.spec_sphere.specs.sphere.Commits.{chunk_moved, serial_moved, dma_moved, raised}
use Rattle.spec_protocol.specs.machine.Finishing.{next, Finishes}
use Rattle.spec_protocol.specs.machine.Flying.{draining, delivering, retiring}
use Rattle.spec_sphere.specs.sphere.Setups.{ReplaySetup, all_of, in_strata, IsReplayed}
use Rattle.spec_protocol.specs.machine.Machine.{Setup, world_of, act, happens, world_after}
use Rattle.spec_protocol.specs.machine.Placing.{placing, raising}
use Rattle.spec_sphere.specs.sphere.Spheres.{head_of, turn_against, limit_of}
use Rattle.spec_protocol.specs.machine.Stepping.{stepping, cutting}
use Rattle.spec_protocol.specs.machine.Transferring.{transfer, transferring}
use Rattle.spec_play.proofs.Programs.{image}
use Rattle.spec_finishing.specs.Work.{commit_work, plays_work}
use Rattle.spec_finishing.specs.Rank.{replay_left, price, under_way, rank}

-- ---- scenes

-- two instructions, and then the call that ends the thread
abbrev exits : List ℕ
exits = 0x00000893 ∷ 0x00700513 ∷ 0x00000073 ∷ []

-- a store, a load that reserves, a store on its condition, and then the call that ends the thread
abbrev reserves : List ℕ
reserves = 0x10400293 ∷ 0x10502023 ∷ 0x1002A32F ∷ 0x1852A3AF ∷ 0x00000893 ∷ 0x00000073 ∷ []

-- one core replays what it is asked for, with chunks of 100, a buffer of one word, a window of 2 and signatures of 64
abbrev replay_of : List ℕ → ReplaySetup → Setup
replay_of code asked =
    record {
      cores = 1;
      window = 2;
      numbers = record { s = 100; capacity = 1; bits = 64; depth = 1 };
      seed = 0;
      input = [];
      spheres = record { memory = image 512 code; entry = 0; role = IsReplayed asked } ∷ [];
    }

-- a whole log
abbrev replay : List ℕ → LogParts → Setup
replay code log = replay_of code (all_of log)

-- its second commit alone
abbrev second : List ℕ → LogParts → Setup
second code log = replay_of code (record { log = log; interval = Some (record { first = 1; last = 2 }); strata = None })

-- in order-only, without sizes, of thread 0
abbrev unsized : (count : ℕ) → List Actor → LogParts
unsized count order =
    record { version = 1; threads = 15; mode = ModeName.OrderOnly; s = 100; count = count; order = order; sizes = Sizes.Short []; interrupts = []; inputs = []; dmas = [] }

abbrev empty_log : LogParts
empty_log = unsized 0 []

abbrev two_log : LogParts
two_log = unsized 2 (Actor.Thread 0 ∷ Actor.Thread 0 ∷ [])

-- the same two commits in strata: a chunk, and a serial step
abbrev two_strata : StrataParts
two_strata =
    record {
      counted = 1;
      threads = 15;
      s = 100;
      strata = Chunks (1 ∷ []) ∷ Serial 0 ∷ [];
      sizes = [];
      interrupts = [];
      inputs = [];
      dmas = [];
    }

abbrev runs : List ℕ → StrataParts → Setup
runs code v = replay_of code (in_strata v)

-- both instructions, the call that closes the chunk, its commit, the call again, and its commit
abbrev exits_events : List Event
exits_events =
    Event.Step 0 ∷ Event.Step 0 ∷ Event.Step 0 ∷ Event.Ask 0 ∷ Event.Step 0 ∷ Event.Ask 0 ∷ []

-- up to the chunk's commit
abbrev first_events : List Event
first_events = Event.Step 0 ∷ Event.Step 0 ∷ Event.Step 0 ∷ Event.Ask 0 ∷ []

-- ---- rows

pub record AreFinished : Type 0 where
  -- of a log without commits nothing is left
  pub empty_next : next (world_of (replay exits empty_log)) ≡ None
  pub empty_rank : rank (replay exits empty_log) (world_of (replay exits empty_log)) ≡ 0
  -- two instructions and two commits
  pub exits_work : plays_work (replay exits two_log).spheres ≡ 4
  pub exits_finish : Finishes (world_of (replay exits two_log)) exits_events
  -- seven for each, less one for the thread that is on a core
  pub exits_rank : rank (replay exits two_log) (world_of (replay exits two_log)) ≡ 27
  -- of the second commit alone, which is the call, only that is left
  pub second_work : plays_work (second exits two_log).spheres ≡ 1
  pub second_finish : Finishes (world_of (second exits two_log)) (Event.Step 0 ∷ Event.Ask 0 ∷ [])
  pub second_rank : rank (second exits two_log) (world_of (second exits two_log)) ≡ 6
  -- in strata the same events finish, and as much is left at first and after the chunk
  pub strata_work : plays_work (runs exits two_strata).spheres ≡ 4
  pub strata_finish : Finishes (world_of (runs exits two_strata)) exits_events
  pub strata_rank : rank (runs exits two_strata) (world_of (runs exits two_strata)) ≡ 27
  pub chunk_rank : rank (replay exits two_log) (world_after (world_of (replay exits two_log)) first_events) ≡ 6
  pub strata_later : rank (runs exits two_strata) (world_after (world_of (runs exits two_strata)) first_events) ≡ 6
  -- five instructions and two commits
  pub reserves_work : plays_work (replay reserves two_log).spheres ≡ 7

-- replays of short programs have this work and this rank, and finish with these events
pub replays_finish : AreFinished
unfolding share_more serial_of loads_of next_of load_of store_of one lay read merged answer called bytes_put random_bytes random_after next_kind next_operation need fits serve console_written play_one dma_verdict has_left_over now_at chunk_verdict serial_verdict on_option choose at_limit reading storing loading running step first_slot free_slot meets grant_chunk grant_serial asking chunk_moved serial_moved dma_moved raised next draining delivering retiring act happens placing raising head_of turn_against limit_of stepping cutting transfer transferring commit_work replay_left price under_way
replays_finish =
    record {
      empty_next = refl;
      empty_rank = refl;
      exits_work = refl;
      exits_finish = (refl, (refl, (refl, (refl, (refl, (refl, refl))))));
      exits_rank = refl;
      second_work = refl;
      second_finish = (refl, (refl, refl));
      second_rank = refl;
      strata_work = refl;
      strata_finish = (refl, (refl, (refl, (refl, (refl, (refl, refl))))));
      strata_rank = refl;
      chunk_rank = refl;
      strata_later = refl;
      reserves_work = refl;
    }
