-- Plays of small logs: one that fits, and one for each reason to diverge.
use Rattle.std.proofs.Common.{◌≡◌, ℕ, List, [], ◌∷◌, length, refl}
use Rattle.dl_entry.specs.declared.Actor.{Actor}
use Rattle.dl_entry.specs.declared.End.{End}
use Rattle.dl_entry.specs.declared.Why.{Why}
use Rattle.spec_log.specs.declared.ModeName.{ModeName}
use Rattle.spec_log.specs.declared.Sizes.{Sizes}
use Rattle.spec_log.specs.declared.LogParts.{LogParts}
use Rattle.spec_play.specs.declared.walk_end.WalkEnd.{WalkEnd}
use Rattle.spec_play.specs.Turns.{Ended}
use Rattle.spec_play.specs.Plays.{play}
use Rattle.spec_play.specs.Walks.{walked}
use Rattle.spec_isa.specs.Instruction.{serial_of, loads_of, next_of, load_of, store_of, one}
use Rattle.spec_isa.specs.Words.{lay, read, merged}
use Rattle.spec_kernel.specs.Answers.{answer}
use Rattle.spec_kernel.specs.Calls.{called}
use Rattle.spec_kernel.specs.Copies.{bytes_put}
use Rattle.spec_kernel.specs.Devices.{random_bytes, random_after}
use Rattle.spec_kernel.specs.Needs.{next_kind, next_operation, need}
use Rattle.spec_kernel.specs.Records.{fits}
use Rattle.spec_kernel.specs.Serving.{serve, console_written}
use Rattle.spec_play.specs.Plays.{play_one}
use Rattle.spec_play.specs.Transfers.{dma_verdict}
use Rattle.spec_play.specs.Turns.{has_left_over, now_at}
use Rattle.spec_play.specs.Verdicts.{chunk_verdict, serial_verdict}
use Rattle.spec_play.proofs.Programs.{exits_code, clock_code}

-- a log of its own image
abbrev complete_log : LogParts
complete_log =
    record { version = 1; threads = 15; mode = ModeName.OrderSize; s = 100; count = 2; order = Actor.Thread 0 ∷ Actor.Thread 0 ∷ []; sizes = Sizes.Each (2 ∷ 0 ∷ []); interrupts = []; inputs = []; dmas = [] }

-- without an order
abbrev complete_in_turn_log : LogParts
complete_in_turn_log =
    record { version = 1; threads = 15; mode = ModeName.Picolog; s = 100; count = 2; order = []; sizes = Sizes.Short []; interrupts = []; inputs = []; dmas = [] }

-- a thread that is not there
abbrev no_thread_log : LogParts
no_thread_log =
    record { version = 1; threads = 15; mode = ModeName.OrderSize; s = 100; count = 2; order = Actor.Thread 5 ∷ Actor.Thread 0 ∷ []; sizes = Sizes.Each (2 ∷ 0 ∷ []); interrupts = []; inputs = []; dmas = [] }

-- a longer chunk
abbrev short_log : LogParts
short_log =
    record { version = 1; threads = 15; mode = ModeName.OrderSize; s = 100; count = 2; order = Actor.Thread 0 ∷ Actor.Thread 0 ∷ []; sizes = Sizes.Each (3 ∷ 0 ∷ []); interrupts = []; inputs = []; dmas = [] }

-- a serial step where a chunk comes
abbrev not_serial_log : LogParts
not_serial_log =
    record { version = 1; threads = 15; mode = ModeName.OrderSize; s = 100; count = 2; order = Actor.Thread 0 ∷ Actor.Thread 0 ∷ []; sizes = Sizes.Each (0 ∷ 0 ∷ []); interrupts = []; inputs = []; dmas = [] }

-- no record for the clock
abbrev no_input_log : LogParts
no_input_log =
    record { version = 1; threads = 15; mode = ModeName.OrderSize; s = 100; count = 2; order = Actor.Thread 0 ∷ Actor.Thread 0 ∷ []; sizes = Sizes.Each (1 ∷ 0 ∷ []); interrupts = []; inputs = []; dmas = [] }

-- a record of another kind
abbrev other_input_log : LogParts
other_input_log =
    record { version = 1; threads = 15; mode = ModeName.OrderSize; s = 100; count = 2; order = Actor.Thread 0 ∷ Actor.Thread 0 ∷ []; sizes = Sizes.Each (1 ∷ 0 ∷ []); interrupts = []; inputs = record { kind = 4; result = 7; bytes = [] } ∷ []; dmas = [] }

-- the clock's record
abbrev clocked_log : LogParts
clocked_log =
    record { version = 1; threads = 15; mode = ModeName.OrderSize; s = 100; count = 2; order = Actor.Thread 0 ∷ Actor.Thread 0 ∷ []; sizes = Sizes.Each (1 ∷ 0 ∷ []); interrupts = []; inputs = record { kind = 5; result = 7; bytes = [] } ∷ []; dmas = [] }

-- an interrupt for a thread without a handler
abbrev no_handler_log : LogParts
no_handler_log =
    record { version = 1; threads = 15; mode = ModeName.OrderSize; s = 100; count = 2; order = Actor.Thread 0 ∷ Actor.Thread 0 ∷ []; sizes = Sizes.Each (2 ∷ 0 ∷ []); interrupts = record { thread = 0; index = 1; value = 5 } ∷ []; inputs = []; dmas = [] }

-- a DMA that nobody asked for
abbrev no_request_log : LogParts
no_request_log =
    record { version = 1; threads = 15; mode = ModeName.OrderSize; s = 100; count = 1; order = Actor.Dma ∷ []; sizes = Sizes.Each (0 ∷ []); interrupts = []; inputs = []; dmas = record { position = 0; bytes = [] } ∷ [] }

-- a size for a serial step
abbrev size_of_serial_log : LogParts
size_of_serial_log =
    record { version = 1; threads = 15; mode = ModeName.OrderSize; s = 100; count = 2; order = Actor.Thread 0 ∷ Actor.Thread 0 ∷ []; sizes = Sizes.Each (2 ∷ 1 ∷ []); interrupts = []; inputs = []; dmas = [] }

-- a size for a DMA, which comes before all that is wrong with it
abbrev size_of_dma_log : LogParts
size_of_dma_log =
    record { version = 1; threads = 15; mode = ModeName.OrderSize; s = 100; count = 1; order = Actor.Dma ∷ []; sizes = Sizes.Each (3 ∷ []); interrupts = []; inputs = []; dmas = [] }

-- a record that nothing takes
abbrev left_over_log : LogParts
left_over_log =
    record { version = 1; threads = 15; mode = ModeName.OrderSize; s = 100; count = 2; order = Actor.Thread 0 ∷ Actor.Thread 0 ∷ []; sizes = Sizes.Each (2 ∷ 0 ∷ []); interrupts = []; inputs = record { kind = 5; result = 0; bytes = [] } ∷ []; dmas = [] }

-- a size of a commit that never comes
abbrev size_left_over_log : LogParts
size_left_over_log =
    record { version = 1; threads = 15; mode = ModeName.OrderOnly; s = 100; count = 2; order = Actor.Thread 0 ∷ Actor.Thread 0 ∷ []; sizes = Sizes.Short (record { thread = 0; index = 2; size = 1 } ∷ []); interrupts = []; inputs = []; dmas = [] }

-- no commit
abbrev ended_at_once_log : LogParts
ended_at_once_log =
    record { version = 1; threads = 15; mode = ModeName.OrderSize; s = 100; count = 0; order = []; sizes = Sizes.Each []; interrupts = []; inputs = []; dmas = [] }

-- a thread that has ended
abbrev goes_on_log : LogParts
goes_on_log =
    record { version = 1; threads = 15; mode = ModeName.OrderSize; s = 100; count = 3; order = Actor.Thread 0 ∷ Actor.Thread 0 ∷ Actor.Thread 0 ∷ []; sizes = Sizes.Each (2 ∷ 0 ∷ 0 ∷ []); interrupts = []; inputs = []; dmas = [] }

-- with no live thread
abbrev none_live_log : LogParts
none_live_log =
    record { version = 1; threads = 15; mode = ModeName.Picolog; s = 100; count = 3; order = []; sizes = Sizes.Short []; interrupts = []; inputs = []; dmas = [] }

pub record ArePlayed : Type 0 where
  pub complete : (play complete_log exits_code 0).now ≡ Ended (End.Complete 2)
  pub complete_in_turn : (play complete_in_turn_log exits_code 0).now ≡ Ended (End.Complete 2)
  pub no_thread : (play no_thread_log exits_code 0).now ≡ Ended (End.Diverged 0 Why.NoThread)
  pub short : (play short_log exits_code 0).now ≡ Ended (End.Diverged 0 (Why.Short 3 2))
  pub not_serial : (play not_serial_log exits_code 0).now ≡ Ended (End.Diverged 0 Why.NotSerial)
  pub no_input : (play no_input_log clock_code 0).now ≡ Ended (End.Diverged 1 Why.Input)
  pub other_input : (play other_input_log clock_code 0).now ≡ Ended (End.Diverged 1 Why.Input)
  pub clocked : (play clocked_log clock_code 0).now ≡ Ended (End.Complete 2)
  pub no_handler : (play no_handler_log exits_code 0).now ≡ Ended (End.Diverged 0 Why.Interrupt)
  pub no_request : (play no_request_log exits_code 0).now ≡ Ended (End.Diverged 0 Why.Dma)
  pub size_of_serial : (play size_of_serial_log exits_code 0).now ≡ Ended (End.Diverged 1 (Why.SizeOfSerial 1))
  pub size_of_dma : (play size_of_dma_log exits_code 0).now ≡ Ended (End.Diverged 0 (Why.SizeOfSerial 3))
  pub left_over : (play left_over_log exits_code 0).now ≡ Ended (End.Diverged 2 Why.LeftOver)
  pub size_left_over : (play size_left_over_log exits_code 0).now ≡ Ended (End.Diverged 2 Why.LeftOver)
  pub ended_at_once : (play ended_at_once_log exits_code 0).now ≡ Ended (End.Complete 0)
  pub goes_on : (play goes_on_log exits_code 0).now ≡ Ended (End.Diverged 2 Why.NoThread)
  pub none_live : (play none_live_log exits_code 0).now ≡ Ended (End.Diverged 2 Why.NoThread)

-- each of these plays is complete, or diverges for the reason that its log was made for
pub plays_end : ArePlayed
unfolding serial_of loads_of next_of load_of store_of one lay read merged answer called bytes_put random_bytes random_after next_kind next_operation need fits serve console_written play_one dma_verdict has_left_over now_at chunk_verdict serial_verdict
plays_end =
    record {
      complete = refl;
      complete_in_turn = refl;
      no_thread = refl;
      short = refl;
      not_serial = refl;
      no_input = refl;
      other_input = refl;
      clocked = refl;
      no_handler = refl;
      no_request = refl;
      size_of_serial = refl;
      size_of_dma = refl;
      left_over = refl;
      size_left_over = refl;
      ended_at_once = refl;
      goes_on = refl;
      none_live = refl;
    }

-- ---- walks

abbrev how_walked : LogParts → (memory : List ℕ) → (to : ℕ) → WalkEnd
how_walked log memory to = (walked log memory 0 to).end

pub record AreWalked : Type 0 where
  pub not_begun : how_walked complete_log exits_code 0 ≡ WalkEnd.Reached 0
  pub one : how_walked complete_log exits_code 1 ≡ WalkEnd.Reached 1
  pub one_commit : length (walked complete_log exits_code 0 1).commits ≡ 1
  -- at the count the end is looked at, and beyond it the end is the same
  pub all : how_walked complete_log exits_code 2 ≡ WalkEnd.Ended (End.Complete 2)
  pub more : how_walked complete_log exits_code 5 ≡ WalkEnd.Ended (End.Complete 2)
  pub none : how_walked ended_at_once_log exits_code 0 ≡ WalkEnd.Ended (End.Complete 0)
  pub left_over : how_walked left_over_log exits_code 2 ≡ WalkEnd.Ended (End.Diverged 2 Why.LeftOver)
  -- that a thread isn't live is looked at only below the number
  pub before_no_thread : how_walked goes_on_log exits_code 2 ≡ WalkEnd.Reached 2
  pub at_no_thread : how_walked goes_on_log exits_code 3 ≡ WalkEnd.Ended (End.Diverged 2 Why.NoThread)
  pub before_short : how_walked short_log exits_code 0 ≡ WalkEnd.Reached 0
  pub at_short : how_walked short_log exits_code 1 ≡ WalkEnd.Ended (End.Diverged 0 (Why.Short 3 2))

-- each of these walks reaches its number, or ends as the play does if that ends by then
pub walks_end : AreWalked
unfolding serial_of loads_of next_of load_of store_of one lay read merged answer called bytes_put random_bytes random_after next_kind next_operation need fits serve console_written play_one dma_verdict has_left_over now_at chunk_verdict serial_verdict
walks_end =
    record {
      not_begun = refl;
      one = refl;
      one_commit = refl;
      all = refl;
      more = refl;
      none = refl;
      left_over = refl;
      before_no_thread = refl;
      at_no_thread = refl;
      before_short = refl;
      at_short = refl;
    }
