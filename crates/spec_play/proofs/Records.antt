-- Plays of small logs with records of DMAs and interrupts: what is asked of them, and which reason comes first.
use Rattle.std.proofs.Common.{◌≡◌, ℕ, List, [], ◌∷◌, length, map, refl}
use Rattle.dl_entry.specs.declared.Actor.{Actor}
use Rattle.dl_entry.specs.declared.End.{End}
use Rattle.dl_entry.specs.declared.Why.{Why}
use Rattle.spec_log.specs.declared.ModeName.{ModeName}
use Rattle.spec_log.specs.declared.Interrupt.{Interrupt}
use Rattle.spec_log.specs.declared.DmaRecord.{DmaRecord}
use Rattle.spec_log.specs.declared.Sizes.{Sizes}
use Rattle.spec_log.specs.declared.LogParts.{LogParts}
use Rattle.spec_play.specs.Turns.{Ended}
use Rattle.spec_play.specs.Plays.{play}
use Rattle.spec_isa.specs.Instruction.{serial_of, loads_of, next_of, load_of, store_of, one}
use Rattle.spec_isa.specs.Words.{lay, read, merged}
use Rattle.spec_kernel.specs.Answers.{answer}
use Rattle.spec_kernel.specs.Calls.{called}
use Rattle.spec_kernel.specs.Copies.{bytes_put}
use Rattle.spec_kernel.specs.Devices.{random_bytes, random_after}
use Rattle.spec_kernel.specs.Needs.{next_kind, next_operation, need}
use Rattle.spec_kernel.specs.Records.{fits}
use Rattle.spec_kernel.specs.Serving.{serve, console_written}
use Rattle.spec_play.specs.Plays.{play_one}
use Rattle.spec_play.specs.Transfers.{dma_verdict}
use Rattle.spec_play.specs.Turns.{has_left_over, now_at}
use Rattle.spec_play.specs.Verdicts.{chunk_verdict, serial_verdict}
use Rattle.spec_play.proofs.Programs.{exits_code, clock_code, dma_code, handler_code, handler_exits_code}

-- ---- logs

abbrev of_dmas : (count : ℕ) → List Actor → List ℕ → List DmaRecord → LogParts
of_dmas count order sizes dmas =
    record { version = 1; threads = 15; mode = ModeName.OrderSize; s = 100; count = count; order = order; sizes = Sizes.Each sizes; interrupts = []; inputs = []; dmas = dmas }

-- the call and then its DMA
abbrev of_dma : List DmaRecord → LogParts
of_dma dmas = of_dmas 3 (Actor.Thread 0 ∷ Actor.Thread 0 ∷ Actor.Dma ∷ []) (3 ∷ 0 ∷ 0 ∷ []) dmas

-- and another
abbrev of_two_dmas : List DmaRecord → LogParts
of_two_dmas dmas =
    of_dmas 4 (Actor.Thread 0 ∷ Actor.Thread 0 ∷ Actor.Dma ∷ Actor.Dma ∷ []) (3 ∷ 0 ∷ 0 ∷ 0 ∷ []) dmas

-- without an order
abbrev of_dma_in_turn : List DmaRecord → LogParts
of_dma_in_turn dmas =
    record { version = 1; threads = 15; mode = ModeName.Picolog; s = 100; count = 3; order = []; sizes = Sizes.Short []; interrupts = []; inputs = []; dmas = dmas }

-- two commits of a thread
abbrev of_two : List ℕ → List Interrupt → LogParts
of_two sizes interrupts =
    record { version = 1; threads = 15; mode = ModeName.OrderSize; s = 100; count = 2; order = Actor.Thread 0 ∷ Actor.Thread 0 ∷ []; sizes = Sizes.Each sizes; interrupts = interrupts; inputs = []; dmas = [] }

-- as many commits of a thread as there are sizes
abbrev of_sizes : List ℕ → List Interrupt → LogParts
of_sizes sizes interrupts =
    record { version = 1; threads = 15; mode = ModeName.OrderSize; s = 100; count = length sizes; order = map (λ (n : ℕ). Actor.Thread 0) sizes; sizes = Sizes.Each sizes; interrupts = interrupts; inputs = []; dmas = [] }

abbrev data_at : (position : ℕ) → List ℕ → DmaRecord
data_at position bytes = record { position = position; bytes = bytes }

abbrev interrupt_after : (commits : ℕ) → Interrupt
interrupt_after n = record { thread = 0; index = n; value = 5 }

-- ---- rows

pub record AreRead : Type 0 where
  -- a DMA's record is of its index, and no longer than the request
  pub dma_fits : (play (of_dma (data_at 2 (65 ∷ 66 ∷ []) ∷ [])) dma_code 0).now ≡ Ended (End.Complete 3)
  pub dma_full : (play (of_dma (data_at 2 (65 ∷ 66 ∷ 67 ∷ 68 ∷ []) ∷ [])) dma_code 0).now ≡ Ended (End.Complete 3)
  pub dma_too_long : (play (of_dma (data_at 2 (65 ∷ 66 ∷ 67 ∷ 68 ∷ 69 ∷ []) ∷ [])) dma_code 0).now ≡ Ended (End.Diverged 2 Why.Dma)
  pub dma_of_another_index : (play (of_dma (data_at 1 (65 ∷ 66 ∷ []) ∷ [])) dma_code 0).now ≡ Ended (End.Diverged 2 Why.Dma)
  pub dma_missing : (play (of_dma []) dma_code 0).now ≡ Ended (End.Diverged 2 Why.Dma)
  pub dma_without_request : (play (of_two_dmas (data_at 2 (65 ∷ 66 ∷ []) ∷ data_at 3 (65 ∷ 66 ∷ []) ∷ [])) dma_code 0).now ≡ Ended (End.Diverged 3 Why.Dma)
  pub dma_unused : (play (of_dmas 2 (Actor.Thread 0 ∷ Actor.Thread 0 ∷ []) (2 ∷ 0 ∷ []) (data_at 1 (65 ∷ []) ∷ [])) exits_code 0).now ≡ Ended (End.Diverged 2 Why.LeftOver)
  pub dma_in_turn : (play (of_dma_in_turn (data_at 2 (65 ∷ 66 ∷ []) ∷ [])) dma_code 0).now ≡ Ended (End.Complete 3)
  -- an interrupt comes after as many commits of its thread as it says
  pub interrupt_taken : (play (of_two (2 ∷ 0 ∷ []) (interrupt_after 2 ∷ [])) handler_code 0).now ≡ Ended (End.Complete 2)
  pub interrupt_early : (play (of_two (2 ∷ 0 ∷ []) (interrupt_after 1 ∷ [])) handler_code 0).now ≡ Ended (End.Diverged 0 Why.Interrupt)
  pub interrupt_late : (play (of_two (2 ∷ 0 ∷ []) (interrupt_after 3 ∷ [])) handler_code 0).now ≡ Ended (End.Diverged 2 Why.LeftOver)
  -- a thread with a handler takes no interrupt while it handles one, and none once it has ended
  pub interrupt_masked : (play (of_sizes (2 ∷ 0 ∷ 1 ∷ []) (interrupt_after 2 ∷ interrupt_after 3 ∷ [])) handler_code 0).now ≡ Ended (End.Diverged 2 Why.Interrupt)
  pub not_masked : (play (of_sizes (2 ∷ 0 ∷ 1 ∷ []) (interrupt_after 3 ∷ [])) handler_code 0).now ≡ Ended (End.Complete 3)
  pub interrupt_ended : (play (of_sizes (2 ∷ 0 ∷ 1 ∷ 0 ∷ []) (interrupt_after 4 ∷ [])) handler_exits_code 0).now ≡ Ended (End.Diverged 3 Why.Interrupt)
  pub not_ended : (play (of_sizes (2 ∷ 0 ∷ 1 ∷ []) (interrupt_after 3 ∷ [])) handler_exits_code 0).now ≡ Ended (End.Complete 3)
  -- a wrong size comes before a missing record, and a wrong interrupt last
  pub size_before_input : (play (of_two (1 ∷ 1 ∷ []) []) clock_code 0).now ≡ Ended (End.Diverged 1 (Why.SizeOfSerial 1))
  pub input_before_interrupt : (play (of_two (1 ∷ 0 ∷ []) (interrupt_after 2 ∷ [])) clock_code 0).now ≡ Ended (End.Diverged 1 Why.Input)
  pub short_before_interrupt : (play (of_two (3 ∷ 0 ∷ []) (interrupt_after 1 ∷ [])) exits_code 0).now ≡ Ended (End.Diverged 0 (Why.Short 3 2))
  pub not_serial_before_interrupt : (play (of_two (0 ∷ 0 ∷ []) (interrupt_after 1 ∷ [])) exits_code 0).now ≡ Ended (End.Diverged 0 Why.NotSerial)

-- each of these plays takes its DMAs, interrupts and inputs, or diverges at the first wrong one
pub records_are_read : AreRead
unfolding serial_of loads_of next_of load_of store_of one lay read merged answer called bytes_put random_bytes random_after next_kind next_operation need fits serve console_written play_one dma_verdict has_left_over now_at chunk_verdict serial_verdict
records_are_read =
    record {
      dma_fits = refl;
      dma_full = refl;
      dma_too_long = refl;
      dma_of_another_index = refl;
      dma_missing = refl;
      dma_without_request = refl;
      dma_unused = refl;
      dma_in_turn = refl;
      interrupt_taken = refl;
      interrupt_early = refl;
      interrupt_late = refl;
      interrupt_masked = refl;
      not_masked = refl;
      interrupt_ended = refl;
      not_ended = refl;
      size_before_input = refl;
      input_before_interrupt = refl;
      short_before_interrupt = refl;
      not_serial_before_interrupt = refl;
    }
