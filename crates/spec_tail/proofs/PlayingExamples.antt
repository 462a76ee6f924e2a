-- Plays of small tails.
use Rattle.std.proofs.Common.{◌≡◌, [], ◌∷◌, true, false, Some, None, refl}
use Rattle.std.specs.Prelude.{length}
use Rattle.dl_entry.specs.declared.Actor.{Actor}
use Rattle.dl_entry.specs.declared.End.{End}
use Rattle.dl_entry.specs.declared.Why.{Why}
use Rattle.spec_isa.specs.declared.thread.ThreadStatus.{ThreadStatus}
use Rattle.spec_log.specs.declared.ModeName.{ModeName}
use Rattle.spec_log.specs.declared.Sizes.{Sizes}
use Rattle.spec_tail.specs.Reading.{memory_of}
use Rattle.spec_tail.specs.Tails.{Tail}
use Rattle.spec_play.specs.declared.WalkEnd.{WalkEnd}
use Rattle.spec_isa.specs.Instruction.{serial_of, loads_of, next_of, load_of, store_of, one}
use Rattle.spec_isa.specs.Words.{lay, read, merged}
use Rattle.spec_kernel.specs.Answers.{answer}
use Rattle.spec_kernel.specs.Calls.{called}
use Rattle.spec_kernel.specs.Copies.{bytes_put}
use Rattle.spec_kernel.specs.Needs.{next_kind, next_operation, need}
use Rattle.spec_kernel.specs.Records.{fits}
use Rattle.spec_kernel.specs.Serving.{serve, console_written}
use Rattle.spec_play.specs.Plays.{play_one}
use Rattle.spec_play.specs.Transfers.{dma_verdict}
use Rattle.spec_play.specs.Turns.{has_left_over, now_at}
use Rattle.spec_play.specs.Verdicts.{chunk_verdict, serial_verdict}
use Rattle.spec_tail.specs.Playing.{walked}

-- two threads after 4 commits, each with a call left that ends it
abbrev goes_on : Tail
goes_on =
    record {
      base = 4;
      threads = record { pc = 24; x = 0 ∷ 0 ∷ 0 ∷ 0 ∷ 0 ∷ 9 ∷ 0 ∷ 0 ∷ 0 ∷ 0 ∷ 1 ∷ 0 ∷ 0 ∷ 0 ∷ 0 ∷ 0 ∷ 0 ∷ 0 ∷ 0 ∷ 0 ∷ 0 ∷ 0 ∷ 0 ∷ 0 ∷ 0 ∷ 0 ∷ 0 ∷ 0 ∷ 0 ∷ 0 ∷ 0 ∷ 0 ∷ []; reservation = None; handler = 0; mask = false; saved_pc = 0; saved_a0 = 0; saved_a1 = 0; status = ThreadStatus.Live; commits = 3 } ∷ record { pc = 44; x = 0 ∷ 0 ∷ 0 ∷ 0 ∷ 0 ∷ 0 ∷ 9 ∷ 0 ∷ 0 ∷ 0 ∷ 0 ∷ 0 ∷ 0 ∷ 0 ∷ 0 ∷ 0 ∷ 0 ∷ 0 ∷ 0 ∷ 0 ∷ 0 ∷ 0 ∷ 0 ∷ 0 ∷ 0 ∷ 0 ∷ 0 ∷ 0 ∷ 0 ∷ 0 ∷ 0 ∷ 0 ∷ []; reservation = None; handler = 0; mask = false; saved_pc = 0; saved_a0 = 0; saved_a1 = 0; status = ThreadStatus.Live; commits = 1 } ∷ [];
      memory = memory_of 4096 (record { number = 0; bytes = 147 ∷ 8 ∷ 16 ∷ 0 ∷ 19 ∷ 5 ∷ 0 ∷ 2 ∷ 19 ∷ 6 ∷ 0 ∷ 0 ∷ 115 ∷ 0 ∷ 0 ∷ 0 ∷ 131 ∷ 34 ∷ 0 ∷ 16 ∷ 147 ∷ 8 ∷ 0 ∷ 0 ∷ 115 ∷ 0 ∷ 0 ∷ 0 ∷ 19 ∷ 0 ∷ 0 ∷ 0 ∷ [] } ∷ record { number = 1; bytes = 19 ∷ 3 ∷ 144 ∷ 0 ∷ 35 ∷ 32 ∷ 96 ∷ 16 ∷ 147 ∷ 8 ∷ 0 ∷ 0 ∷ 115 ∷ 0 ∷ 0 ∷ 0 ∷ 0 ∷ 0 ∷ 0 ∷ 0 ∷ 0 ∷ 0 ∷ 0 ∷ 0 ∷ 0 ∷ 0 ∷ 0 ∷ 0 ∷ 0 ∷ 0 ∷ 0 ∷ 0 ∷ [] } ∷ record { number = 8; bytes = 9 ∷ 0 ∷ 0 ∷ 0 ∷ 0 ∷ 0 ∷ 0 ∷ 0 ∷ 0 ∷ 0 ∷ 0 ∷ 0 ∷ 0 ∷ 0 ∷ 0 ∷ 0 ∷ 0 ∷ 0 ∷ 0 ∷ 0 ∷ 0 ∷ 0 ∷ 0 ∷ 0 ∷ 0 ∷ 0 ∷ 0 ∷ 0 ∷ 0 ∷ 0 ∷ 0 ∷ 0 ∷ [] } ∷ []);
      request = None;
      last = Some 0;
      log = record { version = 2; threads = 63; mode = ModeName.OrderSize; s = 100; count = 2; order = Actor.Thread 0 ∷ Actor.Thread 1 ∷ []; sizes = Sizes.Each (0 ∷ 0 ∷ []); interrupts = []; inputs = []; dmas = [] };
    }

-- no commit, and an interrupt that was raised after the base
abbrev raised_at_end : Tail
raised_at_end =
    record {
      base = 2;
      threads = record { pc = 12; x = 0 ∷ 0 ∷ 0 ∷ 0 ∷ 0 ∷ 0 ∷ 0 ∷ 0 ∷ 0 ∷ 0 ∷ 0 ∷ 0 ∷ 0 ∷ 0 ∷ 0 ∷ 0 ∷ 0 ∷ 6 ∷ 0 ∷ 0 ∷ 0 ∷ 0 ∷ 0 ∷ 0 ∷ 0 ∷ 0 ∷ 0 ∷ 0 ∷ 0 ∷ 0 ∷ 0 ∷ 0 ∷ []; reservation = None; handler = 20; mask = false; saved_pc = 0; saved_a0 = 0; saved_a1 = 0; status = ThreadStatus.Live; commits = 2 } ∷ [];
      memory = memory_of 4096 (record { number = 0; bytes = 147 ∷ 8 ∷ 96 ∷ 0 ∷ 19 ∷ 5 ∷ 64 ∷ 1 ∷ 115 ∷ 0 ∷ 0 ∷ 0 ∷ 111 ∷ 0 ∷ 0 ∷ 0 ∷ 19 ∷ 0 ∷ 0 ∷ 0 ∷ 111 ∷ 0 ∷ 0 ∷ 0 ∷ 0 ∷ 0 ∷ 0 ∷ 0 ∷ 0 ∷ 0 ∷ 0 ∷ 0 ∷ [] } ∷ []);
      request = None;
      last = Some 0;
      log = record { version = 2; threads = 63; mode = ModeName.OrderSize; s = 100; count = 0; order = []; sizes = Sizes.Each ([]); interrupts = record { thread = 0; index = 2; value = 5 } ∷ []; inputs = []; dmas = [] };
    }

-- an interrupt at the base, of a thread that is handling one
abbrev misfit : Tail
misfit =
    record {
      base = 6;
      threads = record { pc = 48; x = 0 ∷ 0 ∷ 0 ∷ 0 ∷ 0 ∷ 0 ∷ 0 ∷ 0 ∷ 0 ∷ 0 ∷ 7 ∷ 0 ∷ 0 ∷ 0 ∷ 0 ∷ 0 ∷ 0 ∷ 1 ∷ 0 ∷ 0 ∷ 0 ∷ 0 ∷ 0 ∷ 0 ∷ 0 ∷ 0 ∷ 0 ∷ 0 ∷ 0 ∷ 0 ∷ 0 ∷ 0 ∷ []; reservation = None; handler = 48; mask = true; saved_pc = 24; saved_a0 = 1; saved_a1 = 0; status = ThreadStatus.Live; commits = 4 } ∷ record { pc = 40; x = 0 ∷ 0 ∷ 0 ∷ 0 ∷ 0 ∷ 0 ∷ 0 ∷ 0 ∷ 0 ∷ 0 ∷ 0 ∷ 0 ∷ 0 ∷ 0 ∷ 0 ∷ 0 ∷ 0 ∷ 0 ∷ 0 ∷ 0 ∷ 0 ∷ 0 ∷ 0 ∷ 0 ∷ 0 ∷ 0 ∷ 0 ∷ 0 ∷ 0 ∷ 0 ∷ 0 ∷ 0 ∷ []; reservation = None; handler = 0; mask = false; saved_pc = 0; saved_a0 = 0; saved_a1 = 0; status = ThreadStatus.Live; commits = 2 } ∷ [];
      memory = memory_of 4096 (record { number = 0; bytes = 147 ∷ 8 ∷ 96 ∷ 0 ∷ 19 ∷ 5 ∷ 0 ∷ 3 ∷ 115 ∷ 0 ∷ 0 ∷ 0 ∷ 147 ∷ 8 ∷ 16 ∷ 0 ∷ 19 ∷ 5 ∷ 128 ∷ 2 ∷ 115 ∷ 0 ∷ 0 ∷ 0 ∷ 111 ∷ 0 ∷ 0 ∷ 0 ∷ 19 ∷ 0 ∷ 0 ∷ 0 ∷ [] } ∷ record { number = 1; bytes = 19 ∷ 0 ∷ 0 ∷ 0 ∷ 19 ∷ 0 ∷ 0 ∷ 0 ∷ 111 ∷ 0 ∷ 0 ∷ 0 ∷ 19 ∷ 0 ∷ 0 ∷ 0 ∷ 111 ∷ 0 ∷ 0 ∷ 0 ∷ 0 ∷ 0 ∷ 0 ∷ 0 ∷ 0 ∷ 0 ∷ 0 ∷ 0 ∷ 0 ∷ 0 ∷ 0 ∷ 0 ∷ [] } ∷ []);
      request = None;
      last = Some 1;
      log = record { version = 2; threads = 63; mode = ModeName.OrderOnly; s = 16; count = 2; order = Actor.Thread 0 ∷ Actor.Thread 1 ∷ []; sizes = Sizes.Short (record { thread = 0; index = 4; size = 1 } ∷ record { thread = 1; index = 2; size = 1 } ∷ []); interrupts = record { thread = 0; index = 4; value = 9 } ∷ []; inputs = []; dmas = [] };
    }

-- a size of a commit before the base
abbrev early_size : Tail
early_size =
    record {
      base = 6;
      threads = record { pc = 48; x = 0 ∷ 0 ∷ 0 ∷ 0 ∷ 0 ∷ 0 ∷ 0 ∷ 0 ∷ 0 ∷ 0 ∷ 7 ∷ 0 ∷ 0 ∷ 0 ∷ 0 ∷ 0 ∷ 0 ∷ 1 ∷ 0 ∷ 0 ∷ 0 ∷ 0 ∷ 0 ∷ 0 ∷ 0 ∷ 0 ∷ 0 ∷ 0 ∷ 0 ∷ 0 ∷ 0 ∷ 0 ∷ []; reservation = None; handler = 48; mask = true; saved_pc = 24; saved_a0 = 1; saved_a1 = 0; status = ThreadStatus.Live; commits = 4 } ∷ record { pc = 40; x = 0 ∷ 0 ∷ 0 ∷ 0 ∷ 0 ∷ 0 ∷ 0 ∷ 0 ∷ 0 ∷ 0 ∷ 0 ∷ 0 ∷ 0 ∷ 0 ∷ 0 ∷ 0 ∷ 0 ∷ 0 ∷ 0 ∷ 0 ∷ 0 ∷ 0 ∷ 0 ∷ 0 ∷ 0 ∷ 0 ∷ 0 ∷ 0 ∷ 0 ∷ 0 ∷ 0 ∷ 0 ∷ []; reservation = None; handler = 0; mask = false; saved_pc = 0; saved_a0 = 0; saved_a1 = 0; status = ThreadStatus.Live; commits = 2 } ∷ [];
      memory = memory_of 4096 (record { number = 0; bytes = 147 ∷ 8 ∷ 96 ∷ 0 ∷ 19 ∷ 5 ∷ 0 ∷ 3 ∷ 115 ∷ 0 ∷ 0 ∷ 0 ∷ 147 ∷ 8 ∷ 16 ∷ 0 ∷ 19 ∷ 5 ∷ 128 ∷ 2 ∷ 115 ∷ 0 ∷ 0 ∷ 0 ∷ 111 ∷ 0 ∷ 0 ∷ 0 ∷ 19 ∷ 0 ∷ 0 ∷ 0 ∷ [] } ∷ record { number = 1; bytes = 19 ∷ 0 ∷ 0 ∷ 0 ∷ 19 ∷ 0 ∷ 0 ∷ 0 ∷ 111 ∷ 0 ∷ 0 ∷ 0 ∷ 19 ∷ 0 ∷ 0 ∷ 0 ∷ 111 ∷ 0 ∷ 0 ∷ 0 ∷ 0 ∷ 0 ∷ 0 ∷ 0 ∷ 0 ∷ 0 ∷ 0 ∷ 0 ∷ 0 ∷ 0 ∷ 0 ∷ 0 ∷ [] } ∷ []);
      request = None;
      last = Some 1;
      log = record { version = 2; threads = 63; mode = ModeName.OrderOnly; s = 16; count = 2; order = Actor.Thread 0 ∷ Actor.Thread 1 ∷ []; sizes = Sizes.Short (record { thread = 0; index = 3; size = 1 } ∷ record { thread = 0; index = 4; size = 1 } ∷ record { thread = 1; index = 2; size = 1 } ∷ []); interrupts = []; inputs = []; dmas = [] };
    }

-- a size over 0 for the second of them, a serial step
abbrev chunk_sized : Tail
chunk_sized = record goes_on { log = record { version = 2; threads = 63; mode = ModeName.OrderSize; s = 100; count = 2; order = Actor.Thread 0 ∷ Actor.Thread 1 ∷ []; sizes = Sizes.Each (0 ∷ 1 ∷ []); interrupts = []; inputs = []; dmas = [] } }

-- an interrupt of a commit before the base
abbrev early_interrupt : Tail
early_interrupt = record goes_on { log = record { version = 2; threads = 63; mode = ModeName.OrderSize; s = 100; count = 2; order = Actor.Thread 0 ∷ Actor.Thread 1 ∷ []; sizes = Sizes.Each (0 ∷ 0 ∷ []); interrupts = record { thread = 0; index = 2; value = 5 } ∷ []; inputs = []; dmas = [] } }

-- a DMA before the base, which none takes
abbrev early_dma : Tail
early_dma = record goes_on { log = record { version = 2; threads = 63; mode = ModeName.OrderSize; s = 100; count = 2; order = Actor.Thread 0 ∷ Actor.Thread 1 ∷ []; sizes = Sizes.Each (0 ∷ 0 ∷ []); interrupts = []; inputs = []; dmas = record { position = 3; bytes = [] } ∷ [] } }

-- a DMA before the base, and one from there on
abbrev early_dma_next : Tail
early_dma_next = record goes_on { log = record { version = 2; threads = 63; mode = ModeName.OrderSize; s = 100; count = 2; order = Actor.Dma ∷ Actor.Thread 1 ∷ []; sizes = Sizes.Each (0 ∷ 0 ∷ []); interrupts = []; inputs = []; dmas = record { position = 3; bytes = [] } ∷ record { position = 4; bytes = [] } ∷ [] } }

-- without an order, from the thread that committed last
abbrev in_turn : Tail
in_turn = record goes_on { log = record { version = 2; threads = 63; mode = ModeName.Picolog; s = 100; count = 2; order = []; sizes = Sizes.Short ([]); interrupts = []; inputs = []; dmas = [] } }

pub record ArePlayed : Type 0 where
  pub goes_on_end : (walked goes_on).end ≡ WalkEnd.Ended (End.Complete 6)
  pub goes_on_commits : length (walked goes_on).commits ≡ 2
  pub goes_on_threads : (walked goes_on).threads ≡ record { pc = 28; x = 0 ∷ 0 ∷ 0 ∷ 0 ∷ 0 ∷ 9 ∷ 0 ∷ 0 ∷ 0 ∷ 0 ∷ 1 ∷ 0 ∷ 0 ∷ 0 ∷ 0 ∷ 0 ∷ 0 ∷ 0 ∷ 0 ∷ 0 ∷ 0 ∷ 0 ∷ 0 ∷ 0 ∷ 0 ∷ 0 ∷ 0 ∷ 0 ∷ 0 ∷ 0 ∷ 0 ∷ 0 ∷ []; reservation = None; handler = 0; mask = false; saved_pc = 0; saved_a0 = 0; saved_a1 = 0; status = ThreadStatus.Ended 1; commits = 4 } ∷ record { pc = 48; x = 0 ∷ 0 ∷ 0 ∷ 0 ∷ 0 ∷ 0 ∷ 9 ∷ 0 ∷ 0 ∷ 0 ∷ 0 ∷ 0 ∷ 0 ∷ 0 ∷ 0 ∷ 0 ∷ 0 ∷ 0 ∷ 0 ∷ 0 ∷ 0 ∷ 0 ∷ 0 ∷ 0 ∷ 0 ∷ 0 ∷ 0 ∷ 0 ∷ 0 ∷ 0 ∷ 0 ∷ 0 ∷ []; reservation = None; handler = 0; mask = false; saved_pc = 0; saved_a0 = 0; saved_a1 = 0; status = ThreadStatus.Ended 0; commits = 2 } ∷ []
  pub raised_at_end_end : (walked raised_at_end).end ≡ WalkEnd.Ended (End.Complete 2)
  pub raised_at_end_commits : length (walked raised_at_end).commits ≡ 0
  pub raised_at_end_threads : (walked raised_at_end).threads ≡ record { pc = 20; x = 0 ∷ 0 ∷ 0 ∷ 0 ∷ 0 ∷ 0 ∷ 0 ∷ 0 ∷ 0 ∷ 0 ∷ 5 ∷ 0 ∷ 0 ∷ 0 ∷ 0 ∷ 0 ∷ 0 ∷ 6 ∷ 0 ∷ 0 ∷ 0 ∷ 0 ∷ 0 ∷ 0 ∷ 0 ∷ 0 ∷ 0 ∷ 0 ∷ 0 ∷ 0 ∷ 0 ∷ 0 ∷ []; reservation = None; handler = 20; mask = true; saved_pc = 12; saved_a0 = 0; saved_a1 = 0; status = ThreadStatus.Live; commits = 2 } ∷ []
  pub misfit_end : (walked misfit).end ≡ WalkEnd.Ended (End.Diverged 6 Why.Interrupt)
  pub misfit_commits : length (walked misfit).commits ≡ 0
  pub misfit_threads : (walked misfit).threads ≡ record { pc = 48; x = 0 ∷ 0 ∷ 0 ∷ 0 ∷ 0 ∷ 0 ∷ 0 ∷ 0 ∷ 0 ∷ 0 ∷ 7 ∷ 0 ∷ 0 ∷ 0 ∷ 0 ∷ 0 ∷ 0 ∷ 1 ∷ 0 ∷ 0 ∷ 0 ∷ 0 ∷ 0 ∷ 0 ∷ 0 ∷ 0 ∷ 0 ∷ 0 ∷ 0 ∷ 0 ∷ 0 ∷ 0 ∷ []; reservation = None; handler = 48; mask = true; saved_pc = 24; saved_a0 = 1; saved_a1 = 0; status = ThreadStatus.Live; commits = 4 } ∷ record { pc = 40; x = 0 ∷ 0 ∷ 0 ∷ 0 ∷ 0 ∷ 0 ∷ 0 ∷ 0 ∷ 0 ∷ 0 ∷ 0 ∷ 0 ∷ 0 ∷ 0 ∷ 0 ∷ 0 ∷ 0 ∷ 0 ∷ 0 ∷ 0 ∷ 0 ∷ 0 ∷ 0 ∷ 0 ∷ 0 ∷ 0 ∷ 0 ∷ 0 ∷ 0 ∷ 0 ∷ 0 ∷ 0 ∷ []; reservation = None; handler = 0; mask = false; saved_pc = 0; saved_a0 = 0; saved_a1 = 0; status = ThreadStatus.Live; commits = 2 } ∷ []
  pub early_size_end : (walked early_size).end ≡ WalkEnd.Ended (End.Diverged 8 Why.LeftOver)
  pub early_size_commits : length (walked early_size).commits ≡ 2
  pub early_size_threads : (walked early_size).threads ≡ record { pc = 48; x = 0 ∷ 0 ∷ 0 ∷ 0 ∷ 0 ∷ 0 ∷ 0 ∷ 0 ∷ 0 ∷ 0 ∷ 7 ∷ 0 ∷ 0 ∷ 0 ∷ 0 ∷ 0 ∷ 0 ∷ 1 ∷ 0 ∷ 0 ∷ 0 ∷ 0 ∷ 0 ∷ 0 ∷ 0 ∷ 0 ∷ 0 ∷ 0 ∷ 0 ∷ 0 ∷ 0 ∷ 0 ∷ []; reservation = None; handler = 48; mask = true; saved_pc = 24; saved_a0 = 1; saved_a1 = 0; status = ThreadStatus.Live; commits = 5 } ∷ record { pc = 40; x = 0 ∷ 0 ∷ 0 ∷ 0 ∷ 0 ∷ 0 ∷ 0 ∷ 0 ∷ 0 ∷ 0 ∷ 0 ∷ 0 ∷ 0 ∷ 0 ∷ 0 ∷ 0 ∷ 0 ∷ 0 ∷ 0 ∷ 0 ∷ 0 ∷ 0 ∷ 0 ∷ 0 ∷ 0 ∷ 0 ∷ 0 ∷ 0 ∷ 0 ∷ 0 ∷ 0 ∷ 0 ∷ []; reservation = None; handler = 0; mask = false; saved_pc = 0; saved_a0 = 0; saved_a1 = 0; status = ThreadStatus.Live; commits = 3 } ∷ []
  pub chunk_sized_end : (walked chunk_sized).end ≡ WalkEnd.Ended (End.Diverged 5 (Why.SizeOfSerial 1))
  pub early_interrupt_end : (walked early_interrupt).end ≡ WalkEnd.Ended (End.Diverged 6 Why.LeftOver)
  pub early_dma_end : (walked early_dma).end ≡ WalkEnd.Ended (End.Diverged 6 Why.LeftOver)
  pub early_dma_next_end : (walked early_dma_next).end ≡ WalkEnd.Ended (End.Diverged 4 Why.Dma)
  pub in_turn_end : (walked in_turn).end ≡ WalkEnd.Ended (End.Complete 6)

-- the plays of these tails complete or diverge as listed, with the listed commits and threads
pub tails_play : ArePlayed
unfolding serial_of loads_of next_of load_of store_of one lay read merged answer called bytes_put next_kind next_operation need fits serve console_written play_one dma_verdict has_left_over now_at chunk_verdict serial_verdict
tails_play =
    record {
      goes_on_end = refl;
      goes_on_commits = refl;
      goes_on_threads = refl;
      raised_at_end_end = refl;
      raised_at_end_commits = refl;
      raised_at_end_threads = refl;
      misfit_end = refl;
      misfit_commits = refl;
      misfit_threads = refl;
      early_size_end = refl;
      early_size_commits = refl;
      early_size_threads = refl;
      chunk_sized_end = refl;
      early_interrupt_end = refl;
      early_dma_end = refl;
      early_dma_next_end = refl;
      in_turn_end = refl;
    }
