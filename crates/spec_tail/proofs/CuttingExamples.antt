-- Small tails and the logs that they are the last parts of.
use Rattle.std.proofs.Common.{◌≡◌, ℕ, List, [], ◌∷◌, replicate, true, false, Some, None, refl, ap, arith}
use Rattle.dl_entry.specs.declared.Actor.{Actor}
use Rattle.spec_isa.specs.declared.thread.Parts.{Parts}
use Rattle.spec_isa.specs.declared.thread.ThreadStatus.{ThreadStatus}
use Rattle.spec_log.specs.declared.LogParts.{LogParts}
use Rattle.spec_log.specs.declared.ModeName.{ModeName}
use Rattle.spec_log.specs.declared.Sizes.{Sizes}
use Rattle.spec_isa.specs.Instruction.{serial_of, loads_of, next_of, load_of, store_of, one}
use Rattle.spec_isa.specs.Words.{lay, read, merged}
use Rattle.spec_kernel.specs.Answers.{answer}
use Rattle.spec_kernel.specs.Calls.{called}
use Rattle.spec_kernel.specs.Copies.{bytes_put}
use Rattle.spec_kernel.specs.Needs.{next_kind, next_operation, need}
use Rattle.spec_kernel.specs.Records.{fits}
use Rattle.spec_kernel.specs.Serving.{serve, console_written}
use Rattle.spec_play.specs.Plays.{play_one, FitsImage}
use Rattle.spec_play.specs.Transfers.{dma_verdict}
use Rattle.spec_play.specs.Turns.{has_left_over, now_at}
use Rattle.spec_play.specs.Verdicts.{chunk_verdict, serial_verdict}
use Rattle.spec_tail.specs.Cutting.{IsTailOf}
use Rattle.spec_tail.specs.declared.draft.Row.{Row}
use Rattle.spec_tail.specs.Reading.{memory_of}
use Rattle.spec_tail.specs.Tails.{Tail}

-- a call that sets a handler, and a jump to itself; the handler too is a jump to itself
abbrev handled : List ℕ
handled =
    memory_of 4096 (record { number = 0; bytes = 147 ∷ 8 ∷ 96 ∷ 0 ∷ 19 ∷ 5 ∷ 64 ∷ 1 ∷ 115 ∷ 0 ∷ 0 ∷ 0 ∷ 111 ∷ 0 ∷ 0 ∷ 0 ∷ 19 ∷ 0 ∷ 0 ∷ 0 ∷ 111 ∷ 0 ∷ 0 ∷ 0 ∷ 0 ∷ 0 ∷ 0 ∷ 0 ∷ 0 ∷ 0 ∷ 0 ∷ 0 ∷ [] } ∷ [])

-- the call, an interrupt, and a jump, which is a short chunk
abbrev handled_log : LogParts
handled_log =
    record {
      version = 2;
      threads = 63;
      mode = ModeName.OrderOnly;
      s = 100;
      count = 3;
      order = Actor.Thread 0 ∷ Actor.Thread 0 ∷ Actor.Thread 0 ∷ [];
      sizes = Sizes.Short (record { thread = 0; index = 0; size = 2 } ∷ record { thread = 0; index = 2; size = 1 } ∷ []);
      interrupts = record { thread = 0; index = 2; value = 5 } ∷ [];
      inputs = [];
      dmas = [];
    }

-- the thread after the call
abbrev called_thread : Parts
called_thread =
    record { pc = 12; x = 0 ∷ 0 ∷ 0 ∷ 0 ∷ 0 ∷ 0 ∷ 0 ∷ 0 ∷ 0 ∷ 0 ∷ 0 ∷ 0 ∷ 0 ∷ 0 ∷ 0 ∷ 0 ∷ 0 ∷ 6 ∷ 0 ∷ 0 ∷ 0 ∷ 0 ∷ 0 ∷ 0 ∷ 0 ∷ 0 ∷ 0 ∷ 0 ∷ 0 ∷ 0 ∷ 0 ∷ 0 ∷ []; reservation = None; handler = 20; mask = false; saved_pc = 0; saved_a0 = 0; saved_a1 = 0; status = ThreadStatus.Live; commits = 2 }

-- in its handler
abbrev raised_thread : Parts
raised_thread =
    record { pc = 20; x = 0 ∷ 0 ∷ 0 ∷ 0 ∷ 0 ∷ 0 ∷ 0 ∷ 0 ∷ 0 ∷ 0 ∷ 5 ∷ 0 ∷ 0 ∷ 0 ∷ 0 ∷ 0 ∷ 0 ∷ 6 ∷ 0 ∷ 0 ∷ 0 ∷ 0 ∷ 0 ∷ 0 ∷ 0 ∷ 0 ∷ 0 ∷ 0 ∷ 0 ∷ 0 ∷ 0 ∷ 0 ∷ []; reservation = None; handler = 20; mask = true; saved_pc = 12; saved_a0 = 0; saved_a1 = 0; status = ThreadStatus.Live; commits = 2 }

abbrev last_jump : LogParts
last_jump =
    record handled_log {
      count = 1;
      order = Actor.Thread 0 ∷ [];
      sizes = Sizes.Short (record { thread = 0; index = 2; size = 1 } ∷ []);
      interrupts = [];
    }

-- the interrupt came before the base
abbrev raised_before : Tail
raised_before =
    record { base = 2; threads = raised_thread ∷ []; memory = handled; request = None; last = Some 0; log = last_jump }

-- the interrupt came after it
abbrev raised_since : Tail
raised_since =
    record {
      base = 2;
      threads = called_thread ∷ [];
      memory = handled;
      request = None;
      last = Some 0;
      log = record last_jump { interrupts = record { thread = 0; index = 2; value = 5 } ∷ [] };
    }

-- both in the state and in the log
abbrev raised_twice : Tail
raised_twice = record raised_before { log = raised_since.log }

-- and in neither
abbrev raised_never : Tail
raised_never = record raised_since { log = last_jump }

-- the code of a thread that spawns another, loads a word and ends, and of the other, which stores one; the memory has these rows after it
abbrev spawning_with : List Row → List ℕ
spawning_with rows =
    memory_of 4096
    (record { number = 0; bytes = 147 ∷ 8 ∷ 16 ∷ 0 ∷ 19 ∷ 5 ∷ 0 ∷ 2 ∷ 19 ∷ 6 ∷ 0 ∷ 0 ∷ 115 ∷ 0 ∷ 0 ∷ 0 ∷ 131 ∷ 34 ∷ 0 ∷ 16 ∷ 147 ∷ 8 ∷ 0 ∷ 0 ∷ 115 ∷ 0 ∷ 0 ∷ 0 ∷ 19 ∷ 0 ∷ 0 ∷ 0 ∷ [] } ∷ record { number = 1; bytes = 19 ∷ 3 ∷ 144 ∷ 0 ∷ 35 ∷ 32 ∷ 96 ∷ 16 ∷ 147 ∷ 8 ∷ 0 ∷ 0 ∷ 115 ∷ 0 ∷ 0 ∷ 0 ∷ 0 ∷ 0 ∷ 0 ∷ 0 ∷ 0 ∷ 0 ∷ 0 ∷ 0 ∷ 0 ∷ 0 ∷ 0 ∷ 0 ∷ 0 ∷ 0 ∷ 0 ∷ 0 ∷ [] } ∷ rows)

abbrev spawning : List ℕ
spawning =
    spawning_with []

abbrev spawning_log : LogParts
spawning_log =
    record {
      version = 2;
      threads = 63;
      mode = ModeName.OrderSize;
      s = 100;
      count = 6;
      order = Actor.Thread 0 ∷ Actor.Thread 0 ∷ Actor.Thread 1 ∷ Actor.Thread 0 ∷ Actor.Thread 0 ∷ Actor.Thread 1 ∷ [];
      sizes = Sizes.Each (3 ∷ 0 ∷ 3 ∷ 2 ∷ 0 ∷ 0 ∷ []);
      interrupts = [];
      inputs = [];
      dmas = [];
    }

-- after 4 commits, each of both threads has a call left that ends it
abbrev both_end : Tail
both_end =
    record {
      base = 4;
      threads = record { pc = 24; x = 0 ∷ 0 ∷ 0 ∷ 0 ∷ 0 ∷ 9 ∷ 0 ∷ 0 ∷ 0 ∷ 0 ∷ 1 ∷ 0 ∷ 0 ∷ 0 ∷ 0 ∷ 0 ∷ 0 ∷ 0 ∷ 0 ∷ 0 ∷ 0 ∷ 0 ∷ 0 ∷ 0 ∷ 0 ∷ 0 ∷ 0 ∷ 0 ∷ 0 ∷ 0 ∷ 0 ∷ 0 ∷ []; reservation = None; handler = 0; mask = false; saved_pc = 0; saved_a0 = 0; saved_a1 = 0; status = ThreadStatus.Live; commits = 3 } ∷ record { pc = 44; x = 0 ∷ 0 ∷ 0 ∷ 0 ∷ 0 ∷ 0 ∷ 9 ∷ 0 ∷ 0 ∷ 0 ∷ 0 ∷ 0 ∷ 0 ∷ 0 ∷ 0 ∷ 0 ∷ 0 ∷ 0 ∷ 0 ∷ 0 ∷ 0 ∷ 0 ∷ 0 ∷ 0 ∷ 0 ∷ 0 ∷ 0 ∷ 0 ∷ 0 ∷ 0 ∷ 0 ∷ 0 ∷ []; reservation = None; handler = 0; mask = false; saved_pc = 0; saved_a0 = 0; saved_a1 = 0; status = ThreadStatus.Live; commits = 1 } ∷ [];
      memory = spawning_with (record { number = 8; bytes = 9 ∷ replicate 31 0 } ∷ []);
      request = None;
      last = Some 0;
      log = record { version = 2; threads = 63; mode = ModeName.OrderSize; s = 100; count = 2; order = Actor.Thread 0 ∷ Actor.Thread 1 ∷ []; sizes = Sizes.Each (0 ∷ 0 ∷ []); interrupts = []; inputs = []; dmas = [] };
    }

-- a number of the first thread
abbrev of_first : (Parts → ℕ) → List Parts → ℕ
of_first f [] = 0
of_first f (t ∷ ts) = f t

pub record AreCut : Type 0 where
  pub handled_fits : FitsImage handled_log handled 0
  pub raised_before_is : IsTailOf handled_log handled 0 raised_before
  pub raised_since_is : IsTailOf handled_log handled 0 raised_since
  pub raised_twice_isnt : IsTailOf handled_log handled 0 raised_twice → ⊥
  pub raised_never_isnt : IsTailOf handled_log handled 0 raised_never → ⊥
  pub spawning_fits : FitsImage spawning_log spawning 0
  pub both_end_is : IsTailOf spawning_log spawning 0 both_end

-- the two logs fit, three tails are the last parts of them, and two others aren't
pub tails_are_cut : AreCut
unfolding serial_of loads_of next_of load_of store_of one lay read merged answer called bytes_put next_kind next_operation need fits serve console_written play_one dma_verdict has_left_over now_at chunk_verdict serial_verdict
tails_are_cut =
    record {
      handled_fits = refl;
      raised_before_is = record { base = refl; memory = refl; request = refl; last = refl; rest = refl; threads = refl };
      raised_since_is = record { base = refl; memory = refl; request = refl; last = refl; rest = refl; threads = refl };
      raised_twice_isnt = λ is. let h : 12 ≡ 20 = ap (of_first (λ t. t.saved_pc)) is.threads in omega (arith, h);
      raised_never_isnt = λ is. let h : 20 ≡ 12 = ap (of_first (λ t. t.pc)) is.threads in omega (arith, h);
      spawning_fits = refl;
      both_end_is = record { base = refl; memory = refl; request = refl; last = refl; rest = refl; threads = refl };
    }
