-- What is true of every thread, and how the first one starts.
use Rattle.std.specs.Prelude.{◌≡◌, ℕ, ◌%◌, false, length, slice_index, replicate, None}
use Rattle.spec_isa.specs.declared.thread.Parts.{Parts}
use Rattle.spec_isa.specs.declared.thread.ThreadStatus.{ThreadStatus}

-- its pc, its saved pc and its handler are multiples of 4, and register 0 is 0
pub record IsThread (t : Parts) : Type 0 where
  pub pc : t.pc % 4 ≡ 0
  pub saved_pc : t.saved_pc % 4 ≡ 0
  pub handler : t.handler % 4 ≡ 0
  pub zero : slice_index t.x 0 ≡ 0
  pub registers : length t.x ≡ 32

-- a new thread at an entry: its registers are 0 and it has no handler
abbrev pub started : (entry : ℕ) → Parts
started entry =
    record {
      pc = entry;
      x = replicate 32 0;
      reservation = None;
      handler = 0;
      mask = false;
      saved_pc = 0;
      saved_a0 = 0;
      saved_a1 = 0;
      status = ThreadStatus.Live;
      commits = 0;
    }
