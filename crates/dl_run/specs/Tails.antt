-- The tail that is made of what a sphere keeps of a recording in epochs.
use Rattle.std.specs.Prelude.{ℕ, ◌^◌, ◌<◌, All}
use Rattle.spec_isa.specs.declared.thread.Parts.{Parts}
use Rattle.spec_log.specs.declared.LogParts.{LogParts}
use Rattle.spec_play.specs.States.{State}
use Rattle.spec_run.specs.Promise.{IsCode}
use Rattle.spec_tail.specs.Tails.{Tail, words_of}

-- of the state after so many commits, and of the log from there on
abbrev pub tail_in : (base : ℕ) → State → LogParts → Tail
tail_in base s log =
    record { base = base; threads = s.threads; memory = s.memory; request = s.request; last = s.last; log = log }

-- the numbers of a thread are words of 32 bits
pub record AreWords (p : Parts) : Type 0 where
  pub words : All (λ word. word < 2 ^ 32) (words_of p)
  pub code : IsCode p.status
