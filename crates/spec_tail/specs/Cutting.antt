-- What makes a tail the last part of a log: the state at its base is that of the log's play there, and its own log is the
-- rest of the log.
use Rattle.std.specs.Prelude.{◌≡◌, ℕ, suc, List, [], ◌∷◌, Option, Some, None}
use Rattle.spec_isa.specs.declared.thread.Parts.{Parts}
use Rattle.spec_kernel.specs.Interrupts.{interrupted}
use Rattle.spec_log.specs.declared.Interrupt.{Interrupt}
use Rattle.spec_log.specs.declared.LogParts.{LogParts}
use Rattle.spec_play.specs.Epochs.{log_from}
use Rattle.spec_play.specs.Plays.{Played, opened, plays}
use Rattle.spec_play.specs.Progress.{position}
use Rattle.spec_play.specs.Verdicts.{interrupt_at}
use Rattle.spec_tail.specs.Tails.{Tail, state_of}

-- a thread that takes the interrupt, if one is logged
abbrev pub after_interrupt : Option ℕ → Parts → Parts
after_interrupt None p = p
after_interrupt (Some value) p = interrupted value p

-- these threads, of which the first has this number, each after the interrupt that is logged for its number of commits
abbrev pub after_interrupts : List Interrupt → (thread : ℕ) → List Parts → List Parts
after_interrupts interrupts k [] = []
after_interrupts interrupts k (p ∷ ps) =
    after_interrupt (interrupt_at interrupts k p.commits) p ∷ after_interrupts interrupts (suc k) ps

-- the log's play is at y, with the commits before the base done. It takes interrupts as soon as a commit is done, so it has
-- taken those too that the tail's log has for the base
pub record IsTailAt (log : LogParts) (y : Played) (t : Tail) : Type 0 where
  pub base : position y.progress ≡ t.base
  pub memory : y.memory ≡ t.memory
  pub threads : y.threads ≡ after_interrupts t.log.interrupts 0 t.threads
  pub request : y.progress.request ≡ t.request
  pub last : y.progress.last ≡ t.last
  pub rest : t.log ≡ log_from t.base y.used.inputs (state_of t) log

-- of a log that is played on an image
abbrev pub IsTailOf : LogParts → (memory : List ℕ) → (entry : ℕ) → Tail → Type 0
IsTailOf log memory entry t = IsTailAt log (plays log (opened log memory entry) t.base) t
