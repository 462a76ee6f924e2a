-- What a log says of the next commit of a thread: that it goes as logged, or why it doesn't.
use Rattle.std.specs.Prelude.{ℕ, ◌&&◌, nat_eq, nat_lt, List, option_map, find, slice_get, Option, Some, None, if◌then◌else◌}
use Rattle.dl_entry.specs.declared.Actor.{Actor}
use Rattle.dl_entry.specs.declared.Input.{Input}
use Rattle.dl_entry.specs.declared.Why.{Why}
use Rattle.spec_isa.specs.declared.thread.Parts.{Parts}
use Rattle.spec_isa.specs.Runs.{Run}
use Rattle.spec_log.specs.declared.Interrupt.{Interrupt}
use Rattle.spec_log.specs.declared.LogParts.{LogParts}
use Rattle.spec_log.specs.Size.{size_in}
use Rattle.spec_kernel.specs.Needs.{Need, need}
use Rattle.spec_kernel.specs.Records.{fits}
use Rattle.spec_kernel.specs.Interrupts.{takes_interrupt, interrupted}
use Rattle.spec_kernel.specs.Serving.{serve}
use Rattle.spec_play.specs.Effects.{Effect, chunk_effect, serial_effect}
use Rattle.spec_play.specs.Progress.{Progress, with_interrupt, with_input}
use Rattle.spec_play.specs.declared.used.Used.{Used}

-- what the commit leaves, and how much of the log is used then; or the reason why it fails
pub data LogVerdict : Type 0 where
  Goes : (effect : Effect) (used : Used) → LogVerdict
  Fails : (why : Why) → LogVerdict

abbrev pub unless : Option Why → LogVerdict → LogVerdict
unless None verdict = verdict
unless (Some why) verdict = Fails why

-- ---- the interrupt at the end of a commit

-- the value that is logged for a thread after that many of its commits
abbrev pub interrupt_at : List Interrupt → (thread commits : ℕ) → Option ℕ
interrupt_at interrupts k commits =
    option_map (λ i. i.value) (find (λ i. nat_eq i.thread k && nat_eq i.index commits) interrupts)

-- the thread takes it, if it can
abbrev pub with_interrupted : Option ℕ → Effect → Used → LogVerdict
with_interrupted None e u = Goes e u
with_interrupted (Some value) e u =
    if takes_interrupt e.thread
    then Goes (record e { thread = interrupted value e.thread }) (with_interrupt u)
    else Fails Why.Interrupt

abbrev pub ended : LogParts → (thread : ℕ) → Effect → Used → LogVerdict
ended log k e u = with_interrupted (interrupt_at log.interrupts k e.thread.commits) e u

-- ---- a chunk

-- why a chunk of n instructions isn't the one that is logged: a serial step is logged, or a longer chunk
abbrev pub chunk_why : (size : Option ℕ) → (n : ℕ) → Option Why
chunk_why None n = None
chunk_why (Some z) n =
    if nat_eq z 0 then Some Why.NotSerial else if nat_lt n z then Some (Why.Short z n) else None

-- thread k has run a whole chunk
unfoldable pub chunk_verdict : LogParts → Progress → Used → (thread : ℕ) → Run → LogVerdict
chunk_verdict log p u k r =
    unless (chunk_why (size_in log (Actor.Thread k) r.thread.commits) r.n) (ended log k (chunk_effect k p.request r) u)

-- ---- a serial step

-- a size over 0 is a chunk's
abbrev pub serial_why : (size : Option ℕ) → Option Why
serial_why None = None
serial_why (Some z) = if nat_eq z 0 then None else Some (Why.SizeOfSerial z)

-- the record for a serial step, if it needs one, and how much of the log is used then
pub record TakenRecord : Type 0 where
  pub input : Option Input
  pub used : Used

-- the next record, if the step needs one and this one fits
abbrev pub given : Option Need → Option Input → Used → Option TakenRecord
given None next u = Some (record { input = None; used = u })
given (Some need) None u = None
given (Some need) (Some r) u = if fits need r then Some (record { input = Some r; used = with_input u }) else None

abbrev pub served_verdict : LogParts → Progress → (thread : ℕ) → List Parts → Parts → List ℕ → Option TakenRecord → LogVerdict
served_verdict log p k threads t m None = Fails Why.Input
served_verdict log p k threads t m (Some g) =
    ended log k (serial_effect k (serve log.threads k threads p.request t m g.input)) g.used

-- the next step of thread k, which is t among these threads, is serial
unfoldable pub serial_verdict : LogParts → Progress → Used → (thread : ℕ) → List Parts → Parts → List ℕ → LogVerdict
serial_verdict log p u k threads t m =
    unless (serial_why (size_in log (Actor.Thread k) t.commits))
    (served_verdict log p k threads t m (given (need t m) (slice_get log.inputs u.inputs) u))
