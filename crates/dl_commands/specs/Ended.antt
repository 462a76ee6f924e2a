-- How a command's text, or the line that says why it stops, is said: by the status that is then answered. The sink took
-- `old` before and has `new`, and its count of faults went from one number to the other.
use Rattle.std.specs.Prelude.{◌≡◌, ◌⊎◌, ℕ, Bool, true, false, List, Option}
use Rattle.dl_files.specs.Count.{Rose}
use Rattle.spec_program.specs.declared.status.Status.{Status}
use Rattle.spec_program.specs.Statuses.{status_of}
use Rattle.spec_program.specs.Ends.{Took, TookAll}
use Rattle.spec_program.specs.declared.status.Refusal.{Refusal}
use Rattle.dl_gather.specs.declared.halt.Halt.{Halt}
use Rattle.dl_gather.specs.Forms.{IsLineOf}

-- the text of a command that is done, whose replays diverged or not
abbrev pub Said : (diverged : Bool) → (text : List ℕ) → (old new : Option (List ℕ)) → (from to : ℕ) → Status → Type 0
Said diverged text old new from to Status.Done = (diverged ≡ false) × TookAll text old new × (to ≡ from)
Said diverged text old new from to Status.Diverged = (diverged ≡ true) × TookAll text old new × (to ≡ from)
Said diverged text old new from to Status.Sink = Took text old new × Rose from to
Said diverged text old new from to Status.Memory = Took text old new × (to ≡ from)
Said diverged text old new from to Status.Usage = ⊥
Said diverged text old new from to Status.Plan = ⊥
Said diverged text old new from to Status.Image = ⊥
Said diverged text old new from to Status.Grammar = ⊥
Said diverged text old new from to Status.Fault = ⊥
Said diverged text old new from to Status.Source = ⊥
Said diverged text old new from to Status.Absent = ⊥

-- it is said, whole where the sink's count did not rise
abbrev pub IsDue : (text : List ℕ) → (old new : Option (List ℕ)) → (from to : ℕ) → Type 0
IsDue text old new from to = (Rose from to → ⊥) → TookAll text old new

-- the first bytes of it are said, all where the sink's count did not rise
abbrev pub IsLineSaid : (line : List ℕ) → (old new : Option (List ℕ)) → (from to : ℕ) → Type 0
IsLineSaid line old new from to = Took line old new × IsDue line old new from to

-- the line of a refusal or a fault, whose status is the first one: it changes only if memory runs out
abbrev pub SaidLine : Status → (text : List ℕ) → (old new : Option (List ℕ)) → (from to : ℕ) → Status → Type 0
SaidLine due text old new from to s =
    ((s ≡ due) × IsDue text old new from to ⊎ (s ≡ Status.Memory) × (to ≡ from)) × Took text old new

-- the line of a halt
abbrev pub Stopped : Halt → (old new : Option (List ℕ)) → (from to : ℕ) → Status → Type 0
Stopped (Halt.Refused why text) old new from to s = SaidLine (status_of why) text.items old new from to s
Stopped (Halt.Fault text) old new from to s = SaidLine Status.Fault text.items old new from to s
Stopped Halt.OutOfMemory old new from to s = (s ≡ Status.Memory) × (new ≡ old) × (to ≡ from)

-- the line of a refusal of this status is said, in the form of its kind, whole where the sink's count did not rise
abbrev pub IsRefusalSaid : Status → (old new : Option (List ℕ)) → (from to : ℕ) → Type 0
IsRefusalSaid s old new from to =
    (why : Refusal) × (line : List ℕ) × (s ≡ status_of why) × IsLineOf why line × IsLineSaid line old new from to
