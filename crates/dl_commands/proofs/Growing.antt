-- Whatever the answer, the sink took the first bytes of one text.
use Rattle.std.proofs.Common.{◌≡◌, ℕ, Bool, true, true≢false, if◌then◌else◌, List, length, Option, inl, inr, refl, sym, ◌∙◌, subst, ap, arith}
use Rattle.spec_program.specs.declared.status.Status.{Status}
use Rattle.spec_program.specs.Ends.{Took, TookAll, is_done}
use Rattle.spec_program.specs.declared.status.Refusal.{Refusal}
use Rattle.spec_program.specs.Lines.{fault_line, usage_line}
use Rattle.spec_program.specs.Outside.{Outside}
use Rattle.spec_program.specs.Writes.{Write}
use Rattle.spec_program.specs.Outcomes.{Outcome}
use Rattle.dl_files.specs.Contents.{Contents}
use Rattle.dl_files.specs.Seen.{Seen}
use Rattle.dl_gather.specs.declared.halt.Halt.{Halt}
use Rattle.dl_gather.specs.Forms.{IsLineOf}
use Rattle.dl_gather.specs.Halts.{Halts}
use Rattle.dl_gather.specs.Names.{IsNamed}
use Rattle.dl_commands.specs.Ended.{Said, Stopped}
use Rattle.dl_commands.specs.Performed.{IsPerformed}
use Rattle.dl_commands.proofs.Finishing.{AreOwn, cut_own, took_none}

took_all : (text : List ℕ) (old new : Option (List ℕ)) → TookAll text old new → Took text old new
took_all text old new h = (length text, omega arith, h)

took_said : (diverged : Bool) (text : List ℕ) (old new : Option (List ℕ)) (from to : ℕ) (s : Status) → Said diverged text old new from to s → Took text old new
took_said diverged text old new from to Status.Done h = took_all text old new h.1
took_said diverged text old new from to Status.Diverged h = took_all text old new h.1
took_said diverged text old new from to Status.Sink h = h.0
took_said diverged text old new from to Status.Memory h = h.0
took_said diverged text old new from to Status.Usage h = absurd h
took_said diverged text old new from to Status.Plan h = absurd h
took_said diverged text old new from to Status.Image h = absurd h
took_said diverged text old new from to Status.Grammar h = absurd h
took_said diverged text old new from to Status.Fault h = absurd h
took_said diverged text old new from to Status.Source h = absurd h
took_said diverged text old new from to Status.Absent h = absurd h

-- of what may be said at the end of a command: its text, or the line on a fault of its own
pub performed_took : (Says : List ℕ → Type 0) (diverged : Bool) (writes : List Write) (text : List ℕ) (old new : Outside) (s : Status)
    → Says text → AreOwn (λ name. Says (fault_line name)) writes → IsPerformed diverged writes text old new s → (said : List ℕ) × Says said × Took said old.taken new.taken
performed_took Says diverged writes text old new s says own (inl w) = (text, says, took_said diverged text old.taken new.taken old.sink_faults new.sink_faults s w.said)
performed_took Says diverged writes text old new s says own (inr (inl (name, cut))) =
    (fault_line name, cut_own (λ n. Says (fault_line n)) writes name old new s own cut, cut.said.1)
performed_took Says diverged writes text old new s says own (inr (inr u)) = (text, says, took_none text old.taken new.taken u.output)

-- where a command halts, the sink took the first bytes of its line, or none
pub stopped_took : (Says : List ℕ → Type 0) (task : Contents → Outcome) (reads : Contents → List (List ℕ)) (seen now : Seen) (h : Halt) (old new : Option (List ℕ)) (from to : ℕ) (s : Status)
    → ((why : Refusal) (line : List ℕ) → IsLineOf why line → Says line) → ((name : List ℕ) → IsNamed seen.known reads name → Says (fault_line name))
    → Halts task reads seen now h → Stopped h old new from to s → (said : List ℕ) × Says said × Took said old new
stopped_took Says task reads seen now (Halt.Refused why text) old new from to s refused fault halts line = (text.items, refused why text.items halts.form, line.1)
stopped_took Says task reads seen now (Halt.Fault text) old new from to s refused fault halts line =
    (text.items, subst Says (sym halts.1) (fault halts.0 halts.2.named), line.1)
stopped_took Says task reads seen now Halt.OutOfMemory old new from to s refused fault halts stopped =
    (usage_line, refused Refusal.Usage usage_line refl, took_none usage_line old new stopped.1)

-- ---- what was said whole

abbrev IsWhole : (diverged : Bool) → (text : List ℕ) → (old new : Option (List ℕ)) → Status → Type 0
IsWhole diverged text old new s = (s ≡ (if diverged then Status.Diverged else Status.Done)) × TookAll text old new

whole_said : (diverged : Bool) (text : List ℕ) (old new : Option (List ℕ)) (from to : ℕ) (s : Status) → Said diverged text old new from to s → is_done s ≡ true → IsWhole diverged text old new s
whole_said diverged text old new from to Status.Done h done = (ap (λ (b : Bool). if b then Status.Diverged else Status.Done) (sym h.0), h.1)
whole_said diverged text old new from to Status.Diverged h done = (ap (λ (b : Bool). if b then Status.Diverged else Status.Done) (sym h.0), h.1)
whole_said diverged text old new from to Status.Sink h done = absurd (true≢false (sym done))
whole_said diverged text old new from to Status.Memory h done = absurd (true≢false (sym done))
whole_said diverged text old new from to Status.Usage h done = absurd h
whole_said diverged text old new from to Status.Plan h done = absurd h
whole_said diverged text old new from to Status.Image h done = absurd h
whole_said diverged text old new from to Status.Grammar h done = absurd h
whole_said diverged text old new from to Status.Fault h done = absurd h
whole_said diverged text old new from to Status.Source h done = absurd h
whole_said diverged text old new from to Status.Absent h done = absurd h

-- a command that is done has said its whole text
pub performed_done : (diverged : Bool) (writes : List Write) (text : List ℕ) (old new : Outside) (s : Status) → IsPerformed diverged writes text old new s → is_done s ≡ true
    → IsWhole diverged text old.taken new.taken s
performed_done diverged writes text old new s (inl w) done = whole_said diverged text old.taken new.taken old.sink_faults new.sink_faults s w.said done
performed_done diverged writes text old new s (inr (inl (name, cut))) done = elim cut.said.0 [
  | inl due ↦ absurd (true≢false (sym done ∙ ap is_done due.0))
  | inr memory ↦ absurd (true≢false (sym done ∙ ap is_done memory.0))
]
performed_done diverged writes text old new s (inr (inr u)) done = absurd (true≢false (sym done ∙ ap is_done u.status))
