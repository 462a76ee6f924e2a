-- However a command is done or stops, what it leaves is what its status says.
use Rattle.std.proofs.Common.{◌≡◌, ◌⊎◌, ℕ, zero, suc, Bool, true, false, true≢false, if◌then◌else◌, List, [], ◌∷◌, map, Contains, slice_get, Option, Some, None, Result, Ok, Err, inl, inr, refl, sym, ◌∙◌, ap, subst, arith, append-nil}
use Rattle.std.proofs.lemmas.Option.{none-some}
use Rattle.dl_files.specs.Contents.{Contents, IsLast}
use Rattle.dl_files.specs.Seen.{Seen, IsKept, IsUnread, FailsOnce}
use Rattle.dl_words.specs.Commands.{CommandValues, Run, command_of}
use Rattle.spec_program.specs.declared.status.Status.{Status}
use Rattle.spec_program.specs.declared.status.Refusal.{Refusal}
use Rattle.spec_program.specs.Statuses.{code_of, status_of}
use Rattle.spec_program.specs.Lines.{absent_line, fault_line, usage_line}
use Rattle.spec_program.specs.Outside.{Outside, outside}
use Rattle.spec_program.specs.Writes.{Write, written}
use Rattle.spec_program.specs.Stages.{Refused, ◌>>◌}
use Rattle.spec_program.specs.Files.{PlanRead}
use Rattle.spec_program.specs.Tasks.{Task, setup_in, task_named, task_read}
use Rattle.spec_program.specs.commands.Drill as drill
use Rattle.spec_program.specs.commands.Run.{HasRun}
use Rattle.spec_program.specs.Outcomes.{Finish, Outcome, status_in}
use Rattle.spec_program.specs.Asked.{IsDone, outcome_of, reads_of}
use Rattle.spec_program.specs.Ends.{Took, Partly, Stands, IsFaulted, IsFinished, IsShort, is_done, is_refusal}
use Rattle.spec_program.specs.Runs.{ran}
use Rattle.spec_program.proofs.Doing.{done_at, finished}
use Rattle.spec_program.proofs.Finishing.{outcome_is}
use Rattle.dl_gather.specs.declared.halt.Halt.{Halt}
use Rattle.dl_commands.specs.declared.job.Job.{Job}
use Rattle.dl_commands.specs.Jobs.{finish_of, writes_of, IsJobOf, IsRunOf, IsTaskJob}
use Rattle.dl_gather.specs.declared.task.Task as gather
use Rattle.dl_gather.specs.Halts.{Halts, IsAbsentSaid, IsFault, IsRefusal, IsUsage}
use Rattle.dl_gather.specs.Names.{IsNamed}
use Rattle.dl_gather.specs.Tasks.{IsTaskOf}
use Rattle.dl_machine.specs.Setups.{setup_in as machine_of}
use Rattle.dl_plan.specs.Values.{PlanValues}
use Rattle.dl_run.specs.Schedules.{events_in}
use Rattle.spec_protocol.specs.declared.event.Event.{Event}
use Rattle.spec_protocol.specs.machine.Machine as protocol
use Rattle.dl_commands.specs.Ended.{IsLineSaid, IsRefusalSaid, Said, Stopped}
use Rattle.dl_commands.specs.Performed.{IsCut, IsPerformed}
use Rattle.dl_commands.specs.Untold.{IsSomeRun}
use Rattle.dl_commands.proofs.Failing.{none_failed, read_failed}

memory_stands : (o : Outcome) (reads : List (List ℕ)) (m : Contents) (before after : Outside) (s : Status) → s ≡ Status.Memory → IsShort o reads m before after → Stands o reads m before after s
memory_stands o reads m before after s e short = subst (Stands o reads m before after) (sym e) short

fault_stands : (o : Outcome) (reads : List (List ℕ)) (m : Contents) (before after : Outside) (s : Status) (name : List ℕ) → s ≡ Status.Fault → IsFaulted o reads m before after name → Stands o reads m before after s
fault_stands o reads m before after s name e faulted = subst (Stands o reads m before after) (sym e) (name, faulted)

-- what is written and said in the end
abbrev finishes : (diverged : Bool) → List Write → (text : List ℕ) → Outcome
finishes d ws text = Ok (record { diverged = d; writes = ws; text = text })

-- ---- a command that is done

said_stands : (d : Bool) (ws : List Write) (text : List ℕ) (reads : List (List ℕ)) (m : Contents) (before after : Outside) (s : Status)
    → after.known ≡ Some (written ws m) → after.faults ≡ before.faults → Said d text before.taken after.taken before.sink_faults after.sink_faults s
    → Stands (finishes d ws text) reads m before after s
said_stands d ws text reads m before after Status.Done e n said =
    record { status = ap (λ (b : Bool). if b then Status.Diverged else Status.Done) (sym said.0); files = e; counted = n; output = said.1 }
said_stands d ws text reads m before after Status.Diverged e n said =
    record { status = ap (λ (b : Bool). if b then Status.Diverged else Status.Done) (sym said.0); files = e; counted = n; output = said.1 }
said_stands d ws text reads m before after Status.Sink e n said = (tt, record { files = e; counted = n; output = said.0 })
said_stands d ws text reads m before after Status.Memory e n said = inr (inl (record { files = e; counted = n; output = said.0 }))
said_stands d ws text reads m before after Status.Usage e n said = absurd said
said_stands d ws text reads m before after Status.Plan e n said = absurd said
said_stands d ws text reads m before after Status.Image e n said = absurd said
said_stands d ws text reads m before after Status.Grammar e n said = absurd said
said_stands d ws text reads m before after Status.Fault e n said = absurd said
said_stands d ws text reads m before after Status.Source e n said = absurd said
said_stands d ws text reads m before after Status.Absent e n said = absurd said

cut_stands : (d : Bool) (ws : List Write) (text : List ℕ) (reads : List (List ℕ)) (m : Contents) (before after : Outside) (s : Status) (name : List ℕ)
    → before.known ≡ Some m → IsCut ws name before after s → Stands (finishes d ws text) reads m before after s
cut_stands d ws text reads m before after s name e b =
    let faulted : IsFaulted (finishes d ws text) reads m before after name =
    record { counted = b.counted; named = b.named; files = inr (b.files m e); output = b.said.1 } in
    elim b.said.0 [
      | inl due ↦ fault_stands (finishes d ws text) reads m before after s name due.0 faulted
      | inr memory ↦ memory_stands (finishes d ws text) reads m before after s memory.0 (inr (inr (name, faulted)))
    ]

finishing_stands : (d : Bool) (ws : List Write) (text : List ℕ) (reads : List (List ℕ)) (m : Contents) (before after : Outside) (s : Status)
    → before.known ≡ Some m → IsPerformed d ws text before after s → Stands (finishes d ws text) reads m before after s
finishing_stands d ws text reads m before after s e (inl w) = said_stands d ws text reads m before after s (w.files m e) w.counted w.said
finishing_stands d ws text reads m before after s e (inr (inl (name, b))) = cut_stands d ws text reads m before after s name e b
finishing_stands d ws text reads m before after s e (inr (inr u)) =
    memory_stands (finishes d ws text) reads m before after s u.status (inl (record { files = u.files m e; counted = u.counted; output = u.output }))

-- what a command that is computed, and then done, leaves outside is what its status says
pub performed_stands : (outcome : Outcome) (job : Job) (reads : List (List ℕ)) (m : Contents) (before after : Outside) (s : Status)
    → IsJobOf outcome job → before.known ≡ Some m → IsPerformed job.diverged (writes_of job.writes.items) job.text.items before after s → Stands outcome reads m before after s
performed_stands outcome job reads m before after s is e performed =
    subst (λ (x : Outcome). Stands x reads m before after s) (sym is)
    (finishing_stands job.diverged (writes_of job.writes.items) job.text.items reads m before after s e performed)

-- no read failed
pub performed_unread : (d : Bool) (ws : List Write) (text : List ℕ) (before after : Outside) (s : Status) → IsPerformed d ws text before after s → after.unread ≡ before.unread
performed_unread d ws text before after s (inl w) = w.unread
performed_unread d ws text before after s (inr (inl (name, b))) = b.unread
performed_unread d ws text before after s (inr (inr u)) = u.unread

said_unrefused : (d : Bool) (text : List ℕ) (old new : Option (List ℕ)) (from to : ℕ) (s : Status) → Said d text old new from to s → is_refusal s ≡ true → ⊥
said_unrefused d text old new from to Status.Done said e = true≢false (sym e)
said_unrefused d text old new from to Status.Diverged said e = true≢false (sym e)
said_unrefused d text old new from to Status.Sink said e = true≢false (sym e)
said_unrefused d text old new from to Status.Memory said e = true≢false (sym e)
said_unrefused d text old new from to Status.Usage said e = said
said_unrefused d text old new from to Status.Plan said e = said
said_unrefused d text old new from to Status.Image said e = said
said_unrefused d text old new from to Status.Grammar said e = said
said_unrefused d text old new from to Status.Fault said e = said
said_unrefused d text old new from to Status.Source said e = said
said_unrefused d text old new from to Status.Absent said e = said

-- and nothing is refused
pub performed_unrefused : (d : Bool) (ws : List Write) (text : List ℕ) (before after : Outside) (s : Status) → IsPerformed d ws text before after s → is_refusal s ≡ true → ⊥
performed_unrefused d ws text before after s (inl w) e = said_unrefused d text before.taken after.taken before.sink_faults after.sink_faults s w.said e
performed_unrefused d ws text before after s (inr (inl (name, b))) e = elim b.said.0 [
  | inl due ↦ true≢false (sym e ∙ ap is_refusal due.0)
  | inr memory ↦ true≢false (sym e ∙ ap is_refusal memory.0)
]
performed_unrefused d ws text before after s (inr (inr u)) e = true≢false (sym e ∙ ap is_refusal u.status)

-- a run of a task's machine over its schedule is the task's
pub task_run : (p : PlanValues) (asked : Result Task Refused) (task : gather.Task) (job : Job) → IsTaskOf p asked task → IsRunOf p (machine_of task.setup) (events_in task.schedule) job → IsTaskJob asked job
task_run p asked task job of run = (
  of.is,
  of.asks,
  subst (λ (x : PlanValues). IsRunOf x (setup_in of.is) of.is.events job) (sym of.plan)
      (subst (λ (x : protocol.Setup). IsRunOf p x of.is.events job) (sym of.setup) (subst (λ (x : List Event). IsRunOf p (machine_of task.setup) x job) (sym of.events) run)),
)

-- and so it is the run of some task that the plan has
pub some_run : (p : PlanValues) (read : PlanRead) (task : gather.Task) (job : Job) → IsTaskOf p (task_read p read) task → IsRunOf p (machine_of task.setup) (events_in task.schedule) job
    → IsSomeRun p (finish_of job)
some_run p read task job of run =
    let made : IsRunOf p (setup_in of.is) of.is.events job =
    subst (λ (x : protocol.Setup). IsRunOf p x of.is.events job) (sym of.setup) (subst (λ (x : List Event). IsRunOf p (machine_of task.setup) x job) (sym of.events) run)
    in
    record {
      read = read;
      task = of.is;
      asked = of.asks;
      does = λ i. Ok (record { diverged = sym made.diverged i; writes = sym made.writes i; text = sym made.text i });
    }

-- a run comes to what its task is to come to
pub run_is : (task : Result Task Refused) (job : Job) → IsTaskJob task job → IsJobOf (task >> λ t. ran t.plan (setup_in t) t.events) job
run_is task job (t, is, run) =
    ap (λ (o : Result Task Refused). o >> λ x. ran x.plan (setup_in x) x.events) is
    ∙ (λ i. Ok (record { diverged = sym run.diverged i; writes = sym run.writes i; text = sym run.text i }))

-- its machine is within its limits, and its tails are read again
pub run_limited : (plan : List ℕ) (m : Contents) (job : Job) → IsTaskJob (task_named m plan) job → HasRun plan m
run_limited plan m job (t, is, run) = (t, is, run.limits, run.tails)

-- what a command that is done says
pub done_is : (words : List (List ℕ)) (m : Contents) (before after : Outside) (s : Status) (command : CommandValues) (job : Job)
    → command_of words ≡ Some command → ((plan : List ℕ) → command_of words ≡ Some (Run plan) → HasRun plan m) → IsJobOf (outcome_of words m) job
    → Stands (outcome_of words m) (reads_of words m) m before after s → is_done s ≡ true
    → IsDone command m after.known before.taken after.taken s
done_is words m before after s command job asks limits is stands done =
    done_at m before after s command (finish_of job) (sym (outcome_is words m command asks) ∙ is)
    (λ plan same. limits plan (asks ∙ ap Some same))
    (subst (λ (o : Outcome). IsFinished o m before after s) is (finished (outcome_of words m) (reads_of words m) m before after s stands done))

-- ---- a drill

abbrev IsDrillEnd : Status → Type 0
IsDrillEnd s = (s ≡ Status.Done) ⊎ ((s ≡ Status.Sink) ⊎ (s ≡ Status.Memory))

no_divergence : (d : Bool) → Status.Done ≡ (if d then Status.Diverged else Status.Done) → d ≡ true → ⊥
no_divergence true e is = omega (arith, ap code_of e)
no_divergence false e is = true≢false (sym is)

drill_said : (d : Bool) (text : List ℕ) (old new : Option (List ℕ)) (from to : ℕ) (s : Status) → Status.Done ≡ (if d then Status.Diverged else Status.Done) → Said d text old new from to s → IsDrillEnd s
drill_said d text old new from to Status.Done e said = inl refl
drill_said d text old new from to Status.Diverged e said = absurd (no_divergence d e said.0)
drill_said d text old new from to Status.Sink e said = inr (inl refl)
drill_said d text old new from to Status.Memory e said = inr (inr refl)
drill_said d text old new from to Status.Usage e said = absurd said
drill_said d text old new from to Status.Plan e said = absurd said
drill_said d text old new from to Status.Image e said = absurd said
drill_said d text old new from to Status.Grammar e said = absurd said
drill_said d text old new from to Status.Fault e said = absurd said
drill_said d text old new from to Status.Source e said = absurd said
drill_said d text old new from to Status.Absent e said = absurd said

none_due : (ws : List Write) (i : ℕ) (w : Write) → [] ≡ ws → slice_get ws i ≡ Some w → ⊥
none_due ws i w none at = none-some w (ap (λ (xs : List Write). slice_get xs i) none ∙ at)

-- a drill that is computed writes nothing: it ends well, or by the sink, or since memory ran out, and no file failed or changed
pub drill_performed : (number : ℕ) (job : Job) (before after : Outside) (s : Status) → finish_of job ≡ drill.finish number → IsPerformed job.diverged (writes_of job.writes.items) job.text.items before after s
    → IsDrillEnd s × (after.faults ≡ before.faults) × (after.changes ≡ before.changes)
drill_performed number job before after s made (inl w) = (
  drill_said job.diverged job.text.items before.taken after.taken before.sink_faults after.sink_faults s (ap (λ (f : Finish). status_in (Ok f)) (sym made)) w.said,
  w.counted,
  w.none (ap (λ (f : Finish). f.writes) made),
)
drill_performed number job before after s made (inr (inl (name, b))) = absurd (none_due (writes_of job.writes.items) b.due.0 b.due.1 (ap (λ (f : Finish). f.writes) (sym made)) b.due.2)
drill_performed number job before after s made (inr (inr u)) = absurd (u.some (ap (λ (f : Finish). f.writes) made))

-- a drill that isn't computed ends since memory ran out
pub drill_halted : (h : Halt) (old new : Option (List ℕ)) (from to : ℕ) (s : Status) → h ≡ Halt.OutOfMemory → Stopped h old new from to s → IsDrillEnd s
drill_halted h old new from to s is stopped = let memory : Stopped Halt.OutOfMemory old new from to s = subst (λ (x : Halt). Stopped x old new from to s) is stopped in inr (inr memory.0)

-- ---- a command that stops

abbrev refuses : Refusal → (text : List ℕ) → Outcome
refuses why text = Err (record { why = why; line = text })

-- a refusal's status stands by its line
refused_stands : (why : Refusal) (text : List ℕ) (reads : List (List ℕ)) (m : Contents) (before after : Outside) → after.known ≡ Some m → after.faults ≡ before.faults → Took text before.taken after.taken
    → Stands (refuses why text) reads m before after (status_of why)
refused_stands Refusal.Usage text reads m before after e n took = record { status = refl; files = e; counted = n; output = took }
refused_stands Refusal.Plan text reads m before after e n took = record { status = refl; files = e; counted = n; output = took }
refused_stands Refusal.Image text reads m before after e n took = record { status = refl; files = e; counted = n; output = took }
refused_stands Refusal.Grammar text reads m before after e n took = record { status = refl; files = e; counted = n; output = took }
refused_stands Refusal.Source text reads m before after e n took = record { status = refl; files = e; counted = n; output = took }
refused_stands Refusal.Absent text reads m before after e n took = record { status = refl; files = e; counted = n; output = took }

none_written : (ws : List Write) (m : Contents) (known : Option Contents) → known ≡ Some m → Partly ws m known
none_written ws m known e = (0, omega arith, inl e)

-- nothing is the first bytes of any text
pub took_none : (text : List ℕ) (old new : Option (List ℕ)) → new ≡ old → Took text old new
took_none text None new e = (0, omega arith, e)
took_none text (Some t) new e = (0, omega arith, e ∙ ap Some (sym (append-nil t)))

no_memory_absent : (s : Status) → s ≡ Status.Memory → s ≡ Status.Absent → ⊥
no_memory_absent s e f = omega (arith, ap code_of (sym e ∙ f))

no_fault_absent : (s : Status) → s ≡ Status.Fault → s ≡ Status.Absent → ⊥
no_fault_absent s e f = omega (arith, ap code_of (sym e ∙ f))

absent_is : (why : Refusal) → status_of why ≡ Status.Absent → why ≡ Refusal.Absent
absent_is Refusal.Usage e = absurd (omega (arith, ap code_of e))
absent_is Refusal.Plan e = absurd (omega (arith, ap code_of e))
absent_is Refusal.Image e = absurd (omega (arith, ap code_of e))
absent_is Refusal.Grammar e = absurd (omega (arith, ap code_of e))
absent_is Refusal.Source e = absurd (omega (arith, ap code_of e))
absent_is Refusal.Absent e = refl

-- at a refusal the read of an absent name failed, or no call did
refused_at : (task : Contents → Outcome) (reads : Contents → List (List ℕ)) (old new : Seen) (why : Refusal) (line : List ℕ) (known : Option Contents) → old.known ≡ known → IsRefusal task reads why line old new
    → ((said : IsAbsentSaid reads line old new) × IsUnread said.name old new) ⊎ (new ≡ old)
refused_at task reads old new why line (Some m) e refused = inr (refused.known m e).1
refused_at task reads old new Refusal.Usage line None e refused = inr (refused.other (λ x. omega (arith, ap (λ (w : Refusal). code_of (status_of w)) x)))
refused_at task reads old new Refusal.Plan line None e refused = inr (refused.other (λ x. omega (arith, ap (λ (w : Refusal). code_of (status_of w)) x)))
refused_at task reads old new Refusal.Image line None e refused = inr (refused.other (λ x. omega (arith, ap (λ (w : Refusal). code_of (status_of w)) x)))
refused_at task reads old new Refusal.Grammar line None e refused = inr (refused.other (λ x. omega (arith, ap (λ (w : Refusal). code_of (status_of w)) x)))
refused_at task reads old new Refusal.Source line None e refused = inr (refused.other (λ x. omega (arith, ap (λ (w : Refusal). code_of (status_of w)) x)))
refused_at task reads old new Refusal.Absent line None e refused =
    let said = refused.absent refl in
    inl (said, said.unread e)

-- A command halts before anything is written: the files were seen as `old` and then as `new`. The sink had taken so much, and
-- then so much, and so its count of faults.
module _ (old new : Seen) (before after : Option (List ℕ)) (from to : ℕ) where
  -- a read that failed
  fault_is : (o : Outcome) (reads : Contents → List (List ℕ)) (m : Contents) (name : List ℕ) → old.known ≡ Some m → IsFault reads name old new → Took (fault_line name) before after
      → IsFaulted o (reads m) m (outside old before from) (outside new after to) name
  fault_is o reads m name e f took = record { counted = f.unread.counted; named = f.unread.named; files = inl (f.unread.kept.known ∙ e, f.next m e); output = took }

  -- what it leaves outside is what its status says
  pub halted_stands : (task : Contents → Outcome) (reads : Contents → List (List ℕ)) (m : Contents) (h : Halt) (s : Status) → old.known ≡ Some m → Halts task reads old new h
      → Stopped h before after from to s → Stands (task m) (reads m) m (outside old before from) (outside new after to) s
  halted_stands task reads m (Halt.Refused why text) s e halts stopped =
      let was = outside old before from in
      let is = outside new after to in
      let o : task m ≡ refuses why text.items = (halts.known m e).0 in
      let same = (halts.known m e).1 in
      let known = ap (λ (x : Seen). x.known) same ∙ e in
      let n = ap (λ (x : Seen). x.faults) same in
      elim stopped.0 [
        | inl due ↦
            subst (Stands (task m) (reads m) m was is) (sym due.0)
            (subst (λ (x : Outcome). Stands x (reads m) m was is (status_of why)) (sym o) (refused_stands why text.items (reads m) m was is known n stopped.1))
        | inr memory ↦
            memory_stands (task m) (reads m) m was is s memory.0
            (subst (λ (x : Outcome). IsShort x (reads m) m was is) (sym o) (inr (inl (record { files = known; counted = n; output = stopped.1 }))))
      ]
  halted_stands task reads m (Halt.Fault text) s e halts stopped =
      let was = outside old before from in
      let is = outside new after to in
      let name = halts.0 in
      let took : Took (fault_line name) before after = subst (λ (x : List ℕ). Took x before after) halts.1 stopped.1 in
      let faulted = fault_is (task m) reads m name e halts.2 took in
      elim stopped.0 [
        | inl due ↦ fault_stands (task m) (reads m) m was is s name due.0 faulted
        | inr memory ↦ memory_stands (task m) (reads m) m was is s memory.0 (inr (inr (name, faulted)))
      ]
  halted_stands task reads m Halt.OutOfMemory s e (inl same) stopped =
      memory_stands (task m) (reads m) m (outside old before from) (outside new after to) s stopped.0
      (inl (record { files = none_written _ m new.known (ap (λ (x : Seen). x.known) same ∙ e); counted = ap (λ (x : Seen). x.faults) same; output = stopped.1 }))
  halted_stands task reads m Halt.OutOfMemory s e (inr (name, f)) stopped =
      memory_stands (task m) (reads m) m (outside old before from) (outside new after to) s stopped.0
      (inr (inr (name, fault_is (task m) reads m name e f (took_none (fault_line name) before after stopped.1))))

  -- no file has changed
  pub halted_kept : (task : Contents → Outcome) (reads : Contents → List (List ℕ)) (h : Halt) → Halts task reads old new h → IsKept old new
  halted_kept task reads (Halt.Refused why text) halts = halts.kept
  halted_kept task reads (Halt.Fault text) halts = halts.2.unread.kept
  halted_kept task reads Halt.OutOfMemory (inl same) = record {
    known = ap (λ (x : Seen). x.known) same;
    changes = ap (λ (x : Seen). x.changes) same;
    unwritten = ap (λ (x : Seen). x.unwritten) same;
  }
  halted_kept task reads Halt.OutOfMemory (inr (name, f)) = f.unread.kept

  unfailed : new ≡ old → FailsOnce old new
  unfailed same = none_failed old new (ap (λ (x : Seen). x.faults) same)

  -- at most one of its reads failed
  pub halted_once : (task : Contents → Outcome) (reads : Contents → List (List ℕ)) (h : Halt) → Halts task reads old new h → FailsOnce old new
  halted_once task reads (Halt.Refused why text) halts = elim (refused_at task reads old new why text.items old.known refl halts) [
    | inl absent ↦ read_failed absent.0.name old new absent.1
    | inr same ↦ unfailed same
  ]
  halted_once task reads (Halt.Fault text) halts = read_failed halts.0 old new halts.2.unread
  halted_once task reads Halt.OutOfMemory (inl same) = unfailed same
  halted_once task reads Halt.OutOfMemory (inr (name, f)) = read_failed name old new f.unread

  -- its refusal is said in the form of its kind
  pub halted_line : (task : Contents → Outcome) (reads : Contents → List (List ℕ)) (h : Halt) (s : Status) → Halts task reads old new h → Stopped h before after from to s
      → is_refusal s ≡ true → IsRefusalSaid s before after from to
  halted_line task reads (Halt.Refused why text) s halts stopped e = elim stopped.0 [
    | inl due ↦ (why, text.items, due.0, halts.form, (stopped.1, due.1))
    | inr memory ↦ absurd (true≢false (sym e ∙ ap is_refusal memory.0))
  ]
  halted_line task reads (Halt.Fault text) s halts stopped e = elim stopped.0 [
    | inl due ↦ absurd (true≢false (sym e ∙ ap is_refusal due.0))
    | inr memory ↦ absurd (true≢false (sym e ∙ ap is_refusal memory.0))
  ]
  halted_line task reads Halt.OutOfMemory s halts stopped e = absurd (true≢false (sym e ∙ ap is_refusal stopped.0))

  -- a name that is said to be absent is one of those to be read, and where no contents are known, the last fault's
  pub halted_absent : (task : Contents → Outcome) (reads : Contents → List (List ℕ)) (h : Halt) (s : Status) → Halts task reads old new h → Stopped h before after from to s
      → s ≡ Status.Absent → (name : List ℕ) × IsNamed old.known reads name × (old.known ≡ None → IsLast new.last name) × IsLineSaid (absent_line name) before after from to
  halted_absent task reads (Halt.Refused why text) s halts stopped e = elim stopped.0 [
    | inl due ↦
        let said = halts.absent (absent_is why (sym due.0 ∙ e)) in
        (said.name, said.named, (λ none. (said.unread none).named), subst (λ (t : List ℕ). IsLineSaid t before after from to) said.line_is (stopped.1, due.1))
    | inr memory ↦ absurd (no_memory_absent s memory.0 e)
  ]
  halted_absent task reads (Halt.Fault text) s halts stopped e = elim stopped.0 [
    | inl due ↦ absurd (no_fault_absent s due.0 e)
    | inr memory ↦ absurd (no_memory_absent s memory.0 e)
  ]
  halted_absent task reads Halt.OutOfMemory s halts stopped e = absurd (no_memory_absent s stopped.0 e)

-- ---- a fault, and the line on it

no_memory_fault : (s : Status) → s ≡ Status.Memory → s ≡ Status.Fault → ⊥
no_memory_fault s e f = omega (arith, ap code_of (sym e ∙ f))

no_refusal_fault : (why : Refusal) → status_of why ≡ Status.Fault → ⊥
no_refusal_fault Refusal.Usage e = omega (arith, ap code_of e)
no_refusal_fault Refusal.Plan e = omega (arith, ap code_of e)
no_refusal_fault Refusal.Image e = omega (arith, ap code_of e)
no_refusal_fault Refusal.Grammar e = omega (arith, ap code_of e)
no_refusal_fault Refusal.Source e = omega (arith, ap code_of e)
no_refusal_fault Refusal.Absent e = omega (arith, ap code_of e)

-- the line on the last fault is said, whose name is the command's own
abbrev pub FaultSaid : (Own : List ℕ → Type 0) → (last old new : Option (List ℕ)) → (from to : ℕ) → Type 0
FaultSaid Own last old new from to = (name : List ℕ) × Own name × IsLast last name × IsLineSaid (fault_line name) old new from to

-- each name that is written is the command's own
abbrev pub AreOwn : (Own : List ℕ → Type 0) → List Write → Type 0
AreOwn Own ws = (name : List ℕ) → Contains (map (λ (w : Write). w.name) ws) name → Own name

written_at : (ws : List Write) (i : ℕ) (w : Write) → slice_get ws i ≡ Some w → Contains (map (λ (v : Write). v.name) ws) w.name
written_at [] i w e = absurd cc
written_at (v ∷ ws) zero w e = let same : v ≡ w = cc in (0, omega arith, ap (λ (u : Write). u.name) same)
written_at (v ∷ ws) (suc i) w e = let rest = written_at ws i w e in (suc rest.0, omega (arith, rest.1), rest.2)

-- and so is that of the write that failed
pub cut_own : (Own : List ℕ → Type 0) (ws : List Write) (name : List ℕ) (old new : Outside) (s : Status) → AreOwn Own ws → IsCut ws name old new s → Own name
cut_own Own ws name old new s own cut =
    own name (subst (Contains (map (λ (v : Write). v.name) ws)) cut.due.3 (written_at ws cut.due.0 cut.due.1 cut.due.2))

-- a command that ends by a fault of a write says the line on it
pub performed_fault : (Own : List ℕ → Type 0) (d : Bool) (ws : List Write) (text : List ℕ) (old new : Outside) (s : Status) → AreOwn Own ws → IsPerformed d ws text old new s → s ≡ Status.Fault
    → FaultSaid Own new.last old.taken new.taken old.sink_faults new.sink_faults
performed_fault Own d ws text old new s own (inl w) e = absurd (subst (Said d text old.taken new.taken old.sink_faults new.sink_faults) e w.said)
performed_fault Own d ws text old new s own (inr (inl (name, b))) e = elim b.said.0 [
  | inl due ↦ (name, cut_own Own ws name old new s own b, b.named, (b.said.1, due.1))
  | inr memory ↦ absurd (no_memory_fault s memory.0 e)
]
performed_fault Own d ws text old new s own (inr (inr u)) e = absurd (no_memory_fault s u.status e)

-- where memory ran out after a fault, the first bytes of the line on it are said
abbrev pub IsShortSaid : (Own : List ℕ → Type 0) → (last old new : Option (List ℕ)) → Type 0
IsShortSaid Own last old new = (name : List ℕ) × Own name × IsLast last name × (Took (fault_line name) old new ⊎ Took (absent_line name) old new)

-- so of a write
pub performed_short : (Own : List ℕ → Type 0) (d : Bool) (ws : List Write) (text : List ℕ) (old new : Outside) (s : Status) → AreOwn Own ws → IsPerformed d ws text old new s → (new.faults ≡ old.faults → ⊥)
    → IsShortSaid Own new.last old.taken new.taken
performed_short Own d ws text old new s own (inl w) failed = absurd (failed w.counted)
performed_short Own d ws text old new s own (inr (inl (name, b))) failed = (name, cut_own Own ws name old new s own b, b.named, inl b.said.1)
performed_short Own d ws text old new s own (inr (inr u)) failed = absurd (failed u.counted)

-- ---- a command that stopped

-- a refusal is not the status of a command that is done
refusal_undone : (why : Refusal) → is_done (status_of why) ≡ true → ⊥
refusal_undone Refusal.Usage e = true≢false (sym e)
refusal_undone Refusal.Plan e = true≢false (sym e)
refusal_undone Refusal.Image e = true≢false (sym e)
refusal_undone Refusal.Grammar e = true≢false (sym e)
refusal_undone Refusal.Source e = true≢false (sym e)
refusal_undone Refusal.Absent e = true≢false (sym e)

-- A command has stopped with the status s: the sink had taken so much before the line on it, and so much after, and had so
-- many faults before and after.
module _ (before after : Option (List ℕ)) (from to : ℕ) (s : Status) where
  -- its status isn't one of a command that is done
  pub stopped_undone : (h : Halt) → Stopped h before after from to s → is_done s ≡ true → ⊥
  stopped_undone (Halt.Refused why text) stopped done = elim stopped.0 [
    | inl due ↦ refusal_undone why (sym (ap is_done due.0) ∙ done)
    | inr memory ↦ true≢false (sym done ∙ ap is_done memory.0)
  ]
  stopped_undone (Halt.Fault text) stopped done = elim stopped.0 [
    | inl due ↦ true≢false (sym done ∙ ap is_done due.0)
    | inr memory ↦ true≢false (sym done ∙ ap is_done memory.0)
  ]
  stopped_undone Halt.OutOfMemory stopped done = true≢false (sym done ∙ ap is_done stopped.0)

  -- where it halted by a fault of a read, it says the line on it
  pub stopped_fault : (task : Contents → Outcome) (reads : Contents → List (List ℕ)) (old new : Seen) (h : Halt)
      → Halts task reads old new h → Stopped h before after from to s → s ≡ Status.Fault → FaultSaid (IsNamed old.known reads) new.last before after from to
  stopped_fault task reads old new (Halt.Refused why text) halts stopped e = elim stopped.0 [
    | inl due ↦ absurd (no_refusal_fault why (sym due.0 ∙ e))
    | inr memory ↦ absurd (no_memory_fault s memory.0 e)
  ]
  stopped_fault task reads old new (Halt.Fault text) halts stopped e = elim stopped.0 [
    | inl due ↦ (halts.0, halts.2.named, halts.2.unread.named, subst (λ (t : List ℕ). IsLineSaid t before after from to) halts.1 (stopped.1, due.1))
    | inr memory ↦ absurd (no_memory_fault s memory.0 e)
  ]
  stopped_fault task reads old new Halt.OutOfMemory halts stopped e = absurd (no_memory_fault s stopped.0 e)

  -- where memory ran out after a read that failed, the first bytes of the line on it are said
  pub stopped_short : (task : Contents → Outcome) (reads : Contents → List (List ℕ)) (old new : Seen) (h : Halt)
      → Halts task reads old new h → Stopped h before after from to s → (new.faults ≡ old.faults → ⊥) → IsShortSaid (IsNamed old.known reads) new.last before after
  stopped_short task reads old new (Halt.Refused why text) halts stopped failed = elim (refused_at task reads old new why text.items old.known refl halts) [
    | inl absent ↦ (absent.0.name, absent.0.named, absent.1.named, inr (subst (λ (t : List ℕ). Took t before after) absent.0.line_is stopped.1))
    | inr same ↦ absurd (failed (ap (λ (x : Seen). x.faults) same))
  ]
  stopped_short task reads old new (Halt.Fault text) halts stopped failed =
      (halts.0, halts.2.named, halts.2.unread.named, inl (subst (λ (t : List ℕ). Took t before after) halts.1 stopped.1))
  stopped_short task reads old new Halt.OutOfMemory (inl same) stopped failed = absurd (failed (ap (λ (x : Seen). x.faults) same))
  stopped_short task reads old new Halt.OutOfMemory (inr (name, f)) stopped failed = (name, f.named, f.unread.named, inl (took_none (fault_line name) before after stopped.1))

  -- words that mean no command have stopped it with the line on usage
  pub stopped_usage : (command : Option CommandValues) (h : Halt) → IsUsage command h → Stopped h before after from to s → command ≡ None → Took usage_line before after
  stopped_usage command (Halt.Refused why text) usage stopped none =
      subst (λ (t : List ℕ). Took t before after) (usage.1 (usage.0.1 none)) stopped.1
  stopped_usage command (Halt.Fault text) usage stopped none = absurd (usage none)
  stopped_usage command Halt.OutOfMemory usage stopped none = took_none usage_line before after stopped.1
