-- A commit that diverges has a reason of its own: no play ends within a commit for a reason that arises between two.
use Rattle.std.proofs.Common.{◌≡◌, ℕ, suc, Bool, true, false, eqb, cond, List, length, Option, Some, None, refl, sym, ap, ◌∙◌, arith}
use Rattle.std.specs.Prelude.{slice_get, nat_lt}
use Rattle.std.proofs.lemmas.Bool.{true≢false}
use Rattle.dl_entry.specs.declared.Actor.{Actor}
use Rattle.dl_entry.specs.declared.Commit.{Commit}
use Rattle.dl_entry.specs.declared.End.{End}
use Rattle.dl_entry.specs.declared.Request.{Request}
use Rattle.dl_entry.specs.declared.Why.{Why}
use Rattle.spec_isa.specs.declared.thread.Parts.{Parts}
use Rattle.spec_isa.specs.declared.thread.Kind.{Kind}
use Rattle.spec_isa.specs.Runs.{Run, run}
use Rattle.spec_log.specs.declared.DmaRecord.{DmaRecord}
use Rattle.spec_log.specs.declared.LogParts.{LogParts}
use Rattle.spec_log.specs.Size.{size_in}
use Rattle.spec_kernel.specs.Copies.{dma_words}
use Rattle.spec_kernel.specs.Needs.{next_kind, need}
use Rattle.spec_kernel.specs.Interrupts.{takes_interrupt, interrupted}
use Rattle.spec_kernel.specs.Serving.{serve}
use Rattle.spec_play.specs.Effects.{Effect, chunk_effect, serial_effect, dma_commit}
use Rattle.spec_play.specs.Progress.{Progress, position, with_effect, with_dma, with_interrupt}
use Rattle.spec_play.specs.declared.used.Used.{Used}
use Rattle.spec_play.specs.Turns.{TurnOrEnd, Turn, TurnOfDma, Ended}
use Rattle.spec_play.specs.Verdicts.{LogVerdict, Goes, Fails, unless, interrupt_at, with_interrupted, chunk_why, chunk_verdict, serial_why, TakenRecord, given, served_verdict, serial_verdict}
use Rattle.spec_play.specs.Transfers.{DmaVerdict, DmaGoes, DmaFails, is_for, transferred, dma_unless, dma_verdict}
use Rattle.spec_play.specs.Plays.{Played, settled, size_or_standard, thread_verdict, play_thread, dma_settled, play_turn, play_one}
use Rattle.spec_replay.specs.Promises.{is_between}
use Rattle.spec_replay.proofs.Commits.Done.{ended_by, one_more}

either : {A : Type 0} (P : A → Type 0) (b : Bool) (x y : A) → P x → P y → P (cond b x y)
either P true x y p q = p
either P false x y p q = q

-- ---- threads

abbrev WhyWithin : Option Why → Type 0
WhyWithin None = Unit {0}
WhyWithin (Some why) = is_between why ≡ false

abbrev FailsWithin : LogVerdict → Type 0
FailsWithin (Goes e u) = Unit {0}
FailsWithin (Fails why) = is_between why ≡ false

unless_within : (o : Option Why) (v : LogVerdict) → WhyWithin o → FailsWithin v → FailsWithin (unless o v)
unless_within None v o f = f
unless_within (Some why) v o f = o

interrupted_within : (o : Option ℕ) (e : Effect) (u : Used) → FailsWithin (with_interrupted o e u)
interrupted_within None e u = tt
interrupted_within (Some value) e u = either FailsWithin (takes_interrupt e.thread) (Goes (record e { thread = interrupted value e.thread }) (with_interrupt u)) (Fails Why.Interrupt) tt refl

chunk_why_within : (o : Option ℕ) (n : ℕ) → WhyWithin (chunk_why o n)
chunk_why_within None n = tt
chunk_why_within (Some z) n = either WhyWithin (eqb z 0) (Some Why.NotSerial) (cond (nat_lt n z) (Some (Why.Short z n)) None) refl (either WhyWithin (nat_lt n z) (Some (Why.Short z n)) None refl tt)

chunk_within : (log : LogParts) (p : Progress) (u : Used) (k : ℕ) (r : Run) → FailsWithin (chunk_verdict log p u k r)
unfolding chunk_verdict
chunk_within log p u k r =
    let e : Effect = chunk_effect k p.request r in
    let size : Option ℕ = size_in log (Actor.Thread k) r.thread.commits in
    let o : Option ℕ = interrupt_at log.interrupts k e.thread.commits in
    unless_within (chunk_why size r.n) (with_interrupted o e u) (chunk_why_within size r.n) (interrupted_within o e u)

serial_why_within : (o : Option ℕ) → WhyWithin (serial_why o)
serial_why_within None = tt
serial_why_within (Some z) = either WhyWithin (eqb z 0) None (Some (Why.SizeOfSerial z)) tt refl

served_within : (log : LogParts) (p : Progress) (k : ℕ) (ts : List Parts) (t : Parts) (m : List ℕ) (o : Option TakenRecord) → FailsWithin (served_verdict log p k ts t m o)
served_within log p k ts t m None = refl
served_within log p k ts t m (Some g) =
    let e : Effect = serial_effect k (serve log.threads k ts p.request t m g.input) in interrupted_within (interrupt_at log.interrupts k e.thread.commits) e g.used

serial_within : (log : LogParts) (p : Progress) (u : Used) (k : ℕ) (ts : List Parts) (t : Parts) (m : List ℕ) → FailsWithin (serial_verdict log p u k ts t m)
unfolding serial_verdict
serial_within log p u k ts t m =
    let size : Option ℕ = size_in log (Actor.Thread k) t.commits in
    let o : Option TakenRecord = given (need t m) (slice_get log.inputs u.inputs) u in
    unless_within (serial_why size) (served_verdict log p k ts t m o) (serial_why_within size) (served_within log p k ts t m o)

thread_within : (log : LogParts) (y : Played) (k : ℕ) (t : Parts) (o : Option Kind) → FailsWithin (thread_verdict log y k t o)
thread_within log y k t (Some kind) = serial_within log y.progress y.used k y.threads t y.memory
thread_within log y k t None = chunk_within log y.progress y.used k (run y.memory t (size_or_standard log k t.commits))

-- ---- DMAs

abbrev DmaFailsWithin : DmaVerdict → Type 0
DmaFailsWithin (DmaGoes words) = Unit {0}
DmaFailsWithin (DmaFails why) = is_between why ≡ false

transferred_within : (i : ℕ) (o : Option Request) (next : Option DmaRecord) → DmaFailsWithin (transferred i o next)
transferred_within i None next = refl
transferred_within i (Some request) None = refl
transferred_within i (Some request) (Some dma) = either DmaFailsWithin (is_for i request dma) (DmaGoes (dma_words request dma.bytes)) (DmaFails Why.Dma) tt refl

dma_unless_within : (o : Option Why) (v : DmaVerdict) → WhyWithin o → DmaFailsWithin v → DmaFailsWithin (dma_unless o v)
dma_unless_within None v o f = f
dma_unless_within (Some why) v o f = o

dma_within : (log : LogParts) (p : Progress) (u : Used) → DmaFailsWithin (dma_verdict log p u)
unfolding dma_verdict
dma_within log p u =
    let size : Option ℕ = size_in log Actor.Dma (position p) in
    let next : Option DmaRecord = slice_get log.dmas u.dmas in
    dma_unless_within (serial_why size) (transferred (position p) p.request next) (serial_why_within size) (transferred_within (position p) p.request next)

-- ---- plays

-- the play had already ended in this way
abbrev EndedBefore : Played → Why → Type 0
EndedBefore y why = y.now ≡ Ended (End.Diverged (position y.progress) why)

-- one more commit isn't none
no_more : (cs : List Commit) (c : Commit) (ds : List Commit) → length ds ≡ suc (length cs) → cs ≡ ds → {A : Type 0} → A
no_more cs c ds size same = absurd (let h : length cs ≡ length ds = ap (λ (x : List Commit). length x) same in omega arith)

same_why : (i j : ℕ) (why other : Why) → Ended (End.Diverged i why) ≡ Ended (End.Diverged j other) → why ≡ other
same_why i j why other e = cc

within_settled : (log : LogParts) (y : Played) (k : ℕ) (v : LogVerdict) (why : Why) → FailsWithin v → settled log y k v ≡ ended_by y why → is_between why ≡ true → EndedBefore y why
within_settled log y k (Goes e u) why f same between =
    no_more y.progress.commits e.commit (with_effect k e y.progress).commits (one_more y.progress.commits e.commit) (ap (λ (x : Played). x.progress.commits) (sym same))
within_settled log y k (Fails other) why f same between =
    let h : other ≡ why = same_why (position y.progress) (position y.progress) other why (ap (λ (x : Played). x.now) same) in
    absurd (true≢false (sym between ∙ ap is_between (sym h) ∙ f))

within_thread : (log : LogParts) (y : Played) (k : ℕ) (o : Option Parts) (why : Why) → play_thread log y k o ≡ ended_by y why → is_between why ≡ true → EndedBefore y why
within_thread log y k None why same between = ap (λ (x : Played). x.now) same
within_thread log y k (Some t) why same between = within_settled log y k (thread_verdict log y k t (next_kind t y.memory)) why (thread_within log y k t (next_kind t y.memory)) same between

within_dma : (log : LogParts) (y : Played) (v : DmaVerdict) (why : Why) → DmaFailsWithin v → dma_settled log y v ≡ ended_by y why → is_between why ≡ true → EndedBefore y why
within_dma log y (DmaGoes words) why f same between =
    no_more y.progress.commits dma_commit (with_dma y.progress).commits (one_more y.progress.commits dma_commit) (ap (λ (x : Played). x.progress.commits) (sym same))
within_dma log y (DmaFails other) why f same between =
    let h : other ≡ why = same_why (position y.progress) (position y.progress) other why (ap (λ (x : Played). x.now) same) in
    absurd (true≢false (sym between ∙ ap is_between (sym h) ∙ f))

within_now : (log : LogParts) (y : Played) (now : TurnOrEnd) (why : Why) → play_turn log y now ≡ ended_by y why → is_between why ≡ true → EndedBefore y why
within_now log y (Ended how) why same between = ap (λ (x : Played). x.now) same
within_now log y (Turn k) why same between = within_thread log y k (slice_get y.threads k) why same between
within_now log y TurnOfDma why same between = within_dma log y (dma_verdict log y.progress y.used) why (dma_within log y.progress y.used) same between

-- if a play's next commit gives it an end that arises between two commits, and nothing else, it had already ended in that way
pub ends-between : (log : LogParts) (y : Played) (why : Why) → play_one log y ≡ ended_by y why → is_between why ≡ true → y.now ≡ Ended (End.Diverged (position y.progress) why)
unfolding play_one
ends-between log y why same between = within_now log y y.now why same between
