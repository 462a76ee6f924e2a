-- When a chunk goes as logged: by its run alone.
use Rattle.std.proofs.Common.{◌≡◌, ◌≢◌, ℕ, zero, suc, ◌<◌, ◌+◌, inl, inr, true, List, Option, Some, None, refl, sym, ap, ◌∙◌, subst, arith}
use Rattle.std.proofs.lemmas.Bool.{cases_Bool}
use Rattle.std.proofs.lemmas.Bool.Decides.{eqb_tells}
use Rattle.std.proofs.lemmas.Option.{none-some}
use Rattle.dl_entry.specs.declared.Actor.{Actor}
use Rattle.dl_entry.specs.declared.Request.{Request}
use Rattle.dl_entry.specs.declared.Why.{Why}
use Rattle.spec_isa.specs.declared.thread.Parts.{Parts}
use Rattle.spec_isa.specs.declared.thread.Kind.{Kind}
use Rattle.spec_isa.specs.declared.thread.Load.{Load}
use Rattle.spec_isa.specs.declared.operation.Operation.{Operation}
use Rattle.spec_isa.specs.Operations.{thread_then}
use Rattle.spec_isa.specs.Words.{Stored, lays}
use Rattle.spec_isa.specs.Instruction.{InstructionOutcome, Next, Serial, one, operation_of, next_of, unless as unless_kind}
use Rattle.spec_isa.specs.Runs.{Run, followed, run}
use Rattle.spec_log.specs.declared.LogParts.{LogParts}
use Rattle.spec_log.specs.Size.{size_in}
use Rattle.spec_kernel.specs.Needs.{next_kind}
use Rattle.spec_kernel.specs.Interrupts.{takes_interrupt, interrupted}
use Rattle.spec_play.specs.Effects.{Effect, counted, chunk_effect}
use Rattle.spec_play.specs.Progress.{Progress}
use Rattle.spec_play.specs.declared.used.Used.{Used}
use Rattle.spec_play.specs.Verdicts.{LogVerdict, Goes, Fails, unless, interrupt_at, with_interrupted, ended, chunk_why, chunk_verdict}
use Rattle.spec_play.specs.Touching.{Agree}
use Rattle.spec_strata.specs.Footprints.{looks, IsAlike}
use Rattle.spec_strata.specs.Shares.{Share, next_run}
use Rattle.spec_strata.specs.InPlay.{after_interrupt, number_of, rule_of}
use Rattle.spec_play.proofs.Local.Running.{kind_local}
use Rattle.spec_strata.proofs.Local.Footprints.{looks-touches, alike}

-- ---- the interrupt after it

taken-goes : (o : Option ℕ) (e : Effect) (u : Used) → ((value : ℕ) → o ≡ Some value → takes_interrupt e.thread ≡ true)
    → with_interrupted o e u ≡ Goes (record e { thread = after_interrupt o e.thread }) (record u { interrupts = u.interrupts + number_of o })
taken-goes None e u h = let a : u.interrupts ≡ u.interrupts + 0 = omega arith in (λ i. Goes e (record u { interrupts = a i }))
taken-goes (Some value) e u h =
    let a : suc u.interrupts ≡ u.interrupts + 1 = omega arith in
    rw (h value refl) (λ i. Goes (record e { thread = interrupted value e.thread }) (record u { interrupts = a i }))

goes-taken : (o : Option ℕ) (e f : Effect) (u v : Used) (value : ℕ) → with_interrupted o e u ≡ Goes f v → o ≡ Some value → takes_interrupt e.thread ≡ true
goes-taken None e f u v value goes is = absurd (none-some value is)
goes-taken (Some other) e f u v value goes is =
    elim (cases_Bool (takes_interrupt e.thread)) [
      | inl h ↦ h
      | inr h ↦ (let g : Fails Why.Interrupt ≡ Goes f v = (rw h at goes) in cc)
    ]

-- ---- the verdict

-- its size is as logged, and the thread takes the interrupt that is logged, if one is
pub record IsLogged (log : LogParts) (k : ℕ) (r : Run) : Type 0 where
  pub size : chunk_why (size_in log (Actor.Thread k) r.thread.commits) r.n ≡ None
  pub taken : (value : ℕ) → interrupt_at log.interrupts k (counted r.thread).commits ≡ Some value → takes_interrupt (counted r.thread) ≡ true

-- what a chunk's run leaves, its thread with the interrupt that is logged after it, if any
abbrev pub effect_of : LogParts → (thread : ℕ) → Option Request → Run → Effect
effect_of log k q r = record (chunk_effect k q r) { thread = (rule_of log k).settle r.thread }

-- how much of the log is used after a thread's chunk: one interrupt more if one is logged there
abbrev pub used_of : LogParts → (thread : ℕ) → Run → Used → Used
used_of log k r u = record u { interrupts = u.interrupts + (rule_of log k).raises r.thread }

-- a chunk that is as logged goes, with this effect and this use of the log
pub logged-goes : (log : LogParts) (p : Progress) (u : Used) (k : ℕ) (r : Run) → IsLogged log k r → chunk_verdict log p u k r ≡ Goes (effect_of log k p.request r) (used_of log k r u)
unfolding chunk_verdict
logged-goes log p u k r l =
    ap (λ (o : Option Why). unless o (ended log k (chunk_effect k p.request r) u)) l.size
    ∙ taken-goes (interrupt_at log.interrupts k (counted r.thread).commits) (chunk_effect k p.request r) u l.taken

unless-none : (o : Option Why) (v : LogVerdict) (e : Effect) (u : Used) → unless o v ≡ Goes e u → o ≡ None
unless-none None v e u is = refl
unless-none (Some why) v e u is = cc

-- a chunk that goes is as logged
pub goes-logged : (log : LogParts) (p : Progress) (u v : Used) (k : ℕ) (r : Run) (e : Effect) → chunk_verdict log p u k r ≡ Goes e v → IsLogged log k r
unfolding chunk_verdict
goes-logged log p u v k r e goes =
    let o = chunk_why (size_in log (Actor.Thread k) r.thread.commits) r.n in
    let none : o ≡ None = unless-none o (ended log k (chunk_effect k p.request r) u) e v goes in
    let then_ : ended log k (chunk_effect k p.request r) u ≡ Goes e v = ap (λ (x : Option Why). unless x (ended log k (chunk_effect k p.request r) u)) (sym none) ∙ goes in
    record {
      size = none;
      taken = λ value is. goes-taken (interrupt_at log.interrupts k (counted r.thread).commits) (chunk_effect k p.request r) e u v value then_ is;
    }

-- ---- a size is over 0

-- if the standard size is over 0, so is the size of each chunk that goes
pub some-of : (s : ℕ) (o : Option ℕ) (n : ℕ) → 0 < s → chunk_why o n ≡ None → 0 < elim o [ None ↦ s | Some z ↦ z ]
some-of s None n l e = l
some-of s (Some z) n l e =
    elim (eqb_tells z 0) [
      | inl h ↦ (let g : Some Why.NotSerial ≡ None = (rw h.0 at e) in cc)
      | inr h ↦ (let ne = h.1 in positive z ne)
    ]
  where
    positive : (z : ℕ) → z ≢ 0 → 0 < z
    positive z ne = omega arith

next_commits : (p : Operation) (t : Parts) (w : ℕ) → (thread_then p t w).commits ≡ t.commits
next_commits (Operation.Go rd value pc) t w = refl
next_commits (Operation.Stop kind) t w = refl
next_commits (Operation.Load op rd a) t w = refl
next_commits (Operation.Store op a v) t w = refl
next_commits (Operation.LoadReserved rd a) t w = refl
next_commits (Operation.StoreConditional rd a v) t w = refl
next_commits (Operation.Amo op rd a v) t w = refl

unless_commits : (t : Parts) (o : Option Kind) (next u : Parts) (made load : Option Load) (put_ store : Option Stored) → next.commits ≡ t.commits → unless_kind o (Next next made put_) ≡ Next u load store → u.commits ≡ t.commits
unless_commits t None next u made load put_ store s e = let h : next ≡ u = cc in sym (ap (λ (x : Parts). x.commits) h) ∙ s
unless_commits t (Some kind) next u made load put_ store s e = cc

of_next : (t : Parts) (f w : ℕ) → (next_of t f w).commits ≡ t.commits
unfolding next_of
of_next t f w = next_commits (operation_of t f) t w

one_commits : (t : Parts) (m : List ℕ) (u : Parts) (load : Option Load) (store : Option Stored) → one t m ≡ Next u load store → u.commits ≡ t.commits
unfolding one
one_commits t m u load store e = unless_commits t _ _ u _ load _ store (of_next t _ _) e

followed_commits : (r : Run) (m : List ℕ) (o : InstructionOutcome) → one r.thread m ≡ o → (followed r o).thread.commits ≡ r.thread.commits
followed_commits r m (Serial kind) e = refl
followed_commits r m (Next u load store) e = one_commits r.thread m u load store e

-- a run keeps its thread's number of commits
pub run-commits : (m : List ℕ) (t : Parts) (n : ℕ) → (run m t n).thread.commits ≡ t.commits
run-commits m t zero = refl
run-commits m t (suc n) = followed_commits (run m t n) (lays m (run m t n).words) _ refl ∙ run-commits m t n

-- ---- a commit that goes

-- the thread's next commit on a memory is a chunk, of at least one instruction, and goes as logged
pub record IsGood (log : LogParts) (k : ℕ) (m : List ℕ) (p : Share) : Type 0 where
  pub chunk : next_kind p.thread m ≡ None
  pub some : 0 < (rule_of log k).size p.thread
  pub logged : IsLogged log k (next_run (rule_of log k) m p)

-- a next commit that is a chunk as logged is good if the standard size is over 0
pub make-good : (log : LogParts) (k : ℕ) (m : List ℕ) (p : Share) → 0 < log.s → next_kind p.thread m ≡ None → IsLogged log k (next_run (rule_of log k) m p) → IsGood log k m p
make-good log k m p l chunk logged =
    let c = run-commits m p.thread ((rule_of log k).size p.thread) in
    record {
      chunk = chunk;
      some = some-of log.s (size_in log (Actor.Thread k) p.thread.commits) (next_run (rule_of log k) m p).n l
          (ap (λ (n : ℕ). chunk_why (size_in log (Actor.Thread k) n) (next_run (rule_of log k) m p).n) (sym c) ∙ logged.size);
      logged = logged;
    }

-- so does it on a memory that agrees on what it looks at
pub good-local : (log : LogParts) (k : ℕ) (m n : List ℕ) (p : Share) → Agree (looks m p.thread ((rule_of log k).size p.thread)) m n → IsGood log k m p → IsGood log k n p
good-local log k m n p g good =
    let size : ℕ = (rule_of log k).size p.thread in
    let a : IsAlike m n p.thread size = alike m n p.thread size g in
    record {
      chunk = kind_local (looks m p.thread size) p.thread m n g (looks-touches m p.thread size 0 good.some) ∙ good.chunk;
      some = good.some;
      logged = subst (IsLogged log k) (sym a.same_run) good.logged;
    }
