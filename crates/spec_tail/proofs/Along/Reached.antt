-- What of a log is used once some of its commits are done: the interrupts and the DMAs of these commits, as the threads'
-- numbers and the order tell them.
use Rattle.std.proofs.Common.{◌≡◌, ◌≢◌, ℕ, zero, suc, ◌+◌, ◌<◌, inl, inr, Bool, true, false, cond, List, [], ◌∷◌, ◌++◌, Option, Some, None, refl, sym, ap, ◌∙◌, subst, arith, ◌⊎◌, not}
use Rattle.std.specs.Prelude.{slice_get, slice_set, take, map, nat_lt, nat_le, nat_eq, ◌&&◌}
use Rattle.std.proofs.lemmas.Bool.{cases_Bool, cases_lt, cases_eq, le-ltb, lt-ltb, le-leb, leb-true, eq-eqb, eqb-true, ne_eqb, and_parts, and_left, and_right, false_from_ne_true}
use Rattle.std.proofs.lemmas.Option.{none-some, same_Some}
use Rattle.dl_entry.specs.declared.Actor.{Actor}
use Rattle.dl_entry.specs.declared.End.{End}
use Rattle.dl_entry.specs.declared.Input.{Input}
use Rattle.dl_entry.specs.declared.Request.{Request}
use Rattle.dl_entry.specs.declared.Why.{Why}
use Rattle.spec_isa.specs.declared.thread.Parts.{Parts}
use Rattle.spec_isa.specs.declared.thread.Kind.{Kind}
use Rattle.spec_isa.specs.Runs.{Run, run}
use Rattle.spec_isa.specs.Threads.{started}
use Rattle.spec_isa.specs.Words.{Stored}
use Rattle.spec_log.specs.declared.DmaRecord.{DmaRecord}
use Rattle.spec_log.specs.declared.Interrupt.{Interrupt}
use Rattle.spec_log.specs.declared.LogParts.{LogParts}
use Rattle.spec_log.specs.declared.ModeName.{ModeName}
use Rattle.spec_log.specs.Head.{head_in}
use Rattle.spec_log.specs.Size.{size_in, is_thread}
use Rattle.spec_kernel.specs.Copies.{dma_words}
use Rattle.spec_kernel.specs.Interrupts.{is_live, has_handler, takes_interrupt, interrupted}
use Rattle.spec_kernel.specs.Needs.{Need, next_kind, need}
use Rattle.spec_kernel.specs.Records.{fits}
use Rattle.spec_kernel.specs.Serving.{serve}
use Rattle.spec_play.specs.Effects.{Effect, chunk_effect, serial_effect, dma_commit}
use Rattle.spec_play.specs.Progress.{Progress, position, with_effect, with_dma, with_interrupt, with_input}
use Rattle.spec_play.specs.Spawned.{AreNew}
use Rattle.spec_play.specs.declared.used.Used.{Used}
use Rattle.spec_play.specs.Turns.{TurnOrEnd, Turn, TurnOfDma, Ended, at_end, turn_of_thread, turn_of, has_left_over, next_actor, now_at}
use Rattle.spec_play.specs.Verdicts.{LogVerdict, Goes, Fails, unless, interrupt_at, with_interrupted, ended, chunk_why, chunk_verdict, TakenRecord, given, serial_why, served_verdict, serial_verdict}
use Rattle.spec_play.specs.Transfers.{DmaVerdict, DmaGoes, DmaFails, is_for, transferred, dma_unless, dma_verdict}
use Rattle.spec_play.specs.Plays.{Played, opened, with_threads, settled, size_or_standard, thread_verdict, play_thread, dma_settled, play_turn, play_one, plays}
use Rattle.spec_play.proofs.Positions.{position-more}
use Rattle.spec_play.proofs.Going.{EndsOr, over-stays, plays-go}
use Rattle.spec_play.proofs.Threads.{run-keeps, serve-keeps}
use Rattle.spec_tail.specs.Playing.{commits_of, begun}
use Rattle.spec_isa.specs.Encoding.{bit}
use Rattle.spec_tail.proofs.Along.Tallies.{tally, tally-both, tally-none, tally-same, each-one, number, is_at, Rising, tally-at}

-- ---- a commit of thread k, which was t

-- a thread that an interrupt has reached
pub record IsHandled (t : Parts) : Type 0 where
  pub live : is_live t ≡ true
  pub handler : has_handler t ≡ true

handled-of : (t : Parts) → takes_interrupt t ≡ true → IsHandled t
handled-of t takes =
    let p = and_parts (is_live t && has_handler t) (not t.mask) takes in
    let q = and_parts (is_live t) (has_handler t) p.0 in
    record { live = q.0; handler = q.1 }

pub record IsCommit (log : LogParts) (k : ℕ) (t : Parts) (u : Used) (e : Effect) (v : Used) : Type 0 where
  pub commits : e.thread.commits ≡ suc t.commits
  pub fresh : AreNew e.spawned
  pub interrupts : v.interrupts ≡ u.interrupts + number (interrupt_at log.interrupts k (suc t.commits))
  pub dmas : v.dmas ≡ u.dmas
  pub handled : (value : ℕ) → interrupt_at log.interrupts k (suc t.commits) ≡ Some value → IsHandled e.thread

abbrev pub IfGoes : LogParts → (thread : ℕ) → Parts → Used → LogVerdict → Type 0
IfGoes log k t u (Goes e v) = IsCommit log k t u e v
IfGoes log k t u (Fails why) = Unit {0}

module _ (log : LogParts) (k : ℕ) (t : Parts) (u : Used) where
  unless_goes : (o : Option Why) (v : LogVerdict) → IfGoes log k t u v → IfGoes log k t u (unless o v)
  unless_goes None v goes = goes
  unless_goes (Some why) v goes = tt

  -- before an interrupt
  record IsDone (e : Effect) (v : Used) : Type 0 where
    commits : e.thread.commits ≡ suc t.commits
    fresh : AreNew e.spawned
    interrupts : v.interrupts ≡ u.interrupts
    dmas : v.dmas ≡ u.dmas

  taken_goes : (e : Effect) (v : Used) (value : ℕ) (b : Bool) → takes_interrupt e.thread ≡ b → IsDone e v → interrupt_at log.interrupts k (suc t.commits) ≡ Some value
      → IfGoes log k t u (cond b (Goes (record e { thread = interrupted value e.thread }) (with_interrupt v)) (Fails Why.Interrupt))
  taken_goes e v value true takes done is =
      let one = ap number is in
      let same = done.interrupts in
      let h = handled-of e.thread takes in
      record {
        commits = done.commits;
        fresh = done.fresh;
        interrupts = omega (arith, one, same);
        dmas = done.dmas;
        handled = λ w at. record { live = h.live; handler = h.handler };
      }
  taken_goes e v value false takes done is = tt

  interrupted_goes : (e : Effect) (v : Used) (o : Option ℕ) → IsDone e v → interrupt_at log.interrupts k (suc t.commits) ≡ o → IfGoes log k t u (with_interrupted o e v)
  interrupted_goes e v None done is =
      let none = ap number is in
      let same = done.interrupts in
      record {
        commits = done.commits;
        fresh = done.fresh;
        interrupts = omega (arith, none, same);
        dmas = done.dmas;
        handled = λ w at. absurd (none-some w (sym is ∙ at));
      }
  interrupted_goes e v (Some value) done is = taken_goes e v value (takes_interrupt e.thread) refl done is

  ended_goes : (e : Effect) (v : Used) → IsDone e v → IfGoes log k t u (ended log k e v)
  ended_goes e v done = interrupted_goes e v (interrupt_at log.interrupts k e.thread.commits) done (ap (interrupt_at log.interrupts k) (sym done.commits))

  chunk_goes : (p : Progress) (r : Run) → r.thread.commits ≡ t.commits → IfGoes log k t u (chunk_verdict log p u k r)
  unfolding chunk_verdict
  chunk_goes p r same =
      unless_goes (chunk_why (size_in log (Actor.Thread k) r.thread.commits) r.n) (ended log k (chunk_effect k p.request r) u)
      (ended_goes (chunk_effect k p.request r) u (record { commits = omega (arith, same); fresh = tt; interrupts = refl; dmas = refl }))

  -- a record that is taken is an input
  abbrev IfTaken : Option TakenRecord → Type 0
  IfTaken None = Unit {0}
  IfTaken (Some g) = (g.used.interrupts ≡ u.interrupts) × (g.used.dmas ≡ u.dmas)

  fitting_taken : (r : Input) (b : Bool) → IfTaken (cond b (Some (record { input = Some r; used = with_input u })) None)
  fitting_taken r true = (refl, refl)
  fitting_taken r false = tt

  given_taken : (o : Option Need) (next : Option Input) → IfTaken (given o next u)
  given_taken None next = (refl, refl)
  given_taken (Some need) None = tt
  given_taken (Some need) (Some r) = fitting_taken r (fits need r)

  served_goes : (p : Progress) (ts : List Parts) (m : List ℕ) (o : Option TakenRecord) → IfTaken o → IfGoes log k t u (served_verdict log p k ts t m o)
  served_goes p ts m None taken = tt
  served_goes p ts m (Some g) taken =
      let keeps = serve-keeps log.threads k ts p.request t m g.input in
      let same = keeps.commits in
      ended_goes (serial_effect k (serve log.threads k ts p.request t m g.input)) g.used
      (record { commits = omega (arith, same); fresh = keeps.fresh; interrupts = taken.0; dmas = taken.1 })

  serial_goes : (p : Progress) (ts : List Parts) (m : List ℕ) → IfGoes log k t u (serial_verdict log p u k ts t m)
  unfolding serial_verdict
  serial_goes p ts m =
      let next : Option Input = slice_get log.inputs u.inputs in
      unless_goes (serial_why (size_in log (Actor.Thread k) t.commits)) (served_verdict log p k ts t m (given (need t m) next u))
      (served_goes p ts m (given (need t m) next u) (given_taken (need t m) next))

-- a thread's commit that goes as logged counts as one, takes its interrupt, and uses no DMA
pub verdict_goes : (log : LogParts) (y : Played) (k : ℕ) (t : Parts) (o : Option Kind) → IfGoes log k t y.used (thread_verdict log y k t o)
verdict_goes log y k t None =
    let n = size_or_standard log k t.commits in
    chunk_goes log k t y.used y.progress (run y.memory t n) (run-keeps y.memory t n)
verdict_goes log y k t (Some kind) = serial_goes log k t y.used y.progress y.threads y.memory

-- ---- the threads' commits

begun-at : (ts : List Parts) (k : ℕ) (t : Parts) → slice_get ts k ≡ Some t → begun ts k ≡ t.commits
begun-at ts k t is = ap commits_of is

begun-new : (ts : List Parts) (k : ℕ) → AreNew ts → begun ts k ≡ 0
begun-new [] k new = refl
begun-new (t ∷ ts) zero new = new.0.commits
begun-new (t ∷ ts) (suc k) new = begun-new ts k new.1

begun-append : (ts us : List Parts) (k : ℕ) → AreNew us → begun (ts ++ us) k ≡ begun ts k
begun-append [] us k new = begun-new us k new
begun-append (t ∷ ts) us zero new = refl
begun-append (t ∷ ts) us (suc k) new = begun-append ts us k new

begun-set_same : (ts : List Parts) (k : ℕ) (t u : Parts) → slice_get ts k ≡ Some t → begun (slice_set ts k u) k ≡ u.commits
begun-set_same [] k t u is = absurd (none-some t is)
begun-set_same (x ∷ ts) zero t u is = refl
begun-set_same (x ∷ ts) (suc k) t u is = begun-set_same ts k t u is

begun-set_other : (ts : List Parts) (k j : ℕ) (u : Parts) → j ≢ k → begun (slice_set ts k u) j ≡ begun ts j
begun-set_other [] k j u other = refl
begun-set_other (x ∷ ts) zero zero u other = absurd (other refl)
begun-set_other (x ∷ ts) zero (suc j) u other = refl
begun-set_other (x ∷ ts) (suc k) zero u other = refl
begun-set_other (x ∷ ts) (suc k) (suc j) u other = begun-set_other ts k j u (λ e. other (ap suc e))

get-new : (ts : List Parts) (j : ℕ) (q : Parts) → AreNew ts → slice_get ts j ≡ Some q → q.commits ≡ 0
get-new [] j q new is = absurd (none-some q is)
get-new (t ∷ ts) zero q new is = ap (λ (x : Parts). x.commits) (sym (same_Some t q is)) ∙ new.0.commits
get-new (t ∷ ts) (suc j) q new is = get-new ts j q new.1 is

-- whose thread it is after a commit of thread k, which is u now
abbrev WasThread : List Parts → (k : ℕ) → Parts → (j : ℕ) → Parts → Type 0
WasThread ts k u j q = ((j ≡ k) × (q ≡ u)) ⊎ (slice_get ts j ≡ Some q) ⊎ (q.commits ≡ 0)

get-append : (ts new : List Parts) (k : ℕ) (u : Parts) (j : ℕ) (q : Parts) → AreNew new → slice_get (ts ++ new) j ≡ Some q → (slice_get ts j ≡ Some q) ⊎ (q.commits ≡ 0)
get-append [] new k u j q fresh is = inr (get-new new j q fresh is)
get-append (t ∷ ts) new k u zero q fresh is = inl is
get-append (t ∷ ts) new k u (suc j) q fresh is = get-append ts new k u j q fresh is

was-thread : (ts new : List Parts) (k : ℕ) (u : Parts) (j : ℕ) (q : Parts) → AreNew new → slice_get (slice_set ts k u ++ new) j ≡ Some q → WasThread ts k u j q
was-thread [] new k u j q fresh is = inr (inr (get-new new j q fresh is))
was-thread (t ∷ ts) new zero u zero q fresh is = inl (refl, sym (same_Some u q is))
was-thread (t ∷ ts) new zero u (suc j) q fresh is = inr (get-append ts new zero u j q fresh is)
was-thread (t ∷ ts) new (suc k) u zero q fresh is = inr (inl is)
was-thread (t ∷ ts) new (suc k) u (suc j) q fresh is =
    elim (was-thread ts new k u j q fresh is) [
      | inl own ↦ inl (ap suc own.0, own.1)
      | inr other ↦ inr other
    ]

-- thread k has done one commit more, and no other has
record IsOneMore (ts us : List Parts) (k : ℕ) : Type 0 where
  own : begun us k ≡ suc (begun ts k)
  other : (j : ℕ) → j ≢ k → begun us j ≡ begun ts j

one-more : (log : LogParts) (ts : List Parts) (k : ℕ) (t : Parts) (u v : Used) (e : Effect) → slice_get ts k ≡ Some t → IsCommit log k t u e v → IsOneMore ts (with_threads k e ts) k
one-more log ts k t u v e is goes =
    let set : List Parts = slice_set ts k e.thread in
    record {
      own = begun-append set e.spawned k goes.fresh ∙ begun-set_same ts k t e.thread is ∙ goes.commits ∙ ap suc (sym (begun-at ts k t is));
      other = λ j ne. begun-append set e.spawned j goes.fresh ∙ begun-set_other ts k j e.thread ne;
    }

-- ---- the interrupts

-- an interrupt of a commit that is done
abbrev pub is_reached : List Parts → Interrupt → Bool
is_reached ts x = nat_lt 0 x.index && nat_le x.index (begun ts x.thread)

last-reached : (i n : ℕ) → bit (nat_lt 0 i && nat_le i (suc n)) ≡ bit (nat_lt 0 i && nat_le i n) + bit (nat_eq i (suc n))
last-reached i n =
    elim (cases_eq i (suc n)) [
      | inl e ↦ (
          let a : nat_le i (suc n) ≡ true = le-leb i (suc n) (omega (arith, e)) in
          let b : nat_lt 0 i ≡ true = lt-ltb 0 i (omega (arith, e)) in
          let c : nat_le i n ≡ false = false_from_ne_true (nat_le i n) (λ h. let l = leb-true i n h in omega (arith, l, e)) in
          let d : nat_eq i (suc n) ≡ true = eq-eqb i (suc n) e in
          rw (a, b, c, d) refl
          )
      | inr ne ↦ (
          let d : nat_eq i (suc n) ≡ false = ne_eqb i (suc n) ne in
          elim (cases_lt n i) [
            | inl past ↦ (
                let a : nat_le i (suc n) ≡ false = false_from_ne_true (nat_le i (suc n)) (λ h. let l = leb-true i (suc n) h in ne (omega (arith, l, past))) in
                let c : nat_le i n ≡ false = false_from_ne_true (nat_le i n) (λ h. let l = leb-true i n h in omega (arith, l, past)) in
                rw (a, c, d) (none (nat_lt 0 i))
                )
            | inr within ↦ (
                let a : nat_le i (suc n) ≡ true = le-leb i (suc n) (omega (arith, within)) in
                let c : nat_le i n ≡ true = le-leb i n within in
                rw (a, c, d) (let m = bit (nat_lt 0 i && true) in omega arith)
                )
          ]
          )
    ]
  where
    none : (b : Bool) → bit (b && false) ≡ bit (b && false) + 0
    none b = omega arith

reached-one : (ts us : List Parts) (k : ℕ) → IsOneMore ts us k → (x : Interrupt) → bit (is_reached us x) + 0 ≡ bit (is_reached ts x) + bit (is_at k (suc (begun ts k)) x)
reached-one ts us k more x =
    elim (cases_eq x.thread k) [
      | inl e ↦ (
          let a : begun us x.thread ≡ suc (begun ts k) = ap (begun us) e ∙ more.own in
          let b : begun ts x.thread ≡ begun ts k = ap (begun ts) e in
          let c : nat_eq x.thread k ≡ true = eq-eqb x.thread k e in
          rw (a, b, c) (let h = last-reached x.index (begun ts k) in omega (arith, h))
          )
      | inr ne ↦ (
          let a : begun us x.thread ≡ begun ts x.thread = more.other x.thread ne in
          let c : nat_eq x.thread k ≡ false = ne_eqb x.thread k ne in
          rw (a, c) refl
          )
    ]

reached-more : (ts us : List Parts) (k : ℕ) (xs : List Interrupt) → IsOneMore ts us k → tally (is_reached us) xs ≡ tally (is_reached ts) xs + tally (is_at k (suc (begun ts k))) xs
reached-more ts us k xs more =
    let none = tally-none xs in
    let both = tally-both (is_reached us) (λ x. false) (is_reached ts) (is_at k (suc (begun ts k))) xs (each-one _ xs (reached-one ts us k more)) in
    omega (arith, none, both)

-- ---- the order

turn-thread : (i j k : ℕ) (t : Parts) (b : Bool) → cond b (Turn j) (Ended (End.Diverged i Why.NoThread)) ≡ Turn k → j ≡ k
turn-thread i j k t true e = cc
turn-thread i j k t false e = cc

turn-there : (i j k : ℕ) (o : Option Parts) → turn_of_thread i j o ≡ Turn k → j ≡ k
turn-there i j k None e = cc
turn-there i j k (Some t) e = turn-thread i j k t (is_live t) e

turn-named : (i k : ℕ) (ts : List Parts) (o : Option Actor) → turn_of i ts o ≡ Turn k → o ≡ Some (Actor.Thread k)
turn-named i k ts None e = cc
turn-named i k ts (Some Actor.Dma) e = cc
turn-named i k ts (Some (Actor.Thread j)) e = ap (λ (n : ℕ). Some (Actor.Thread n)) (turn-there i j k (slice_get ts j) e)

no-dma : (i j : ℕ) (o : Option Parts) → turn_of_thread i j o ≡ TurnOfDma → {A : Type 0} → A
no-dma i j None e = cc
no-dma i j (Some t) e = either (is_live t) e where
  either : (b : Bool) → cond b (Turn j) (Ended (End.Diverged i Why.NoThread)) ≡ TurnOfDma → {A : Type 0} → A
  either true e = cc
  either false e = cc

dma-named : (i : ℕ) (ts : List Parts) (o : Option Actor) → turn_of i ts o ≡ TurnOfDma → o ≡ Some Actor.Dma
dma-named i ts None e = cc
dma-named i ts (Some Actor.Dma) e = refl
dma-named i ts (Some (Actor.Thread j)) e = no-dma i j (slice_get ts j) e

no-turn : (i : ℕ) (left : Bool) (now : TurnOrEnd) → at_end i left ≡ now → ((how : End) → now ≡ Ended how → ⊥) → {A : Type 0} → A
no-turn i true now e going = absurd (going (End.Diverged i Why.LeftOver) (sym e))
no-turn i false now e going = absurd (going (End.Complete i) (sym e))

turn-below : (below left : Bool) (i : ℕ) (turn now : TurnOrEnd) → cond below turn (at_end i left) ≡ now → ((how : End) → now ≡ Ended how → ⊥) → turn ≡ now
turn-below true left i turn now e going = e
turn-below false left i turn now e going = no-turn i left now e going

next-named : (log : LogParts) (p : Progress) (u : Used) (ts : List Parts) (k : ℕ) → now_at log p u ts ≡ Turn k → next_actor log p ts ≡ Some (Actor.Thread k)
unfolding now_at
next-named log p u ts k e =
    turn-named (position p) k ts (next_actor log p ts)
    (turn-below (nat_lt (position p) log.count) (has_left_over log u ts) (position p) (turn_of (position p) ts (next_actor log p ts)) (Turn k) e (λ how f. cc))

next-dma : (log : LogParts) (p : Progress) (u : Used) (ts : List Parts) → now_at log p u ts ≡ TurnOfDma → next_actor log p ts ≡ Some Actor.Dma
unfolding now_at
next-dma log p u ts e =
    dma-named (position p) ts (next_actor log p ts)
    (turn-below (nat_lt (position p) log.count) (has_left_over log u ts) (position p) (turn_of (position p) ts (next_actor log p ts)) TurnOfDma e (λ how f. cc))

-- the order says it
ordered : (log : LogParts) (p : Progress) (ts : List Parts) (a : Actor) → log.mode ≡ ModeName.OrderSize → next_actor log p ts ≡ Some a → slice_get log.order (position p) ≡ Some a
ordered log p ts a mode is = sym (ap (λ (m : ModeName). head_in m log (position p) p.last (map is_live ts)) mode) ∙ is

take-more : {X : Type 0} (f : X → Bool) (xs : List X) (i : ℕ) (x : X) → slice_get xs i ≡ Some x → tally f (take (suc i) xs) ≡ tally f (take i xs) + bit (f x)
take-more f [] i x is = absurd (none-some x is)
take-more f (y ∷ ys) zero x is = let same : y ≡ x = cc in let h = ap (λ (z : _). bit (f z)) same in omega (arith, h)
take-more f (y ∷ ys) (suc i) x is = let h = take-more f ys i x is in omega (arith, h)

-- ---- what a play has reached

-- a thread has taken the interrupt that is logged for the commits that it has done
abbrev pub AreHandled : LogParts → List Parts → Type 0
AreHandled log ts = (k value : ℕ) (t : Parts) → slice_get ts k ≡ Some t → 0 < t.commits → interrupt_at log.interrupts k t.commits ≡ Some value → IsHandled t

-- in a log that names each commit's actor and size, a thread's commits are those that the order gives it
pub record IsReached (log : LogParts) (z : Played) : Type 0 where
  pub interrupts : z.used.interrupts ≡ tally (is_reached z.threads) log.interrupts
  pub dmas : (j : ℕ) (d : DmaRecord) → j < z.used.dmas → slice_get log.dmas j ≡ Some d → d.position < position z.progress
  pub order : log.mode ≡ ModeName.OrderSize → (k : ℕ) → begun z.threads k ≡ tally (is_thread k) (take (position z.progress) log.order)
  pub handled : AreHandled log z.threads

over_reached : (log : LogParts) (y : Played) (how : End) → IsReached log y → IsReached log (record y { now = Ended how })
over_reached log y how r = record { interrupts = r.interrupts; dmas = r.dmas; order = r.order; handled = r.handled }

thread-order : (log : LogParts) (y : Played) (us : List Parts) (k n : ℕ) → IsOneMore y.threads us k → n ≡ suc (position y.progress) → log.mode ≡ ModeName.OrderSize → slice_get log.order (position y.progress) ≡ Some (Actor.Thread k) → IsReached log y
    → (j : ℕ) → begun us j ≡ tally (is_thread j) (take n log.order)
thread-order log y us k n more next mode is r j =
    let i = position y.progress in
    let before = r.order mode j in
    let grown : tally (is_thread j) (take n log.order) ≡ tally (is_thread j) (take i log.order) + bit (nat_eq k j) =
    ap (λ (m : ℕ). tally (is_thread j) (take m log.order)) next ∙ take-more (is_thread j) log.order i (Actor.Thread k) is in
    elim (cases_eq j k) [
      | inl e ↦ (
          let a : begun us j ≡ suc (begun y.threads j) = subst (λ (m : ℕ). begun us m ≡ suc (begun y.threads m)) (sym e) more.own in
          let b : bit (nat_eq k j) ≡ 1 = ap bit (eq-eqb k j (sym e)) in
          omega (arith, before, grown, a, b)
          )
      | inr ne ↦ (
          let a = more.other j ne in
          let b : bit (nat_eq k j) ≡ 0 = ap bit (ne_eqb k j (λ e. ne (sym e))) in
          omega (arith, before, grown, a, b)
          )
    ]

-- ---- the DMA that a play uses

transferred-for : (i : ℕ) (request : Option Request) (d : DmaRecord) (words : List Stored) → transferred i request (Some d) ≡ DmaGoes words → d.position ≡ i
transferred-for i None d words e = cc
transferred-for i (Some q) d words e =
    elim (cases_Bool (is_for i q d)) [
      | inl yes_ ↦ eqb-true d.position i (and_parts (nat_eq d.position i) _ yes_).0
      | inr no_ ↦ absurd (fails (sym (ap (λ (b : Bool). cond b (DmaGoes (dma_words q d.bytes)) (DmaFails Why.Dma)) no_) ∙ e))
    ]
  where
    fails : DmaFails Why.Dma ≡ DmaGoes words → ⊥
    fails e = cc

unless-for : (i : ℕ) (o : Option Why) (request : Option Request) (d : DmaRecord) (words : List Stored) → dma_unless o (transferred i request (Some d)) ≡ DmaGoes words → d.position ≡ i
unless-for i None request d words e = transferred-for i request d words e
unless-for i (Some why) request d words e = cc

-- a DMA that goes as logged takes a record that is logged for its position
pub verdict-for : (log : LogParts) (p : Progress) (u : Used) (d : DmaRecord) (words : List Stored) → slice_get log.dmas u.dmas ≡ Some d → dma_verdict log p u ≡ DmaGoes words → d.position ≡ position p
unfolding dma_verdict
verdict-for log p u d words is e =
    let why = serial_why (size_in log Actor.Dma (position p)) in
    unless-for (position p) why p.request d words
    (sym (ap (λ (o : Option DmaRecord). dma_unless why (transferred (position p) p.request o)) is) ∙ e)

handled-more : (log : LogParts) (ts : List Parts) (k : ℕ) (t : Parts) (u v : Used) (e : Effect) → IsCommit log k t u e v → AreHandled log ts → AreHandled log (with_threads k e ts)
handled-more log ts k t u v e goes old j value q is some_ at =
    elim (was-thread ts e.spawned k e.thread j q goes.fresh is) [
      | inl own ↦ subst IsHandled (sym own.1)
          (goes.handled value (ap (interrupt_at log.interrupts k) (sym goes.commits) ∙ ap (λ (x : Parts). interrupt_at log.interrupts k x.commits) (sym own.1) ∙ ap (λ (i : ℕ). interrupt_at log.interrupts i q.commits) (sym own.0) ∙ at))
      | inr other ↦ elim other [
        | inl before ↦ old j value q before some_ at
        | inr none ↦ absurd (omega (arith, none, some_))
      ]
    ]

module _ (log : LogParts) (rising : Rising log.interrupts) where
  settled_reached : (y : Played) (k : ℕ) (t : Parts) (v : LogVerdict) → slice_get y.threads k ≡ Some t → next_actor log y.progress y.threads ≡ Some (Actor.Thread k) → IfGoes log k t y.used v → IsReached log y → IsReached log (settled log y k v)
  settled_reached y k t (Fails why) is named goes r = over_reached log y (End.Diverged (position y.progress) why) r
  settled_reached y k t (Goes e u) is named goes r =
      let us : List Parts = with_threads k e y.threads in
      let more : IsOneMore y.threads us k = one-more log y.threads k t y.used u e is goes in
      let n = position-more y.progress e.commit in
      let before = r.interrupts in
      let taken = goes.interrupts in
      let own = ap suc (begun-at y.threads k t is) in
      let grown = reached-more y.threads us k log.interrupts more in
      let one = tally-at k (suc (begun y.threads k)) log.interrupts rising in
      let same = ap (λ (c : ℕ). number (interrupt_at log.interrupts k c)) own in
      record {
        interrupts = omega (arith, before, taken, grown, one, same);
        dmas = λ j d l at. (let same_dmas = goes.dmas in let h = r.dmas j d (omega (arith, l, same_dmas)) at in omega (arith, h, n));
        order = λ mode j. thread-order log y us k (position (with_effect k e y.progress)) more n mode (ordered log y.progress y.threads (Actor.Thread k) mode named) r j;
        handled = handled-more log y.threads k t y.used u e goes r.handled;
      }

  thread_reached : (y : Played) (k : ℕ) (o : Option Parts) → slice_get y.threads k ≡ o → next_actor log y.progress y.threads ≡ Some (Actor.Thread k) → IsReached log y → IsReached log (play_thread log y k o)
  thread_reached y k None is named r = r
  thread_reached y k (Some t) is named r =
      let kind = next_kind t y.memory in settled_reached y k t (thread_verdict log y k t kind) is named (verdict_goes log y k t kind) r

  dma-order : (y : Played) (n : ℕ) → n ≡ suc (position y.progress) → log.mode ≡ ModeName.OrderSize → slice_get log.order (position y.progress) ≡ Some Actor.Dma → IsReached log y → (j : ℕ) → begun y.threads j ≡ tally (is_thread j) (take n log.order)
  dma-order y n next mode is r j =
      let i = position y.progress in
      let before = r.order mode j in
      let grown : tally (is_thread j) (take n log.order) ≡ tally (is_thread j) (take i log.order) + 0 =
      ap (λ (m : ℕ). tally (is_thread j) (take m log.order)) next ∙ take-more (is_thread j) log.order i Actor.Dma is in
      omega (arith, before, grown)

  dma_reached : (y : Played) (v : DmaVerdict) → dma_verdict log y.progress y.used ≡ v → next_actor log y.progress y.threads ≡ Some Actor.Dma → IsReached log y → IsReached log (dma_settled log y v)
  dma_reached y (DmaFails why) is named r = over_reached log y (End.Diverged (position y.progress) why) r
  dma_reached y (DmaGoes words) is named r =
      let n = position-more y.progress dma_commit in
      record {
        interrupts = r.interrupts;
        dmas = λ j d l at. elim (cases_lt j y.used.dmas) [
          | inl less ↦ (let h = r.dmas j d less at in omega (arith, h, n))
          | inr most ↦ (
              let same : j ≡ y.used.dmas = omega (arith, l, most) in
              let there : slice_get log.dmas y.used.dmas ≡ Some d = ap (slice_get log.dmas) (sym same) ∙ at in
              let h = verdict-for log y.progress y.used d words there is in omega (arith, h, n)
              )
        ];
        order = λ mode j. dma-order y (position (with_dma y.progress)) n mode (ordered log y.progress y.threads Actor.Dma mode named) r j;
        handled = r.handled;
      }

  now_reached : (y : Played) (now : TurnOrEnd) → now_at log y.progress y.used y.threads ≡ now → IsReached log y → IsReached log (play_turn log y now)
  now_reached y (Ended how) is r = r
  now_reached y TurnOfDma is r = dma_reached y (dma_verdict log y.progress y.used) refl (next-dma log y.progress y.used y.threads is) r
  now_reached y (Turn k) is r = thread_reached y k (slice_get y.threads k) refl (next-named log y.progress y.used y.threads k is) r

  one_reached : (y : Played) (i : ℕ) → EndsOr log y i → IsReached log y → IsReached log (play_one log y)
  unfolding play_one
  one_reached y i (inl over) r = subst (IsReached log) (sym (over-stays log y over.0 over.1)) r
  one_reached y i (inr goes) r = now_reached y y.now goes.now r

  opened_reached : (memory : List ℕ) (entry : ℕ) → IsReached log (opened log memory entry)
  opened_reached memory entry =
      let y = opened log memory entry in
      record {
        interrupts = sym (none-reached log.interrupts);
        dmas = λ j d l at. absurd (omega (arith, l));
        order = λ mode k. none-begun k;
        handled = λ k value t is some_ at. (let c = none-done k t is in absurd (omega (arith, c, some_)));
      }
    where
      none-begun : (k : ℕ) → begun (opened log memory entry).threads k ≡ 0
      none-begun zero = refl
      none-begun (suc k) = refl

      none-done : (k : ℕ) (t : Parts) → slice_get (opened log memory entry).threads k ≡ Some t → t.commits ≡ 0
      none-done zero t is = ap (λ (x : Parts). x.commits) (sym (same_Some (started entry) t is))
      none-done (suc k) t is = absurd (none-some t is)

      never : (i n : ℕ) → n ≡ 0 → (nat_lt 0 i && nat_le i n) ≡ false
      never i n none = elim (cases_lt 0 i) [
        | inl some_ ↦ and_right (nat_lt 0 i) (nat_le i n) (false_from_ne_true (nat_le i n) (λ h. let l = leb-true i n h in omega (arith, l, some_, none)))
        | inr most ↦ and_left (nat_lt 0 i) (nat_le i n) (le-ltb 0 i most)
      ]

      none-reached : (xs : List Interrupt) → tally (is_reached (opened log memory entry).threads) xs ≡ 0
      none-reached xs = tally-same (is_reached (opened log memory entry).threads) (λ x. false) xs (each-one _ xs (λ x. never x.index (begun (opened log memory entry).threads x.thread) (none-begun x.thread))) ∙ tally-none xs

  -- after any number of commits of the log's play on an image
  pub plays-reached : (memory : List ℕ) (entry i : ℕ) → IsReached log (plays log (opened log memory entry) i)
  plays-reached memory entry zero = opened_reached memory entry
  plays-reached memory entry (suc i) =
      one_reached (plays log (opened log memory entry) i) i (plays-go log memory entry i) (plays-reached memory entry i)
