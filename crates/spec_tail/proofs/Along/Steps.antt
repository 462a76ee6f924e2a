-- Two plays go along: the log of the one says from its first commit on what the other's says from some commit on.
use Rattle.std.proofs.Common.{◌≡◌, ℕ, zero, suc, ◌+◌, ◌<◌, ◌≤◌, inl, inr, Bool, true, false, cond, List, [], ◌∷◌, ◌++◌, length, Option, Some, None, refl, sym, ap, ◌∙◌, arith}
use Rattle.std.specs.Prelude.{slice_get, slice_set, option_map, map, nat_lt}
use Rattle.std.proofs.lemmas.Bool.{cases_lt, le-ltb, lt-ltb}
use Rattle.std.proofs.lemmas.List.{length-append}
use Rattle.std.proofs.Math.ListN.{length-set}
use Rattle.dl_entry.specs.declared.Actor.{Actor}
use Rattle.dl_entry.specs.declared.End.{End}
use Rattle.dl_entry.specs.declared.Input.{Input}
use Rattle.dl_entry.specs.declared.Request.{Request}
use Rattle.dl_entry.specs.declared.Why.{Why}
use Rattle.spec_isa.specs.declared.thread.Parts.{Parts}
use Rattle.spec_isa.specs.declared.thread.Kind.{Kind}
use Rattle.spec_isa.specs.Words.{lays}
use Rattle.spec_isa.specs.Runs.{Run, run}
use Rattle.spec_log.specs.declared.LogParts.{LogParts}
use Rattle.spec_log.specs.Head.{head}
use Rattle.spec_log.specs.Size.{size_in}
use Rattle.spec_kernel.specs.Interrupts.{is_live, takes_interrupt, interrupted}
use Rattle.spec_kernel.specs.Needs.{Need, next_kind, need}
use Rattle.spec_kernel.specs.Records.{fits}
use Rattle.spec_kernel.specs.Serving.{StepResult, serve}
use Rattle.spec_play.specs.Effects.{Effect, chunk_effect, serial_effect}
use Rattle.spec_play.specs.Progress.{Progress, position, with_effect, with_dma, with_interrupt, with_input, with_dma_used}
use Rattle.spec_play.specs.declared.used.Used.{Used}
use Rattle.spec_play.specs.Turns.{TurnOrEnd, Turn, TurnOfDma, Ended, has_left_over, at_end, turn_of_thread, turn_of, next_actor, now_at}
use Rattle.spec_play.specs.Verdicts.{LogVerdict, Goes, Fails, unless, interrupt_at, with_interrupted, ended, chunk_why, chunk_verdict, serial_why, TakenRecord, given, served_verdict, serial_verdict}
use Rattle.spec_play.specs.Transfers.{DmaVerdict, DmaGoes, DmaFails, transferred, dma_unless, dma_verdict}
use Rattle.spec_play.specs.Plays.{Played, with_threads, settled, size_or_standard, thread_verdict, play_thread, dma_settled, play_turn, play_one, plays}
use Rattle.spec_tail.specs.Playing.{counted_from}
use Rattle.spec_tail.specs.Promise.{turn_from}
use Rattle.spec_tail.proofs.Along.Recounted.{recounted, either, run_recounted, run-same, kind-same, need-same, get-counted, live-counted, serve-same}

-- ---- the logs

-- threads that come later have begun with no commit
abbrev pub Covers : (begun : ℕ → ℕ) → List Parts → Type 0
Covers begun ts = (k : ℕ) → length ts ≤ k → begun k ≡ 0

-- all that is used of each kind: what was used before, and what has been used since
abbrev pub after : (before u : Used) → Used
after b u = record { inputs = b.inputs + u.inputs; interrupts = b.interrupts + u.interrupts; dmas = b.dmas + u.dmas }

-- the rest says what the log says after so many commits, of which each thread has done some, and with so much of it used
pub record IsAlike (log rest : LogParts) (base : ℕ) (begun : ℕ → ℕ) (before : Used) : Type 0 where
  pub threads : log.threads ≡ rest.threads
  pub s : log.s ≡ rest.s
  pub count : log.count ≡ base + rest.count
  pub heads : (i : ℕ) (last : Option ℕ) (live : List Bool) → i < rest.count → head log (base + i) last live ≡ head rest i last live
  pub sizes : (k i : ℕ) → size_in log (Actor.Thread k) (begun k + i) ≡ size_in rest (Actor.Thread k) i
  pub dma_sizes : (i : ℕ) → size_in log Actor.Dma (base + i) ≡ size_in rest Actor.Dma i
  pub interrupts : (k i : ℕ) → interrupt_at log.interrupts k (begun k + suc i) ≡ interrupt_at rest.interrupts k (suc i)
  pub inputs : (j : ℕ) → slice_get log.inputs (before.inputs + j) ≡ slice_get rest.inputs j
  pub transfers : (i j : ℕ) (request : Option Request) → i < rest.count
      → transferred (base + i) request (slice_get log.dmas (before.dmas + j)) ≡ transferred i request (slice_get rest.dmas j)
  pub left : (u : Used) (ts : List Parts) → Covers begun ts → has_left_over log (after before u) (counted_from begun 0 ts) ≡ has_left_over rest u ts

-- ---- the plays

-- the progress with its first commit so many positions later
abbrev pub progress_lifted : (base : ℕ) → Progress → Progress
progress_lifted base p = record p { first = base + p.first }

-- a play of the rest as it is among the log's
abbrev pub lifted : (base : ℕ) → (begun : ℕ → ℕ) → (before : Used) → Played → Played
lifted base begun before w =
    record {
      memory = w.memory;
      threads = counted_from begun 0 w.threads;
      progress = progress_lifted base w.progress;
      used = after before w.used;
      now = turn_from base w.now;
    }

-- a DMA has its turn only before the end
pub record IsFit (rest : LogParts) (begun : ℕ → ℕ) (w : Played) : Type 0 where
  pub covers : Covers begun w.threads
  pub turn : w.now ≡ TurnOfDma → position w.progress < rest.count

-- ---- threads

-- a thread may be set before or after all are recounted, with the same result
pub set-counted : (begun : ℕ → ℕ) (j : ℕ) (ts : List Parts) (k : ℕ) (t : Parts) → slice_set (counted_from begun j ts) k (recounted (begun (j + k)) t) ≡ counted_from begun j (slice_set ts k t)
set-counted begun j [] k t = refl
set-counted begun j (u ∷ ts) zero t =
    let h : j + 0 ≡ j = omega arith in
    ap (λ (i : ℕ). recounted (begun i) t ∷ counted_from begun (suc j) ts) h
set-counted begun j (u ∷ ts) (suc k) t =
    let h : j + suc k ≡ suc j + k = omega arith in
    ap (λ (i : ℕ). recounted (begun j) u ∷ slice_set (counted_from begun (suc j) ts) k (recounted (begun i) t)) h
    ∙ ap (λ (us : List Parts). recounted (begun j) u ∷ us) (set-counted begun (suc j) ts k t)

recounted-none : (b : ℕ) (t : Parts) → b ≡ 0 → recounted b t ≡ t
recounted-none b t none = let h : b + t.commits ≡ t.commits = omega (arith, none) in ap (λ (n : ℕ). record t { commits = n }) h

new-counted : (begun : ℕ → ℕ) (j : ℕ) (ts : List Parts) → ((k : ℕ) → j ≤ k → begun k ≡ 0) → counted_from begun j ts ≡ ts
new-counted begun j [] none = refl
new-counted begun j (t ∷ ts) none =
    ap (λ (u : Parts). u ∷ counted_from begun (suc j) ts) (recounted-none (begun j) t (none j (omega arith)))
    ∙ ap (λ (us : List Parts). t ∷ us) (new-counted begun (suc j) ts (λ k l. none k (omega (arith, l))))

-- threads appended after the base keep their own counts when the others are recounted
pub append-counted : (begun : ℕ → ℕ) (j : ℕ) (ts us : List Parts) → ((k : ℕ) → j + length ts ≤ k → begun k ≡ 0) → counted_from begun j (ts ++ us) ≡ counted_from begun j ts ++ us
append-counted begun j [] us none = new-counted begun j us (λ k l. none k (omega (arith, l)))
append-counted begun j (t ∷ ts) us none =
    ap (λ (xs : List Parts). recounted (begun j) t ∷ xs) (append-counted begun (suc j) ts us (λ k l. none k (omega (arith, l))))

-- ---- one commit

-- adding the same number to both sides doesn't change which is less
pub ltb-shift : (b i n : ℕ) → nat_lt (b + i) (b + n) ≡ nat_lt i n
ltb-shift b i n =
    elim (cases_lt i n) [
      | inl less ↦ lt-ltb (b + i) (b + n) (omega (arith, less)) ∙ sym (lt-ltb i n less)
      | inr most ↦ le-ltb (b + i) (b + n) (omega (arith, most)) ∙ sym (le-ltb i n most)
    ]

-- if the first commit is so many positions later, so is the position of the progress
pub position-lifted : (base : ℕ) (p : Progress) → position (progress_lifted base p) ≡ base + position p
position-lifted base p = omega arith

-- a play that ends so many positions later ends in the same way there
pub end-lifted : (base i : ℕ) (left : Bool) → at_end (base + i) left ≡ turn_from base (at_end i left)
end-lifted base i true = refl
end-lifted base i false = refl

thread-turn-lifted : (base i k b : ℕ) (o : Option Parts) → turn_of_thread (base + i) k (option_map (recounted b) o) ≡ turn_from base (turn_of_thread i k o)
thread-turn-lifted base i k b None = refl
thread-turn-lifted base i k b (Some t) =
    either (turn_from base) (is_live t) (Turn k) (Ended (End.Diverged i Why.NoThread)) (Turn k) (Ended (End.Diverged (base + i) Why.NoThread)) refl refl

-- the turn of an actor is the same so many positions later, with commits counted from elsewhere
pub turn-lifted : (base i : ℕ) (begun : ℕ → ℕ) (ts : List Parts) (o : Option Actor) → turn_of (base + i) (counted_from begun 0 ts) o ≡ turn_from base (turn_of i ts o)
turn-lifted base i begun ts None = refl
turn-lifted base i begun ts (Some Actor.Dma) = refl
turn-lifted base i begun ts (Some (Actor.Thread k)) =
    ap (turn_of_thread (base + i) k) (get-counted begun 0 ts k) ∙ thread-turn-lifted base i k (begun (0 + k)) (slice_get ts k)

-- the same effect of a commit, with its thread at so many commits more
abbrev pub effect_recounted : (before : ℕ) → Effect → Effect
effect_recounted b e = record e { thread = recounted b e.thread }

module _ (log rest : LogParts) (base : ℕ) (begun : ℕ → ℕ) (before : Used) (alike : IsAlike log rest base begun before) where
  abbrev lift : Played → Played
  lift w = lifted base begun before w

  abbrev verdict_lifted : (thread : ℕ) → LogVerdict → LogVerdict
  verdict_lifted k (Goes e u) = Goes (effect_recounted (begun k) e) (after before u)
  verdict_lifted k (Fails why) = Fails why

  pub now-lifted : (p : Progress) (u : Used) (ts : List Parts) → Covers begun ts → now_at log (progress_lifted base p) (after before u) (counted_from begun 0 ts) ≡ turn_from base (now_at rest p u ts)
  unfolding now_at
  now-lifted p u ts covers =
      let us = counted_from begun 0 ts in
      let by : ℕ → List Bool → TurnOrEnd = (λ i live. cond (nat_lt i log.count) (turn_of i us (head log i p.last live)) (at_end i (has_left_over log (after before u) us))) in
      ap (λ (i : ℕ). by i (map is_live us)) (position-lifted base p)
      ∙ ap (by (base + position p)) (live-counted begun 0 ts)
      ∙ ap (λ (b : Bool). cond b (turn_of (base + position p) us (head log (base + position p) p.last (map is_live ts))) (at_end (base + position p) (has_left_over log (after before u) us)))
      (ap (nat_lt (base + position p)) alike.count ∙ ltb-shift base (position p) rest.count)
      ∙ (elim (cases_lt (position p) rest.count) [
        | inl less ↦ (
            let t : nat_lt (position p) rest.count ≡ true = lt-ltb (position p) rest.count less in
            rw t (
            ap (turn_of (base + position p) us) (alike.heads (position p) p.last (map is_live ts) less)
            ∙ turn-lifted base (position p) begun ts (head rest (position p) p.last (map is_live ts))
            )
            )
        | inr most ↦ (
            let f : nat_lt (position p) rest.count ≡ false = le-ltb (position p) rest.count most in
            rw f (
            ap (at_end (base + position p)) (alike.left u ts covers)
            ∙ end-lifted base (position p) (has_left_over rest u ts)
            )
            )
      ])

  -- ---- threads

  abbrev settled_with : Played → (thread : ℕ) → Effect → Used → List Parts → TurnOrEnd → Played
  settled_with w k e u ts now =
      record { memory = lays w.memory e.words; threads = ts; progress = progress_lifted base (with_effect k e w.progress); used = after before u; now = now }

  with-lifted : (w : Played) (k : ℕ) (e : Effect) → Covers begun w.threads → with_threads k (effect_recounted (begun k) e) (counted_from begun 0 w.threads) ≡ counted_from begun 0 (with_threads k e w.threads)
  with-lifted w k e covers =
      let set : List Parts = slice_set w.threads k e.thread in
      let none : 0 + k ≡ k = omega arith in
      let same = length-set w.threads k e.thread in
      ap (λ (i : ℕ). slice_set (counted_from begun 0 w.threads) k (recounted (begun i) e.thread) ++ e.spawned) (sym none)
      ∙ ap (λ (ts : List Parts). ts ++ e.spawned) (set-counted begun 0 w.threads k e.thread)
      ∙ sym (append-counted begun 0 set e.spawned (λ j l. covers j (omega (arith, l, same))))

  length-with : (w : Played) (k : ℕ) (e : Effect) → length (with_threads k e w.threads) ≡ length w.threads + length e.spawned
  length-with w k e = length-append (slice_set w.threads k e.thread) e.spawned ∙ ap (λ (n : ℕ). n + length e.spawned) (length-set w.threads k e.thread)

  with-covers : (w : Played) (k : ℕ) (e : Effect) → Covers begun w.threads → Covers begun (with_threads k e w.threads)
  with-covers w k e covers j l = let n = length-with w k e in covers j (omega (arith, l, n))

  fails-lifted : (w : Played) (why : Why) → record (lift w) { now = Ended (End.Diverged (position (lift w).progress) why) } ≡ lift (record w { now = Ended (End.Diverged (position w.progress) why) })
  fails-lifted w why = ap (λ (i : ℕ). record (lift w) { now = Ended (End.Diverged i why) }) (position-lifted base w.progress)

  settled-lifted : (w : Played) (k : ℕ) (v : LogVerdict) → Covers begun w.threads → settled log (lift w) k (verdict_lifted k v) ≡ lift (settled rest w k v)
  settled-lifted w k (Fails why) covers = fails-lifted w why
  settled-lifted w k (Goes e u) covers =
      let p = with_effect k e w.progress in
      let ts = with_threads k e w.threads in
      ap (λ (us : List Parts). settled_with w k e u us (now_at log (progress_lifted base p) (after before u) us)) (with-lifted w k e covers)
      ∙ ap (settled_with w k e u (counted_from begun 0 ts)) (now-lifted p u ts (with-covers w k e covers))

  -- ---- the end of a commit

  unless-lifted : (k : ℕ) (o : Option Why) (v : LogVerdict) → unless o (verdict_lifted k v) ≡ verdict_lifted k (unless o v)
  unless-lifted k None v = refl
  unless-lifted k (Some why) v = refl

  interrupted-lifted : (k : ℕ) (o : Option ℕ) (e : Effect) (u : Used) → with_interrupted o (effect_recounted (begun k) e) (after before u) ≡ verdict_lifted k (with_interrupted o e u)
  interrupted-lifted k None e u = refl
  interrupted-lifted k (Some value) e u =
      let taken : Effect = record e { thread = interrupted value e.thread } in
      let one : suc (before.interrupts + u.interrupts) ≡ before.interrupts + suc u.interrupts = omega arith in
      either (verdict_lifted k) (takes_interrupt e.thread) (Goes taken (with_interrupt u)) (Fails Why.Interrupt)
      (Goes (effect_recounted (begun k) taken) (with_interrupt (after before u)))
      (Fails Why.Interrupt)
      (ap (λ (n : ℕ). Goes (effect_recounted (begun k) taken) (record (after before u) { interrupts = n })) one)
      refl

  ended-lifted : (k n : ℕ) (e : Effect) (u : Used) → e.thread.commits ≡ suc n → ended log k (effect_recounted (begun k) e) (after before u) ≡ verdict_lifted k (ended rest k e u)
  ended-lifted k n e u more =
      ap (λ (o : Option ℕ). with_interrupted o (effect_recounted (begun k) e) (after before u))
      (ap (λ (i : ℕ). interrupt_at log.interrupts k (begun k + i)) more ∙ alike.interrupts k n ∙ ap (interrupt_at rest.interrupts k) (sym more))
      ∙ interrupted-lifted k (interrupt_at rest.interrupts k e.thread.commits) e u

  -- ---- a chunk

  counted-more : (b : ℕ) (e : Effect) (n : ℕ) → e.thread.commits ≡ n + 1 → record e { thread = record e.thread { commits = b + n + 1 } } ≡ effect_recounted b e
  counted-more b e n more = let h : b + n + 1 ≡ b + e.thread.commits = omega (arith, more) in ap (λ (i : ℕ). record e { thread = record e.thread { commits = i } }) h

  chunk-lifted : (p : Progress) (u : Used) (k : ℕ) (r : Run) → chunk_verdict log (progress_lifted base p) (after before u) k (run_recounted (begun k) r) ≡ verdict_lifted k (chunk_verdict rest p u k r)
  unfolding chunk_verdict
  chunk-lifted p u k r =
      let e : Effect = chunk_effect k p.request r in
      let n = r.thread.commits in
      let one : n + 1 ≡ suc n = omega arith in
      ap (λ (o : Option ℕ). unless (chunk_why o r.n) (ended log k (chunk_effect k p.request (run_recounted (begun k) r)) (after before u))) (alike.sizes k n)
      ∙ ap (λ (f : Effect). unless (chunk_why (size_in rest (Actor.Thread k) n) r.n) (ended log k f (after before u))) (counted-more (begun k) e n refl)
      ∙ ap (unless (chunk_why (size_in rest (Actor.Thread k) n) r.n)) (ended-lifted k n e u one)
      ∙ unless-lifted k (chunk_why (size_in rest (Actor.Thread k) n) r.n) (ended rest k e u)

  standard-lifted : (k i : ℕ) → size_or_standard log k (begun k + i) ≡ size_or_standard rest k i
  standard-lifted k i =
      ap (λ (o : Option ℕ). elim o [ None ↦ log.s | Some z ↦ z ]) (alike.sizes k i)
      ∙ ap (λ (s : ℕ). elim (size_in rest (Actor.Thread k) i) [ None ↦ s | Some z ↦ z ]) alike.s

  -- ---- a serial step

  abbrev record_lifted : TakenRecord → TakenRecord
  record_lifted g = record g { used = after before g.used }

  given-lifted : (o : Option Need) (next : Option Input) (u : Used) → given o next (after before u) ≡ option_map record_lifted (given o next u)
  given-lifted None next u = refl
  given-lifted (Some need) None u = refl
  given-lifted (Some need) (Some r) u =
      let one : suc (before.inputs + u.inputs) ≡ before.inputs + suc u.inputs = omega arith in
      either (option_map record_lifted) (fits need r)
      (Some (record { input = Some r; used = with_input u }))
      None
      (Some (record { input = Some r; used = with_input (after before u) }))
      None
      (ap (λ (n : ℕ). Some (record { input = Some r; used = record (after before u) { inputs = n } })) one)
      refl

  served-lifted : (p : Progress) (k : ℕ) (ts : List Parts) (t : Parts) (m : List ℕ) (o : Option TakenRecord)
      → served_verdict log (progress_lifted base p) k (counted_from begun 0 ts) (recounted (begun k) t) m (option_map record_lifted o) ≡ verdict_lifted k (served_verdict rest p k ts t m o)
  served-lifted p k ts t m None = refl
  served-lifted p k ts t m (Some g) =
      let v : StepResult = serve rest.threads k ts p.request t m g.input in
      let e : Effect = serial_effect k v in
      let n = v.thread.commits in
      let one : n + 1 ≡ suc n = omega arith in
      ap (λ (x : StepResult). ended log k (serial_effect k x) (after before g.used))
      (ap (λ (most : ℕ). serve most k (counted_from begun 0 ts) p.request (recounted (begun k) t) m g.input) alike.threads ∙ serve-same (begun k) rest.threads k begun ts p.request t m g.input)
      ∙ ap (λ (f : Effect). ended log k f (after before g.used)) (counted-more (begun k) e n refl)
      ∙ ended-lifted k n e g.used one

  serial-lifted : (p : Progress) (u : Used) (k : ℕ) (ts : List Parts) (t : Parts) (m : List ℕ)
      → serial_verdict log (progress_lifted base p) (after before u) k (counted_from begun 0 ts) (recounted (begun k) t) m ≡ verdict_lifted k (serial_verdict rest p u k ts t m)
  unfolding serial_verdict
  serial-lifted p u k ts t m =
      let us : List Parts = counted_from begun 0 ts in
      let b : Parts = recounted (begun k) t in
      let q : Progress = progress_lifted base p in
      let next : Option Input = slice_get rest.inputs u.inputs in
      let why : Option Why = serial_why (size_in rest (Actor.Thread k) t.commits) in
      ap (λ (o : Option ℕ). unless (serial_why o) (served_verdict log q k us b m (given (need b m) (slice_get log.inputs (before.inputs + u.inputs)) (after before u)))) (alike.sizes k t.commits)
      ∙ ap (λ (o : Option TakenRecord). unless why (served_verdict log q k us b m o))
      (ap (λ (n : Option Need). given n (slice_get log.inputs (before.inputs + u.inputs)) (after before u)) (need-same (begun k) t m)
      ∙ ap (λ (i : Option Input). given (need t m) i (after before u)) (alike.inputs u.inputs)
      ∙ given-lifted (need t m) next u)
      ∙ ap (unless why) (served-lifted p k ts t m (given (need t m) next u))
      ∙ unless-lifted k why (served_verdict rest p k ts t m (given (need t m) next u))

  -- ---- one commit more

  verdict-lifted : (w : Played) (k : ℕ) (t : Parts) (o : Option Kind) → thread_verdict log (lift w) k (recounted (begun k) t) o ≡ verdict_lifted k (thread_verdict rest w k t o)
  verdict-lifted w k t None =
      let n = size_or_standard rest k t.commits in
      ap (λ (i : ℕ). chunk_verdict log (lift w).progress (lift w).used k (run w.memory (recounted (begun k) t) i)) (standard-lifted k t.commits)
      ∙ ap (chunk_verdict log (lift w).progress (lift w).used k) (run-same (begun k) w.memory t n)
      ∙ chunk-lifted w.progress w.used k (run w.memory t n)
  verdict-lifted w k t (Some kind) = serial-lifted w.progress w.used k w.threads t w.memory

  thread-lifted : (w : Played) (k : ℕ) (o : Option Parts) → Covers begun w.threads → play_thread log (lift w) k (option_map (recounted (begun k)) o) ≡ lift (play_thread rest w k o)
  thread-lifted w k None covers = refl
  thread-lifted w k (Some t) covers =
      let kind = next_kind t w.memory in
      ap (λ (o : Option Kind). settled log (lift w) k (thread_verdict log (lift w) k (recounted (begun k) t) o)) (kind-same (begun k) t w.memory)
      ∙ ap (settled log (lift w) k) (verdict-lifted w k t kind)
      ∙ settled-lifted w k (thread_verdict rest w k t kind) covers

  transfer-lifted : (p : Progress) (u : Used) → position p < rest.count → dma_verdict log (progress_lifted base p) (after before u) ≡ dma_verdict rest p u
  unfolding dma_verdict
  transfer-lifted p u less =
      let i = position p in
      ap (λ (n : ℕ). dma_unless (serial_why (size_in log Actor.Dma n)) (transferred n p.request (slice_get log.dmas (before.dmas + u.dmas)))) (position-lifted base p)
      ∙ ap (λ (o : Option ℕ). dma_unless (serial_why o) (transferred (base + i) p.request (slice_get log.dmas (before.dmas + u.dmas)))) (alike.dma_sizes i)
      ∙ ap (dma_unless (serial_why (size_in rest Actor.Dma i))) (alike.transfers i u.dmas p.request less)

  dma-lifted : (w : Played) (v : DmaVerdict) → Covers begun w.threads → dma_settled log (lift w) v ≡ lift (dma_settled rest w v)
  dma-lifted w (DmaFails why) covers = fails-lifted w why
  dma-lifted w (DmaGoes words) covers =
      let p = with_dma w.progress in
      let u = with_dma_used w.used in
      let us : List Parts = counted_from begun 0 w.threads in
      let one : suc (before.dmas + w.used.dmas) ≡ before.dmas + suc w.used.dmas = omega arith in
      let with_used : Used → TurnOrEnd → Played = (λ v now. record { memory = lays w.memory words; threads = us; progress = progress_lifted base p; used = v; now = now }) in
      ap (λ (n : ℕ). let v : Used = record (after before w.used) { dmas = n } in with_used v (now_at log (progress_lifted base p) v us)) one
      ∙ ap (with_used (after before u)) (now-lifted p u w.threads covers)

  turns-lifted : (w : Played) (now : TurnOrEnd) → w.now ≡ now → IsFit rest begun w → play_turn log (lift w) (turn_from base now) ≡ lift (play_turn rest w now)
  turns-lifted w (Ended how) is fit = refl
  turns-lifted w TurnOfDma is fit =
      ap (dma_settled log (lift w)) (transfer-lifted w.progress w.used (fit.turn is))
      ∙ dma-lifted w (dma_verdict rest w.progress w.used) fit.covers
  turns-lifted w (Turn k) is fit =
      let none : 0 + k ≡ k = omega arith in
      ap (play_thread log (lift w) k)
      (get-counted begun 0 w.threads k ∙ ap (λ (i : ℕ). option_map (recounted (begun i)) (slice_get w.threads k)) none)
      ∙ thread-lifted w k (slice_get w.threads k) fit.covers

  one-lifted : (w : Played) → IsFit rest begun w → play_one log (lift w) ≡ lift (play_one rest w)
  unfolding play_one
  one-lifted w fit = turns-lifted w w.now refl fit

  -- ---- the play

  no_dma : (i : ℕ) (left : Bool) → at_end i left ≡ TurnOfDma → {A : Type 0} → A
  no_dma i true e = cc
  no_dma i false e = cc

  pub dma-below : (p : Progress) (u : Used) (ts : List Parts) → now_at rest p u ts ≡ TurnOfDma → position p < rest.count
  unfolding now_at
  dma-below p u ts e =
      elim (cases_lt (position p) rest.count) [
        | inl less ↦ less
        | inr most ↦ (
            let f : nat_lt (position p) rest.count ≡ false = le-ltb (position p) rest.count most in
            no_dma (position p) (has_left_over rest u ts)
            (sym (ap (λ (b : Bool). cond b (turn_of (position p) ts (next_actor rest p ts)) (at_end (position p) (has_left_over rest u ts))) f) ∙ e)
            )
      ]

  over-fit : (w : Played) (how : End) → IsFit rest begun w → IsFit rest begun (record w { now = Ended how })
  over-fit w how fit = record { covers = fit.covers; turn = λ e. cc }

  settled-fit : (w : Played) (k : ℕ) (v : LogVerdict) → IsFit rest begun w → IsFit rest begun (settled rest w k v)
  settled-fit w k (Fails why) fit = over-fit w (End.Diverged (position w.progress) why) fit
  settled-fit w k (Goes e u) fit =
      record { covers = with-covers w k e fit.covers; turn = dma-below (with_effect k e w.progress) u (with_threads k e w.threads) }

  dma-fit : (w : Played) (v : DmaVerdict) → IsFit rest begun w → IsFit rest begun (dma_settled rest w v)
  dma-fit w (DmaFails why) fit = over-fit w (End.Diverged (position w.progress) why) fit
  dma-fit w (DmaGoes words) fit = record { covers = fit.covers; turn = dma-below (with_dma w.progress) (with_dma_used w.used) w.threads }

  thread-fit : (w : Played) (k : ℕ) (o : Option Parts) → IsFit rest begun w → IsFit rest begun (play_thread rest w k o)
  thread-fit w k None fit = fit
  thread-fit w k (Some t) fit = settled-fit w k (thread_verdict rest w k t (next_kind t w.memory)) fit

  now-fit : (w : Played) (now : TurnOrEnd) → IsFit rest begun w → IsFit rest begun (play_turn rest w now)
  now-fit w (Ended how) fit = fit
  now-fit w TurnOfDma fit = dma-fit w (dma_verdict rest w.progress w.used) fit
  now-fit w (Turn k) fit = thread-fit w k (slice_get w.threads k) fit

  one-fit : (w : Played) → IsFit rest begun w → IsFit rest begun (play_one rest w)
  unfolding play_one
  one-fit w fit = now-fit w w.now fit

  plays-fit : (w : Played) (i : ℕ) → IsFit rest begun w → IsFit rest begun (plays rest w i)
  plays-fit w zero fit = fit
  plays-fit w (suc i) fit = one-fit (plays rest w i) (plays-fit w i fit)

  -- a play of the rest is, after any number of commits, a play of the log
  pub plays-lifted : (w : Played) (i : ℕ) → IsFit rest begun w → plays log (lift w) i ≡ lift (plays rest w i)
  plays-lifted w zero fit = refl
  plays-lifted w (suc i) fit =
      ap (play_one log) (plays-lifted w i fit) ∙ one-lifted (plays rest w i) (plays-fit w i fit)
