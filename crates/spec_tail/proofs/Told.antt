-- The play of a tail that is told directly goes along with the one that counts from the base.
use Rattle.std.proofs.Common.{◌≡◌, ℕ, zero, suc, ◌+◌, ◌<◌, ◌≤◌, inl, inr, Bool, true, false, cond, List, [], ◌∷◌, ◌++◌, length, map, Option, Some, None, refl, sym, ap, ◌∙◌, arith}
use Rattle.std.specs.Prelude.{nat_eq, nat_lt, nat_le, option_map, slice_get, slice_set}
use Rattle.std.proofs.lemmas.Bool.{cases_lt, le-leb, le-ltb, lt-ltb, or_right}
use Rattle.std.proofs.lemmas.List.{length-append, length-map}
use Rattle.std.proofs.lemmas.Option.{slice_get_past, slice_get_within}
use Rattle.std.proofs.Math.ListN.{length-set}
use Rattle.dl_entry.specs.declared.Actor.{Actor}
use Rattle.dl_entry.specs.declared.End.{End}
use Rattle.dl_entry.specs.declared.Input.{Input}
use Rattle.dl_entry.specs.declared.Why.{Why}
use Rattle.spec_isa.specs.declared.thread.Parts.{Parts}
use Rattle.spec_isa.specs.declared.thread.Kind.{Kind}
use Rattle.spec_isa.specs.Words.{lays}
use Rattle.spec_isa.specs.Runs.{Run, run}
use Rattle.spec_log.specs.declared.Interrupt.{Interrupt}
use Rattle.spec_log.specs.declared.LogParts.{LogParts}
use Rattle.spec_log.proofs.Threads.{threads-few}
use Rattle.spec_log.specs.Head.{head}
use Rattle.spec_log.specs.Size.{size_in}
use Rattle.spec_kernel.specs.Interrupts.{is_live, takes_interrupt, interrupted}
use Rattle.spec_kernel.specs.Needs.{Need, next_kind, need}
use Rattle.spec_kernel.specs.Serving.{StepResult, serve}
use Rattle.spec_play.specs.declared.used.Used.{Used}
use Rattle.spec_play.specs.declared.WalkEnd.{WalkEnd}
use Rattle.spec_play.specs.Effects.{Effect, chunk_effect, serial_effect}
use Rattle.spec_play.specs.Progress.{Progress, nothing_used, position, with_effect, with_dma, with_dma_used, with_interrupt}
use Rattle.spec_play.specs.Plays.{Played, with_threads, settled, size_or_standard, thread_verdict, play_thread, dma_settled, play_turn, play_one, plays}
use Rattle.spec_play.specs.States.{State, progress_from}
use Rattle.spec_play.specs.Transfers.{DmaVerdict, DmaGoes, DmaFails, dma_unless, dma_verdict, transferred}
use Rattle.spec_play.specs.Turns.{TurnOrEnd, Turn, TurnOfDma, Ended, at_end, has_left_over, now_at, turn_of}
use Rattle.spec_play.specs.Verdicts.{LogVerdict, Goes, Fails, unless, interrupt_at, with_interrupted, ended, chunk_why, chunk_verdict, serial_why, TakenRecord, given, served_verdict, serial_verdict}
use Rattle.spec_play.specs.Walks.{Walked, is_looked_at, walk_end}
use Rattle.spec_tail.specs.Direct as direct
use Rattle.spec_tail.specs.Playing.{begun, commits_of, counted_from, interrupt_since, led_by, log_since, no_thread, opened, played, Raised, raised, raised_first, uncounted, walk_end_from, walked, begun_play}
use Rattle.spec_tail.specs.Promise.{turn_from, told, TailsAreDirect}
use Rattle.spec_tail.specs.Tails.{Tail, IsTail, state_of}
use Rattle.spec_tail.proofs.Along.Raised.{recounted-all}
use Rattle.spec_tail.proofs.Along.Recounted.{recounted, either, run_recounted, run-same, kind-same, need-same, get-counted, live-counted, serve-same}
use Rattle.spec_tail.proofs.Along.Steps.{Covers, append-counted, effect_recounted, end-lifted, ltb-shift, position-lifted, progress_lifted, set-counted, turn-lifted}
use Rattle.spec_tail.proofs.Later.{length-raised}
use Rattle.spec_tail.proofs.LaterThreads.{SpawnsFew, verdict-few, then-few}
use Rattle.spec_tail.proofs.Looked.{dma_size-looked, head-looked, interrupt-looked, left-looked, size-looked, transfer-looked}

-- ---- the interrupts at the base

-- these threads, of which the first has number k, took them
abbrev raised_from : (b : ℕ → ℕ) (k : ℕ) → Raised → Raised
raised_from b k r = record r { threads = counted_from b k r.threads }

first_told : (b : ℕ → ℕ) (k : ℕ) (o : Option ℕ) (p : Parts) (ps : List Parts) (rest here : Raised) → b k ≡ p.commits → rest ≡ raised_from b (suc k) here → counted_from b (suc k) (map uncounted ps) ≡ ps
    → raised_first o p ps rest ≡ raised_from b k (raised_first o (uncounted p) (map uncounted ps) here)
first_told b k None p ps rest here at same others =
    let n : b k + 0 ≡ p.commits = omega (arith, at) in
    ap (λ (r : Raised). led_by p 0 r) same
    ∙ ap (λ (c : ℕ). led_by (record p { commits = c }) 0 (raised_from b (suc k) here)) (sym n)
first_told b k (Some value) p ps rest here at same others =
    let n : b k + 0 ≡ p.commits = omega (arith, at) in
    either (raised_from b k) (takes_interrupt p)
    (led_by (interrupted value (uncounted p)) 1 here)
    (record { threads = uncounted p ∷ map uncounted ps; count = 0; refused = true })
    (led_by (interrupted value p) 1 rest)
    (record { threads = p ∷ ps; count = 0; refused = true })
    (ap (λ (r : Raised). led_by (interrupted value p) 1 r) same
    ∙ ap (λ (c : ℕ). led_by (interrupted value (record p { commits = c })) 1 (raised_from b (suc k) here)) (sym n))
    (ap (λ (qs : List Parts). record { threads = p ∷ qs; count = 0; refused = true }) (sym others)
    ∙ ap (λ (c : ℕ). record { threads = record p { commits = c } ∷ counted_from b (suc k) (map uncounted ps); count = 0; refused = true }) (sym n))

raised_told : (all : List Parts) (xs : List Interrupt) (k : ℕ) (ps : List Parts) → ((j : ℕ) → begun all (k + j) ≡ begun ps j) → k + length ps ≤ 63
    → raised xs k ps ≡ raised_from (begun all) k (raised (map (interrupt_since all) xs) k (map uncounted ps))
raised_told all xs k [] same few = refl
raised_told all xs k (p ∷ ps) same few =
    let here : k + 0 ≡ k = omega arith in
    let at : begun all k ≡ p.commits = ap (begun all) (sym here) ∙ same 0 in
    let next : (j : ℕ) → begun all (suc k + j) ≡ begun ps j = λ j. (let n : suc k + j ≡ k + suc j = omega arith in ap (begun all) n ∙ same (suc j)) in
    let named : nat_eq no_thread k ≡ false = grind (arith, few) in
    let n : p.commits ≡ begun all k + 0 = omega (arith, at) in
    let found : interrupt_at xs k p.commits ≡ interrupt_at (map (interrupt_since all) xs) k 0 = ap (interrupt_at xs k) n ∙ interrupt-looked all xs k 0 named in
    let rest = raised (map (interrupt_since all) xs) (suc k) (map uncounted ps) in
    ap (λ (o : Option ℕ). raised_first o p ps (raised xs (suc k) ps)) found
    ∙ first_told (begun all) k (interrupt_at (map (interrupt_since all) xs) k 0) p ps (raised xs (suc k) ps) rest at
    (raised_told all xs (suc k) ps next (omega (arith, few)))
    (recounted-all (begun all) (suc k) ps next)

-- ---- one commit

module _ (t : Tail) (tail : IsTail t) where
  abbrev rest : LogParts
  rest = log_since t

  abbrev b : ℕ → ℕ
  b = begun t.threads

  -- what is true of the play that counts from the base, at each place
  record IsFit (w : Played) : Type 0 where
    covers : Covers b w.threads
    few : length w.threads ≤ t.log.threads
    turn : w.now ≡ TurnOfDma → position w.progress < t.log.count

  none_there : (ts : List Parts) → length ts ≤ t.log.threads → slice_get ts no_thread ≡ None
  none_there ts few =
      let most = threads-few t.log.version t.log.threads tail.log.version in
      slice_get_past ts no_thread (omega (arith, few, most))

  named : (ts : List Parts) (k : ℕ) (x : Parts) → length ts ≤ t.log.threads → slice_get ts k ≡ Some x → nat_eq no_thread k ≡ false
  named ts k x few is =
      let most = threads-few t.log.version t.log.threads tail.log.version in
      let l = slice_get_within ts k x is in
      let below : k < 63 = omega (arith, few, most, l) in
      grind (arith, below)

  abbrev verdict_told : (thread : ℕ) → LogVerdict → LogVerdict
  verdict_told k (Goes e u) = Goes (effect_recounted (b k) e) u
  verdict_told k (Fails why) = Fails why

  now_told : (p : Progress) (u : Used) (ts : List Parts) → length ts ≤ t.log.threads → direct.now_at t (progress_lifted t.base p) u (counted_from b 0 ts) ≡ turn_from t.base (now_at rest p u ts)
  unfolding now_at direct.now_at
  now_told p u ts few =
      let us = counted_from b 0 ts in
      let by : ℕ → List Bool → TurnOrEnd = (λ i live. cond (nat_lt i (t.base + t.log.count)) (turn_of i us (direct.head_in t.log.mode t i p.last live)) (at_end i (direct.has_left t u us))) in
      ap (λ (i : ℕ). by i (map is_live us)) (position-lifted t.base p)
      ∙ ap (by (t.base + position p)) (live-counted b 0 ts)
      ∙ ap (λ (c : Bool). cond c (turn_of (t.base + position p) us (direct.head_in t.log.mode t (t.base + position p) p.last (map is_live ts))) (at_end (t.base + position p) (direct.has_left t u us)))
      (ltb-shift t.base (position p) t.log.count)
      ∙ (elim (cases_lt (position p) t.log.count) [
        | inl less ↦ (
            let c : nat_lt (position p) t.log.count ≡ true = lt-ltb (position p) t.log.count less in
            rw c (
            ap (turn_of (t.base + position p) us) (head-looked t (position p) p.last (map is_live ts) less)
            ∙ turn-lifted t.base (position p) b ts (head rest (position p) p.last (map is_live ts))
            )
            )
        | inr most ↦ (
            let c : nat_lt (position p) t.log.count ≡ false = le-ltb (position p) t.log.count most in
            rw c (
            ap (at_end (t.base + position p)) (left-looked t u ts (none_there ts few))
            ∙ end-lifted t.base (position p) (has_left_over rest u ts)
            )
            )
      ])

  -- ---- threads

  abbrev settled_with : Played → (thread : ℕ) → Effect → Used → List Parts → TurnOrEnd → Played
  settled_with w k e u ts now =
      record { memory = lays w.memory e.words; threads = ts; progress = progress_lifted t.base (with_effect k e w.progress); used = u; now = now }

  with_told : (w : Played) (k : ℕ) (e : Effect) → Covers b w.threads → with_threads k (effect_recounted (b k) e) (counted_from b 0 w.threads) ≡ counted_from b 0 (with_threads k e w.threads)
  with_told w k e covers =
      let set : List Parts = slice_set w.threads k e.thread in
      let none : 0 + k ≡ k = omega arith in
      let same = length-set w.threads k e.thread in
      ap (λ (i : ℕ). slice_set (counted_from b 0 w.threads) k (recounted (b i) e.thread) ++ e.spawned) (sym none)
      ∙ ap (λ (ts : List Parts). ts ++ e.spawned) (set-counted b 0 w.threads k e.thread)
      ∙ sym (append-counted b 0 set e.spawned (λ j l. covers j (omega (arith, l, same))))

  with_covers : (w : Played) (k : ℕ) (e : Effect) → Covers b w.threads → Covers b (with_threads k e w.threads)
  with_covers w k e covers j l =
      let n = length-append (slice_set w.threads k e.thread) e.spawned in
      let m = length-set w.threads k e.thread in
      covers j (omega (arith, l, n, m))

  fails_told : (w : Played) (why : Why) → record (told t w) { now = Ended (End.Diverged (position (told t w).progress) why) } ≡ told t (record w { now = Ended (End.Diverged (position w.progress) why) })
  fails_told w why = ap (λ (i : ℕ). record (told t w) { now = Ended (End.Diverged i why) }) (position-lifted t.base w.progress)

  settled_told : (w : Played) (k : ℕ) (v : LogVerdict) → IsFit w → SpawnsFew t.log.threads (length w.threads) v → direct.settled t (told t w) k (verdict_told k v) ≡ told t (settled rest w k v)
  settled_told w k (Fails why) fit few = fails_told w why
  settled_told w k (Goes e u) fit few =
      let p = with_effect k e w.progress in
      let ts = with_threads k e w.threads in
      ap (λ (us : List Parts). settled_with w k e u us (direct.now_at t (progress_lifted t.base p) u us)) (with_told w k e fit.covers)
      ∙ ap (settled_with w k e u (counted_from b 0 ts)) (now_told p u ts (then-few t.log.threads k e w.threads few fit.few))

  -- ---- the end of a commit

  unless_told : (k : ℕ) (o : Option Why) (v : LogVerdict) → unless o (verdict_told k v) ≡ verdict_told k (unless o v)
  unless_told k None v = refl
  unless_told k (Some why) v = refl

  interrupted_told : (k : ℕ) (o : Option ℕ) (e : Effect) (u : Used) → with_interrupted o (effect_recounted (b k) e) u ≡ verdict_told k (with_interrupted o e u)
  interrupted_told k None e u = refl
  interrupted_told k (Some value) e u =
      let taken : Effect = record e { thread = interrupted value e.thread } in
      either (verdict_told k) (takes_interrupt e.thread) (Goes taken (with_interrupt u)) (Fails Why.Interrupt)
      (Goes (effect_recounted (b k) taken) (with_interrupt u))
      (Fails Why.Interrupt)
      refl
      refl

  ended_told : (k : ℕ) (e : Effect) (u : Used) → nat_eq no_thread k ≡ false → ended t.log k (effect_recounted (b k) e) u ≡ verdict_told k (ended rest k e u)
  ended_told k e u other =
      ap (λ (o : Option ℕ). with_interrupted o (effect_recounted (b k) e) u) (interrupt-looked t.threads t.log.interrupts k e.thread.commits other)
      ∙ interrupted_told k (interrupt_at rest.interrupts k e.thread.commits) e u

  -- ---- a chunk

  counted_more : (c : ℕ) (e : Effect) (n : ℕ) → e.thread.commits ≡ n + 1 → record e { thread = record e.thread { commits = c + n + 1 } } ≡ effect_recounted c e
  counted_more c e n more = let h : c + n + 1 ≡ c + e.thread.commits = omega (arith, more) in ap (λ (i : ℕ). record e { thread = record e.thread { commits = i } }) h

  chunk_told : (p : Progress) (u : Used) (k : ℕ) (r : Run) → nat_eq no_thread k ≡ false → direct.chunk_verdict t (progress_lifted t.base p) u k (run_recounted (b k) r) ≡ verdict_told k (chunk_verdict rest p u k r)
  unfolding chunk_verdict direct.chunk_verdict
  chunk_told p u k r other =
      let e : Effect = chunk_effect k p.request r in
      let n = r.thread.commits in
      ap (λ (o : Option ℕ). unless (chunk_why o r.n) (ended t.log k (chunk_effect k p.request (run_recounted (b k) r)) u)) (size-looked t k n other)
      ∙ ap (λ (f : Effect). unless (chunk_why (size_in rest (Actor.Thread k) n) r.n) (ended t.log k f u)) (counted_more (b k) e n refl)
      ∙ ap (unless (chunk_why (size_in rest (Actor.Thread k) n) r.n)) (ended_told k e u other)
      ∙ unless_told k (chunk_why (size_in rest (Actor.Thread k) n) r.n) (ended rest k e u)

  standard_told : (k i : ℕ) → nat_eq no_thread k ≡ false → direct.size_or_standard t k (b k + i) ≡ size_or_standard rest k i
  standard_told k i other = ap (λ (o : Option ℕ). elim o [ None ↦ t.log.s | Some z ↦ z ]) (size-looked t k i other)

  -- ---- a serial step

  served_told : (p : Progress) (k : ℕ) (ts : List Parts) (x : Parts) (m : List ℕ) (o : Option TakenRecord) → nat_eq no_thread k ≡ false
      → served_verdict t.log (progress_lifted t.base p) k (counted_from b 0 ts) (recounted (b k) x) m o ≡ verdict_told k (served_verdict rest p k ts x m o)
  served_told p k ts x m None other = refl
  served_told p k ts x m (Some g) other =
      let v : StepResult = serve t.log.threads k ts p.request x m g.input in
      let e : Effect = serial_effect k v in
      let n = v.thread.commits in
      ap (λ (y : StepResult). ended t.log k (serial_effect k y) g.used) (serve-same (b k) t.log.threads k b ts p.request x m g.input)
      ∙ ap (λ (f : Effect). ended t.log k f g.used) (counted_more (b k) e n refl)
      ∙ ended_told k e g.used other

  serial_told : (p : Progress) (u : Used) (k : ℕ) (ts : List Parts) (x : Parts) (m : List ℕ) → nat_eq no_thread k ≡ false
      → direct.serial_verdict t (progress_lifted t.base p) u k (counted_from b 0 ts) (recounted (b k) x) m ≡ verdict_told k (serial_verdict rest p u k ts x m)
  unfolding serial_verdict direct.serial_verdict
  serial_told p u k ts x m other =
      let us : List Parts = counted_from b 0 ts in
      let y : Parts = recounted (b k) x in
      let q : Progress = progress_lifted t.base p in
      let next : Option Input = slice_get t.log.inputs u.inputs in
      let why : Option Why = serial_why (size_in rest (Actor.Thread k) x.commits) in
      ap (λ (o : Option ℕ). unless (serial_why o) (served_verdict t.log q k us y m (given (need y m) next u))) (size-looked t k x.commits other)
      ∙ ap (λ (n : Option Need). unless why (served_verdict t.log q k us y m (given n next u))) (need-same (b k) x m)
      ∙ ap (unless why) (served_told p k ts x m (given (need x m) next u) other)
      ∙ unless_told k why (served_verdict rest p k ts x m (given (need x m) next u))

  -- ---- one commit more

  verdict_is : (w : Played) (k : ℕ) (x : Parts) (o : Option Kind) → nat_eq no_thread k ≡ false → direct.thread_verdict t (told t w) k (recounted (b k) x) o ≡ verdict_told k (thread_verdict rest w k x o)
  verdict_is w k x None other =
      let n = size_or_standard rest k x.commits in
      let p = progress_lifted t.base w.progress in
      ap (λ (i : ℕ). direct.chunk_verdict t p w.used k (run w.memory (recounted (b k) x) i)) (standard_told k x.commits other)
      ∙ ap (direct.chunk_verdict t p w.used k) (run-same (b k) w.memory x n)
      ∙ chunk_told w.progress w.used k (run w.memory x n) other
  verdict_is w k x (Some kind) other = serial_told w.progress w.used k w.threads x w.memory other

  thread_told : (w : Played) (k : ℕ) (o : Option Parts) → slice_get w.threads k ≡ o → IsFit w → direct.play_thread t (told t w) k (option_map (recounted (b k)) o) ≡ told t (play_thread rest w k o)
  thread_told w k None there fit = refl
  thread_told w k (Some x) there fit =
      let kind = next_kind x w.memory in
      ap (λ (o : Option Kind). direct.settled t (told t w) k (direct.thread_verdict t (told t w) k (recounted (b k) x) o)) (kind-same (b k) x w.memory)
      ∙ ap (direct.settled t (told t w) k) (verdict_is w k x kind (named w.threads k x fit.few there))
      ∙ settled_told w k (thread_verdict rest w k x kind) fit (verdict-few rest w k x kind)

  transfer_told : (p : Progress) (u : Used) → position p < t.log.count → direct.dma_verdict t (progress_lifted t.base p) u ≡ dma_verdict rest p u
  unfolding dma_verdict direct.dma_verdict
  transfer_told p u less =
      let i = position p in
      ap (λ (n : ℕ). dma_unless (serial_why (direct.size_of_dma t n)) (transferred n p.request (slice_get t.log.dmas u.dmas))) (position-lifted t.base p)
      ∙ ap (λ (o : Option ℕ). dma_unless (serial_why o) (transferred (t.base + i) p.request (slice_get t.log.dmas u.dmas))) (dma_size-looked t i)
      ∙ ap (dma_unless (serial_why (size_in rest Actor.Dma i))) (transfer-looked t i u.dmas p.request less)

  dma_told : (w : Played) (v : DmaVerdict) → IsFit w → direct.dma_settled t (told t w) v ≡ told t (dma_settled rest w v)
  dma_told w (DmaFails why) fit = fails_told w why
  dma_told w (DmaGoes words) fit =
      let p = with_dma w.progress in
      let u = with_dma_used w.used in
      ap (λ (now : TurnOrEnd). record { memory = lays w.memory words; threads = counted_from b 0 w.threads; progress = progress_lifted t.base p; used = u; now = now }) (now_told p u w.threads fit.few)

  turns_told : (w : Played) (now : TurnOrEnd) → w.now ≡ now → IsFit w → direct.play_turn t (told t w) (turn_from t.base now) ≡ told t (play_turn rest w now)
  turns_told w (Ended how) is fit = refl
  turns_told w TurnOfDma is fit =
      ap (direct.dma_settled t (told t w)) (transfer_told w.progress w.used (fit.turn is)) ∙ dma_told w (dma_verdict rest w.progress w.used) fit
  turns_told w (Turn k) is fit =
      let none : 0 + k ≡ k = omega arith in
      ap (direct.play_thread t (told t w) k) (get-counted b 0 w.threads k ∙ ap (λ (i : ℕ). option_map (recounted (b i)) (slice_get w.threads k)) none)
      ∙ thread_told w k (slice_get w.threads k) refl fit

  one_told : (w : Played) → IsFit w → direct.play_one t (told t w) ≡ told t (play_one rest w)
  unfolding play_one direct.play_one
  one_told w fit = turns_told w w.now refl fit

  -- ---- what stays true

  no_dma : (i : ℕ) (left : Bool) → at_end i left ≡ TurnOfDma → {A : Type 0} → A
  no_dma i true e = cc
  no_dma i false e = cc

  dma_below : (p : Progress) (u : Used) (ts : List Parts) → now_at rest p u ts ≡ TurnOfDma → position p < t.log.count
  unfolding now_at
  dma_below p u ts e =
      elim (cases_lt (position p) t.log.count) [
        | inl less ↦ less
        | inr most ↦ (
            let f : nat_lt (position p) t.log.count ≡ false = le-ltb (position p) t.log.count most in
            no_dma (position p) (has_left_over rest u ts)
            (sym (ap (λ (c : Bool). cond c (turn_of (position p) ts (head rest (position p) p.last (map is_live ts))) (at_end (position p) (has_left_over rest u ts))) f) ∙ e)
            )
      ]

  over_fit : (w : Played) (how : End) → IsFit w → IsFit (record w { now = Ended how })
  over_fit w how fit = record { covers = fit.covers; few = fit.few; turn = λ e. cc }

  settled_fit : (w : Played) (k : ℕ) (v : LogVerdict) → IsFit w → SpawnsFew t.log.threads (length w.threads) v → IsFit (settled rest w k v)
  settled_fit w k (Fails why) fit few = over_fit w (End.Diverged (position w.progress) why) fit
  settled_fit w k (Goes e u) fit few =
      record {
        covers = with_covers w k e fit.covers;
        few = then-few t.log.threads k e w.threads few fit.few;
        turn = dma_below (with_effect k e w.progress) u (with_threads k e w.threads);
      }

  dma_fit : (w : Played) (v : DmaVerdict) → IsFit w → IsFit (dma_settled rest w v)
  dma_fit w (DmaFails why) fit = over_fit w (End.Diverged (position w.progress) why) fit
  dma_fit w (DmaGoes words) fit = record { covers = fit.covers; few = fit.few; turn = dma_below (with_dma w.progress) (with_dma_used w.used) w.threads }

  thread_fit : (w : Played) (k : ℕ) (o : Option Parts) → IsFit w → IsFit (play_thread rest w k o)
  thread_fit w k None fit = fit
  thread_fit w k (Some x) fit =
      let v = thread_verdict rest w k x (next_kind x w.memory) in
      settled_fit w k v fit (verdict-few rest w k x (next_kind x w.memory))

  now_fit : (w : Played) (now : TurnOrEnd) → IsFit w → IsFit (play_turn rest w now)
  now_fit w (Ended how) fit = fit
  now_fit w TurnOfDma fit = dma_fit w (dma_verdict rest w.progress w.used) fit
  now_fit w (Turn k) fit = thread_fit w k (slice_get w.threads k) fit

  one_fit : (w : Played) → IsFit w → IsFit (play_one rest w)
  unfolding play_one
  one_fit w fit = now_fit w w.now fit

  plays_fit : (w : Played) (i : ℕ) → IsFit w → IsFit (plays rest w i)
  plays_fit w zero fit = fit
  plays_fit w (suc i) fit = one_fit (plays rest w i) (plays_fit w i fit)

  -- ---- the base

  abbrev base_raised : Raised
  base_raised = raised rest.interrupts 0 (map uncounted t.threads)

  base_few : length base_raised.threads ≤ t.log.threads
  base_few =
      let many = length-raised rest.interrupts 0 (map uncounted t.threads) in
      let all = length-map t.threads uncounted in
      let most = tail.most in
      omega (arith, many, all, most)

  base_covers : Covers b base_raised.threads
  base_covers j past =
      let many = length-raised rest.interrupts 0 (map uncounted t.threads) in
      let all = length-map t.threads uncounted in
      ap commits_of (slice_get_past t.threads j (omega (arith, past, many, all)))

  abbrev base_used : Used
  base_used = record nothing_used { interrupts = base_raised.count }

  abbrev base_state : State
  base_state = record (state_of t) { threads = base_raised.threads; commits = 0; used = base_used }

  abbrev base_progress : (first : ℕ) → Progress
  base_progress n = record { first = n; commits = []; last = t.last; request = t.request }

  abbrev base_play : (first : ℕ) → TurnOrEnd → Played
  base_play n now = record { memory = t.memory; threads = counted_from b 0 base_raised.threads; progress = base_progress n; used = base_used; now = now }

  abbrev opened_by : Raised → Played
  opened_by r =
      let used = record nothing_used { interrupts = r.count } in
      record { memory = t.memory; threads = r.threads; progress = direct.progress_at_base t; used = used; now = direct.now_at_base t r.refused used r.threads }

  begun_told : (c : Bool) → base_play t.base (direct.now_at_base t c base_used (counted_from b 0 base_raised.threads)) ≡ told t (begun_play rest base_state c)
  begun_told true =
      let n : t.base ≡ t.base + 0 = omega arith in
      ap (λ (m : ℕ). base_play m (Ended (End.Diverged m Why.Interrupt))) n
  begun_told false =
      let n : t.base ≡ t.base + 0 = omega arith in
      ap (λ (m : ℕ). base_play m (direct.now_at t (base_progress m) base_used (counted_from b 0 base_raised.threads))) n
      ∙ ap (base_play (t.base + 0)) (now_told (progress_from base_state) base_used base_raised.threads base_few)

  base_told : direct.opened t ≡ told t (opened t)
  base_told =
      let most = threads-few t.log.version t.log.threads tail.log.version in
      let all = tail.most in
      let from : (j : ℕ) → begun t.threads (0 + j) ≡ begun t.threads j = λ j. (let n : 0 + j ≡ j = omega arith in ap (begun t.threads) n) in
      ap opened_by (raised_told t.threads t.log.interrupts 0 t.threads from (omega (arith, most, all)))
      ∙ begun_told base_raised.refused

  begun_fit : (c : Bool) → IsFit (begun_play rest base_state c)
  begun_fit true = record { covers = base_covers; few = base_few; turn = λ e. cc }
  begun_fit false = record { covers = base_covers; few = base_few; turn = dma_below (progress_from base_state) base_used base_raised.threads }

  -- ---- all of it

  each_told : (i : ℕ) → direct.played t i ≡ told t (played t i)
  each_told zero = base_told
  each_told (suc i) = ap (direct.play_one t) (each_told i) ∙ one_told (played t i) (plays_fit (opened t) i (begun_fit base_raised.refused))

  always_looked : (i : ℕ) → is_looked_at rest t.log.count i ≡ true
  always_looked i = or_right (nat_lt i t.log.count) (nat_le t.log.count t.log.count) (le-leb t.log.count t.log.count (omega arith))

  end_told : (i n : ℕ) (now : TurnOrEnd) → n ≡ t.base + i → direct.walk_end n (turn_from t.base now) ≡ walk_end_from t.base (walk_end rest t.log.count i now)
  end_told i n (Ended how) at = sym (ap (λ (c : Bool). walk_end_from t.base (cond c (WalkEnd.Ended how) (WalkEnd.Reached i))) (always_looked i))
  end_told i n (Turn k) at = ap WalkEnd.Reached at
  end_told i n TurnOfDma at = ap WalkEnd.Reached at

  abbrev walk_of : Played → Walked
  walk_of y =
      record {
        commits = y.progress.commits;
        threads = y.threads;
        memory = y.memory;
        request = y.progress.request;
        end = direct.walk_end (position y.progress) y.now;
      }

  walk_told : direct.walked t ≡ walked t
  walk_told =
      let y = played t t.log.count in
      ap walk_of (each_told t.log.count)
      ∙ ap (λ (end : WalkEnd). record (walk_of (told t y)) { end = end }) (end_told (position y.progress) (position (told t y).progress) y.now (position-lifted t.base y.progress))

-- every tail's play is the one that is told directly, after each commit and in its walk
pub tails-are-direct : TailsAreDirect
tails-are-direct t tail = record { each = each_told t tail; walked = walk_told t tail }
