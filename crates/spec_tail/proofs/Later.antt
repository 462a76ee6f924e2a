-- A tail plays as its log for later does, except for what is left over at the end.
use Rattle.std.proofs.Common.{◌≡◌, ℕ, zero, suc, ◌+◌, ◌-◌, ◌<◌, ◌≤◌, Bool, true, false, ◌&&◌, cond, List, [], ◌∷◌, length, map, Option, Some, None, refl, ap, sym, ◌∙◌, subst, arith}
use Rattle.std.specs.Prelude.{nat_eq, nat_lt, ◌==◌, ◌||◌, not, option_map, slice_get}
use Rattle.std.specs.List.{list_any}
use Rattle.std.proofs.lemmas.Bool.{lt-ltb, ltb-true, true≢false}
use Rattle.std.proofs.lemmas.List.{length-map}
use Rattle.std.proofs.lemmas.Option.{slice_get_past, slice_get_within}
use Rattle.dl_entry.specs.declared.Actor.{Actor}
use Rattle.dl_entry.specs.declared.End.{End}
use Rattle.dl_entry.specs.declared.Input.{Input}
use Rattle.dl_entry.specs.declared.Request.{Request}
use Rattle.dl_entry.specs.declared.Why.{Why}
use Rattle.spec_isa.specs.declared.thread.Parts.{Parts}
use Rattle.spec_isa.specs.declared.thread.Kind.{Kind}
use Rattle.spec_isa.specs.Runs.{Run, run}
use Rattle.spec_kernel.specs.Interrupts.{is_live, takes_interrupt, interrupted}
use Rattle.spec_kernel.specs.Needs.{Need, next_kind, need}
use Rattle.spec_kernel.specs.Records.{fits}
use Rattle.spec_kernel.specs.Serving.{serve}
use Rattle.spec_log.specs.declared.DmaRecord.{DmaRecord}
use Rattle.spec_log.specs.declared.Interrupt.{Interrupt}
use Rattle.spec_log.specs.declared.ModeName.{ModeName}
use Rattle.spec_log.specs.declared.ShortSize.{ShortSize}
use Rattle.spec_log.specs.declared.Sizes.{Sizes}
use Rattle.spec_log.specs.Head.{head_by_turn, head_in}
use Rattle.spec_log.proofs.Threads.{threads-few}
use Rattle.spec_log.specs.Size.{thread_size, dma_size, size_in}
use Rattle.spec_play.specs.declared.used.Used.{Used}
use Rattle.spec_play.specs.declared.WalkEnd.{WalkEnd}
use Rattle.spec_play.specs.Effects.{Effect, chunk_effect, serial_effect}
use Rattle.spec_play.specs.Progress.{Progress, position, nothing_used, with_effect, with_dma, with_dma_used, with_interrupt, with_input}
use Rattle.spec_play.specs.Plays.{Played, with_threads, settled, size_or_standard, thread_verdict, play_thread, dma_settled, play_turn, play_one, plays}
use Rattle.spec_play.specs.States.{State, progress_from, resumed, state_of as state_after}
use Rattle.spec_play.specs.Transfers.{DmaVerdict, DmaGoes, DmaFails, dma_unless, transferred, dma_verdict}
use Rattle.spec_play.specs.Turns.{TurnOrEnd, Turn, TurnOfDma, Ended, are_sizes_used, has_left_over, at_end, turn_of_thread, turn_of, now_at}
use Rattle.spec_play.specs.Verdicts.{LogVerdict, Goes, Fails, unless, interrupt_at, with_interrupted, ended, chunk_why, chunk_verdict, serial_why, TakenRecord, given, served_verdict, serial_verdict}
use Rattle.spec_play.specs.Walks.{walk_end, walked_at, is_looked_at}
use Rattle.spec_tail.specs.Playing.{no_thread, sizes_since, dma_since, log_since, Raised, led_by, raised_first, raised, uncounted, begun_play, opened, play, walked, walked_since}
use Rattle.spec_tail.specs.Later.{sizes_later, is_early_dma, log_later, raised_at, dmas_passed, opened_later, play_later, has_early_size, has_more_left, end_left, walk_end_left, walked_left, walked_later}
use Rattle.spec_tail.specs.Tails.{Tail, IsTail, state_of}
use Rattle.spec_tail.proofs.LaterLists.{find-size, all-sizes-used, later-interrupt, later-dma, none-early}
use Rattle.spec_tail.proofs.LaterLog.{starts-early}
use Rattle.spec_tail.proofs.LaterRaised.{raised-left-out}
use Rattle.spec_tail.proofs.LaterThreads.{SpawnsFew, verdict-few, then-few}

-- ---- sizes

sized : (ps : List Parts) (order : List Actor) (k i : ℕ) → (no_thread == k) ≡ false → (sizes : Sizes) → thread_size order (sizes_since ps sizes) k i ≡ thread_size order (sizes_later ps sizes) k i
sized ps order k i other (Sizes.Each xs) = refl
sized ps order k i other (Sizes.Short xs) = ap (option_map (λ (x : ShortSize). x.size)) (find-size ps k i other xs)

dma_sized : (ps : List Parts) (i : ℕ) (sizes : Sizes) → dma_size (sizes_since ps sizes) i ≡ dma_size (sizes_later ps sizes) i
dma_sized ps i (Sizes.Each xs) = refl
dma_sized ps i (Sizes.Short xs) = refl

sizes_used : (ts ps : List Parts) → slice_get ts no_thread ≡ None → (sizes : Sizes)
    → are_sizes_used ts (sizes_since ps sizes) ≡ (not (has_early_size ps sizes) && are_sizes_used ts (sizes_later ps sizes))
sizes_used ts ps none (Sizes.Each xs) = refl
sizes_used ts ps none (Sizes.Short xs) = all-sizes-used ts ps none xs

-- ---- the end

all_true : (s c n : Bool) → cond s (cond c true (cond n true true)) true ≡ true
all_true false c n = refl
all_true true true n = refl
all_true true false true = refl
all_true true false false = refl

or_true : (c : Bool) → true ≡ (c || true)
or_true true = refl
or_true false = refl

left_bools : (a b c s i n dl df : Bool) → (i ≡ true → c ≡ true) → dl ≡ (b || df)
    → cond (not a && s) (cond c true (cond n true dl)) true ≡ (((a || b) || c) || cond s (cond i true (cond n true df)) true)
left_bools true b c s i n dl df h e = refl
left_bools false true c s i n dl df h e = rw e (all_true s c n)
left_bools false false c false i n dl df h e = or_true c
left_bools false false true true i n dl df h e = refl
left_bools false false false true true n dl df h e = absurd (true≢false (sym (h refl)))
left_bools false false false true false n dl df h e = ap (cond n true) e

-- only the end of the log is another one
abbrev now_left : Bool → TurnOrEnd → TurnOrEnd
now_left b (Ended how) = Ended (end_left b how)
now_left b (Turn k) = Turn k
now_left b TurnOfDma = TurnOfDma

left_diverged : (b : Bool) (i : ℕ) (why : Why) → end_left b (End.Diverged i why) ≡ End.Diverged i why
left_diverged true i why = refl
left_diverged false i why = refl

left_at_end : (i : ℕ) (b c : Bool) → at_end i (b || c) ≡ now_left b (at_end i c)
left_at_end i true true = refl
left_at_end i true false = refl
left_at_end i false true = refl
left_at_end i false false = refl

left_live : (b : Bool) (i k : ℕ) (live : Bool) → now_left b (cond live (Turn k) (Ended (End.Diverged i Why.NoThread))) ≡ cond live (Turn k) (Ended (End.Diverged i Why.NoThread))
left_live b i k true = refl
left_live b i k false = ap Ended (left_diverged b i Why.NoThread)

left_thread : (b : Bool) (i k : ℕ) (o : Option Parts) → now_left b (turn_of_thread i k o) ≡ turn_of_thread i k o
left_thread b i k None = ap Ended (left_diverged b i Why.NoThread)
left_thread b i k (Some p) = left_live b i k (is_live p)

left_turn : (b : Bool) (i : ℕ) (ts : List Parts) (o : Option Actor) → now_left b (turn_of i ts o) ≡ turn_of i ts o
left_turn b i ts None = ap Ended (left_diverged b i Why.NoThread)
left_turn b i ts (Some Actor.Dma) = refl
left_turn b i ts (Some (Actor.Thread k)) = left_thread b i k (slice_get ts k)

left_ended : (b looked : Bool) (i : ℕ) (how : End) → cond looked (WalkEnd.Ended (end_left b how)) (WalkEnd.Reached i) ≡ walk_end_left b (cond looked (WalkEnd.Ended how) (WalkEnd.Reached i))
left_ended b true i how = refl
left_ended b false i how = refl

-- ---- the threads at the base

length_first : (o : Option ℕ) (p : Parts) (ps : List Parts) (rest : Raised) → length rest.threads ≡ length ps → length (raised_first o p ps rest).threads ≡ suc (length ps)
length_first None p ps rest same = ap suc same
length_first (Some value) p ps rest same = length_taken value p ps rest (takes_interrupt p) same where
  length_taken : (value : ℕ) (p : Parts) (ps : List Parts) (rest : Raised) (b : Bool) → length rest.threads ≡ length ps
      → length (cond b (led_by (interrupted value p) 1 rest) (record { threads = p ∷ ps; count = 0; refused = true })).threads ≡ suc (length ps)
  length_taken value p ps rest true same = ap suc same
  length_taken value p ps rest false same = refl

-- the interrupts at the base don't change the number of threads
pub length-raised : (xs : List Interrupt) (k : ℕ) (ps : List Parts) → length (raised xs k ps).threads ≡ length ps
length-raised xs k [] = refl
length-raised xs k (p ∷ ps) = length_first (interrupt_at xs k p.commits) p ps (raised xs (suc k) ps) (length-raised xs (suc k) ps)

-- ---- heads

other_position : (i n : ℕ) → i < n → (n == i) ≡ false
other_position i n l = grind (arith, l)

head_since : (t : Tail) (mode : ModeName) (i : ℕ) (last : Option ℕ) (live : List Bool) → i < t.log.count → head_in mode (log_since t) i last live ≡ head_in mode (log_later t) i last live
head_since t ModeName.OrderSize i last live l = refl
head_since t ModeName.OrderOnly i last live l = refl
head_since t ModeName.Picolog i last live l =
    ap (λ (b : Bool). head_by_turn b last live) (later-dma t.base t.log.count i (other_position i t.log.count l) t.log.dmas)

-- ---- what is used

module _ (t : Tail) (tail : IsTail t) where
  abbrev early : Bool
  early = list_any (is_early_dma t.base) t.log.dmas

  abbrev used_since : Used → Used
  used_since u = record u { interrupts = (raised_at t).count + u.interrupts; dmas = u.dmas - dmas_passed t }

  -- if a DMA comes before the base, none is used
  abbrev IsPassed : Used → Type 0
  IsPassed u = early ≡ true → u.dmas ≡ dmas_passed t

  none_passed : early ≡ false → dmas_passed t ≡ 0
  none_passed e = rw e refl

  all_passed : early ≡ true → dmas_passed t ≡ length (log_later t).dmas
  all_passed e = rw e refl

  dmas_left : (u : Used) (b : Bool) → early ≡ b → IsPassed u → nat_lt (u.dmas - dmas_passed t) (length (log_since t).dmas) ≡ (b || nat_lt u.dmas (length (log_later t).dmas))
  dmas_left u true e passed =
      let first = starts-early t.base t.log.count t.log.dmas tail.log.dmas e in
      let some : length (log_since t).dmas ≡ suc (length first.others) =
      length-map t.log.dmas _ ∙ ap (λ (xs : List DmaRecord). length xs) first.are
      in
      let same = passed e in
      lt-ltb _ _ (omega (arith, some, same))
  dmas_left u false e passed =
      let none = none_passed e in
      let same : u.dmas - dmas_passed t ≡ u.dmas = omega (arith, none) in
      rw (same, none-early t.base t.log.count t.log.dmas e) refl

  interrupts_left : (u : Used) → nat_lt u.interrupts (length (log_later t).interrupts) ≡ true → nat_lt ((raised_at t).count + u.interrupts) (length t.log.interrupts) ≡ true
  interrupts_left u e =
      let l = ltb-true u.interrupts (length (log_later t).interrupts) e in
      let few = raised-left-out t in
      lt-ltb _ _ (omega (arith, l, few))

  left_since : (u : Used) (ts : List Parts) → IsPassed u → slice_get ts no_thread ≡ None → has_left_over (log_since t) (used_since u) ts ≡ (has_more_left t u || has_left_over (log_later t) u ts)
  unfolding has_left_over
  left_since u ts passed none =
      let sizes = sizes_used ts t.threads none t.log.sizes in
      let interrupts : length (log_since t).interrupts ≡ length t.log.interrupts = length-map t.log.interrupts _ in
      let bools =
      left_bools (has_early_size t.threads t.log.sizes) early (nat_lt ((raised_at t).count + u.interrupts) (length t.log.interrupts)) (are_sizes_used ts (log_later t).sizes) (nat_lt u.interrupts (length (log_later t).interrupts)) (nat_lt u.inputs (length t.log.inputs)) (nat_lt (u.dmas - dmas_passed t) (length (log_since t).dmas)) (nat_lt u.dmas (length (log_later t).dmas)) (interrupts_left u) (dmas_left u early refl passed)
      in
      ap (λ (n : ℕ). cond (are_sizes_used ts (log_since t).sizes) (cond (nat_lt ((raised_at t).count + u.interrupts) n) true (cond (nat_lt u.inputs (length t.log.inputs)) true (nat_lt (u.dmas - dmas_passed t) (length (log_since t).dmas)))) true) interrupts
      ∙ ap (λ (b : Bool). cond b (cond (nat_lt ((raised_at t).count + u.interrupts) (length t.log.interrupts)) true (cond (nat_lt u.inputs (length t.log.inputs)) true (nat_lt (u.dmas - dmas_passed t) (length (log_since t).dmas)))) true) sizes
      ∙ bools

  now_next : (p : Progress) (u : Used) (ts : List Parts) (b : Bool) → nat_lt (position p) t.log.count ≡ b → IsPassed u → slice_get ts no_thread ≡ None
      → now_at (log_since t) p (used_since u) ts ≡ now_left (has_more_left t u) (now_at (log_later t) p u ts)
  unfolding now_at
  now_next p u ts true is passed none =
      let head = head_since t t.log.mode (position p) p.last (map is_live ts) (ltb-true (position p) t.log.count is) in
      rw is (ap (turn_of (position p) ts) head ∙ sym (left_turn (has_more_left t u) (position p) ts (head_in t.log.mode (log_later t) (position p) p.last (map is_live ts))))
  now_next p u ts false is passed none =
      rw is (ap (at_end (position p)) (left_since u ts passed none) ∙ left_at_end (position p) (has_more_left t u) (has_left_over (log_later t) u ts))

  -- ---- one commit

  abbrev verdict_since : LogVerdict → LogVerdict
  verdict_since (Goes e u) = Goes e (used_since u)
  verdict_since (Fails why) = Fails why

  unless_since : (o : Option Why) (v : LogVerdict) → unless o (verdict_since v) ≡ verdict_since (unless o v)
  unless_since None v = refl
  unless_since (Some why) v = refl

  one_interrupt_more : (u : Used) → with_interrupt (used_since u) ≡ used_since (with_interrupt u)
  one_interrupt_more u =
      let more : suc ((raised_at t).count + u.interrupts) ≡ (raised_at t).count + suc u.interrupts = omega arith in
      ap (λ (n : ℕ). record (used_since u) { interrupts = n }) more

  taken_interrupt : (value : ℕ) (e : Effect) (u : Used) (b : Bool)
      → cond b (Goes (record e { thread = interrupted value e.thread }) (with_interrupt (used_since u))) (Fails Why.Interrupt)
      ≡ verdict_since (cond b (Goes (record e { thread = interrupted value e.thread }) (with_interrupt u)) (Fails Why.Interrupt))
  taken_interrupt value e u true = ap (λ (v : Used). Goes (record e { thread = interrupted value e.thread }) v) (one_interrupt_more u)
  taken_interrupt value e u false = refl

  interrupted_since : (o : Option ℕ) (e : Effect) (u : Used) → with_interrupted o e (used_since u) ≡ verdict_since (with_interrupted o e u)
  interrupted_since None e u = refl
  interrupted_since (Some value) e u = taken_interrupt value e u (takes_interrupt e.thread)

  ended_since : (k : ℕ) (e : Effect) (u : Used) → nat_eq no_thread k ≡ false → 0 < e.thread.commits → ended (log_since t) k e (used_since u) ≡ verdict_since (ended (log_later t) k e u)
  ended_since k e u other some =
      ap (λ (o : Option ℕ). with_interrupted o e (used_since u)) (later-interrupt t.threads k e.thread.commits other some t.log.interrupts)
      ∙ interrupted_since (interrupt_at (log_later t).interrupts k e.thread.commits) e u

  size_since : (k i : ℕ) → nat_eq no_thread k ≡ false → size_in (log_since t) (Actor.Thread k) i ≡ size_in (log_later t) (Actor.Thread k) i
  size_since k i other = sized t.threads t.log.order k i other t.log.sizes

  chunk_since : (p : Progress) (u : Used) (k : ℕ) (r : Run) → nat_eq no_thread k ≡ false → chunk_verdict (log_since t) p (used_since u) k r ≡ verdict_since (chunk_verdict (log_later t) p u k r)
  unfolding chunk_verdict
  chunk_since p u k r other =
      let e : Effect = chunk_effect k p.request r in
      ap (λ (o : Option ℕ). unless (chunk_why o r.n) (ended (log_since t) k e (used_since u))) (size_since k r.thread.commits other)
      ∙ ap (unless (chunk_why (size_in (log_later t) (Actor.Thread k) r.thread.commits) r.n)) (ended_since k e u other (omega arith))
      ∙ unless_since (chunk_why (size_in (log_later t) (Actor.Thread k) r.thread.commits) r.n) (ended (log_later t) k e u)

  abbrev taken_since : Option TakenRecord → Option TakenRecord
  taken_since None = None
  taken_since (Some g) = Some (record g { used = used_since g.used })

  fitting_since : (r : Input) (u : Used) (b : Bool) → cond b (Some (record { input = Some r; used = with_input (used_since u) })) None ≡ taken_since (cond b (Some (record { input = Some r; used = with_input u })) None)
  fitting_since r u true = refl
  fitting_since r u false = refl

  given_since : (o : Option Need) (next : Option Input) (u : Used) → given o next (used_since u) ≡ taken_since (given o next u)
  given_since None next u = refl
  given_since (Some n) None u = refl
  given_since (Some n) (Some r) u = fitting_since r u (fits n r)

  served_since : (p : Progress) (k : ℕ) (ts : List Parts) (x : Parts) (m : List ℕ) (o : Option TakenRecord) → nat_eq no_thread k ≡ false
      → served_verdict (log_since t) p k ts x m (taken_since o) ≡ verdict_since (served_verdict (log_later t) p k ts x m o)
  served_since p k ts x m None other = refl
  served_since p k ts x m (Some g) other =
      ended_since k (serial_effect k (serve t.log.threads k ts p.request x m g.input)) g.used other (omega arith)

  serial_since : (p : Progress) (u : Used) (k : ℕ) (ts : List Parts) (x : Parts) (m : List ℕ) → nat_eq no_thread k ≡ false
      → serial_verdict (log_since t) p (used_since u) k ts x m ≡ verdict_since (serial_verdict (log_later t) p u k ts x m)
  unfolding serial_verdict
  serial_since p u k ts x m other =
      let o : Option TakenRecord = given (need x m) (slice_get t.log.inputs u.inputs) u in
      let why : Option Why = serial_why (size_in (log_later t) (Actor.Thread k) x.commits) in
      ap (λ (z : Option ℕ). unless (serial_why z) (served_verdict (log_since t) p k ts x m (given (need x m) (slice_get t.log.inputs u.inputs) (used_since u)))) (size_since k x.commits other)
      ∙ ap (λ (g : Option TakenRecord). unless why (served_verdict (log_since t) p k ts x m g)) (given_since (need x m) (slice_get t.log.inputs u.inputs) u)
      ∙ ap (unless why) (served_since p k ts x m o other)
      ∙ unless_since why (served_verdict (log_later t) p k ts x m o)

  -- ---- the play

  abbrev since : Played → Played
  since y = record y { used = used_since y.used; now = now_left (has_more_left t y.used) y.now }

  length_since : (k i : ℕ) → nat_eq no_thread k ≡ false → size_or_standard (log_since t) k i ≡ size_or_standard (log_later t) k i
  length_since k i other = ap (λ (o : Option ℕ). elim o [ None ↦ t.log.s | Some z ↦ z ]) (size_since k i other)

  verdict_of_since : (y : Played) (k : ℕ) (x : Parts) (o : Option Kind) → nat_eq no_thread k ≡ false → thread_verdict (log_since t) (since y) k x o ≡ verdict_since (thread_verdict (log_later t) y k x o)
  verdict_of_since y k x None other =
      ap (λ (n : ℕ). chunk_verdict (log_since t) y.progress (used_since y.used) k (run y.memory x n)) (length_since k x.commits other)
      ∙ chunk_since y.progress y.used k (run y.memory x (size_or_standard (log_later t) k x.commits)) other
  verdict_of_since y k x (Some kind) other = serial_since y.progress y.used k y.threads x y.memory other

  -- a verdict on a thread's commit uses no DMA
  abbrev KeepsDmas : (dmas : ℕ) → LogVerdict → Type 0
  KeepsDmas n (Goes e u) = u.dmas ≡ n
  KeepsDmas n (Fails why) = Unit {0}

  unless_keeps : (n : ℕ) (o : Option Why) (v : LogVerdict) → KeepsDmas n v → KeepsDmas n (unless o v)
  unless_keeps n None v keeps = keeps
  unless_keeps n (Some why) v keeps = tt

  taken_keeps : (n value : ℕ) (e : Effect) (u : Used) (b : Bool) → u.dmas ≡ n
      → KeepsDmas n (cond b (Goes (record e { thread = interrupted value e.thread }) (with_interrupt u)) (Fails Why.Interrupt))
  taken_keeps n value e u true same = same
  taken_keeps n value e u false same = tt

  interrupted_keeps : (n : ℕ) (o : Option ℕ) (e : Effect) (u : Used) → u.dmas ≡ n → KeepsDmas n (with_interrupted o e u)
  interrupted_keeps n None e u same = same
  interrupted_keeps n (Some value) e u same = taken_keeps n value e u (takes_interrupt e.thread) same

  chunk_keeps : (p : Progress) (u : Used) (k : ℕ) (r : Run) → KeepsDmas u.dmas (chunk_verdict (log_later t) p u k r)
  unfolding chunk_verdict
  chunk_keeps p u k r =
      let e : Effect = chunk_effect k p.request r in
      unless_keeps u.dmas (chunk_why (size_in (log_later t) (Actor.Thread k) r.thread.commits) r.n) (ended (log_later t) k e u)
      (interrupted_keeps u.dmas (interrupt_at (log_later t).interrupts k e.thread.commits) e u refl)

  abbrev RecordKeeps : (dmas : ℕ) → Option TakenRecord → Type 0
  RecordKeeps n None = Unit {0}
  RecordKeeps n (Some g) = g.used.dmas ≡ n

  fitting_keeps : (r : Input) (u : Used) (b : Bool) → RecordKeeps u.dmas (cond b (Some (record { input = Some r; used = with_input u })) None)
  fitting_keeps r u true = refl
  fitting_keeps r u false = tt

  given_keeps : (o : Option Need) (next : Option Input) (u : Used) → RecordKeeps u.dmas (given o next u)
  given_keeps None next u = refl
  given_keeps (Some n) None u = tt
  given_keeps (Some n) (Some r) u = fitting_keeps r u (fits n r)

  served_keeps : (n : ℕ) (p : Progress) (k : ℕ) (ts : List Parts) (x : Parts) (m : List ℕ) (o : Option TakenRecord) → RecordKeeps n o → KeepsDmas n (served_verdict (log_later t) p k ts x m o)
  served_keeps n p k ts x m None same = tt
  served_keeps n p k ts x m (Some g) same =
      let e : Effect = serial_effect k (serve t.log.threads k ts p.request x m g.input) in
      interrupted_keeps n (interrupt_at (log_later t).interrupts k e.thread.commits) e g.used same

  serial_keeps : (p : Progress) (u : Used) (k : ℕ) (ts : List Parts) (x : Parts) (m : List ℕ) → KeepsDmas u.dmas (serial_verdict (log_later t) p u k ts x m)
  unfolding serial_verdict
  serial_keeps p u k ts x m =
      let o : Option TakenRecord = given (need x m) (slice_get t.log.inputs u.inputs) u in
      unless_keeps u.dmas (serial_why (size_in (log_later t) (Actor.Thread k) x.commits)) (served_verdict (log_later t) p k ts x m o)
      (served_keeps u.dmas p k ts x m o (given_keeps (need x m) (slice_get t.log.inputs u.inputs) u))

  verdict_keeps : (y : Played) (k : ℕ) (x : Parts) (o : Option Kind) → KeepsDmas y.used.dmas (thread_verdict (log_later t) y k x o)
  verdict_keeps y k x None = chunk_keeps y.progress y.used k (run y.memory x (size_or_standard (log_later t) k x.commits))
  verdict_keeps y k x (Some kind) = serial_keeps y.progress y.used k y.threads x y.memory

  -- a turn is given to a commit of the log
  abbrev IfTurn : (commits : ℕ) → TurnOrEnd → Type 0
  IfTurn n (Ended how) = Unit {0}
  IfTurn n (Turn k) = n < t.log.count
  IfTurn n TurnOfDma = n < t.log.count

  if_turn : (n : ℕ) (now : TurnOrEnd) → n < t.log.count → IfTurn n now
  if_turn n (Ended how) l = tt
  if_turn n (Turn k) l = l
  if_turn n TurnOfDma l = l

  at_end_turn : (n i : ℕ) (b : Bool) → IfTurn n (at_end i b)
  at_end_turn n i true = tt
  at_end_turn n i false = tt

  now_turn : (p : Progress) (u : Used) (ts : List Parts) (b : Bool) → nat_lt (position p) t.log.count ≡ b → IfTurn (position p) (now_at (log_later t) p u ts)
  unfolding now_at
  now_turn p u ts true is = if_turn (position p) (now_at (log_later t) p u ts) (ltb-true (position p) t.log.count is)
  now_turn p u ts false is = rw is (at_end_turn (position p) (position p) (has_left_over (log_later t) u ts))

  -- what is true of the play at each place
  pub record IsPlayed (y : Played) : Type 0 where
    few : length y.threads ≤ t.log.threads
    passed : IsPassed y.used
    turn : IfTurn (position y.progress) y.now

  none_there : (ts : List Parts) → length ts ≤ t.log.threads → slice_get ts no_thread ≡ None
  none_there ts few =
      let most = threads-few t.log.version t.log.threads tail.log.version in
      slice_get_past ts no_thread (omega (arith, few, most))

  not_none : (ts : List Parts) (k : ℕ) (x : Parts) → length ts ≤ t.log.threads → slice_get ts k ≡ Some x → nat_eq no_thread k ≡ false
  not_none ts k x few is =
      let most = threads-few t.log.version t.log.threads tail.log.version in
      let l = slice_get_within ts k x is in
      let below : k < 63 = omega (arith, few, most, l) in
      grind (arith, below)

  -- one commit of both plays
  pub record AreAlike (y z : Played) : Type 0 where
    same : z ≡ since y
    played : IsPlayed y

  settled_alike : (y : Played) (k : ℕ) (v : LogVerdict) → IsPlayed y → SpawnsFew t.log.threads (length y.threads) v → KeepsDmas y.used.dmas v
      → AreAlike (settled (log_later t) y k v) (settled (log_since t) (since y) k (verdict_since v))
  settled_alike y k (Fails why) is few keeps =
      record {
        same = ap (λ (now : TurnOrEnd). record (since y) { now = now }) (ap Ended (sym (left_diverged (has_more_left t y.used) (position y.progress) why)));
        played = record { few = is.few; passed = is.passed; turn = tt };
      }
  settled_alike y k (Goes e u) is few keeps =
      let ts = with_threads k e y.threads in
      let p = with_effect k e y.progress in
      let most = then-few t.log.threads k e y.threads few is.few in
      let passed : IsPassed u = λ early. keeps ∙ is.passed early in
      record {
        same = ap (λ (now : TurnOrEnd). record (settled (log_since t) (since y) k (Goes e (used_since u))) { now = now }) (now_next p u ts (nat_lt (position p) t.log.count) refl passed (none_there ts most));
        played = record { few = most; passed = passed; turn = now_turn p u ts (nat_lt (position p) t.log.count) refl };
      }

  thread_alike : (y : Played) (k : ℕ) (o : Option Parts) → slice_get y.threads k ≡ o → IsPlayed y → AreAlike (play_thread (log_later t) y k o) (play_thread (log_since t) (since y) k o)
  thread_alike y k None there is = record { same = refl; played = is }
  thread_alike y k (Some x) there is =
      let kind = next_kind x y.memory in
      let v = thread_verdict (log_later t) y k x kind in
      subst (λ w. AreAlike (settled (log_later t) y k v) (settled (log_since t) (since y) k w)) (sym (verdict_of_since y k x kind (not_none y.threads k x is.few there)))
      (settled_alike y k v is (verdict-few (log_later t) y k x kind) (verdict_keeps y k x kind))

  -- ---- a DMA

  failed_alike : (y : Played) (why : Why) → IsPlayed y → AreAlike (dma_settled (log_later t) y (DmaFails why)) (dma_settled (log_since t) (since y) (DmaFails why))
  failed_alike y why is =
      record {
        same = ap (λ (now : TurnOrEnd). record (since y) { now = now }) (ap Ended (sym (left_diverged (has_more_left t y.used) (position y.progress) why)));
        played = record { few = is.few; passed = is.passed; turn = tt };
      }

  one_dma_more : (u : Used) → early ≡ false → with_dma_used (used_since u) ≡ used_since (with_dma_used u)
  one_dma_more u e =
      let none = none_passed e in
      let more : suc (u.dmas - dmas_passed t) ≡ suc u.dmas - dmas_passed t = omega (arith, none) in
      ap (λ (n : ℕ). record (used_since u) { dmas = n }) more

  dma_goes_alike : (y : Played) (v : DmaVerdict) → early ≡ false → IsPlayed y → AreAlike (dma_settled (log_later t) y v) (dma_settled (log_since t) (since y) v)
  dma_goes_alike y (DmaFails why) e is = failed_alike y why is
  dma_goes_alike y (DmaGoes words) e is =
      let p = with_dma y.progress in
      let u = with_dma_used y.used in
      let passed : IsPassed u = λ first. absurd (true≢false (sym first ∙ e)) in
      record {
        same =
            ap (λ (w : Used). record (dma_settled (log_since t) (since y) (DmaGoes words)) { used = w; now = now_at (log_since t) p w y.threads }) (one_dma_more y.used e)
            ∙ ap (λ (now : TurnOrEnd). record (dma_settled (log_since t) (since y) (DmaGoes words)) { used = used_since u; now = now }) (now_next p u y.threads (nat_lt (position p) t.log.count) refl passed (none_there y.threads is.few));
        played = record { few = is.few; passed = passed; turn = now_turn p u y.threads (nat_lt (position p) t.log.count) refl };
      }

  dma_record : (i n : ℕ) → i < n → (o : Option Request) (x : DmaRecord) → x.position ≡ n → transferred i o (Some x) ≡ DmaFails Why.Dma
  dma_record i n l None x at = refl
  dma_record i n l (Some request) x at =
      let other : nat_eq x.position i ≡ false = grind (arith, l, at) in
      rw other refl

  no_record : (i : ℕ) (o : Option Request) → transferred i o None ≡ DmaFails Why.Dma
  no_record i None = refl
  no_record i (Some request) = refl

  abbrev dma_reason : Option Why → Why
  dma_reason None = Why.Dma
  dma_reason (Some why) = why

  reason : (o : Option Why) → dma_unless o (DmaFails Why.Dma) ≡ DmaFails (dma_reason o)
  reason None = refl
  reason (Some why) = refl

  first_record : (u : Used) → early ≡ true → IsPassed u → (x : DmaRecord) (xs : List DmaRecord) → t.log.dmas ≡ x ∷ xs → slice_get (log_since t).dmas (u.dmas - dmas_passed t) ≡ Some (dma_since t.base t.log.count x)
  first_record u e passed x xs are =
      let same = passed e in
      let none : u.dmas - dmas_passed t ≡ 0 = omega (arith, same) in
      ap (slice_get (log_since t).dmas) none ∙ ap (λ (ys : List DmaRecord). slice_get (map (dma_since t.base t.log.count) ys) 0) are

  past_records : (u : Used) → early ≡ true → IsPassed u → slice_get (log_later t).dmas u.dmas ≡ None
  past_records u e passed =
      let same = passed e in
      let all = all_passed e in
      slice_get_past (log_later t).dmas u.dmas (omega (arith, same, all))

  dma_alike : (y : Played) (b : Bool) → early ≡ b → IsPlayed y → position y.progress < t.log.count
      → AreAlike (dma_settled (log_later t) y (dma_verdict (log_later t) y.progress y.used)) (dma_settled (log_since t) (since y) (dma_verdict (log_since t) y.progress (used_since y.used)))
  unfolding dma_verdict
  dma_alike y true e is l =
      let p = y.progress in
      let why = serial_why (size_in (log_later t) Actor.Dma (position p)) in
      let first = starts-early t.base t.log.count t.log.dmas tail.log.dmas e in
      let at : (dma_since t.base t.log.count first.first).position ≡ t.log.count = rw first.early refl in
      let since_fails : dma_unless (serial_why (size_in (log_since t) Actor.Dma (position p))) (transferred (position p) p.request (slice_get (log_since t).dmas (y.used.dmas - dmas_passed t))) ≡ DmaFails (dma_reason why) =
      ap (λ (o : Option DmaRecord). dma_unless (serial_why (size_in (log_since t) Actor.Dma (position p))) (transferred (position p) p.request o)) (first_record y.used e is.passed first.first first.others first.are)
      ∙ ap (dma_unless (serial_why (size_in (log_since t) Actor.Dma (position p)))) (dma_record (position p) t.log.count l p.request (dma_since t.base t.log.count first.first) at)
      ∙ ap (λ (z : Option ℕ). dma_unless (serial_why z) (DmaFails Why.Dma)) (dma_sized t.threads (position p) t.log.sizes)
      ∙ reason why
      in
      let later_fails : dma_unless why (transferred (position p) p.request (slice_get (log_later t).dmas y.used.dmas)) ≡ DmaFails (dma_reason why) =
      ap (λ (o : Option DmaRecord). dma_unless why (transferred (position p) p.request o)) (past_records y.used e is.passed)
      ∙ ap (dma_unless why) (no_record (position p) p.request)
      ∙ reason why
      in
      subst (λ (v : DmaVerdict). AreAlike (dma_settled (log_later t) y v) (dma_settled (log_since t) (since y) (dma_unless (serial_why (size_in (log_since t) Actor.Dma (position p))) (transferred (position p) p.request (slice_get (log_since t).dmas (y.used.dmas - dmas_passed t)))))) (sym later_fails)
      (subst (λ (v : DmaVerdict). AreAlike (dma_settled (log_later t) y (DmaFails (dma_reason why))) (dma_settled (log_since t) (since y) v)) (sym since_fails) (failed_alike y (dma_reason why) is))
  dma_alike y false e is l =
      let p = y.progress in
      let none = none_passed e in
      let count : y.used.dmas - dmas_passed t ≡ y.used.dmas = omega (arith, none) in
      let same : dma_unless (serial_why (size_in (log_since t) Actor.Dma (position p))) (transferred (position p) p.request (slice_get (log_since t).dmas (y.used.dmas - dmas_passed t)))
      ≡ dma_unless (serial_why (size_in (log_later t) Actor.Dma (position p))) (transferred (position p) p.request (slice_get (log_later t).dmas y.used.dmas)) =
      ap (λ (z : Option ℕ). dma_unless (serial_why z) (transferred (position p) p.request (slice_get (log_since t).dmas (y.used.dmas - dmas_passed t)))) (dma_sized t.threads (position p) t.log.sizes)
      ∙ ap (λ (n : ℕ). dma_unless (serial_why (size_in (log_later t) Actor.Dma (position p))) (transferred (position p) p.request (slice_get (log_since t).dmas n))) count
      ∙ ap (λ (xs : List DmaRecord). dma_unless (serial_why (size_in (log_later t) Actor.Dma (position p))) (transferred (position p) p.request (slice_get xs y.used.dmas))) (none-early t.base t.log.count t.log.dmas e)
      in
      subst (λ (v : DmaVerdict). AreAlike (dma_settled (log_later t) y (dma_unless (serial_why (size_in (log_later t) Actor.Dma (position p))) (transferred (position p) p.request (slice_get (log_later t).dmas y.used.dmas)))) (dma_settled (log_since t) (since y) v)) (sym same)
      (dma_goes_alike y (dma_unless (serial_why (size_in (log_later t) Actor.Dma (position p))) (transferred (position p) p.request (slice_get (log_later t).dmas y.used.dmas))) e is)

  -- ---- all of it

  now_alike : (y : Played) (now : TurnOrEnd) → y.now ≡ now → IsPlayed y → AreAlike (play_turn (log_later t) y now) (play_turn (log_since t) (since y) (now_left (has_more_left t y.used) now))
  now_alike y (Ended how) e is = record { same = refl; played = is }
  now_alike y (Turn k) e is = thread_alike y k (slice_get y.threads k) refl is
  now_alike y TurnOfDma e is = dma_alike y early refl is (subst (IfTurn (position y.progress)) e is.turn)

  one_alike : (y : Played) → IsPlayed y → AreAlike (play_one (log_later t) y) (play_one (log_since t) (since y))
  unfolding play_one
  one_alike y is = now_alike y y.now refl is

  plays_alike : (y z : Played) → AreAlike y z → (n : ℕ) → AreAlike (plays (log_later t) y n) (plays (log_since t) z n)
  plays_alike y z alike zero = alike
  plays_alike y z alike (suc n) =
      let before = plays_alike y z alike n in
      subst (λ (x : Played). AreAlike (play_one (log_later t) (plays (log_later t) y n)) (play_one (log_since t) x)) (sym before.same) (one_alike (plays (log_later t) y n) before.played)

  first_used : record nothing_used { interrupts = (raised_at t).count } ≡ used_since (record nothing_used { dmas = dmas_passed t })
  first_used =
      let none : 0 ≡ dmas_passed t - dmas_passed t = omega arith in
      let same : (raised_at t).count ≡ (raised_at t).count + 0 = omega arith in
      ap (λ (n : ℕ). record nothing_used { interrupts = (raised_at t).count; dmas = n }) none
      ∙ ap (λ (n : ℕ). record nothing_used { interrupts = n; dmas = dmas_passed t - dmas_passed t }) same

  abbrev at_base : Used → State
  at_base u = record (state_of t) { threads = (raised_at t).threads; commits = 0; used = u }

  few_at_base : length (raised_at t).threads ≤ t.log.threads
  few_at_base =
      let raised = length-raised (log_since t).interrupts 0 (map uncounted t.threads) in
      let all = length-map t.threads uncounted in
      let most = tail.most in
      omega (arith, raised, all, most)

  begun_alike : (b : Bool) → AreAlike (begun_play (log_later t) (at_base (record nothing_used { dmas = dmas_passed t })) b) (begun_play (log_since t) (at_base (record nothing_used { interrupts = (raised_at t).count })) b)
  begun_alike true =
      record {
        same = ap (λ (u : Used). begun_play (log_since t) (at_base u) true) first_used
            ∙ ap (λ (now : TurnOrEnd). record (resumed (log_since t) (at_base (used_since (record nothing_used { dmas = dmas_passed t })))) { now = now }) (ap Ended (sym (left_diverged (has_more_left t (record nothing_used { dmas = dmas_passed t })) 0 Why.Interrupt)));
        played = record { few = few_at_base; passed = λ e. refl; turn = tt };
      }
  begun_alike false =
      let u : Used = record nothing_used { dmas = dmas_passed t } in
      let p = progress_from (at_base u) in
      record {
        same = ap (λ (v : Used). begun_play (log_since t) (at_base v) false) first_used
            ∙ ap (λ (now : TurnOrEnd). record (resumed (log_since t) (at_base (used_since u))) { now = now }) (now_next p u (raised_at t).threads (nat_lt (position p) t.log.count) refl (λ e. refl) (none_there (raised_at t).threads few_at_base));
        played = record { few = few_at_base; passed = λ e. refl; turn = now_turn p u (raised_at t).threads (nat_lt (position p) t.log.count) refl };
      }

  walk_ended : (b : Bool) (i : ℕ) (now : TurnOrEnd) → walk_end (log_since t) t.log.count i (now_left b now) ≡ walk_end_left b (walk_end (log_later t) t.log.count i now)
  walk_ended b i (Ended how) = left_ended b (is_looked_at (log_later t) t.log.count i) i how
  walk_ended b i (Turn k) = refl
  walk_ended b i TurnOfDma = refl

  walked_alike : (y z : Played) → z ≡ since y → walked_at (log_since t) t.log.count z ≡ walked_left (has_more_left t y.used) (walked_at (log_later t) t.log.count y)
  walked_alike y z same =
      ap (walked_at (log_since t) t.log.count) same
      ∙ ap (λ (end : WalkEnd). record (walked_at (log_later t) t.log.count y) { end = end }) (walk_ended (has_more_left t y.used) (position y.progress) y.now)

  pub later-played : AreAlike (play_later t) (play t)
  later-played = plays_alike (opened_later t) (opened t) (begun_alike (raised_at t).refused) t.log.count

  -- so the tail's play leaves the same state, in which so much of the tail's log is used
  pub state-later : let u = (play_later t).used in
      state_after (play t) ≡ record (state_after (play_later t)) { used = record u { interrupts = (raised_at t).count + u.interrupts; dmas = u.dmas - dmas_passed t } }
  state-later = ap state_after later-played.same

  passed_few : (u : Used) (b : Bool) → early ≡ b → IsPassed u → dmas_passed t ≤ u.dmas
  passed_few u true e passed = let same = passed e in omega (arith, same)
  passed_few u false e passed = let none = none_passed e in omega (arith, none)

  -- the DMAs that were passed over are among those that count as used
  pub passed-later : dmas_passed t ≤ (play_later t).used.dmas
  passed-later = passed_few (play_later t).used early refl later-played.played.passed

-- what a tail's play leaves, from what that of its log for later leaves
pub tails-play-later : (t : Tail) → IsTail t → walked t ≡ walked_since t (walked_later t)
tails-play-later t tail =
    ap (walked_since t) (walked_alike t tail (play_later t) (play t) (later-played t tail).same)
