-- Whose turn it is inside a stratum.
use Rattle.std.proofs.Common.{◌≡◌, ◌≢◌, ℕ, zero, suc, ◌<◌, inl, inr, Bool, true, List, [], ◌∷◌, ◌++◌, map, set, Option, Some, None, refl, sym, ap, ◌∙◌, subst, arith}
use Rattle.std.specs.Prelude.{slice_get, if◌then◌else◌}
use Rattle.std.proofs.lemmas.Bool.{cases_eq, lt-ltb}
use Rattle.std.proofs.lemmas.List.{append-nil, length-append}
use Rattle.dl_entry.specs.declared.Actor.{Actor}
use Rattle.spec_isa.specs.declared.thread.Parts.{Parts}
use Rattle.spec_isa.specs.declared.thread.Kind.{Kind}
use Rattle.spec_isa.specs.declared.thread.Load.{Load}
use Rattle.spec_isa.specs.declared.operation.Operation.{Operation}
use Rattle.spec_isa.specs.Operations.{thread_then}
use Rattle.spec_isa.specs.Words.{Stored, lays}
use Rattle.spec_isa.specs.Instruction.{InstructionOutcome, Next, Serial, one, operation_of, next_of, unless as unless_kind}
use Rattle.spec_isa.specs.Runs.{Run, followed, run}
use Rattle.spec_log.specs.declared.LogParts.{LogParts}
use Rattle.spec_log.specs.declared.ModeName.{ModeName}
use Rattle.spec_log.specs.Head.{head_in}
use Rattle.spec_kernel.specs.Interrupts.{is_live, lives}
use Rattle.spec_play.specs.Effects.{Effect, counted}
use Rattle.spec_play.specs.Progress.{Progress, position}
use Rattle.spec_play.specs.declared.used.Used.{Used}
use Rattle.spec_play.specs.Turns.{Turn, turn_of, turn_of_thread, next_actor, at_end, has_left_over, now_at}
use Rattle.spec_play.specs.Verdicts.{Goes, interrupt_at}
use Rattle.spec_play.specs.Plays.{Played, settled, size_or_standard, play_turn, play_one}
use Rattle.spec_strata.specs.InPlay.{after_interrupt, ChunkGoes, IsLooked}
use Rattle.spec_strata.specs.Orders.{TurnsAre, Names, AreLive, OrdersTurn}
use Rattle.spec_strata.proofs.Shares.Steps.{get-set_other, get-set_same, same_some}
use Rattle.spec_strata.proofs.Plays.Verdicts.{IsLogged, effect_of, used_of, logged-goes, goes-logged}
use Rattle.spec_strata.proofs.Logs.Strata.{play-is}
use Rattle.spec_strata.proofs.Plays.Canonical.{one-turn}

-- ---- a run ends no thread

next_status : (p : Operation) (t : Parts) (w : ℕ) → (thread_then p t w).status ≡ t.status
next_status (Operation.Go rd value pc) t w = refl
next_status (Operation.Stop kind) t w = refl
next_status (Operation.Load op rd a) t w = refl
next_status (Operation.Store op a v) t w = refl
next_status (Operation.LoadReserved rd a) t w = refl
next_status (Operation.StoreConditional rd a v) t w = refl
next_status (Operation.Amo op rd a v) t w = refl

unless_status : (t : Parts) (o : Option Kind) (next u : Parts) (made load : Option Load) (put_ store : Option Stored) → next.status ≡ t.status → unless_kind o (Next next made put_) ≡ Next u load store → u.status ≡ t.status
unless_status t None next u made load put_ store s e = let h : next ≡ u = cc in sym (ap (λ (x : Parts). x.status) h) ∙ s
unless_status t (Some kind) next u made load put_ store s e = cc

of_next : (t : Parts) (f w : ℕ) → (next_of t f w).status ≡ t.status
unfolding next_of
of_next t f w = next_status (operation_of t f) t w

one_status : (t : Parts) (m : List ℕ) (u : Parts) (load : Option Load) (store : Option Stored) → one t m ≡ Next u load store → u.status ≡ t.status
unfolding one
one_status t m u load store e = unless_status t _ _ u _ load _ store (of_next t _ _) e

followed_status : (r : Run) (m : List ℕ) (o : InstructionOutcome) → one r.thread m ≡ o → (followed r o).thread.status ≡ r.thread.status
followed_status r m (Serial kind) e = refl
followed_status r m (Next u load store) e = one_status r.thread m u load store e

-- a run leaves the status of its thread as it was
pub run-status : (m : List ℕ) (t : Parts) (n : ℕ) → (run m t n).thread.status ≡ t.status
run-status m t zero = refl
run-status m t (suc n) = followed_status (run m t n) (lays m (run m t n).words) _ refl ∙ run-status m t n

-- an interrupt after a commit leaves the status of the thread as it was
pub after-status : (o : Option ℕ) (t : Parts) → (after_interrupt o t).status ≡ t.status
after-status None t = refl
after-status (Some value) t = refl

-- ---- one turn

has-order : (mode : ModeName) (log : LogParts) (i : ℕ) (last : Option ℕ) (live : List Bool) → mode ≢ ModeName.Picolog → head_in mode log i last live ≡ slice_get log.order i
has-order ModeName.OrderSize log i last live ne = refl
has-order ModeName.OrderOnly log i last live ne = refl
has-order ModeName.Picolog log i last live ne = absurd (ne refl)

-- the thread that comes next has the turn, if it is live
pub turn-there : (i k : ℕ) (t : Parts) → is_live t ≡ true → turn_of_thread i k (Some t) ≡ Turn k
turn-there i k t live = rw live refl

-- in a log with an order, the thread that is named next has the turn if it is live
pub turn-now : (log : LogParts) (p : Progress) (u : Used) (ts : List Parts) (k : ℕ) (t : Parts) → log.mode ≢ ModeName.Picolog → position p < log.count → slice_get log.order (position p) ≡ Some (Actor.Thread k)
    → slice_get ts k ≡ Some t → is_live t ≡ true → now_at log p u ts ≡ Turn k
unfolding now_at
turn-now log p u ts k t ne l named there live =
    ap (λ (b : Bool). if b then turn_of (position p) ts (next_actor log p ts) else at_end (position p) (has_left_over log u ts)) (lt-ltb (position p) log.count l)
    ∙ ap (turn_of (position p) ts) (has-order log.mode log (position p) p.last (map is_live ts) ne ∙ named)
    ∙ ap (turn_of_thread (position p) k) there
    ∙ turn-there (position p) k t live

-- ---- one chunk

record Turned (log : LogParts) (y z : Played) : Type 0 where
  looked : IsLooked log z
  position : position z.progress ≡ suc (position y.progress)
  live : (js : List ℕ) → AreLive y js → AreLive z js

live-set : (ts : List Parts) (k : ℕ) (t u : Parts) → slice_get ts k ≡ Some t → u.status ≡ t.status → (j : ℕ) → ((s : Parts) → slice_get ts j ≡ Some s → is_live s ≡ true) → (s : Parts) → slice_get (set ts k u ++ []) j ≡ Some s → is_live s ≡ true
live-set ts k t u there status j live s is =
    let e : slice_get (set ts k u) j ≡ Some s = ap (λ (us : List Parts). slice_get us j) (sym (append-nil (set ts k u))) ∙ is in
    elim (cases_eq j k) [
      | inr ne ↦ live s (sym (get-set_other ts k j u ne) ∙ e)
      | inl jk ↦ (
          let same : u ≡ s = same_some u s (sym (get-set_same ts k u t there) ∙ ap (slice_get (set ts k u)) (sym jk) ∙ e) in
          ap (λ (x : Parts). is_live x) (sym same) ∙ ap lives status ∙ live t (ap (slice_get ts) jk ∙ there)
          )
    ]

live-all : (ts : List Parts) (k : ℕ) (t u : Parts) (y z : Played) (js : List ℕ) → y.threads ≡ ts → z.threads ≡ set ts k u ++ [] → slice_get ts k ≡ Some t → u.status ≡ t.status → AreLive y js → AreLive z js
live-all ts k t u y z [] ye ze there status live = tt
live-all ts k t u y z (j ∷ js) ye ze there status live = (
  (λ s is. live-set ts k t u there status j (λ v v_is. live.0 v (ap (λ (us : List Parts). slice_get us j) ye ∙ v_is)) s (ap (λ (us : List Parts). slice_get us j) (sym ze) ∙ is)),
  live-all ts k t u y z js ye ze there status live.1,
)

turned : (log : LogParts) (y : Played) (k : ℕ) → ChunkGoes log y k → Turned log y (play_turn log y (Turn k))
turned log y k c =
    let t : Parts = c.thread in
    let n : ℕ = size_or_standard log k t.commits in
    let r : Run = run y.memory t n in
    let l : IsLogged log k r = goes-logged log y.progress y.used c.used k r c.effect c.goes in
    let e : Effect = effect_of log k y.progress.request r in
    let u : Used = used_of log k r y.used in
    let end : play_turn log y (Turn k) ≡ settled log y k (Goes e u) = play-is log y k t e u c.there c.chunk (logged-goes log y.progress y.used k r l) in
    let status : e.thread.status ≡ t.status = after-status (interrupt_at log.interrupts k (counted r.thread).commits) (counted r.thread) ∙ run-status y.memory t n in
    subst (λ (z : Played). Turned log y z) (sym end)
    (record {
      looked = refl;
      position = (let h = length-append y.progress.commits (e.commit ∷ []) in omega (arith, h));
      live = λ js live. live-all y.threads k t e.thread y (settled log y k (Goes e u)) js refl refl c.there status live;
    })

-- a thread that is live after a chunk was live before it
live-before : (ts : List Parts) (k : ℕ) (t u : Parts) → slice_get ts k ≡ Some t → u.status ≡ t.status → (j : ℕ) → ((s : Parts) → slice_get (set ts k u ++ []) j ≡ Some s → is_live s ≡ true) → (s : Parts) → slice_get ts j ≡ Some s → is_live s ≡ true
live-before ts k t u there status j live s is =
    let end : slice_get (set ts k u ++ []) j ≡ slice_get (set ts k u) j = ap (λ (us : List Parts). slice_get us j) (append-nil (set ts k u)) in
    elim (cases_eq j k) [
      | inr ne ↦ live s (end ∙ get-set_other ts k j u ne ∙ is)
      | inl jk ↦ (
          let same : s ≡ t = same_some s t (sym is ∙ ap (slice_get ts) jk ∙ there) in
          let alive : is_live u ≡ true = live u (end ∙ ap (slice_get (set ts k u)) jk ∙ get-set_same ts k u t there) in
          ap (λ (x : Parts). is_live x) same ∙ sym (ap lives status) ∙ alive
          )
    ]

-- a chunk makes no thread live that wasn't live before
pub chunk-live : (log : LogParts) (y : Played) (k : ℕ) → ChunkGoes log y k → (j : ℕ) → ((s : Parts) → slice_get (play_turn log y (Turn k)).threads j ≡ Some s → is_live s ≡ true) → (s : Parts) → slice_get y.threads j ≡ Some s → is_live s ≡ true
chunk-live log y k c j live s is =
    let t : Parts = c.thread in
    let r : Run = run y.memory t (size_or_standard log k t.commits) in
    let l : IsLogged log k r = goes-logged log y.progress y.used c.used k r c.effect c.goes in
    let e : Effect = effect_of log k y.progress.request r in
    let u : Used = used_of log k r y.used in
    let end : play_turn log y (Turn k) ≡ settled log y k (Goes e u) = play-is log y k t e u c.there c.chunk (logged-goes log y.progress y.used k r l) in
    let status : e.thread.status ≡ t.status = after-status (interrupt_at log.interrupts k (counted r.thread).commits) (counted r.thread) ∙ run-status y.memory t (size_or_standard log k t.commits) in
    live-before y.threads k t e.thread c.there status j (λ v v_is. live v (ap (λ (x : Played). slice_get x.threads j) end ∙ v_is)) s is

-- threads that the log's order names, and that live before the first of their chunks, have the turns
pub orders_turn : OrdersTurn
orders_turn log y [] ne go looked named few live = tt
orders_turn log y (k ∷ ks) ne go looked named few live =
    let c : ChunkGoes log y k = go.0 in
    let now : y.now ≡ Turn k = looked ∙ turn-now log y.progress y.used y.threads k c.thread ne (omega arith) named.0 c.there (live.0 c.thread c.there) in
    let d : Turned log y (play_turn log y (Turn k)) = turned log y k c in
    let next : play_one log y ≡ play_turn log y (Turn k) = one-turn log y k now in
    let p = d.position in (
      now,
      subst (λ (z : Played). TurnsAre log z ks) (sym next)
          (orders_turn log (play_turn log y (Turn k)) ks ne go.1 d.looked (subst (λ (i : ℕ). Names log i ks) (sym d.position) named.1) (omega (arith, p, few)) (d.live ks live.1)),
    )
