-- The commits of a play that is complete, step by step: whose turn each is, that it goes, and of which kind it is.
use Rattle.std.proofs.Common.{◌≡◌, ◌≢◌, ℕ, zero, suc, ◌+◌, ◌<◌, ◌≤◌, Bool, true, false, cond, List, [], ◌∷◌, ◌++◌, length, map, Option, Some, None, refl, sym, ap, ◌∙◌, subst, arith}
use Rattle.std.specs.Prelude.{slice_get}
use Rattle.std.proofs.lemmas.Bool.{lt-ltb, le-ltb}
use Rattle.std.proofs.lemmas.List.{append-nil, append_assoc}
use Rattle.dl_entry.specs.declared.Actor.{Actor}
use Rattle.dl_entry.specs.declared.Commit.{Commit}
use Rattle.dl_entry.specs.declared.CommitKind.{CommitKind}
use Rattle.dl_entry.specs.declared.End.{End}
use Rattle.dl_entry.specs.declared.Why.{Why}
use Rattle.spec_isa.specs.declared.thread.Parts.{Parts}
use Rattle.spec_isa.specs.declared.thread.Kind.{Kind}
use Rattle.spec_isa.specs.Words.{Stored}
use Rattle.spec_isa.specs.Runs.{Run, run}
use Rattle.spec_log.specs.declared.LogParts.{LogParts}
use Rattle.spec_log.specs.declared.ModeName.{ModeName}
use Rattle.spec_log.specs.Head.{head_in}
use Rattle.spec_log.specs.Size.{size_in}
use Rattle.spec_kernel.specs.Interrupts.{is_live, takes_interrupt, interrupted}
use Rattle.spec_kernel.specs.Needs.{need, next_kind}
use Rattle.spec_kernel.specs.Serving.{serve}
use Rattle.spec_play.specs.Effects.{Effect, chunk_effect, serial_effect, dma_commit}
use Rattle.spec_play.specs.Progress.{Progress, position, with_interrupt}
use Rattle.spec_play.specs.declared.used.Used.{Used}
use Rattle.spec_play.specs.Turns.{TurnOrEnd, Turn, TurnOfDma, Ended, has_left_over, at_end, turn_of_thread, turn_of, next_actor, now_at}
use Rattle.spec_play.specs.Verdicts.{LogVerdict, Goes, Fails, unless, interrupt_at, with_interrupted, ended, chunk_why, chunk_verdict, serial_why, TakenRecord, given, served_verdict, serial_verdict}
use Rattle.spec_play.specs.Transfers.{DmaVerdict, DmaGoes, DmaFails, dma_verdict}
use Rattle.spec_play.specs.Plays.{Played, opened, settled, size_or_standard, thread_verdict, play_thread, dma_settled, play_turn, play_one, plays, play, FitsImage}
use Rattle.spec_play.proofs.Positions.{position-more}
use Rattle.spec_play.proofs.Going.{plays-stay, Lives, turn-lives}
use Rattle.spec_strata.specs.InPlay.{IsLooked}
use Rattle.spec_strata.proofs.Plays.Canonical.{plays-shift}

-- ---- the kind of a commit

-- a commit that begins with no serial instruction is a chunk's
abbrev pub kind_by : Option Kind → CommitKind
kind_by None = CommitKind.Chunk
kind_by (Some kind) = CommitKind.Serial

abbrev pub IsBy : (thread : ℕ) → CommitKind → LogVerdict → Type 0
IsBy k kind (Goes e u) = (e.commit.actor ≡ Actor.Thread k) × (e.commit.kind ≡ kind)
IsBy k kind (Fails why) = Unit {0}

unless-by : (k : ℕ) (kind : CommitKind) (o : Option Why) (v : LogVerdict) → IsBy k kind v → IsBy k kind (unless o v)
unless-by k kind None v h = h
unless-by k kind (Some why) v h = tt

taken-by : (k value : ℕ) (kind : CommitKind) (e : Effect) (u : Used) (b : Bool) → (e.commit.actor ≡ Actor.Thread k) × (e.commit.kind ≡ kind)
    → IsBy k kind (cond b (Goes (record e { thread = interrupted value e.thread }) (with_interrupt u)) (Fails Why.Interrupt))
taken-by k value kind e u true h = h
taken-by k value kind e u false h = tt

interrupted-by : (k : ℕ) (kind : CommitKind) (o : Option ℕ) (e : Effect) (u : Used) → (e.commit.actor ≡ Actor.Thread k) × (e.commit.kind ≡ kind) → IsBy k kind (with_interrupted o e u)
interrupted-by k kind None e u h = h
interrupted-by k kind (Some value) e u h = taken-by k value kind e u (takes_interrupt e.thread) h

-- if the chunk that thread k ran goes, its commit is a chunk's and is thread k's
pub chunk-by : (log : LogParts) (p : Progress) (u : Used) (k : ℕ) (r : Run) → IsBy k CommitKind.Chunk (chunk_verdict log p u k r)
unfolding chunk_verdict
chunk-by log p u k r =
    let e : Effect = chunk_effect k p.request r in
    unless-by k CommitKind.Chunk (chunk_why (size_in log (Actor.Thread k) r.thread.commits) r.n) (ended log k e u)
    (interrupted-by k CommitKind.Chunk (interrupt_at log.interrupts k e.thread.commits) e u (refl, refl))

served-by : (log : LogParts) (p : Progress) (k : ℕ) (ts : List Parts) (t : Parts) (m : List ℕ) (o : Option TakenRecord) → IsBy k CommitKind.Serial (served_verdict log p k ts t m o)
served-by log p k ts t m None = tt
served-by log p k ts t m (Some g) =
    let e : Effect = serial_effect k (serve log.threads k ts p.request t m g.input) in
    interrupted-by k CommitKind.Serial (interrupt_at log.interrupts k e.thread.commits) e g.used (refl, refl)

serial-by : (log : LogParts) (p : Progress) (u : Used) (k : ℕ) (ts : List Parts) (t : Parts) (m : List ℕ) → IsBy k CommitKind.Serial (serial_verdict log p u k ts t m)
unfolding serial_verdict
serial-by log p u k ts t m =
    unless-by k CommitKind.Serial (serial_why (size_in log (Actor.Thread k) t.commits)) (served_verdict log p k ts t m (given (need t m) (slice_get log.inputs u.inputs) u))
    (served-by log p k ts t m (given (need t m) (slice_get log.inputs u.inputs) u))

-- if thread k's step goes, its commit is thread k's and of the kind of the step
pub verdict-by : (log : LogParts) (y : Played) (k : ℕ) (t : Parts) (o : Option Kind) → IsBy k (kind_by o) (thread_verdict log y k t o)
verdict-by log y k t None = chunk-by log y.progress y.used k (run y.memory t (size_or_standard log k t.commits))
verdict-by log y k t (Some kind) = serial-by log y.progress y.used k y.threads t y.memory

-- ---- one step

-- thread k's step goes, and this is its commit
pub record ThreadDoes (log : LogParts) (y : Played) (k : ℕ) (c : Commit) : Type 0 where
  pub thread : Parts
  pub there : slice_get y.threads k ≡ Some thread
  pub live : is_live thread ≡ true
  pub effect : Effect
  pub used : Used
  pub goes : thread_verdict log y k thread (next_kind thread y.memory) ≡ Goes effect used
  pub commit : effect.commit ≡ c
  pub actor : c.actor ≡ Actor.Thread k
  pub kind : c.kind ≡ kind_by (next_kind thread y.memory)

pub record DmaDoes (log : LogParts) (y : Played) (c : Commit) : Type 0 where
  pub words : List Stored
  pub goes : dma_verdict log y.progress y.used ≡ DmaGoes words
  pub commit : c ≡ dma_commit

abbrev pub Does : LogParts → Played → TurnOrEnd → Commit → Type 0
Does log y (Turn k) c = ThreadDoes log y k c
Does log y TurnOfDma c = DmaDoes log y c
Does log y (Ended how) c = ⊥

-- the next step goes, and this is its commit
pub record Step (log : LogParts) (y : Played) (c : Commit) : Type 0 where
  pub looked : IsLooked log y
  pub below : position y.progress < log.count
  pub does : Does log y y.now c
  pub appended : (play_one log y).progress.commits ≡ y.progress.commits ++ c ∷ []
  pub position_next : position (play_one log y).progress ≡ suc (position y.progress)
  pub named : log.mode ≢ ModeName.Picolog → slice_get log.order (position y.progress) ≡ Some c.actor

-- all commits are done
pub record Over (log : LogParts) (y : Played) : Type 0 where
  pub looked : IsLooked log y
  pub done : position y.progress ≡ log.count
  pub complete : y.now ≡ Ended (End.Complete log.count)

-- the play goes on with these commits, and is then complete
abbrev pub Follows : LogParts → Played → List Commit → Type 0
Follows log y [] = Over log y
Follows log y (c ∷ cs) = Step log y c × Follows log (play_one log y) cs

-- ---- turns

diverged-complete : {A : Type 0} (i n : ℕ) (why : Why) → Ended (End.Diverged i why) ≡ Ended (End.Complete n) → A
diverged-complete i n why e = cc

-- while the log has commits left, the turn is that of the actor it names next
pub below-is : (log : LogParts) (p : Progress) (u : Used) (ts : List Parts) → position p < log.count → now_at log p u ts ≡ turn_of (position p) ts (next_actor log p ts)
unfolding now_at
below-is log p u ts l =
    ap (λ (b : Bool). cond b (turn_of (position p) ts (next_actor log p ts)) (at_end (position p) (has_left_over log u ts))) (lt-ltb (position p) log.count l)

-- with all the log's commits done, the play ends: diverged if something is left over, else complete
pub over-is : (log : LogParts) (p : Progress) (u : Used) (ts : List Parts) → log.count ≤ position p → now_at log p u ts ≡ at_end (position p) (has_left_over log u ts)
unfolding now_at
over-is log p u ts l =
    ap (λ (b : Bool). cond b (turn_of (position p) ts (next_actor log p ts)) (at_end (position p) (has_left_over log u ts))) (le-ltb (position p) log.count l)

-- a turn is of a live thread or of a DMA, or there is none, and the play has left its log
live-diverged : (i k : ℕ) (how : End) (b : Bool) → cond b (Turn k) (Ended (End.Diverged i Why.NoThread)) ≡ Ended how → End.Diverged i Why.NoThread ≡ how
live-diverged i k how true e = cc
live-diverged i k how false e = cc

thread-diverged : (i k : ℕ) (how : End) (o : Option Parts) → turn_of_thread i k o ≡ Ended how → End.Diverged i Why.NoThread ≡ how
thread-diverged i k how None e = cc
thread-diverged i k how (Some t) e = live-diverged i k how (is_live t) e

turn-diverged : (i : ℕ) (how : End) (ts : List Parts) (o : Option Actor) → turn_of i ts o ≡ Ended how → End.Diverged i Why.NoThread ≡ how
turn-diverged i how ts None e = cc
turn-diverged i how ts (Some Actor.Dma) e = cc
turn-diverged i how ts (Some (Actor.Thread k)) e = thread-diverged i k how (slice_get ts k) e

-- a play that ends complete ends at the number of commits that are done
pub end-complete : (i n : ℕ) (b : Bool) → at_end i b ≡ Ended (End.Complete n) → i ≡ n
end-complete i n true e = cc
end-complete i n false e = cc

live-turn : (i j k : ℕ) (b : Bool) → cond b (Turn j) (Ended (End.Diverged i Why.NoThread)) ≡ Turn k → j ≡ k
live-turn i j k true e = cc
live-turn i j k false e = cc

thread-turn : (i j k : ℕ) (o : Option Parts) → turn_of_thread i j o ≡ Turn k → j ≡ k
thread-turn i j k None e = cc
thread-turn i j k (Some t) e = live-turn i j k (is_live t) e

-- if the turn is thread k's, thread k is the actor that is named next
pub named-thread : (i k : ℕ) (ts : List Parts) (o : Option Actor) → turn_of i ts o ≡ Turn k → o ≡ Some (Actor.Thread k)
named-thread i k ts None e = cc
named-thread i k ts (Some Actor.Dma) e = cc
named-thread i k ts (Some (Actor.Thread j)) e = ap (λ (n : ℕ). Some (Actor.Thread n)) (thread-turn i j k (slice_get ts j) e)

live-dma : {A : Type 0} (i j : ℕ) (b : Bool) → cond b (Turn j) (Ended (End.Diverged i Why.NoThread)) ≡ TurnOfDma → A
live-dma i j true e = cc
live-dma i j false e = cc

thread-dma : {A : Type 0} (i j : ℕ) (o : Option Parts) → turn_of_thread i j o ≡ TurnOfDma → A
thread-dma i j None e = cc
thread-dma i j (Some t) e = live-dma i j (is_live t) e

-- if the turn is the DMA's, the DMA is the actor that is named next
pub named-dma : (i : ℕ) (ts : List Parts) (o : Option Actor) → turn_of i ts o ≡ TurnOfDma → o ≡ Some Actor.Dma
named-dma i ts None e = cc
named-dma i ts (Some Actor.Dma) e = refl
named-dma i ts (Some (Actor.Thread j)) e = thread-dma i j (slice_get ts j) e

-- in every mode except picolog, the next actor is the one that the logged order has at that commit
pub has-order : (mode : ModeName) (log : LogParts) (i : ℕ) (last : Option ℕ) (live : List Bool) → mode ≢ ModeName.Picolog → head_in mode log i last live ≡ slice_get log.order i
has-order ModeName.OrderSize log i last live ne = refl
has-order ModeName.OrderOnly log i last live ne = refl
has-order ModeName.Picolog log i last live ne = absurd (ne refl)

in-order : (log : LogParts) (p : Progress) (ts : List Parts) (a : Actor) → next_actor log p ts ≡ Some a → log.mode ≢ ModeName.Picolog → slice_get log.order (position p) ≡ Some a
in-order log p ts a e ne = sym (has-order log.mode log (position p) p.last (map is_live ts) ne) ∙ e

-- ---- a complete play

record Rest (log : LogParts) (y : Played) (n : ℕ) : Type 0 where
  commits : List Commit
  follows : Follows log y commits
  all : (plays log y n).progress.commits ≡ y.progress.commits ++ commits

over : (log : LogParts) (y : Played) (c : ℕ) → IsLooked log y → position y.progress ≡ log.count → y.now ≡ Ended (End.Complete c) → Rest log y 0
over log y c looked done complete =
    let at_ : at_end (position y.progress) (has_left_over log y.used y.threads) ≡ Ended (End.Complete c) =
    sym (over-is log y.progress y.used y.threads (omega (arith, done))) ∙ sym looked ∙ complete in
    let n : c ≡ log.count = sym (end-complete (position y.progress) c _ at_) ∙ done in
    record {
      commits = [];
      follows = record { looked = looked; done = done; complete = complete ∙ ap (λ (i : ℕ). Ended (End.Complete i)) n };
      all = sym (append-nil y.progress.commits);
    }

-- a play that has left its log is never complete
stays : {A : Type 0} (log : LogParts) (y : Played) (n c i : ℕ) (why : Why) → y.now ≡ Ended (End.Diverged i why) → (plays log y n).now ≡ Ended (End.Complete c) → A
stays log y n c i why left complete =
    let e : n + 0 ≡ n = omega arith in
    diverged-complete i c why
    (sym left ∙ sym (ap (λ (x : Played). x.now) (sym (ap (plays log y) e) ∙ plays-stay log y 0 n (End.Diverged i why) left)) ∙ complete)

one-is : (log : LogParts) (y : Played) (now : TurnOrEnd) → y.now ≡ now → play_one log y ≡ play_turn log y now
unfolding play_one
one-is log y now e = ap (play_turn log y) e

-- with one step that goes to z
stepped : (log : LogParts) (y z : Played) (n : ℕ) (commit : Commit) → play_one log y ≡ z → IsLooked log y → position y.progress < log.count → Does log y y.now commit
    → z.progress.commits ≡ y.progress.commits ++ commit ∷ [] → z.progress.first ≡ y.progress.first
    → (log.mode ≢ ModeName.Picolog → slice_get log.order (position y.progress) ≡ Some commit.actor) → Rest log z n → Rest log y (suc n)
stepped log y z n commit is looked below does appended first named rest =
    record {
      commits = commit ∷ rest.commits;
      follows = (
        record {
          looked = looked;
          below = below;
          does = does;
          appended = ap (λ (x : Played). x.progress.commits) is ∙ appended;
          position_next = ap (λ (x : Played). position x.progress) is ∙ (λ i. first i + length (appended i)) ∙ position-more y.progress commit;
          named = named;
        },
        subst (λ (x : Played). Follows log x rest.commits) (sym is) rest.follows,
      );
      all = ap (λ (x : Played). x.progress.commits) (sym (plays-shift log y n) ∙ ap (λ (x : Played). plays log x n) is)
          ∙ rest.all ∙ ap (λ (cs : List Commit). cs ++ rest.commits) appended ∙ append_assoc y.progress.commits (commit ∷ []) rest.commits;
    }

abbrev Going : LogParts → ℕ → Type 0
Going log n = (y : Played) (c : ℕ) → IsLooked log y → position y.progress + n ≡ log.count → (plays log y n).now ≡ Ended (End.Complete c) → Rest log y n

next-plays : (log : LogParts) (y z : Played) (n c : ℕ) → play_one log y ≡ z → (plays log y (suc n)).now ≡ Ended (End.Complete c) → (plays log z n).now ≡ Ended (End.Complete c)
next-plays log y z n c is complete =
    ap (λ (x : Played). x.now) (ap (λ (x : Played). plays log x n) (sym is) ∙ plays-shift log y n) ∙ complete

thread-on : (log : LogParts) (y : Played) (n c k : ℕ) (t : Parts) (v : LogVerdict) → Going log n → IsLooked log y → position y.progress + suc n ≡ log.count → (plays log y (suc n)).now ≡ Ended (End.Complete c)
    → y.now ≡ Turn k → slice_get y.threads k ≡ Some t → is_live t ≡ true → thread_verdict log y k t (next_kind t y.memory) ≡ v → IsBy k (kind_by (next_kind t y.memory)) v → Rest log y (suc n)
thread-on log y n c k t (Fails why) going looked sum complete turn there live is by =
    let one : play_one log y ≡ settled log y k (Fails why) = one-is log y (Turn k) turn ∙ ap (play_thread log y k) there ∙ ap (settled log y k) is in
    stays log (settled log y k (Fails why)) n c (position y.progress) why refl (next-plays log y (settled log y k (Fails why)) n c one complete)
thread-on log y n c k t (Goes e u) going looked sum complete turn there live is by =
    let z : Played = settled log y k (Goes e u) in
    let one : play_one log y ≡ z = one-is log y (Turn k) turn ∙ ap (play_thread log y k) there ∙ ap (settled log y k) is in
    let next : position z.progress ≡ suc (position y.progress) = position-more y.progress e.commit in
    let below : position y.progress < log.count = omega (arith, sum) in
    let named : next_actor log y.progress y.threads ≡ Some (Actor.Thread k) =
    named-thread (position y.progress) k y.threads (next_actor log y.progress y.threads) (sym (below-is log y.progress y.used y.threads below) ∙ sym looked ∙ turn) in
    stepped log y z n e.commit one looked below
    (subst (λ (w : TurnOrEnd). Does log y w e.commit) (sym turn)
    (record { thread = t; there = there; live = live; effect = e; used = u; goes = is; commit = refl; actor = by.0; kind = by.1 }))
    refl refl (λ ne. in-order log y.progress y.threads e.commit.actor (named ∙ ap (λ (a : Actor). Some a) (sym by.0)) ne)
    (going z c refl (omega (arith, sum, next)) (next-plays log y z n c one complete))

dma-on : (log : LogParts) (y : Played) (n c : ℕ) (v : DmaVerdict) → Going log n → IsLooked log y → position y.progress + suc n ≡ log.count → (plays log y (suc n)).now ≡ Ended (End.Complete c)
    → y.now ≡ TurnOfDma → dma_verdict log y.progress y.used ≡ v → Rest log y (suc n)
dma-on log y n c (DmaFails why) going looked sum complete turn is =
    let one : play_one log y ≡ dma_settled log y (DmaFails why) = one-is log y TurnOfDma turn ∙ ap (dma_settled log y) is in
    stays log (dma_settled log y (DmaFails why)) n c (position y.progress) why refl (next-plays log y (dma_settled log y (DmaFails why)) n c one complete)
dma-on log y n c (DmaGoes words) going looked sum complete turn is =
    let z : Played = dma_settled log y (DmaGoes words) in
    let one : play_one log y ≡ z = one-is log y TurnOfDma turn ∙ ap (dma_settled log y) is in
    let next : position z.progress ≡ suc (position y.progress) = position-more y.progress dma_commit in
    let below : position y.progress < log.count = omega (arith, sum) in
    let named : next_actor log y.progress y.threads ≡ Some Actor.Dma =
    named-dma (position y.progress) y.threads (next_actor log y.progress y.threads) (sym (below-is log y.progress y.used y.threads below) ∙ sym looked ∙ turn) in
    stepped log y z n dma_commit one looked below
    (subst (λ (w : TurnOrEnd). Does log y w dma_commit) (sym turn) (record { words = words; goes = is; commit = refl }))
    refl refl (λ ne. in-order log y.progress y.threads Actor.Dma named ne)
    (going z c refl (omega (arith, sum, next)) (next-plays log y z n c one complete))

ended-on : (log : LogParts) (y : Played) (n c : ℕ) (how : End) → IsLooked log y → position y.progress + suc n ≡ log.count → (plays log y (suc n)).now ≡ Ended (End.Complete c) → y.now ≡ Ended how → Rest log y (suc n)
ended-on log y n c how looked sum complete is =
    let diverged = turn-diverged (position y.progress) how y.threads (next_actor log y.progress y.threads)
    (sym (below-is log y.progress y.used y.threads (omega (arith, sum))) ∙ sym looked ∙ is) in
    stays log y (suc n) c (position y.progress) Why.NoThread (is ∙ ap Ended (sym diverged)) complete

now-on : (log : LogParts) (y : Played) (n c : ℕ) (now : TurnOrEnd) → Going log n → IsLooked log y → position y.progress + suc n ≡ log.count → (plays log y (suc n)).now ≡ Ended (End.Complete c) → y.now ≡ now → Rest log y (suc n)
now-on log y n c (Ended how) going looked sum complete is = ended-on log y n c how looked sum complete is
now-on log y n c TurnOfDma going looked sum complete is = dma-on log y n c (dma_verdict log y.progress y.used) going looked sum complete is refl
now-on log y n c (Turn k) going looked sum complete is =
    let l : Lives y.threads k = turn-lives log y.progress y.used y.threads k (sym looked ∙ is) in
    thread-on log y n c k l.thread (thread_verdict log y k l.thread (next_kind l.thread y.memory)) going looked sum complete is l.is l.live refl
    (verdict-by log y k l.thread (next_kind l.thread y.memory))

goes-on : (log : LogParts) (n : ℕ) → Going log n
goes-on log zero y c looked sum complete = over log y c looked (omega (arith, sum)) complete
goes-on log (suc n) y c looked sum complete = now-on log y n c y.now (goes-on log n) looked sum complete refl

-- a play that is complete goes on with all of its commits
pub follows : (log : LogParts) (memory : List ℕ) (entry : ℕ) → FitsImage log memory entry → Follows log (opened log memory entry) (play log memory entry).progress.commits
follows log memory entry fits =
    let r : Rest log (opened log memory entry) log.count = goes-on log log.count (opened log memory entry) log.count refl (omega arith) fits in
    subst (Follows log (opened log memory entry)) (sym r.all) r.follows
