-- How a play goes on: commit by commit, until it has ended, by its log's count at the latest; and then it stays.
use Rattle.std.proofs.Common.{◌≡◌, ℕ, zero, suc, ◌+◌, ◌≤◌, ◌⊎◌, inl, inr, Bool, true, false, cond, List, [], ◌∷◌, ◌++◌, length, Option, Some, None, refl, sym, ap, ◌∙◌, subst, arith}
use Rattle.std.specs.Prelude.{slice_get, nat_lt}
use Rattle.std.proofs.lemmas.Bool.{le-ltb}
use Rattle.std.proofs.lemmas.List.{append-nil, append_assoc}
use Rattle.dl_entry.specs.declared.Actor.{Actor}
use Rattle.dl_entry.specs.declared.Commit.{Commit}
use Rattle.dl_entry.specs.declared.End.{End}
use Rattle.dl_entry.specs.declared.Why.{Why}
use Rattle.spec_isa.specs.declared.thread.Parts.{Parts}
use Rattle.spec_log.specs.declared.LogParts.{LogParts}
use Rattle.spec_kernel.specs.Interrupts.{is_live}
use Rattle.spec_kernel.specs.Needs.{next_kind}
use Rattle.spec_play.specs.Effects.{dma_commit}
use Rattle.spec_play.specs.Progress.{Progress, position}
use Rattle.spec_play.specs.declared.used.Used.{Used}
use Rattle.spec_play.specs.Turns.{TurnOrEnd, Turn, TurnOfDma, Ended, has_left_over, at_end, turn_of_thread, turn_of, next_actor, now_at}
use Rattle.spec_play.specs.Verdicts.{LogVerdict, Goes, Fails}
use Rattle.spec_play.specs.Transfers.{DmaVerdict, DmaGoes, DmaFails, dma_verdict}
use Rattle.spec_play.specs.Plays.{Played, opened, settled, thread_verdict, play_thread, dma_settled, play_turn, play_one, plays, play}
use Rattle.spec_play.proofs.Positions.{position-more}

-- ---- a play that has ended stays

-- a play that has ended is the same after one more commit is asked for
pub over-stays : (log : LogParts) (y : Played) (how : End) → y.now ≡ Ended how → play_one log y ≡ y
unfolding play_one
over-stays log y how e = ap (play_turn log y) e

-- a play that has ended after i commits is the same after any number more
pub plays-stay : (log : LogParts) (y : Played) (i n : ℕ) (how : End) → (plays log y i).now ≡ Ended how → plays log y (n + i) ≡ plays log y i
plays-stay log y i zero how e = let h : 0 + i ≡ i = omega arith in ap (plays log y) h
plays-stay log y i (suc n) how e =
    let h : suc n + i ≡ suc (n + i) = omega arith in
    ap (plays log y) h ∙ ap (play_one log) (plays-stay log y i n how e) ∙ over-stays log (plays log y i) how e

-- ---- at most one more commit

-- the second list of commits is the first and then some more, or none
pub record IsBehind (xs ys : List Commit) : Type 0 where
  pub rest : List Commit
  pub same : ys ≡ xs ++ rest

record OneMore (y z : Played) : Type 0 where
  behind : IsBehind y.progress.commits z.progress.commits
  most : position z.progress ≤ suc (position y.progress)
  first : z.progress.first ≡ y.progress.first

no_more : (y z : Played) → z.progress ≡ y.progress → OneMore y z
no_more y z e =
    record {
      behind = record { rest = []; same = ap (λ (p : Progress). p.commits) e ∙ sym (append-nil y.progress.commits) };
      most = let h = ap position e in omega arith;
      first = ap (λ (p : Progress). p.first) e;
    }

one_more : (y z : Played) (c : Commit) → z.progress.first ≡ y.progress.first → z.progress.commits ≡ y.progress.commits ++ c ∷ [] → OneMore y z
one_more y z c first e =
    record {
      behind = record { rest = c ∷ []; same = e };
      most = let h = ap (λ (cs : List Commit). length cs) e in let l = position-more y.progress c in omega arith;
      first = first;
    }

settled_more : (log : LogParts) (y : Played) (k : ℕ) (v : LogVerdict) → OneMore y (settled log y k v)
settled_more log y k (Goes e u) = one_more y (settled log y k (Goes e u)) e.commit refl refl
settled_more log y k (Fails why) = no_more y (settled log y k (Fails why)) refl

thread_more : (log : LogParts) (y : Played) (k : ℕ) (o : Option Parts) → OneMore y (play_thread log y k o)
thread_more log y k None = no_more y y refl
thread_more log y k (Some t) = settled_more log y k (thread_verdict log y k t (next_kind t y.memory))

dma_more : (log : LogParts) (y : Played) (v : DmaVerdict) → OneMore y (dma_settled log y v)
dma_more log y (DmaGoes words) = one_more y (dma_settled log y (DmaGoes words)) dma_commit refl refl
dma_more log y (DmaFails why) = no_more y (dma_settled log y (DmaFails why)) refl

now_more : (log : LogParts) (y : Played) (now : TurnOrEnd) → OneMore y (play_turn log y now)
now_more log y (Ended how) = no_more y y refl
now_more log y TurnOfDma = dma_more log y (dma_verdict log y.progress y.used)
now_more log y (Turn k) = thread_more log y k (slice_get y.threads k)

play_more : (log : LogParts) (y : Played) → OneMore y (play_one log y)
unfolding play_one
play_more log y = now_more log y y.now

-- the commits of a play so far are the first ones of what it has later
pub plays-behind : (log : LogParts) (y : Played) (i n : ℕ) → IsBehind (plays log y i).progress.commits (plays log y (n + i)).progress.commits
plays-behind log y i zero =
    let h : 0 + i ≡ i = omega arith in
    record { rest = []; same = ap (λ (j : ℕ). (plays log y j).progress.commits) h ∙ sym (append-nil (plays log y i).progress.commits) }
plays-behind log y i (suc n) =
    let b = plays-behind log y i n in
    let m = (play_more log (plays log y (n + i))).behind in
    let h : suc n + i ≡ suc (n + i) = omega arith in
    record {
      rest = b.rest ++ m.rest;
      same = ap (λ (j : ℕ). (plays log y j).progress.commits) h ∙ m.same ∙ ap (λ (cs : List Commit). cs ++ m.rest) b.same ∙ append_assoc (plays log y i).progress.commits b.rest m.rest;
    }

-- a play asked for i commits has done at most i
pub plays-most : (log : LogParts) (memory : List ℕ) (entry i : ℕ) → position (plays log (opened log memory entry) i).progress ≤ i
plays-most log memory entry zero = omega arith
plays-most log memory entry (suc i) =
    let h = plays-most log memory entry i in
    let m = (play_more log (plays log (opened log memory entry) i)).most in
    omega arith

-- its first commit stays where it is
pub plays-first : (log : LogParts) (y : Played) (i : ℕ) → (plays log y i).progress.first ≡ y.progress.first
plays-first log y zero = refl
plays-first log y (suc i) = (play_more log (plays log y i)).first ∙ plays-first log y i

-- ---- a play comes to an end

-- a play that goes on has done as many commits as it was asked for, and its turn is the log's
pub record GoesOn (log : LogParts) (y : Played) (i : ℕ) : Type 0 where
  pub done : position y.progress ≡ i
  pub now : now_at log y.progress y.used y.threads ≡ y.now

abbrev pub EndsOr : LogParts → Played → ℕ → Type 0
EndsOr log y i = ((how : End) × (y.now ≡ Ended how)) ⊎ GoesOn log y i

counted_one : (p : Progress) (c : Commit) (i : ℕ) → position p ≡ i → p.first + length (p.commits ++ c ∷ []) ≡ suc i
counted_one p c i e = position-more p c ∙ ap suc e

settled_goes : (log : LogParts) (y : Played) (k i : ℕ) (v : LogVerdict) → position y.progress ≡ i → EndsOr log (settled log y k v) (suc i)
settled_goes log y k i (Goes e u) done = inr (record { done = counted_one y.progress e.commit i done; now = refl })
settled_goes log y k i (Fails why) done = inl (End.Diverged (position y.progress) why, refl)

dma_goes : (log : LogParts) (y : Played) (i : ℕ) (v : DmaVerdict) → position y.progress ≡ i → EndsOr log (dma_settled log y v) (suc i)
dma_goes log y i (DmaGoes words) done = inr (record { done = counted_one y.progress dma_commit i done; now = refl })
dma_goes log y i (DmaFails why) done = inl (End.Diverged (position y.progress) why, refl)

-- thread k is there and live
pub record Lives (ts : List Parts) (k : ℕ) : Type 0 where
  pub thread : Parts
  pub is : slice_get ts k ≡ Some thread
  pub live : is_live thread ≡ true

turn_live : (i j k : ℕ) (ts : List Parts) (t : Parts) (b : Bool) → slice_get ts j ≡ Some t → is_live t ≡ b → cond b (Turn j) (Ended (End.Diverged i Why.NoThread)) ≡ Turn k → Lives ts k
turn_live i j k ts t true is live e = let h : j ≡ k = cc in record { thread = t; is = ap (slice_get ts) (sym h) ∙ is; live = live }
turn_live i j k ts t false is live e = cc

turn_there : (i j k : ℕ) (ts : List Parts) (o : Option Parts) → slice_get ts j ≡ o → turn_of_thread i j o ≡ Turn k → Lives ts k
turn_there i j k ts None is e = cc
turn_there i j k ts (Some t) is e = turn_live i j k ts t (is_live t) is refl e

turn_named : (i k : ℕ) (ts : List Parts) (o : Option Actor) → turn_of i ts o ≡ Turn k → Lives ts k
turn_named i k ts None e = cc
turn_named i k ts (Some Actor.Dma) e = cc
turn_named i k ts (Some (Actor.Thread j)) e = turn_there i j k ts (slice_get ts j) refl e

no_turn : (i k : ℕ) (left : Bool) → at_end i left ≡ Turn k → {A : Type 0} → A
no_turn i k true e = cc
no_turn i k false e = cc

turn_below : (i k : ℕ) (ts : List Parts) (o : Option Actor) (below left : Bool) → cond below (turn_of i ts o) (at_end i left) ≡ Turn k → Lives ts k
turn_below i k ts o true left e = turn_named i k ts o e
turn_below i k ts o false left e = no_turn i k left e

-- a thread that has the turn is live
pub turn-lives : (log : LogParts) (p : Progress) (u : Used) (ts : List Parts) (k : ℕ) → now_at log p u ts ≡ Turn k → Lives ts k
unfolding now_at
turn-lives log p u ts k e = turn_below (position p) k ts (next_actor log p ts) (nat_lt (position p) log.count) (has_left_over log u ts) e

now_goes : (log : LogParts) (y : Played) (i : ℕ) (now : TurnOrEnd) → y.now ≡ now → GoesOn log y i → EndsOr log (play_turn log y now) (suc i)
now_goes log y i (Ended how) is g = inl (how, is)
now_goes log y i TurnOfDma is g = dma_goes log y i (dma_verdict log y.progress y.used) g.done
now_goes log y i (Turn k) is g =
    let l : Lives y.threads k = turn-lives log y.progress y.used y.threads k (g.now ∙ is) in
    subst (λ (o : Option Parts). EndsOr log (play_thread log y k o) (suc i)) (sym l.is)
    (settled_goes log y k i (thread_verdict log y k l.thread (next_kind l.thread y.memory)) g.done)

one_goes : (log : LogParts) (y : Played) (i : ℕ) → EndsOr log y i → EndsOr log (play_one log y) (suc i)
unfolding play_one
one_goes log y i (inl e) = inl (e.0, ap (λ (x : Played). x.now) (over-stays log y e.0 e.1) ∙ e.1)
one_goes log y i (inr g) = now_goes log y i y.now refl g

-- a play asked for i commits has ended, or has done i and goes on with the turn that the log gives
pub plays-go : (log : LogParts) (memory : List ℕ) (entry i : ℕ) → EndsOr log (plays log (opened log memory entry) i) i
plays-go log memory entry zero = inr (record { done = refl; now = refl })
plays-go log memory entry (suc i) = one_goes log (plays log (opened log memory entry) i) i (plays-go log memory entry i)

ended_at : (i : ℕ) (left : Bool) → (how : End) × (at_end i left ≡ Ended how)
ended_at i true = (End.Diverged i Why.LeftOver, refl)
ended_at i false = (End.Complete i, refl)

-- with all commits done the log says how it ends
pub over-at : (log : LogParts) (p : Progress) (u : Used) (ts : List Parts) → log.count ≤ position p → (how : End) × (now_at log p u ts ≡ Ended how)
unfolding now_at
over-at log p u ts done =
    let e = ended_at (position p) (has_left_over log u ts) in
    (e.0, ap (λ (b : Bool). cond b (turn_of (position p) ts (next_actor log p ts)) (at_end (position p) (has_left_over log u ts))) (le-ltb (position p) log.count done) ∙ e.1)

goes_over : (log : LogParts) (y : Played) → EndsOr log y log.count → (how : End) × (y.now ≡ Ended how)
goes_over log y (inl e) = e
goes_over log y (inr g) =
    let h = g.done in
    let o = over-at log y.progress y.used y.threads (omega arith) in (o.0, sym g.now ∙ o.1)

-- a whole play has ended, in some way
pub play-over : (log : LogParts) (memory : List ℕ) (entry : ℕ) → (how : End) × ((play log memory entry).now ≡ Ended how)
play-over log memory entry = goes_over log (play log memory entry) (plays-go log memory entry log.count)

-- if a play has ended, the whole play has ended there
pub last-is : (log : LogParts) (memory : List ℕ) (entry i : ℕ) (how : End) → (plays log (opened log memory entry) i).now ≡ Ended how → plays log (opened log memory entry) i ≡ play log memory entry
last-is log memory entry i how e =
    let start = opened log memory entry in
    let o = play-over log memory entry in
    let ci : log.count + i ≡ i + log.count = omega arith in
    sym (plays-stay log start i log.count how e) ∙ ap (plays log start) ci ∙ plays-stay log start log.count i o.0 o.1
