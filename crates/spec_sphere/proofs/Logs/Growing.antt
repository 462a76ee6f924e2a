-- How a recorded log grows: what it has of the past stays, and what is to come follows.
use Rattle.std.proofs.Common.{◌≡◌, ◌≢◌, ℕ, zero, suc, ◌+◌, ◌<◌, ◌≤◌, ◌⊎◌, inl, inr, Bool, true, false, cond, List, [], ◌∷◌, ◌++◌, length, Option, Some, None, refl, sym, ap, ◌∙◌, subst, arith, set}
use Rattle.std.specs.Prelude.{slice_get}
use Rattle.std.proofs.lemmas.Bool.{cases_eq, eq-eqb, ne_eqb}
use Rattle.std.proofs.lemmas.List.{length-append}
use Rattle.std.proofs.lemmas.Option.{none-some}
use Rattle.dl_entry.specs.declared.Actor.{Actor}
use Rattle.dl_entry.specs.declared.Commit.{Commit}
use Rattle.dl_entry.specs.declared.Input.{Input}
use Rattle.spec_isa.specs.declared.thread.Parts.{Parts}
use Rattle.spec_log.specs.declared.ModeName.{ModeName}
use Rattle.spec_log.specs.declared.DmaRecord.{DmaRecord}
use Rattle.spec_log.specs.declared.ShortSize.{ShortSize}
use Rattle.spec_log.specs.declared.Sizes.{Sizes}
use Rattle.spec_log.specs.declared.LogParts.{LogParts}
use Rattle.spec_kernel.specs.Interrupts.{takes_interrupt}
use Rattle.spec_play.specs.Effects.{Effect}
use Rattle.spec_play.specs.Progress.{position}
use Rattle.spec_play.specs.Verdicts.{interrupt_at}
use Rattle.spec_log.specs.Noting.{order_with}
use Rattle.spec_play.specs.Recording.{noted, input_noted}
use Rattle.spec_sphere.specs.sphere.Spheres.{Sphere}
use Rattle.spec_sphere.specs.promises.Sound.{commits_if, commits_in}
use Rattle.spec_sphere.specs.promises.Standing.{OrderStands, SizesStand, Stands, short_at, count_of, DmasBelow}
use Rattle.spec_sphere.proofs.Logs.Inserting.{with_short, with_size}
use Rattle.spec_strata.proofs.Shares.Steps.{get-set_other, get-set_same}
use Rattle.spec_sphere.proofs.Moves.Granted.{get-append}
use Rattle.spec_sphere.proofs.Moves.Threads.{IsNew, AreNew}
use Rattle.spec_sphere.proofs.Logs.Lookups.{short-other, count-append, DmasFrom, DmasBelow_more}

-- ---- the commits of threads

new_commits : (spawned : List Parts) (j : ℕ) → AreNew spawned → commits_in spawned j ≡ 0
new_commits [] j new = refl
new_commits (m ∷ spawned) zero new = new.0.commits
new_commits (m ∷ spawned) (suc j) new = new_commits spawned j new.1

append_commits : (ts spawned : List Parts) (j : ℕ) → AreNew spawned → commits_in (ts ++ spawned) j ≡ commits_in ts j
append_commits [] spawned j new = new_commits spawned j new
append_commits (t ∷ ts) spawned zero new = refl
append_commits (t ∷ ts) spawned (suc j) new = append_commits ts spawned j new

-- a commit of thread k leaves the number of every other thread's commits
pub commits-other : (ts spawned : List Parts) (k j : ℕ) (u : Parts) → AreNew spawned → j ≢ k → commits_in (set ts k u ++ spawned) j ≡ commits_in ts j
commits-other ts spawned k j u new ne = append_commits (set ts k u) spawned j new ∙ ap commits_if (get-set_other ts k j u ne)

-- after a commit of thread k its number of commits is that of what it has become
pub commits-same : (ts spawned : List Parts) (k : ℕ) (t u : Parts) → slice_get ts k ≡ Some t → commits_in (set ts k u ++ spawned) k ≡ u.commits
commits-same ts spawned k t u is = ap commits_if (get-append (set ts k u) spawned k u (get-set_same ts k u t is))

-- ---- what stands

-- the first sizes have those of the second as their past
abbrev pub SizesAhead : Sizes → Sizes → List Parts → Type 0
SizesAhead (Sizes.Each ys) (Sizes.Each xs) ts = (rest : List ℕ) × (ys ≡ xs ++ rest)
SizesAhead (Sizes.Each ys) (Sizes.Short xs) ts = ⊥
SizesAhead (Sizes.Short ys) (Sizes.Each xs) ts = ⊥
SizesAhead (Sizes.Short ys) (Sizes.Short xs) ts = (k i : ℕ) → i < commits_in ts k → short_at ys k i ≡ short_at xs k i

-- the first list begins with the second
abbrev pub Behind : {A : Type 0} → List A → List A → Type 0
Behind {A} ys xs = (rest : List A) × (ys ≡ xs ++ rest)

abbrev pub DmasBehind : List DmaRecord → List DmaRecord → (n : ℕ) → Type 0
DmasBehind ys xs n = (rest : List DmaRecord) × (ys ≡ xs ++ rest) × DmasFrom n rest

-- L is what the log has become in the end
pub record Ahead (L : LogParts) (p : Sphere) (log : LogParts) : Type 0 where
  pub mode : L.mode ≡ log.mode
  pub threads : L.threads ≡ log.threads
  pub s : L.s ≡ log.s
  pub count : log.count ≤ L.count
  pub order : Behind L.order log.order
  pub sizes : SizesAhead L.sizes log.sizes p.threads
  pub past : (k i : ℕ) → i < commits_in p.threads k → interrupt_at L.interrupts k i ≡ interrupt_at log.interrupts k i
  pub next : (k : ℕ) (t : Parts) → slice_get p.threads k ≡ Some t → (interrupt_at L.interrupts k t.commits ≡ interrupt_at log.interrupts k t.commits) ⊎ (takes_interrupt t ≡ true)
  pub inputs : Behind L.inputs log.inputs
  pub dmas : DmasBehind L.dmas log.dmas (position p.progress)

-- ---- a commit of a thread

-- a commit of a thread: what the thread was and what it is after it, whom its step spawned and which input it took
pub record ThreadCommit : Type 0 where
  pub thread : ℕ
  pub before : Parts
  pub after : Parts
  pub spawned : List Parts
  pub commit : Commit
  -- whether its size is noted as that of a short chunk
  pub short : Bool
  pub input : Option Input

-- the commit of a thread that was t, with this effect
abbrev pub commit_of : (thread : ℕ) → (short : Bool) → Parts → Effect → Option Input → ThreadCommit
commit_of k short t e o = record { thread = k; before = t; after = e.thread; spawned = e.spawned; commit = e.commit; short = short; input = o }

-- the commit has made q of p, and qlog of its log
pub record HasCommitted (c : ThreadCommit) (p q : Sphere) (log qlog : LogParts) : Type 0 where
  pub start : slice_get p.threads c.thread ≡ Some c.before
  pub threads : q.threads ≡ set p.threads c.thread c.after ++ c.spawned
  pub commits : c.after.commits ≡ c.before.commits + 1
  pub new : AreNew c.spawned
  pub position_ : position q.progress ≡ suc (position p.progress)
  pub actor : c.commit.actor ≡ Actor.Thread c.thread
  pub log_ : qlog ≡ input_noted c.input (noted c.commit c.before.commits c.short log)

record SameButInputs (a b : LogParts) : Type 0 where
  mode : a.mode ≡ b.mode
  threads : a.threads ≡ b.threads
  s : a.s ≡ b.s
  count : a.count ≡ b.count
  order : a.order ≡ b.order
  sizes : a.sizes ≡ b.sizes
  interrupts : a.interrupts ≡ b.interrupts
  dmas : a.dmas ≡ b.dmas

inputs_apart : (o : Option Input) (log : LogParts) → SameButInputs (input_noted o log) log
inputs_apart None log = record { mode = refl; threads = refl; s = refl; count = refl; order = refl; sizes = refl; interrupts = refl; dmas = refl }
inputs_apart (Some r) log = record { mode = refl; threads = refl; s = refl; count = refl; order = refl; sizes = refl; interrupts = refl; dmas = refl }

-- the parts of the log after the commit
pub record LogAfter (c : ThreadCommit) (log qlog : LogParts) : Type 0 where
  pub mode : qlog.mode ≡ log.mode
  pub threads : qlog.threads ≡ log.threads
  pub s : qlog.s ≡ log.s
  pub count : qlog.count ≡ log.count + 1
  pub order : qlog.order ≡ order_with log.mode log.order (Actor.Thread c.thread)
  pub sizes : qlog.sizes ≡ with_size log.sizes (Actor.Thread c.thread) c.before.commits c.commit.size c.short
  pub interrupts : qlog.interrupts ≡ log.interrupts
  pub dmas : qlog.dmas ≡ log.dmas

-- what a commit of a thread adds to each part of the log
pub has_committed-parts : (c : ThreadCommit) (p q : Sphere) (log qlog : LogParts) → HasCommitted c p q log qlog → LogAfter c log qlog
has_committed-parts c p q log qlog d =
    let a = inputs_apart c.input (noted c.commit c.before.commits c.short log) in
    record {
      mode = ap (λ (l : LogParts). l.mode) d.log_ ∙ a.mode;
      threads = ap (λ (l : LogParts). l.threads) d.log_ ∙ a.threads;
      s = ap (λ (l : LogParts). l.s) d.log_ ∙ a.s;
      count = ap (λ (l : LogParts). l.count) d.log_ ∙ a.count;
      order = ap (λ (l : LogParts). l.order) d.log_ ∙ a.order ∙ ap (λ (x : Actor). order_with log.mode log.order x) d.actor;
      sizes = ap (λ (l : LogParts). l.sizes) d.log_ ∙ a.sizes ∙ ap (λ (x : Actor). with_size log.sizes x c.before.commits c.commit.size c.short) d.actor;
      interrupts = ap (λ (l : LogParts). l.interrupts) d.log_ ∙ a.interrupts;
      dmas = ap (λ (l : LogParts). l.dmas) d.log_ ∙ a.dmas;
    }

-- how the commits have grown: the thread's by one, and no other's
pub record Grows (k : ℕ) (ts us : List Parts) (t : Parts) : Type 0 where
  pub same : commits_in us k ≡ suc t.commits
  pub was : commits_in ts k ≡ t.commits
  pub other : (j : ℕ) → j ≢ k → commits_in us j ≡ commits_in ts j

-- a commit of thread k makes its number of commits one more, and no other thread's
pub grows_of : (c : ThreadCommit) (p q : Sphere) (log qlog : LogParts) → HasCommitted c p q log qlog → Grows c.thread p.threads q.threads c.before
grows_of c p q log qlog d =
    record {
      same = ap (λ (ts : List Parts). commits_in ts c.thread) d.threads ∙ commits-same p.threads c.spawned c.thread c.before c.after d.start ∙ d.commits ∙ omega arith;
      was = ap commits_if d.start;
      other = λ j ne. ap (λ (ts : List Parts). commits_in ts j) d.threads ∙ commits-other p.threads c.spawned c.thread j c.after d.new ne;
    }

-- no thread has fewer commits after a commit of thread k
pub grown_least : (k : ℕ) (ts us : List Parts) (t : Parts) (j : ℕ) → Grows k ts us t → commits_in ts j ≤ commits_in us j
grown_least k ts us t j g =
    elim (cases_eq j k) [
      | inl e ↦ subst (λ (n : ℕ). commits_in ts n ≤ commits_in us n) (sym e) (let a = g.same in let b = g.was in omega arith)
      | inr ne ↦ let h = g.other j ne in omega arith
    ]

-- ---- what stands, stands

-- a thread that commits is named once more
pub one_more : (k : ℕ) (as_ : List Actor) → count_of k (as_ ++ Actor.Thread k ∷ []) ≡ suc (count_of k as_)
one_more k as_ = count-append k as_ (Actor.Thread k ∷ []) ∙ ap (λ (b : Bool). count_of k as_ + cond b 1 0) (eq-eqb k k refl) ∙ omega arith

-- and no other
pub none_more : (k j : ℕ) (as_ : List Actor) → j ≢ k → count_of j (as_ ++ Actor.Thread k ∷ []) ≡ count_of j as_
none_more k j as_ ne = count-append j as_ (Actor.Thread k ∷ []) ∙ ap (λ (b : Bool). count_of j as_ + cond b 1 0) (ne_eqb k j (λ e. ne (sym e))) ∙ omega arith

-- a list has one more element with x after it
pub pushed_length : {A : Type 0} (xs : List A) (x : A) (n : ℕ) → length xs ≡ n → length (xs ++ x ∷ []) ≡ suc n
pushed_length xs x n e = let h = length-append xs (x ∷ []) in omega arith

-- thread k is named once more in the order, as it has one more commit
pub counts-stand : (k : ℕ) (order : List Actor) (ts us : List Parts) (t : Parts) → Grows k ts us t → ((j : ℕ) → count_of j order ≡ commits_in ts j) → (j : ℕ) → count_of j (order ++ Actor.Thread k ∷ []) ≡ commits_in us j
counts-stand k order ts us t g each j =
    elim (cases_eq j k) [
      | inl e ↦ subst (λ (n : ℕ). count_of n (order ++ Actor.Thread k ∷ []) ≡ commits_in us n) (sym e) (one_more k order ∙ ap suc (each k ∙ g.was) ∙ sym g.same)
      | inr ne ↦ none_more k j order ne ∙ each j ∙ sym (g.other j ne)
    ]

-- so it is of what comes after others, of which thread j had done `done j`
pub counts-grow : (done : ℕ → ℕ) (k : ℕ) (order : List Actor) (ts us : List Parts) (t : Parts) → Grows k ts us t → ((j : ℕ) → done j + count_of j order ≡ commits_in ts j) → (j : ℕ) → done j + count_of j (order ++ Actor.Thread k ∷ []) ≡ commits_in us j
counts-grow done k order ts us t g each j =
    elim (cases_eq j k) [
      | inl e ↦ subst (λ (n : ℕ). done n + count_of n (order ++ Actor.Thread k ∷ []) ≡ commits_in us n) (sym e) (let a = one_more k order in let b = each k in let c = g.was in let d = g.same in omega arith)
      | inr ne ↦ (let a = none_more k j order ne in let b = each j in let c = g.other j ne in omega arith)
    ]

order_stands : (mode : ModeName) (k : ℕ) (order : List Actor) (n : ℕ) (ts us : List Parts) (t : Parts) → Grows k ts us t → OrderStands mode order n ts → OrderStands mode (order_with mode order (Actor.Thread k)) (suc n) us
order_stands ModeName.OrderSize k order n ts us t g s = (pushed_length order (Actor.Thread k) n s.0, counts-stand k order ts us t g s.1)
order_stands ModeName.OrderOnly k order n ts us t g s = (pushed_length order (Actor.Thread k) n s.0, counts-stand k order ts us t g s.1)
order_stands ModeName.Picolog k order n ts us t g s = tt

shorts_stand : (k : ℕ) (xs : List ShortSize) (size : ℕ) (ts us : List Parts) (t : Parts) → Grows k ts us t → ((j i : ℕ) → commits_in ts j ≤ i → short_at xs j i ≡ None) → (j i : ℕ) → commits_in us j ≤ i → short_at (with_short k t.commits size xs) j i ≡ None
shorts_stand k xs size ts us t g none j i l =
    short-other xs k t.commits size j i (λ e h. let a = subst (λ (n : ℕ). commits_in us n ≡ suc t.commits) e g.same in omega arith)
    ∙ none j i (let h = grown_least k ts us t j g in omega arith)

shorts_kept : (k : ℕ) (xs : List ShortSize) (ts us : List Parts) (t : Parts) → Grows k ts us t → ((j i : ℕ) → commits_in ts j ≤ i → short_at xs j i ≡ None) → (j i : ℕ) → commits_in us j ≤ i → short_at xs j i ≡ None
shorts_kept k xs ts us t g none j i l = none j i (let h = grown_least k ts us t j g in omega arith)

sizes_stand : (mode : ModeName) (sizes : Sizes) (k : ℕ) (short : Bool) (size n : ℕ) (ts us : List Parts) (t : Parts) → Grows k ts us t → SizesStand mode sizes n ts → SizesStand mode (with_size sizes (Actor.Thread k) t.commits size short) (suc n) us
sizes_stand ModeName.OrderSize (Sizes.Each xs) k short size n ts us t g s = pushed_length xs size n s
sizes_stand ModeName.OrderSize (Sizes.Short xs) k short size n ts us t g s = absurd s
sizes_stand ModeName.OrderOnly (Sizes.Each xs) k short size n ts us t g s = absurd s
sizes_stand ModeName.OrderOnly (Sizes.Short xs) k true size n ts us t g s = shorts_stand k xs size ts us t g s
sizes_stand ModeName.OrderOnly (Sizes.Short xs) k false size n ts us t g s = shorts_kept k xs ts us t g s
sizes_stand ModeName.Picolog (Sizes.Each xs) k short size n ts us t g s = absurd s
sizes_stand ModeName.Picolog (Sizes.Short xs) k true size n ts us t g s = shorts_stand k xs size ts us t g s
sizes_stand ModeName.Picolog (Sizes.Short xs) k false size n ts us t g s = shorts_kept k xs ts us t g s

-- a thread that is there after the commit: the committer, one that was there, or a new one
pub get_cases : (ts spawned : List Parts) (j : ℕ) (x : Parts) → slice_get (ts ++ spawned) j ≡ Some x → (slice_get ts j ≡ Some x) ⊎ ((slice_get ts j ≡ None) × ((i : ℕ) × (slice_get spawned i ≡ Some x)))
get_cases [] spawned j x e = inr (refl, (j, e))
get_cases (t ∷ ts) spawned zero x e = inl e
get_cases (t ∷ ts) spawned (suc j) x e = get_cases ts spawned j x e

-- a thread that is found among new ones is new
pub new_is : (spawned : List Parts) (i : ℕ) (x : Parts) → AreNew spawned → slice_get spawned i ≡ Some x → IsNew x
new_is [] i x new e = absurd (none-some x e)
new_is (m ∷ spawned) zero x new e = subst IsNew (let h : m ≡ x = cc in h) new.0
new_is (m ∷ spawned) (suc i) x new e = new_is spawned i x new.1 e

-- there is no thread j before a change if there is none after it
pub set_none : (ts : List Parts) (k j : ℕ) (u : Parts) → slice_get (set ts k u) j ≡ None → slice_get ts j ≡ None
set_none [] k j u e = refl
set_none (t ∷ ts) zero zero u e = absurd (none-some u (sym e))
set_none (t ∷ ts) zero (suc j) u e = e
set_none (t ∷ ts) (suc k) zero u e = e
set_none (t ∷ ts) (suc k) (suc j) u e = set_none ts k j u e

-- a list has no thread j if a longer one has none
pub append_none : (ts spawned : List Parts) (j : ℕ) → slice_get (ts ++ spawned) j ≡ None → slice_get ts j ≡ None
append_none [] spawned j e = refl
append_none (t ∷ ts) spawned zero e = e
append_none (t ∷ ts) spawned (suc j) e = append_none ts spawned j e

-- the log stands by its sphere after a commit of a thread, if it did before
pub has_committed-stands : (c : ThreadCommit) (p q : Sphere) (log qlog : LogParts) → HasCommitted c p q log qlog → Stands p log → Stands q qlog
has_committed-stands c p q log qlog d s =
    let n = has_committed-parts c p q log qlog d in
    let g = grows_of c p q log qlog d in
    let ints : (j i : ℕ) → interrupt_at qlog.interrupts j i ≡ interrupt_at log.interrupts j i = (λ j i. ap (λ (is : _). interrupt_at is j i) n.interrupts) in
    record {
      count = n.count ∙ (let a = s.count in let b = d.position_ in omega arith);
      order = subst (λ (m : ModeName). OrderStands m qlog.order (position q.progress) q.threads) (sym n.mode)
          (subst (λ (as_ : List Actor). OrderStands log.mode as_ (position q.progress) q.threads) (sym n.order)
          (subst (λ (x : ℕ). OrderStands log.mode (order_with log.mode log.order (Actor.Thread c.thread)) x q.threads) (sym d.position_)
          (order_stands log.mode c.thread log.order (position p.progress) p.threads q.threads c.before g s.order)));
      sizes = subst (λ (m : ModeName). SizesStand m qlog.sizes (position q.progress) q.threads) (sym n.mode)
          (subst (λ (z : Sizes). SizesStand log.mode z (position q.progress) q.threads) (sym n.sizes)
          (subst (λ (x : ℕ). SizesStand log.mode (with_size log.sizes (Actor.Thread c.thread) c.before.commits c.commit.size c.short) x q.threads) (sym d.position_)
          (sizes_stand log.mode log.sizes c.thread c.short c.commit.size (position p.progress) p.threads q.threads c.before g s.sizes)));
      past = λ j i l. ints j i ∙ s.past j i (let h = grown_least c.thread p.threads q.threads c.before j g in omega arith);
      absent = λ j i e. ints j i ∙ s.absent j i (set_none p.threads c.thread j c.after (append_none (set p.threads c.thread c.after) c.spawned j (ap (λ (ts : List Parts). slice_get ts j) (sym d.threads) ∙ e)));
      unmasked = λ j x e open_. ints j x.commits ∙ elim (get_cases (set p.threads c.thread c.after) c.spawned j x (ap (λ (ts : List Parts). slice_get ts j) (sym d.threads) ∙ e)) [
        | inl there ↦ elim (cases_eq j c.thread) [
          | inl jk ↦ (
              let ux : c.after ≡ x = (let h : Some c.after ≡ Some x = sym (get-set_same p.threads c.thread c.after c.before d.start) ∙ ap (slice_get (set p.threads c.thread c.after)) (sym jk) ∙ there in cc) in
              s.past j x.commits (let a = ap commits_if (ap (slice_get p.threads) jk ∙ d.start) in let b = ap (λ (y : Parts). y.commits) ux in let h = d.commits in omega arith)
              )
          | inr ne ↦ s.unmasked j x (sym (get-set_other p.threads c.thread j c.after ne) ∙ there) open_
        ]
        | inr born ↦ s.absent j x.commits (set_none p.threads c.thread j c.after born.0)
      ];
      dmas = subst (λ (ds : List DmaRecord). DmasBelow (position q.progress) ds) (sym n.dmas) (DmasBelow_more (position p.progress) (position q.progress) log.dmas (let h = d.position_ in omega arith) s.dmas);
    }
