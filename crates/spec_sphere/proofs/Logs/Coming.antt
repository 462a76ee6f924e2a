-- What a recorded log becomes: at each moment it is behind what it has, and what it says of the next commits is to come.
use Rattle.std.proofs.Common.{◌≡◌, ℕ, suc, ◌<◌, inl, inr, Bool, true, false, List, [], ◌∷◌, ◌++◌, Option, Some, None, refl, sym, ap, ◌∙◌, subst, arith, set}
use Rattle.std.specs.Prelude.{slice_get}
use Rattle.std.proofs.lemmas.Bool.{true≢false, cases_eq}
use Rattle.std.proofs.lemmas.List.{append_assoc, append-nil}
use Rattle.std.proofs.lemmas.Option.{none-some}
use Rattle.dl_entry.specs.declared.Actor.{Actor}
use Rattle.dl_entry.specs.declared.Input.{Input}
use Rattle.spec_isa.specs.declared.thread.Parts.{Parts}
use Rattle.spec_log.specs.declared.ModeName.{ModeName}
use Rattle.spec_log.specs.declared.DmaRecord.{DmaRecord}
use Rattle.spec_log.specs.declared.Interrupt.{Interrupt}
use Rattle.spec_log.specs.declared.ShortSize.{ShortSize}
use Rattle.spec_log.specs.declared.Sizes.{Sizes}
use Rattle.spec_log.specs.declared.LogParts.{LogParts}
use Rattle.spec_kernel.specs.Interrupts.{takes_interrupt, interrupted}
use Rattle.spec_play.specs.Effects.{dma_commit}
use Rattle.spec_play.specs.Progress.{position}
use Rattle.spec_play.specs.Verdicts.{interrupt_at}
use Rattle.spec_log.specs.Noting.{order_with}
use Rattle.spec_play.specs.Recording.{noted, input_noted, dma_noted, interrupt_noted}
use Rattle.spec_sphere.specs.sphere.Spheres.{Sphere}
use Rattle.spec_sphere.proofs.Logs.Inserting.{with_short, with_size}
use Rattle.spec_strata.proofs.Shares.Steps.{get-set_other, get-set_same}
use Rattle.spec_sphere.proofs.Moves.Granted.{get-append}
use Rattle.spec_sphere.specs.promises.Standing.{short_at, count_of, DmasBelow, OrderStands, SizesStand, Stands}
use Rattle.spec_sphere.proofs.Logs.Lookups.{short-other, interrupt-other, count-append, DmasFrom, DmasFrom_less, DmasBelow_more, DmasBelow-push}
use Rattle.spec_sphere.specs.promises.Sound.{commits_if, commits_in}
use Rattle.spec_sphere.proofs.Logs.Growing.{SizesAhead, Behind, Ahead, ThreadCommit, HasCommitted, has_committed-parts, Grows, grows_of, grown_least, pushed_length, set_none}

-- ---- lists that grow

behind_step : {A : Type 0} (ys xs : List A) (x : A) → Behind ys (xs ++ x ∷ []) → Behind ys xs
behind_step ys xs x b = (x ∷ b.0, b.1 ∙ append_assoc xs (x ∷ []) b.0)

-- ---- the end

sizes_end : (z : Sizes) (ts : List Parts) → SizesAhead z z ts
sizes_end (Sizes.Each xs) ts = ([], sym (append-nil xs))
sizes_end (Sizes.Short xs) ts = λ k i l. refl

-- at its end a log is what it becomes
pub ahead-end : (p : Sphere) (log : LogParts) → Ahead log p log
ahead-end p log =
    record {
      mode = refl;
      threads = refl;
      s = refl;
      count = omega arith;
      order = ([], sym (append-nil log.order));
      sizes = sizes_end log.sizes p.threads;
      past = λ k i l. refl;
      next = λ k t e. inl refl;
      inputs = ([], sym (append-nil log.inputs));
      dmas = ([], sym (append-nil log.dmas), tt);
    }

-- ---- a commit

order_ahead : (mode : ModeName) (a : Actor) (ys order : List Actor) → Behind ys (order_with mode order a) → Behind ys order
order_ahead ModeName.OrderSize a ys order b = behind_step ys order a b
order_ahead ModeName.OrderOnly a ys order b = behind_step ys order a b
order_ahead ModeName.Picolog a ys order b = b

shorts_ahead : (ys xs : List ShortSize) (k c n : ℕ) (ts us : List Parts) (t : Parts) → Grows k ts us t → c ≡ t.commits → ((j i : ℕ) → i < commits_in us j → short_at ys j i ≡ short_at (with_short k c n xs) j i) → (j i : ℕ) → i < commits_in ts j → short_at ys j i ≡ short_at xs j i
shorts_ahead ys xs k c n ts us t g ct each j i l =
    each j i (let h = grown_least k ts us t j g in omega arith)
    ∙ short-other xs k c n j i (λ e h. let a = subst (λ (m : ℕ). commits_in ts m ≡ t.commits) e g.was in omega arith)

sizes_ahead : (y x : Sizes) (k c n : ℕ) (short : Bool) (ts us : List Parts) (t : Parts) → Grows k ts us t → c ≡ t.commits → SizesAhead y (with_size x (Actor.Thread k) c n short) us → SizesAhead y x ts
sizes_ahead (Sizes.Each ys) (Sizes.Each xs) k c n short ts us t g ct a = behind_step ys xs n a
sizes_ahead (Sizes.Short ys) (Sizes.Each xs) k c n short ts us t g ct a = a
sizes_ahead (Sizes.Each ys) (Sizes.Short xs) k c n true ts us t g ct a = a
sizes_ahead (Sizes.Each ys) (Sizes.Short xs) k c n false ts us t g ct a = a
sizes_ahead (Sizes.Short ys) (Sizes.Short xs) k c n true ts us t g ct a = shorts_ahead ys xs k c n ts us t g ct a
sizes_ahead (Sizes.Short ys) (Sizes.Short xs) k c n false ts us t g ct a = λ j i l. a j i (let h = grown_least k ts us t j g in omega arith)

inputs_ahead : (o : Option Input) (log : LogParts) (ys : List Input) → Behind ys (input_noted o log).inputs → Behind ys log.inputs
inputs_ahead None log ys b = b
inputs_ahead (Some r) log ys b = behind_step ys log.inputs r b

-- what is ahead of a commit of a thread is ahead before it too
pub has_committed-ahead : (L : LogParts) (c : ThreadCommit) (p q : Sphere) (log qlog : LogParts) → HasCommitted c p q log qlog → Ahead L q qlog → Ahead L p log
has_committed-ahead L c p q log qlog d a =
    let n = has_committed-parts c p q log qlog d in
    let g = grows_of c p q log qlog d in
    let ints : (j i : ℕ) → interrupt_at qlog.interrupts j i ≡ interrupt_at log.interrupts j i = (λ j i. ap (λ (is : List Interrupt). interrupt_at is j i) n.interrupts) in
    record {
      mode = a.mode ∙ n.mode;
      threads = a.threads ∙ n.threads;
      s = a.s ∙ n.s;
      count = let h = n.count in let l = a.count in omega arith;
      order = order_ahead log.mode (Actor.Thread c.thread) L.order log.order (subst (Behind L.order) n.order a.order);
      sizes = sizes_ahead L.sizes log.sizes c.thread c.before.commits c.commit.size c.short p.threads q.threads c.before g refl (subst (λ (z : Sizes). SizesAhead L.sizes z q.threads) n.sizes a.sizes);
      past = λ j i l. a.past j i (let h = grown_least c.thread p.threads q.threads c.before j g in omega arith) ∙ ints j i;
      next = λ j x e. elim (cases_eq j c.thread) [
        | inl jk ↦ (
            let tx : c.before ≡ x = (let h : Some c.before ≡ Some x = sym d.start ∙ ap (slice_get p.threads) (sym jk) ∙ e in cc) in
            inl (a.past j x.commits (subst (λ (m : ℕ). x.commits < commits_in q.threads m) (sym jk) (let h = g.same in let w = ap (λ (y : Parts). y.commits) tx in omega arith)) ∙ ints j x.commits)
            )
        | inr ne ↦ elim (a.next j x (ap (λ (ts : List Parts). slice_get ts j) d.threads ∙ get-append (set p.threads c.thread c.after) c.spawned j x (get-set_other p.threads c.thread j c.after ne ∙ e))) [
          | inl h ↦ inl (h ∙ ints j x.commits)
          | inr takes ↦ inr takes
        ]
      ];
      inputs = inputs_ahead c.input (noted c.commit c.before.commits c.short log) L.inputs (subst (λ (l : LogParts). Behind L.inputs l.inputs) d.log_ a.inputs);
      dmas = let b = a.dmas in (b.0, b.1 ∙ ap (λ (ds : List DmaRecord). ds ++ b.0) n.dmas, DmasFrom_less (position q.progress) (position p.progress) b.0 (let h = d.position_ in omega arith) b.2);
    }

-- ---- a DMA

-- q is p after a DMA of those bytes, which the log of q has noted
pub record Transferred (p q : Sphere) (log qlog : LogParts) (bytes : List ℕ) : Type 0 where
  pub threads : q.threads ≡ p.threads
  pub position_ : position q.progress ≡ suc (position p.progress)
  pub log_ : qlog ≡ dma_noted (position p.progress) bytes (noted dma_commit (position p.progress) false log)

dma_more : (j : ℕ) (as_ : List Actor) → count_of j (as_ ++ Actor.Dma ∷ []) ≡ count_of j as_
dma_more j as_ = count-append j as_ (Actor.Dma ∷ []) ∙ omega arith

dma_order_stands : (mode : ModeName) (order : List Actor) (n : ℕ) (ts : List Parts) → OrderStands mode order n ts → OrderStands mode (order_with mode order Actor.Dma) (suc n) ts
dma_order_stands ModeName.OrderSize order n ts s = (pushed_length order Actor.Dma n s.0, λ j. dma_more j order ∙ s.1 j)
dma_order_stands ModeName.OrderOnly order n ts s = (pushed_length order Actor.Dma n s.0, λ j. dma_more j order ∙ s.1 j)
dma_order_stands ModeName.Picolog order n ts s = tt

dma_sizes_stand : (mode : ModeName) (sizes : Sizes) (i n : ℕ) (ts : List Parts) → SizesStand mode sizes n ts → SizesStand mode (with_size sizes Actor.Dma i 0 false) (suc n) ts
dma_sizes_stand ModeName.OrderSize (Sizes.Each xs) i n ts s = pushed_length xs 0 n s
dma_sizes_stand ModeName.OrderSize (Sizes.Short xs) i n ts s = absurd s
dma_sizes_stand ModeName.OrderOnly (Sizes.Each xs) i n ts s = absurd s
dma_sizes_stand ModeName.OrderOnly (Sizes.Short xs) i n ts s = s
dma_sizes_stand ModeName.Picolog (Sizes.Each xs) i n ts s = absurd s
dma_sizes_stand ModeName.Picolog (Sizes.Short xs) i n ts s = s

abbrev dma_log_of : Sphere → LogParts → List ℕ → LogParts
dma_log_of p log bytes = dma_noted (position p.progress) bytes (noted dma_commit (position p.progress) false log)

-- the log stands by its sphere after a DMA, if it did before
pub transferred-stands : (p q : Sphere) (log qlog : LogParts) (bytes : List ℕ) → Transferred p q log qlog bytes → Stands p log → Stands q qlog
transferred-stands p q log qlog bytes d s =
    let l : LogParts = dma_log_of p log bytes in
    subst (Stands q) (sym d.log_)
    (record {
      count = (let a = s.count in let b = d.position_ in omega arith);
      order = subst (OrderStands log.mode l.order (position q.progress)) (sym d.threads) (subst (λ (n : ℕ). OrderStands log.mode l.order n p.threads) (sym d.position_) (dma_order_stands log.mode log.order (position p.progress) p.threads s.order));
      sizes = subst (SizesStand log.mode l.sizes (position q.progress)) (sym d.threads) (subst (λ (n : ℕ). SizesStand log.mode l.sizes n p.threads) (sym d.position_) (dma_sizes_stand log.mode log.sizes (position p.progress) (position p.progress) p.threads s.sizes));
      past = λ j i h. s.past j i (subst (λ (ts : List Parts). commits_in ts j < i) d.threads h);
      absent = λ j i e. s.absent j i (ap (λ (ts : List Parts). slice_get ts j) (sym d.threads) ∙ e);
      unmasked = λ j x e m. s.unmasked j x (ap (λ (ts : List Parts). slice_get ts j) (sym d.threads) ∙ e) m;
      dmas = DmasBelow-push (position q.progress) log.dmas _ (DmasBelow_more (position p.progress) (position q.progress) log.dmas (let h = d.position_ in omega arith) s.dmas) (let h = d.position_ in omega arith);
    })

dma_sizes_ahead : (y x : Sizes) (i : ℕ) (ts : List Parts) → SizesAhead y (with_size x Actor.Dma i 0 false) ts → SizesAhead y x ts
dma_sizes_ahead (Sizes.Each ys) (Sizes.Each xs) i ts a = behind_step ys xs 0 a
dma_sizes_ahead (Sizes.Short ys) (Sizes.Each xs) i ts a = a
dma_sizes_ahead (Sizes.Each ys) (Sizes.Short xs) i ts a = a
dma_sizes_ahead (Sizes.Short ys) (Sizes.Short xs) i ts a = a

-- what is ahead of a DMA is ahead before it too
pub transferred-ahead : (L : LogParts) (p q : Sphere) (log qlog : LogParts) (bytes : List ℕ) → Transferred p q log qlog bytes → Ahead L q qlog → Ahead L p log
transferred-ahead L p q log qlog bytes d b =
    let l : LogParts = dma_log_of p log bytes in
    let a : Ahead L q l = subst (Ahead L q) d.log_ b in
    record {
      mode = a.mode;
      threads = a.threads;
      s = a.s;
      count = let h = a.count in omega arith;
      order = order_ahead log.mode Actor.Dma L.order log.order a.order;
      sizes = dma_sizes_ahead L.sizes log.sizes (position p.progress) p.threads (subst (SizesAhead L.sizes l.sizes) d.threads a.sizes);
      past = λ j i h. a.past j i (subst (λ (ts : List Parts). i < commits_in ts j) (sym d.threads) h);
      next = λ j x e. a.next j x (ap (λ (ts : List Parts). slice_get ts j) d.threads ∙ e);
      inputs = a.inputs;
      dmas = let c = a.dmas in
          (record { position = position p.progress; bytes = bytes } ∷ c.0, c.1 ∙ append_assoc log.dmas _ c.0, (omega arith, DmasFrom_less (position q.progress) (position p.progress) c.0 (let h = d.position_ in omega arith) c.2));
    }

-- ---- an interrupt

-- q is p after thread k was interrupted with value, which the log of q has noted
pub record WasRaised (k value : ℕ) (p q : Sphere) (log qlog : LogParts) (t : Parts) : Type 0 where
  pub start : slice_get p.threads k ≡ Some t
  pub takes : takes_interrupt t ≡ true
  pub threads : q.threads ≡ set p.threads k (interrupted value t)
  pub progress : q.progress ≡ p.progress
  pub log_ : qlog ≡ interrupt_noted k t.commits value log

set_commits : (ts : List Parts) (k j value : ℕ) (t : Parts) → slice_get ts k ≡ Some t → commits_in (set ts k (interrupted value t)) j ≡ commits_in ts j
set_commits ts k j value t is =
    elim (cases_eq j k) [
      | inl e ↦ subst (λ (n : ℕ). commits_in (set ts k (interrupted value t)) n ≡ commits_in ts n) (sym e) (ap commits_if (get-set_same ts k (interrupted value t) t is) ∙ sym (ap commits_if is))
      | inr ne ↦ ap commits_if (get-set_other ts k j (interrupted value t) ne)
    ]

raised_order : (mode : ModeName) (order : List Actor) (n : ℕ) (ts us : List Parts) → ((j : ℕ) → commits_in us j ≡ commits_in ts j) → OrderStands mode order n ts → OrderStands mode order n us
raised_order ModeName.OrderSize order n ts us same s = (s.0, λ j. s.1 j ∙ sym (same j))
raised_order ModeName.OrderOnly order n ts us same s = (s.0, λ j. s.1 j ∙ sym (same j))
raised_order ModeName.Picolog order n ts us same s = tt

raised_sizes : (mode : ModeName) (sizes : Sizes) (n : ℕ) (ts us : List Parts) → ((j : ℕ) → commits_in us j ≡ commits_in ts j) → SizesStand mode sizes n ts → SizesStand mode sizes n us
raised_sizes ModeName.OrderSize (Sizes.Each xs) n ts us same s = s
raised_sizes ModeName.OrderSize (Sizes.Short xs) n ts us same s = s
raised_sizes ModeName.OrderOnly (Sizes.Each xs) n ts us same s = s
raised_sizes ModeName.OrderOnly (Sizes.Short xs) n ts us same s = λ k i l. s k i (let h = same k in omega arith)
raised_sizes ModeName.Picolog (Sizes.Each xs) n ts us same s = s
raised_sizes ModeName.Picolog (Sizes.Short xs) n ts us same s = λ k i l. s k i (let h = same k in omega arith)

abbrev raised_same : (k value : ℕ) (p q : Sphere) (t : Parts) → slice_get p.threads k ≡ Some t → q.threads ≡ set p.threads k (interrupted value t) → (j : ℕ) → commits_in q.threads j ≡ commits_in p.threads j
raised_same k value p q t start threads j = ap (λ (ts : List Parts). commits_in ts j) threads ∙ set_commits p.threads k j value t start

-- the log stands by its sphere after an interrupt, if it did before
pub raised-stands : (k value : ℕ) (p q : Sphere) (log qlog : LogParts) (t : Parts) → WasRaised k value p q log qlog t → Stands p log → Stands q qlog
raised-stands k value p q log qlog t d s =
    let l : LogParts = interrupt_noted k t.commits value log in
    let same = raised_same k value p q t d.start d.threads in
    let was : commits_in p.threads k ≡ t.commits = ap commits_if d.start in
    subst (Stands q) (sym d.log_)
    (record {
      count = s.count ∙ ap position (sym d.progress);
      order = raised_order log.mode log.order (position q.progress) p.threads q.threads same (subst (λ (n : ℕ). OrderStands log.mode log.order n p.threads) (ap position (sym d.progress)) s.order);
      sizes = raised_sizes log.mode log.sizes (position q.progress) p.threads q.threads same (subst (λ (n : ℕ). SizesStand log.mode log.sizes n p.threads) (ap position (sym d.progress)) s.sizes);
      past = λ j i h.
          let less : commits_in p.threads j < i = (let e = same j in omega arith) in
          interrupt-other log.interrupts k t.commits value j i (λ e f. let w = subst (λ (n : ℕ). commits_in p.threads n ≡ t.commits) e was in omega arith) ∙ s.past j i less;
      absent = λ j i e.
          let none : slice_get p.threads j ≡ None = set_none p.threads k j (interrupted value t) (ap (λ (ts : List Parts). slice_get ts j) (sym d.threads) ∙ e) in
          interrupt-other log.interrupts k t.commits value j i (λ kj f. none-some t (sym none ∙ ap (slice_get p.threads) (sym kj) ∙ d.start)) ∙ s.absent j i none;
      unmasked = λ j x e m. elim (cases_eq j k) [
        | inl jk ↦ (
            let ix : interrupted value t ≡ x = (let h : Some (interrupted value t) ≡ Some x = sym (get-set_same p.threads k (interrupted value t) t d.start) ∙ ap (slice_get (set p.threads k (interrupted value t))) (sym jk) ∙ ap (λ (ts : List Parts). slice_get ts j) (sym d.threads) ∙ e in cc) in
            absurd (true≢false (ap (λ (y : Parts). y.mask) ix ∙ m))
            )
        | inr ne ↦ interrupt-other log.interrupts k t.commits value j x.commits (λ kj f. ne (sym kj))
            ∙ s.unmasked j x (sym (get-set_other p.threads k j (interrupted value t) ne) ∙ ap (λ (ts : List Parts). slice_get ts j) (sym d.threads) ∙ e) m
      ];
      dmas = subst (λ (n : ℕ). DmasBelow n log.dmas) (ap position (sym d.progress)) s.dmas;
    })

raised_sizes_ahead : (y x : Sizes) (ts us : List Parts) → ((j : ℕ) → commits_in us j ≡ commits_in ts j) → SizesAhead y x us → SizesAhead y x ts
raised_sizes_ahead (Sizes.Each ys) (Sizes.Each xs) ts us same a = a
raised_sizes_ahead (Sizes.Short ys) (Sizes.Each xs) ts us same a = a
raised_sizes_ahead (Sizes.Each ys) (Sizes.Short xs) ts us same a = a
raised_sizes_ahead (Sizes.Short ys) (Sizes.Short xs) ts us same a = λ k i l. a k i (let h = same k in omega arith)

-- what is ahead of an interrupt is ahead before it too
pub raised-ahead : (L : LogParts) (k value : ℕ) (p q : Sphere) (log qlog : LogParts) (t : Parts) → WasRaised k value p q log qlog t → Ahead L q qlog → Ahead L p log
raised-ahead L k value p q log qlog t d b =
    let l : LogParts = interrupt_noted k t.commits value log in
    let a : Ahead L q l = subst (Ahead L q) d.log_ b in
    let same = raised_same k value p q t d.start d.threads in
    let was : commits_in p.threads k ≡ t.commits = ap commits_if d.start in
    record {
      mode = a.mode;
      threads = a.threads;
      s = a.s;
      count = a.count;
      order = a.order;
      sizes = raised_sizes_ahead L.sizes log.sizes p.threads q.threads same a.sizes;
      past = λ j i h.
          a.past j i (let e = same j in omega arith) ∙ interrupt-other log.interrupts k t.commits value j i (λ e f. let w = subst (λ (n : ℕ). commits_in p.threads n ≡ t.commits) e was in omega arith);
      next = λ j x e. elim (cases_eq j k) [
        | inl jk ↦ inr (let h : t ≡ x = (let o : Some t ≡ Some x = sym d.start ∙ ap (slice_get p.threads) (sym jk) ∙ e in cc) in ap takes_interrupt (sym h) ∙ d.takes)
        | inr ne ↦ elim (a.next j x (ap (λ (ts : List Parts). slice_get ts j) d.threads ∙ get-set_other p.threads k j (interrupted value t) ne ∙ e)) [
          | inl h ↦ inl (h ∙ interrupt-other log.interrupts k t.commits value j x.commits (λ kj f. ne (sym kj)))
          | inr takes ↦ inr takes
        ]
      ];
      inputs = a.inputs;
      dmas = let c = a.dmas in (c.0, c.1, subst (λ (n : ℕ). DmasFrom n c.0) (ap position d.progress) c.2);
    }
