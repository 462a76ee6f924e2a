-- The play of a recorded log follows a commit of a thread.
use Rattle.std.proofs.Common.{◌≡◌, ℕ, ◌+◌, ◌⊎◌, inl, inr, true, List, ◌++◌, length, Option, Some, None, refl, sym, ap, ◌∙◌, arith, set, ◌<◌, subst, false, map}
use Rattle.std.specs.Prelude.{slice_get}
use Rattle.std.proofs.Math.ListN.{length-set}
use Rattle.std.proofs.lemmas.Bool.{true≢false, cases_eq}
use Rattle.std.proofs.lemmas.Option.{none-some}
use Rattle.spec_isa.specs.declared.thread.Parts.{Parts}
use Rattle.spec_log.specs.declared.Interrupt.{Interrupt}
use Rattle.spec_log.specs.declared.LogParts.{LogParts}
use Rattle.spec_kernel.specs.Interrupts.{takes_interrupt, is_live}
use Rattle.spec_play.specs.Effects.{Effect}
use Rattle.spec_play.specs.Progress.{Progress, with_effect, position}
use Rattle.spec_play.specs.declared.used.Used.{Used}
use Rattle.spec_play.specs.Verdicts.{Goes, interrupt_at, with_interrupted}
use Rattle.spec_play.specs.Plays.{Played, settled, play_thread, play_turn, play_one}
use Rattle.spec_sphere.specs.sphere.Spheres.{Sphere}
use Rattle.spec_strata.proofs.Shares.Steps.{get-set_other, get-set_same}
use Rattle.spec_sphere.proofs.Moves.Granted.{get-append}
use Rattle.spec_sphere.specs.promises.Standing.{Stands}
use Rattle.spec_sphere.proofs.Logs.Growing.{Ahead, ThreadCommit, HasCommitted, has_committed-parts, get_cases, new_is, grows_of, set_none, SizesAhead, Behind}
use Rattle.spec_sphere.proofs.PlayingBack.Verdicts.{size-says}
use Rattle.spec_log.specs.declared.Sizes.{Sizes}
use Rattle.spec_log.specs.Size.{thread_size}
use Rattle.spec_sphere.proofs.PlayingBack.Following.{early_by, early, pending_by, pending, early_same, pending_same, sum_from, sum-set, sum-append, Follows, get_past, new_takes_none, early_effect, early_used, same-flags, turn-at, named, Effects, goes_so}
use Rattle.spec_sphere.proofs.Moves.Threads.{IsNew}
use Rattle.spec_play.specs.Turns.{Turn, next_actor}
use Rattle.spec_log.specs.Noting.{order_with}
use Rattle.spec_sphere.proofs.Logs.Lookups.{DmasFrom, no_dma}
use Rattle.spec_log.specs.Head.{turn, is_dma_at, head_in}
use Rattle.spec_isa.specs.Words.{lays}
use Rattle.std.proofs.lemmas.List.{length-append}
use Rattle.spec_log.specs.declared.DmaRecord.{DmaRecord}
use Rattle.dl_entry.specs.declared.Actor.{Actor}
use Rattle.spec_log.specs.declared.ModeName.{ModeName}

-- ---- with the interrupt

early_thread : (o : Option ℕ) (e : Effect) → (early_effect o e).thread ≡ early_by None o e.thread
early_thread None e = refl
early_thread (Some v) e = refl

early_words : (o : Option ℕ) (e : Effect) → (early_effect o e).words ≡ e.words
early_words None e = refl
early_words (Some v) e = refl

early_spawned : (o : Option ℕ) (e : Effect) → (early_effect o e).spawned ≡ e.spawned
early_spawned None e = refl
early_spawned (Some v) e = refl

early_progress : (o : Option ℕ) (e : Effect) (k : ℕ) (p : Progress) → with_effect k (early_effect o e) p ≡ with_effect k e p
early_progress None e k p = refl
early_progress (Some v) e k p = refl

record UsedSo (o : Option ℕ) (u v : Used) : Type 0 where
  inputs : v.inputs ≡ u.inputs
  dmas : v.dmas ≡ u.dmas
  interrupts : v.interrupts ≡ u.interrupts + pending_by None o

used_so : (o : Option ℕ) (u : Used) → UsedSo o u (early_used o u)
used_so None u = record { inputs = refl; dmas = refl; interrupts = omega arith }
used_so (Some v) u = record { inputs = refl; dmas = refl; interrupts = omega arith }

-- ---- a commit of a thread

-- commit c has made q of p, and of its log a log that has become L in the end
module _ (L : LogParts) (c : ThreadCommit) (p q : Sphere) (log qlog : LogParts) (d : HasCommitted c p q log qlog) (sp : Stands p log) (aq : Ahead L q qlog) where
  -- ---- what the log says of the thread, before and after

  record Says : Type 0 where
    before_ : interrupt_at L.interrupts c.thread c.before.commits ≡ interrupt_at log.interrupts c.thread c.before.commits
    none_yet : interrupt_at qlog.interrupts c.thread c.after.commits ≡ None
    takes : (v : ℕ) → interrupt_at L.interrupts c.thread c.after.commits ≡ Some v → takes_interrupt c.after ≡ true
    there : slice_get q.threads c.thread ≡ Some c.after

  says : Says
  says =
      let n = has_committed-parts c p q log qlog d in
      let g = grows_of c p q log qlog d in
      let ints : (j i : ℕ) → interrupt_at qlog.interrupts j i ≡ interrupt_at log.interrupts j i = (λ j i. ap (λ (is : List Interrupt). interrupt_at is j i) n.interrupts) in
      let there : slice_get q.threads c.thread ≡ Some c.after = ap (λ (ts : List Parts). slice_get ts c.thread) d.threads ∙ get-append (set p.threads c.thread c.after) c.spawned c.thread c.after (get-set_same p.threads c.thread c.after c.before d.start) in
      let none : interrupt_at qlog.interrupts c.thread c.after.commits ≡ None = ints c.thread c.after.commits ∙ sp.past c.thread c.after.commits (let a = g.was in let b = d.commits in omega arith) in
      record {
        before_ = aq.past c.thread c.before.commits (let a = g.same in omega arith) ∙ ints c.thread c.before.commits;
        none_yet = none;
        takes = λ v e. elim (aq.next c.thread c.after there) [
          | inl h ↦ absurd (none-some v (sym (h ∙ none) ∙ e))
          | inr takes ↦ takes
        ];
        there = there;
      }

  -- the log has the size of the commit, or it has none and the commit wasn't short
  pub commit-size : (thread_size L.order L.sizes c.thread c.before.commits ≡ Some c.commit.size) ⊎ ((thread_size L.order L.sizes c.thread c.before.commits ≡ None) × (c.short ≡ false))
  commit-size =
      let n = has_committed-parts c p q log qlog d in
      size-says L.order log.order c.thread c.commit.size (position p.progress) p.threads q.threads c.before (grows_of c p q log qlog d) log.mode L.sizes log.sizes c.short sp.order sp.sizes (subst (Behind L.order) n.order aq.order)
      (subst (λ (z : Sizes). SizesAhead L.sizes z q.threads) n.sizes aq.sizes)

  -- ---- after the commit

  threads_follow : (y : Played) (eu : Parts) → Follows L p log y
      → eu ≡ early L.interrupts qlog.interrupts c.thread c.after → (j : ℕ) (x : Parts) → slice_get q.threads j ≡ Some x → slice_get (set y.threads c.thread eu ++ c.spawned) j ≡ Some (early L.interrupts qlog.interrupts j x)
  threads_follow y eu f is j x e =
      let n = has_committed-parts c p q log qlog d in
      let sizes : length (set y.threads c.thread eu) ≡ length (set p.threads c.thread c.after) = length-set y.threads c.thread eu ∙ f.size ∙ sym (length-set p.threads c.thread c.after) in
      elim (get_cases (set p.threads c.thread c.after) c.spawned j x (ap (λ (ts : List Parts). slice_get ts j) (sym d.threads) ∙ e)) [
        | inl there ↦ elim (cases_eq j c.thread) [
          | inl jk ↦ (
              let ux : c.after ≡ x = (let h : Some c.after ≡ Some x = sym (get-set_same p.threads c.thread c.after c.before d.start) ∙ ap (slice_get (set p.threads c.thread c.after)) (sym jk) ∙ there in cc) in
              let s : Says = says in
              let yk : slice_get y.threads c.thread ≡ Some (early L.interrupts log.interrupts c.thread c.before) = f.threads c.thread c.before d.start in
              get-append (set y.threads c.thread eu) c.spawned j _ (ap (slice_get (set y.threads c.thread eu)) jk ∙ get-set_same y.threads c.thread eu _ yk ∙ (λ i. Some (is i)) ∙ (λ i. Some (early L.interrupts qlog.interrupts c.thread (ux i))) ∙ ap (λ (m : ℕ). Some (early L.interrupts qlog.interrupts m x)) (sym jk))
              )
          | inr ne ↦ get-append (set y.threads c.thread eu) c.spawned j _ (get-set_other y.threads c.thread j eu ne ∙ f.threads j x (sym (get-set_other p.threads c.thread j c.after ne) ∙ there) ∙ sym (λ i. Some (early L.interrupts (n.interrupts i) j x)))
        ]
        | inr born ↦ (
            let new = new_is c.spawned born.1.0 x d.new born.1.1 in
            let mask_free : interrupt_at qlog.interrupts j x.commits ≡ None =
            ap (λ (is : List Interrupt). interrupt_at is j x.commits) n.interrupts ∙ sp.absent j x.commits (set_none p.threads c.thread j c.after born.0)
            in
            let same : interrupt_at L.interrupts j x.commits ≡ interrupt_at qlog.interrupts j x.commits = elim (aq.next j x e) [
              | inl h ↦ h
              | inr takes ↦ absurd (true≢false (sym takes ∙ new_takes_none x new))
            ] in
            get_past (set p.threads c.thread c.after) (set y.threads c.thread eu) c.spawned j x sizes born.0 (ap (λ (ts : List Parts). slice_get ts j) (sym d.threads) ∙ e)
            ∙ ap Some (sym (early_same (interrupt_at qlog.interrupts j x.commits) (interrupt_at L.interrupts j x.commits) x same))
            )
      ]

  sums_follow : sum_from (pending L.interrupts qlog.interrupts) 0 q.threads ≡ sum_from (pending L.interrupts log.interrupts) 0 p.threads + pending_by None (interrupt_at L.interrupts c.thread c.after.commits)
  sums_follow =
      let n = has_committed-parts c p q log qlog d in
      let s = says in
      let f = pending L.interrupts log.interrupts in
      let g = pending L.interrupts qlog.interrupts in
      let kz : 0 + c.thread ≡ c.thread = omega arith in
      let fg : (j : ℕ) (x : Parts) → f j x ≡ g j x = (λ j x. sym (λ i. pending L.interrupts (n.interrupts i) j x)) in
      let a : sum_from g 0 q.threads ≡ sum_from g 0 (set p.threads c.thread c.after) =
      ap (sum_from g 0) d.threads
      ∙ sum-append g 0 (set p.threads c.thread c.after) c.spawned
      (λ j x e none.
      let jz : 0 + j ≡ j = omega arith in
      let born = set_none p.threads c.thread j c.after none in
      let qj : slice_get q.threads j ≡ Some x = ap (λ (ts : List Parts). slice_get ts j) d.threads ∙ e in
      let free : interrupt_at qlog.interrupts j x.commits ≡ None = ap (λ (is : List Interrupt). interrupt_at is j x.commits) n.interrupts ∙ sp.absent j x.commits born in
      let new : IsNew x = elim (get_cases (set p.threads c.thread c.after) c.spawned j x e) [ inl h ↦ absurd (none-some x (sym none ∙ h)) | inr h ↦ new_is c.spawned h.1.0 x d.new h.1.1 ] in
      let same : interrupt_at L.interrupts j x.commits ≡ interrupt_at qlog.interrupts j x.commits = elim (aq.next j x qj) [
        | inl h ↦ h
        | inr takes ↦ absurd (true≢false (sym takes ∙ new_takes_none x new))
      ] in
      ap (λ (m : ℕ). g m x) jz ∙ pending_same (interrupt_at qlog.interrupts j x.commits) (interrupt_at L.interrupts j x.commits) same)
      in
      let b = sum-set f g 0 c.thread p.threads c.before c.after d.start (λ j x l ne. fg j x) in
      let ft : f (0 + c.thread) c.before ≡ 0 = ap (λ (m : ℕ). f m c.before) kz ∙ pending_same (interrupt_at log.interrupts c.thread c.before.commits) (interrupt_at L.interrupts c.thread c.before.commits) s.before_ in
      let gu : g (0 + c.thread) c.after ≡ pending_by None (interrupt_at L.interrupts c.thread c.after.commits) = ap (λ (m : ℕ). g m c.after) kz ∙ ap (λ (x : Option ℕ). pending_by x (interrupt_at L.interrupts c.thread c.after.commits)) s.none_yet in
      omega arith

  -- ---- the play does it too

  turn_follows : (y : Played) (e : Effect) → Ahead L p log → Follows L p log y → Effects L c p q qlog y e
      → (y.now ≡ Turn c.thread) × (slice_get y.threads c.thread ≡ Some c.before)
  turn_follows y e ap_ f es =
      let n = has_committed-parts c p q log qlog d in
      let s : Says = says in
      let is : slice_get y.threads c.thread ≡ Some c.before = f.threads c.thread c.before d.start ∙ ap Some (early_same (interrupt_at log.interrupts c.thread c.before.commits) (interrupt_at L.interrupts c.thread c.before.commits) c.before s.before_) in
      let at_ : position y.progress ≡ position p.progress = ap position f.progress in
      let below : position y.progress < L.count = (let a = sp.count in let b = n.count in let h = aq.count in omega arith) in
      let behind : Behind L.order (order_with log.mode log.order (Actor.Thread c.thread)) = subst (Behind L.order) n.order aq.order in
      let rest = aq.dmas in
      let there : is_dma_at L.dmas (position p.progress) ≡ false =
      ap (λ (ds : List DmaRecord). is_dma_at ds (position p.progress)) (rest.1 ∙ ap (λ (ds : List DmaRecord). ds ++ rest.0) n.dmas)
      ∙ no_dma (position p.progress) log.dmas rest.0 sp.dmas (subst (λ (m : ℕ). DmasFrom m rest.0) d.position_ rest.2)
      in
      let actor : next_actor L y.progress y.threads ≡ Some (Actor.Thread c.thread) =
      ap (λ (g : Progress). head_in L.mode L (position g) g.last (map is_live y.threads)) f.progress
      ∙ ap (λ (m : ModeName). head_in m L (position p.progress) p.progress.last (map is_live y.threads)) ap_.mode
      ∙ named log.mode L (position p.progress) p.progress.last (map is_live y.threads) c.thread log.order p.threads sp.order behind there
      (λ e. ap (turn p.progress.last) (same-flags L p log y f) ∙ es.turn_ (ap_.mode ∙ e))
      in
      (f.now ∙ turn-at L y.progress y.used y.threads c.thread c.before below actor is es.live, is)

  goes_follow : (y : Played) (e e2 : Effect) (u2 : Used) → Follows L p log y → Effects L c p q qlog y e
      → e2 ≡ early_effect (interrupt_at L.interrupts c.thread c.after.commits) e → u2 ≡ early_used (interrupt_at L.interrupts c.thread c.after.commits) (record y.used { inputs = length qlog.inputs }) → Follows L q qlog (settled L y c.thread (Goes e2 u2))
  goes_follow y e e2 u2 f es is_e is_u =
      let n = has_committed-parts c p q log qlog d in
      let s : Says = says in
      let oe : Option ℕ = interrupt_at L.interrupts c.thread c.after.commits in
      let used1 : Used = record y.used { inputs = length qlog.inputs } in
      let us : UsedSo oe used1 (early_used oe used1) = used_so oe used1 in
      let thread : e2.thread ≡ early L.interrupts qlog.interrupts c.thread c.after =
      ap (λ (x : Effect). x.thread) is_e ∙ early_thread oe e ∙ ap (early_by None oe) es.thread ∙ ap (λ (x : Option ℕ). early_by x oe c.after) (sym s.none_yet)
      in
      let born : e2.spawned ≡ c.spawned = ap (λ (x : Effect). x.spawned) is_e ∙ early_spawned oe e ∙ es.spawned in
      record {
        memory = ap (lays y.memory) (ap (λ (x : Effect). x.words) is_e ∙ early_words oe e) ∙ ap (λ (m : List ℕ). lays m e.words) f.memory ∙ sym es.memory;
        size = length-append (set y.threads c.thread e2.thread) e2.spawned
            ∙ (let a = length-set y.threads c.thread e2.thread in let b = length-set p.threads c.thread c.after in let g = f.size in let h = ap (λ (x : List Parts). length x) born in let i = ap (λ (x : List Parts). length x) d.threads in let j = length-append (set p.threads c.thread c.after) c.spawned in omega arith);
        threads = λ j x h.
            ap (λ (ms : List Parts). slice_get (set y.threads c.thread e2.thread ++ ms) j) born
            ∙ threads_follow y e2.thread f thread j x h;
        progress = ap (λ (x : Effect). with_effect c.thread x y.progress) is_e ∙ early_progress oe e c.thread y.progress ∙ ap (with_effect c.thread e) f.progress ∙ sym es.progress;
        inputs = ap (λ (x : Used). x.inputs) is_u ∙ us.inputs;
        dmas = ap (λ (x : Used). x.dmas) is_u ∙ us.dmas ∙ f.dmas ∙ sym (ap (λ (x : List DmaRecord). length x) n.dmas);
        interrupts = ap (λ (x : Used). x.interrupts) is_u ∙ us.interrupts
            ∙ (let a = f.interrupts in let b = sums_follow in let g = ap (λ (x : List Interrupt). length x) n.interrupts in omega arith);
        now = refl;
      }

  -- the play that follows up to a commit of a thread follows after it
  pub commit-follows : (y : Played) (e : Effect) → Ahead L p log → Follows L p log y → Effects L c p q qlog y e
      → Follows L q qlog (play_one L y)
  unfolding play_one
  commit-follows y e ap_ f es =
      let s : Says = says in
      let h = turn_follows y e ap_ f es in
      let used1 : Used = record y.used { inputs = length qlog.inputs } in
      let oe : Option ℕ = interrupt_at L.interrupts c.thread c.after.commits in
      let oes : interrupt_at L.interrupts c.thread e.thread.commits ≡ oe = ap (λ (x : Parts). interrupt_at L.interrupts c.thread x.commits) es.thread in
      let goes : with_interrupted (interrupt_at L.interrupts c.thread e.thread.commits) e used1 ≡ Goes (early_effect oe e) (early_used oe used1) =
      ap (λ (x : Option ℕ). with_interrupted x e used1) oes ∙ goes_so oe e used1 (λ v is. ap takes_interrupt es.thread ∙ s.takes v is)
      in
      subst (Follows L q qlog)
      (sym (ap (play_turn L y) h.0 ∙ ap (play_thread L y c.thread) h.1 ∙ ap (settled L y c.thread) es.verdict ∙ ap (settled L y c.thread) goes))
      (goes_follow y e (early_effect oe e) (early_used oe used1) f es refl refl)
