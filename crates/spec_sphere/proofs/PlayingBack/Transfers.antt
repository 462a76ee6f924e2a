-- The play of a recorded log follows a DMA, and stays where an interrupt comes.
use Rattle.std.proofs.Common.{◌≡◌, ◌≢◌, ℕ, suc, ◌+◌, ◌<◌, ◌≤◌, inl, inr, Bool, true, false, not, ◌&&◌, eqb, cond, List, [], ◌∷◌, length, map, Option, Some, None, refl, sym, ap, ◌∙◌, subst, arith, set}
use Rattle.std.specs.Prelude.{slice_get, nat_le}
use Rattle.std.proofs.Math.ListN.{length-set}
use Rattle.std.proofs.lemmas.Bool.{true≢false, cases_eq, and_from, and_parts, eq-eqb, lt-ltb, le-leb, not-true}
use Rattle.std.proofs.lemmas.List.{length-append, append_assoc}
use Rattle.dl_entry.specs.declared.Actor.{Actor}
use Rattle.dl_entry.specs.declared.Request.{Request}
use Rattle.dl_entry.specs.declared.Why.{Why}
use Rattle.spec_isa.specs.declared.thread.Parts.{Parts}
use Rattle.spec_isa.specs.Words.{lays}
use Rattle.spec_log.specs.declared.ModeName.{ModeName}
use Rattle.spec_log.specs.declared.DmaRecord.{DmaRecord}
use Rattle.spec_log.specs.declared.Sizes.{Sizes}
use Rattle.spec_log.specs.declared.LogParts.{LogParts}
use Rattle.spec_log.specs.Head.{is_dma_at, head_by_turn, head_in}
use Rattle.spec_log.specs.Size.{dma_size}
use Rattle.spec_kernel.specs.Copies.{dma_words}
use Rattle.spec_kernel.specs.Interrupts.{is_live, has_handler, takes_interrupt, interrupted}
use Rattle.spec_play.specs.Effects.{dma_commit}
use Rattle.spec_play.specs.Progress.{Progress, position, with_dma}
use Rattle.spec_play.specs.declared.used.Used.{Used}
use Rattle.spec_play.specs.Turns.{TurnOfDma, turn_of, next_actor, at_end, has_left_over, now_at}
use Rattle.spec_play.specs.Verdicts.{interrupt_at, serial_why}
use Rattle.spec_log.specs.Noting.{order_with}
use Rattle.spec_play.specs.Recording.{noted, dma_noted}
use Rattle.spec_play.specs.Transfers.{DmaGoes, DmaFails, is_for, transferred, dma_unless, dma_verdict}
use Rattle.spec_play.specs.Plays.{Played, dma_settled, play_turn, play_one}
use Rattle.spec_sphere.specs.sphere.Spheres.{Sphere}
use Rattle.spec_sphere.proofs.Logs.Inserting.{with_size}
use Rattle.spec_strata.proofs.Shares.Steps.{get-set_other, get-set_same}
use Rattle.spec_sphere.proofs.Logs.Lookups.{get-behind, a_dma, interrupt-other, interrupt-same, length-raised}
use Rattle.spec_sphere.specs.promises.Standing.{OrderStands, SizesStand, Stands}
use Rattle.spec_sphere.proofs.Logs.Growing.{SizesAhead, Behind, Ahead}
use Rattle.spec_sphere.proofs.Logs.Coming.{Transferred, WasRaised}
use Rattle.spec_sphere.proofs.PlayingBack.Following.{early_by, early, pending_by, pending, sum_from, sum-set, Follows}

-- ---- whose turn it is

dma_named : (mode : ModeName) (L : LogParts) (n : ℕ) (last : Option ℕ) (flags : List Bool) (order : List Actor) → (ts : List Parts) → OrderStands mode order n ts → Behind L.order (order_with mode order Actor.Dma) → is_dma_at L.dmas n ≡ true
    → head_in mode L n last flags ≡ Some Actor.Dma
dma_named ModeName.OrderSize L n last flags order ts s b there =
    ap (λ (as_ : List Actor). slice_get as_ n) (b.1 ∙ append_assoc order (Actor.Dma ∷ []) b.0) ∙ get-behind order Actor.Dma b.0 n s.0
dma_named ModeName.OrderOnly L n last flags order ts s b there =
    ap (λ (as_ : List Actor). slice_get as_ n) (b.1 ∙ append_assoc order (Actor.Dma ∷ []) b.0) ∙ get-behind order Actor.Dma b.0 n s.0
dma_named ModeName.Picolog L n last flags order ts s b there = ap (λ (c : Bool). head_by_turn c last flags) there

dma_turn_at : (L : LogParts) (p : Progress) (u : Used) (ts : List Parts) → position p < L.count → next_actor L p ts ≡ Some Actor.Dma → now_at L p u ts ≡ TurnOfDma
unfolding now_at
dma_turn_at L p u ts below actor =
    ap (λ (b : Bool). cond b (turn_of (position p) ts (next_actor L p ts)) (at_end (position p) (has_left_over L u ts))) (lt-ltb (position p) L.count below)
    ∙ ap (turn_of (position p) ts) actor

-- ---- what the log says of it

dma_size_says : (mode : ModeName) (y x : Sizes) (n c : ℕ) (ts us : List Parts) → SizesStand mode x n ts → SizesAhead y (with_size x Actor.Dma c 0 false) us → serial_why (dma_size y n) ≡ None
dma_size_says ModeName.OrderSize (Sizes.Each ys) (Sizes.Each xs) n c ts us s a =
    ap serial_why (ap (λ (zs : List ℕ). slice_get zs n) (a.1 ∙ append_assoc xs (0 ∷ []) a.0) ∙ get-behind xs 0 a.0 n s)
dma_size_says ModeName.OrderSize (Sizes.Short ys) (Sizes.Each xs) n c ts us s a = absurd a
dma_size_says ModeName.OrderSize y (Sizes.Short xs) n c ts us s a = absurd s
dma_size_says ModeName.OrderOnly y (Sizes.Each xs) n c ts us s a = absurd s
dma_size_says ModeName.Picolog y (Sizes.Each xs) n c ts us s a = absurd s
dma_size_says ModeName.OrderOnly (Sizes.Each ys) (Sizes.Short xs) n c ts us s a = absurd a
dma_size_says ModeName.Picolog (Sizes.Each ys) (Sizes.Short xs) n c ts us s a = absurd a
dma_size_says ModeName.OrderOnly (Sizes.Short ys) (Sizes.Short xs) n c ts us s a = refl
dma_size_says ModeName.Picolog (Sizes.Short ys) (Sizes.Short xs) n c ts us s a = refl

is_for_it : (n : ℕ) (q : Request) (bytes : List ℕ) → length bytes ≤ q.len → is_for n q (record { position = n; bytes = bytes }) ≡ true
is_for_it n q bytes l = and_from (eqb n n) (nat_le (length bytes) q.len) (eq-eqb n n refl) (le-leb (length bytes) q.len l)

dma_goes : (L : LogParts) (p : Progress) (u : Used) (q : Request) (bytes : List ℕ) → p.request ≡ Some q → length bytes ≤ q.len → serial_why (dma_size L.sizes (position p)) ≡ None → slice_get L.dmas u.dmas ≡ Some (record { position = position p; bytes = bytes })
    → dma_verdict L p u ≡ DmaGoes (dma_words q bytes)
unfolding dma_verdict
dma_goes L p u q bytes asked most none there =
    ap (λ (w : Option Why). dma_unless w (transferred (position p) p.request (slice_get L.dmas u.dmas))) none
    ∙ (λ i. transferred (position p) (asked i) (there i))
    ∙ ap (λ (b : Bool). cond b (DmaGoes (dma_words q bytes)) (DmaFails Why.Dma)) (is_for_it (position p) q bytes most)

-- ---- the play does it too

abbrev dma_log_of : Sphere → LogParts → List ℕ → LogParts
dma_log_of p log bytes = dma_noted (position p.progress) bytes (noted dma_commit (position p.progress) false log)

dma_now : (L : LogParts) (p q : Sphere) (log : LogParts) (bytes : List ℕ) (y : Played) → Stands p log → Ahead L p log → Ahead L q (dma_log_of p log bytes) → Follows L p log y → y.now ≡ TurnOfDma
dma_now L p q log bytes y sp ap_ aq f =
    let rest = aq.dmas in
    let at_ : position y.progress ≡ position p.progress = ap position f.progress in
    let below : position y.progress < L.count = (let a = sp.count in let h = aq.count in omega arith) in
    let there : is_dma_at L.dmas (position p.progress) ≡ true =
    ap (λ (ds : List DmaRecord). is_dma_at ds (position p.progress)) (rest.1 ∙ append_assoc log.dmas (record { position = position p.progress; bytes = bytes } ∷ []) rest.0)
    ∙ a_dma (position p.progress) log.dmas (record { position = position p.progress; bytes = bytes }) rest.0 refl
    in
    let actor : next_actor L y.progress y.threads ≡ Some Actor.Dma =
    ap (λ (g : Progress). head_in L.mode L (position g) g.last (map is_live y.threads)) f.progress
    ∙ ap (λ (m : ModeName). head_in m L (position p.progress) p.progress.last (map is_live y.threads)) ap_.mode
    ∙ dma_named log.mode L (position p.progress) p.progress.last (map is_live y.threads) log.order p.threads sp.order aq.order there
    in
    f.now ∙ dma_turn_at L y.progress y.used y.threads below actor

dma_says : (L : LogParts) (p q : Sphere) (log : LogParts) (bytes : List ℕ) (request : Request) (y : Played) → p.progress.request ≡ Some request → length bytes ≤ request.len → Stands p log → Ahead L p log → Ahead L q (dma_log_of p log bytes) → Follows L p log y
    → dma_verdict L y.progress y.used ≡ DmaGoes (dma_words request bytes)
dma_says L p q log bytes request y asked most sp ap_ aq f =
    let rest = aq.dmas in
    let at_ : position y.progress ≡ position p.progress = ap position f.progress in
    let d : DmaRecord = record { position = position p.progress; bytes = bytes } in
    let there : slice_get L.dmas y.used.dmas ≡ Some d =
    ap (λ (ds : List DmaRecord). slice_get ds y.used.dmas) (rest.1 ∙ append_assoc log.dmas (d ∷ []) rest.0) ∙ get-behind log.dmas d rest.0 y.used.dmas (sym f.dmas)
    in
    dma_goes L y.progress y.used request bytes (ap (λ (g : Progress). g.request) f.progress ∙ asked) most
    (ap (λ (n : ℕ). serial_why (dma_size L.sizes n)) at_ ∙ dma_size_says log.mode L.sizes log.sizes (position p.progress) (position p.progress) p.threads q.threads sp.sizes aq.sizes)
    (there ∙ ap (λ (n : ℕ). Some (record { position = n; bytes = bytes })) (sym at_))

-- the play that follows up to a DMA follows after it
pub transferred-follows : (L : LogParts) (p q : Sphere) (log qlog : LogParts) (bytes : List ℕ) (request : Request) (y : Played) → Transferred p q log qlog bytes → q.memory ≡ lays p.memory (dma_words request bytes) → q.progress ≡ with_dma p.progress → p.progress.request ≡ Some request → length bytes ≤ request.len
    → Stands p log → Ahead L p log → Ahead L q qlog → Follows L p log y → Follows L q qlog (play_one L y)
unfolding play_one
transferred-follows L p q log qlog bytes request y d mem progress asked most sp ap_ b f =
    let l : LogParts = dma_log_of p log bytes in
    let aq : Ahead L q l = subst (Ahead L q) d.log_ b in
    subst (λ (x : LogParts). Follows L q x (play_turn L y y.now)) (sym d.log_)
    (subst (Follows L q l)
    (sym (ap (play_turn L y) (dma_now L p q log bytes y sp ap_ aq f) ∙ ap (dma_settled L y) (dma_says L p q log bytes request y asked most sp ap_ aq f)))
    (record {
      memory = ap (λ (m : List ℕ). lays m (dma_words request bytes)) f.memory ∙ sym mem;
      size = f.size ∙ sym (ap (λ (ts : List Parts). length ts) d.threads);
      threads = λ j t e. f.threads j t (ap (λ (ts : List Parts). slice_get ts j) (sym d.threads) ∙ e);
      progress = ap with_dma f.progress ∙ sym progress;
      inputs = f.inputs;
      dmas = (let h = f.dmas in let g = length-append log.dmas (record { position = position p.progress; bytes = bytes } ∷ []) in omega arith);
      interrupts = f.interrupts ∙ ap (λ (ts : List Parts). length log.interrupts + sum_from (pending L.interrupts log.interrupts) 0 ts) (sym d.threads);
      now = refl;
    }))

-- ---- an interrupt

-- a thread that takes interrupts isn't masked
pub open-takes : (t : Parts) → takes_interrupt t ≡ true → t.mask ≡ false
open-takes t e = not-true t.mask ((and_parts (is_live t && has_handler t) (not t.mask) e).1)

masked_takes : (t : Parts) (value : ℕ) → takes_interrupt (interrupted value t) ≡ true → ⊥
masked_takes t value e = true≢false (open-takes (interrupted value t) e)

-- sphere p and its log, before, and q and its, after; L is what the log has become in the end
module _ (L : LogParts) (p q : Sphere) (log qlog : LogParts) where
  -- thread k, which was t, was interrupted with the value
  module _ (k value : ℕ) (t : Parts) (d : WasRaised k value p q log qlog t) (sp : Stands p log) (aq : Ahead L q qlog) where
    raised_to_come : (interrupt_at log.interrupts k t.commits ≡ None) × (interrupt_at L.interrupts k t.commits ≡ Some value) × (interrupt_at qlog.interrupts k t.commits ≡ Some value)
    raised_to_come =
        let none : interrupt_at log.interrupts k t.commits ≡ None = sp.unmasked k t d.start (open-takes t d.takes) in
        let some : interrupt_at qlog.interrupts k t.commits ≡ Some value = ap (λ (l : LogParts). interrupt_at l.interrupts k t.commits) d.log_ ∙ interrupt-same log.interrupts k t.commits value none in
        let there : slice_get q.threads k ≡ Some (interrupted value t) = ap (λ (ts : List Parts). slice_get ts k) d.threads ∙ get-set_same p.threads k (interrupted value t) t d.start in (
          none,
          elim (aq.next k (interrupted value t) there) [
            | inl h ↦ h ∙ some
            | inr takes ↦ absurd (masked_takes t value takes)
          ],
          some,
        )

    raised_threads : (y : Played) → Follows L p log y → (j : ℕ) (x : Parts) → slice_get q.threads j ≡ Some x → slice_get y.threads j ≡ Some (early L.interrupts qlog.interrupts j x)
    raised_threads y f j x e =
        let u : Parts = interrupted value t in
        let h = raised_to_come in
        let is : slice_get (set p.threads k u) j ≡ Some x = ap (λ (ts : List Parts). slice_get ts j) (sym d.threads) ∙ e in
        elim (cases_eq j k) [
          | inl jk ↦ (
              let ux : u ≡ x = (let o : Some u ≡ Some x = sym (get-set_same p.threads k u t d.start) ∙ ap (slice_get (set p.threads k u)) (sym jk) ∙ is in cc) in
              let kj : k ≡ j = sym jk in
              ap (slice_get y.threads) jk ∙ f.threads k t d.start
              ∙ (λ i. Some (early_by (h.0 i) (h.1 i) t))
              ∙ sym (ap (λ (o : Option ℕ). Some (early_by o (interrupt_at L.interrupts k t.commits) u)) h.2)
              ∙ (λ i. Some (early L.interrupts qlog.interrupts (kj i) (ux i)))
              )
          | inr ne ↦ f.threads j x (sym (get-set_other p.threads k j u ne) ∙ is)
              ∙ ap (λ (o : Option ℕ). Some (early_by o (interrupt_at L.interrupts j x.commits) x))
              (sym (ap (λ (l : LogParts). interrupt_at l.interrupts j x.commits) d.log_ ∙ interrupt-other log.interrupts k t.commits value j x.commits (λ kj c. ne (sym kj))))
        ]

    raised_sums : length qlog.interrupts + sum_from (pending L.interrupts qlog.interrupts) 0 q.threads ≡ length log.interrupts + sum_from (pending L.interrupts log.interrupts) 0 p.threads
    raised_sums =
        let u : Parts = interrupted value t in
        let h = raised_to_come in
        let f = pending L.interrupts log.interrupts in
        let g = pending L.interrupts qlog.interrupts in
        let kz : 0 + k ≡ k = omega arith in
        let other : (j : ℕ) (x : Parts) → 0 ≤ j → j ≢ 0 + k → f j x ≡ g j x =
        (λ j x l ne.
        ap (λ (o : Option ℕ). pending_by o (interrupt_at L.interrupts j x.commits))
        (sym (ap (λ (m : LogParts). interrupt_at m.interrupts j x.commits) d.log_ ∙ interrupt-other log.interrupts k t.commits value j x.commits (λ kj c. ne (sym kj ∙ sym kz))))) in
        let a = sum-set f g 0 k p.threads t u d.start other in
        let ft : f (0 + k) t ≡ 1 = ap (λ (n : ℕ). f n t) kz ∙ (λ i. pending_by (h.0 i) (h.1 i)) in
        let gu : g (0 + k) u ≡ 0 = ap (λ (n : ℕ). g n u) kz ∙ ap (λ (o : Option ℕ). pending_by o (interrupt_at L.interrupts k t.commits)) h.2 in
        let b : sum_from g 0 q.threads ≡ sum_from g 0 (set p.threads k u) = ap (sum_from g 0) d.threads in
        let c : length qlog.interrupts ≡ suc (length log.interrupts) = ap (λ (m : LogParts). length m.interrupts) d.log_ ∙ length-raised log.interrupts k t.commits value h.0 in
        omega arith

    -- the play that follows up to an interrupt follows after it, and does nothing
    pub raised-follows : (y : Played) → q.memory ≡ p.memory → Follows L p log y → Follows L q qlog y
    raised-follows y mem f =
        record {
          memory = f.memory ∙ sym mem;
          size = f.size ∙ sym (ap (λ (ts : List Parts). length ts) d.threads ∙ length-set p.threads k (interrupted value t));
          threads = raised_threads y f;
          progress = f.progress ∙ sym d.progress;
          inputs = f.inputs ∙ sym (ap (λ (m : LogParts). length m.inputs) d.log_);
          dmas = f.dmas ∙ sym (ap (λ (m : LogParts). length m.dmas) d.log_);
          interrupts = f.interrupts ∙ sym (raised_sums);
          now = f.now;
        }
