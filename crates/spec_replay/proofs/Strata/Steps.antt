-- A serial step or a DMA of a sphere that is replayed in strata, which is a stratum by itself.
use Rattle.std.proofs.Common.{◌≡◌, ℕ, suc, true, cond, List, [], ◌∷◌, ◌++◌, length, Some, refl, sym, ap, ◌∙◌, subst, arith}
use Rattle.std.specs.Prelude.{slice_get, insert, IsSome}
use Rattle.std.specs.List.{sum}
use Rattle.std.proofs.lemmas.Bool.{eq-eqb}
use Rattle.spec_isa.specs.declared.thread.Parts.{Parts}
use Rattle.spec_isa.specs.Words.{Stored, lays}
use Rattle.spec_log.specs.declared.LogParts.{LogParts}
use Rattle.spec_kernel.specs.Devices.{Devices}
use Rattle.spec_kernel.specs.Needs.{next_kind}
use Rattle.spec_play.specs.Effects.{Effect, dma_commit}
use Rattle.spec_play.specs.Progress.{Progress, with_effect, with_dma, with_dma_used}
use Rattle.spec_play.specs.Turns.{TurnOfDma}
use Rattle.spec_play.specs.Verdicts.{LogVerdict, Goes, serial_verdict}
use Rattle.spec_play.specs.Transfers.{DmaVerdict, DmaGoes, dma_verdict}
use Rattle.spec_play.specs.Plays.{Played, settled, dma_settled, play_thread, play_turn, play_one, plays, with_threads}
use Rattle.spec_strata.specs.declared.stratum.Stratum.{Stratum}
use Rattle.spec_strata.specs.declared.stratum.Stratum.TheVariants.{Serial, Dma}
use Rattle.spec_strata.specs.declared.strata.StrataParts.{StrataParts}
use Rattle.spec_strata.specs.Canonical.{canonical}
use Rattle.spec_strata.specs.InPlay.{in_stratum}
use Rattle.spec_strata.specs.Orders.{insert_at}
use Rattle.spec_strata.specs.OnImages.{SerialGoes}
use Rattle.spec_strata.specs.Standing.{Standing, done_up_to, place_of, is_last, stratum_begun}
use Rattle.spec_strata.proofs.Shares.Steps.{same_some}
use Rattle.spec_strata.proofs.Plays.Canonical.{insert-last, one-turn}
use Rattle.spec_sphere.specs.sphere.Spheres.{Cursor, Sphere}
use Rattle.spec_sphere.specs.sphere.Commits.{with_commit, by_verdict, dma_by_verdict, laid}
use Rattle.spec_sphere.specs.sphere.Setups.{SphereSetup}
use Rattle.spec_sphere.proofs.PlayingBack.Sizes.{serial-turn}
use Rattle.spec_replay.specs.Following.{IsWhole}
use Rattle.spec_replay.proofs.Commits.Done.{one_more}
use Rattle.spec_strata.proofs.Standing.Counts.{count_at}
use Rattle.spec_strata.proofs.Standing.Places.{insert-is}
use Rattle.spec_replay.proofs.Strata.Coming.{Comes, NextIs, opened_by, none-in, begun-next}
use Rattle.spec_replay.proofs.Strata.Going.{IsThere, ComesTo, goes-comes, dma-comes}

-- ---- at the end of the commits

-- where nothing of the stratum is done, the commit is the last
alone-placed : (x : Standing) (k : ℕ) (e : Effect) (p : Progress) → x.done ≡ [] → length p.commits ≡ x.before → with_commit (Some x) k e p ≡ with_effect k e p
alone-placed x k e p none before =
    let up : done_up_to k x.done ≡ 0 = ap (done_up_to k) none in
    let all : sum x.done ≡ 0 = ap (λ (ds : List ℕ). sum ds) none in
    let at_ : place_of k x ≡ length p.commits = omega (arith, up, before) in
    let commits : insert p.commits (place_of k x) e.commit ≡ p.commits ++ e.commit ∷ [] =
    insert-is (place_of k x) e.commit p.commits ∙ ap (λ (i : ℕ). insert_at i e.commit p.commits) at_ ∙ insert-last e.commit p.commits in
    let last : is_last k x ≡ true = eq-eqb (done_up_to k x.done) (sum x.done) (up ∙ sym all) in
    (λ i. record p { commits = commits i; last = cond (last i) (Some k) p.last; request = e.request })

nothing : (ds : List ℕ) → ds ≡ [] → (j : ℕ) → count_at ds j ≡ 0
nothing ds none j = ap (λ (es : List ℕ). count_at es j) none

-- ---- a serial step

module _ (v : StrataParts) (image : SphereSetup) (k : ℕ) (xs : List Stratum) (ds : List ℕ) (n : ℕ) (c : Comes v image (record { strata = Serial k ∷ xs; done = ds; before = n })) (p : Sphere) (b : Cursor) where
  abbrev log_of : LogParts
  log_of = canonical v

  abbrev start_of : Played
  start_of = plays (canonical v) (opened_by v image) n

  abbrev here : Played
  here = in_stratum (canonical v) (plays (canonical v) (opened_by v image) n) (count_at ds)

  at-start : here ≡ start_of
  at-start = none-in log_of start_of ds c.looked (nothing ds c.open_)

  step : SerialGoes log_of start_of k
  step = c.goes.1

  -- the thread, of a sphere with no pieces
  thread-is : (u : Parts) → IsWhole here p b → slice_get p.threads k ≡ Some u → u ≡ step.step.thread
  thread-is u w there =
      same_some u step.step.thread (sym there ∙ ap (λ (ts : List Parts). slice_get ts k) w.threads ∙ ap (λ (y : Played). slice_get y.threads k) at-start ∙ step.step.there)

  memory-is : IsWhole here p b → p.memory ≡ start_of.memory
  memory-is w = w.memory ∙ ap (λ (y : Played). y.memory) at-start

  -- its next instruction is serial
  pub step-serial : (u : Parts) → IsWhole here p b → slice_get p.threads k ≡ Some u → IsSome (next_kind u p.memory)
  step-serial u w there = subst IsSome (λ i. next_kind (sym (thread-is u w there) i) (sym (memory-is w) i)) step.serial

  pub serial-comes : (u : Parts) (devices : Devices) → IsThere log_of here (record { strata = Serial k ∷ xs; done = ds; before = n }) p b → IsWhole here p b → slice_get p.threads k ≡ Some u
      → ComesTo v image (laid (by_verdict b k (serial_verdict b.log p.progress b.used k p.threads u p.memory) devices p))
  serial-comes u devices a w there =
      let x : Standing = record { strata = Serial k ∷ xs; done = ds; before = n } in
      let y : Played = start_of in
      let t : Parts = step.step.thread in
      let e : Effect = step.step.effect in
      let z : Played = settled log_of y k (Goes e step.step.used) in
      let progress : p.progress ≡ y.progress = a.progress ∙ ap (λ (o : Played). o.progress) at-start in
      let used : b.used ≡ y.used = a.used ∙ ap (λ (o : Played). o.used) at-start in
      let threads : p.threads ≡ y.threads = w.threads ∙ ap (λ (o : Played). o.threads) at-start in
      let verdict : serial_verdict b.log p.progress b.used k p.threads u p.memory ≡ Goes e step.step.used =
      (λ i. serial_verdict (a.same_log i) (progress i) (used i) k (threads i) (thread-is u w there i) (memory-is w i))
      ∙ sym (serial-turn log_of y k t (next_kind t y.memory) step.serial) ∙ step.step.goes in
      let one : play_one log_of y ≡ z = one-turn log_of y k step.turn ∙ ap (play_thread log_of y k) step.step.there ∙ ap (settled log_of y k) step.step.goes in
      let next : NextIs v image (stratum_begun xs (suc n)) z =
      begun-next v image (Serial k) xs ds n (suc n) z c (omega arith) one refl (one_more y.progress.commits e.commit ∙ ap suc c.commits) in
      subst (λ (o : LogVerdict). ComesTo v image (laid (by_verdict b k o devices p))) (sym verdict)
      (goes-comes v image here x z p b k e step.step.used devices a next
      (ap (with_commit (Some x) k e) progress ∙ alone-placed x k e y.progress c.open_ c.commits) refl
      (ap (λ (m : List ℕ). lays m e.words) (memory-is w)) (ap (with_threads k e) threads))

-- ---- a DMA

one-dma : (log : LogParts) (y : Played) (ws : List Stored) → y.now ≡ TurnOfDma → dma_verdict log y.progress y.used ≡ DmaGoes ws → play_one log y ≡ dma_settled log y (DmaGoes ws)
unfolding play_one
one-dma log y ws turn goes = ap (play_turn log y) turn ∙ ap (dma_settled log y) goes

module _ (v : StrataParts) (image : SphereSetup) (xs : List Stratum) (ds : List ℕ) (n : ℕ) (c : Comes v image (record { strata = Dma ∷ xs; done = ds; before = n })) (p : Sphere) (b : Cursor) where
  pub transfer-comes : (devices : Devices) → IsThere (canonical v) (in_stratum (canonical v) (plays (canonical v) (opened_by v image) n) (count_at ds)) (record { strata = Dma ∷ xs; done = ds; before = n }) p b → IsWhole (in_stratum (canonical v) (plays (canonical v) (opened_by v image) n) (count_at ds)) p b
      → ComesTo v image (laid (dma_by_verdict b (dma_verdict b.log p.progress b.used) devices p))
  transfer-comes devices a w =
      let log : LogParts = canonical v in
      let x : Standing = record { strata = Dma ∷ xs; done = ds; before = n } in
      let y : Played = plays (canonical v) (opened_by v image) n in
      let at_start : in_stratum log y (count_at ds) ≡ y = none-in log y ds c.looked (nothing ds c.open_) in
      let ws : List Stored = c.goes.1.1.0 in
      let z : Played = dma_settled log y (DmaGoes ws) in
      let progress : p.progress ≡ y.progress = a.progress ∙ ap (λ (o : Played). o.progress) at_start in
      let used : b.used ≡ y.used = a.used ∙ ap (λ (o : Played). o.used) at_start in
      let verdict : dma_verdict b.log p.progress b.used ≡ DmaGoes ws = (λ i. dma_verdict (a.same_log i) (progress i) (used i)) ∙ c.goes.1.1.1 in
      let one : play_one log y ≡ z = one-dma log y ws c.goes.1.0 c.goes.1.1.1 in
      let next : NextIs v image (stratum_begun xs (suc n)) z =
      begun-next v image Dma xs ds n (suc n) z c (omega arith) one refl (one_more y.progress.commits dma_commit ∙ ap suc c.commits) in
      subst (λ (o : DmaVerdict). ComesTo v image (laid (dma_by_verdict b o devices p))) (sym verdict)
      (dma-comes v image (in_stratum log y (count_at ds)) x z p b ws devices a next (ap with_dma progress) (ap with_dma_used used)
      (ap (λ (m : List ℕ). lays m ws) (w.memory ∙ ap (λ (o : Played). o.memory) at_start)) (w.threads ∙ ap (λ (o : Played). o.threads) at_start))
