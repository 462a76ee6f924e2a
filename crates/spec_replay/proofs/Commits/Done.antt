-- A whole commit of a replayed sphere is the play's next; and one that diverges ends both.
use Rattle.std.proofs.Common.{◌≡◌, ℕ, suc, ◌<◌, ◌≤◌, inl, inr, List, [], ◌∷◌, ◌++◌, length, Option, Some, None, refl, sym, ap, ◌∙◌, subst, arith, set}
use Rattle.std.specs.Prelude.{option_map}
use Rattle.std.proofs.lemmas.List.{length-append}
use Rattle.dl_entry.specs.declared.Commit.{Commit}
use Rattle.dl_entry.specs.declared.End.{End}
use Rattle.dl_entry.specs.declared.Why.{Why}
use Rattle.spec_isa.specs.declared.thread.Parts.{Parts}
use Rattle.spec_isa.specs.Words.{Stored, lays}
use Rattle.spec_isa.specs.Runs.{run}
use Rattle.spec_log.specs.declared.LogParts.{LogParts}
use Rattle.spec_kernel.specs.Devices.{Devices}
use Rattle.spec_kernel.specs.Needs.{next_kind}
use Rattle.spec_play.specs.Effects.{Effect, dma_commit}
use Rattle.spec_play.specs.Progress.{Progress, position, with_dma, with_dma_used}
use Rattle.spec_play.specs.declared.used.Used.{Used}
use Rattle.spec_play.specs.Turns.{TurnOrEnd, Turn, TurnOfDma, Ended, now_at}
use Rattle.spec_play.specs.Intervals.{now_in}
use Rattle.spec_play.proofs.Going.{turn-lives}
use Rattle.spec_play.specs.Verdicts.{LogVerdict, Goes, Fails}
use Rattle.spec_play.specs.Transfers.{DmaVerdict, DmaGoes, DmaFails, dma_verdict}
use Rattle.spec_play.specs.Plays.{Played, with_threads, settled, thread_verdict, play_thread, dma_settled, play_turn, play_one, plays}
use Rattle.spec_strata.specs.Standing.{Standing, after_thread, after_dma}
use Rattle.spec_sphere.specs.sphere.Spheres.{Cursor, Role, Plain, Record, Replay, Sphere}
use Rattle.spec_sphere.specs.sphere.Commits.{with_commit, now_by, turned, diverged, by_verdict, dma_by_verdict, laid}
use Rattle.spec_sphere.specs.sphere.Setups.{ReplaySetup}
use Rattle.spec_replay.specs.Following.{IsWhole, IsMovedOn, StandsAt, Follows}
use Rattle.spec_replay.proofs.Intervals.{commits_of, now_as, turn-in}
use Rattle.spec_replay.proofs.Commits.Standing.{set_twice, whole-stands}
use Rattle.spec_replay.proofs.Commits.Judging.{AlikeEffects, AreAlike}

-- ---- where a sphere is

-- how many whole commits it has done
abbrev pub done_in : Sphere → ℕ
done_in p = length p.progress.commits

-- a replay isn't in strata
abbrev pub InOrder : Role → Type 0
InOrder Plain = Unit {0}
InOrder (Record recording) = Unit {0}
InOrder (Replay b) = b.strata ≡ None

-- it is in the play at the number of its whole commits, of which it has done no more than are asked for
pub record Reaches (asked : ReplaySetup) (start : Played) (p : Sphere) : Type 0 where
  pub follows : Follows asked (plays asked.log start (done_in p)) p
  pub within : done_in p ≤ commits_of asked
  pub in_order : InOrder p.role

-- beside the play: the log, the commits and what is used of the log are the same
pub record Beside (asked : ReplaySetup) (y : Played) (p : Sphere) (b : Cursor) : Type 0 where
  pub role : p.role ≡ Replay b
  pub same_log : b.log ≡ asked.log
  pub same_interval : b.interval ≡ asked.interval
  pub in_order : b.strata ≡ None
  pub progress : p.progress ≡ y.progress
  pub used : b.used ≡ y.used
  pub standard : 0 < asked.log.s

-- ---- only the end

-- the play is given this end and nothing else
abbrev pub ended_by : Played → Why → Played
ended_by y why = record y { now = Ended (End.Diverged (position y.progress) why) }

same_end : (p : Progress) (y : Played) (why : Why) → p ≡ y.progress → Ended (End.Diverged (position p) why) ≡ Ended (End.Diverged (position y.progress) why)
same_end p y why e = ap (λ (g : Progress). Ended (End.Diverged (position g) why)) e

-- one more commit makes the list longer by one
pub one_more : (cs : List Commit) (c : Commit) → length (cs ++ c ∷ []) ≡ suc (length cs)
one_more cs c = let h = length-append cs (c ∷ []) in omega arith

-- a replay follows its log's play if no piece is done and all else is the play's
whole_follows : (asked : ReplaySetup) (z : Played) (q : Sphere) (c : Cursor) → Beside asked z q c → c.now ≡ now_as asked z → now_at asked.log z.progress z.used z.threads ≡ z.now → IsWhole z q c → Follows asked z q
whole_follows asked z q c s now turn w =
    record {
      cursor = c;
      role = s.role;
      same_log = s.same_log;
      same_interval = s.same_interval;
      progress = s.progress;
      used = s.used;
      now = inl now;
      ended = λ how h. now ∙ h;
      state = whole-stands asked z q c s.standard (λ k e. turn-lives asked.log z.progress z.used z.threads k (turn ∙ e)) w;
    }

-- the replayed sphere p, with cursor b, is beside y of its log's play
module _ (asked : ReplaySetup) (y : Played) (p : Sphere) (b : Cursor) (devices : Devices) (s : Beside asked y p b) where
  -- if the play's next commit diverges, so does the replay
  diverged-follows : (why : Why) (now : TurnOrEnd) → now_as asked y ≡ now → ((how : End) → now ≡ Ended how → ⊥) → StandsAt asked.log y now p b → play_one asked.log y ≡ ended_by y why
      → ((c : Cursor) → c.total ≡ b.total → c.loads ≡ b.loads → StandsAt asked.log y now p b → StandsAt asked.log y now (laid (diverged b why devices p)) c) → Follows asked y (laid (diverged b why devices p))
  diverged-follows why now is going state one keeps =
      let c : Cursor = record b { now = Ended (End.Diverged (position p.progress) why) } in
      record {
        cursor = c;
        role = refl;
        same_log = s.same_log;
        same_interval = s.same_interval;
        progress = s.progress;
        used = s.used;
        now = inr (record { why = why; over = same_end p.progress y why s.progress; diverges = one });
        ended = λ how e. absurd (going how (sym is ∙ e));
        state = subst (λ (n : TurnOrEnd). StandsAt asked.log y n (laid (diverged b why devices p)) c) (sym is) (keeps c refl refl state);
      }

  -- if both commit alike, the replay follows the play that has settled it
  goes_follow : (k : ℕ) (x : Parts) (e f : Effect) (u v : Used) → p.threads ≡ set y.threads k x → AlikeEffects p.memory y.memory e f → u ≡ v
      → Follows asked (settled asked.log y k (Goes f v)) (laid (by_verdict b k (Goes e u) devices p))
  goes_follow k x e f u v threads alike used =
      let z : Played = settled asked.log y k (Goes f v) in
      let q : Sphere = laid (by_verdict b k (Goes e u) devices p) in
      let strata : option_map (after_thread k) b.strata ≡ None = ap (option_map (after_thread k)) s.in_order in
      let c : Cursor = turned b.log b.interval (option_map (after_thread k) b.strata) (with_commit b.strata k e p.progress) u (with_threads k e p.threads) in
      let progress : q.progress ≡ z.progress =
      ap (λ (o : Option Standing). with_commit o k e p.progress) s.in_order
      ∙ (λ i. record { first = (s.progress i).first; commits = (s.progress i).commits ++ alike.commit i ∷ []; last = Some k; request = alike.request i })
      in
      let same : q.threads ≡ z.threads =
      ap (λ (ts : List Parts). set ts k e.thread ++ e.spawned) threads
      ∙ ap (λ (ts : List Parts). ts ++ e.spawned) (set_twice y.threads k x e.thread)
      ∙ (λ i. set y.threads k (alike.thread i) ++ alike.spawned i)
      in
      let now : c.now ≡ now_as asked z =
      (λ i. now_in (s.same_interval i) (s.same_log i).count (position (progress i)) (now_by (strata i) (s.same_log i) (progress i) (used i) (same i)))
      in
      whole_follows asked z q c
      (record { role = refl; same_log = s.same_log; same_interval = s.same_interval; in_order = strata; progress = progress; used = used; standard = s.standard }) now refl
      (record { memory = alike.memory; threads = same; total = refl; loads = refl })

-- ---- a commit of a thread

-- it is the turn of thread k, which is t in the play, and the pieces of its present commit have moved p on
pub record HasTurn (asked : ReplaySetup) (start y : Played) (p : Sphere) (b : Cursor) (k : ℕ) (t : Parts) : Type 0 where
  pub at_ : y ≡ plays asked.log start (done_in p)
  pub room : done_in p < commits_of asked
  pub beside : Beside asked y p b
  pub same : b.now ≡ now_as asked y
  pub turn : now_as asked y ≡ Turn k
  pub moved : IsMovedOn asked.log y k t p b

turn_goes_on : (k : ℕ) (how : End) → Turn k ≡ Ended how → ⊥
turn_goes_on k how e = cc

-- the next commit is done
more_reaches : (asked : ReplaySetup) (start z : Played) (p q : Sphere) (c : Commit) → q.progress.commits ≡ p.progress.commits ++ c ∷ [] → done_in p < commits_of asked → plays asked.log start (suc (done_in p)) ≡ z → InOrder q.role → Follows asked z q → Reaches asked start q
more_reaches asked start z p q c more room one in_order f =
    let size : done_in q ≡ suc (done_in p) = ap (λ (cs : List Commit). length cs) more ∙ one_more p.progress.commits c in
    record {
      follows = subst (λ (y : Played). Follows asked y q) (sym one ∙ ap (plays asked.log start) (sym size)) f;
      within = omega (arith, size, room);
      in_order = in_order;
    }

-- it diverges
same_reaches : (asked : ReplaySetup) (start y : Played) (p q : Sphere) → q.progress.commits ≡ p.progress.commits → done_in p < commits_of asked → y ≡ plays asked.log start (done_in p) → InOrder q.role → Follows asked y q → Reaches asked start q
same_reaches asked start y p q same room at_ in_order f =
    let size : done_in q ≡ done_in p = ap (λ (cs : List Commit). length cs) same in
    record {
      follows = subst (λ (z : Played). Follows asked z q) (at_ ∙ ap (plays asked.log start) (sym size)) f;
      within = omega (arith, size, room);
      in_order = in_order;
    }

-- the thread has the turn
module _ (asked : ReplaySetup) (start y : Played) (p : Sphere) (b : Cursor) (k : ℕ) (t : Parts) (h : HasTurn asked start y p b k t) where
  play_judged : (w : LogVerdict) → thread_verdict asked.log y k t (next_kind t y.memory) ≡ w → play_one asked.log y ≡ settled asked.log y k w
  unfolding play_one
  play_judged w is =
      ap (play_turn asked.log y) (turn-in asked.interval asked.log.count (position y.progress) y.now (Turn k) refl h.turn)
      ∙ ap (play_thread asked.log y k) h.moved.is
      ∙ ap (settled asked.log y k) is

  -- a verdict like the play's leaves the sphere in its log's play
  pub commit-reaches : (v w : LogVerdict) (devices : Devices) → thread_verdict asked.log y k t (next_kind t y.memory) ≡ w → AreAlike p.memory y.memory v w → Reaches asked start (laid (by_verdict b k v devices p))
  commit-reaches (Goes e u) (Goes f g) devices is alike =
      let one : plays asked.log start (suc (done_in p)) ≡ settled asked.log y k (Goes f g) = ap (play_one asked.log) (sym h.at_) ∙ play_judged (Goes f g) is in
      more_reaches asked start (settled asked.log y k (Goes f g)) p (laid (by_verdict b k (Goes e u) devices p)) e.commit
      (ap (λ (o : Option Standing). (with_commit o k e p.progress).commits) h.beside.in_order) h.room one
      (ap (option_map (after_thread k)) h.beside.in_order)
      (goes_follow asked y p b devices h.beside k (run y.memory t b.total).thread e f u g h.moved.threads alike.0 alike.1)
  commit-reaches (Fails why) (Fails other) devices is alike =
      let one : play_one asked.log y ≡ ended_by y why = play_judged (Fails other) is ∙ ap (ended_by y) (sym alike) in
      same_reaches asked start y p (laid (by_verdict b k (Fails why) devices p)) refl h.room h.at_ h.beside.in_order
      (diverged-follows asked y p b devices h.beside why (Turn k) h.turn (turn_goes_on k) (t, h.moved) one
      (λ c total loads m. (m.0, rw (total, loads) record { is = m.1.is; live = m.1.live; ran = m.1.ran; memory = m.1.memory; threads = m.1.threads; loads = m.1.loads; within = m.1.within })))
  commit-reaches (Goes e u) (Fails why) devices is alike = absurd alike
  commit-reaches (Fails why) (Goes f g) devices is alike = absurd alike

-- ---- a DMA

dma_follows : (asked : ReplaySetup) (y : Played) (p : Sphere) (b : Cursor) (ws : List Stored) (devices : Devices) → Beside asked y p b → IsWhole y p b → Follows asked (dma_settled asked.log y (DmaGoes ws)) (laid (dma_by_verdict b (DmaGoes ws) devices p))
dma_follows asked y p b ws devices s w =
    let z : Played = dma_settled asked.log y (DmaGoes ws) in
    let q : Sphere = laid (dma_by_verdict b (DmaGoes ws) devices p) in
    let strata : option_map after_dma b.strata ≡ None = ap (option_map after_dma) s.in_order in
    let c : Cursor = turned b.log b.interval (option_map after_dma b.strata) (with_dma p.progress) (with_dma_used b.used) p.threads in
    let progress : q.progress ≡ z.progress = ap with_dma s.progress in
    let used : c.used ≡ z.used = ap with_dma_used s.used in
    let now : c.now ≡ now_as asked z =
    (λ i. now_in (s.same_interval i) (s.same_log i).count (position (progress i)) (now_by (strata i) (s.same_log i) (progress i) (used i) (w.threads i)))
    in
    whole_follows asked z q c
    (record { role = refl; same_log = s.same_log; same_interval = s.same_interval; in_order = strata; progress = progress; used = used; standard = s.standard }) now refl
    (record { memory = ap (λ (m : List ℕ). lays m ws) w.memory; threads = w.threads; total = refl; loads = refl })

play_dma : (log : LogParts) (y : Played) (v : DmaVerdict) → y.now ≡ TurnOfDma → dma_verdict log y.progress y.used ≡ v → play_one log y ≡ dma_settled log y v
unfolding play_one
play_dma log y v turn is = ap (play_turn log y) turn ∙ ap (dma_settled log y) is

dma_goes_on : (how : End) → TurnOfDma ≡ Ended how → ⊥
dma_goes_on how e = cc

-- it is the DMA's turn
pub record HasDmaTurn (asked : ReplaySetup) (start y : Played) (p : Sphere) (b : Cursor) : Type 0 where
  pub at_ : y ≡ plays asked.log start (done_in p)
  pub room : done_in p < commits_of asked
  pub beside : Beside asked y p b
  pub turn : now_as asked y ≡ TurnOfDma
  pub whole : IsWhole y p b

-- a DMA of a replayed sphere, done or diverging, leaves it in its log's play
pub transfer-reaches : (asked : ReplaySetup) (start y : Played) (p : Sphere) (b : Cursor) (v : DmaVerdict) (devices : Devices) → HasDmaTurn asked start y p b → dma_verdict asked.log y.progress y.used ≡ v → Reaches asked start (laid (dma_by_verdict b v devices p))
transfer-reaches asked start y p b (DmaGoes ws) devices h is =
    let turn = turn-in asked.interval asked.log.count (position y.progress) y.now TurnOfDma refl h.turn in
    let one : plays asked.log start (suc (done_in p)) ≡ dma_settled asked.log y (DmaGoes ws) = ap (play_one asked.log) (sym h.at_) ∙ play_dma asked.log y (DmaGoes ws) turn is in
    more_reaches asked start (dma_settled asked.log y (DmaGoes ws)) p (laid (dma_by_verdict b (DmaGoes ws) devices p)) dma_commit refl h.room one
    (ap (option_map after_dma) h.beside.in_order)
    (dma_follows asked y p b ws devices h.beside h.whole)
transfer-reaches asked start y p b (DmaFails why) devices h is =
    let turn = turn-in asked.interval asked.log.count (position y.progress) y.now TurnOfDma refl h.turn in
    same_reaches asked start y p (laid (dma_by_verdict b (DmaFails why) devices p)) refl h.room h.at_ h.beside.in_order
    (diverged-follows asked y p b devices h.beside why TurnOfDma h.turn dma_goes_on h.whole (play_dma asked.log y (DmaFails why) turn is)
    (λ c total loads w. record { memory = w.memory; threads = w.threads; total = total ∙ w.total; loads = loads ∙ w.loads }))
