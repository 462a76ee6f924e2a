-- A replay of a log that goes on, beside its play: whose turn it is, what its thread has run, and what its next commit does.
use Rattle.std.proofs.Common.{◌≡◌, ℕ, suc, ◌+◌, ◌-◌, ◌<◌, ◌≤◌, inl, inr, false, List, length, Option, Some, None, refl, sym, ap, ◌∙◌, subst, arith}
use Rattle.std.specs.Prelude.{option_map}
use Rattle.std.proofs.lemmas.Bool.{true≢false}
use Rattle.spec_isa.specs.declared.thread.Load.{Load}
use Rattle.spec_play.specs.Effects.{Effect, dma_commit}
use Rattle.spec_play.specs.Progress.{position, with_effect, with_dma, with_dma_used}
use Rattle.spec_play.specs.declared.used.Used.{Used}
use Rattle.spec_play.specs.Turns.{TurnOrEnd, Turn, TurnOfDma, now_at}
use Rattle.spec_play.specs.Transfers.{dma_verdict}
use Rattle.spec_play.specs.Plays.{Played, plays, with_threads}
use Rattle.spec_strata.specs.Standing.{Standing, after_thread, after_dma}
use Rattle.spec_sphere.specs.sphere.Spheres.{Cursor, Replay, Sphere, is_over}
use Rattle.spec_sphere.specs.sphere.Commits.{with_commit, between, turned}
use Rattle.spec_sphere.specs.sphere.Setups.{first_played, ReplaySetup, SphereSetup}
use Rattle.spec_sphere.proofs.Moves.Joining.{MayGo, its_turn, own_pieces, turn_in_order}
use Rattle.spec_replay.specs.Following.{IsWhole, StandsAt, Follows}
use Rattle.spec_replay.proofs.Intervals.{now_as, turn-in, is-start, room-left}
use Rattle.spec_replay.proofs.Commits.Done.{done_in, one_more, InOrder, Reaches}
use Rattle.spec_finishing.specs.Work.{dma_stored, turn_work, next_work, commit_work}
use Rattle.spec_finishing.specs.Rank.{asked_of, left_in, replay_left}
use Rattle.spec_finishing.proofs.Paying.Plays.{first_of, count_of, left-going, left-step, left-turned, later}
use Rattle.spec_finishing.proofs.Paying.NextCommits.{ThreadNext, DmaNext}

-- ---- beside its play

-- where the play is after the replay's whole commits
abbrev pub play_of : SphereSetup → Cursor → Sphere → Played
play_of image b p = plays b.log (first_of image b) (done_in p)

record Beside (asked : ReplaySetup) (y : Played) (p : Sphere) (b : Cursor) : Type 0 where
  now : b.now ≡ now_as asked y
  progress : p.progress ≡ y.progress
  used : b.used ≡ y.used
  state : StandsAt asked.log y (now_as asked y) p b

-- the replay p of a log, with cursor b, goes on
pub record BesideLog (image : SphereSetup) (p : Sphere) (b : Cursor) : Type 0 where
  pub plain : b.strata ≡ None
  pub now : b.now ≡ now_as (asked_of b) (play_of image b p)
  pub progress : p.progress ≡ (play_of image b p).progress
  pub used : b.used ≡ (play_of image b p).used
  pub state : StandsAt b.log (play_of image b p) (now_as (asked_of b) (play_of image b p)) p b
  pub ahead : done_in p < count_of b

beside_cursor : (asked : ReplaySetup) (y : Played) (p : Sphere) → (f : Follows asked y p) → is_over f.cursor.now ≡ false → Beside asked y p f.cursor
beside_cursor asked y p f going =
    record {
      now = elim f.now [
        | inl e ↦ e
        | inr within ↦ absurd (true≢false (sym (ap is_over within.over) ∙ going))
      ];
      progress = f.progress;
      used = f.used;
      state = f.state;
    }

goes_with : (image : SphereSetup) (p : Sphere) (b : Cursor) → b.strata ≡ None → is_over b.now ≡ false → Beside (asked_of b) (play_of image b p) p b → BesideLog image p b
goes_with image p b plain going s =
    record {
      plain = plain;
      now = s.now;
      progress = s.progress;
      used = s.used;
      state = s.state;
      ahead = room-left (asked_of b) (first_of image b) (is-start image (asked_of b)) (done_in p) (sym (ap is_over s.now) ∙ going);
    }

goes_cursor : (image : SphereSetup) (asked : ReplaySetup) (p : Sphere) → asked.strata ≡ None → (f : Follows asked (plays asked.log (first_played image asked) (done_in p)) p) → f.cursor.strata ≡ None → is_over f.cursor.now ≡ false
    → BesideLog image p f.cursor
goes_cursor image asked p none f plain going =
    let same : asked ≡ asked_of f.cursor = (λ i. record { log = sym f.same_log i; interval = sym f.same_interval i; strata = none i }) in
    goes_with image p f.cursor plain going
    (subst (λ (a : ReplaySetup). Beside a (plays a.log (first_played image a) (done_in p)) p f.cursor) same
    (beside_cursor asked (plays asked.log (first_played image asked) (done_in p)) p f going))

-- a replay that is in its log's play and isn't over goes on beside it
pub beside-log : (image : SphereSetup) (asked : ReplaySetup) (p : Sphere) (b : Cursor) → asked.strata ≡ None → Reaches asked (first_played image asked) p → p.role ≡ Replay b → is_over b.now ≡ false → BesideLog image p b
beside-log image asked p b none r role going =
    let f = r.follows in
    let e : f.cursor ≡ b = (let h : Replay f.cursor ≡ Replay b = sym f.role ∙ role in cc) in
    subst (λ (c : Cursor). c.strata ≡ None → is_over c.now ≡ false → BesideLog image p c) e (goes_cursor image asked p none f) (subst InOrder role r.in_order) going

-- the play has the replay's turn
play_turn_is : (image : SphereSetup) (p : Sphere) (b : Cursor) (now : TurnOrEnd) → BesideLog image p b → is_over now ≡ false → b.now ≡ now → (play_of image b p).now ≡ now
play_turn_is image p b now g going turn =
    let y = play_of image b p in
    turn-in b.interval b.log.count (position y.progress) y.now now going (sym g.now ∙ turn)

-- ---- the thread whose turn it is

-- thread k has run the pieces that the cursor has
log_pieces : (image : SphereSetup) (p : Sphere) (b : Cursor) (k : ℕ) → (g : BesideLog image p b) → b.now ≡ Turn k → StandsAt b.log (play_of image b p) (Turn k) p b
log_pieces image p b k g turn = subst (λ (n : TurnOrEnd). StandsAt b.log (play_of image b p) n p b) (sym g.now ∙ turn) g.state

thread_works : (image : SphereSetup) (p : Sphere) (b : Cursor) (k : ℕ) → (g : BesideLog image p b) → b.now ≡ Turn k → (s : StandsAt b.log (play_of image b p) (Turn k) p b) → commit_work b.log (play_of image b p) ≡ turn_work b.log (play_of image b p) k (Some s.0)
unfolding commit_work
thread_works image p b k g turn s =
    let y = play_of image b p in
    ap (next_work b.log y) (play_turn_is image p b (Turn k) g refl turn) ∙ ap (turn_work b.log y k) s.1.is

-- the work that a play has after its next commit
abbrev behind : SphereSetup → Sphere → Cursor → ℕ
behind image p b = later b.log (first_of image b) (count_of b) (done_in p)

log_left : (image : SphereSetup) (p : Sphere) (b : Cursor) (now : TurnOrEnd) (total : ℕ) (loads : List Load) → BesideLog image p b → is_over now ≡ false
    → replay_left image (record b { now = now; total = total; loads = loads }) (done_in p) ≡ (commit_work b.log (play_of image b p) + behind image p b) - total
log_left image p b now total loads g going =
    let c : Cursor = record b { now = now; total = total; loads = loads } in
    left-going image c (done_in p) going
    ∙ ap (λ (o : Option Standing). left_in b.log (first_of image b) (count_of b) (done_in p) o total) g.plain
    ∙ left-step b.log (first_of image b) (count_of b) (done_in p) total g.ahead

log_whole : (image : SphereSetup) (p : Sphere) (b : Cursor) (k : ℕ) (e : Effect) (u : Used) → b.strata ≡ None → let progress = with_commit b.strata k e p.progress in
    replay_left image (turned b.log b.interval (option_map (after_thread k) b.strata) progress u (with_threads k e p.threads)) (length progress.commits) ≤ behind image p b
log_whole image p b k e u plain =
    let progress = with_effect k e p.progress in
    let now = now_at b.log progress u (with_threads k e p.threads) in
    let size = ap (replay_left image (between b.log b.interval None (position progress) u now)) (one_more p.progress.commits e.commit) in
    let most = left-turned image b (position progress) u now (done_in p) in
    subst (λ (o : Option Standing). let q = with_commit o k e p.progress in
    replay_left image (turned b.log b.interval (option_map (after_thread k) o) q u (with_threads k e p.threads)) (length q.commits) ≤ behind image p b)
    (sym plain) (omega (arith, size, most))

log_thread : (image : SphereSetup) (p : Sphere) (b : Cursor) (k : ℕ) → (g : BesideLog image p b) → b.now ≡ Turn k → ThreadNext image p b k
log_thread image p b k g turn =
    let s = log_pieces image p b k g turn in
    let going : is_over b.now ≡ false = ap is_over turn in
    record {
      at = play_of image b p;
      thread = s.0;
      work = commit_work b.log (play_of image b p);
      later = behind image p b;
      moved = s.1;
      own = own_pieces b k (its_turn b k turn);
      progress = g.progress;
      used = g.used;
      works = thread_works image p b k g turn s;
      left = log_left image p b b.now b.total b.loads g going;
      piece = λ n loads. log_left image p b (Turn k) (b.total + n) loads g refl;
      whole = λ e u. log_whole image p b k e u g.plain;
    }

-- a thread's next commit does the work of the play's
pub log-thread_next : (image : SphereSetup) (p : Sphere) (b : Cursor) (k : ℕ) → BesideLog image p b → MayGo b k → ThreadNext image p b k
log-thread_next image p b k g may = log_thread image p b k g (turn_in_order b k may g.plain)

-- ---- a DMA's turn

log_dma_whole : (image : SphereSetup) (p : Sphere) (b : Cursor) → b.strata ≡ None → let progress = with_dma p.progress in
    replay_left image (turned b.log b.interval (option_map after_dma b.strata) progress (with_dma_used b.used) p.threads) (length progress.commits) ≤ behind image p b
log_dma_whole image p b plain =
    let progress = with_dma p.progress in
    let u = with_dma_used b.used in
    let now = now_at b.log progress u p.threads in
    let size = ap (replay_left image (between b.log b.interval None (position progress) u now)) (one_more p.progress.commits dma_commit) in
    let most = left-turned image b (position progress) u now (done_in p) in
    subst (λ (o : Option Standing). replay_left image (turned b.log b.interval (option_map after_dma o) progress u p.threads) (length progress.commits) ≤ behind image p b)
    (sym plain) (omega (arith, size, most))

dma_works : (image : SphereSetup) (p : Sphere) (b : Cursor) → (g : BesideLog image p b) → b.now ≡ TurnOfDma → let y = play_of image b p in commit_work b.log y ≡ suc (dma_stored (dma_verdict b.log y.progress y.used))
unfolding commit_work
dma_works image p b g turn = ap (next_work b.log (play_of image b p)) (play_turn_is image p b TurnOfDma g refl turn)

-- a DMA does the work of the play's
pub log-dma_next : (image : SphereSetup) (p : Sphere) (b : Cursor) → BesideLog image p b → b.now ≡ TurnOfDma → DmaNext image p b
log-dma_next image p b g turn =
    let w : IsWhole (play_of image b p) p b = subst (λ (n : TurnOrEnd). StandsAt b.log (play_of image b p) n p b) (sym g.now ∙ turn) g.state in
    record {
      at = play_of image b p;
      work = commit_work b.log (play_of image b p);
      later = behind image p b;
      none = w.total;
      progress = g.progress;
      used = g.used;
      works = dma_works image p b g turn;
      left = log_left image p b b.now b.total b.loads g (ap is_over turn);
      whole = log_dma_whole image p b g.plain;
    }
