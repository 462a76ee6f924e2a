-- A replay in strata that goes on: what the next commit of each thread that may commit does, or the DMA.
use Rattle.std.proofs.Common.{◌≡◌, ℕ, ◌+◌, ◌<◌, ◌≤◌, false, List, length, Some, None, refl, sym, ◌∙◌, subst, arith}
use Rattle.spec_isa.specs.declared.thread.Load.{Load}
use Rattle.spec_play.specs.Progress.{position, with_dma, with_dma_used}
use Rattle.spec_play.specs.declared.used.Used.{Used}
use Rattle.spec_play.specs.Turns.{TurnOrEnd, Turn, TurnOfDma}
use Rattle.spec_play.specs.Plays.{with_threads}
use Rattle.spec_strata.specs.declared.strata.StrataParts.{StrataParts}
use Rattle.spec_strata.specs.Canonical.{canonical}
use Rattle.spec_strata.specs.Standing.{Standing, after_thread, after_dma}
use Rattle.spec_sphere.specs.sphere.Spheres.{Cursor, Replay, Sphere, is_over}
use Rattle.spec_sphere.specs.sphere.Commits.{with_commit, now_by, between}
use Rattle.spec_sphere.specs.sphere.Setups.{SphereSetup}
use Rattle.spec_sphere.proofs.Moves.Joining.{MayGo}
use Rattle.spec_replay.specs.InStrata.{stratum_at}
use Rattle.spec_replay.proofs.Commits.Done.{done_in}
use Rattle.spec_replay.proofs.Strata.Coming.{Comes}
use Rattle.spec_replay.proofs.Strata.Going.{IsThere, ComesTo, who-goes, dma-goes, commit-of}
use Rattle.spec_finishing.specs.Rank.{replay_left}
use Rattle.spec_finishing.proofs.Paying.Plays.{left-going, left-most}
use Rattle.spec_finishing.proofs.Paying.NextCommits.{ThreadNext, DmaNext}
use Rattle.spec_finishing.proofs.Strata.Tasks.{all_left, thread-task, dma-task}

-- the replay p of that image, with cursor b, goes on in strata
pub record InStrata (image : SphereSetup) (p : Sphere) (b : Cursor) : Type 0 where
  pub v : StrataParts
  pub standard : 0 < v.s
  pub x : Standing
  pub comes : Comes v image x
  pub is : IsThere (canonical v) (stratum_at v image x) x p b
  pub going : is_over b.now ≡ false

-- one that has come as far as its cursor says and isn't over
pub in-strata : (v : StrataParts) (image : SphereSetup) (p : Sphere) (b : Cursor) → 0 < v.s → ComesTo v image p → p.role ≡ Replay b → is_over b.now ≡ false → InStrata image p b
in-strata v image p b standard c role going =
    let e : c.cursor ≡ b = (let h : Replay c.cursor ≡ Replay b = sym c.is.role ∙ role in cc) in
    record {
      v = v;
      standard = standard;
      x = c.standing;
      comes = c.comes;
      is = subst (IsThere (canonical v) (stratum_at v image c.standing) c.standing p) e c.is;
      going = going;
    }

-- ---- its cursor

abbrev cursor_in : StrataParts → Standing → Used → TurnOrEnd → (total : ℕ) → List Load → Cursor
cursor_in v x used now total loads =
    record { log = canonical v; interval = None; strata = Some x; used = used; now = now; total = total; loads = loads }

-- a replay that goes on has left what the strata have
in_left : (v : StrataParts) (image : SphereSetup) (x : Standing) (used : Used) (now : TurnOrEnd) (total : ℕ) (loads : List Load) (i : ℕ) → is_over now ≡ false
    → replay_left image (cursor_in v x used now total loads) i ≡ all_left v image x total
in_left v image x used now total loads i going = left-going image (cursor_in v x used now total loads) i going

-- and one after a whole commit no more
in_most : (v : StrataParts) (image : SphereSetup) (x : Standing) (used : Used) (now : TurnOrEnd) (i n : ℕ) → replay_left image (between (canonical v) None (Some x) n used now) i ≤ all_left v image x 0
in_most v image x used now i n = left-most image (between (canonical v) None (Some x) n used now) i

-- ---- its next commit

module _ (v : StrataParts) (image : SphereSetup) (p : Sphere) (x : Standing) (used : Used) (now : TurnOrEnd) (total : ℕ) (loads : List Load) (standard : 0 < v.s) (comes : Comes v image x) (is : IsThere (canonical v) (stratum_at v image x) x p (cursor_in v x used now total loads)) (going : is_over now ≡ false) where
  abbrev b : Cursor
  b = cursor_in v x used now total loads

  thread_in : (k : ℕ) → MayGo b k → ThreadNext image p b k
  thread_in k may =
      let y = stratum_at v image x in
      let t = thread-task v image x p b k standard comes (who-goes (canonical v) y x p b is k may) in
      let m = commit-of (canonical v) y x p b is k standard may t.lives in
      record {
        at = y;
        thread = m.0;
        work = t.task.work;
        later = t.task.later;
        moved = m.1.moved;
        own = m.1.own;
        progress = is.progress;
        used = is.used;
        works = t.works m.0 m.1.moved.is;
        left = in_left v image x used now total loads (done_in p) going ∙ t.task.left total;
        piece = λ n more. in_left v image x used (Turn k) (total + n) more (done_in p) refl ∙ t.task.left (total + n);
        whole = λ e u.
            let progress = with_commit (Some x) k e p.progress in
            let z = after_thread k x in
            let most = in_most v image z u (now_by (Some z) (canonical v) progress u (with_threads k e p.threads)) (length progress.commits) (position progress) in
            let later = t.task.whole in
            omega (arith, most, later);
      }

  dma_in : now ≡ TurnOfDma → DmaNext image p b
  dma_in turn =
      let y = stratum_at v image x in
      let here = dma-goes (canonical v) y x p b is turn in
      let t = dma-task v image x here.1.0 standard comes here.1.1 in
      record {
        at = y;
        work = t.task.work;
        later = t.task.later;
        none = here.0.total;
        progress = is.progress;
        used = is.used;
        works = t.works;
        left = in_left v image x used now total loads (done_in p) going ∙ t.task.left total;
        whole = (
            let progress = with_dma p.progress in
            let u = with_dma_used used in
            let z = after_dma x in
            let most = in_most v image z u (now_by (Some z) (canonical v) progress u p.threads) (length progress.commits) (position progress) in
            let later = t.task.whole in
            omega (arith, most, later)
            );
      }

-- ---- with any cursor

cursor_is : (v : StrataParts) (image : SphereSetup) (x : Standing) (p : Sphere) (b : Cursor) → IsThere (canonical v) (stratum_at v image x) x p b → cursor_in v x b.used b.now b.total b.loads ≡ b
cursor_is v image x p b a =
    (λ i. record {
      log = sym a.same_log i;
      interval = sym a.whole i;
      strata = sym a.there i;
      used = b.used;
      now = b.now;
      total = b.total;
      loads = b.loads;
    })

-- what holds of a replay in strata whose cursor is given by its parts holds of each
by_cursor : (P : Cursor → Type 0) (image : SphereSetup) (p : Sphere) (b : Cursor) → (s : InStrata image p b) → (let c = cursor_in s.v s.x b.used b.now b.total b.loads in IsThere (canonical s.v) (stratum_at s.v image s.x) s.x p c → P c) → P b
by_cursor P image p b s then_ =
    let e = cursor_is s.v image s.x p b s.is in
    subst P e (then_ (subst (IsThere (canonical s.v) (stratum_at s.v image s.x) s.x p) (sym e) s.is))

-- the next commit of a thread that may commit
pub strata-thread_next : (image : SphereSetup) (p : Sphere) (b : Cursor) (k : ℕ) → InStrata image p b → MayGo b k → ThreadNext image p b k
strata-thread_next image p b k s may =
    by_cursor (λ (c : Cursor). MayGo c k → ThreadNext image p c k) image p b s
    (λ is m. thread_in s.v image p s.x b.used b.now b.total b.loads s.standard s.comes is s.going k m) may

-- the DMA whose turn it is
pub strata-dma_next : (image : SphereSetup) (p : Sphere) (b : Cursor) → InStrata image p b → b.now ≡ TurnOfDma → DmaNext image p b
strata-dma_next image p b s turn =
    by_cursor (DmaNext image p) image p b s
    (λ is. dma_in s.v image p s.x b.used b.now b.total b.loads s.standard s.comes is s.going turn)
