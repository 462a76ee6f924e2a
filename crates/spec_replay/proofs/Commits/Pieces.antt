-- A chunk of a replayed sphere as a part of its play's next commit; and a piece, which moves the sphere on in it.
use Rattle.std.proofs.Common.{◌≡◌, ℕ, ◌+◌, ◌-◌, ◌<◌, inl, List, ◌++◌, Some, refl, sym, ap, ◌∙◌, subst, arith, set}
use Rattle.std.specs.Prelude.{slice_get, max}
use Rattle.spec_isa.specs.declared.thread.Parts.{Parts}
use Rattle.spec_isa.specs.declared.thread.Load.{Load}
use Rattle.spec_isa.specs.Words.{lays}
use Rattle.spec_isa.specs.Runs.{Run, run}
use Rattle.spec_kernel.specs.Devices.{Devices}
use Rattle.spec_play.specs.Turns.{TurnOrEnd, Turn}
use Rattle.spec_play.specs.Plays.{Played}
use Rattle.spec_log.specs.declared.LogParts.{LogParts}
use Rattle.spec_sphere.specs.sphere.Spheres.{Cursor, Role, Replay, Sphere, whole_limit, pieces_of, limit_in, limit_of}
use Rattle.spec_sphere.specs.sphere.Commits.{piece_moved, laid}
use Rattle.spec_protocol.specs.machine.World.{Numbers}
use Rattle.spec_sphere.specs.sphere.Setups.{ReplaySetup}
use Rattle.spec_strata.proofs.Shares.Steps.{get-set_same}
use Rattle.spec_sphere.proofs.Moves.Joining.{pieces_own}
use Rattle.spec_sphere.proofs.Moves.Threads.{run-keeps}
use Rattle.spec_replay.specs.Following.{IsMovedOn, StandsAt, Follows}
use Rattle.spec_play.proofs.Local.Joining.{IsJoined, rest_of, run-joined}
use Rattle.spec_replay.proofs.Commits.Standing.{set_twice}
use Rattle.spec_replay.proofs.Commits.Done.{Reaches, HasTurn}

-- ---- a part of a commit

-- the run of a part of n instructions, and with it the commit so far
pub record IsPart (y : Played) (k : ℕ) (t u : Parts) (p : Sphere) (b : Cursor) (n : ℕ) (r : Run) : Type 0 where
  pub commits : u.commits ≡ t.commits
  pub size : r.n ≡ n
  pub ran : (run y.memory t (b.total + n)).n ≡ b.total + n
  pub thread : r.thread ≡ (run y.memory t (b.total + n)).thread
  pub memory : lays p.memory r.words ≡ lays y.memory (run y.memory t (b.total + n)).words
  pub loads : b.loads ++ r.loads ≡ (run y.memory t (b.total + n)).loads

-- ---- limits

limit_left : (a w : ℕ) → a < w → a + max 1 (w - a) ≡ w
limit_left a w l = omega arith

-- ---- within a commit

-- the replay is at a commit of thread k, which is t in the play; the pieces that are done are the thread's own
pub record IsAtCommit (log : LogParts) (y : Played) (p : Sphere) (b : Cursor) (k : ℕ) (t : Parts) : Type 0 where
  pub role : p.role ≡ Replay b
  pub same_log : b.log ≡ log
  pub own : pieces_of b.now k b.total ≡ b.total
  pub moved : IsMovedOn log y k t p b

module _ (log : LogParts) (y : Played) (p : Sphere) (b : Cursor) (k : ℕ) (t : Parts) (h : IsAtCommit log y p b k t) where
  part_from : (u : Parts) (n : ℕ) → u ≡ (run y.memory t b.total).thread → (rest_of y.memory (run y.memory t b.total) n).n ≡ n → IsPart y k t u p b n (rest_of y.memory (run y.memory t b.total) n)
  part_from u n is ran =
      let r : Run = run y.memory t b.total in
      let j : IsJoined y.memory r (rest_of y.memory r n) (run y.memory t (b.total + n)) = run-joined y.memory t b.total n in
      record {
        commits = ap (λ (x : Parts). x.commits) is ∙ run-keeps y.memory t b.total;
        size = ran;
        ran = (let a = j.n in let c = h.moved.ran in omega arith);
        thread = sym j.thread;
        memory = ap (λ (x : List ℕ). lays x (rest_of y.memory r n).words) h.moved.memory ∙ sym j.memory;
        loads = ap (λ (ls : List Load). ls ++ (rest_of y.memory r n).loads) h.moved.loads ∙ sym j.loads;
      }

  -- what the thread runs next goes on from the pieces
  thread-is : (u : Parts) → slice_get p.threads k ≡ Some u → u ≡ (run y.memory t b.total).thread
  thread-is u there =
      let r : Run = run y.memory t b.total in
      let same : Some u ≡ Some r.thread = sym there ∙ ap (λ (ts : List Parts). slice_get ts k) h.moved.threads ∙ get-set_same y.threads k r.thread t h.moved.is in cc

  pub rest-is : (u : Parts) (n : ℕ) → slice_get p.threads k ≡ Some u → rest_of y.memory (run y.memory t b.total) n ≡ run p.memory u n
  rest-is u n there = (λ i. run (sym h.moved.memory i) (sym (thread-is u there) i) n)

  -- what a chunk of the thread ran is a part of the play's next commit
  pub part-is : (u : Parts) (n : ℕ) → slice_get p.threads k ≡ Some u → (run p.memory u n).n ≡ n → IsPart y k t u p b n (run p.memory u n)
  part-is u n there ran =
      let same : rest_of y.memory (run y.memory t b.total) n ≡ run p.memory u n = rest-is u n there in
      subst (IsPart y k t u p b n) same (part_from u n (thread-is u there) (ap (λ (x : Run). x.n) same ∙ ran))

  -- ---- the limit of a part

  -- the instructions of the pieces and the limit of a new part are together the limit of the commit
  pub part-limit : (z : Numbers) (u : Parts) (limit : ℕ) → u.commits ≡ t.commits → limit ≡ limit_of z.s p.role k u → b.total + limit ≡ whole_limit log k t.commits
  unfolding limit_of
  part-limit z u limit commits limited =
      let l : limit ≡ max 1 (whole_limit log k t.commits - b.total) =
      limited ∙ ap (λ (r : Role). limit_in r z.s k u.commits) h.role
      ∙ (λ i. max 1 (whole_limit (h.same_log i) k (commits i) - h.own i))
      in
      ap (λ (n : ℕ). b.total + n) l ∙ limit_left b.total (whole_limit log k t.commits) h.moved.within

  -- ---- a piece

  pub moved_piece : (u : Parts) (n : ℕ) (r : Run) (devices : Devices) → IsPart y k t u p b n r → b.total + n < whole_limit log k t.commits
      → IsMovedOn log y k t (laid (piece_moved b k r devices p)) (record b { now = Turn k; total = b.total + r.n; loads = b.loads ++ r.loads })
  moved_piece u n r devices part within =
      let whole : Run = run y.memory t (b.total + n) in
      let e : run y.memory t (b.total + r.n) ≡ whole = ap (λ (x : ℕ). run y.memory t (b.total + x)) part.size in
      record {
        is = h.moved.is;
        live = h.moved.live;
        ran = ap (λ (x : Run). x.n) e ∙ part.ran ∙ ap (λ (x : ℕ). b.total + x) (sym part.size);
        memory = part.memory ∙ ap (λ (x : Run). lays y.memory x.words) (sym e);
        threads = ap (λ (ts : List Parts). set ts k r.thread) h.moved.threads ∙ set_twice y.threads k _ r.thread ∙ ap (set y.threads k) (part.thread ∙ ap (λ (x : Run). x.thread) (sym e));
        loads = part.loads ∙ ap (λ (x : Run). x.loads) (sym e);
        within = (let l = part.size in omega arith);
      }

-- ---- within a turn

-- it is the turn of thread k, which is t in the play
module _ (asked : ReplaySetup) (start y : Played) (p : Sphere) (b : Cursor) (k : ℕ) (t : Parts) (h : HasTurn asked start y p b k t) where
  pub at-commit : IsAtCommit asked.log y p b k t
  at-commit =
      record {
        role = h.beside.role;
        same_log = h.beside.same_log;
        own = ap (λ (now : TurnOrEnd). pieces_of now k b.total) (h.same ∙ h.turn) ∙ pieces_own k b.total;
        moved = h.moved;
      }

  -- a piece leaves the sphere in its log's play
  pub piece-reaches : (u : Parts) (n : ℕ) (r : Run) (devices : Devices) → IsPart y k t u p b n r → b.total + n < whole_limit asked.log k t.commits → Reaches asked start (laid (piece_moved b k r devices p))
  piece-reaches u n r devices part within =
      let c : Cursor = record b { now = Turn k; total = b.total + r.n; loads = b.loads ++ r.loads } in
      let q : Sphere = laid (piece_moved b k r devices p) in
      let follows : Follows asked y q = record {
        cursor = c;
        role = refl;
        same_log = h.beside.same_log;
        same_interval = h.beside.same_interval;
        progress = h.beside.progress;
        used = h.beside.used;
        now = inl (sym h.turn);
        ended = λ how e. sym h.turn ∙ e;
        state = subst (λ (x : TurnOrEnd). StandsAt asked.log y x q c) (sym h.turn) (t, moved_piece asked.log y p b k t at-commit u n r devices part within);
      }
      in
      record {
        follows = subst (λ (z : Played). Follows asked z q) h.at_ follows;
        within = (let l = h.room in omega arith);
        in_order = h.beside.in_order;
      }
