-- A chunk of a sphere that is replayed in strata: a piece, or with the pieces before it the thread's next commit of the stratum.
use Rattle.std.proofs.Common.{◌≡◌, ℕ, zero, suc, ◌+◌, ◌<◌, inl, inr, Bool, true, false, List, ◌∷◌, ◌++◌, Option, Some, None, refl, sym, ap, ◌∙◌, subst, arith}
use Rattle.std.specs.Prelude.{slice_get}
use Rattle.std.proofs.lemmas.Bool.{true≢false, cases_eq}
use Rattle.dl_entry.specs.declared.Actor.{Actor}
use Rattle.dl_entry.specs.declared.CommitKind.{CommitKind}
use Rattle.dl_entry.specs.declared.Why.{Why}
use Rattle.spec_isa.specs.declared.thread.Parts.{Parts}
use Rattle.spec_isa.specs.Words.{lays}
use Rattle.spec_isa.specs.Runs.{Run, run}
use Rattle.spec_log.specs.declared.LogParts.{LogParts}
use Rattle.spec_log.specs.Size.{size_in}
use Rattle.spec_kernel.specs.Devices.{Devices}
use Rattle.spec_play.specs.Turns.{Turn}
use Rattle.spec_play.specs.Verdicts.{LogVerdict, Goes, Fails, chunk_verdict}
use Rattle.spec_play.specs.Plays.{Played, plays, size_or_standard, with_threads}
use Rattle.spec_play.proofs.Going.{Lives}
use Rattle.spec_strata.specs.declared.stratum.Stratum.{Stratum}
use Rattle.spec_strata.specs.declared.stratum.Stratum.TheVariants.{Chunks}
use Rattle.spec_strata.specs.declared.strata.StrataParts.{StrataParts}
use Rattle.spec_strata.specs.Canonical.{rising, canonical}
use Rattle.spec_strata.specs.Shares.{alone, bump}
use Rattle.spec_strata.specs.InPlay.{rule_of, ChunkGoes, in_stratum}
use Rattle.spec_strata.specs.Pieces.{last_part, LastPartGoes}
use Rattle.spec_strata.specs.Standing.{Standing}
use Rattle.spec_strata.proofs.Shares.Steps.{same_some}
use Rattle.spec_strata.proofs.Plays.Canonical.{like_refl}
use Rattle.spec_strata.proofs.Plays.Strata.{GoodAt, checked-stratum, strata_step}
use Rattle.spec_strata.proofs.Plays.LastParts.{last_parts_go}
use Rattle.spec_strata.proofs.Making.Counting.{live-of}
use Rattle.spec_strata.proofs.Images.Following.{IsBy, chunk-by}
use Rattle.spec_engine.specs.declared.answers.How.{How}
use Rattle.spec_sphere.specs.sphere.Spheres.{Cursor, Sphere, whole_limit, is_in_pieces, replays}
use Rattle.spec_sphere.specs.sphere.Commits.{with_commit, joined, piece_moved, replayed_chunk, by_verdict, laid}
use Rattle.spec_engine.specs.Closing.{is_piece}
use Rattle.spec_protocol.specs.machine.World.{Numbers}
use Rattle.spec_sphere.specs.sphere.Setups.{SphereSetup}
use Rattle.spec_protocol.specs.machine.Moves.{ChunkFits}
use Rattle.spec_sphere.proofs.Moves.Threads.{run-keeps}
use Rattle.spec_sphere.proofs.Moves.Joining.{MayGo}
use Rattle.spec_sphere.proofs.PlayingBack.Verdicts.{run-stops}
use Rattle.spec_sphere.proofs.PlayingBack.Sizes.{size_by, size-is, limit_by, limit-is, not-serial}
use Rattle.spec_play.proofs.Local.Joining.{rest_of}
use Rattle.spec_replay.proofs.Commits.LastParts.{not_limit}
use Rattle.spec_replay.proofs.Commits.Pieces.{IsPart, IsAtCommit, rest-is, part-is, part-limit, moved_piece}
use Rattle.spec_strata.proofs.Standing.Counts.{count_at, counts-rising}
use Rattle.spec_replay.proofs.Strata.Places.{progress-placed}
use Rattle.spec_strata.proofs.Standing.Living.{thread-at, lives-at, turns-alive}
use Rattle.spec_replay.proofs.Strata.Coming.{Comes, opened_by, few-bumped, only-done, chunk-next}
use Rattle.spec_replay.proofs.Strata.Going.{IsThere, ComesTo, goes-comes, commit-of}

-- ---- sizes

goes-fails : {A : Type 0} (v : LogVerdict) (why : Why) → v ≡ Fails why → (e : _) (u : _) → v ≡ Goes e u → A
goes-fails v why f e u g = let h : Fails why ≡ Goes e u = sym f ∙ g in cc

limit-by : (o : Option ℕ) (s : ℕ) → (o ≡ Some 0 → ⊥) → limit_by o s ≡ size_by o s
limit-by None s ne = refl
limit-by (Some zero) s ne = absurd (ne refl)
limit-by (Some (suc n)) s ne = omega arith

-- a chunk that goes may run as many instructions as it has
limit-size : (log : LogParts) (y : Played) (k : ℕ) (c : ChunkGoes log y k) → whole_limit log k c.thread.commits ≡ size_or_standard log k c.thread.commits
limit-size log y k c =
    let t : Parts = c.thread in
    let r : Run = run y.memory t (size_or_standard log k t.commits) in
    limit-is log k t.commits
    ∙ limit-by (size_in log (Actor.Thread k) t.commits) log.s
    (λ serial. goes-fails (chunk_verdict log y.progress y.used k r) Why.NotSerial (not-serial log y.progress y.used k t.commits r (run-keeps y.memory t (size_or_standard log k t.commits)) serial) c.effect c.used c.goes)
    ∙ sym (size-is log k t.commits)

-- ---- how a chunk was closed

-- a piece has instructions
piece-some : (z : Numbers) (p : Sphere) (k : ℕ) (u : Parts) (how : How) (n limit : ℕ) → 0 < z.capacity → is_piece how ≡ true → ChunkFits z p k u how n limit → 0 < n
piece-some z p k u How.Limit n limit some e f = absurd (true≢false (sym e))
piece-some z p k u How.Serial n limit some e f = absurd (true≢false (sym e))
piece-some z p k u How.Overflow n limit some e f = let l = f.room refl in omega (arith, l, some)
piece-some z p k u How.Cut n limit some e f = f.cut refl

-- so has each chunk before which there are no pieces
pub some-ran : (z : Numbers) (p : Sphere) (k : ℕ) (u : Parts) (how : How) (n limit : ℕ) → 0 < z.capacity → is_in_pieces p.role ≡ false → ChunkFits z p k u how n limit → 0 < n
some-ran z p k u How.Limit n limit some none f = let a = f.full refl in let l = f.positive in omega (arith, a, l)
some-ran z p k u How.Serial n limit some none f =
    elim (cases_eq n 0) [
      | inl e ↦ absurd (true≢false (sym (f.some refl e) ∙ none))
      | inr ne ↦ omega (arith, ne)
    ]
some-ran z p k u How.Overflow n limit some none f = let l = f.room refl in omega (arith, l, some)
some-ran z p k u How.Cut n limit some none f = f.cut refl

-- the last part runs all that it may
all-run : (z : Numbers) (p : Sphere) (k : ℕ) (u : Parts) (how : How) (n limit : ℕ) → is_piece how ≡ false → ChunkFits z p k u how n limit → run p.memory u n ≡ run p.memory u limit
all-run z p k u How.Limit n limit e f = ap (run p.memory u) (f.full refl)
all-run z p k u How.Serial n limit e f = sym (run-stops p.memory u n limit (let l = f.early (λ h. cc) in omega (arith, l)) (f.serial refl))
all-run z p k u How.Overflow n limit e f = absurd (true≢false e)
all-run z p k u How.Cut n limit e f = absurd (true≢false e)

-- ---- a chunk of the present stratum

module _ (v : StrataParts) (image : SphereSetup) (counts : List ℕ) (xs : List Stratum) (ds : List ℕ) (n : ℕ) (s : 0 < v.s) (c : Comes v image (record { strata = Chunks counts ∷ xs; done = ds; before = n })) (k : ℕ) (left : count_at ds k < count_at counts k) where
  abbrev log_of : LogParts
  log_of = canonical v

  abbrev start_of : Played
  start_of = plays (canonical v) (opened_by v image) n

  abbrev here : Played
  here = in_stratum (canonical v) (plays (canonical v) (opened_by v image) n) (count_at ds)

  pub good : GoodAt log_of start_of k (count_at ds k)
  good =
      let e = counts-rising counts k in
      (checked-stratum log_of start_of (rising 0 counts) s c.goes.1.0).good k (count_at ds k) (omega (arith, e, left))

  -- the thread within the stratum
  abbrev thread_of : Parts
  thread_of = (alone (rule_of log_of k) start_of.memory good.thread (count_at ds k)).thread

  pub thread-there : slice_get here.threads k ≡ Some thread_of
  thread-there = thread-at log_of start_of (count_at ds) k good.thread good.there

  -- it lives
  pub thread-lives : Lives here.threads k
  thread-lives =
      let e = counts-rising counts k in
      lives-at log_of start_of (count_at ds) k
      (record {
        thread = good.thread;
        is = good.there;
        live = live-of start_of (rising 0 counts) k (turns-alive log_of start_of (rising 0 counts) c.looked c.goes.1.0.go c.goes.1.1) (omega (arith, e, left)) good.thread good.there;
      })

  pub chunk-goes : ChunkGoes log_of here k
  chunk-goes = (strata_step log_of start_of here (rising 0 counts) (count_at ds) k s c.goes.1.0 (few-bumped v image counts xs ds n s c k left) (like_refl here)).goes

  whole-size : whole_limit log_of k thread_of.commits ≡ size_or_standard log_of k thread_of.commits
  whole-size =
      let same : chunk-goes.thread ≡ thread_of = same_some _ _ (sym chunk-goes.there ∙ thread-there) in
      subst (λ (t : Parts). whole_limit log_of k t.commits ≡ size_or_standard log_of k t.commits) same (limit-size log_of here k chunk-goes)

  -- the sphere is at a commit of the thread
  module _ (p : Sphere) (b : Cursor) (a : IsThere log_of here (record { strata = Chunks counts ∷ xs; done = ds; before = n }) p b) (h : IsAtCommit log_of here p b k thread_of) where
    goes : (limit : ℕ) → b.total + limit ≡ whole_limit log_of k thread_of.commits → LastPartGoes log_of start_of here (count_at ds) k (run here.memory thread_of b.total) (rest_of here.memory (run here.memory thread_of b.total) limit)
    goes limit sum =
        last_parts_go log_of start_of here (rising 0 counts) (count_at ds) k b.total limit good.thread s c.goes.1.0 good.there
        (few-bumped v image counts xs ds n s c k left) (like_refl here) (sum ∙ whole-size)

    -- with the last part the thread has one commit more
    last-comes : (u : Parts) (limit : ℕ) (w : Run) (devices : Devices) → slice_get p.threads k ≡ Some u → w ≡ run p.memory u limit → b.total + limit ≡ whole_limit log_of k thread_of.commits
        → ComesTo v image (laid (by_verdict b k (chunk_verdict b.log p.progress b.used k (joined b w)) devices p))
    last-comes u limit w devices there is sum =
        let x : Standing = record { strata = Chunks counts ∷ xs; done = ds; before = n } in
        let r : Run = run here.memory thread_of b.total in
        let part : Run = rest_of here.memory r limit in
        let l : LastPartGoes log_of start_of here (count_at ds) k r part = goes limit sum in
        let runs : w ≡ part = is ∙ sym (rest-is log_of here p b k thread_of h u limit there) in
        let same : joined b w ≡ last_part r part =
        (λ i. record { thread = (runs i).thread; words = (runs i).words; loads = h.moved.loads i ++ (runs i).loads; n = sym h.moved.ran i + (runs i).n }) in
        let verdict : chunk_verdict b.log p.progress b.used k (joined b w) ≡ Goes l.effect l.used =
        (λ i. chunk_verdict (a.same_log i) (a.progress i) (a.used i) k (same i)) ∙ l.goes in
        let actor = (subst (IsBy k CommitKind.Chunk) l.goes (chunk-by log_of here.progress here.used k (last_part r part))).0 in
        subst (λ (o : LogVerdict). ComesTo v image (laid (by_verdict b k o devices p))) (sym verdict)
        (goes-comes v image here x (in_stratum log_of start_of (bump (count_at ds) k)) p b k l.effect l.used devices a (chunk-next v image counts xs ds n s c k left)
        (ap (with_commit (Some x) k l.effect) a.progress
        ∙ progress-placed log_of start_of x k l.effect
        (record { before = sym c.commits; only = only-done v image counts xs ds n s c k left; actor = actor; placed = l.commits; request = l.request }))
        l.same_used
        (ap (λ (m : List ℕ). lays m l.effect.words) h.moved.memory ∙ l.memory)
        (ap (with_threads k l.effect) h.moved.threads ∙ l.threads))

    piece-comes : (u : Parts) (m : ℕ) (w : Run) (devices : Devices) → 0 < m → IsPart here k thread_of u p b m w → b.total + m < whole_limit log_of k thread_of.commits → ComesTo v image (laid (piece_moved b k w devices p))
    piece-comes u m w devices some part within =
        let x : Standing = record { strata = Chunks counts ∷ xs; done = ds; before = n } in
        let more : 0 < b.total + w.n = (let e = part.size in omega (arith, e, some)) in
        record {
          cursor = record b { now = Turn k; total = b.total + w.n; loads = b.loads ++ w.loads };
          standing = x;
          comes = c;
          is = record {
            role = refl;
            same_log = a.same_log;
            whole = a.whole;
            there = a.there;
            progress = a.progress;
            used = a.used;
            state = inr (k, record { thread = thread_of; moved = moved_piece log_of here p b k thread_of h u m w devices part within; some = more; turn = refl; left = left });
            now = λ none. absurd (omega (arith, more, none));
          };
        }

    by-piece : (z : Numbers) (u : Parts) (how : How) (m limit : ℕ) (devices : Devices) (piece : Bool) → is_piece how ≡ piece → 0 < z.capacity → slice_get p.threads k ≡ Some u → IsPart here k thread_of u p b m (run p.memory u m) → ChunkFits z p k u how m limit
        → b.total + limit ≡ whole_limit log_of k thread_of.commits → ComesTo v image (laid (replayed_chunk piece b k (run p.memory u m) devices p))
    by-piece z u how m limit devices true kind some there part f sum =
        piece-comes u m (run p.memory u m) devices (piece-some z p k u how m limit some kind f) part (let l = f.early (not_limit how kind) in omega (arith, l, sum))
    by-piece z u how m limit devices false kind some there part f sum =
        last-comes u limit (run p.memory u m) devices there (all-run z p k u how m limit kind f) sum

  -- a chunk of a thread that has some left
  pub chunk-comes : (p : Sphere) (b : Cursor) → IsThere log_of here (record { strata = Chunks counts ∷ xs; done = ds; before = n }) p b → MayGo b k → (z : Numbers) (u : Parts) (how : How) (m limit : ℕ) (devices : Devices) → 0 < z.capacity → slice_get p.threads k ≡ Some u → ChunkFits z p k u how m limit
      → ComesTo v image (laid (replayed_chunk (is_piece how) b k (run p.memory u m) devices p))
  chunk-comes p b a may z u how m limit devices some there f =
      let x : Standing = record { strata = Chunks counts ∷ xs; done = ds; before = n } in
      let o = commit-of log_of here x p b a k s may thread-lives in
      let h : IsAtCommit log_of here p b k thread_of = subst (IsAtCommit log_of here p b k) (same_some _ _ (sym o.1.moved.is ∙ thread-there)) o.1 in
      let part : IsPart here k thread_of u p b m (run p.memory u m) = part-is log_of here p b k thread_of h u m there f.ran in
      let sum : b.total + limit ≡ whole_limit log_of k thread_of.commits = part-limit log_of here p b k thread_of h z u limit part.commits (f.replayed (ap replays a.role)) in
      by-piece p b a h z u how m limit devices (is_piece how) refl some there part f sum
