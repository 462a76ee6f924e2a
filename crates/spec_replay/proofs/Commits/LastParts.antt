-- The last part of a commit of a replayed sphere: with the pieces before it, it is the play's next commit.
use Rattle.std.proofs.Common.{◌≡◌, ◌≢◌, ℕ, zero, suc, ◌+◌, ◌<◌, inl, inr, Bool, true, false, Option, Some, None, refl, sym, ap, ◌∙◌, subst, arith}
use Rattle.std.specs.Prelude.{slice_get, max, IsSome}
use Rattle.std.proofs.lemmas.Bool.{true≢false, ltb-true, cases_eq}
use Rattle.dl_entry.specs.declared.Actor.{Actor}
use Rattle.spec_isa.specs.declared.thread.Parts.{Parts}
use Rattle.spec_isa.specs.Runs.{Run, run}
use Rattle.spec_log.specs.declared.LogParts.{LogParts}
use Rattle.spec_log.specs.Size.{size_in}
use Rattle.spec_kernel.specs.Devices.{Devices}
use Rattle.spec_kernel.specs.Needs.{next_kind}
use Rattle.spec_play.specs.Progress.{Progress}
use Rattle.spec_play.specs.Verdicts.{LogVerdict, chunk_verdict}
use Rattle.spec_play.specs.Plays.{Played, size_or_standard, thread_verdict}
use Rattle.spec_engine.specs.declared.answers.How.{How}
use Rattle.spec_sphere.specs.sphere.Spheres.{Cursor, Sphere, whole_limit, is_in_pieces, replays}
use Rattle.spec_engine.specs.Closing.{is_piece}
use Rattle.spec_sphere.specs.sphere.Commits.{joined, replayed_chunk, by_verdict, laid}
use Rattle.spec_protocol.specs.machine.World.{Numbers}
use Rattle.spec_sphere.specs.sphere.Setups.{ReplaySetup}
use Rattle.spec_protocol.specs.machine.Moves.{ChunkFits}
use Rattle.spec_sphere.proofs.Moves.Threads.{run-keeps}
use Rattle.spec_sphere.proofs.PlayingBack.Verdicts.{run-first, run-stops}
use Rattle.spec_sphere.proofs.PlayingBack.Sizes.{size_by, size-is, limit_by, limit-is, not-serial}
use Rattle.spec_replay.proofs.Commits.Judging.{AreAlike, chunks-alike}
use Rattle.spec_replay.proofs.Commits.Pieces.{IsPart, IsAtCommit, part-is, part-limit, at-commit, piece-reaches}
use Rattle.spec_replay.proofs.Commits.Done.{Reaches, HasTurn, commit-reaches}

-- ---- the last part

-- the verdicts of the machine and of the play
abbrev machine_says : Cursor → Progress → ℕ → Run → LogVerdict
machine_says b p k r = chunk_verdict b.log p b.used k (joined b r)

abbrev play_says : LogParts → Played → ℕ → Parts → (size : ℕ) → LogVerdict
play_says log y k t size = chunk_verdict log y.progress y.used k (run y.memory t size)

turn_says : (log : LogParts) (y : Played) (k : ℕ) (t : Parts) (n : ℕ) → 0 < n → (run y.memory t n).n ≡ n → thread_verdict log y k t (next_kind t y.memory) ≡ play_says log y k t (size_or_standard log k t.commits)
turn_says log y k t n some ran = ap (thread_verdict log y k t) (run-first y.memory t n some ran)

-- a chunk that closes as a piece isn't closed by its limit
pub not_limit : (how : How) → is_piece how ≡ true → how ≢ How.Limit
not_limit How.Limit e = absurd (true≢false (sym e))
not_limit How.Serial e = absurd (true≢false (sym e))
not_limit How.Overflow e = λ h. cc
not_limit How.Cut e = λ h. cc

-- it is the turn of thread k, which is t in the play
module _ (asked : ReplaySetup) (start y : Played) (p : Sphere) (b : Cursor) (k : ℕ) (t : Parts) (h : HasTurn asked start y p b k t) where
  says_same : (r : Run) → machine_says b p.progress k r ≡ chunk_verdict asked.log y.progress y.used k (joined b r)
  says_same r = (λ i. chunk_verdict (h.beside.same_log i) (h.beside.progress i) (h.beside.used i) k (joined b r))

  -- a part of the commit, which began as u and ran n instructions
  module _ (u : Parts) (n : ℕ) (r : Run) (part : IsPart y k t u p b n r) where
    whole_run : record (joined b r) { words = (run y.memory t (b.total + n)).words } ≡ run y.memory t (b.total + n)
    whole_run =
        let size : b.total + r.n ≡ (run y.memory t (b.total + n)).n = (let a = part.size in let c = part.ran in omega arith) in
        (λ i. record { thread = part.thread i; words = (run y.memory t (b.total + n)).words; loads = part.loads i; n = size i })

    run_says : (size : ℕ) → run y.memory t size ≡ run y.memory t (b.total + n) → AreAlike p.memory y.memory (chunk_verdict asked.log y.progress y.used k (joined b r)) (play_says asked.log y k t size)
    run_says size same =
        rw same (chunks-alike p.memory y.memory asked.log y.progress y.used k (joined b r) (run y.memory t (b.total + n)) whole_run part.memory)

    size_says : (o : Option ℕ) → size_in asked.log (Actor.Thread k) t.commits ≡ o → run y.memory t (limit_by o asked.log.s) ≡ run y.memory t (b.total + n)
        → AreAlike p.memory y.memory (chunk_verdict asked.log y.progress y.used k (joined b r)) (play_says asked.log y k t (size_by o asked.log.s))
    size_says None is same = run_says asked.log.s same
    size_says (Some zero) is same =
        let mine = not-serial asked.log y.progress y.used k t.commits (joined b r) (ap (λ (x : Parts). x.commits) part.thread ∙ run-keeps y.memory t (b.total + n)) is in
        let plays_ = not-serial asked.log y.progress y.used k t.commits (run y.memory t 0) refl is in
        rw (mine, plays_) refl
    size_says (Some (suc z)) is same =
        let e : max 1 (suc z) ≡ suc z = omega arith in
        run_says (suc z) (ap (run y.memory t) (sym e) ∙ same)

    last-alike : run y.memory t (whole_limit asked.log k t.commits) ≡ run y.memory t (b.total + n) → AreAlike p.memory y.memory (machine_says b p.progress k r) (play_says asked.log y k t (size_or_standard asked.log k t.commits))
    last-alike same =
        rw (says_same r, size-is asked.log k t.commits)
        (size_says (size_in asked.log (Actor.Thread k) t.commits) refl (ap (run y.memory t) (sym (limit-is asked.log k t.commits)) ∙ same))

    -- the part that the commit ends with leaves the sphere in its log's play
    last-reaches : (devices : Devices) → 0 < b.total + n → run y.memory t (whole_limit asked.log k t.commits) ≡ run y.memory t (b.total + n) → Reaches asked start (laid (by_verdict b k (machine_says b p.progress k r) devices p))
    last-reaches devices some same =
        commit-reaches asked start y p b k t h (machine_says b p.progress k r) (play_says asked.log y k t (size_or_standard asked.log k t.commits)) devices (turn_says asked.log y k t (b.total + n) some part.ran) (last-alike same)

  -- ---- a chunk, by how it was closed

  -- at its limit the commit has all its instructions; and if a serial one comes next, it has all that it can have
  all_ran : (z : Numbers) (u : Parts) (how : How) (n limit : ℕ) → IsPart y k t u p b n (run p.memory u n) → ChunkFits z p k u how n limit → b.total + limit ≡ whole_limit asked.log k t.commits → is_piece how ≡ false
      → run y.memory t (whole_limit asked.log k t.commits) ≡ run y.memory t (b.total + n)
  all_ran z u How.Limit n limit part f limited last =
      ap (run y.memory t) (sym limited ∙ ap (λ (x : ℕ). b.total + x) (sym (f.full refl)))
  all_ran z u How.Serial n limit part f limited last =
      run-stops y.memory t (b.total + n) (whole_limit asked.log k t.commits)
      (let l = f.early (λ e. cc) in omega arith)
      (subst IsSome (λ i. next_kind (part.thread i) (part.memory i)) (f.serial refl))
  all_ran z u How.Overflow n limit part f limited last = absurd (true≢false last)
  all_ran z u How.Cut n limit part f limited last = absurd (true≢false last)

  some_ran : (z : Numbers) (u : Parts) (how : How) (n limit : ℕ) → ChunkFits z p k u how n limit → is_piece how ≡ false → 0 < b.total + n
  some_ran z u How.Limit n limit f last = let a = f.full refl in let c = f.positive in omega arith
  some_ran z u How.Serial n limit f last =
      elim (cases_eq n 0) [
        | inl e ↦ (let l : 0 < b.total = ltb-true 0 b.total (ap is_in_pieces (sym h.beside.role) ∙ f.some refl e) in omega arith)
        | inr ne ↦ omega arith
      ]
  some_ran z u How.Overflow n limit f last = absurd (true≢false last)
  some_ran z u How.Cut n limit f last = absurd (true≢false last)

  by_piece : (z : Numbers) (u : Parts) (how : How) (n limit : ℕ) (devices : Devices) (piece : Bool) → is_piece how ≡ piece → IsPart y k t u p b n (run p.memory u n) → ChunkFits z p k u how n limit → b.total + limit ≡ whole_limit asked.log k t.commits
      → Reaches asked start (laid (replayed_chunk piece b k (run p.memory u n) devices p))
  by_piece z u how n limit devices true kind part f limited =
      piece-reaches asked start y p b k t h u n (run p.memory u n) devices part (let l = f.early (not_limit how kind) in omega arith)
  by_piece z u how n limit devices false kind part f limited =
      last-reaches u n (run p.memory u n) part devices (some_ran z u how n limit f kind) (all_ran z u how n limit part f limited kind)

  -- a chunk of the thread leaves the sphere in its log's play
  pub chunk-reaches : (z : Numbers) (u : Parts) (how : How) (n limit : ℕ) (devices : Devices) → slice_get p.threads k ≡ Some u → ChunkFits z p k u how n limit → Reaches asked start (laid (replayed_chunk (is_piece how) b k (run p.memory u n) devices p))
  chunk-reaches z u how n limit devices there f =
      let at_ : IsAtCommit asked.log y p b k t = at-commit asked start y p b k t h in
      let part : IsPart y k t u p b n (run p.memory u n) = part-is asked.log y p b k t at_ u n there f.ran in
      let limited : b.total + limit ≡ whole_limit asked.log k t.commits = part-limit asked.log y p b k t at_ z u limit part.commits (f.replayed (ap replays h.beside.role)) in
      by_piece z u how n limit devices (is_piece how) refl part f limited
