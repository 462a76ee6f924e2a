-- A commit or a piece of a replay pays, with the work that its play then no longer has left, for a new flight and its events.
use Rattle.std.proofs.Common.{◌≡◌, ◌≢◌, ℕ, suc, ◌+◌, ◌-◌, ◌<◌, ◌≤◌, Bool, true, false, ◌++◌, length, Some, refl, sym, ap, ◌∙◌, subst, arith}
use Rattle.std.specs.Prelude.{slice_get, option_map}
use Rattle.std.proofs.lemmas.Bool.{true≢false}
use Rattle.dl_entry.specs.declared.End.{End}
use Rattle.spec_isa.specs.declared.thread.Parts.{Parts}
use Rattle.spec_isa.specs.Runs.{Run, run}
use Rattle.spec_kernel.specs.Devices.{Devices}
use Rattle.spec_play.specs.Progress.{position}
use Rattle.spec_play.specs.Turns.{Turn, Ended}
use Rattle.spec_play.specs.Verdicts.{LogVerdict, Goes, Fails, chunk_verdict}
use Rattle.spec_play.specs.Plays.{with_threads}
use Rattle.spec_strata.specs.Standing.{after_thread}
use Rattle.spec_engine.specs.declared.answers.How.{How}
use Rattle.spec_sphere.specs.sphere.Spheres.{Cursor, Role, Replay, Sphere, limit_of, replays}
use Rattle.spec_sphere.specs.sphere.Commits.{with_commit, turned, joined, by_verdict, replayed_chunk, chunk_in, chunk_moved}
use Rattle.spec_engine.specs.Closing.{is_piece}
use Rattle.spec_protocol.specs.machine.World.{Numbers}
use Rattle.spec_sphere.specs.sphere.Setups.{SphereSetup}
use Rattle.spec_sphere.specs.sphere.Commits.{laid}
use Rattle.spec_protocol.specs.machine.Moves.{ChunkFits}
use Rattle.spec_finishing.specs.Rank.{replay_left, price}
use Rattle.spec_finishing.proofs.Paying.Affording.{Afforded, Enough, Lone}
use Rattle.spec_finishing.proofs.Paying.Plays.{left-over, paid, afford-paid, afford-some, whole-pays, piece-pays}
use Rattle.spec_finishing.proofs.Paying.NextCommits.{ThreadNext}
use Rattle.spec_finishing.proofs.Paying.GoingOn.{part-afforded}
use Rattle.spec_finishing.proofs.Left.Rows.{sphere_rank}
use Rattle.spec_replay.proofs.Commits.Done.{done_in}

-- ---- parts of a commit

part_done : (work total n : ℕ) → Afforded work total n → total + n ≤ work
part_done work total n (Enough l) = omega arith
part_done work total n (Lone none few some) = omega arith

how_most : (how : How) (n limit : ℕ) → (how ≡ How.Limit → n ≡ limit) → (how ≢ How.Limit → n < limit) → n ≤ limit
how_most How.Limit n limit full early = let e = full refl in omega (arith, e)
how_most How.Serial n limit full early = let l = early (λ h. cc) in omega (arith, l)
how_most How.Overflow n limit full early = let l = early (λ h. cc) in omega (arith, l)
how_most How.Cut n limit full early = let l = early (λ h. cc) in omega (arith, l)

how_some : (how : How) (n capacity : ℕ) → 0 < capacity → (how ≡ How.Cut → 0 < n) → (how ≡ How.Overflow → capacity ≤ n) → is_piece how ≡ true → 0 < n
how_some How.Limit n capacity positive cut room e = absurd (true≢false (sym e))
how_some How.Serial n capacity positive cut room e = absurd (true≢false (sym e))
how_some How.Overflow n capacity positive cut room e = let l = room refl in omega (arith, l)
how_some How.Cut n capacity positive cut room e = cut refl

-- ---- what is left before it

-- what a replay with a next commit has left: the price of that and of what comes later, except for the pieces that are done
pub rank-left : (c : ℕ) (image : SphereSetup) (p : Sphere) (b : Cursor) (n : ℕ) → p.role ≡ Replay b → replay_left image b (done_in p) ≡ n → sphere_rank c image p ≡ price c n
rank-left c image p b n role left = (λ i. sphere_rank c image (record p { role = role i })) ∙ ap (price c) left

-- ---- a thread's next commit

-- with c cores, thread k of the replay p of that image, with cursor b, may commit
module _ (c : ℕ) (image : SphereSetup) (p : Sphere) (b : Cursor) (k : ℕ) (role : p.role ≡ Replay b) (h : ThreadNext image p b k) where
  -- a verdict on the whole commit, with what its flight costs, leaves the sphere no more to do than before
  pub verdict-pays : (x : LogVerdict) (devices : Devices) (l : ℕ) → suc b.total ≤ h.work → l ≤ price c (h.work - b.total)
      → sphere_rank c image (laid (by_verdict b k x devices p)) + l ≤ sphere_rank c image p
  verdict-pays (Fails why) devices l some enough =
      let before = rank-left c image p b ((h.work + h.later) - b.total) role h.left in
      let ended : Cursor = record b { now = Ended (End.Diverged (position p.progress) why) } in
      let over = left-over image ended (done_in p) refl in
      let pays = whole-pays c h.work b.total h.later l some enough (replay_left image ended (done_in p)) (omega (arith, over)) in
      omega (arith, before, pays)
  verdict-pays (Goes e u) devices l some enough =
      let before = rank-left c image p b ((h.work + h.later) - b.total) role h.left in
      let progress = with_commit b.strata k e p.progress in
      let after = turned b.log b.interval (option_map (after_thread k) b.strata) progress u (with_threads k e p.threads) in
      let pays = whole-pays c h.work b.total h.later l some enough (replay_left image after (length progress.commits)) (h.whole e u) in
      omega (arith, before, pays)

  -- ---- chunks

  -- a piece
  piece_rank : (r : Run) (n : ℕ) (devices : Devices) → r.n ≡ n → 0 < n → Afforded h.work b.total n
      → sphere_rank c image (laid (replayed_chunk true b k r devices p)) + paid c n ≤ sphere_rank c image p
  piece_rank r n devices is some afford =
      let before = rank-left c image p b ((h.work + h.later) - b.total) role h.left in
      let part : Cursor = record b { now = Turn k; total = b.total + r.n; loads = b.loads ++ r.loads } in
      let after : price c (replay_left image part (done_in p)) ≡ price c ((h.work + h.later) - (b.total + n)) =
      ap (price c) (h.piece r.n (b.loads ++ r.loads) ∙ ap (λ (a : ℕ). (h.work + h.later) - (b.total + a)) is)
      in
      let pays = piece-pays c h.work b.total h.later n (part_done h.work b.total n afford) some in
      omega (arith, before, after, pays)

  part_rank : (piece : Bool) (r : Run) (n : ℕ) (devices : Devices) → r.n ≡ n → (piece ≡ true → 0 < n) → Afforded h.work b.total n
      → sphere_rank c image (laid (replayed_chunk piece b k r devices p)) + paid c n ≤ sphere_rank c image p
  part_rank true r n devices is some afford = piece_rank r n devices is (some refl) afford
  part_rank false r n devices is some afford =
      verdict-pays (chunk_verdict b.log p.progress b.used k (joined b r)) devices (paid c n) (afford-some h.work b.total n afford)
      (afford-paid c h.work b.total n afford)

  -- a chunk of a replay that can be done as its move says
  pub chunk-pays : (z : Numbers) (u : Parts) (how : How) (n limit : ℕ) (short : Bool) (devices : Devices) → 0 < z.capacity → slice_get p.threads k ≡ Some u → ChunkFits z p k u how n limit
      → sphere_rank c image (laid (chunk_moved k (is_piece how) short (run p.memory u n) devices p)) + paid c n ≤ sphere_rank c image p
  unfolding chunk_moved
  chunk-pays z u how n limit short devices positive is fits =
      let limited : limit ≡ limit_of z.s (Replay b) k u = fits.replayed (ap replays role) ∙ ap (λ (r : Role). limit_of z.s r k u) role in
      let most : n ≤ limit_of z.s (Replay b) k u = subst (λ (l : ℕ). n ≤ l) limited (how_most how n limit fits.full fits.early) in
      let afford = part-afforded image p b k u z.s n h is fits.ran most in
      subst (λ (r : Role). sphere_rank c image (laid (chunk_in r k (is_piece how) short (run p.memory u n) devices p)) + paid c n ≤ sphere_rank c image p) (sym role)
      (part_rank (is_piece how) (run p.memory u n) n devices fits.ran (how_some how n z.capacity positive fits.cut fits.room) afford)
