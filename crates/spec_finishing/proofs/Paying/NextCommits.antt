-- What the next commit of a replay has to do, and what is left after it.
use Rattle.std.proofs.Common.{◌≡◌, ℕ, suc, ◌+◌, ◌-◌, ◌≤◌, List, length, Some}
use Rattle.std.specs.Prelude.{option_map}
use Rattle.spec_isa.specs.declared.thread.Parts.{Parts}
use Rattle.spec_isa.specs.declared.thread.Load.{Load}
use Rattle.spec_play.specs.Effects.{Effect}
use Rattle.spec_play.specs.Progress.{with_dma, with_dma_used}
use Rattle.spec_play.specs.declared.used.Used.{Used}
use Rattle.spec_play.specs.Turns.{Turn}
use Rattle.spec_play.specs.Transfers.{dma_verdict}
use Rattle.spec_play.specs.Plays.{Played, with_threads}
use Rattle.spec_strata.specs.Standing.{after_thread, after_dma}
use Rattle.spec_sphere.specs.sphere.Spheres.{Cursor, Sphere, pieces_of}
use Rattle.spec_sphere.specs.sphere.Commits.{with_commit, turned}
use Rattle.spec_sphere.specs.sphere.Setups.{SphereSetup}
use Rattle.spec_replay.specs.Following.{IsMovedOn}
use Rattle.spec_replay.proofs.Commits.Done.{done_in}
use Rattle.spec_finishing.specs.Work.{dma_stored, turn_work}
use Rattle.spec_finishing.specs.Rank.{replay_left}

-- the next commit of thread k in replay p of that image, with cursor b: it does this work, and there is as much later
pub record ThreadNext (image : SphereSetup) (p : Sphere) (b : Cursor) (k : ℕ) : Type 0 where
  -- where the play is, and the thread there
  pub at : Played
  pub thread : Parts
  pub work : ℕ
  pub later : ℕ
  -- the thread has run the pieces, which are its own
  pub moved : IsMovedOn b.log at k thread p b
  pub own : pieces_of b.now k b.total ≡ b.total
  pub progress : p.progress ≡ at.progress
  pub used : b.used ≡ at.used
  pub works : work ≡ turn_work b.log at k (Some thread)
  -- what is left: this commit and what comes after it, except for the pieces; with one more piece less by that; and once the
  -- commit is whole no more than what comes after it
  pub left : replay_left image b (done_in p) ≡ (work + later) - b.total
  pub piece : (n : ℕ) (loads : List Load)
      → replay_left image (record b { now = Turn k; total = b.total + n; loads = loads }) (done_in p) ≡ (work + later) - (b.total + n)
  pub whole : (e : Effect) (u : Used) → let progress = with_commit b.strata k e p.progress in
      replay_left image (turned b.log b.interval (option_map (after_thread k) b.strata) progress u (with_threads k e p.threads)) (length progress.commits) ≤ later

-- the DMA whose turn it is
pub record DmaNext (image : SphereSetup) (p : Sphere) (b : Cursor) : Type 0 where
  pub at : Played
  pub work : ℕ
  pub later : ℕ
  pub none : b.total ≡ 0
  pub progress : p.progress ≡ at.progress
  pub used : b.used ≡ at.used
  pub works : work ≡ suc (dma_stored (dma_verdict b.log at.progress at.used))
  pub left : replay_left image b (done_in p) ≡ (work + later) - b.total
  pub whole : let progress = with_dma p.progress in
      replay_left image (turned b.log b.interval (option_map after_dma b.strata) progress (with_dma_used b.used) p.threads) (length progress.commits) ≤ later
