-- What a recorder keeps, as a log: by the definitions alone.
use Rattle.std.proofs.Common.{◌≡◌, ℕ, ◌+◌, false, refl, ap}
use Rattle.spec_log.specs.declared.Sizes.{Sizes}
use Rattle.spec_log.specs.Versions.{new_threads}
use Rattle.spec_log.specs.Noting.{order_with, sizes_at}
use Rattle.spec_play.specs.Effects.{dma_commit}
use Rattle.spec_play.specs.Recording.{note_of}
use Rattle.spec_play.specs.Noted.{Recorded, GrowsAlike, RecordersKeepLogs}

-- if each commit has a size, a DMA has one too, whatever its index
dma_sizes : (sizes : Sizes) (i j : ℕ) → sizes_at sizes i (note_of dma_commit false) ≡ sizes_at sizes j (note_of dma_commit false)
dma_sizes (Sizes.Each sizes) i j = refl
dma_sizes (Sizes.Short sizes) i j = refl

-- read as a log, what a recorder keeps grows with each thing that is kept, as a log does in which that is noted
pub grows-alike : (r : Recorded) → GrowsAlike r
grows-alike r =
    record {
      commit = λ c short. refl;
      dma_commit = λ i. ap (λ (z : Sizes). record {
        version = r.version;
        threads = new_threads r.version;
        mode = r.mode;
        s = r.kept.s;
        count = r.kept.count + 1;
        order = order_with r.mode r.kept.order dma_commit.actor;
        sizes = z;
        interrupts = r.interrupts;
        inputs = r.inputs;
        dmas = r.dmas;
      }) (dma_sizes r.kept.sizes 0 i);
      interrupt = λ k i value. refl;
      input = λ input. refl;
      dma = λ position bytes. refl;
    }

-- read as a log, what a recorder keeps begins as a new log and grows as the log does
pub recorders_keep_logs : RecordersKeepLogs
recorders_keep_logs = record { first = λ version mode s. refl; grows = grows-alike }
