-- What a log says of the next DMA.
use Rattle.std.specs.Prelude.{ℕ, Bool, ◌&&◌, nat_eq, nat_le, List, length, slice_get, Option, Some, None, if◌then◌else◌}
use Rattle.dl_entry.specs.declared.Actor.{Actor}
use Rattle.dl_entry.specs.declared.Request.{Request}
use Rattle.dl_entry.specs.declared.Why.{Why}
use Rattle.spec_isa.specs.Words.{Stored}
use Rattle.spec_log.specs.declared.DmaRecord.{DmaRecord}
use Rattle.spec_log.specs.declared.LogParts.{LogParts}
use Rattle.spec_log.specs.Size.{size_in}
use Rattle.spec_kernel.specs.Copies.{dma_words}
use Rattle.spec_play.specs.Progress.{Progress, position}
use Rattle.spec_play.specs.declared.used.Used.{Used}
use Rattle.spec_play.specs.Verdicts.{serial_why}

-- the words that it stores, or the reason why it fails
pub data DmaVerdict : Type 0 where
  DmaGoes : (words : List Stored) → DmaVerdict
  DmaFails : (why : Why) → DmaVerdict

-- the record is for this commit, and no longer than the request
abbrev pub is_for : (index : ℕ) → Request → DmaRecord → Bool
is_for i request dma = nat_eq dma.position i && nat_le (length dma.bytes) request.len

-- the request and the next record must fit
abbrev pub transferred : (index : ℕ) → Option Request → Option DmaRecord → DmaVerdict
transferred i None next = DmaFails Why.Dma
transferred i (Some request) None = DmaFails Why.Dma
transferred i (Some request) (Some dma) =
    if is_for i request dma then DmaGoes (dma_words request dma.bytes) else DmaFails Why.Dma

abbrev pub dma_unless : Option Why → DmaVerdict → DmaVerdict
dma_unless None verdict = verdict
dma_unless (Some why) verdict = DmaFails why

unfoldable pub dma_verdict : LogParts → Progress → Used → DmaVerdict
dma_verdict log p u =
    dma_unless (serial_why (size_in log Actor.Dma (position p)))
    (transferred (position p) p.request (slice_get log.dmas u.dmas))
