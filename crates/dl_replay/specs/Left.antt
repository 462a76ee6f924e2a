-- What a serial step or a DMA came to that gives what it left.
use Rattle.std.specs.Prelude.{◌≡◌, ℕ, List, [], length, Option, Some, Result, Ok, Err}
use Rattle.dl_entry.specs.declared.Load.{Load}
use Rattle.dl_entry.specs.declared.Output.{Output}
use Rattle.dl_entry.specs.declared.Request.{Request}
use Rattle.dl_entry.specs.declared.Why.{Why}
use Rattle.dl_wbuf.specs.Buffers.{Words}
use Rattle.spec_isa.specs.Words.{Stored}
use Rattle.spec_kernel.specs.Copies.{dma_words}
use Rattle.spec_play.specs.Verdicts.{LogVerdict, Goes, Fails}
use Rattle.spec_play.specs.Transfers.{DmaVerdict, DmaGoes, DmaFails}
use Rattle.dl_kernel.specs.declared.serving.StepResult.{StepResult}
use Rattle.dl_replay.specs.declared.verdict.Verdict.{Verdict}

abbrev pub verdict_left : Result StepResult Why → Verdict
verdict_left (Ok left) = Verdict.Went
verdict_left (Err why) = Verdict.Diverged why

abbrev pub verdict_stored : Result Words Why → Verdict
verdict_stored (Ok words) = Verdict.Went
verdict_stored (Err why) = Verdict.Diverged why

-- ---- what a serial step serves

-- the words that it stores, and its loads and outputs as accounts tell them
pub record Served : Type 0 where
  pub words : List Stored
  pub loads : List Load
  pub outputs : List Output

abbrev pub nothing_served : Served
nothing_served = record { words = []; loads = []; outputs = [] }

abbrev pub served_left : Result StepResult Why → Served
served_left (Ok left) = record { words = left.words.words; loads = left.loads; outputs = left.outputs }
served_left (Err why) = nothing_served

abbrev pub served_by : LogVerdict → Served
served_by (Goes e u) = record { words = e.words; loads = e.commit.loads; outputs = e.commit.outputs }
served_by (Fails why) = nothing_served

-- ---- the size of a DMA

-- a DMA stores so many bytes, after their number; or the log says why not
pub record Stores (n : ℕ) (request : Option Request) (v : DmaVerdict) : Type 0 where
  pub of : Request
  pub bytes : List ℕ
  pub asked : request ≡ Some of
  pub stored : v ≡ DmaGoes (dma_words of bytes)
  pub size : length bytes ≡ n

abbrev pub SaysSize : Result ℕ Why → Option Request → DmaVerdict → Type 0
SaysSize (Ok n) request v = Stores n request v
SaysSize (Err why) request v = v ≡ DmaFails why
