-- A verdict is found step by step: by the logged size, by what is given, and by what stands at the end.
use Rattle.std.proofs.Common.{◌≡◌, ℕ, true, false, List, Option, Some, None, slice_get, refl, ap, sym, ◌∙◌}
use Rattle.dl_entry.specs.declared.actor.Actor.{Actor}
use Rattle.dl_entry.specs.declared.input.Request.{Request}
use Rattle.dl_entry.specs.declared.end.Why.{Why}
use Rattle.spec_isa.specs.declared.thread.Parts.{Parts}
use Rattle.spec_isa.specs.Runs.{Run}
use Rattle.spec_log.specs.declared.log.LogParts.{LogParts}
use Rattle.spec_log.specs.Size.{size_in}
use Rattle.spec_kernel.specs.Needs.{need}
use Rattle.spec_log.specs.declared.records.DmaRecord.{DmaRecord}
use Rattle.spec_kernel.specs.Copies.{dma_words}
use Rattle.spec_kernel.specs.Serving.{StepResult, serve}
use Rattle.spec_play.specs.Effects.{chunk_effect, serial_effect}
use Rattle.spec_play.specs.Progress.{Progress, position}
use Rattle.spec_play.specs.declared.used.Used.{Used}
use Rattle.spec_play.specs.Verdicts.{LogVerdict, Fails, TakenRecord, unless, ended, chunk_why, chunk_verdict, serial_why, given, served_verdict, serial_verdict}
use Rattle.spec_play.specs.Transfers.{DmaGoes, DmaFails, dma_unless, is_for, transferred, dma_verdict}

-- The next commit of the play with this log, which is as far as this progress and has used so much, is one of thread k.
module _ (log : LogParts) (p : Progress) (u : Used) (k : ℕ) where
  -- a chunk is judged by its logged size, and then by what the log has at its end
  pub chunk-is : (r : Run) (t : Parts) (n : ℕ) (why : Option Why) → r.thread ≡ t → r.n ≡ n
      → why ≡ chunk_why (size_in log (Actor.Thread k) t.commits) n → chunk_verdict log p u k r ≡ unless why (ended log k (chunk_effect k p.request r) u)
  unfolding chunk_verdict
  chunk-is r t n why h l e =
      ap (λ (w : Option Why). unless w (ended log k (chunk_effect k p.request r) u))
      (ap (λ (x : Parts). chunk_why (size_in log (Actor.Thread k) x.commits) r.n) h ∙ ap (chunk_why (size_in log (Actor.Thread k) t.commits)) l ∙ sym e)

  -- It is a serial step of that thread, which is t among these threads, over the memory m.
  module _ (threads : List Parts) (t : Parts) (m : List ℕ) where
    -- a serial step is judged by its logged size, and then by what it is given
    pub serial-is : (why : Option Why) (g : Option TakenRecord)
        → why ≡ serial_why (size_in log (Actor.Thread k) t.commits) → g ≡ given (need t m) (slice_get log.inputs u.inputs) u
        → serial_verdict log p u k threads t m ≡ unless why (served_verdict log p k threads t m g)
    unfolding serial_verdict
    serial-is why g e f = rw (e, f) refl

    -- a serial step that its logged size refuses fails for that reason
    pub refused-is : (why : Why) → Some why ≡ serial_why (size_in log (Actor.Thread k) t.commits) → serial_verdict log p u k threads t m ≡ Fails why
    unfolding serial_verdict
    refused-is why e = rw (← e) refl

    -- a serial step that is done with the input that the log gives has the verdict of the definitions
    pub step-is : (request : Option Request) (g : TakenRecord) (left : StepResult) (out : LogVerdict)
        → p.request ≡ request → None ≡ serial_why (size_in log (Actor.Thread k) t.commits) → Some g ≡ given (need t m) (slice_get log.inputs u.inputs) u
        → left ≡ serve log.threads k threads request t m g.input → out ≡ ended log k (serial_effect k left) g.used → out ≡ serial_verdict log p u k threads t m
    step-is request g left out q e f l o =
        o ∙ ap (λ (v : StepResult). ended log k (serial_effect k v) g.used) (l ∙ ap (λ (x : Option Request). serve log.threads k threads x t m g.input) (sym q))
        ∙ sym (serial-is None (Some g) e f)

-- a DMA is judged by its logged size, and then by the request and its record
pub dma-is : (log : LogParts) (p : Progress) (u : Used) (done : ℕ) (request : Option Request) (why : Option Why) → position p ≡ done → p.request ≡ request
    → why ≡ serial_why (size_in log Actor.Dma done) → dma_verdict log p u ≡ dma_unless why (transferred done request (slice_get log.dmas u.dmas))
unfolding dma_verdict
dma-is log p u done request why d q e = rw (d, q, e) refl

-- without a request no DMA goes
pub no-request : (i : ℕ) (request : Option Request) (next : Option DmaRecord) → request ≡ None → transferred i request next ≡ DmaFails Why.Dma
no-request i request next e = rw e refl

-- without a record no DMA goes
pub no-record : (i : ℕ) (request : Option Request) (next : Option DmaRecord) → next ≡ None → transferred i request next ≡ DmaFails Why.Dma
no-record i None next e = refl
no-record i (Some q) next e = rw e refl

-- with a record that isn't for the request no DMA goes
pub misfit : (i : ℕ) (request : Option Request) (next : Option DmaRecord) (q : Request) (d : DmaRecord) → request ≡ Some q → next ≡ Some d → is_for i q d ≡ false
    → transferred i request next ≡ DmaFails Why.Dma
misfit i request next q d e f h = rw (e, f, h) refl

-- with a record that is for the request a DMA goes, and stores the record's bytes
pub fitting : (i : ℕ) (request : Option Request) (next : Option DmaRecord) (q : Request) (d : DmaRecord) → request ≡ Some q → next ≡ Some d → is_for i q d ≡ true
    → transferred i request next ≡ DmaGoes (dma_words q d.bytes)
fitting i request next q d e f h = rw (e, f, h) refl
