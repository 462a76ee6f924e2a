-- Plays that differ in the order of commits alone stay so.
use Rattle.std.proofs.Common.{◌≡◌, ℕ, ◌+◌, List, [], ◌∷◌, ◌++◌, length, Option, Some, None, refl, sym, ap, ◌∙◌, subst, arith}
use Rattle.std.specs.Prelude.{slice_get}
use Rattle.std.proofs.lemmas.List.{length-append}
use Rattle.dl_entry.specs.declared.Actor.{Actor}
use Rattle.dl_entry.specs.declared.Commit.{Commit}
use Rattle.dl_entry.specs.declared.Request.{Request}
use Rattle.spec_isa.specs.declared.thread.Parts.{Parts}
use Rattle.spec_isa.specs.declared.thread.Kind.{Kind}
use Rattle.spec_isa.specs.Words.{lays}
use Rattle.spec_isa.specs.Runs.{Run, run}
use Rattle.spec_log.specs.declared.LogParts.{LogParts}
use Rattle.spec_log.specs.Size.{size_in}
use Rattle.spec_kernel.specs.Needs.{next_kind, need}
use Rattle.spec_kernel.specs.Serving.{serve}
use Rattle.spec_play.specs.Effects.{chunk_effect, serial_effect, dma_commit}
use Rattle.spec_play.specs.Progress.{Progress, with_dma_used}
use Rattle.spec_play.specs.declared.used.Used.{Used}
use Rattle.spec_play.specs.Turns.{Turn, TurnOfDma, Ended}
use Rattle.spec_play.specs.Verdicts.{LogVerdict, Goes, Fails, unless, ended, chunk_why, chunk_verdict, serial_why, TakenRecord, given, served_verdict, serial_verdict}
use Rattle.spec_play.specs.Transfers.{DmaVerdict, DmaGoes, DmaFails, dma_unless, transferred, dma_verdict}
use Rattle.spec_play.specs.Plays.{Played, with_threads, settled, size_or_standard, thread_verdict, play_thread, dma_settled}
use Rattle.spec_strata.specs.InPlay.{commits_by, IsLike}
use Rattle.spec_strata.specs.Orders.{PlaysStayAlike}
use Rattle.spec_strata.proofs.Plays.Strata.{by-append}

-- a chunk's verdict depends on the play's progress only by the outstanding request
pub chunk-same : (log : LogParts) (p o : Progress) (u : Used) (k : ℕ) (r : Run) → o.request ≡ p.request → chunk_verdict log o u k r ≡ chunk_verdict log p u k r
unfolding chunk_verdict
chunk-same log p o u k r e =
    ap (λ (q : Option Request). unless (chunk_why (size_in log (Actor.Thread k) r.thread.commits) r.n) (ended log k (chunk_effect k q r) u)) e

served-same : (log : LogParts) (p o : Progress) (k : ℕ) (ts : List Parts) (t : Parts) (m : List ℕ) (g : Option TakenRecord) → o.request ≡ p.request → served_verdict log o k ts t m g ≡ served_verdict log p k ts t m g
served-same log p o k ts t m None e = refl
served-same log p o k ts t m (Some g) e = ap (λ (q : Option Request). ended log k (serial_effect k (serve log.threads k ts q t m g.input)) g.used) e

-- a serial step's verdict depends on the play's progress only by the outstanding request
pub serial-same : (log : LogParts) (p o : Progress) (u : Used) (k : ℕ) (ts : List Parts) (t : Parts) (m : List ℕ) → o.request ≡ p.request → serial_verdict log o u k ts t m ≡ serial_verdict log p u k ts t m
unfolding serial_verdict
serial-same log p o u k ts t m e =
    ap (unless (serial_why (size_in log (Actor.Thread k) t.commits))) (served-same log p o k ts t m (given (need t m) (slice_get log.inputs u.inputs) u) e)

verdict-same : (log : LogParts) (y z : Played) (k : ℕ) (t : Parts) (o : Option Kind) → IsLike y z → thread_verdict log z k t o ≡ thread_verdict log y k t o
verdict-same log y z k t (Some kind) like =
    serial-same log y.progress z.progress z.used k z.threads t z.memory like.request
    ∙ (λ i. serial_verdict log y.progress (like.used i) k (like.threads i) t (like.memory i))
verdict-same log y z k t None like =
    chunk-same log y.progress z.progress z.used k (run z.memory t (size_or_standard log k t.commits)) like.request
    ∙ (λ i. chunk_verdict log y.progress (like.used i) k (run (like.memory i) t (size_or_standard log k t.commits)))

-- with one more commit in both, two lists that agree on a thread's commits still agree
pub pushed-same : (by : Option ℕ) (xs ys : List Commit) (c : Commit) → commits_by by ys ≡ commits_by by xs → commits_by by (ys ++ c ∷ []) ≡ commits_by by (xs ++ c ∷ [])
pushed-same by xs ys c e = by-append by ys (c ∷ []) ∙ ap (λ (cs : List Commit). cs ++ commits_by by (c ∷ [])) e ∙ sym (by-append by xs (c ∷ []))

-- with one more commit in both, two lists of the same length still have the same length
pub pushed-length : (xs ys : List Commit) (c : Commit) → length ys ≡ length xs → length (ys ++ c ∷ []) ≡ length (xs ++ c ∷ [])
pushed-length xs ys c e = let a = length-append xs (c ∷ []) in let b = length-append ys (c ∷ []) in omega (arith, a, b, e)

settled-alike : (log : LogParts) (y z : Played) (k : ℕ) (v : LogVerdict) → IsLike y z → IsLike (settled log y k v) (settled log z k v)
settled-alike log y z k (Fails why) like =
    record { memory = like.memory; threads = like.threads; request = like.request; used = like.used; first = like.first; count = like.count; each = like.each }
settled-alike log y z k (Goes e u) like =
    record {
      memory = ap (λ (m : List ℕ). lays m e.words) like.memory;
      threads = ap (λ (ts : List Parts). with_threads k e ts) like.threads;
      request = refl;
      used = refl;
      first = like.first;
      count = pushed-length y.progress.commits z.progress.commits e.commit like.count;
      each = λ by. pushed-same by y.progress.commits z.progress.commits e.commit (like.each by);
    }

thread-alike : (log : LogParts) (y z : Played) (k : ℕ) (o : Option Parts) → IsLike y z → IsLike (play_thread log y k o) (play_thread log z k o)
thread-alike log y z k None like = like
thread-alike log y z k (Some t) like =
    let v : LogVerdict = thread_verdict log y k t (next_kind t y.memory) in
    let same : thread_verdict log z k t (next_kind t z.memory) ≡ v =
    ap (λ (m : List ℕ). thread_verdict log z k t (next_kind t m)) like.memory ∙ verdict-same log y z k t (next_kind t y.memory) like in
    subst (λ (w : LogVerdict). IsLike (settled log y k v) (settled log z k w)) (sym same) (settled-alike log y z k v like)

-- two plays that are alike give the next DMA the same verdict
pub dma-same : (log : LogParts) (y z : Played) → IsLike y z → dma_verdict log z.progress z.used ≡ dma_verdict log y.progress y.used
unfolding dma_verdict
dma-same log y z like =
    (λ i. dma_unless (serial_why (size_in log Actor.Dma (like.first i + like.count i))) (transferred (like.first i + like.count i) (like.request i) (slice_get log.dmas (like.used i).dmas)))

dma-alike : (log : LogParts) (y z : Played) (v : DmaVerdict) → IsLike y z → IsLike (dma_settled log y v) (dma_settled log z v)
dma-alike log y z (DmaFails why) like =
    record { memory = like.memory; threads = like.threads; request = like.request; used = like.used; first = like.first; count = like.count; each = like.each }
dma-alike log y z (DmaGoes ws) like =
    record {
      memory = ap (λ (m : List ℕ). lays m ws) like.memory;
      threads = like.threads;
      request = refl;
      used = ap with_dma_used like.used;
      first = like.first;
      count = pushed-length y.progress.commits z.progress.commits dma_commit like.count;
      each = λ by. pushed-same by y.progress.commits z.progress.commits dma_commit (like.each by);
    }

-- two plays that are alike stay alike, whatever commit follows
pub plays_stay_alike : PlaysStayAlike
plays_stay_alike log y z (Ended how) like = like
plays_stay_alike log y z (Turn k) like =
    subst (λ (o : Option Parts). IsLike (play_thread log y k (slice_get y.threads k)) (play_thread log z k o)) (sym (ap (λ (ts : List Parts). slice_get ts k) like.threads))
    (thread-alike log y z k (slice_get y.threads k) like)
plays_stay_alike log y z TurnOfDma like =
    subst (λ (v : DmaVerdict). IsLike (dma_settled log y (dma_verdict log y.progress y.used)) (dma_settled log z v)) (sym (dma-same log y z like))
    (dma-alike log y z (dma_verdict log y.progress y.used) like)
