-- A whole log in strata, in another log that says the same.
use Rattle.std.proofs.Common.{◌≡◌, ℕ, ◌<◌, List, [], ◌∷◌, Option, Some, None, refl, sym, ap, ◌∙◌, subst}
use Rattle.std.specs.Prelude.{slice_get}
use Rattle.dl_entry.specs.declared.Actor.{Actor}
use Rattle.dl_entry.specs.declared.Why.{Why}
use Rattle.spec_isa.specs.declared.thread.Parts.{Parts}
use Rattle.spec_isa.specs.declared.thread.Kind.{Kind}
use Rattle.spec_isa.specs.Words.{Stored, lays}
use Rattle.spec_log.specs.declared.LogParts.{LogParts}
use Rattle.spec_log.specs.Size.{size_in}
use Rattle.spec_kernel.specs.Needs.{next_kind, need}
use Rattle.spec_kernel.specs.Serving.{serve}
use Rattle.spec_play.specs.Effects.{Effect, serial_effect, dma_commit}
use Rattle.spec_play.specs.Progress.{Progress, position, with_dma_used}
use Rattle.spec_play.specs.declared.used.Used.{Used}
use Rattle.spec_play.specs.Turns.{TurnOrEnd, Turn, TurnOfDma, Ended}
use Rattle.spec_play.specs.Verdicts.{LogVerdict, Goes, unless, interrupt_at, with_interrupted, serial_why, TakenRecord, given, served_verdict, serial_verdict}
use Rattle.spec_play.specs.Transfers.{DmaVerdict, DmaGoes, dma_unless, transferred, dma_verdict}
use Rattle.spec_play.specs.Plays.{Played, settled, thread_verdict, play_thread, dma_settled, play_turn}
use Rattle.spec_strata.specs.InPlay.{ChunkGoes, plays_of, IsLike}
use Rattle.spec_strata.specs.Blocks.{Chunks, Alone}
use Rattle.spec_strata.specs.Relogged.{SaysAll, GoesNow, BlocksRelog}
use Rattle.spec_strata.proofs.Plays.Staying.{serial-same, dma-same, pushed-same, pushed-length}
use Rattle.spec_strata.proofs.Logs.Strata.{Relogged, step-relogged, settled-relogged, strata_relog}

-- ---- a serial step

served-relogged : (log other : LogParts) (p : Progress) (k : ℕ) (ts : List Parts) (t : Parts) (m : List ℕ) (g : Option TakenRecord) → SaysAll log other → served_verdict other p k ts t m g ≡ served_verdict log p k ts t m g
served-relogged log other p k ts t m None says = refl
served-relogged log other p k ts t m (Some g) says =
    let e : ℕ → Effect = (λ n. serial_effect k (serve n k ts p.request t m g.input)) in
    (λ i. with_interrupted (interrupt_at (says.alike.interrupts i) k (e (says.threads i)).thread.commits) (e (says.threads i)) g.used)

unless_none : (o : Option Why) (v : LogVerdict) (e : Effect) (u : Used) → unless o v ≡ Goes e u → o ≡ None
unless_none None v e u is = refl
unless_none (Some why) v e u is = cc

serial-relogged : (log other : LogParts) (p : Progress) (u w : Used) (k : ℕ) (ts : List Parts) (t : Parts) (m : List ℕ) (e : Effect) → SaysAll log other → serial_verdict log p u k ts t m ≡ Goes e w → serial_verdict other p u k ts t m ≡ Goes e w
unfolding serial_verdict
serial-relogged log other p u w k ts t m e says goes =
    let g : Option TakenRecord = given (need t m) (slice_get log.inputs u.inputs) u in
    let none : serial_why (size_in log (Actor.Thread k) t.commits) ≡ None = unless_none _ (served_verdict log p k ts t m g) e w goes in
    let too : serial_why (size_in other (Actor.Thread k) t.commits) ≡ None = says.sizes (Actor.Thread k) t.commits none in
    ap (λ (o : Option Why). unless o (served_verdict other p k ts t m (given (need t m) (slice_get other.inputs u.inputs) u))) too
    ∙ (λ i. served_verdict other p k ts t m (given (need t m) (slice_get (says.inputs i) u.inputs) u))
    ∙ served-relogged log other p k ts t m g says
    ∙ sym (ap (λ (o : Option Why). unless o (served_verdict log p k ts t m g)) none)
    ∙ goes

pub record Both (log other : LogParts) (y z : Played) (now : TurnOrEnd) : Type 0 where
  pub goes : GoesNow other z now
  pub like : IsLike (play_turn log y now) (play_turn other z now)

turn-is : (log : LogParts) (y : Played) (k : ℕ) (t : Parts) (o : Option Kind) (e : Effect) (u : Used) → slice_get y.threads k ≡ Some t → next_kind t y.memory ≡ o → thread_verdict log y k t o ≡ Goes e u
    → play_turn log y (Turn k) ≡ settled log y k (Goes e u)
turn-is log y k t o e u there kind goes =
    ap (play_thread log y k) there
    ∙ ap (λ (x : Option Kind). settled log y k (thread_verdict log y k t x)) kind
    ∙ ap (settled log y k) goes

thread-relogged : (log other : LogParts) (y z : Played) (k : ℕ) (t : Parts) (o : Option Kind) (e : Effect) (u : Used) → SaysAll log other → 0 < log.s → IsLike y z → slice_get y.threads k ≡ Some t → next_kind t y.memory ≡ o → thread_verdict log y k t o ≡ Goes e u
    → Both log other y z (Turn k)
thread-relogged log other y z k t None e u says l like there kind goes =
    let c : ChunkGoes log y k = record { thread = t; there = there; chunk = kind; effect = e; used = u; goes = goes } in
    let r : Relogged log other y z k = step-relogged log other y z k says.alike like c in
    let d : ChunkGoes other z k = r.goes in
    record {
      goes = record { thread = d.thread; there = d.there; effect = d.effect; used = d.used; goes = ap (thread_verdict other z k d.thread) d.chunk ∙ d.goes };
      like = r.like;
    }
thread-relogged log other y z k t (Some serial) e u says l like there kind goes =
    let there_z : slice_get z.threads k ≡ Some t = ap (λ (ts : List Parts). slice_get ts k) like.threads ∙ there in
    let kind_z : next_kind t z.memory ≡ Some serial = ap (next_kind t) like.memory ∙ kind in
    let goes_z : thread_verdict other z k t (Some serial) ≡ Goes e u =
    serial-same other y.progress z.progress z.used k z.threads t z.memory like.request
    ∙ (λ i. serial_verdict other y.progress (like.used i) k (like.threads i) t (like.memory i))
    ∙ serial-relogged log other y.progress y.used u k y.threads t y.memory e says goes in
    let a = turn-is log y k t (Some serial) e u there kind goes in
    let b = turn-is other z k t (Some serial) e u there_z kind_z goes_z in
    record {
      goes = record { thread = t; there = there_z; effect = e; used = u; goes = ap (thread_verdict other z k t) kind_z ∙ goes_z };
      like = subst (λ (w : Played). IsLike w (play_turn other z (Turn k))) (sym a) (subst (λ (w : Played). IsLike (settled log y k (Goes e u)) w) (sym b) (settled-relogged log other y z k e u like));
    }

-- ---- a DMA

dma_none : (o : Option Why) (v : DmaVerdict) (ws : List Stored) → dma_unless o v ≡ DmaGoes ws → o ≡ None
dma_none None v ws is = refl
dma_none (Some why) v ws is = cc

dma-relogged : (log other : LogParts) (p : Progress) (u : Used) (ws : List Stored) → SaysAll log other → dma_verdict log p u ≡ DmaGoes ws → dma_verdict other p u ≡ DmaGoes ws
unfolding dma_verdict
dma-relogged log other p u ws says goes =
    let v : DmaVerdict = transferred (position p) p.request (slice_get log.dmas u.dmas) in
    let none : serial_why (size_in log Actor.Dma (position p)) ≡ None = dma_none _ v ws goes in
    ap (λ (o : Option Why). dma_unless o (transferred (position p) p.request (slice_get other.dmas u.dmas))) (says.sizes Actor.Dma (position p) none)
    ∙ (λ i. transferred (position p) p.request (slice_get (says.dmas i) u.dmas))
    ∙ sym (ap (λ (o : Option Why). dma_unless o v) none)
    ∙ goes

dma-settled : (log other : LogParts) (y z : Played) (ws : List Stored) → IsLike y z → IsLike (dma_settled log y (DmaGoes ws)) (dma_settled other z (DmaGoes ws))
dma-settled log other y z ws like =
    record {
      memory = ap (λ (m : List ℕ). lays m ws) like.memory;
      threads = like.threads;
      request = refl;
      used = ap with_dma_used like.used;
      first = like.first;
      count = pushed-length y.progress.commits z.progress.commits dma_commit like.count;
      each = λ by. pushed-same by y.progress.commits z.progress.commits dma_commit (like.each by);
    }

-- a step or DMA that goes in one log goes alike in another that says the same
pub now-relogged : (log other : LogParts) (y z : Played) (now : TurnOrEnd) → SaysAll log other → 0 < log.s → IsLike y z → GoesNow log y now → Both log other y z now
now-relogged log other y z (Turn k) says l like g = thread-relogged log other y z k g.thread (next_kind g.thread y.memory) g.effect g.used says l like g.there refl g.goes
now-relogged log other y z (Ended how) says l like g = absurd g
now-relogged log other y z TurnOfDma says l like g =
    let ws : List Stored = g.0 in
    let theirs : dma_verdict other z.progress z.used ≡ DmaGoes ws = dma-same other y z like ∙ dma-relogged log other y.progress y.used ws says g.1 in
    record {
      goes = (ws, theirs);
      like = subst (λ (v : DmaVerdict). IsLike (dma_settled log y v) (play_turn other z TurnOfDma)) (sym g.1)
          (subst (λ (v : DmaVerdict). IsLike (dma_settled log y (DmaGoes ws)) (dma_settled other z v)) (sym theirs) (dma-settled log other y z ws like));
    }

-- ---- all

-- blocks of one log's play go in another log that says the same, each stratum in its second order
pub blocks_relog : BlocksRelog
blocks_relog log other y z [] says l like go = (tt, like)
blocks_relog log other y z (Chunks ks js ∷ bs) says l like go =
    let one = strata_relog log other y z ks js says.alike l like go.0 go.1 in
    let rest = blocks_relog log other (plays_of log y ks) (plays_of other z js) bs says l one.1 go.2 in
    ((one.0, rest.0), rest.1)
blocks_relog log other y z (Alone now ∷ bs) says l like go =
    let one : Both log other y z now = now-relogged log other y z now says l like go.0 in
    let rest = blocks_relog log other (play_turn log y now) (play_turn other z now) bs says l one.like go.1 in
    ((one.goes, rest.0), rest.1)
