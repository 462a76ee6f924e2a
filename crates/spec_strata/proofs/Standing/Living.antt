-- Threads that have chunks in a stratum live, from its start to its end.
use Rattle.std.proofs.Common.{◌≡◌, ℕ, zero, suc, List, [], ◌∷◌, Some, refl, sym, ap, ◌∙◌, subst}
use Rattle.std.specs.Prelude.{slice_get, option_map}
use Rattle.spec_isa.specs.declared.thread.Parts.{Parts}
use Rattle.spec_isa.specs.Runs.{run}
use Rattle.spec_log.specs.declared.LogParts.{LogParts}
use Rattle.spec_kernel.specs.Interrupts.{is_live, lives}
use Rattle.spec_play.specs.Effects.{counted}
use Rattle.spec_play.specs.Turns.{Turn}
use Rattle.spec_play.specs.Verdicts.{Goes, interrupt_at}
use Rattle.spec_play.specs.Plays.{Played, settled, size_or_standard, play_turn, play_one}
use Rattle.spec_play.proofs.Going.{Lives, turn-lives}
use Rattle.spec_strata.specs.Shares.{Share, alone, share_more}
use Rattle.spec_strata.specs.InPlay.{rule_of, IsLooked, ChunkGoes, ChunksGo, in_stratum}
use Rattle.spec_strata.specs.Orders.{TurnsAre, AreLive}
use Rattle.spec_strata.proofs.Shares.Steps.{same_some, alone-get}
use Rattle.spec_strata.proofs.Shares.Checking.{shares-of}
use Rattle.spec_strata.proofs.Plays.Strata.{get-map, thread_in}
use Rattle.spec_strata.proofs.Plays.Canonical.{one-turn}
use Rattle.spec_strata.proofs.Plays.Turning.{run-status, after-status, chunk-live}
use Rattle.spec_strata.proofs.Logs.Strata.{play-is}

-- ---- threads stay live

more-status : (log : LogParts) (k : ℕ) (m : List ℕ) (p : Share) → (share_more (rule_of log k) m p).thread.status ≡ p.thread.status
unfolding share_more
more-status log k m p =
    let n : ℕ = size_or_standard log k p.thread.commits in
    let t : Parts = counted (run m p.thread n).thread in
    after-status (interrupt_at log.interrupts k t.commits) t ∙ run-status m p.thread n

alone-status : (log : LogParts) (k : ℕ) (m : List ℕ) (t : Parts) (i : ℕ) → (alone (rule_of log k) m t i).thread.status ≡ t.status
alone-status log k m t zero = refl
alone-status log k m t (suc i) = more-status log k _ (alone (rule_of log k) m t i) ∙ alone-status log k m t i

-- a thread within a stratum is what it is alone
pub thread-at : (log : LogParts) (y : Played) (done : ℕ → ℕ) (k : ℕ) (t : Parts) → slice_get y.threads k ≡ Some t → slice_get (in_stratum log y done).threads k ≡ Some (alone (rule_of log k) y.memory t (done k)).thread
thread-at log y done k t is =
    get-map thread_in _ k
    ∙ ap (λ (os : List Share). option_map thread_in (slice_get os k)) (shares-of (rule_of log) y.memory y.threads done)
    ∙ ap (option_map thread_in) (alone-get (rule_of log) y.memory y.threads done k t is)

-- and it is as live as at the stratum's start
pub lives-at : (log : LogParts) (y : Played) (done : ℕ → ℕ) (k : ℕ) → Lives y.threads k → Lives (in_stratum log y done).threads k
lives-at log y done k l =
    record {
      thread = (alone (rule_of log k) y.memory l.thread (done k)).thread;
      is = thread-at log y done k l.thread l.is;
      live = ap lives (alone-status log k y.memory l.thread (done k)) ∙ l.live;
    }

-- ---- threads that have turns in a stratum are live at its start

alive-before : (log : LogParts) (y : Played) (k : ℕ) (js : List ℕ) → ChunkGoes log y k → AreLive (play_turn log y (Turn k)) js → AreLive y js
alive-before log y k [] c live = tt
alive-before log y k (j ∷ js) c live = (chunk-live log y k c j live.0, alive-before log y k js c live.1)

-- after a chunk that goes, the play's turn is as the log says
pub looked-after : (log : LogParts) (y : Played) (k : ℕ) → ChunkGoes log y k → IsLooked log (play_turn log y (Turn k))
looked-after log y k c =
    let end : play_turn log y (Turn k) ≡ settled log y k (Goes c.effect c.used) = play-is log y k c.thread c.effect c.used c.there c.chunk c.goes in
    subst (IsLooked log) (sym end) refl

-- threads that have the next turns, with chunks that go, are live before the first of them
pub turns-alive : (log : LogParts) (y : Played) (ks : List ℕ) → IsLooked log y → ChunksGo log y ks → TurnsAre log y ks → AreLive y ks
turns-alive log y [] looked go turns = tt
turns-alive log y (k ∷ ks) looked go turns =
    let l : Lives y.threads k = turn-lives log y.progress y.used y.threads k (sym looked ∙ turns.0) in
    let one : play_one log y ≡ play_turn log y (Turn k) = one-turn log y k turns.0 in
    let rest : AreLive (play_turn log y (Turn k)) ks =
    turns-alive log (play_turn log y (Turn k)) ks (looked-after log y k go.0) go.1 (subst (λ (z : Played). TurnsAre log z ks) one turns.1) in (
      (λ t is. ap (λ (u : Parts). is_live u) (same_some t l.thread (sym is ∙ l.is)) ∙ l.live),
      alive-before log y k ks go.0 rest,
    )
