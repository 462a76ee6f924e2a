-- The stores of each commit tell the words that it lays on memory.
use Rattle.std.proofs.Common.{◌≡◌, ℕ, ◌*◌, ◌/◌, List, [], ◌∷◌, ◌++◌, map, Option, Some, None, refl, sym, ap, ◌∙◌, arith}
use Rattle.std.specs.Prelude.{slice_get}
use Rattle.std.specs.List.{AllByRecursion}
use Rattle.dl_entry.specs.declared.Actor.{Actor}
use Rattle.dl_entry.specs.declared.Commit.{Commit}
use Rattle.spec_isa.specs.declared.thread.Parts.{Parts}
use Rattle.spec_isa.specs.declared.thread.Kind.{Kind}
use Rattle.spec_isa.specs.Words.{Stored, Lacks, Apart, lays, read}
use Rattle.spec_isa.specs.Runs.{run}
use Rattle.spec_isa.proofs.BufferLaws.{read_lays_lacking}
use Rattle.spec_log.specs.declared.LogParts.{LogParts}
use Rattle.spec_kernel.specs.Needs.{next_kind}
use Rattle.spec_play.specs.Effects.{dma_commit}
use Rattle.spec_play.specs.Progress.{position}
use Rattle.spec_play.specs.Turns.{TurnOrEnd, Turn, TurnOfDma, Ended}
use Rattle.spec_play.specs.Verdicts.{LogVerdict, Goes, Fails}
use Rattle.spec_play.specs.Transfers.{DmaVerdict, DmaGoes, DmaFails, dma_verdict}
use Rattle.spec_play.specs.Plays.{Played, settled, size_or_standard, thread_verdict, play_thread, dma_settled, play_turn, play_one}
use Rattle.spec_play.proofs.Lasts.{IsOf, chunk-of, serial-of}
use Rattle.spec_query.specs.declared.store.Store.{Store}
use Rattle.spec_query.specs.Stores.{words_gone, words_transferred, thread_words, store_of, stores_of, turn_stores, next_stores}
use Rattle.spec_query.specs.Promise.{IsOfCommit, Spares, AreApart, TellCommit, StoresAreTold}
use Rattle.spec_query.proofs.Apart.{GoesApart, thread_apart, TransfersApart, dma_apart}

-- ---- words as stores

-- what is true of each word's store is true of all stores
pub each_store : (P : Store → Type 0) (i : ℕ) (actor : Actor) (after : List ℕ) (ws : List Stored) → ((s : Stored) → P (store_of i actor after s)) → AllByRecursion P (map (store_of i actor after) ws)
each_store P i actor after [] each = tt
each_store P i actor after (s ∷ ss) each = (each s, each_store P i actor after ss each)

-- a word that no store is to isn't among the words
pub lacks : (i : ℕ) (actor : Actor) (after : List ℕ) (ws : List Stored) (n : ℕ) → Spares (4 * n) (map (store_of i actor after) ws) → Lacks n ws
lacks i actor after [] n spares = tt
lacks i actor after (s ∷ ss) n spares = (λ e. spares.0 (ap (λ (a : ℕ). 4 * a) e), lacks i actor after ss n spares.1)

same_quarter : (a b : ℕ) → 4 * a ≡ 4 * b → a ≡ b
same_quarter a b e = omega (arith, e)

spares : (i : ℕ) (actor : Actor) (after : List ℕ) (ws : List Stored) (n : ℕ) → Lacks n ws → Spares (4 * n) (map (store_of i actor after) ws)
spares i actor after [] n lacks = tt
spares i actor after (s ∷ ss) n lacks = (λ e. lacks.0 (same_quarter s.number n e), spares i actor after ss n lacks.1)

apart : (i : ℕ) (actor : Actor) (after : List ℕ) (ws : List Stored) → Apart ws → AreApart (map (store_of i actor after) ws)
apart i actor after [] a = tt
apart i actor after (s ∷ ss) a = (spares i actor after ss s.number a.0, apart i actor after ss a.1)

-- ---- one commit

-- these words are laid, as the commit that is done
told : (y z : Played) (c : Commit) (actor : Actor) (ws : List Stored) → z.memory ≡ lays y.memory ws → z.progress.commits ≡ y.progress.commits ++ c ∷ [] → c.actor ≡ actor → Apart ws
    → TellCommit y z (stores_of (position y.progress) actor y.memory ws)
told y z c actor ws memory done of a =
    let i = position y.progress in
    let after = lays y.memory ws in
    let quarter : (n : ℕ) → n ≡ 4 * n / 4 = λ n. omega arith in
    record {
      each =
          each_store (IsOfCommit y z) i actor after ws
          (λ s. record {
            number = refl;
            commit = c;
            done = done;
            actor = sym of;
            value = ap (read after) (quarter s.number) ∙ ap (λ (m : List ℕ). read m (4 * s.number / 4)) (sym memory);
          });
      apart = apart i actor after ws a;
      others = λ n spared. ap (λ (m : List ℕ). read m n) memory ∙ read_lays_lacking y.memory ws n (lacks i actor after ws n spared);
    }

nothing_told : (y z : Played) → z.memory ≡ y.memory → TellCommit y z []
nothing_told y z memory = record { each = tt; apart = tt; others = λ n spared. ap (λ (m : List ℕ). read m n) memory }

settled_told : (log : LogParts) (y : Played) (k : ℕ) (v : LogVerdict) → IsOf k v → GoesApart v → TellCommit y (settled log y k v) (stores_of (position y.progress) (Actor.Thread k) y.memory (words_gone v))
settled_told log y k (Goes e u) of a = told y (settled log y k (Goes e u)) e.commit (Actor.Thread k) e.words refl refl of a
settled_told log y k (Fails why) of a = nothing_told y (settled log y k (Fails why)) refl

verdict_of : (log : LogParts) (y : Played) (k : ℕ) (t : Parts) (o : Option Kind) → IsOf k (thread_verdict log y k t o)
verdict_of log y k t None = chunk-of log y.progress y.used k (run y.memory t (size_or_standard log k t.commits))
verdict_of log y k t (Some kind) = serial-of log y.progress y.used k y.threads t y.memory

thread_told : (log : LogParts) (y : Played) (k : ℕ) (o : Option Parts) → TellCommit y (play_thread log y k o) (stores_of (position y.progress) (Actor.Thread k) y.memory (thread_words log y k o))
thread_told log y k None = nothing_told y y refl
thread_told log y k (Some t) =
    let kind = next_kind t y.memory in
    settled_told log y k (thread_verdict log y k t kind) (verdict_of log y k t kind) (thread_apart log y k t kind)

dma_told : (log : LogParts) (y : Played) (v : DmaVerdict) → TransfersApart v → TellCommit y (dma_settled log y v) (stores_of (position y.progress) Actor.Dma y.memory (words_transferred v))
dma_told log y (DmaGoes words) a = told y (dma_settled log y (DmaGoes words)) dma_commit Actor.Dma words refl refl refl a
dma_told log y (DmaFails why) a = nothing_told y (dma_settled log y (DmaFails why)) refl

now_told : (log : LogParts) (y : Played) (now : TurnOrEnd) → TellCommit y (play_turn log y now) (turn_stores log y now)
now_told log y (Ended how) = nothing_told y y refl
now_told log y TurnOfDma = dma_told log y (dma_verdict log y.progress y.used) (dma_apart log y.progress y.used)
now_told log y (Turn k) = thread_told log y k (slice_get y.threads k)

-- the stores of each commit tell it
pub stores_are_told : StoresAreTold
unfolding play_one next_stores
stores_are_told log y = now_told log y y.now
