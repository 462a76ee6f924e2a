-- A play and a stratum's state go on together, and the touches of words tell the next chunk's conflicts.
use Rattle.std.proofs.Common.{◌≡◌, ℕ, ◌<◌, false, List, [], ◌∷◌, map, Option, Some, None, refl, sym, ap, ◌∙◌, subst}
use Rattle.std.specs.Prelude.{slice_get, slice_set}
use Rattle.std.proofs.lemmas.List.{append-nil}
use Rattle.spec_isa.specs.declared.thread.Parts.{Parts}
use Rattle.spec_isa.specs.declared.thread.Kind.{Kind}
use Rattle.spec_isa.specs.Words.{lays}
use Rattle.spec_isa.specs.Runs.{Run, run}
use Rattle.dl_entry.specs.declared.Actor.{Actor}
use Rattle.spec_log.specs.declared.LogParts.{LogParts}
use Rattle.spec_log.specs.Size.{size_in}
use Rattle.spec_kernel.specs.Needs.{next_kind}
use Rattle.spec_play.specs.Effects.{Effect}
use Rattle.spec_play.specs.declared.used.Used.{Used}
use Rattle.spec_play.specs.Turns.{Turn}
use Rattle.spec_play.specs.Verdicts.{Goes, chunk_why, chunk_verdict}
use Rattle.spec_play.specs.Plays.{Played, settled, size_or_standard, thread_verdict, play_thread, play_turn}
use Rattle.spec_strata.specs.declared.touch.Touch.{Touch}
use Rattle.spec_strata.specs.Footprints.{footprint}
use Rattle.spec_strata.specs.Shares.{Rule, Share, empty_share, next_run, next_seen, StratumState, stratum_start, with_more, commit_more}
use Rattle.spec_strata.specs.Parallel.{clashes, clashes_next}
use Rattle.spec_strata.specs.InPlay.{rule_of, ChunkGoes}
use Rattle.spec_strata.specs.Touches.{IsFree, AreTouches, touched}
use Rattle.spec_strata.specs.Coming.{HasCome}
use Rattle.spec_strata.proofs.Shares.Steps.{mapped}
use Rattle.spec_strata.proofs.Shares.Touches.{touches_tell, touches_follow}
use Rattle.spec_strata.proofs.Plays.Verdicts.{effect_of, used_of, logged-goes, goes-logged, some-of, run-commits, IsGood}
use Rattle.spec_strata.proofs.Plays.Strata.{get-map, thread_in, threads-more, commit-is, good-found}

-- ---- a thread's share

pub record IsShareOf (x : StratumState) (k : ℕ) (t : Parts) : Type 0 where
  pub share : Share
  pub there : slice_get x.shares k ≡ Some share
  pub same : share.thread ≡ t

-- each thread of a play has a share in its stratum's state, with the same thread in it
pub share-of : (y : Played) (x : StratumState) (k : ℕ) (t : Parts) → HasCome y x → slice_get y.threads k ≡ Some t → IsShareOf x k t
share-of y x k t h there =
    let a = mapped thread_in (slice_get x.shares k) t (sym (get-map thread_in x.shares k) ∙ ap (λ (ts : List Parts). slice_get ts k) (sym h.threads) ∙ there) in
    record { share = a.0; there = a.1.0; same = a.1.1 }

-- ---- at the start, and after a chunk

threads-empty : (ts : List Parts) → ts ≡ map thread_in (map empty_share ts)
threads-empty [] = refl
threads-empty (t ∷ ts) = ap (λ (us : List Parts). t ∷ us) (threads-empty ts)

-- a play has come to the start of a stratum that begins where it is
pub come-start : (y : Played) → HasCome y (stratum_start y.memory y.threads)
come-start y = record { memory = refl; threads = threads-empty y.threads }

-- with a chunk that goes, the play has come to the stratum's state with that chunk's commit
pub come-more : (log : LogParts) (y : Played) (x : StratumState) (k : ℕ) → 0 < log.s → ChunkGoes log y k → HasCome y x → HasCome (play_turn log y (Turn k)) (commit_more (rule_of log) x k)
come-more log y x k some c h =
    let s : IsShareOf x k c.thread = share-of y x k c.thread h c.there in
    let p : Share = s.share in
    let q : Rule = rule_of log k in
    let r : Run = next_run q x.memory p in
    let good : IsGood log k x.memory p = good-found log y k x.memory p c some h.memory s.same in
    let e : Effect = effect_of log k y.progress.request r in
    let u : Used = used_of log k r y.used in
    let there : slice_get y.threads k ≡ Some p.thread = c.there ∙ ap (λ (t : Parts). Some t) (sym s.same) in
    let chunk : next_kind p.thread y.memory ≡ None = ap (next_kind p.thread) h.memory ∙ good.chunk in
    let goes : chunk_verdict log y.progress y.used k (run y.memory p.thread (size_or_standard log k p.thread.commits)) ≡ Goes e u =
    ap (λ (m : List ℕ). chunk_verdict log y.progress y.used k (run m p.thread (size_or_standard log k p.thread.commits))) h.memory
    ∙ logged-goes log y.progress y.used k r good.logged in
    let end : play_turn log y (Turn k) ≡ settled log y k (Goes e u) =
    ap (play_thread log y k) there
    ∙ ap (λ (o : Option Kind). settled log y k (thread_verdict log y k p.thread o)) chunk
    ∙ ap (settled log y k) goes in
    let come : HasCome (settled log y k (Goes e u)) (with_more (rule_of log) x k (Some p)) = record {
      memory = ap (λ (m : List ℕ). lays m r.words) h.memory;
      threads = append-nil _ ∙ ap (λ (ts : List Parts). slice_set ts k (q.settle r.thread)) h.threads ∙ threads-more q x k p;
    } in
    subst (λ (z : Played). HasCome z (commit_more (rule_of log) x k)) (sym end)
    (subst (HasCome (settled log y k (Goes e u))) (commit-is (rule_of log) x k p s.there) come)

-- a chunk that goes has a size
pub chunk-some : (log : LogParts) (y : Played) (k : ℕ) → 0 < log.s → (c : ChunkGoes log y k) → 0 < size_or_standard log k c.thread.commits
chunk-some log y k some c =
    let n : ℕ = size_or_standard log k c.thread.commits in
    let r : Run = run y.memory c.thread n in
    let logged = goes-logged log y.progress y.used c.used k r c.effect c.goes in
    some-of log.s (size_in log (Actor.Thread k) c.thread.commits) r.n some
    (ap (λ (i : ℕ). chunk_why (size_in log (Actor.Thread k) i) r.n) (sym (run-commits y.memory c.thread n)) ∙ logged.size)

-- ---- the touches

-- the next chunk of thread k, which is t, on memory m touches no word that is barred
abbrev pub FreeOn : LogParts → (ℕ → Touch) → (k : ℕ) → (m : List ℕ) → Parts → Type 0
FreeOn log touches k m t =
    let n = size_or_standard log k t.commits in IsFree touches k (footprint m t n) (run m t n).words

clashes-at : (q : ℕ → Rule) (x : StratumState) (k : ℕ) (p : Share) → slice_get x.shares k ≡ Some p
    → clashes_next q x k ≡ clashes (next_seen (q k) x.memory p) (next_run (q k) x.memory p).words k x.shares
clashes-at q x k p is =
    ap (λ (s : Option Share). elim s [ None ↦ false | Some r ↦ clashes (next_seen (q k) x.memory r) (next_run (q k) x.memory r).words k x.shares ]) is

-- it conflicts with none of another thread exactly then
pub record TellsNext (log : LogParts) (y : Played) (x : StratumState) (k : ℕ) (t : Parts) (touches : ℕ → Touch) : Type 0 where
  pub joins : FreeOn log touches k y.memory t → clashes_next (rule_of log) x k ≡ false
  pub free : clashes_next (rule_of log) x k ≡ false → FreeOn log touches k y.memory t

-- the next chunk touches no barred word exactly if it conflicts with none of another thread
pub tells-next : (log : LogParts) (y : Played) (x : StratumState) (k : ℕ) (t : Parts) (touches : ℕ → Touch) → AreTouches x.shares touches → HasCome y x → slice_get y.threads k ≡ Some t
    → TellsNext log y x k t touches
tells-next log y x k t touches are h there =
    let s : IsShareOf x k t = share-of y x k t h there in
    let p : Share = s.share in
    let told = touches_tell (rule_of log k) x k p touches are in
    let is = clashes-at (rule_of log) x k p s.there in
    record {
      joins = λ free. is ∙ told.0 (subst (FreeOn log touches k x.memory) (sym s.same) (subst (λ (m : List ℕ). FreeOn log touches k m t) h.memory free));
      free = λ none. subst (λ (m : List ℕ). FreeOn log touches k m t) (sym h.memory) (subst (FreeOn log touches k x.memory) s.same (told.1 (sym is ∙ none)));
    }

-- the touches once it is done
abbrev pub touched_on : LogParts → (ℕ → Touch) → (k : ℕ) → (m : List ℕ) → Parts → (number : ℕ) → Touch
touched_on log touches k m t =
    let n = size_or_standard log k t.commits in touched touches k (footprint m t n) (run m t n).words

-- once a chunk that touches no barred word is done, the touches with its own are right again
pub touches-more : (log : LogParts) (y : Played) (x : StratumState) (k : ℕ) (t : Parts) (touches : ℕ → Touch) → AreTouches x.shares touches → HasCome y x → slice_get y.threads k ≡ Some t
    → FreeOn log touches k y.memory t → AreTouches (commit_more (rule_of log) x k).shares (touched_on log touches k y.memory t)
touches-more log y x k t touches are h there free =
    let s : IsShareOf x k t = share-of y x k t h there in
    let p : Share = s.share in
    let shares : List Share = (commit_more (rule_of log) x k).shares in
    let here : FreeOn log touches k x.memory p.thread = subst (FreeOn log touches k x.memory) (sym s.same) (subst (λ (m : List ℕ). FreeOn log touches k m t) h.memory free) in
    subst (λ (m : List ℕ). AreTouches shares (touched_on log touches k m t)) (sym h.memory)
    (subst (λ (u : Parts). AreTouches shares (touched_on log touches k x.memory u)) s.same
    (touches_follow (rule_of log) x k p touches are s.there here))
