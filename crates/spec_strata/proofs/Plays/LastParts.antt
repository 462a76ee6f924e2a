-- The last part of a commit in pieces, inside a stratum.
use Rattle.std.proofs.Common.{◌≡◌, ℕ, zero, suc, ◌+◌, List, [], ◌∷◌, ◌++◌, set, Some, None, refl, sym, ap, ◌∙◌, subst}
use Rattle.std.specs.Prelude.{slice_get, option_map}
use Rattle.dl_entry.specs.declared.Commit.{Commit}
use Rattle.spec_isa.specs.declared.thread.Parts.{Parts}
use Rattle.spec_isa.specs.Words.{lays}
use Rattle.spec_isa.specs.Runs.{Run, run}
use Rattle.spec_kernel.specs.Needs.{next_kind}
use Rattle.spec_play.specs.Effects.{Effect, chunk_commit}
use Rattle.spec_play.specs.Turns.{Turn}
use Rattle.spec_play.specs.Verdicts.{Goes}
use Rattle.spec_play.specs.Plays.{Played, settled, size_or_standard, play_turn}
use Rattle.spec_strata.specs.Shares.{Rule, Share, alone, StratumState, state_at, bump}
use Rattle.spec_strata.specs.InPlay.{rule_of, ChunkGoes, commits_of}
use Rattle.spec_strata.specs.Orders.{insert_at, place, StepsOn}
use Rattle.spec_strata.specs.Pieces.{last_part, LastPartsGo}
use Rattle.spec_strata.proofs.Shares.Steps.{same_some, alone-get}
use Rattle.spec_strata.proofs.Shares.Checking.{shares-of}
use Rattle.spec_strata.proofs.Plays.Verdicts.{IsLogged, effect_of, used_of, logged-goes, goes-logged}
use Rattle.spec_strata.proofs.Plays.Strata.{get-map, thread_in, strata_step}
use Rattle.spec_strata.proofs.Logs.Strata.{play-is}
use Rattle.spec_play.proofs.Local.Joining.{IsJoined, run-joined}

set_twice : {A : Type 0} (xs : List A) (k : ℕ) (x y : A) → set (set xs k x) k y ≡ set xs k y
set_twice [] k x y = refl
set_twice (z ∷ zs) zero x y = refl
set_twice (z ∷ zs) (suc k) x y = ap (λ us. z ∷ us) (set_twice zs k x y)

last-same : (xs : List Commit) (a b : Commit) → xs ++ a ∷ [] ≡ xs ++ b ∷ [] → a ≡ b
last-same [] a b e = cc
last-same (x ∷ xs) a b e = last-same xs a b (let h : xs ++ a ∷ [] ≡ xs ++ b ∷ [] = cc in h)

-- the last part of a commit in pieces goes as logged, and leaves what the whole commit leaves
pub last_parts_go : LastPartsGo
last_parts_go log y z ks done k total n t l s is few like sum =
    let q : ℕ → Rule = rule_of log in
    let p : Share = alone (q k) y.memory t (done k) in
    let x : StratumState = state_at q y.memory y.threads done in
    let v : StratumState = state_at q y.memory y.threads (bump done k) in
    let r : Run = run z.memory p.thread total in
    let part : Run = run (lays z.memory r.words) r.thread n in
    let w : Run = run z.memory p.thread (size_or_standard log k p.thread.commits) in
    let whole : run z.memory p.thread (total + n) ≡ w = ap (run z.memory p.thread) sum in
    let j : IsJoined z.memory r part w = subst (IsJoined z.memory r part) whole (run-joined z.memory p.thread total n) in
    let h : StepsOn log y z x v k = strata_step log y z ks done k l s few like in
    let c : ChunkGoes log z k = h.goes in
    let there : slice_get z.threads k ≡ Some p.thread =
    ap (λ (ts : List Parts). slice_get ts k) like.threads ∙ get-map thread_in x.shares k
    ∙ ap (λ (os : List Share). option_map thread_in (slice_get os k)) (shares-of q y.memory y.threads done)
    ∙ ap (option_map thread_in) (alone-get q y.memory y.threads done k t is) in
    let same : c.thread ≡ p.thread = same_some c.thread p.thread (sym c.there ∙ there) in
    let logged : IsLogged log k w =
    subst (IsLogged log k) (λ i. run z.memory (same i) (size_or_standard log k (same i).commits))
    (goes-logged log z.progress z.used c.used k (run z.memory c.thread (size_or_standard log k c.thread.commits)) c.effect c.goes) in
    let chunk : next_kind p.thread z.memory ≡ None = ap (λ (u : Parts). next_kind u z.memory) (sym same) ∙ c.chunk in
    let e : Effect = effect_of log k z.progress.request w in
    let end : play_turn log z (Turn k) ≡ settled log z k (Goes e (used_of log k w z.used)) =
    play-is log z k p.thread e (used_of log k w z.used) there chunk (logged-goes log z.progress z.used k w logged) in
    -- the last part, with the pieces, is the whole except for its words
    let mine : record w { words = part.words } ≡ last_part r part = (λ i. record { thread = j.thread i; words = part.words; loads = j.loads i; n = j.n i }) in
    let mine_logged : IsLogged log k (last_part r part) = subst (IsLogged log k) mine (record { size = logged.size; taken = logged.taken }) in
    let commit : h.commit ≡ chunk_commit k (last_part r part) =
    last-same z.progress.commits h.commit (chunk_commit k w) (sym h.appended ∙ ap (λ (o : Played). o.progress.commits) end)
    ∙ ap (chunk_commit k) mine in
    record {
      effect = effect_of log k z.progress.request (last_part r part);
      used = used_of log k (last_part r part) z.used;
      goes = logged-goes log z.progress z.used k (last_part r part) mine_logged;
      memory = sym j.memory ∙ sym (ap (λ (o : Played). o.memory) end) ∙ h.like.memory;
      threads =
          ap (λ (ts : List Parts). ts ++ []) (set_twice z.threads k r.thread ((q k).settle part.thread) ∙ ap (λ (u : Parts). set z.threads k ((q k).settle u)) (sym j.thread))
          ∙ sym (ap (λ (o : Played). o.threads) end) ∙ h.like.threads;
      same_used = ap (λ (u : Run). used_of log k u z.used) (sym mine) ∙ sym (ap (λ (o : Played). o.used) end) ∙ h.like.used;
      request = sym (ap (λ (o : Played). o.progress.request) end) ∙ h.like.request;
      commits = h.placed ∙ ap (λ (d : Commit). insert_at (place k x.shares) d (commits_of chunk_commit x.shares)) commit;
    }
