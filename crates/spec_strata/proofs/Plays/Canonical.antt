-- Canonical order: the play inside a stratum is computed from the numbers of commits.
use Rattle.std.proofs.Common.{◌≡◌, ℕ, zero, suc, ◌<◌, ◌≤◌, ◌+◌, List, [], ◌∷◌, ◌++◌, length, map, Option, Some, refl, sym, ap, ◌∙◌, subst, arith}
use Rattle.std.specs.Prelude.{slice_get, take}
use Rattle.std.specs.Option.{option_or}
use Rattle.std.proofs.lemmas.List.{append-nil, append_assoc}
use Rattle.dl_entry.specs.declared.Actor.{Actor}
use Rattle.dl_entry.specs.declared.Commit.{Commit}
use Rattle.spec_isa.specs.Runs.{Run}
use Rattle.spec_log.specs.declared.LogParts.{LogParts}
use Rattle.spec_play.specs.Effects.{chunk_commit}
use Rattle.spec_play.specs.Progress.{thread_of, last_thread}
use Rattle.spec_play.specs.Turns.{Turn, now_at}
use Rattle.spec_play.specs.Plays.{Played, play_turn, play_one, plays}
use Rattle.spec_strata.specs.Shares.{Rule, Share, alone, StratumState, stratum_start, bump, bumps, state_at, counts_of}
use Rattle.spec_strata.specs.Parallel.{IsParallel}
use Rattle.spec_strata.specs.InPlay.{rule_of, plays_of, commits_of, IsLooked, with_state, in_stratum, IsLike, IsStratum}
use Rattle.spec_strata.specs.Orders.{insert_at, place, StepsOn, IsRising, TurnsAre, CanonicalOrderPlays, CanonicalPlays}
use Rattle.spec_strata.proofs.Shares.Steps.{mapped, bump_other, bumps_more, shares_at-get, at-start}
use Rattle.spec_strata.proofs.Shares.Checking.{shares-of}
use Rattle.spec_strata.proofs.Plays.Strata.{none-committed, like-start, AreGood, step-within, Checked, checked-stratum}

-- ---- plays that are the same

same-played : (log : LogParts) (a b : Played) → IsLike a b → b.progress.commits ≡ a.progress.commits → b.progress.last ≡ a.progress.last → IsLooked log a → IsLooked log b → b ≡ a
same-played log a b like commits last la lb =
    let progress : b.progress ≡ a.progress = (λ i. record { first = like.first i; commits = commits i; last = last i; request = like.request i }) in
    let now : b.now ≡ a.now = lb ∙ (λ i. now_at log (progress i) (like.used i) (like.threads i)) ∙ sym la in
    (λ i. record { memory = like.memory i; threads = like.threads i; progress = progress i; used = like.used i; now = now i })

-- every play is alike to itself
pub like_refl : (y : Played) → IsLike y y
like_refl y = record { memory = refl; threads = refl; request = refl; used = refl; first = refl; count = refl; each = λ by. refl }

-- ---- the place of the last commit

none-of : (f : ℕ → Run → Commit) (ps : List Share) → ((j : ℕ) (o : Share) → slice_get ps j ≡ Some o → o.runs ≡ []) → commits_of f ps ≡ []
none-of f [] e = refl
none-of f (o ∷ os) e =
    ap (λ (rs : List Run). map (f 0) rs ++ commits_of (λ j. f (suc j)) os) (e 0 o refl)
    ∙ none-of (λ j. f (suc j)) os (λ j p h. e (suc j) p h)

-- the commits of some runs and then others are as many as the runs and the others together
pub length-mapped : (f : Run → Commit) (rs : List Run) (cs : List Commit) → length (map f rs ++ cs) ≡ length rs + length cs
length-mapped f [] cs = omega arith
length-mapped f (r ∷ rs) cs = let h = length-mapped f rs cs in omega (arith, h)

place-last : (f : ℕ → Run → Commit) (ps : List Share) (k : ℕ) → ((j : ℕ) (o : Share) → k < j → slice_get ps j ≡ Some o → o.runs ≡ []) → place k ps ≡ length (commits_of f ps)
place-last f [] k e = refl
place-last f (o ∷ os) zero e =
    let none : commits_of (λ j. f (suc j)) os ≡ [] = none-of (λ j. f (suc j)) os (λ j p h. e (suc j) p (omega arith) h) in
    let l : length (commits_of (λ j. f (suc j)) os) ≡ 0 = ap (λ (cs : List Commit). length cs) none in
    let h = length-mapped (f 0) o.runs (commits_of (λ j. f (suc j)) os) in omega (arith, h, l)
place-last f (o ∷ os) (suc k) e =
    let h = length-mapped (f 0) o.runs (commits_of (λ j. f (suc j)) os) in
    let g = place-last (λ j. f (suc j)) os k (λ j p l is. e (suc j) p (omega arith) is) in omega (arith, h, g)

-- an element that is inserted after all elements of a list comes last
pub insert-last : {A : Type 0} (x : A) (xs : List A) → insert_at (length xs) x xs ≡ xs ++ x ∷ []
insert-last x [] = refl
insert-last x (y ∷ ys) = ap (λ zs. y ∷ zs) (insert-last x ys)

pushed : (k : ℕ) (cs : List Commit) (c : Commit) → c.actor ≡ Actor.Thread k → last_thread (cs ++ c ∷ []) ≡ Some k
pushed k [] c e = ap thread_of e
pushed k (d ∷ cs) c e = ap (λ (o : Option ℕ). option_or o (thread_of d.actor)) (pushed k cs c e)

-- ---- one commit

-- where threads after k have done nothing, k's next commit comes last
canonical-step : (log : LogParts) (y : Played) (count done : ℕ → ℕ) (k : ℕ) → IsParallel (rule_of log) y.memory y.threads count → AreGood log y count → ((j : ℕ) → bump done k j ≤ count j) → ((j : ℕ) → k < j → done j ≡ 0)
    → play_turn log (in_stratum log y done) (Turn k) ≡ in_stratum log y (bump done k)
canonical-step log y count done k parallel good few later_ =
    let q : ℕ → Rule = rule_of log in
    let z : Played = in_stratum log y done in
    let x : StratumState = state_at q y.memory y.threads done in
    let v : StratumState = state_at q y.memory y.threads (bump done k) in
    let s : StepsOn log y z x v k = step-within log y z count done k parallel good few (like_refl z) in
    let old : List Commit = commits_of chunk_commit x.shares in
    let new : List Commit = commits_of chunk_commit v.shares in
    let empty : (j : ℕ) (o : Share) → k < j → slice_get x.shares j ≡ Some o → o.runs ≡ [] =
    (λ j o l is.
    let f = mapped (λ t. alone (q j) y.memory t (done j)) (slice_get y.threads j) o (sym (shares_at-get q y.memory y.threads done j) ∙ ap (λ (os : List Share). slice_get os j) (sym (shares-of q y.memory y.threads done)) ∙ is) in
    ap (λ (p : Share). p.runs) (sym f.1.1) ∙ ap (λ (n : ℕ). (alone (q j) y.memory f.0 n).runs) (later_ j l)) in
    let back : new ≡ old ++ s.commit ∷ [] =
    s.placed ∙ ap (λ (n : ℕ). insert_at n s.commit old) (place-last chunk_commit x.shares k empty) ∙ insert-last s.commit old in
    let commits : (play_turn log z (Turn k)).progress.commits ≡ y.progress.commits ++ new =
    s.appended ∙ append_assoc y.progress.commits old (s.commit ∷ []) ∙ ap (λ (cs : List Commit). y.progress.commits ++ cs) (sym back) in
    let last : (play_turn log z (Turn k)).progress.last ≡ option_or (last_thread new) y.progress.last =
    s.last ∙ sym (ap (λ (cs : List Commit). option_or (last_thread cs) y.progress.last) back ∙ ap (λ (o : Option ℕ). option_or o y.progress.last) (pushed k old s.commit s.actor)) in
    same-played log (in_stratum log y (bump done k)) (play_turn log z (Turn k)) s.like commits last refl s.looked

canonical-on : (log : LogParts) (y : Played) (count done : ℕ → ℕ) (ks : List ℕ) (from : ℕ) → IsParallel (rule_of log) y.memory y.threads count → AreGood log y count
    → ((j : ℕ) → bumps done ks j ≤ count j) → IsRising from ks → ((j : ℕ) → from < j → done j ≡ 0)
    → plays_of log (in_stratum log y done) ks ≡ in_stratum log y (bumps done ks)
canonical-on log y count done [] from parallel good few rising later_ = refl
canonical-on log y count done (k ∷ ks) from parallel good few rising later_ =
    let one : (j : ℕ) → bump done k j ≤ count j = (λ j. let a = bumps_more (bump done k) ks j in let b = few j in omega arith) in
    let l : from ≤ k = rising.0 in
    ap (λ (w : Played). plays_of log w ks) (canonical-step log y count done k parallel good one (λ j h. later_ j (omega arith)))
    ∙ canonical-on log y count (bump done k) ks k parallel good few rising.1
    (λ j h. bump_other done k j (λ e. omega arith) ∙ later_ j (omega arith))

-- ---- the start

-- if its turn is as the log says, a play is the one inside a stratum without commits
pub at-none : (log : LogParts) (y : Played) → IsLooked log y → y ≡ in_stratum log y (λ k. 0)
at-none log y looked =
    let none = none-committed chunk_commit y.threads in
    let start = at-start (rule_of log) y.memory y.threads in
    let like : IsLike (with_state log y (stratum_start y.memory y.threads)) y =
    subst (λ (x : StratumState). IsLike (with_state log y x) y) (sym start) (like-start log y) in
    same-played log (with_state log y (stratum_start y.memory y.threads)) y like
    (sym (append-nil y.progress.commits) ∙ ap (λ (cs : List Commit). y.progress.commits ++ cs) (sym none))
    (sym (ap (λ (cs : List Commit). option_or (last_thread cs) y.progress.last) none))
    refl looked
    ∙ ap (with_state log y) start

canonical-prefix : (log : LogParts) (y : Played) (ks js : List ℕ) → 0 < log.s → IsStratum log y ks → IsLooked log y → IsRising 0 js → ((j : ℕ) → counts_of js j ≤ counts_of ks j)
    → plays_of log y js ≡ in_stratum log y (counts_of js)
canonical-prefix log y ks js l s looked rising few =
    let c : Checked log y (plays_of log y ks) (counts_of ks) = checked-stratum log y ks l s in
    ap (λ (w : Played). plays_of log w js) (at-none log y looked)
    ∙ canonical-on log y (counts_of ks) (λ i. 0) js 0 c.parallel c.good few rising (λ j h. refl)

-- in canonical order the play inside a stratum is the one that its numbers of commits give
pub canonical_order_plays : CanonicalOrderPlays
canonical_order_plays log y ks l s rising looked = canonical-prefix log y ks ks l s looked rising (λ j. omega arith)

-- ---- the play of the log

-- a step and then i more are the same play as i + 1 steps
pub plays-shift : (log : LogParts) (y : Played) (i : ℕ) → plays log (play_one log y) i ≡ plays log y (suc i)
plays-shift log y zero = refl
plays-shift log y (suc i) = ap (play_one log) (plays-shift log y i)

-- if thread k has the turn, the play's next step is that thread's
pub one-turn : (log : LogParts) (y : Played) (k : ℕ) → y.now ≡ Turn k → play_one log y ≡ play_turn log y (Turn k)
unfolding play_one
one-turn log y k e = ap (play_turn log y) e

plays-turns : (log : LogParts) (y : Played) (ks : List ℕ) (i : ℕ) → TurnsAre log y ks → i ≤ length ks → plays log y i ≡ plays_of log y (take i ks)
plays-turns log y ks zero turns l = refl
plays-turns log y [] (suc i) turns l = absurd (omega arith)
plays-turns log y (k ∷ ks) (suc i) turns l =
    sym (plays-shift log y i) ∙ plays-turns log (play_one log y) ks i turns.1 (omega arith)
    ∙ ap (λ (w : Played). plays_of log w (take i ks)) (one-turn log y k turns.0)

rising-take : (from : ℕ) (ks : List ℕ) (i : ℕ) → IsRising from ks → IsRising from (take i ks)
rising-take from ks zero r = tt
rising-take from [] (suc i) r = tt
rising-take from (k ∷ ks) (suc i) r = (r.0, rising-take k ks i r.1)

fewer-taken : (done : ℕ → ℕ) (ks : List ℕ) (i j : ℕ) → bumps done (take i ks) j ≤ bumps done ks j
fewer-taken done ks zero j = bumps_more done ks j
fewer-taken done [] (suc i) j = omega arith
fewer-taken done (k ∷ ks) (suc i) j = fewer-taken (bump done k) ks i j

-- if turns are in canonical order, the log's play is at each commit what their numbers give
pub canonical_plays : CanonicalPlays
canonical_plays log y ks i l s rising looked turns few =
    plays-turns log y ks i turns few
    ∙ canonical-prefix log y ks (take i ks) l s looked (rising-take 0 ks i rising) (λ j. fewer-taken (λ n. 0) ks i j)
