-- Chunk commits of a stratum in a log's play, in canonical order and in any other.
use Rattle.std.proofs.Common.{◌≡◌, ◌≢◌, ℕ, zero, suc, ◌<◌, ◌≤◌, ◌+◌, inl, inr, true, false, List, [], ◌∷◌, ◌++◌, length, map, set, Option, Some, None, refl, sym, ap, ◌∙◌, subst, arith}
use Rattle.std.specs.Prelude.{slice_get, slice_set, option_map}
use Rattle.std.proofs.lemmas.Bool.{cases_eq, cases_lt, cases_Bool, true≢false, eqb-true, ne_eqb, or_left}
use Rattle.std.proofs.lemmas.List.{append-nil, append_assoc, length-append}
use Rattle.std.proofs.lemmas.Option.{none-some}
use Rattle.spec_isa.specs.declared.thread.Parts.{Parts}
use Rattle.spec_isa.specs.declared.thread.Kind.{Kind}
use Rattle.spec_isa.specs.Words.{lays}
use Rattle.spec_isa.specs.Runs.{Run, run}
use Rattle.spec_log.specs.declared.LogParts.{LogParts}
use Rattle.spec_kernel.specs.Needs.{next_kind}
use Rattle.dl_entry.specs.declared.Commit.{Commit}
use Rattle.spec_play.specs.Effects.{Effect, chunk_commit}
use Rattle.spec_play.specs.declared.used.Used.{Used}
use Rattle.spec_play.specs.Turns.{Turn}
use Rattle.spec_play.specs.Verdicts.{Goes, chunk_verdict}
use Rattle.spec_play.specs.Plays.{Played, settled, size_or_standard, thread_verdict, play_thread, play_turn}
use Rattle.spec_strata.specs.Footprints.{looks, footprint}
use Rattle.spec_strata.specs.Shares.{Rule, Share, empty_share, next_run, next_seen, share_more, alone, StratumState, with_more, commit_more, bump, bumps, shares_at, words_of, state_at, counts_of}
use Rattle.spec_strata.specs.Parallel.{OthersMiss, IsClear, AreClear, IsParallel}
use Rattle.spec_strata.specs.InPlay.{is_by, commits_by, commits_of, IsLooked, rule_of, ChunkGoes, plays_of, ChunksGo, raised_of, with_state, in_stratum, IsLike, IsStratum}
use Rattle.spec_strata.specs.Orders.{insert_at, place, StepsOn, StrataStep, StrataPlayed, StrataInterleave}
use Rattle.spec_strata.proofs.Shares.Steps.{same_some, mapped, bump_same, bump_other, bumps_more, shares_at-get, alone-get, agree-others, misses, one-more, at-start}
use Rattle.spec_strata.proofs.Shares.Checking.{Agree_sym, Clear, clear-alone, more-parallel, none-parallel, shares-of, checked-step, parallel_ones_are_clear}
use Rattle.spec_strata.proofs.Local.Footprints.{Agree-less}
use Rattle.spec_strata.proofs.Plays.Verdicts.{IsLogged, effect_of, used_of, logged-goes, goes-logged, IsGood, make-good, good-local}

-- ---- lists

-- the element of a mapped list at an index is the list's element there, mapped
pub get-map : {A B : Type 0} (f : A → B) (xs : List A) (k : ℕ) → slice_get (map f xs) k ≡ option_map f (slice_get xs k)
get-map f [] k = refl
get-map f (x ∷ xs) zero = refl
get-map f (x ∷ xs) (suc k) = get-map f xs k

map-set : {A B : Type 0} (f : A → B) (xs : List A) (k : ℕ) (x : A) → map f (set xs k x) ≡ set (map f xs) k (f x)
map-set f [] k x = refl
map-set f (y ∷ ys) zero x = refl
map-set f (y ∷ ys) (suc k) x = ap (λ zs. f y ∷ zs) (map-set f ys k x)

raised-set : (ps : List Share) (k : ℕ) (p r : Share) (n : ℕ) → slice_get ps k ≡ Some p → r.raised ≡ p.raised + n → raised_of (set ps k r) ≡ raised_of ps + n
raised-set [] k p r n e more = absurd (none-some p e)
raised-set (o ∷ os) zero p r n e more =
    let same : o.raised ≡ p.raised = ap (λ (x : Share). x.raised) (same_some o p e) in
    let a : r.raised ≡ p.raised + n = more in omega arith
raised-set (o ∷ os) (suc k) p r n e more = let h = raised-set os k p r n e more in omega arith

-- the thread of a share, as it now is
abbrev pub thread_in : Share → Parts
thread_in p = p.thread

-- ---- one commit more, where the stratum stands at x

-- a commit of thread k replaces that thread among those of the shares, and no other
pub threads-more : (q : Rule) (x : StratumState) (k : ℕ) (p : Share) → set (map thread_in x.shares) k (q.settle (next_run q x.memory p).thread) ≡ map thread_in (slice_set x.shares k (share_more q x.memory p))
unfolding share_more
threads-more q x k p = sym (map-set thread_in x.shares k (share_more q x.memory p))

raised-more : (q : Rule) (x : StratumState) (k : ℕ) (p : Share) → slice_get x.shares k ≡ Some p → raised_of (slice_set x.shares k (share_more q x.memory p)) ≡ raised_of x.shares + q.raises (next_run q x.memory p).thread
unfolding share_more
raised-more q x k p is = raised-set x.shares k p (share_more q x.memory p) (q.raises (next_run q x.memory p).thread) is refl

-- ---- the commits in canonical order

-- to insert n places past a first list is to insert at place n of the second
pub insert-behind : {A : Type 0} (xs ys : List A) (n : ℕ) (x : A) → insert_at (length xs + n) x (xs ++ ys) ≡ xs ++ insert_at n x ys
insert-behind [] ys n x = let e : 0 + n ≡ n = omega arith in ap (λ k. insert_at k x ys) e
insert-behind (z ∷ zs) ys n x =
    let e : length (z ∷ zs) + n ≡ suc (length zs + n) = omega arith in
    ap (λ k. insert_at k x (z ∷ (zs ++ ys))) e ∙ ap (λ us. z ∷ us) (insert-behind zs ys n x)

length-insert : {A : Type 0} (n : ℕ) (x : A) (xs : List A) → length (insert_at n x xs) ≡ suc (length xs)
length-insert zero x xs = refl
length-insert (suc n) x [] = refl
length-insert (suc n) x (y ∷ ys) = ap suc (length-insert n x ys)

map-push : (f : Run → Commit) (rs : List Run) (r : Run) → map f (rs ++ r ∷ []) ≡ map f rs ++ f r ∷ []
map-push f [] r = refl
map-push f (s ∷ ss) r = ap (λ (cs : List Commit). f s ∷ cs) (map-push f ss r)

length-map : (f : Run → Commit) (rs : List Run) → length (map f rs) ≡ length rs
length-map f [] = refl
length-map f (r ∷ rs) = ap suc (length-map f rs)

commits-set : (f : ℕ → Run → Commit) (ps : List Share) (k : ℕ) (p r : Share) (s : Run) → slice_get ps k ≡ Some p → r.runs ≡ p.runs ++ s ∷ []
    → commits_of f (set ps k r) ≡ insert_at (place k ps) (f k s) (commits_of f ps)
commits-set f [] k p r s e more = absurd (none-some p e)
commits-set f (o ∷ os) zero p r s e more =
    let rest : List Commit = commits_of (λ j. f (suc j)) os in
    let runs : r.runs ≡ o.runs ++ s ∷ [] = more ∙ ap (λ (x : Share). x.runs ++ s ∷ []) (sym (same_some o p e)) in
    let n : length (map (f 0) o.runs) + 0 ≡ length o.runs = (let h = length-map (f 0) o.runs in omega (arith, h)) in
    ap (λ (rs : List Run). map (f 0) rs ++ rest) runs
    ∙ ap (λ (cs : List Commit). cs ++ rest) (map-push (f 0) o.runs s)
    ∙ append_assoc (map (f 0) o.runs) (f 0 s ∷ []) rest
    ∙ sym (insert-behind (map (f 0) o.runs) rest 0 (f 0 s))
    ∙ ap (λ (i : ℕ). insert_at i (f 0 s) (map (f 0) o.runs ++ rest)) n
commits-set f (o ∷ os) (suc k) p r s e more =
    let rest : List Commit = commits_of (λ j. f (suc j)) os in
    let n : length (map (f 0) o.runs) + place k os ≡ length o.runs + place k os = (let h = length-map (f 0) o.runs in omega (arith, h)) in
    ap (λ (cs : List Commit). map (f 0) o.runs ++ cs) (commits-set (λ j. f (suc j)) os k p r s e more)
    ∙ sym (insert-behind (map (f 0) o.runs) rest (place k os) (f (suc k) s))
    ∙ ap (λ (i : ℕ). insert_at i (f (suc k) s) (map (f 0) o.runs ++ rest)) n

-- ---- each thread's commits

-- a thread's commits in two lists in a row are the first list's, then the second's
pub by-append : (a : Option ℕ) (xs ys : List Commit) → commits_by a (xs ++ ys) ≡ commits_by a xs ++ commits_by a ys
by-append a [] ys = refl
by-append a (x ∷ xs) ys =
    elim (cases_Bool (is_by a x)) [
      | inl h ↦ rw h (ap (λ (cs : List Commit). x ∷ cs) (by-append a xs ys))
      | inr h ↦ rw h (by-append a xs ys)
    ]

by-none : (a : Option ℕ) (f : Run → Commit) (rs : List Run) → ((r : Run) → is_by a (f r) ≡ false) → commits_by a (map f rs) ≡ []
by-none a f [] none = refl
by-none a f (r ∷ rs) none = rw (none r) (by-none a f rs none)

by-none-of : (a : Option ℕ) (f : ℕ → Run → Commit) (ps : List Share) → ((j : ℕ) (r : Run) → is_by a (f j r) ≡ false) → commits_by a (commits_of f ps) ≡ []
by-none-of a f [] none = refl
by-none-of a f (o ∷ os) none =
    by-append a (map (f 0) o.runs) (commits_of (λ j. f (suc j)) os)
    ∙ (λ i. by-none a (f 0) o.runs (none 0) i ++ by-none-of a (λ j. f (suc j)) os (λ j r. none (suc j) r) i)

-- one commit's list before or after those of later threads
swap-behind : (a : Option ℕ) (f : ℕ → Run → Commit) (c : Commit) (os : List Share) → (is_by a c ≡ true → (j : ℕ) (r : Run) → is_by a (f j r) ≡ false)
    → commits_by a (c ∷ []) ++ commits_by a (commits_of f os) ≡ commits_by a (commits_of f os) ++ commits_by a (c ∷ [])
swap-behind a f c os only =
    elim (cases_Bool (is_by a c)) [
      | inl h ↦ (let none = by-none-of a f os (only h) in
          ap (λ (cs : List Commit). commits_by a (c ∷ []) ++ cs) none ∙ append-nil (commits_by a (c ∷ [])) ∙ ap (λ (cs : List Commit). cs ++ commits_by a (c ∷ [])) (sym none))
      | inr h ↦ (let none : commits_by a (c ∷ []) ≡ [] = rw h refl in
          ap (λ (cs : List Commit). cs ++ commits_by a (commits_of f os)) none ∙ sym (append-nil (commits_by a (commits_of f os))) ∙ ap (λ (cs : List Commit). commits_by a (commits_of f os) ++ cs) (sym none))
    ]

abbrev OneThread : Option ℕ → (ℕ → Run → Commit) → Type 0
OneThread a f = (i j : ℕ) (r s : Run) → i ≢ j → is_by a (f i r) ≡ true → is_by a (f j s) ≡ false

each-set : (a : Option ℕ) (f : ℕ → Run → Commit) (ps : List Share) (k : ℕ) (p r : Share) (s : Run) → OneThread a f → slice_get ps k ≡ Some p → r.runs ≡ p.runs ++ s ∷ []
    → commits_by a (commits_of f (set ps k r)) ≡ commits_by a (commits_of f ps) ++ commits_by a (f k s ∷ [])
each-set a f [] k p r s one e more = absurd (none-some p e)
each-set a f (o ∷ os) zero p r s one e more =
    let rest : List Commit = commits_of (λ j. f (suc j)) os in
    let mine : List Commit = map (f 0) o.runs in
    let runs : r.runs ≡ o.runs ++ s ∷ [] = more ∙ ap (λ (x : Share). x.runs ++ s ∷ []) (sym (same_some o p e)) in
    ap (λ (rs : List Run). commits_by a (map (f 0) rs ++ rest)) runs
    ∙ ap (λ (cs : List Commit). commits_by a (cs ++ rest)) (map-push (f 0) o.runs s)
    ∙ by-append a (mine ++ f 0 s ∷ []) rest
    ∙ ap (λ (cs : List Commit). cs ++ commits_by a rest) (by-append a mine (f 0 s ∷ []))
    ∙ append_assoc (commits_by a mine) (commits_by a (f 0 s ∷ [])) (commits_by a rest)
    ∙ ap (λ (cs : List Commit). commits_by a mine ++ cs) (swap-behind a (λ j. f (suc j)) (f 0 s) os (λ is j t. one 0 (suc j) s t (λ h. omega arith) is))
    ∙ sym (append_assoc (commits_by a mine) (commits_by a rest) (commits_by a (f 0 s ∷ [])))
    ∙ ap (λ (cs : List Commit). cs ++ commits_by a (f 0 s ∷ [])) (sym (by-append a mine rest))
each-set a f (o ∷ os) (suc k) p r s one e more =
    let rest : List Commit = commits_of (λ j. f (suc j)) os in
    let mine : List Commit = map (f 0) o.runs in
    by-append a mine (commits_of (λ j. f (suc j)) (set os k r))
    ∙ ap (λ (cs : List Commit). commits_by a mine ++ cs) (each-set a (λ j. f (suc j)) os k p r s (λ i j t u ne is. one (suc i) (suc j) t u (λ h. ne (omega arith)) is) e more)
    ∙ sym (append_assoc (commits_by a mine) (commits_by a rest) (commits_by a (f (suc k) s ∷ [])))
    ∙ ap (λ (cs : List Commit). cs ++ commits_by a (f (suc k) s ∷ [])) (sym (by-append a mine rest))

one-thread : (a : Option ℕ) → OneThread a chunk_commit
one-thread None i j r s ne is = absurd (true≢false (sym is))
one-thread (Some k) i j r s ne is = let e = eqb-true k i is in ne_eqb k j (λ h. ne (omega arith))

each-more : (a : Option ℕ) (q : Rule) (x : StratumState) (k : ℕ) (p : Share) → slice_get x.shares k ≡ Some p
    → commits_by a (commits_of chunk_commit (slice_set x.shares k (share_more q x.memory p))) ≡ commits_by a (commits_of chunk_commit x.shares) ++ commits_by a (chunk_commit k (next_run q x.memory p) ∷ [])
unfolding share_more
each-more a q x k p is = each-set a chunk_commit x.shares k p (share_more q x.memory p) (next_run q x.memory p) (one-thread a) is refl

commits-more : (q : Rule) (x : StratumState) (k : ℕ) (p : Share) → slice_get x.shares k ≡ Some p
    → commits_of chunk_commit (slice_set x.shares k (share_more q x.memory p)) ≡ insert_at (place k x.shares) (chunk_commit k (next_run q x.memory p)) (commits_of chunk_commit x.shares)
unfolding share_more
commits-more q x k p is = commits-set chunk_commit x.shares k p (share_more q x.memory p) (next_run q x.memory p) is refl

-- ---- one commit more, where the stratum stands at x

-- a play like the stratum's state does a thread's good next commit, and stays like the state
pub like-more : (log : LogParts) (y z : Played) (x : StratumState) (k : ℕ) (p : Share) → slice_get x.shares k ≡ Some p → IsGood log k x.memory p → IsLike (with_state log y x) z
    → StepsOn log y z x (with_more (rule_of log) x k (Some p)) k
like-more log y z x k p is good like =
    let q : Rule = rule_of log k in
    let r : Run = next_run q x.memory p in
    let e : Effect = effect_of log k z.progress.request r in
    let u : Used = used_of log k r z.used in
    let there : slice_get z.threads k ≡ Some p.thread =
    ap (λ (ts : List Parts). slice_get ts k) like.threads ∙ get-map thread_in x.shares k ∙ ap (option_map thread_in) is in
    let chunk : next_kind p.thread z.memory ≡ None = ap (next_kind p.thread) like.memory ∙ good.chunk in
    let goes : chunk_verdict log z.progress z.used k (run z.memory p.thread (size_or_standard log k p.thread.commits)) ≡ Goes e u =
    ap (λ (m : List ℕ). chunk_verdict log z.progress z.used k (run m p.thread (size_or_standard log k p.thread.commits))) like.memory
    ∙ logged-goes log z.progress z.used k r good.logged in
    let end : play_turn log z (Turn k) ≡ settled log z k (Goes e u) =
    ap (play_thread log z k) there
    ∙ ap (λ (o : Option Kind). settled log z k (thread_verdict log z k p.thread o)) chunk
    ∙ ap (settled log z k) goes in
    let after : StratumState = with_more (rule_of log) x k (Some p) in
    let n : ℕ = q.raises r.thread in
    let sum : (y.used.interrupts + raised_of x.shares) + n ≡ y.used.interrupts + raised_of after.shares = (let h = raised-more q x k p is in omega (arith, h)) in
    let old : List Commit = commits_of chunk_commit x.shares in
    let new : List Commit = commits_of chunk_commit after.shares in
    let c : Commit = chunk_commit k r in
    let placed : new ≡ insert_at (place k x.shares) c old = commits-more q x k p is in
    let longer : length new ≡ suc (length old) = ap (λ (cs : List Commit). length cs) placed ∙ length-insert (place k x.shares) c old in
    let count : length (z.progress.commits ++ c ∷ []) ≡ length (y.progress.commits ++ new) =
    (let a = length-append z.progress.commits (c ∷ []) in let b = length-append y.progress.commits new in let d = length-append y.progress.commits old in let h = like.count in omega (arith, a, b, d, h, longer)) in
    record {
      goes = record { thread = p.thread; there = there; chunk = chunk; effect = e; used = u; goes = goes };
      like = subst (λ (w : Played). IsLike (with_state log y after) w) (sym end)
          (record {
            memory = ap (λ (m : List ℕ). lays m r.words) like.memory;
            threads = append-nil _ ∙ ap (λ (ts : List Parts). slice_set ts k (q.settle r.thread)) like.threads ∙ threads-more q x k p;
            request = like.request;
            used = ap (used_of log k r) like.used ∙ (λ i. record y.used { interrupts = sum i });
            first = like.first;
            count = count;
            each = λ by.
                by-append by z.progress.commits (c ∷ [])
                ∙ ap (λ (cs : List Commit). cs ++ commits_by by (c ∷ [])) (like.each by ∙ by-append by y.progress.commits old)
                ∙ append_assoc (commits_by by y.progress.commits) (commits_by by old) (commits_by by (c ∷ []))
                ∙ ap (λ (cs : List Commit). commits_by by y.progress.commits ++ cs) (sym (each-more by q x k p is))
                ∙ sym (by-append by y.progress.commits new);
          });
      commit = c;
      actor = refl;
      appended = ap (λ (w : Played). w.progress.commits) end;
      placed = placed;
      last = ap (λ (w : Played). w.progress.last) end;
      looked = subst (λ (w : Played). IsLooked log w) (sym end) refl;
    }

-- ---- what goes within a stratum

-- thread k's commit number i of the stratum, on the memory of the thread alone, is a chunk and goes as logged
pub record GoodAt (log : LogParts) (y : Played) (k i : ℕ) : Type 0 where
  pub thread : Parts
  pub there : slice_get y.threads k ≡ Some thread
  pub good : let p = alone (rule_of log k) y.memory thread i in IsGood log k (lays y.memory p.words) p

abbrev pub AreGood : LogParts → Played → (ℕ → ℕ) → Type 0
AreGood log y count = (k i : ℕ) → i < count k → GoodAt log y k i

-- a stratum's memory is that at its start with the words of all shares laid over it
pub memory-of : (q : ℕ → Rule) (m : List ℕ) (ts : List Parts) (done : ℕ → ℕ) → (state_at q m ts done).memory ≡ lays m (words_of (shares_at q m ts done))
unfolding state_at
memory-of q m ts done = refl

-- thread k's next commit, on the memory of all, is good where it is so on the memory of the thread alone
good-now : (log : LogParts) (y : Played) (done : ℕ → ℕ) (k : ℕ) (t : Parts) → slice_get y.threads k ≡ Some t
    → let p = alone (rule_of log k) y.memory t (done k) in OthersMiss (next_seen (rule_of log k) (lays y.memory p.words) p) k (shares_at (rule_of log) y.memory y.threads done)
    → IsGood log k (lays y.memory p.words) p → IsGood log k (state_at (rule_of log) y.memory y.threads done).memory p
good-now log y done k t is miss good =
    let q : ℕ → Rule = rule_of log in
    let p : Share = alone (q k) y.memory t (done k) in
    let ps : List Share = shares_at q y.memory y.threads done in
    let base : List ℕ = lays y.memory p.words in
    let n : ℕ = (q k).size p.thread in
    subst (λ (m : List ℕ). IsGood log k m p) (sym (memory-of q y.memory y.threads done))
    (good-local log k base (lays y.memory (words_of ps)) p
    (Agree-less (footprint base p.thread n) (looks base p.thread n) base (lays y.memory (words_of ps)) (λ a e. or_left _ _ e)
    (agree-others (next_seen (q k) base p) y.memory ps k p (alone-get q y.memory y.threads done k t is) miss))
    good)

-- thread k's next commit starts from its share, if that is there
pub commit-is : (q : ℕ → Rule) (x : StratumState) (k : ℕ) (p : Share) → slice_get x.shares k ≡ Some p → with_more q x k (Some p) ≡ commit_more q x k
unfolding commit_more
commit-is q x k p is = ap (with_more q x k) (sym is)

-- a good commit that others miss
like-next : (log : LogParts) (y z : Played) (done : ℕ → ℕ) (k : ℕ) (t : Parts) → slice_get y.threads k ≡ Some t
    → let p = alone (rule_of log k) y.memory t (done k) in OthersMiss (next_seen (rule_of log k) (lays y.memory p.words) p) k (shares_at (rule_of log) y.memory y.threads done)
    → IsGood log k (lays y.memory p.words) p → IsLike (in_stratum log y done) z
    → StepsOn log y z (state_at (rule_of log) y.memory y.threads done) (state_at (rule_of log) y.memory y.threads (bump done k)) k
like-next log y z done k t is miss good like =
    let q : ℕ → Rule = rule_of log in
    let p : Share = alone (q k) y.memory t (done k) in
    let x : StratumState = state_at q y.memory y.threads done in
    let there : slice_get x.shares k ≡ Some p = ap (λ (os : List Share). slice_get os k) (shares-of q y.memory y.threads done) ∙ alone-get q y.memory y.threads done k t is in
    let h = like-more log y z x k p there (good-now log y done k t is miss good) like in
    let same : with_more q x k (Some p) ≡ state_at q y.memory y.threads (bump done k) = commit-is q x k p there ∙ one-more q y.memory y.threads done k t is miss in
    subst (λ (w : StratumState). StepsOn log y z x w k) same h

-- in a stratum whose commits are parallel and good, a thread's next one goes, whatever was done before
pub step-within : (log : LogParts) (y z : Played) (count done : ℕ → ℕ) (k : ℕ) → IsParallel (rule_of log) y.memory y.threads count → AreGood log y count
    → ((j : ℕ) → bump done k j ≤ count j) → IsLike (in_stratum log y done) z
    → StepsOn log y z (state_at (rule_of log) y.memory y.threads done) (state_at (rule_of log) y.memory y.threads (bump done k)) k
step-within log y z count done k parallel good few like =
    let g : GoodAt log y k (done k) = good k (done k) (let f = few k in let h = bump_same done k in omega arith) in
    like-next log y z done k g.thread g.there (misses (rule_of log) y.memory y.threads count done k g.thread g.there parallel few) g.good like

steps-within : (log : LogParts) (y z : Played) (count done : ℕ → ℕ) (ks : List ℕ) → IsParallel (rule_of log) y.memory y.threads count → AreGood log y count
    → ((j : ℕ) → bumps done ks j ≤ count j) → IsLike (in_stratum log y done) z
    → ChunksGo log z ks × IsLike (in_stratum log y (bumps done ks)) (plays_of log z ks)
steps-within log y z count done [] parallel good few like = (tt, like)
steps-within log y z count done (k ∷ ks) parallel good few like =
    let h = step-within log y z count done k parallel good (λ j. let a = bumps_more (bump done k) ks j in let b = few j in omega arith) like in
    let rest = steps-within log y (play_turn log z (Turn k)) count (bump done k) ks parallel good few h.like in
    ((h.goes, rest.0), rest.1)

-- ---- commits that are checked one after the other

-- what goes on the memory of all, and conflicts with nothing there, goes on the memory of the thread alone
good-alone : (log : LogParts) (y : Played) (done : ℕ → ℕ) (k : ℕ) (t : Parts) → slice_get y.threads k ≡ Some t → let p = alone (rule_of log k) y.memory t (done k) in
    IsClear (rule_of log k) (state_at (rule_of log) y.memory y.threads done) k p → IsGood log k (state_at (rule_of log) y.memory y.threads done).memory p → IsGood log k (lays y.memory p.words) p
unfolding state_at
good-alone log y done k t is clear good =
    let q : ℕ → Rule = rule_of log in
    let p : Share = alone (q k) y.memory t (done k) in
    let ps : List Share = shares_at q y.memory y.threads done in
    let base : List ℕ = lays y.memory p.words in
    let now : List ℕ = lays y.memory (words_of ps) in
    let n : ℕ = (q k).size p.thread in
    let g = agree-others (next_seen (q k) now p) y.memory ps k p (alone-get q y.memory y.threads done k t is) clear.miss in
    good-local log k now base p (Agree-less (footprint now p.thread n) (looks now p.thread n) now base (λ a e. or_left _ _ e) (Agree_sym _ base now g)) good

-- the chunk that thread k, which is there as p, does
pub good-found : (log : LogParts) (z : Played) (k : ℕ) (m : List ℕ) (p : Share) (c : ChunkGoes log z k) → 0 < log.s → z.memory ≡ m → p.thread ≡ c.thread → IsGood log k m p
good-found log z k m p c l memory same =
    make-good log k m p l
    ((λ i. next_kind (same i) (sym memory i)) ∙ c.chunk)
    (subst (IsLogged log k) (λ i. run (memory i) (sym same i) (size_or_standard log k (sym same i).commits))
    (goes-logged log z.progress z.used c.used k (run z.memory c.thread (size_or_standard log k c.thread.commits)) c.effect c.goes))

more-good : (log : LogParts) (y : Played) (done : ℕ → ℕ) (k : ℕ) → GoodAt log y k (done k) → AreGood log y done → AreGood log y (bump done k)
more-good log y done k g good j i l =
    elim (cases_eq j k) [
      | inr ne ↦ good j i (let h = bump_other done k j ne in omega arith)
      | inl e ↦ (
          let few : i < suc (done k) = subst (λ (n : ℕ). i < n) (bump_same done k) (subst (λ (a : ℕ). i < bump done k a) e l) in
          subst (λ (a : ℕ). GoodAt log y a i) (sym e)
          (elim (cases_lt i (done k)) [
            | inl h ↦ good k i h
            | inr h ↦ (let same : done k ≡ i = omega arith in subst (λ (n : ℕ). GoodAt log y k n) same g)
          ])
          )
    ]

pub record Checked (log : LogParts) (y z : Played) (done : ℕ → ℕ) : Type 0 where
  pub parallel : IsParallel (rule_of log) y.memory y.threads done
  pub good : AreGood log y done
  pub like : IsLike (in_stratum log y done) z

checked-found : (log : LogParts) (y z : Played) (done : ℕ → ℕ) (k : ℕ) (t : Parts) (c : ChunkGoes log z k) → 0 < log.s → Checked log y z done
    → ((p : Share) → slice_get (state_at (rule_of log) y.memory y.threads done).shares k ≡ Some p → IsClear (rule_of log k) (state_at (rule_of log) y.memory y.threads done) k p)
    → slice_get y.threads k ≡ Some t → (alone (rule_of log k) y.memory t (done k)).thread ≡ c.thread → Checked log y (play_turn log z (Turn k)) (bump done k)
checked-found log y z done k t c l checked clear is same =
    let q : ℕ → Rule = rule_of log in
    let x : StratumState = state_at q y.memory y.threads done in
    let p : Share = alone (q k) y.memory t (done k) in
    let there : slice_get x.shares k ≡ Some p = ap (λ (os : List Share). slice_get os k) (shares-of q y.memory y.threads done) ∙ alone-get q y.memory y.threads done k t is in
    let cl : Clear q y.memory y.threads done k p = clear-alone q y.memory y.threads done k t is (clear p there) in
    let good : IsGood log k (lays y.memory p.words) p = good-alone log y done k t is (clear p there) (good-found log z k x.memory p c l checked.like.memory same) in
    record {
      parallel = more-parallel q y.memory y.threads done k t is cl checked.parallel;
      good = more-good log y done k (record { thread = t; there = is; good = good }) checked.good;
      like = (like-next log y z done k t is cl.miss good checked.like).like;
    }

checked-one : (log : LogParts) (y z : Played) (done : ℕ → ℕ) (k : ℕ) → 0 < log.s → Checked log y z done → ChunkGoes log z k
    → ((p : Share) → slice_get (state_at (rule_of log) y.memory y.threads done).shares k ≡ Some p → IsClear (rule_of log k) (state_at (rule_of log) y.memory y.threads done) k p)
    → Checked log y (play_turn log z (Turn k)) (bump done k)
checked-one log y z done k l checked c clear =
    let q : ℕ → Rule = rule_of log in
    let x : StratumState = state_at q y.memory y.threads done in
    let a = mapped thread_in (slice_get x.shares k) c.thread (sym (get-map thread_in x.shares k) ∙ ap (λ (ts : List Parts). slice_get ts k) (sym checked.like.threads) ∙ c.there) in
    let b = mapped (λ t. alone (q k) y.memory t (done k)) (slice_get y.threads k) a.0 (sym (shares_at-get q y.memory y.threads done k) ∙ ap (λ (os : List Share). slice_get os k) (sym (shares-of q y.memory y.threads done)) ∙ a.1.0) in
    checked-found log y z done k b.0 c l checked clear b.1.0 (ap thread_in b.1.1 ∙ a.1.1)

checked-all : (log : LogParts) (y z : Played) (done : ℕ → ℕ) (ks : List ℕ) → 0 < log.s → Checked log y z done → ChunksGo log z ks → AreClear (rule_of log) (state_at (rule_of log) y.memory y.threads done) ks
    → Checked log y (plays_of log z ks) (bumps done ks)
checked-all log y z done [] l checked go clear = checked
checked-all log y z done (k ∷ ks) l checked go clear =
    let next : Checked log y (play_turn log z (Turn k)) (bump done k) = checked-one log y z done k l checked go.0 clear.0 in
    let same : commit_more (rule_of log) (state_at (rule_of log) y.memory y.threads done) k ≡ state_at (rule_of log) y.memory y.threads (bump done k) =
    (checked-step (rule_of log) y.memory y.threads done k (slice_get y.threads k) refl checked.parallel clear.0).same in
    checked-all log y (play_turn log z (Turn k)) (bump done k) ks l next go.1 (subst (λ (x : StratumState). AreClear (rule_of log) x ks) same clear.1)

-- ---- the stratum's start

started-threads : (ts : List Parts) → ts ≡ map thread_in (map empty_share ts)
started-threads [] = refl
started-threads (t ∷ ts) = ap (λ (us : List Parts). t ∷ us) (started-threads ts)

none-raised : (ts : List Parts) → raised_of (map empty_share ts) ≡ 0
none-raised [] = refl
none-raised (t ∷ ts) = let h = none-raised ts in omega (arith, h)

-- at the start of a stratum its shares have no commits
pub none-committed : (f : ℕ → Run → Commit) (ts : List Parts) → commits_of f (map empty_share ts) ≡ []
none-committed f [] = refl
none-committed f (t ∷ ts) = none-committed (λ k. f (suc k)) ts

-- a play is like the one inside a stratum that begins there and has no commits yet
pub like-start : (log : LogParts) (y : Played) → IsLike (in_stratum log y (λ k. 0)) y
like-start log y =
    let c : y.progress.commits ≡ y.progress.commits ++ commits_of chunk_commit (map empty_share y.threads) =
    sym (append-nil y.progress.commits) ∙ ap (λ (cs : List Commit). y.progress.commits ++ cs) (sym (none-committed chunk_commit y.threads)) in
    let n : y.used.interrupts ≡ y.used.interrupts + raised_of (map empty_share y.threads) = (let h = none-raised y.threads in omega (arith, h)) in
    subst (λ (x : StratumState). IsLike (with_state log y x) y) (at-start (rule_of log) y.memory y.threads)
    (record { memory = refl; threads = started-threads y.threads; request = refl; used = λ i. record y.used { interrupts = n i }; first = refl; count = ap (λ (cs : List Commit). length cs) c; each = λ by. ap (commits_by by) c })

checked-start : (log : LogParts) (y : Played) → Checked log y y (λ k. 0)
checked-start log y =
    record {
      parallel = none-parallel (rule_of log) y.memory y.threads;
      good = λ k i l. absurd (omega arith);
      like = like-start log y;
    }

-- a stratum's commits are parallel and good, and leave a play like the one that their numbers give
pub checked-stratum : (log : LogParts) (y : Played) (ks : List ℕ) → 0 < log.s → IsStratum log y ks → Checked log y (plays_of log y ks) (counts_of ks)
checked-stratum log y ks l s =
    checked-all log y y (λ i. 0) ks l (checked-start log y) s.go
    (subst (λ (x : StratumState). AreClear (rule_of log) x ks) (at-start (rule_of log) y.memory y.threads) s.clear)

-- ---- three promises

-- a thread's next commit of a stratum goes at any time in it, whatever was done before
pub strata_step : StrataStep
strata_step log y z ks done k l s few like =
    let c = checked-stratum log y ks l s in
    step-within log y z (counts_of ks) done k c.parallel c.good few like

-- a stratum's commits in its own order leave a play like the one that their numbers give
pub strata_played : StrataPlayed
strata_played log y ks l s = (checked-stratum log y ks l s).like

-- in any order, some or all of a stratum's commits go, and leave what their numbers give
pub strata_interleave : StrataInterleave
strata_interleave log y ks js l s few =
    let c = checked-stratum log y ks l s in
    let h = steps-within log y y (counts_of ks) (λ i. 0) js c.parallel c.good few (like-start log y) in
    (record { go = h.0; clear = parallel_ones_are_clear (rule_of log) y.memory y.threads (counts_of ks) js c.parallel few }, h.1)
