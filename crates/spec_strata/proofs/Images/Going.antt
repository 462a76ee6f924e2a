-- The canonical log's play goes through strata that are parallel on the image.
use Rattle.std.proofs.Common.{◌≡◌, ◌≢◌, ℕ, zero, suc, ◌+◌, ◌-◌, ◌<◌, ◌≤◌, inl, inr, Bool, false, cond, List, [], ◌∷◌, ◌++◌, length, map, Option, Some, None, refl, sym, ap, ◌∙◌, subst, arith}
use Rattle.std.specs.Prelude.{slice_get, replicate, IsSome}
use Rattle.std.specs.List.{flat_map}
use Rattle.std.proofs.lemmas.Bool.{cases_lt, lt-ltb, le-ltb}
use Rattle.std.proofs.lemmas.List.{length-map}
use Rattle.dl_entry.specs.declared.Actor.{Actor}
use Rattle.dl_entry.specs.declared.Commit.{Commit}
use Rattle.dl_entry.specs.declared.CommitKind.{CommitKind}
use Rattle.dl_entry.specs.declared.End.{End}
use Rattle.spec_isa.specs.declared.thread.Kind.{Kind}
use Rattle.spec_log.specs.declared.LogParts.{LogParts}
use Rattle.spec_log.specs.declared.ModeName.{ModeName}
use Rattle.spec_kernel.specs.Needs.{next_kind}
use Rattle.spec_play.specs.Progress.{position}
use Rattle.spec_play.specs.Turns.{TurnOrEnd, Turn, TurnOfDma, Ended}
use Rattle.spec_play.specs.Plays.{Played, opened, thread_verdict, play_turn, play_one, plays, play}
use Rattle.spec_strata.specs.declared.stratum.Stratum.{Stratum}
use Rattle.spec_strata.specs.declared.stratum.Stratum.TheVariants.{Chunks, Serial, Dma}
use Rattle.spec_strata.specs.Strata.{commits_in}
use Rattle.spec_strata.specs.Canonical.{rising, order_of, canonical}
use Rattle.spec_strata.specs.Shares.{Rule, Share, StratumState, next_run, next_seen, commit_more, stratum_start}
use Rattle.spec_strata.specs.Parallel.{AreClear, clashes, clashes_next, clashes_in}
use Rattle.spec_strata.specs.InPlay.{rule_of, ChunkGoes, ChunksGo, IsLooked}
use Rattle.spec_strata.specs.Orders.{TurnsAre}
use Rattle.spec_strata.specs.OnImages.{kinds_of, conflicts_in, conflicts_at, GoesThrough, ParallelStrataGo}
use Rattle.spec_strata.proofs.Shares.Steps.{same_by_get}
use Rattle.spec_strata.proofs.Shares.Testing.{clear_is_tested}
use Rattle.spec_strata.proofs.Plays.Canonical.{plays-shift, one-turn}
use Rattle.spec_strata.proofs.Images.Canonical.{length-rising, length-orders}
use Rattle.spec_strata.proofs.Images.Following.{kind_by, ThreadDoes, DmaDoes, Does, Follows, follows}

-- the kind of a commit: a chunk, a serial step, a DMA or a piece
abbrev pub kind_in : Commit → CommitKind
kind_in c = c.kind

-- who did a commit: a thread, or the sphere's DMA
abbrev pub actor_in : Commit → Actor
actor_in c = c.actor

-- ---- the order names the actors

-- while a play goes on to a complete end, its turn is as the log says
pub looked-of : (log : LogParts) (y : Played) (cs : List Commit) → Follows log y cs → IsLooked log y
looked-of log y [] f = f.looked
looked-of log y (c ∷ cs) f = f.0.looked

-- the commits that are done and those that follow are together as many as the log has
pub length-of : (log : LogParts) (y : Played) (cs : List Commit) → Follows log y cs → position y.progress + length cs ≡ log.count
length-of log y [] f = let h = f.done in omega (arith, h)
length-of log y (c ∷ cs) f =
    let h = length-of log (play_one log y) cs f.1 in
    let n = f.0.position_next in omega (arith, h, n)

-- in every mode except picolog, the order names the actor of each commit that follows
pub named-at : (log : LogParts) (y : Played) (cs : List Commit) (j : ℕ) → log.mode ≢ ModeName.Picolog → Follows log y cs → j < length cs → slice_get log.order (position y.progress + j) ≡ slice_get (map actor_in cs) j
named-at log y [] j ne f l = absurd (omega arith)
named-at log y (c ∷ cs) zero ne f l =
    let e : position y.progress + 0 ≡ position y.progress = omega arith in
    ap (slice_get log.order) e ∙ f.0.named ne
named-at log y (c ∷ cs) (suc j) ne f l =
    let n = f.0.position_next in
    let e : position y.progress + suc j ≡ position (play_one log y).progress + j = omega (arith, n) in
    ap (slice_get log.order) e ∙ named-at log (play_one log y) cs j ne f.1 (omega arith)

-- a list has no element at or past its length
pub get-past : {A : Type 0} (xs : List A) (j : ℕ) → length xs ≤ j → slice_get xs j ≡ None
get-past [] j l = refl
get-past (x ∷ xs) zero l = absurd (omega arith)
get-past (x ∷ xs) (suc j) l = get-past xs j (omega arith)

-- the actors of a play's commits are those of the order
pub actors-are : (log : LogParts) (y : Played) (cs : List Commit) → log.mode ≢ ModeName.Picolog → Follows log y cs → position y.progress ≡ 0 → length log.order ≡ log.count → map actor_in cs ≡ log.order
actors-are log y cs ne f start all =
    let n = length-of log y cs f in
    same_by_get (map actor_in cs) log.order
    (λ j. elim (cases_lt j (length cs)) [
      | inl l ↦ (let e : position y.progress + j ≡ j = omega (arith, start) in sym (named-at log y cs j ne f l) ∙ ap (slice_get log.order) e)
      | inr l ↦ (let m = length-map cs actor_in in get-past (map actor_in cs) j (omega (arith, l, m)) ∙ sym (get-past log.order j (omega (arith, l, n, start, all))))
    ])

-- ---- lists

-- equal lists have the same first element
pub head-same : {A : Type 0} (x y : A) (xs ys : List A) → (x ∷ xs) ≡ (y ∷ ys) → x ≡ y
head-same x y xs ys e = cc

-- equal lists have the same elements after the first
pub tail-same : {A : Type 0} (x y : A) (xs ys : List A) → (x ∷ xs) ≡ (y ∷ ys) → xs ≡ ys
tail-same x y xs ys e = cc

-- the empty list doesn't equal a list with an element
pub no-cons : {A B : Type 0} (x : A) (xs : List A) → [] ≡ (x ∷ xs) → B
no-cons x xs e = cc

-- ---- one commit

chunk-kind : (o : Option Kind) → CommitKind.Chunk ≡ kind_by o → o ≡ None
chunk-kind None e = refl
chunk-kind (Some kind) e = cc

serial-kind : (o : Option Kind) → CommitKind.Serial ≡ kind_by o → IsSome o
serial-kind None e = cc
serial-kind (Some kind) e = refl

pub record TakesTurn (log : LogParts) (y : Played) (k : ℕ) (c : Commit) : Type 0 where
  pub turn : y.now ≡ Turn k
  pub does : ThreadDoes log y k c

-- if the commit that comes next is thread k's, thread k has the turn and does it
pub takes-turn : (log : LogParts) (y : Played) (now : TurnOrEnd) (k : ℕ) (c : Commit) → y.now ≡ now → Does log y now c → c.actor ≡ Actor.Thread k → TakesTurn log y k c
takes-turn log y (Ended how) k c is does actor = absurd does
takes-turn log y TurnOfDma k c is does actor =
    let e : Actor.Dma ≡ Actor.Thread k = sym (ap actor_in does.commit) ∙ actor in cc
takes-turn log y (Turn j) k c is does actor =
    let e : Actor.Thread j ≡ Actor.Thread k = sym does.actor ∙ actor in
    let same : j ≡ k = cc in
    record { turn = is ∙ ap Turn same; does = subst (λ (n : ℕ). ThreadDoes log y n c) same does }

takes-dma : (log : LogParts) (y : Played) (now : TurnOrEnd) (c : Commit) → y.now ≡ now → Does log y now c → c.actor ≡ Actor.Dma → (y.now ≡ TurnOfDma) × DmaDoes log y c
takes-dma log y (Ended how) c is does actor = absurd does
takes-dma log y TurnOfDma c is does actor = (is, does)
takes-dma log y (Turn j) c is does actor = let e : Actor.Thread j ≡ Actor.Dma = sym does.actor ∙ actor in cc

-- if the commit of thread k's step is a chunk's, the chunk goes as logged
pub chunk-goes : (log : LogParts) (y : Played) (k : ℕ) (c : Commit) → ThreadDoes log y k c → c.kind ≡ CommitKind.Chunk → ChunkGoes log y k
chunk-goes log y k c d kind =
    let none : next_kind d.thread y.memory ≡ None = chunk-kind _ (sym kind ∙ d.kind) in
    record {
      thread = d.thread;
      there = d.there;
      chunk = none;
      effect = d.effect;
      used = d.used;
      goes = ap (thread_verdict log y k d.thread) (sym none) ∙ d.goes;
    }

-- ---- a stratum of chunks

pub record Gone (log : LogParts) (y : Played) (n : ℕ) (actors : List Actor) (kinds : List CommitKind) : Type 0 where
  pub rest : List Commit
  pub follows : Follows log (plays log y n) rest
  pub actors_left : map actor_in rest ≡ actors
  pub kinds_left : map kind_in rest ≡ kinds

gone-more : (log : LogParts) (y : Played) (n : ℕ) (actors : List Actor) (kinds : List CommitKind) → Gone log (play_one log y) n actors kinds → Gone log y (suc n) actors kinds
gone-more log y n actors kinds g =
    record {
      rest = g.rest;
      follows = subst (λ (x : Played). Follows log x g.rest) (plays-shift log y n) g.follows;
      actors_left = g.actors_left;
      kinds_left = g.kinds_left;
    }

-- if chunks of these threads follow first, they go, have the next turns, and leave the rest to follow
pub chunks-go : (log : LogParts) (y : Played) (ks : List ℕ) (cs : List Commit) (actors : List Actor) (kinds : List CommitKind) → Follows log y cs
    → map actor_in cs ≡ map Actor.Thread ks ++ actors → map kind_in cs ≡ replicate (length ks) CommitKind.Chunk ++ kinds
    → ChunksGo log y ks × TurnsAre log y ks × Gone log y (length ks) actors kinds
chunks-go log y [] cs actors kinds f as_ kinds_ = (tt, tt, record { rest = cs; follows = f; actors_left = as_; kinds_left = kinds_ })
chunks-go log y (k ∷ ks) [] actors kinds f as_ kinds_ = no-cons (Actor.Thread k) (map Actor.Thread ks ++ actors) as_
chunks-go log y (k ∷ ks) (c ∷ cs) actors kinds f as_ kinds_ =
    let actor : c.actor ≡ Actor.Thread k = head-same _ _ (map actor_in cs) (map Actor.Thread ks ++ actors) as_ in
    let kind : c.kind ≡ CommitKind.Chunk = head-same _ _ (map kind_in cs) (replicate (length ks) CommitKind.Chunk ++ kinds) kinds_ in
    let t : TakesTurn log y k c = takes-turn log y y.now k c refl f.0.does actor in
    let one : play_one log y ≡ play_turn log y (Turn k) = one-turn log y k t.turn in
    let rest = chunks-go log (play_one log y) ks cs actors kinds f.1
    (tail-same c.actor (Actor.Thread k) (map actor_in cs) (map Actor.Thread ks ++ actors) as_)
    (tail-same c.kind CommitKind.Chunk (map kind_in cs) (replicate (length ks) CommitKind.Chunk ++ kinds) kinds_) in (
      (chunk-goes log y k c t.does kind, subst (λ (x : Played). ChunksGo log x ks) one rest.0),
      (t.turn, rest.1),
      gone-more log y (length ks) actors kinds rest.2,
    )

-- ---- no conflict

-- if the test passes thread k's next commit, its footprint and stores conflict with no other share
pub next-clear : (q : ℕ → Rule) (x : StratumState) (k : ℕ) (o : Option Share) → slice_get x.shares k ≡ o → clashes_next q x k ≡ false
    → (p : Share) → o ≡ Some p → clashes (next_seen (q k) x.memory p) (next_run (q k) x.memory p).words k x.shares ≡ false
next-clear q x k o is e p some =
    sym (ap (λ (s : Option Share). elim s [ None ↦ false | Some r ↦ clashes (next_seen (q k) x.memory r) (next_run (q k) x.memory r).words k x.shares ]) (is ∙ some)) ∙ e

-- commits are clear if the test finds no conflict in any of them, one after the other
pub clear-from : (q : ℕ → Rule) (x : StratumState) (ks : List ℕ) → ((i : ℕ) → clashes_in q x ks i ≡ false) → AreClear q x ks
clear-from q x [] none = tt
clear-from q x (k ∷ ks) none = (
  (λ p is. (clear_is_tested (q k) x k p).0 (next-clear q x k (slice_get x.shares k) refl (none 0) p is)),
  clear-from q (commit_more q x k) ks (λ i. none (suc i)),
)

past-none : (q : ℕ → Rule) (x : StratumState) (ks : List ℕ) (i : ℕ) → length ks ≤ i → clashes_in q x ks i ≡ false
past-none q x [] i l = refl
past-none q x (k ∷ ks) zero l = absurd (omega arith)
past-none q x (k ∷ ks) (suc i) l = past-none q (commit_more q x k) ks i (omega arith)

-- what is said of all strata is said of the first, and of the rest
first-none : (log : LogParts) (y : Played) (x : Stratum) (xs : List Stratum) → ((i : ℕ) → conflicts_at log y (x ∷ xs) i ≡ false) → (i : ℕ) → i < commits_in x → conflicts_in log y x i ≡ false
first-none log y x xs none i l =
    sym (ap (λ (b : Bool). cond b (conflicts_in log y x i) (conflicts_at log (plays log y (commits_in x)) xs (i - commits_in x))) (lt-ltb i (commits_in x) l)) ∙ none i

rest-none : (log : LogParts) (y : Played) (x : Stratum) (xs : List Stratum) → ((i : ℕ) → conflicts_at log y (x ∷ xs) i ≡ false) → (i : ℕ) → conflicts_at log (plays log y (commits_in x)) xs i ≡ false
rest-none log y x xs none i =
    let n : ℕ = commits_in x in
    let less : (n + i) - n ≡ i = omega arith in
    ap (conflicts_at log (plays log y n) xs) (sym less)
    ∙ sym (ap (λ (b : Bool). cond b (conflicts_in log y x (n + i)) (conflicts_at log (plays log y n) xs ((n + i) - n))) (le-ltb (n + i) n (omega arith)))
    ∙ none (n + i)

chunks-clear : (log : LogParts) (y : Played) (counts : List ℕ) (xs : List Stratum) → ((i : ℕ) → conflicts_at log y (Chunks counts ∷ xs) i ≡ false)
    → AreClear (rule_of log) (stratum_start y.memory y.threads) (rising 0 counts)
chunks-clear log y counts xs none =
    let ks : List ℕ = rising 0 counts in
    clear-from (rule_of log) (stratum_start y.memory y.threads) ks
    (λ i. elim (cases_lt i (commits_in (Chunks counts))) [
      | inl l ↦ first-none log y (Chunks counts) xs none i l
      | inr l ↦ (let n = length-rising 0 counts in past-none (rule_of log) (stratum_start y.memory y.threads) ks i (omega (arith, l, n)))
    ])

-- ---- all strata

nothing-left : (log : LogParts) (y : Played) (cs : List Commit) → Follows log y cs → map kind_in cs ≡ [] → y.now ≡ Ended (End.Complete log.count)
nothing-left log y [] f none = f.complete
nothing-left log y (c ∷ cs) f none = no-cons c.kind (map kind_in cs) (sym none)

-- a play goes through strata if its commits have their actors and kinds, and none conflicts
pub go-through : (log : LogParts) (y : Played) (xs : List Stratum) (cs : List Commit) → Follows log y cs → map actor_in cs ≡ flat_map order_of xs → map kind_in cs ≡ flat_map kinds_of xs
    → ((i : ℕ) → conflicts_at log y xs i ≡ false) → GoesThrough log y xs
go-through log y [] cs f as_ kinds none = nothing-left log y cs f kinds
go-through log y (Chunks counts ∷ xs) cs f as_ kinds none =
    let ks : List ℕ = rising 0 counts in
    let n : length ks ≡ commits_in (Chunks counts) = length-rising 0 counts in
    let g = chunks-go log y ks cs (flat_map order_of xs) (flat_map kinds_of xs) f as_ (kinds ∙ ap (λ (i : ℕ). replicate i CommitKind.Chunk ++ flat_map kinds_of xs) (sym n)) in
    let gone : Gone log y (length ks) (flat_map order_of xs) (flat_map kinds_of xs) = g.2 in (
      looked-of log y cs f,
      (record { go = g.0; clear = chunks-clear log y counts xs none }, g.1),
      go-through log (plays log y (commits_in (Chunks counts))) xs gone.rest (subst (λ (i : ℕ). Follows log (plays log y i) gone.rest) n gone.follows) gone.actors_left gone.kinds_left
          (rest-none log y (Chunks counts) xs none),
    )
go-through log y (Serial k ∷ xs) [] f as_ kinds none = no-cons (Actor.Thread k) (flat_map order_of xs) as_
go-through log y (Serial k ∷ xs) (c ∷ cs) f as_ kinds none =
    let actor : c.actor ≡ Actor.Thread k = head-same _ _ (map actor_in cs) (flat_map order_of xs) as_ in
    let kind : c.kind ≡ CommitKind.Serial = head-same _ _ (map kind_in cs) (flat_map kinds_of xs) kinds in
    let t : TakesTurn log y k c = takes-turn log y y.now k c refl f.0.does actor in
    let d : ThreadDoes log y k c = t.does in (
      looked-of log y (c ∷ cs) f,
      record {
        turn = t.turn;
        step = record { thread = d.thread; there = d.there; effect = d.effect; used = d.used; goes = d.goes };
        serial = serial-kind (next_kind d.thread y.memory) (sym kind ∙ d.kind);
      },
      go-through log (play_one log y) xs cs f.1 (tail-same c.actor (Actor.Thread k) (map actor_in cs) (flat_map order_of xs) as_)
          (tail-same c.kind CommitKind.Serial (map kind_in cs) (flat_map kinds_of xs) kinds)
          (rest-none log y (Serial k) xs none),
    )
go-through log y (Dma ∷ xs) [] f as_ kinds none = no-cons Actor.Dma (flat_map order_of xs) as_
go-through log y (Dma ∷ xs) (c ∷ cs) f as_ kinds none =
    let actor : c.actor ≡ Actor.Dma = head-same _ _ (map actor_in cs) (flat_map order_of xs) as_ in
    let t = takes-dma log y y.now c refl f.0.does actor in
    let d : DmaDoes log y c = t.1 in (
      looked-of log y (c ∷ cs) f,
      (t.0, (d.words, d.goes)),
      go-through log (play_one log y) xs cs f.1 (tail-same c.actor Actor.Dma (map actor_in cs) (flat_map order_of xs) as_)
          (tail-same c.kind CommitKind.Dma (map kind_in cs) (flat_map kinds_of xs) kinds)
          (rest-none log y Dma xs none),
    )

ordered : ModeName.OrderOnly ≢ ModeName.Picolog
ordered e = cc

-- the canonical log's play goes through strata that are parallel on the image
pub parallel_strata_go : ParallelStrataGo
parallel_strata_go v memory entry p =
    let log : LogParts = canonical v in
    let start : Played = opened log memory entry in
    let cs : List Commit = (play log memory entry).progress.commits in
    let f : Follows log start cs = follows log memory entry p.fits in
    go-through log start v.strata cs f (actors-are log start cs ordered f refl (length-orders v.strata)) p.kinds p.apart
