-- The canonical log of the strata that a log is cut into plays as the log does, except for the order within strata.
use Rattle.std.proofs.Common.{◌≡◌, ◌≢◌, ℕ, zero, suc, ◌+◌, ◌-◌, ◌<◌, inl, inr, Bool, false, cond, List, [], ◌∷◌, ◌++◌, length, map, Option, Some, None, refl, sym, ap, ◌∙◌, subst, arith}
use Rattle.std.specs.Prelude.{slice_get, replicate}
use Rattle.std.specs.List.{flat_map, range_with_len}
use Rattle.std.proofs.lemmas.Bool.{cases_lt, lt-ltb, le-ltb}
use Rattle.std.proofs.lemmas.List.{append-nil, append_assoc, length-append, length-map}
use Rattle.std.proofs.lemmas.List.Sums.{sum_by-cons}
use Rattle.dl_entry.specs.declared.Actor.{Actor}
use Rattle.dl_entry.specs.declared.CommitKind.{CommitKind}
use Rattle.spec_isa.specs.declared.thread.Parts.{Parts}
use Rattle.spec_isa.specs.declared.thread.Kind.{Kind}
use Rattle.spec_isa.specs.Runs.{run}
use Rattle.spec_log.specs.declared.LogParts.{LogParts}
use Rattle.spec_log.specs.declared.ModeName.{ModeName}
use Rattle.spec_kernel.specs.Interrupts.{is_live}
use Rattle.spec_kernel.specs.Needs.{next_kind}
use Rattle.spec_play.specs.Effects.{Effect, dma_commit}
use Rattle.spec_play.specs.Progress.{Progress, position}
use Rattle.spec_play.specs.declared.used.Used.{Used}
use Rattle.spec_play.specs.Turns.{TurnOrEnd, Turn, TurnOfDma, Ended, turn_of, now_at}
use Rattle.spec_play.specs.Verdicts.{Goes}
use Rattle.spec_play.specs.Plays.{Played, settled, size_or_standard, thread_verdict, play_thread, dma_settled, play_turn, play_one, plays}
use Rattle.spec_strata.specs.declared.stratum.Stratum.{Stratum}
use Rattle.spec_strata.specs.declared.stratum.Stratum.TheVariants.{Serial, Dma}
use Rattle.spec_strata.specs.declared.stratum.Stratum.TheVariants.{Chunks as StratumChunks}
use Rattle.spec_strata.specs.Strata.{commits_in, commits_in_all}
use Rattle.spec_strata.specs.Canonical.{rising, order_of}
use Rattle.spec_strata.specs.Shares.{Rule, Share, StratumState, next_run, next_seen, commit_more, stratum_start, counts_of}
use Rattle.spec_strata.specs.Parallel.{IsClear, AreClear, clashes, clashes_next, clashes_in}
use Rattle.spec_strata.specs.InPlay.{rule_of, ChunkGoes, plays_of, ChunksGo, IsLike, IsLooked, IsStratum}
use Rattle.spec_strata.specs.Orders.{TurnsAre, Names}
use Rattle.spec_strata.specs.Blocks.{Block, Chunks, Alone, in_canonical_order}
use Rattle.spec_strata.specs.Relogged.{SaysAll, GoesNow}
use Rattle.spec_strata.specs.OnImages.{kinds_of, conflicts_in, conflicts_at}
use Rattle.spec_strata.proofs.Shares.Testing.{clear_is_tested}
use Rattle.spec_strata.proofs.Plays.Canonical.{plays-shift, one-turn}
use Rattle.spec_strata.proofs.Plays.Turning.{turn-now, orders_turn}
use Rattle.spec_strata.proofs.Logs.Strata.{play-is, strata_relog}
use Rattle.spec_strata.proofs.Logs.All.{Both, now-relogged}
use Rattle.spec_strata.proofs.Images.Canonical.{length-rising, length-order}
use Rattle.spec_strata.proofs.Images.Following.{kind_by, IsBy, chunk-by, verdict-by, below-is, has-order, Over}
use Rattle.spec_strata.proofs.Images.Going.{kind_in}
use Rattle.spec_strata.proofs.Making.Cutting.{CutRight, AloneRight, GoesBy, stratum_for}
use Rattle.spec_strata.proofs.Making.Counting.{counts-same, live-too}

-- ---- chunks

turns-play : (log : LogParts) (y : Played) (ks : List ℕ) → TurnsAre log y ks → plays log y (length ks) ≡ plays_of log y ks
turns-play log y [] turns = refl
turns-play log y (k ∷ ks) turns =
    sym (plays-shift log y (length ks)) ∙ turns-play log (play_one log y) ks turns.1
    ∙ ap (λ (z : Played). plays_of log z ks) (one-turn log y k turns.0)

-- what one step leaves: a commit of a kind, and the turn is looked at
pub record Left (log : LogParts) (y z : Played) (kinds : List CommitKind) : Type 0 where
  pub kinds_are : map kind_in z.progress.commits ≡ map kind_in y.progress.commits ++ kinds
  pub first : z.progress.first ≡ y.progress.first
  pub looked : IsLooked log z

map-push : {A B : Type 0} (f : A → B) (xs : List A) (x : A) → map f (xs ++ x ∷ []) ≡ map f xs ++ f x ∷ []
map-push f [] x = refl
map-push f (y ∷ ys) x = ap (λ zs. f y ∷ zs) (map-push f ys x)

settled-left : (log : LogParts) (y : Played) (k : ℕ) (e : Effect) (u : Used) (kind : CommitKind) → e.commit.kind ≡ kind → Left log y (settled log y k (Goes e u)) (kind ∷ [])
settled-left log y k e u kind is =
    record {
      kinds_are = map-push kind_in y.progress.commits e.commit ∙ ap (λ (x : CommitKind). map kind_in y.progress.commits ++ x ∷ []) is;
      first = refl;
      looked = refl;
    }

chunk-left : (log : LogParts) (y : Played) (k : ℕ) → ChunkGoes log y k → Left log y (play_turn log y (Turn k)) (CommitKind.Chunk ∷ [])
chunk-left log y k c =
    let by : IsBy k CommitKind.Chunk (Goes c.effect c.used) = subst (IsBy k CommitKind.Chunk) c.goes (chunk-by log y.progress y.used k (run y.memory c.thread (size_or_standard log k c.thread.commits))) in
    subst (λ (z : Played). Left log y z (CommitKind.Chunk ∷ [])) (sym (play-is log y k c.thread c.effect c.used c.there c.chunk c.goes))
    (settled-left log y k c.effect c.used CommitKind.Chunk by.1)

chunks-left : (log : LogParts) (y : Played) (ks : List ℕ) → IsLooked log y → ChunksGo log y ks → Left log y (plays_of log y ks) (replicate (length ks) CommitKind.Chunk)
chunks-left log y [] looked go = record { kinds_are = sym (append-nil (map kind_in y.progress.commits)); first = refl; looked = looked }
chunks-left log y (k ∷ ks) looked go =
    let a : Left log y (play_turn log y (Turn k)) (CommitKind.Chunk ∷ []) = chunk-left log y k go.0 in
    let b = chunks-left log (play_turn log y (Turn k)) ks a.looked go.1 in
    record {
      kinds_are = b.kinds_are ∙ ap (λ (xs : List CommitKind). xs ++ replicate (length ks) CommitKind.Chunk) a.kinds_are
          ∙ append_assoc (map kind_in y.progress.commits) (CommitKind.Chunk ∷ []) (replicate (length ks) CommitKind.Chunk);
      first = b.first ∙ a.first;
      looked = b.looked;
    }

-- ---- no conflict

none-next : (q : ℕ → Rule) (x : StratumState) (k : ℕ) (o : Option Share) → slice_get x.shares k ≡ o → ((p : Share) → slice_get x.shares k ≡ Some p → IsClear (q k) x k p) → clashes_next q x k ≡ false
none-next q x k None is clear =
    ap (λ (s : Option Share). elim s [ None ↦ false | Some r ↦ clashes (next_seen (q k) x.memory r) (next_run (q k) x.memory r).words k x.shares ]) is
none-next q x k (Some p) is clear =
    ap (λ (s : Option Share). elim s [ None ↦ false | Some r ↦ clashes (next_seen (q k) x.memory r) (next_run (q k) x.memory r).words k x.shares ]) is
    ∙ (clear_is_tested (q k) x k p).1 (clear p is)

clear-none : (q : ℕ → Rule) (x : StratumState) (ks : List ℕ) (i : ℕ) → AreClear q x ks → clashes_in q x ks i ≡ false
clear-none q x [] i clear = refl
clear-none q x (k ∷ ks) zero clear = none-next q x k (slice_get x.shares k) refl clear.0
clear-none q x (k ∷ ks) (suc i) clear = clear-none q (commit_more q x k) ks i clear.1

conflicts-none : (log : LogParts) (y : Played) (x : Stratum) (xs : List Stratum) → ((i : ℕ) → conflicts_in log y x i ≡ false) → ((i : ℕ) → conflicts_at log (plays log y (commits_in x)) xs i ≡ false)
    → (i : ℕ) → conflicts_at log y (x ∷ xs) i ≡ false
conflicts-none log y x xs first rest i =
    let n : ℕ = commits_in x in
    elim (cases_lt i n) [
      | inl l ↦ ap (λ (b : Bool). cond b (conflicts_in log y x i) (conflicts_at log (plays log y n) xs (i - n))) (lt-ltb i n l) ∙ first i
      | inr l ↦ ap (λ (b : Bool). cond b (conflicts_in log y x i) (conflicts_at log (plays log y n) xs (i - n))) (le-ltb i n l) ∙ rest (i - n)
    ]

-- ---- turns

names-of : (log : LogParts) (i : ℕ) (ks : List ℕ) (rest : List Actor) → ((j : ℕ) → slice_get log.order (i + j) ≡ slice_get (map Actor.Thread ks ++ rest) j) → Names log i ks
names-of log i [] rest order = tt
names-of log i (k ∷ ks) rest order =
    let e : i ≡ i + 0 = omega arith in (
      ap (slice_get log.order) e ∙ order 0,
      names-of log (suc i) ks rest (λ j. let s : suc i + j ≡ i + suc j = omega arith in ap (slice_get log.order) s ∙ order (suc j)),
    )

-- past the end of the first list, two lists in a row have the elements of the second
pub get-after : {A : Type 0} (xs ys : List A) (j : ℕ) → slice_get (xs ++ ys) (length xs + j) ≡ slice_get ys j
get-after [] ys j = let e : 0 + j ≡ j = omega arith in ap (slice_get ys) e
get-after (x ∷ xs) ys j = let e : length (x ∷ xs) + j ≡ suc (length xs + j) = omega arith in ap (slice_get (x ∷ (xs ++ ys))) e ∙ get-after xs ys j

-- the order from a position on is that of these strata
abbrev pub Ordered : LogParts → (position : ℕ) → List Stratum → Type 0
Ordered log i xs = (j : ℕ) → slice_get log.order (i + j) ≡ slice_get (flat_map order_of xs) j

ordered-on : (log : LogParts) (i n : ℕ) (x : Stratum) (xs : List Stratum) → Ordered log i (x ∷ xs) → n ≡ i + commits_in x → Ordered log n xs
ordered-on log i n x xs order at_ j =
    let l = length-order x in
    let e : n + j ≡ i + (length (order_of x) + j) = omega (arith, at_, l) in
    ap (slice_get log.order) e ∙ order (length (order_of x) + j) ∙ get-after (order_of x) (flat_map order_of xs) j

dma-now : (log : LogParts) (p : Progress) (u : Used) (ts : List Parts) → log.mode ≢ ModeName.Picolog → position p < log.count → slice_get log.order (position p) ≡ Some Actor.Dma → now_at log p u ts ≡ TurnOfDma
dma-now log p u ts ne l named =
    below-is log p u ts l ∙ ap (turn_of (position p) ts) (has-order log.mode log (position p) p.last (map is_live ts) ne ∙ named)

-- ---- all blocks

-- z goes through the strata, and comes to what is like the end of the log's play
pub record Through (log other : LogParts) (y z : Played) (bs : List Block) (xs : List Stratum) : Type 0 where
  pub over : Over log (in_canonical_order log y bs)
  pub like : IsLike (in_canonical_order log y bs) (plays other z (commits_in_all xs))
  pub left : Left other z (plays other z (commits_in_all xs)) (flat_map kinds_of xs)
  pub position : position (plays other z (commits_in_all xs)).progress ≡ position z.progress + commits_in_all xs
  pub apart : (i : ℕ) → conflicts_at other z xs i ≡ false

all-plays : (log : LogParts) (z : Played) (x : Stratum) (xs : List Stratum) → plays log z (commits_in_all (x ∷ xs)) ≡ plays log (plays log z (commits_in x)) (commits_in_all xs)
all-plays log z x xs =
    let e : commits_in_all (x ∷ xs) ≡ commits_in_all xs + commits_in x = (let h = sum_by-cons commits_in x xs in omega (arith, h)) in
    ap (plays log z) e ∙ more log z (commits_in x) (commits_in_all xs)
  where
    more : (log : LogParts) (z : Played) (m n : ℕ) → plays log z (n + m) ≡ plays log (plays log z m) n
    more log z m zero = let e : 0 + m ≡ m = omega arith in ap (plays log z) e
    more log z m (suc n) = let e : suc n + m ≡ suc (n + m) = omega arith in ap (plays log z) e ∙ ap (play_one log) (more log z m n)

left-position : (log : LogParts) (y z : Played) (kinds : List CommitKind) → Left log y z kinds → position z.progress ≡ position y.progress + length kinds
left-position log y z kinds l =
    let a = ap (λ (ks : List CommitKind). length ks) l.kinds_are in
    let b = length-map z.progress.commits kind_in in
    let c = length-map y.progress.commits kind_in in
    let d = length-append (map kind_in y.progress.commits) kinds in
    let f = l.first in
    omega (arith, a, b, c, d, f)

length-often : (n : ℕ) (kind : CommitKind) → length (replicate n kind) ≡ n
length-often zero kind = refl
length-often (suc n) kind = ap suc (length-often n kind)

-- a stratum has as many kinds as it has commits
pub length-kinds : (x : Stratum) → length (kinds_of x) ≡ commits_in x
length-kinds (StratumChunks counts) = length-often (commits_in (StratumChunks counts)) CommitKind.Chunk
length-kinds (Serial k) = refl
length-kinds Dma = refl

-- one block and then the rest
through-more : (log other : LogParts) (y y1 z z1 : Played) (b : Block) (bs : List Block) (x : Stratum) (xs : List Stratum) → in_canonical_order log y (b ∷ bs) ≡ in_canonical_order log y1 bs
    → plays other z (commits_in x) ≡ z1 → Left other z z1 (kinds_of x) → ((i : ℕ) → conflicts_in other z x i ≡ false) → Through log other y1 z1 bs xs → Through log other y z (b ∷ bs) (x ∷ xs)
through-more log other y y1 z z1 b bs x xs same next left none t =
    let all : plays other z (commits_in_all (x ∷ xs)) ≡ plays other z1 (commits_in_all xs) = all-plays other z x xs ∙ ap (λ (w : Played). plays other w (commits_in_all xs)) next in
    record {
      over = subst (Over log) (sym same) t.over;
      like = subst (λ (w : Played). IsLike w (plays other z (commits_in_all (x ∷ xs)))) (sym same)
          (subst (λ (w : Played). IsLike (in_canonical_order log y1 bs) w) (sym all) t.like);
      left = subst (λ (w : Played). Left other z w (flat_map kinds_of (x ∷ xs))) (sym all)
          (record {
            kinds_are = t.left.kinds_are ∙ ap (λ (ks : List CommitKind). ks ++ flat_map kinds_of xs) left.kinds_are
                ∙ append_assoc (map kind_in z.progress.commits) (kinds_of x) (flat_map kinds_of xs);
            first = t.left.first ∙ left.first;
            looked = t.left.looked;
          });
      position =
          ap (λ (w : Played). position w.progress) all ∙ t.position
          ∙ (let a = left-position other z z1 (kinds_of x) left in let b = length-kinds x in let c = sum_by-cons commits_in x xs in omega (arith, a, b, c));
      apart = conflicts-none other z x xs none (subst (λ (w : Played). (i : ℕ) → conflicts_at other w xs i ≡ false) (sym next) t.apart);
    }

-- what is known of the other log
pub record Knows (log other : LogParts) : Type 0 where
  pub says : SaysAll log other
  pub some : 0 < log.s
  pub ordered : other.mode ≢ ModeName.Picolog

abbrev Goal : (counted : ℕ) → (log other : LogParts) → List Block → Type 0
Goal counted log other bs =
    (y z : Played) → GoesBy counted log y bs → IsLike y z → IsLooked other z → Ordered other (position z.progress) (map (stratum_for counted) bs)
    → position z.progress + commits_in_all (map (stratum_for counted) bs) ≡ other.count → Through log other y z bs (map (stratum_for counted) bs)

chunks-through : (counted : ℕ) (log other : LogParts) → Knows log other → (ks js : List ℕ) (bs : List Block) → js ≡ rising 0 (map (counts_of ks) (range_with_len 0 counted)) → Goal counted log other bs → Goal counted log other (Chunks ks js ∷ bs)
chunks-through counted log other knows ks js bs is rest y z go like looked order total =
    let x : Stratum = stratum_for counted (Chunks ks js) in
    let xs : List Stratum = map (stratum_for counted) bs in
    let r : CutRight counted log y ks js = go.0 in
    let counts : (j : ℕ) → counts_of js j ≡ counts_of ks j = (λ j. ap (λ (hs : List ℕ). counts_of hs j) is ∙ counts-same counted ks j r.below) in
    let s = strata_relog log other y z ks js knows.says.alike knows.some like r.stratum counts in
    let stratum : IsStratum other z js = s.0 in
    let n : length js ≡ commits_in x = ap (λ (hs : List ℕ). length hs) is ∙ length-rising 0 (map (counts_of ks) (range_with_len 0 counted)) in
    let sum = sum_by-cons commits_in x xs in
    let names : Names other (position z.progress) js = names-of other (position z.progress) js (flat_map order_of xs)
    (λ j. order j ∙ ap (λ (hs : List ℕ). slice_get (map Actor.Thread hs ++ flat_map order_of xs) j) (sym is)) in
    let turns : TurnsAre other z js = orders_turn other z js knows.ordered stratum.go looked names (omega (arith, n, sum, total)) (live-too y z ks js like.threads counts r.live) in
    let z1 : Played = plays_of other z js in
    let next : plays other z (commits_in x) ≡ z1 = ap (plays other z) (sym n) ∙ turns-play other z js turns in
    let left : Left other z z1 (kinds_of x) = subst (λ (i : ℕ). Left other z z1 (replicate i CommitKind.Chunk)) n (chunks-left other z js looked stratum.go) in
    let at_ = left-position other z z1 (kinds_of x) left in
    let l = length-kinds x in
    through-more log other y (plays_of log y ks) z z1 (Chunks ks js) bs x xs refl next left
    (subst (λ (hs : List ℕ). (i : ℕ) → clashes_in (rule_of other) (stratum_start z.memory z.threads) hs i ≡ false) is (λ i. clear-none (rule_of other) (stratum_start z.memory z.threads) js i stratum.clear))
    (rest (plays_of log y ks) z1 go.1 s.1 left.looked (ordered-on other (position z.progress) (position z1.progress) x xs order (omega (arith, at_, l))) (omega (arith, at_, l, sum, total)))

one-by : (log : LogParts) (z : Played) (now : TurnOrEnd) → z.now ≡ now → plays log z 1 ≡ play_turn log z now
unfolding play_one
one-by log z now turn = ap (play_turn log z) turn

alone-through : (counted : ℕ) (log other : LogParts) → Knows log other → (now : TurnOrEnd) (bs : List Block) (y z : Played) → AloneRight counted log y now → GoesBy counted log (play_turn log y now) bs → IsLike y z
    → Ordered other (position z.progress) (map (stratum_for counted) (Alone now ∷ bs)) → position z.progress + commits_in_all (map (stratum_for counted) (Alone now ∷ bs)) ≡ other.count
    → z.now ≡ now → commits_in (stratum_for counted (Alone now)) ≡ 1 → ((i : ℕ) → conflicts_in other z (stratum_for counted (Alone now)) i ≡ false) → Left other z (play_turn other z now) (kinds_of (stratum_for counted (Alone now)))
    → Goal counted log other bs → Through log other y z (Alone now ∷ bs) (map (stratum_for counted) (Alone now ∷ bs))
alone-through counted log other knows now bs y z right go like order total turn one none left rest =
    let x : Stratum = stratum_for counted (Alone now) in
    let xs : List Stratum = map (stratum_for counted) bs in
    let b : Both log other y z now = now-relogged log other y z now knows.says knows.some like right.goes in
    let z1 : Played = play_turn other z now in
    let next : plays other z (commits_in x) ≡ z1 = ap (plays other z) one ∙ one-by other z now turn in
    let sum = sum_by-cons commits_in x xs in
    let at_ = left-position other z z1 (kinds_of x) left in
    let l = length-kinds x in
    through-more log other y (play_turn log y now) z z1 (Alone now) bs x xs refl next left none
    (rest (play_turn log y now) z1 go b.like left.looked (ordered-on other (position z.progress) (position z1.progress) x xs order (omega (arith, at_, l))) (omega (arith, at_, l, sum, total)))

-- the step of thread k that goes is of the kind of its instruction
serial-left : (log : LogParts) (z : Played) (k : ℕ) (t : Parts) (kind : Kind) → slice_get z.threads k ≡ Some t → next_kind t z.memory ≡ Some kind → GoesNow log z (Turn k) → Left log z (play_turn log z (Turn k)) (CommitKind.Serial ∷ [])
serial-left log z k t kind there is g =
    let same : g.thread ≡ t = some-same g.thread t (sym g.there ∙ there) in
    let serial : next_kind g.thread z.memory ≡ Some kind = ap (λ (s : Parts). next_kind s z.memory) same ∙ is in
    let by : IsBy k CommitKind.Serial (Goes g.effect g.used) =
    subst (IsBy k CommitKind.Serial) g.goes
    (subst (λ (c : CommitKind). IsBy k c (thread_verdict log z k g.thread (next_kind g.thread z.memory))) (ap kind_by serial) (verdict-by log z k g.thread (next_kind g.thread z.memory))) in
    subst (λ (w : Played). Left log z w (CommitKind.Serial ∷ [])) (sym (ap (play_thread log z k) g.there ∙ ap (settled log z k) g.goes))
    (settled-left log z k g.effect g.used CommitKind.Serial by.1)
  where
    some-same : (a b : Parts) → Some a ≡ Some b → a ≡ b
    some-same a b e = cc

dma-left : (log : LogParts) (z : Played) → GoesNow log z TurnOfDma → Left log z (play_turn log z TurnOfDma) (CommitKind.Dma ∷ [])
dma-left log z g =
    subst (λ (w : Played). Left log z w (CommitKind.Dma ∷ [])) (sym (ap (dma_settled log z) g.1))
    (record { kinds_are = map-push kind_in z.progress.commits dma_commit; first = refl; looked = refl })

now-through : (counted : ℕ) (log other : LogParts) → Knows log other → (now : TurnOrEnd) (bs : List Block) → Goal counted log other bs → Goal counted log other (Alone now ∷ bs)
now-through counted log other knows (Ended how) bs rest y z go like looked order total = absurd go.0.is
now-through counted log other knows TurnOfDma bs rest y z go like looked order total =
    let b : Both log other y z TurnOfDma = now-relogged log other y z TurnOfDma knows.says knows.some like go.0.goes in
    let sum = sum_by-cons commits_in Dma (map (stratum_for counted) bs) in
    let e : position z.progress ≡ position z.progress + 0 = omega arith in
    let turn : z.now ≡ TurnOfDma = looked ∙ dma-now other z.progress z.used z.threads knows.ordered (omega (arith, sum, total)) (ap (slice_get other.order) e ∙ order 0) in
    alone-through counted log other knows TurnOfDma bs y z go.0 go.1 like order total turn refl (λ i. refl) (dma-left other z b.goes) rest
now-through counted log other knows (Turn k) bs rest y z go like looked order total =
    let b : Both log other y z (Turn k) = now-relogged log other y z (Turn k) knows.says knows.some like go.0.goes in
    let a = go.0.is in
    let t : Parts = a.0 in
    let facts = a.1 in
    let there : slice_get z.threads k ≡ Some t = ap (λ (ts : List Parts). slice_get ts k) like.threads ∙ facts.0 in
    let kind = facts.2 in
    let serial : next_kind t z.memory ≡ Some kind.0 = ap (next_kind t) like.memory ∙ kind.1 in
    let sum = sum_by-cons commits_in (Serial k) (map (stratum_for counted) bs) in
    let e : position z.progress ≡ position z.progress + 0 = omega arith in
    let turn : z.now ≡ Turn k = looked ∙ turn-now other z.progress z.used z.threads k t knows.ordered (omega (arith, sum, total)) (ap (slice_get other.order) e ∙ order 0) there facts.1 in
    alone-through counted log other knows (Turn k) bs y z go.0 go.1 like order total turn refl (λ i. refl) (serial-left other z k t kind.0 there serial b.goes) rest

-- a log that says the same goes through the strata of these blocks, and its play ends alike
pub through : (counted : ℕ) (log other : LogParts) → Knows log other → (bs : List Block) → Goal counted log other bs
through counted log other knows [] y z go like looked order total =
    record {
      over = go;
      like = like;
      left = record { kinds_are = sym (append-nil (map kind_in z.progress.commits)); first = refl; looked = looked };
      position = omega arith;
      apart = λ i. refl;
    }
through counted log other knows (Alone now ∷ bs) y z go like looked order total =
    now-through counted log other knows now bs (through counted log other knows bs) y z go like looked order total
through counted log other knows (Chunks ks js ∷ bs) y z go like looked order total =
    chunks-through counted log other knows ks js bs go.0.canonical (through counted log other knows bs) y z go like looked order total
