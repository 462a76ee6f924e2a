-- How far a replay may come in strata: the strata that are left, and what of the present one is done.
use Rattle.std.proofs.Common.{◌≡◌, ℕ, zero, suc, ◌+◌, ◌<◌, ◌≤◌, inl, inr, Bool, cond, List, [], ◌∷◌, ◌++◌, length, refl, sym, ap, ◌∙◌, subst, arith}
use Rattle.std.specs.Prelude.{take, replicate}
use Rattle.std.specs.List.{sum}
use Rattle.std.proofs.Math.Seq.{take-length}
use Rattle.std.proofs.lemmas.Bool.{cases_eq, cases_lt, lt-ltb, le-ltb}
use Rattle.std.proofs.lemmas.List.{append_assoc, length-append, length-map, length-set}
use Rattle.std.proofs.lemmas.List.Sums.{sum_by_push}
use Rattle.std.proofs.lemmas.Option.{none-some}
use Rattle.spec_log.specs.declared.LogParts.{LogParts}
use Rattle.spec_play.specs.Effects.{chunk_commit}
use Rattle.spec_play.specs.Plays.{Played, opened, play_one, plays}
use Rattle.spec_strata.specs.declared.stratum.Stratum.{Stratum}
use Rattle.spec_strata.specs.declared.stratum.Stratum.TheVariants.{Chunks, Serial, Dma}
use Rattle.spec_strata.specs.declared.strata.StrataParts.{StrataParts}
use Rattle.spec_strata.specs.Strata.{HaveSome, commits_in, commits_in_all}
use Rattle.spec_strata.specs.Canonical.{rising, canonical}
use Rattle.spec_strata.specs.Shares.{Share, shares_at, bump, counts_of}
use Rattle.spec_strata.specs.InPlay.{rule_of, commits_of, in_stratum, IsLooked, IsStratum}
use Rattle.spec_strata.specs.Orders.{IsRising}
use Rattle.spec_strata.specs.OnImages.{GoesThrough}
use Rattle.spec_strata.specs.Standing.{Standing, nothing_done, stratum_begun, with_one_done, after_thread}
use Rattle.spec_strata.proofs.Shares.Steps.{bump_same, bump_other}
use Rattle.spec_strata.proofs.Shares.Checking.{shares-of}
use Rattle.spec_strata.proofs.Plays.Strata.{GoodAt, checked-stratum}
use Rattle.spec_strata.proofs.Plays.Canonical.{at-none, canonical_plays}
use Rattle.spec_strata.proofs.Images.Canonical.{length-rising}
use Rattle.spec_strata.proofs.Images.Going.{get-past}
use Rattle.spec_sphere.specs.sphere.Setups.{SphereSetup}
use Rattle.spec_replay.specs.InStrata.{done_by, count_in, stratum_from, stratum_at}
use Rattle.spec_strata.proofs.Standing.Counts.{count_at, counts-rising, done-more, within, sum-most, all-done, none-done, sum-none}
use Rattle.spec_strata.proofs.Standing.Places.{OnlyOf, length-is}

-- ---- a stratum that isn't over

-- some of its chunks are left; of a serial step or a DMA nothing is done
abbrev pub IsOpen : List Stratum → (done : List ℕ) → Type 0
IsOpen [] ds = ds ≡ []
IsOpen (Chunks counts ∷ xs) ds = (length ds ≡ length counts) × (sum ds < sum counts)
IsOpen (Serial thread ∷ xs) ds = ds ≡ []
IsOpen (Dma ∷ xs) ds = ds ≡ []

some-rest : (s : Stratum) (xs : List Stratum) → HaveSome (s ∷ xs) → HaveSome xs
some-rest (Chunks counts) xs some = some.1
some-rest (Serial thread) xs some = some
some-rest Dma xs some = some

begun-open : (xs : List Stratum) → HaveSome xs → IsOpen xs (nothing_done xs)
begun-open [] some = refl
begun-open (Chunks counts ∷ xs) some = (length-map counts (λ (count : ℕ). 0), let h = sum-none counts in let l = some.0 in omega (arith, h, l))
begun-open (Serial thread ∷ xs) some = refl
begun-open (Dma ∷ xs) some = refl

begun-none : (xs : List Stratum) (j : ℕ) → count_at (nothing_done xs) j ≡ 0
begun-none [] j = refl
begun-none (Chunks counts ∷ xs) j = none-done counts j
begun-none (Serial thread ∷ xs) j = refl
begun-none (Dma ∷ xs) j = refl

-- ---- plays

-- n + m commits of a play are n of them, and then m more
pub plays-more : (log : LogParts) (y : Played) (n m : ℕ) → plays log y (n + m) ≡ plays log (plays log y n) m
plays-more log y n zero = let e : n + 0 ≡ n = omega arith in ap (plays log y) e
plays-more log y n (suc m) =
    let e : n + suc m ≡ suc (n + m) = omega arith in
    ap (plays log y) e ∙ ap (play_one log) (plays-more log y n m)

-- with nothing done the play is where the stratum begins
pub none-in : (log : LogParts) (y : Played) (ds : List ℕ) → IsLooked log y → ((j : ℕ) → count_at ds j ≡ 0) → in_stratum log y (count_at ds) ≡ y
none-in log y ds looked none = (λ i. in_stratum log y (λ j. none j i)) ∙ sym (at-none log y looked)

-- only threads that are there have chunks in a stratum
pub only-counted : (log : LogParts) (y : Played) (counts : List ℕ) → 0 < log.s → IsStratum log y (rising 0 counts) → OnlyOf (length y.threads) counts
only-counted log y counts s is j l =
    elim (cases_lt 0 (count_at counts j)) [
      | inr none ↦ omega (arith, none)
      | inl some ↦ (
          let e = counts-rising counts j in
          let g : GoodAt log y j 0 = (checked-stratum log y (rising 0 counts) s is).good j 0 (omega (arith, some, e)) in
          absurd (none-some g.thread (sym (get-past y.threads j l) ∙ g.there))
          )
    ]

-- if only threads that are there have chunks in a stratum, only they have any done
pub only-few : (n : ℕ) (ds counts : List ℕ) → ((j : ℕ) → count_at ds j ≤ count_at counts j) → OnlyOf n counts → OnlyOf n ds
only-few n ds counts few only j l = let a = few j in let b = only j l in omega (arith, a, b)

-- how many commits are done within it
pub length-in : (log : LogParts) (y : Played) (ds : List ℕ) → OnlyOf (length y.threads) ds → length (in_stratum log y (count_at ds)).progress.commits ≡ length y.progress.commits + sum ds
length-in log y ds only =
    ap (λ (ps : List Share). length (y.progress.commits ++ commits_of chunk_commit ps)) (shares-of (rule_of log) y.memory y.threads (count_at ds))
    ∙ length-append y.progress.commits (commits_of chunk_commit (shares_at (rule_of log) y.memory y.threads (count_at ds)))
    ∙ ap (λ (n : ℕ). length y.progress.commits + n) (length-is chunk_commit (rule_of log) y.memory y.threads ds only)

rising-again : (k count : ℕ) (ks : List ℕ) → IsRising k ks → IsRising k (replicate count k ++ ks)
rising-again k zero ks r = r
rising-again k (suc count) ks r = (omega arith, rising-again k count ks r)

rising-less : (i k : ℕ) (ks : List ℕ) → i ≤ k → IsRising k ks → IsRising i ks
rising-less i k [] l r = tt
rising-less i k (j ∷ js) l r = (let h = r.0 in omega (arith, h, l), r.1)

-- canonical order rises
pub rising-up : (i k : ℕ) (counts : List ℕ) → i ≤ k → IsRising i (rising k counts)
rising-up i k [] l = tt
rising-up i k (count ∷ counts) l = rising-less i k (replicate count k ++ rising (suc k) counts) l (rising-again k count (rising (suc k) counts) (rising-up k (suc k) counts (omega arith)))

-- ---- where a replay may be

-- a replay of strata v on the image may stand so: the strata that are left go on from the canonical log's play
pub record Comes (v : StrataParts) (image : SphereSetup) (x : Standing) : Type 0 where
  pub past : List Stratum
  pub strata : v.strata ≡ past ++ x.strata
  pub before : x.before ≡ commits_in_all past
  pub few : (k : ℕ) → done_by x k ≤ count_in x.strata k
  pub open_ : IsOpen x.strata x.done
  pub some : HaveSome x.strata
  pub looked : IsLooked (canonical v) (stratum_from v image x)
  pub commits : length (stratum_from v image x).progress.commits ≡ x.before
  pub goes : GoesThrough (canonical v) (stratum_from v image x) x.strata

-- the next standing, where the play is z
pub record NextIs (v : StrataParts) (image : SphereSetup) (x : Standing) (z : Played) : Type 0 where
  pub comes : Comes v image x
  pub at_ : stratum_at v image x ≡ z

-- the play of the strata's canonical log on an image, before its first commit
abbrev pub opened_by : StrataParts → SphereSetup → Played
opened_by v image = opened (canonical v) image.memory image.entry

-- where a stratum begins
pub begins-at : (v : StrataParts) (image : SphereSetup) (past xs : List Stratum) (n : ℕ) (z : Played) → v.strata ≡ past ++ xs → n ≡ commits_in_all past → HaveSome xs
    → plays (canonical v) (opened_by v image) n ≡ z → IsLooked (canonical v) z → length z.progress.commits ≡ n → GoesThrough (canonical v) z xs → NextIs v image (stratum_begun xs n) z
begins-at v image past xs n z all before some is looked commits goes =
    let log : LogParts = canonical v in
    let y : Played = plays log (opened_by v image) n in
    let at_y : IsLooked log y = subst (IsLooked log) (sym is) looked in
    record {
      comes = record {
        past = past;
        strata = all;
        before = before;
        few = λ k. let h = begun-none xs k in omega (arith, h);
        open_ = begun-open xs some;
        some = some;
        looked = at_y;
        commits = ap (λ (w : Played). length w.progress.commits) is ∙ commits;
        goes = subst (λ (w : Played). GoesThrough log w xs) (sym is) goes;
      };
      at_ = none-in log y (nothing_done xs) at_y (begun-none xs) ∙ is;
    }

-- the stratum s is over, and the play is z
pub begun-next : (v : StrataParts) (image : SphereSetup) (s : Stratum) (xs : List Stratum) (ds : List ℕ) (n m : ℕ) (z : Played) → Comes v image (record { strata = s ∷ xs; done = ds; before = n }) → m ≡ n + commits_in s
    → plays (canonical v) (opened_by v image) m ≡ z → IsLooked (canonical v) z → length z.progress.commits ≡ m → NextIs v image (stratum_begun xs m) z
begun-next v image s xs ds n m z c e is looked commits =
    let log : LogParts = canonical v in
    let start : Played = opened_by v image in
    let sums = sum_by_push commits_in c.past s in
    let b = c.before in
    begins-at v image (c.past ++ s ∷ []) xs m z (c.strata ∙ sym (append_assoc c.past (s ∷ []) xs)) (omega (arith, sums, e, b)) (some-rest s xs c.some) is looked commits
    (subst (λ (w : Played). GoesThrough log w xs) (sym (plays-more log start n (commits_in s)) ∙ ap (plays log start) (sym e) ∙ is) c.goes.2)

-- ---- one chunk more

-- the stratum's counts, and those of the play at its start
module _ (v : StrataParts) (image : SphereSetup) (counts : List ℕ) (xs : List Stratum) (ds : List ℕ) (n : ℕ) (s : 0 < v.s) (c : Comes v image (record { strata = Chunks counts ∷ xs; done = ds; before = n })) (k : ℕ) (left : count_at ds k < count_at counts k) where
  abbrev log_of : LogParts
  log_of = canonical v

  abbrev start_of : Played
  start_of = plays (canonical v) (opened_by v image) n

  there : k < length ds
  there = let a = c.open_.0 in let b = within counts k (omega (arith, left)) in omega (arith, a, b)

  more-is : (j : ℕ) → count_at (with_one_done k ds) j ≡ bump (count_at ds) k j
  more-is j = done-more ds k j there

  few-more : (j : ℕ) → count_at (with_one_done k ds) j ≤ count_at counts j
  few-more j =
      elim (cases_eq j k) [
        | inl same ↦ (let a = ap (count_at (with_one_done k ds)) same in let b = more-is k in let d = bump_same (count_at ds) k in let e = ap (count_at counts) same in omega (arith, a, b, d, e, left))
        | inr ne ↦ (let b = more-is j in let d = bump_other (count_at ds) k j ne in let f = c.few j in omega (arith, b, d, f))
      ]

  stratum : IsStratum log_of start_of (rising 0 counts)
  stratum = c.goes.1.0

  -- no thread has more than are counted
  pub few-bumped : (j : ℕ) → bump (count_at ds) k j ≤ counts_of (rising 0 counts) j
  few-bumped j = let a = few-more j in let b = more-is j in let d = counts-rising counts j in omega (arith, a, b, d)

  pub only-done : OnlyOf (length start_of.threads) ds
  only-done = only-few (length start_of.threads) ds counts c.few (only-counted log_of start_of counts s stratum)

  only-more : OnlyOf (length start_of.threads) (with_one_done k ds)
  only-more = only-few (length start_of.threads) (with_one_done k ds) counts few-more (only-counted log_of start_of counts s stratum)

  abbrev bumped : Played
  bumped = in_stratum log_of start_of (bump (count_at ds) k)

  bumped-is : in_stratum log_of start_of (count_at (with_one_done k ds)) ≡ bumped
  bumped-is = (λ i. in_stratum log_of start_of (λ j. more-is j i))

  bumped-length : length bumped.progress.commits ≡ n + sum (with_one_done k ds)
  bumped-length =
      ap (λ (w : Played). length w.progress.commits) (sym bumped-is) ∙ length-in log_of start_of (with_one_done k ds) only-more
      ∙ ap (λ (i : ℕ). i + sum (with_one_done k ds)) c.commits

  -- some are left
  goes-on : sum (with_one_done k ds) < sum counts → NextIs v image (record { strata = Chunks counts ∷ xs; done = with_one_done k ds; before = n }) bumped
  goes-on less =
      record {
        comes = record {
          past = c.past;
          strata = c.strata;
          before = c.before;
          few = few-more;
          open_ = (length-set ds k (suc (count_at ds k)) ∙ c.open_.0, less);
          some = c.some;
          looked = c.looked;
          commits = c.commits;
          goes = c.goes;
        };
        at_ = bumped-is;
      }

  -- all are done
  over-at : sum counts ≤ sum (with_one_done k ds) → plays log_of (opened_by v image) (n + sum counts) ≡ bumped
  over-at full =
      let ks : List ℕ = rising 0 counts in
      let l : length ks ≡ sum counts = length-rising 0 counts in
      let all : (j : ℕ) → counts_of (take (length ks) ks) j ≡ bump (count_at ds) k j =
      (λ j. ap (λ (js : List ℕ). counts_of js j) (take-length ks) ∙ counts-rising counts j
      ∙ sym (all-done (with_one_done k ds) counts (length-set ds k (suc (count_at ds k)) ∙ c.open_.0) few-more full j) ∙ more-is j) in
      plays-more log_of (opened_by v image) n (sum counts) ∙ ap (plays log_of start_of) (sym l)
      ∙ canonical_plays log_of start_of ks (length ks) s stratum (rising-up 0 0 counts (omega arith)) c.looked c.goes.1.1 (omega arith)
      ∙ (λ i. in_stratum log_of start_of (λ j. all j i))

  ends : sum counts ≤ sum (with_one_done k ds) → NextIs v image (stratum_begun xs (n + sum counts)) bumped
  ends full =
      let most = sum-most (with_one_done k ds) counts (length-set ds k (suc (count_at ds k)) ∙ c.open_.0) few-more in
      let all = bumped-length in
      begun-next v image (Chunks counts) xs ds n (n + sum counts) bumped c refl (over-at full) refl (omega (arith, all, full, most))

  abbrev next_if : Bool → Standing
  next_if b = cond b (record { strata = Chunks counts ∷ xs; done = with_one_done k ds; before = n }) (stratum_begun xs (n + sum counts))

  pub chunk-next : NextIs v image (after_thread k (record { strata = Chunks counts ∷ xs; done = ds; before = n })) bumped
  chunk-next =
      elim (cases_lt (sum (with_one_done k ds)) (sum counts)) [
        | inl less ↦ subst (λ (b : Bool). NextIs v image (next_if b) bumped) (sym (lt-ltb (sum (with_one_done k ds)) (sum counts) less)) (goes-on less)
        | inr full ↦ subst (λ (b : Bool). NextIs v image (next_if b) bumped) (sym (le-ltb (sum (with_one_done k ds)) (sum counts) full)) (ends full)
      ]
