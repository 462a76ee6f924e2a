-- The check for conflicts goes on, chunk by chunk and stratum by stratum.
use Rattle.std.proofs.Common.{◌≡◌, ℕ, zero, suc, ◌+◌, ◌-◌, ◌*◌, ◌<◌, inl, inr, Bool, true, false, cond, List, [], ◌∷◌, length, map, Option, refl, sym, ap, ◌∙◌, subst, arith}
use Rattle.std.specs.Prelude.{nat_lt}
use Rattle.std.proofs.lemmas.Bool.{cases_Bool, cases_lt, lt-ltb, le-ltb, true≢false}
use Rattle.std.proofs.lemmas.List.{length-map}
use Rattle.spec_log.specs.declared.LogParts.{LogParts}
use Rattle.spec_play.specs.Effects.{dma_commit}
use Rattle.spec_play.specs.Progress.{position}
use Rattle.spec_play.specs.Turns.{TurnOrEnd, Turn, TurnOfDma}
use Rattle.spec_play.specs.Verdicts.{Goes}
use Rattle.spec_play.specs.Plays.{Played, settled, dma_settled, thread_verdict, play_thread, play_turn, play_one, plays, opened}
use Rattle.spec_play.proofs.Positions.{position-more}
use Rattle.spec_isa.specs.declared.thread.Kind.{Kind}
use Rattle.spec_strata.specs.declared.touch.Touch.{Touch}
use Rattle.spec_strata.specs.declared.touch.Touch.TheVariants.{Untouched}
use Rattle.spec_strata.specs.declared.stratum.Stratum.{Stratum}
use Rattle.spec_strata.specs.declared.stratum.Stratum.TheVariants.{Chunks, Serial, Dma}
use Rattle.spec_strata.specs.declared.strata.StrataParts.{StrataParts}
use Rattle.spec_strata.specs.Canonical.{rising, canonical}
use Rattle.spec_strata.specs.Shares.{StratumState, stratum_start, commit_more}
use Rattle.spec_strata.specs.Parallel.{clashes_next, clashes_in}
use Rattle.spec_strata.specs.InPlay.{rule_of, ChunkGoes}
use Rattle.spec_strata.specs.Coming.{HasCome}
use Rattle.spec_strata.specs.Relogged.{GoesNow}
use Rattle.spec_strata.specs.OnImages.{SerialGoes, conflicts_at}
use Rattle.spec_strata.specs.Checking.{IsLeast}
use Rattle.spec_strata.proofs.Images.Canonical.{length-rising}
use Rattle.spec_strata.proofs.Plays.Canonical.{plays-shift, one-turn}
use Rattle.spec_strata.proofs.Plays.Coming.{come-start, come-more, FreeOn, TellsNext, tells-next, touched_on, touches-more}
use Rattle.spec_strata.proofs.Shares.Touches.{touches_begin}
use Rattle.dl_serial.specs.declared.footprint.Footprint.{Footprint}
use Rattle.dl_serial.specs.Playing.{Playing, HasLooked, advanced}
use Rattle.dl_strata.specs.Tables.{touch_of, IsFreeIn, IsWithin, Touched}
use Rattle.dl_strata.specs.Cutting.{IsNextChunk}
use Rattle.dl_strata.specs.Checking.{conflicts}
use Rattle.dl_strata.specs.Conflicts.{StrataCome, conflicts_on, AreLeft, IsReady, IsBetween, IsInStratum}
use Rattle.dl_strata.proofs.Cuts.{free-on, free-in, touched-as, touches-as, untouched-at}
use Rattle.dl_strata.proofs.Adding.{one-size, footprint-within, looked-at-chunk}

-- ---- one commit is done

one-as : (log : LogParts) (y : Played) (now : TurnOrEnd) → y.now ≡ now → play_one log y ≡ play_turn log y now
unfolding play_one
one-as log y now e = ap (play_turn log y) e

-- a chunk that goes as logged takes the play's position up by one
pub chunk-position : (log : LogParts) (y : Played) (k : ℕ) → y.now ≡ Turn k → ChunkGoes log y k → position (play_one log y).progress ≡ suc (position y.progress)
chunk-position log y k turn c =
    let end : play_one log y ≡ settled log y k (Goes c.effect c.used) =
    one-as log y (Turn k) turn ∙ ap (play_thread log y k) c.there
    ∙ ap (λ (o : Option Kind). settled log y k (thread_verdict log y k c.thread o)) c.chunk ∙ ap (settled log y k) c.goes in
    ap (λ (z : Played). position z.progress) end ∙ position-more y.progress c.effect.commit

-- a serial step that goes as logged takes the play's position up by one
pub serial-position : (log : LogParts) (y : Played) (k : ℕ) → SerialGoes log y k → position (play_one log y).progress ≡ suc (position y.progress)
serial-position log y k s =
    let end : play_one log y ≡ settled log y k (Goes s.step.effect s.step.used) =
    one-as log y (Turn k) s.turn ∙ ap (play_thread log y k) s.step.there ∙ ap (settled log y k) s.step.goes in
    ap (λ (z : Played). position z.progress) end ∙ position-more y.progress s.step.effect.commit

-- a DMA that goes as logged takes the play's position up by one
pub dma-position : (log : LogParts) (y : Played) → y.now ≡ TurnOfDma → GoesNow log y TurnOfDma → position (play_one log y).progress ≡ suc (position y.progress)
dma-position log y turn g =
    ap (λ (z : Played). position z.progress) (one-as log y TurnOfDma turn ∙ ap (dma_settled log y) g.1)
    ∙ position-more y.progress dma_commit

-- ---- which commits conflict

-- the first one that is left doesn't
pub left-next : (all : ℕ → Bool) (n m : ℕ) (left next : ℕ → Bool) → m ≡ suc n → left 0 ≡ false → ((i : ℕ) → left (suc i) ≡ next i) → AreLeft all n left → AreLeft all m next
left-next all n m left next more none later a =
    record {
      before = λ i l. elim (cases_lt i n) [
        | inl h ↦ a.before i h
        | inr h ↦ (let e : i ≡ n + 0 = omega (arith, l, h, more) in ap all e ∙ a.after 0 ∙ none)
      ];
      after = λ i. let e : m + i ≡ n + suc i = omega (arith, more) in ap all e ∙ a.after (suc i) ∙ later i;
    }

-- the first one that is left does
pub left-first : (all : ℕ → Bool) (n : ℕ) (left : ℕ → Bool) → left 0 ≡ true → AreLeft all n left → IsLeast (λ j. all j ≡ true) n
left-first all n left is a =
    record {
      there = let e : n ≡ n + 0 = omega arith in ap all e ∙ a.after 0 ∙ is;
      least = λ j l h. true≢false (sym h ∙ a.before j l);
    }

-- none is left
pub left-none : (all : ℕ → Bool) (n : ℕ) (left : ℕ → Bool) → ((i : ℕ) → left i ≡ false) → AreLeft all n left → (i : ℕ) → all i ≡ false
left-none all n left none a i =
    elim (cases_lt i n) [
      | inl h ↦ a.before i h
      | inr h ↦ (let e : i ≡ n + (i - n) = omega (arith, h) in ap all e ∙ a.after (i - n) ∙ none (i - n))
    ]

alone-next : (log : LogParts) (y : Played) (xs : List Stratum) (one : Bool) (i : ℕ)
    → cond (nat_lt (suc i) 1) one (conflicts_at log (play_one log y) xs (suc i - 1)) ≡ conflicts_at log (play_one log y) xs i
alone-next log y xs one i =
    let e : suc i - 1 ≡ i = omega arith in
    ap (λ (b : Bool). cond b one (conflicts_at log (play_one log y) xs (suc i - 1))) (le-ltb (suc i) 1 (omega arith))
    ∙ ap (conflicts_at log (play_one log y) xs) e

-- ---- chunks of a stratum, and then strata

suc-lt : (i n : ℕ) → nat_lt i n ≡ nat_lt (suc i) (suc n)
suc-lt i n = elim (cases_lt i n) [
  | inl l ↦ lt-ltb i n l ∙ sym (lt-ltb (suc i) (suc n) (omega (arith, l)))
  | inr l ↦ le-ltb i n l ∙ sym (le-ltb (suc i) (suc n) (omega (arith, l)))
]

on-is : (log : LogParts) (y : Played) (x : StratumState) (ks : List ℕ) (xs : List Stratum) (i : ℕ)
    → conflicts_on log y x ks xs i
    ≡ cond (nat_lt i (length ks)) (clashes_in (rule_of log) x ks i) (conflicts_at log (plays log y (length ks)) xs (i - length ks))
on-is log y x [] xs i =
    let e : i ≡ i - 0 = omega arith in
    ap (conflicts_at log y xs) e ∙ sym (ap (λ (b : Bool). cond b false (conflicts_at log y xs (i - 0))) (le-ltb i 0 (omega arith)))
on-is log y x (k ∷ ks) xs zero =
    sym (ap (λ (b : Bool). cond b (clashes_next (rule_of log) x k) (conflicts_at log (plays log y (suc (length ks))) xs (0 - suc (length ks)))) (lt-ltb 0 (suc (length ks)) (omega arith)))
on-is log y x (k ∷ ks) xs (suc i) =
    let n : ℕ = length ks in
    let e : i - n ≡ suc i - suc n = omega arith in
    on-is log (play_one log y) (commit_more (rule_of log) x k) ks xs i
    ∙ (λ j. cond (suc-lt i n j) (clashes_in (rule_of log) (commit_more (rule_of log) x k) ks i) (conflicts_at log (plays-shift log y n j) xs (e j)))

begins-on : (log : LogParts) (y : Played) (counts : List ℕ) (xs : List Stratum) (i : ℕ)
    → conflicts_at log y (Chunks counts ∷ xs) i ≡ conflicts_on log y (stratum_start y.memory y.threads) (rising 0 counts) xs i
begins-on log y counts xs i =
    let n = length-rising 0 counts in
    sym (on-is log y (stratum_start y.memory y.threads) (rising 0 counts) xs i
    ∙ (λ j. cond (nat_lt i (n j)) (clashes_in (rule_of log) (stratum_start y.memory y.threads) (rising 0 counts) i) (conflicts_at log (plays log y (n j)) xs (i - n j))))

-- ---- a stratum

-- a stratum of chunks begins, with no word touched
pub within-begins : (all : ℕ → Bool) (p : Playing) (old : List Touch) (counts : List ℕ) (xs : List Stratum) → IsBetween all p old (Chunks counts ∷ xs)
    → IsInStratum all p (map (λ (t : Touch). Untouched) old) (rising 0 counts) xs
within-begins all p old counts xs b =
    let y : Played = p.played in
    let none : List Touch = map (λ (t : Touch). Untouched) old in
    let size = b.ready.words in
    let same : length none ≡ length old = length-map old (λ (t : Touch). Untouched) in
    record {
      ready = record { some = b.ready.some; words = omega (arith, size, same) };
      state = stratum_start y.memory y.threads;
      reached = come-start y;
      touches_are = touches-as (stratum_start y.memory y.threads).shares (λ a. Untouched) (touch_of none) (untouched-at old) (touches_begin y.memory y.threads);
      chunks = b.come.0;
      come = subst (λ (n : ℕ). StrataCome p.log (plays p.log y n) xs) (sym (length-rising 0 counts)) b.come.1;
      left = record { before = b.left.before; after = λ i. b.left.after i ∙ begins-on p.log y counts xs i };
    }

-- it ends
pub within-ends : (all : ℕ → Bool) (p : Playing) (touches : List Touch) (xs : List Stratum) → IsInStratum all p touches [] xs → IsBetween all p touches xs
within-ends all p touches xs w =
    record { ready = w.ready; come = w.come; left = record { before = w.left.before; after = λ i. w.left.after i } }

-- it has come to the first one
pub before-first : (v : StrataParts) (memory : List ℕ) (entry : ℕ) (touches : List Touch) → 0 < v.s → 4 * length touches ≡ length memory
    → StrataCome (canonical v) (opened (canonical v) memory entry) v.strata
    → IsBetween (conflicts v memory entry) (record { log = canonical v; played = opened (canonical v) memory entry; stores = [] }) touches v.strata
before-first v memory entry touches some words come =
    record {
      ready = record { some = some; words = words };
      come = come;
      left = record {
        before = λ i l. absurd (omega (arith, l));
        after = λ i. let e : 0 + i ≡ i = omega arith in ap (conflicts v memory entry) e;
      };
    }

-- ---- one commit more

ready-more : (p : Playing) (old new : List Touch) → IsReady p old → length new ≡ length old → IsReady (advanced p) new
ready-more p old new r same =
    let size = r.words in
    let memory = one-size p.log p.played in
    record { some = r.some; words = omega (arith, size, same, memory) }

-- a serial step, or a DMA
pub serial-passed : (all : ℕ → Bool) (p : Playing) (touches : List Touch) (k : ℕ) (xs : List Stratum) → IsBetween all p touches (Serial k ∷ xs) → IsBetween all (advanced p) touches xs
serial-passed all p touches k xs b =
    record {
      ready = ready-more p touches touches b.ready refl;
      come = b.come.1;
      left = left-next all (position p.played.progress) (position (play_one p.log p.played).progress) _ _ (serial-position p.log p.played k b.come.0) refl
          (alone-next p.log p.played xs false) b.left;
    }

-- after a DMA, which conflicts with nothing, the check has come to the next strata
pub dma-passed : (all : ℕ → Bool) (p : Playing) (touches : List Touch) (xs : List Stratum) → IsBetween all p touches (Dma ∷ xs) → IsBetween all (advanced p) touches xs
dma-passed all p touches xs b =
    record {
      ready = ready-more p touches touches b.ready refl;
      come = b.come.1;
      left = left-next all (position p.played.progress) (position (play_one p.log p.played).progress) _ _ (dma-position p.log p.played b.come.0.0 b.come.0.1) refl
          (alone-next p.log p.played xs false) b.left;
    }

-- a chunk's footprint is looked at
pub looked-next : (all : ℕ → Bool) (p : Playing) (touches : List Touch) (k : ℕ) (ks : List ℕ) (xs : List Stratum) (f : Footprint) → IsInStratum all p touches (k ∷ ks) xs → HasLooked p f → IsNextChunk p.log p.played k f
looked-next all p touches k ks xs f w looked =
    record { some = w.ready.some; goes = w.chunks.1; footprint = looked-at-chunk p k f w.ready.some w.chunks.1 w.chunks.0 looked }

-- a table of the memory's words has its words
pub looked-within : (all : ℕ → Bool) (p : Playing) (touches : List Touch) (k : ℕ) (ks : List ℕ) (xs : List Stratum) (f : Footprint) → IsInStratum all p touches (k ∷ ks) xs → HasLooked p f → IsWithin (length touches) f
looked-within all p touches k ks xs f w looked =
    let next : IsNextChunk p.log p.played k f = looked-next all p touches k ks xs f w looked in
    footprint-within p.played.memory next.goes.thread _ (length touches) f w.ready.words next.footprint

-- it conflicts with none, and is done
pub chunk-passed : (all : ℕ → Bool) (p : Playing) (old new : List Touch) (k : ℕ) (ks : List ℕ) (xs : List Stratum) (f : Footprint) → IsInStratum all p old (k ∷ ks) xs → HasLooked p f
    → IsFreeIn old k f → length new ≡ length old → Touched old k f new → IsInStratum all (advanced p) new ks xs
chunk-passed all p old new k ks xs f w looked free same noted =
    let log : LogParts = p.log in
    let y : Played = p.played in
    let x : StratumState = w.state in
    let next : IsNextChunk log y k f = looked-next all p old k ks xs f w looked in
    let c : ChunkGoes log y k = next.goes in
    let on : FreeOn log (touch_of old) k y.memory c.thread = free-on log y k f old next free in
    let tells : TellsNext log y x k c.thread (touch_of old) = tells-next log y x k c.thread (touch_of old) w.touches_are w.reached c.there in
    let v : StratumState = commit_more (rule_of log) x k in
    record {
      ready = ready-more p old new w.ready same;
      state = v;
      reached = subst (λ (z : Played). HasCome z v) (sym (one-turn log y k w.chunks.0)) (come-more log y x k w.ready.some c w.reached);
      touches_are = touches-as v.shares (touched_on log (touch_of old) k y.memory c.thread) (touch_of new) (touched-as log y k f old new next noted)
          (touches-more log y x k c.thread (touch_of old) w.touches_are w.reached c.there on);
      chunks = w.chunks.2;
      come = subst (λ (z : Played). StrataCome log z xs) (sym (plays-shift log y (length ks))) w.come;
      left = left-next all (position y.progress) (position (play_one log y).progress) _ _ (chunk-position log y k w.chunks.0 c) (tells.joins on) (λ i. refl) w.left;
    }

-- it conflicts, as the first of all commits
pub chunk-conflicts : (all : ℕ → Bool) (p : Playing) (touches : List Touch) (k : ℕ) (ks : List ℕ) (xs : List Stratum) (f : Footprint) → IsInStratum all p touches (k ∷ ks) xs → HasLooked p f
    → (IsFreeIn touches k f → ⊥) → IsLeast (λ j. all j ≡ true) (position p.played.progress)
chunk-conflicts all p touches k ks xs f w looked barred =
    let log : LogParts = p.log in
    let y : Played = p.played in
    let x : StratumState = w.state in
    let next : IsNextChunk log y k f = looked-next all p touches k ks xs f w looked in
    let c : ChunkGoes log y k = next.goes in
    let tells : TellsNext log y x k c.thread (touch_of touches) = tells-next log y x k c.thread (touch_of touches) w.touches_are w.reached c.there in
    let is : clashes_next (rule_of log) x k ≡ true = elim (cases_Bool (clashes_next (rule_of log) x k)) [
      | inl e ↦ e
      | inr e ↦ absurd (barred (free-in log y k f touches next (tells.free e)))
    ]
    in
    left-first all (position y.progress) _ is w.left
