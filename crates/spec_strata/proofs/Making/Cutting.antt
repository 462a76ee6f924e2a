-- The play of a log goes through the strata that the log is cut into, each in the log's own order.
use Rattle.std.proofs.Common.{◌≡◌, ℕ, zero, suc, ◌<◌, ◌≤◌, inl, inr, Bool, true, false, cond, List, [], ◌∷◌, ◌++◌, length, map, set, Option, Some, None, refl, sym, ap, ◌∙◌, subst, arith}
use Rattle.std.specs.Prelude.{slice_get, slice_set, nat_eq}
use Rattle.std.specs.List.{range_with_len}
use Rattle.std.proofs.lemmas.Bool.{cases_eq, cases_lt, eqb-false}
use Rattle.std.proofs.lemmas.List.{append-nil, append_assoc, length-append}
use Rattle.std.proofs.lemmas.Option.{none-some}
use Rattle.dl_entry.specs.declared.Actor.{Actor}
use Rattle.dl_entry.specs.declared.Commit.{Commit}
use Rattle.dl_entry.specs.declared.CommitKind.{CommitKind}
use Rattle.spec_isa.specs.declared.thread.Parts.{Parts}
use Rattle.spec_isa.specs.declared.thread.Kind.{Kind}
use Rattle.spec_isa.specs.Words.{Stored}
use Rattle.spec_log.specs.declared.LogParts.{LogParts}
use Rattle.spec_kernel.specs.Interrupts.{is_live}
use Rattle.spec_kernel.specs.Needs.{next_kind}
use Rattle.spec_play.specs.Turns.{TurnOrEnd, Turn, TurnOfDma, Ended}
use Rattle.spec_play.specs.Verdicts.{LogVerdict, Goes, Fails}
use Rattle.spec_play.specs.Transfers.{DmaVerdict, DmaGoes, DmaFails, dma_verdict}
use Rattle.spec_play.specs.Plays.{Played, settled, thread_verdict, play_thread, dma_settled, play_turn, play_one, plays}
use Rattle.spec_strata.specs.declared.stratum.Stratum.{Stratum}
use Rattle.spec_strata.specs.declared.stratum.Stratum.TheVariants.{Serial, Dma, Chunks as StratumChunks}
use Rattle.spec_strata.specs.Canonical.{rising}
use Rattle.spec_strata.specs.Shares.{Rule, Share, empty_share, next_run, next_seen, StratumState, stratum_start, commit_more, commits_more, bump, bumps, counts_of}
use Rattle.spec_play.specs.Touching.{Unseen}
use Rattle.spec_strata.specs.Parallel.{IsClear, AreClear, clashes_next}
use Rattle.spec_strata.specs.InPlay.{rule_of, ChunkGoes, plays_of, ChunksGo, IsStratum}
use Rattle.spec_strata.specs.Orders.{AreLive}
use Rattle.spec_strata.specs.Blocks.{Block, Chunks, Alone, in_canonical_order}
use Rattle.spec_strata.specs.Relogged.{GoesNow}
use Rattle.spec_strata.specs.Making.{Present, most_chunks, no_chunks, with_chunk, is_apart, stratum_of, Cuts, cut_off, chunk_begins, chunk_cut, alone_cut, thread_cut, actor_cut, cut_on}
use Rattle.spec_strata.proofs.Shares.Steps.{mapped, bump_same, bump_other}
use Rattle.spec_strata.proofs.Plays.Strata.{get-map}
use Rattle.spec_strata.proofs.Shares.Testing.{clear_is_tested}
use Rattle.spec_strata.proofs.Local.Footprints.{or_neither}
use Rattle.spec_strata.proofs.Plays.Canonical.{plays-shift}
use Rattle.spec_strata.proofs.Plays.Turning.{chunk-live}
use Rattle.spec_strata.proofs.Images.Following.{kind_by, ThreadDoes, Does, Over, Follows}
use Rattle.spec_strata.proofs.Images.Going.{next-clear, chunk-goes, actor_in}

-- ---- one more at the end

-- chunks that go as logged do so with one more at the end that goes after them
pub goes-push : (log : LogParts) (y : Played) (ks : List ℕ) (k : ℕ) → ChunksGo log y ks → ChunkGoes log (plays_of log y ks) k → ChunksGo log y (ks ++ k ∷ [])
goes-push log y [] k go c = (c, tt)
goes-push log y (j ∷ ks) k go c = (go.0, goes-push log (play_turn log y (Turn j)) ks k go.1 c)

-- commits without conflict stay so with one more at the end that conflicts with no other thread's
pub clear-push : (q : ℕ → Rule) (x : StratumState) (ks : List ℕ) (k : ℕ) → AreClear q x ks → ((p : Share) → slice_get (commits_more q x ks).shares k ≡ Some p → IsClear (q k) (commits_more q x ks) k p) → AreClear q x (ks ++ k ∷ [])
clear-push q x [] k clear c = (c, tt)
clear-push q x (j ∷ ks) k clear c = (clear.0, clear-push q (commit_more q x j) ks k clear.1 c)

-- one more commit at the end is done on the state of the stratum after the others
pub more-push : (q : ℕ → Rule) (x : StratumState) (ks : List ℕ) (k : ℕ) → commits_more q x (ks ++ k ∷ []) ≡ commit_more q (commits_more q x ks) k
more-push q x [] k = refl
more-push q x (j ∷ ks) k = more-push q (commit_more q x j) ks k

-- one more commit at the end is done in the play that the others have left
pub plays-push : (log : LogParts) (y : Played) (ks : List ℕ) (k : ℕ) → plays_of log y (ks ++ k ∷ []) ≡ play_turn log (plays_of log y ks) (Turn k)
plays-push log y [] k = refl
plays-push log y (j ∷ ks) k = plays-push log (play_turn log y (Turn j)) ks k

-- one more commit at the end adds one to the number of its thread
pub bumps-push : (c : ℕ → ℕ) (ks : List ℕ) (k j : ℕ) → bumps c (ks ++ k ∷ []) j ≡ bump (bumps c ks) k j
bumps-push c [] k j = refl
bumps-push c (i ∷ ks) k j = bumps-push (bump c i) ks k j

live-push : (y : Played) (ks : List ℕ) (k : ℕ) → AreLive y ks → ((t : Parts) → slice_get y.threads k ≡ Some t → is_live t ≡ true) → AreLive y (ks ++ k ∷ [])
live-push y [] k live l = (l, tt)
live-push y (j ∷ ks) k live l = (live.0, live-push y ks k live.1 l)

some-push : (ks : List ℕ) (k : ℕ) → 0 < length (ks ++ k ∷ [])
some-push ks k = let n = length-append ks (k ∷ []) in omega (arith, n)

abbrev pub AllBelow : (counted : ℕ) → List ℕ → Type 0
AllBelow counted [] = Unit {0}
AllBelow counted (k ∷ ks) = (k < counted) × AllBelow counted ks

below-push : (counted : ℕ) (ks : List ℕ) (k : ℕ) → AllBelow counted ks → k < counted → AllBelow counted (ks ++ k ∷ [])
below-push counted [] k all l = (l, tt)
below-push counted (j ∷ ks) k all l = (all.0, below-push counted ks k all.1 l)

-- ---- threads never get fewer

-- a list with an element replaced is as long as before
pub length-set : {A : Type 0} (xs : List A) (k : ℕ) (x : A) → length (set xs k x) ≡ length xs
length-set [] k x = refl
length-set (y ∷ ys) zero x = refl
length-set (y ∷ ys) (suc k) x = ap suc (length-set ys k x)

-- an index at which a list has an element is below the list's length
pub get-below : {A : Type 0} (xs : List A) (k : ℕ) (x : A) → slice_get xs k ≡ Some x → k < length xs
get-below [] k x e = absurd (none-some x e)
get-below (y ∷ ys) zero x e = omega arith
get-below (y ∷ ys) (suc k) x e = let h = get-below ys k x e in omega (arith, h)

settled-threads : (log : LogParts) (y : Played) (k : ℕ) (v : LogVerdict) → length y.threads ≤ length (settled log y k v).threads
settled-threads log y k (Fails why) = omega arith
settled-threads log y k (Goes e u) =
    let a = length-append (slice_set y.threads k e.thread) e.spawned in
    let b = length-set y.threads k e.thread in omega (arith, a, b)

thread-threads : (log : LogParts) (y : Played) (k : ℕ) (o : Option Parts) → length y.threads ≤ length (play_thread log y k o).threads
thread-threads log y k None = omega arith
thread-threads log y k (Some t) = settled-threads log y k (thread_verdict log y k t (next_kind t y.memory))

dma-threads : (log : LogParts) (y : Played) (v : DmaVerdict) → length y.threads ≤ length (dma_settled log y v).threads
dma-threads log y (DmaGoes words) = omega arith
dma-threads log y (DmaFails why) = omega arith

now-threads : (log : LogParts) (y : Played) (now : TurnOrEnd) → length y.threads ≤ length (play_turn log y now).threads
now-threads log y (Ended how) = omega arith
now-threads log y TurnOfDma = dma-threads log y (dma_verdict log y.progress y.used)
now-threads log y (Turn k) = thread-threads log y k (slice_get y.threads k)

one-threads : (log : LogParts) (y : Played) → length y.threads ≤ length (play_one log y).threads
unfolding play_one
one-threads log y = now-threads log y y.now

-- a play never has fewer threads after more commits
pub plays-threads : (log : LogParts) (y : Played) (n : ℕ) → length y.threads ≤ length (plays log y n).threads
plays-threads log y zero = omega arith
plays-threads log y (suc n) =
    let a = plays-threads log y n in
    let b = one-threads log (plays log y n) in omega (arith, a, b)

-- ---- what the log's play goes through

-- a stratum in the log's order and in canonical order; it is not empty
pub record CutRight (counted : ℕ) (log : LogParts) (y : Played) (ks js : List ℕ) : Type 0 where
  pub stratum : IsStratum log y ks
  pub canonical : js ≡ rising 0 (map (counts_of ks) (range_with_len 0 counted))
  pub below : AllBelow counted ks
  pub live : AreLive y ks
  pub few : (k : ℕ) → counts_of ks k ≤ most_chunks
  pub some : 0 < length ks

-- what a commit by itself is: a serial step of a live thread, or a DMA
abbrev pub IsAlone : Played → TurnOrEnd → Type 0
IsAlone y (Turn k) = (t : Parts) × ((slice_get y.threads k ≡ Some t) × (is_live t ≡ true) × ((kind : Kind) × (next_kind t y.memory ≡ Some kind)))
IsAlone y TurnOfDma = Unit {0}
IsAlone y (Ended how) = ⊥

-- a thread that is counted
abbrev pub IsCounted : (counted : ℕ) → TurnOrEnd → Type 0
IsCounted counted (Turn k) = k < counted
IsCounted counted TurnOfDma = Unit {0}
IsCounted counted (Ended how) = Unit {0}

pub record AloneRight (counted : ℕ) (log : LogParts) (y : Played) (now : TurnOrEnd) : Type 0 where
  pub goes : GoesNow log y now
  pub is : IsAlone y now
  pub below : IsCounted counted now

abbrev pub GoesBy : (counted : ℕ) → LogParts → Played → List Block → Type 0
GoesBy counted log y [] = Over log y
GoesBy counted log y (Chunks ks js ∷ bs) = CutRight counted log y ks js × GoesBy counted log (plays_of log y ks) bs
GoesBy counted log y (Alone now ∷ bs) = AloneRight counted log y now × GoesBy counted log (play_turn log y now) bs

-- the stratum that a block becomes, which counts chunks for so many threads
abbrev pub stratum_for : (counted : ℕ) → Block → Stratum
stratum_for counted (Chunks ks js) = StratumChunks (map (counts_of ks) (range_with_len 0 counted))
stratum_for counted (Alone (Turn k)) = Serial k
stratum_for counted (Alone TurnOfDma) = Dma
stratum_for counted (Alone (Ended how)) = Dma

-- the strata, of which some are there, are those of blocks that the play goes through from y on, to its end
pub record CutInto (counted : ℕ) (log : LogParts) (y end : Played) (before strata : List Stratum) : Type 0 where
  pub blocks : List Block
  pub last : in_canonical_order log y blocks ≡ end
  pub go : GoesBy counted log y blocks
  pub are : strata ≡ before ++ map (stratum_for counted) blocks

-- ---- the present chunks

-- they began at y0, and have come to y
pub record Open (counted : ℕ) (log : LogParts) (y0 y : Played) (p : Present) : Type 0 where
  pub come : y ≡ plays_of log y0 p.threads
  pub state : p.state ≡ commits_more (rule_of log) (stratum_start y0.memory y0.threads) p.threads
  pub stratum : IsStratum log y0 p.threads
  pub below : AllBelow counted p.threads
  pub live : AreLive y0 p.threads
  -- its chunks have left each thread as live as it was
  pub alive : (k : ℕ) → ((t : Parts) → slice_get y.threads k ≡ Some t → is_live t ≡ true) → (t : Parts) → slice_get y0.threads k ≡ Some t → is_live t ≡ true
  pub few : (k : ℕ) → counts_of p.threads k ≤ most_chunks

abbrev pub At : (counted : ℕ) → LogParts → (y0 y : Played) → Option Present → Type 0
At counted log y0 y None = y0 ≡ y
At counted log y0 y (Some p) = Open counted log y0 y p × (0 < length p.threads)

-- these strata, and the present chunks if there are any
abbrev pub cuts : List Stratum → Option Present → Cuts
cuts strata o = record { strata = strata; present = o }

-- with the present chunks as a block
closed : (counted : ℕ) (log : LogParts) (y0 y end : Played) (before strata : List Stratum) (o : Option Present) → At counted log y0 y o
    → CutInto counted log y end (cut_off counted (cuts before o)) strata → CutInto counted log y0 end before strata
closed counted log y0 y end before strata None at_ c = subst (λ (z : Played). CutInto counted log z end before strata) (sym at_) c
closed counted log y0 y end before strata (Some p) at_ c =
    let o : Open counted log y0 y p = at_.0 in
    let js : List ℕ = rising 0 (map (counts_of p.threads) (range_with_len 0 counted)) in
    record {
      blocks = Chunks p.threads js ∷ c.blocks;
      last = ap (λ (z : Played). in_canonical_order log z c.blocks) (sym o.come) ∙ c.last;
      go = (
        record { stratum = o.stratum; canonical = refl; below = o.below; live = o.live; few = o.few; some = at_.1 },
        subst (λ (z : Played). GoesBy counted log z c.blocks) o.come c.go,
      );
      are = c.are ∙ append_assoc before (stratum_of counted p ∷ []) (map (stratum_for counted) c.blocks);
    }

-- at the start of a stratum nothing conflicts
all-unseen : (ws : List Stored) → Unseen (λ a. false) ws
all-unseen [] = tt
all-unseen (w ∷ ws) = (refl, all-unseen ws)

empty-at : (ts : List Parts) (j : ℕ) (p : Share) → slice_get (map empty_share ts) j ≡ Some p → (t : Parts) × (empty_share t ≡ p)
empty-at ts j p is = let a = mapped empty_share (slice_get ts j) p (sym (get-map empty_share ts j) ∙ is) in (a.0, a.1.1)

start-clear : (q : Rule) (m : List ℕ) (ts : List Parts) (k : ℕ) (p : Share) → IsClear q (stratum_start m ts) k p
start-clear q m ts k p =
    record {
      miss = record { each = λ j o ne is. let a = empty-at ts j o is in subst (λ (s : Share). Unseen (next_seen q m p) s.words) a.1 tt };
      blind = record { each = λ j o ne is. let a = empty-at ts j o is in subst (λ (s : Share). Unseen s.seen (next_run q m p).words) a.1 (all-unseen (next_run q m p).words) };
    }

-- with one more chunk, which conflicts with none of another thread
joined : (counted : ℕ) (log : LogParts) (y0 y : Played) (p : Present) (k : ℕ) → Open counted log y0 y p → ChunkGoes log y k
    → ((t : Parts) → slice_get y.threads k ≡ Some t → is_live t ≡ true) → k < counted → ((o : Share) → slice_get p.state.shares k ≡ Some o → IsClear (rule_of log k) p.state k o)
    → counts_of p.threads k < most_chunks → Open counted log y0 (play_turn log y (Turn k)) (with_chunk log p k)
joined counted log y0 y p k at_ c live l clear few =
    record {
      come = ap (λ (z : Played). play_turn log z (Turn k)) at_.come ∙ sym (plays-push log y0 p.threads k);
      state = ap (λ (x : StratumState). commit_more (rule_of log) x k) at_.state
          ∙ sym (more-push (rule_of log) (stratum_start y0.memory y0.threads) p.threads k);
      stratum = record {
        go = goes-push log y0 p.threads k at_.stratum.go (subst (λ (z : Played). ChunkGoes log z k) at_.come c);
        clear = clear-push (rule_of log) (stratum_start y0.memory y0.threads) p.threads k at_.stratum.clear
            (subst (λ (x : StratumState). (o : Share) → slice_get x.shares k ≡ Some o → IsClear (rule_of log k) x k o) at_.state clear);
      };
      below = below-push counted p.threads k at_.below l;
      live = live-push y0 p.threads k at_.live (at_.alive k live);
      alive = λ j later t is. at_.alive j (chunk-live log y k c j later) t is;
      few = λ j. elim (cases_eq j k) [
        | inl e ↦ (
            let h = bump_same (counts_of p.threads) k in
            let g : counts_of (p.threads ++ k ∷ []) j ≡ counts_of (p.threads ++ k ∷ []) k = ap (counts_of (p.threads ++ k ∷ [])) e in
            let b = bumps-push (λ (i : ℕ). 0) p.threads k k in omega (arith, h, g, b, few)
            )
        | inr ne ↦ (
            let h = bump_other (counts_of p.threads) k j ne in
            let b = bumps-push (λ (i : ℕ). 0) p.threads k j in
            let f = at_.few j in omega (arith, h, b, f)
            )
      ];
    }

none-open : (counted : ℕ) (log : LogParts) (y : Played) → Open counted log y y (no_chunks y)
none-open counted log y =
    record {
      come = refl;
      state = refl;
      stratum = record { go = tt; clear = tt };
      below = tt;
      live = tt;
      alive = λ k live t is. live t is;
      few = λ k. omega arith;
    }

-- a first chunk of thread k
begun : (counted : ℕ) (log : LogParts) (y : Played) (k : ℕ) → ChunkGoes log y k → ((t : Parts) → slice_get y.threads k ≡ Some t → is_live t ≡ true) → k < counted
    → Open counted log y (play_turn log y (Turn k)) (with_chunk log (no_chunks y) k)
begun counted log y k c live l =
    joined counted log y y (no_chunks y) k (none-open counted log y) c live l (λ o is. start-clear (rule_of log k) y.memory y.threads k o) (omega arith)

-- ---- all commits

-- what is cut from these commits on
abbrev pub Cutting : (counted : ℕ) → LogParts → (y end : Played) → List Commit → Type 0
Cutting counted log y end cs =
    (y0 : Played) (before : List Stratum) (o : Option Present) → At counted log y0 y o
    → CutInto counted log y0 end before (cut_off counted (cut_on counted log y cs (cuts before o)))

-- a chunk that begins a stratum
begins : (counted : ℕ) (log : LogParts) (y0 y end : Played) (k : ℕ) (cs : List Commit) (before : List Stratum) (o : Option Present) → At counted log y0 y o → Cutting counted log (play_one log y) end cs
    → play_one log y ≡ play_turn log y (Turn k) → Open counted log y (play_turn log y (Turn k)) (with_chunk log (no_chunks y) k)
    → CutInto counted log y0 end before (cut_off counted (cut_on counted log (play_one log y) cs (chunk_begins counted log y k (cuts before o))))
begins counted log y0 y end k cs before o at_ next one open_ =
    closed counted log y0 y end before _ o at_
    (next y (cut_off counted (cuts before o)) (Some (with_chunk log (no_chunks y) k))
    (subst (λ (z : Played). Open counted log y z (with_chunk log (no_chunks y) k)) (sym one) open_, some-push [] k))

-- a chunk that comes to these, or begins a stratum
joins-or : (counted : ℕ) (log : LogParts) (y0 y end : Played) (k : ℕ) (cs : List Commit) (before : List Stratum) (p : Present) → Open counted log y0 y p → 0 < length p.threads → Cutting counted log (play_one log y) end cs
    → play_one log y ≡ play_turn log y (Turn k) → ChunkGoes log y k → ((t : Parts) → slice_get y.threads k ≡ Some t → is_live t ≡ true) → k < counted
    → (b : Bool) → is_apart log p k ≡ b
    → CutInto counted log y0 end before (cut_off counted (cut_on counted log (play_one log y) cs
    (cond b (chunk_begins counted log y k (cuts before (Some p))) (cuts before (Some (with_chunk log p k))))))
joins-or counted log y0 y end k cs before p at_ some next one c live l true is =
    begins counted log y0 y end k cs before (Some p) (at_, some) next one (begun counted log y k c live l)
joins-or counted log y0 y end k cs before p at_ some next one c live l false is =
    let n = or_neither (nat_eq (counts_of p.threads k) most_chunks) (clashes_next (rule_of log) p.state k) is in
    let other = eqb-false (counts_of p.threads k) most_chunks n.0 in
    let f = at_.few k in
    let few : counts_of p.threads k < most_chunks = elim (cases_lt (counts_of p.threads k) most_chunks) [
      | inl h ↦ h
      | inr h ↦ absurd (other (omega (arith, f, h)))
    ] in
    next y0 before (Some (with_chunk log p k)) (
      (subst (λ (z : Played). Open counted log y0 z (with_chunk log p k)) (sym one)
          (joined counted log y0 y p k at_ c live l
          (λ o there. (clear_is_tested (rule_of log k) p.state k o).0 (next-clear (rule_of log) p.state k (slice_get p.state.shares k) refl n.1 o there))
          few)),
      some-push p.threads k,
    )

chunk-cut-into : (counted : ℕ) (log : LogParts) (y0 y end : Played) (k : ℕ) (cs : List Commit) (before : List Stratum) (o : Option Present) → At counted log y0 y o → Cutting counted log (play_one log y) end cs
    → play_one log y ≡ play_turn log y (Turn k) → ChunkGoes log y k → ((t : Parts) → slice_get y.threads k ≡ Some t → is_live t ≡ true) → k < counted
    → CutInto counted log y0 end before (cut_off counted (cut_on counted log (play_one log y) cs (chunk_cut counted log y k (cuts before o))))
chunk-cut-into counted log y0 y end k cs before None at_ next one c live l =
    begins counted log y0 y end k cs before None at_ next one (begun counted log y k c live l)
chunk-cut-into counted log y0 y end k cs before (Some p) at_ next one c live l =
    joins-or counted log y0 y end k cs before p at_.0 at_.1 next one c live l (is_apart log p k) refl

-- a commit by itself
alone-cut-into : (counted : ℕ) (log : LogParts) (y0 y end : Played) (now : TurnOrEnd) (cs : List Commit) (before : List Stratum) (o : Option Present) → At counted log y0 y o → Cutting counted log (play_one log y) end cs
    → play_one log y ≡ play_turn log y now → AloneRight counted log y now
    → CutInto counted log y0 end before (cut_off counted (cut_on counted log (play_one log y) cs (alone_cut counted (stratum_for counted (Alone now)) (cuts before o))))
alone-cut-into counted log y0 y end now cs before o at_ next one right =
    let x : Stratum = stratum_for counted (Alone now) in
    let so_far : List Stratum = cut_off counted (cuts before o) in
    let r = next (play_one log y) (so_far ++ x ∷ []) None refl in
    closed counted log y0 y end before _ o at_
    (record {
      blocks = Alone now ∷ r.blocks;
      last = ap (λ (z : Played). in_canonical_order log z r.blocks) (sym one) ∙ r.last;
      go = (right, subst (λ (z : Played). GoesBy counted log z r.blocks) one r.go);
      are = r.are ∙ append_assoc so_far (x ∷ []) (map (stratum_for counted) r.blocks);
    })

-- the commit of thread k, by its kind
thread-cut-into : (counted : ℕ) (log : LogParts) (y0 y end : Played) (k : ℕ) (c : Commit) (d : ThreadDoes log y k c) (kind : Option Kind) → next_kind d.thread y.memory ≡ kind
    → (cs : List Commit) (before : List Stratum) (o : Option Present) → At counted log y0 y o → Cutting counted log (play_one log y) end cs → play_one log y ≡ play_turn log y (Turn k) → k < counted
    → CutInto counted log y0 end before (cut_off counted (cut_on counted log (play_one log y) cs (thread_cut counted log y k (kind_by kind) (cuts before o))))
thread-cut-into counted log y0 y end k c d None is cs before o at_ next one l =
    let chunk : c.kind ≡ CommitKind.Chunk = d.kind ∙ ap kind_by is in
    chunk-cut-into counted log y0 y end k cs before o at_ next one (chunk-goes log y k c d chunk)
    (λ t there. let same : d.thread ≡ t = some-thread d.thread t (sym d.there ∙ there) in ap (λ (x : Parts). is_live x) (sym same) ∙ d.live) l
  where
    some-thread : (a b : Parts) → Some a ≡ Some b → a ≡ b
    some-thread a b e = cc
thread-cut-into counted log y0 y end k c d (Some serial) is cs before o at_ next one l =
    alone-cut-into counted log y0 y end (Turn k) cs before o at_ next one
    (record {
      goes = record { thread = d.thread; there = d.there; effect = d.effect; used = d.used; goes = d.goes };
      is = (d.thread, (d.there, d.live, (serial, is)));
      below = l;
    })

commit-cut-into : (counted : ℕ) (log : LogParts) (y0 y end : Played) (now : TurnOrEnd) (c : Commit) (cs : List Commit) (before : List Stratum) (o : Option Present) → y.now ≡ now → Does log y now c
    → At counted log y0 y o → Cutting counted log (play_one log y) end cs → play_one log y ≡ play_turn log y now → length y.threads ≤ counted
    → CutInto counted log y0 end before (cut_off counted (cut_on counted log (play_one log y) cs (actor_cut counted log y c.actor c.kind (cuts before o))))
commit-cut-into counted log y0 y end (Ended how) c cs before o is does at_ next one most = absurd does
commit-cut-into counted log y0 y end TurnOfDma c cs before o is does at_ next one most =
    subst (λ (a : Actor). CutInto counted log y0 end before (cut_off counted (cut_on counted log (play_one log y) cs (actor_cut counted log y a c.kind (cuts before o))))) (sym (ap actor_in does.commit))
    (alone-cut-into counted log y0 y end TurnOfDma cs before o at_ next one (record { goes = (does.words, does.goes); is = tt; below = tt }))
commit-cut-into counted log y0 y end (Turn k) c cs before o is does at_ next one most =
    let below = get-below y.threads k does.thread does.there in
    subst (λ (a : Actor). CutInto counted log y0 end before (cut_off counted (cut_on counted log (play_one log y) cs (actor_cut counted log y a c.kind (cuts before o))))) (sym does.actor)
    (subst (λ (kind : CommitKind). CutInto counted log y0 end before (cut_off counted (cut_on counted log (play_one log y) cs (thread_cut counted log y k kind (cuts before o))))) (sym does.kind)
    (thread-cut-into counted log y0 y end k c does (next_kind does.thread y.memory) refl cs before o at_ next one (omega (arith, below, most))))

one-now : (log : LogParts) (y : Played) → play_one log y ≡ play_turn log y y.now
unfolding play_one
one-now log y = refl

-- the play is over where the last of them ends
nothing-cut : (counted : ℕ) (log : LogParts) (y : Played) → Over log y → (before : List Stratum) → CutInto counted log y y before before
nothing-cut counted log y over before = record { blocks = []; last = refl; go = over; are = sym (append-nil before) }

-- a play's remaining commits are cut into strata of blocks that it goes through, to its end
pub cutting : (counted : ℕ) (log : LogParts) (y : Played) (cs : List Commit) → Follows log y cs → length (plays log y (length cs)).threads ≤ counted → Cutting counted log y (plays log y (length cs)) cs
cutting counted log y [] f most y0 before o at_ = closed counted log y0 y y before _ o at_ (nothing-cut counted log y f (cut_off counted (cuts before o)))
cutting counted log y (c ∷ cs) f most y0 before o at_ =
    let end : Played = plays log (play_one log y) (length cs) in
    let shift : end ≡ plays log y (suc (length cs)) = plays-shift log y (length cs) in
    let later : length end.threads ≤ counted = (let e = ap (λ (z : Played). length z.threads) shift in omega (arith, most, e)) in
    let now : length y.threads ≤ counted = (let a = plays-threads log y (suc (length cs)) in omega (arith, a, most)) in
    subst (λ (z : Played). CutInto counted log y0 z before (cut_off counted (cut_on counted log y (c ∷ cs) (cuts before o)))) shift
    (commit-cut-into counted log y0 y end y.now c cs before o refl f.0.does at_ (cutting counted log (play_one log y) cs f.1 later) (one-now log y) now)
