-- A sphere that is replayed in strata, beside the play of their log; and whose commit may come next.
use Rattle.std.proofs.Common.{◌≡◌, ℕ, ◌<◌, ◌⊎◌, inl, inr, true, List, [], ◌∷◌, Option, Some, None, refl, sym, ap, ◌∙◌, subst, arith}
use Rattle.std.specs.Prelude.{option_map, nat_eq}
use Rattle.std.proofs.lemmas.Bool.{true≢false, and_parts, ltb-true}
use Rattle.std.proofs.lemmas.Option.{none-some}
use Rattle.dl_entry.specs.declared.Actor.{Actor}
use Rattle.spec_isa.specs.declared.thread.Parts.{Parts}
use Rattle.spec_isa.specs.Words.{lays}
use Rattle.spec_log.specs.declared.LogParts.{LogParts}
use Rattle.spec_kernel.specs.Devices.{Devices}
use Rattle.spec_play.specs.Effects.{Effect}
use Rattle.spec_play.specs.Progress.{position, with_dma, with_dma_used}
use Rattle.spec_play.specs.declared.used.Used.{Used}
use Rattle.spec_play.specs.Turns.{Turn, TurnOfDma}
use Rattle.spec_play.specs.Intervals.{now_in}
use Rattle.spec_play.specs.Verdicts.{Goes}
use Rattle.spec_play.specs.Transfers.{DmaGoes}
use Rattle.spec_isa.specs.Words.{Stored}
use Rattle.spec_play.specs.Plays.{Played, with_threads}
use Rattle.spec_play.proofs.Going.{Lives}
use Rattle.spec_strata.specs.declared.stratum.Stratum.{Stratum}
use Rattle.spec_strata.specs.declared.stratum.Stratum.TheVariants.{Chunks, Serial, Dma}
use Rattle.spec_strata.specs.declared.strata.StrataParts.{StrataParts}
use Rattle.spec_strata.specs.Canonical.{canonical}
use Rattle.spec_strata.specs.Standing.{Standing, least_left, head_in, has_chunks_left, after_thread, after_dma}
use Rattle.spec_strata.proofs.Shares.Steps.{mapped}
use Rattle.spec_sphere.specs.sphere.Spheres.{Cursor, Replay, Sphere, joins_in}
use Rattle.spec_sphere.specs.sphere.Commits.{with_commit, now_by, turned, by_verdict, dma_by_verdict, laid}
use Rattle.spec_sphere.specs.sphere.Setups.{SphereSetup}
use Rattle.spec_sphere.proofs.Moves.Joining.{MayGo, joins-whole, own_pieces}
use Rattle.spec_replay.specs.Following.{IsWhole, IsMovedOn}
use Rattle.spec_replay.specs.InStrata.{done_by, count_in, HasPieces, stratum_at, FollowsInStrata}
use Rattle.spec_replay.proofs.Commits.Standing.{moved_whole}
use Rattle.spec_replay.proofs.Commits.Pieces.{IsAtCommit}
use Rattle.spec_strata.proofs.Standing.Counts.{count_at, least-left}
use Rattle.spec_replay.proofs.Strata.Heads.{head-named, head-dma}
use Rattle.spec_replay.proofs.Strata.Coming.{Comes, NextIs}

-- ---- where a sphere is

-- with the standing x the play of the strata's log would be at y, and so is the sphere, except for pieces of one more commit
pub record IsThere (log : LogParts) (y : Played) (x : Standing) (p : Sphere) (b : Cursor) : Type 0 where
  pub role : p.role ≡ Replay b
  pub same_log : b.log ≡ log
  pub whole : b.interval ≡ None
  pub there : b.strata ≡ Some x
  pub progress : p.progress ≡ y.progress
  pub used : b.used ≡ y.used
  pub state : IsWhole y p b ⊎ ((k : ℕ) × HasPieces log y x k p b)
  pub now : b.total ≡ 0 → b.now ≡ now_by (Some x) log y.progress y.used y.threads

pub record ComesTo (v : StrataParts) (image : SphereSetup) (p : Sphere) : Type 0 where
  pub cursor : Cursor
  pub standing : Standing
  pub comes : Comes v image standing
  pub is : IsThere (canonical v) (stratum_at v image standing) standing p cursor

-- a sphere that has come as far as the strata say follows the play in them
pub follows-in : (v : StrataParts) (image : SphereSetup) (p : Sphere) → ComesTo v image p → FollowsInStrata v image p
follows-in v image p c =
    record {
      cursor = c.cursor;
      role = c.is.role;
      same_log = c.is.same_log;
      whole = c.is.whole;
      standing = c.standing;
      there = c.is.there;
      past = c.comes.past;
      strata = c.comes.strata;
      before = c.comes.before;
      few = c.comes.few;
      progress = c.is.progress;
      used = c.is.used;
      state = c.is.state;
      now = c.is.now;
    }

-- ---- a commit more

-- the play is then z, and so is the sphere q
pub comes-whole : (v : StrataParts) (image : SphereSetup) (x : Standing) (z : Played) (q : Sphere) (c : Cursor) → NextIs v image x z → q.role ≡ Replay c → c.log ≡ canonical v → c.interval ≡ None → c.strata ≡ Some x
    → q.progress ≡ z.progress → c.used ≡ z.used → c.now ≡ now_by (Some x) (canonical v) z.progress z.used z.threads → IsWhole z q c → ComesTo v image q
comes-whole v image x z q c n role same_log whole there progress used now state =
    record {
      cursor = c;
      standing = x;
      comes = n.comes;
      is = subst (λ (y : Played). IsThere (canonical v) y x q c) (sym n.at_)
          (record { role = role; same_log = same_log; whole = whole; there = there; progress = progress; used = used; state = inl state; now = λ none. now });
    }

-- a thread's
pub goes-comes : (v : StrataParts) (image : SphereSetup) (y : Played) (x : Standing) (z : Played) (p : Sphere) (b : Cursor) (k : ℕ) (e : Effect) (u : Used) (devices : Devices) → IsThere (canonical v) y x p b → NextIs v image (after_thread k x) z
    → with_commit (Some x) k e p.progress ≡ z.progress → u ≡ z.used → lays p.memory e.words ≡ z.memory → with_threads k e p.threads ≡ z.threads → ComesTo v image (laid (by_verdict b k (Goes e u) devices p))
goes-comes v image y x z p b k e u devices a n placed used memory threads =
    let log : LogParts = canonical v in
    let strata : option_map (after_thread k) b.strata ≡ Some (after_thread k x) = ap (option_map (after_thread k)) a.there in
    let progress : with_commit b.strata k e p.progress ≡ z.progress = ap (λ (o : Option Standing). with_commit o k e p.progress) a.there ∙ placed in
    let c : Cursor = turned b.log b.interval (option_map (after_thread k) b.strata) (with_commit b.strata k e p.progress) u (with_threads k e p.threads) in
    let now : c.now ≡ now_by (Some (after_thread k x)) log z.progress z.used z.threads =
    (λ i. now_in (a.whole i) (a.same_log i).count (position (progress i)) (now_by (strata i) (a.same_log i) (progress i) (used i) (threads i)))
    in
    comes-whole v image (after_thread k x) z (laid (by_verdict b k (Goes e u) devices p)) c n refl a.same_log a.whole strata progress used now
    (record { memory = memory; threads = threads; total = refl; loads = refl })

-- a DMA
pub dma-comes : (v : StrataParts) (image : SphereSetup) (y : Played) (x : Standing) (z : Played) (p : Sphere) (b : Cursor) (ws : List Stored) (devices : Devices) → IsThere (canonical v) y x p b → NextIs v image (after_dma x) z
    → with_dma p.progress ≡ z.progress → with_dma_used b.used ≡ z.used → lays p.memory ws ≡ z.memory → p.threads ≡ z.threads → ComesTo v image (laid (dma_by_verdict b (DmaGoes ws) devices p))
dma-comes v image y x z p b ws devices a n progress used memory threads =
    let log : LogParts = canonical v in
    let strata : option_map after_dma b.strata ≡ Some (after_dma x) = ap (option_map after_dma) a.there in
    let c : Cursor = turned b.log b.interval (option_map after_dma b.strata) (with_dma p.progress) (with_dma_used b.used) p.threads in
    let now : c.now ≡ now_by (Some (after_dma x)) log z.progress z.used z.threads =
    (λ i. now_in (a.whole i) (a.same_log i).count (position (progress i)) (now_by (strata i) (a.same_log i) (progress i) (used i) (threads i)))
    in
    comes-whole v image (after_dma x) z (laid (dma_by_verdict b (DmaGoes ws) devices p)) c n refl a.same_log a.whole strata progress used now
    (record { memory = memory; threads = threads; total = refl; loads = refl })

-- ---- whose commit may come

-- a serial step of thread k is the present stratum
pub record IsStep (y : Played) (x : Standing) (p : Sphere) (b : Cursor) (k : ℕ) : Type 0 where
  pub rest : List Stratum
  pub strata : x.strata ≡ Serial k ∷ rest
  pub whole : IsWhole y p b

abbrev pub WhoGoes : Played → Standing → Sphere → Cursor → ℕ → Type 0
WhoGoes y x p b k = (done_by x k < count_in x.strata k) ⊎ IsStep y x p b k

same_actor : (j k : ℕ) → Some (Actor.Thread j) ≡ Some (Actor.Thread k) → j ≡ k
same_actor j k e = cc

abbrev IsHead : List Stratum → List ℕ → ℕ → Type 0
IsHead s ds k = (count_at ds k < count_in s k) ⊎ ((rest : List Stratum) × (s ≡ Serial k ∷ rest))

head-is : (s : List Stratum) (ds : List ℕ) (k : ℕ) → head_in s ds ≡ Some (Actor.Thread k) → IsHead s ds k
head-is [] ds k e = absurd (none-some (Actor.Thread k) e)
head-is (Chunks counts ∷ xs) ds k e =
    let m = mapped Actor.Thread (least_left 0 counts ds) (Actor.Thread k) e in
    let j : ℕ = m.0 in
    let same : j ≡ k = (let h : Actor.Thread j ≡ Actor.Thread k = m.1.1 in cc) in
    let l = least-left 0 counts ds j m.1.0 in
    let is = l.is in
    let place : l.place ≡ k = omega (arith, is, same) in
    inl (subst (λ (i : ℕ). count_at ds i < count_at counts i) place l.left)
head-is (Serial t ∷ xs) ds k e = let h : t ≡ k = same_actor t k e in inr (xs, ap (λ (i : ℕ). Serial i ∷ xs) h)
head-is (Dma ∷ xs) ds k e = let h : Some Actor.Dma ≡ Some (Actor.Thread k) = e in cc

dma-is : (s : List Stratum) (ds : List ℕ) → head_in s ds ≡ Some Actor.Dma → (rest : List Stratum) × (s ≡ Dma ∷ rest)
dma-is [] ds e = absurd (none-some Actor.Dma e)
dma-is (Chunks counts ∷ xs) ds e =
    let m = mapped Actor.Thread (least_left 0 counts ds) Actor.Dma e in
    let h : Actor.Thread m.0 ≡ Actor.Dma = m.1.1 in cc
dma-is (Serial t ∷ xs) ds e = let h : Some (Actor.Thread t) ≡ Some Actor.Dma = e in cc
dma-is (Dma ∷ xs) ds e = (xs, refl)

left-is : (s : List Stratum) (ds : List ℕ) (k : ℕ) → has_chunks_left s ds k ≡ true → count_at ds k < count_in s k
left-is [] ds k e = absurd (true≢false (sym e))
left-is (Chunks counts ∷ xs) ds k e = ltb-true (count_at ds k) (count_at counts k) e
left-is (Serial t ∷ xs) ds k e = absurd (true≢false (sym e))
left-is (Dma ∷ xs) ds k e = absurd (true≢false (sym e))

joins-left : (x : Standing) (k total : ℕ) → joins_in (Some x) k total ≡ true → done_by x k < count_in x.strata k
joins-left x k total j = left-is x.strata x.done k (and_parts (nat_eq total 0) (has_chunks_left x.strata x.done k) j).1

-- pieces are of the thread that may commit
own-of : (log : LogParts) (y : Played) (x : Standing) (p : Sphere) (b : Cursor) (j k : ℕ) → HasPieces log y x j p b → MayGo b k → j ≡ k
own-of log y x p b j k h may =
    elim may.turn [
      | inl turn ↦ (let e : Turn j ≡ Turn k = sym h.turn ∙ turn in cc)
      | inr joins ↦ (let none = joins-whole b.strata k b.total joins in let some = h.some in absurd (omega (arith, none, some)))
    ]

-- the replay p, with its cursor b, is where the play would be at y with the standing x
module _ (log : LogParts) (y : Played) (x : Standing) (p : Sphere) (b : Cursor) (a : IsThere log y x p b) where
  pub who-goes : (k : ℕ) → MayGo b k → WhoGoes y x p b k
  who-goes k may =
      elim a.state [
        | inr h ↦ inl (subst (λ (i : ℕ). done_by x i < count_in x.strata i) (own-of log y x p b h.0 k h.1 may) h.1.left)
        | inl w ↦ elim may.turn [
          | inr joins ↦ inl (joins-left x k b.total (ap (λ (o : Option Standing). joins_in o k b.total) (sym a.there) ∙ joins))
          | inl turn ↦ elim (head-is x.strata x.done k (head-named log x y.progress y.used y.threads k (sym (a.now w.total) ∙ turn))) [
            | inl left ↦ inl left
            | inr step ↦ inr (record { rest = step.0; strata = step.1; whole = w })
          ]
        ]
      ]

  -- the DMA's turn is in a stratum of its own
  pub dma-goes : b.now ≡ TurnOfDma → IsWhole y p b × ((rest : List Stratum) × (x.strata ≡ Dma ∷ rest))
  dma-goes turn =
      elim a.state [
        | inr h ↦ (let e : Turn h.0 ≡ TurnOfDma = sym h.1.turn ∙ turn in cc)
        | inl w ↦ (w, dma-is x.strata x.done (head-dma log x y.progress y.used y.threads (sym (a.now w.total) ∙ turn)))
      ]

  -- a thread that may commit and lives is at a commit
  pub commit-of : (k : ℕ) → 0 < log.s → MayGo b k → Lives y.threads k → (t : Parts) × IsAtCommit log y p b k t
  commit-of k s may l =
      elim a.state [
        | inl w ↦ (let m = moved_whole log y k p b s l w in (m.0, record { role = a.role; same_log = a.same_log; own = own_pieces b k may; moved = m.1 }))
        | inr h ↦ (
          h.1.thread,
          record {
            role = a.role;
            same_log = a.same_log;
            own = own_pieces b k may;
            moved = subst (λ (i : ℕ). IsMovedOn log y i h.1.thread p b) (own-of log y x p b h.0 k h.1 may) h.1.moved;
          },
        )
      ]
