-- What the replayer judges of a commit makes of its sphere what the definitions make of it.
use Rattle.std.proofs.Common.{◌≡◌, ℕ, ◌+◌, List, [], ◌∷◌, ◌++◌, Option, Some, None, option_map, refl, sym, ap, ◌∙◌}
use Rattle.dl_entry.specs.declared.Commit.{Commit}
use Rattle.dl_entry.specs.declared.End.{End}
use Rattle.dl_entry.specs.declared.Why.{Why}
use Rattle.spec_isa.specs.declared.thread.Load.{Load}
use Rattle.spec_isa.specs.Words.{Stored}
use Rattle.spec_kernel.specs.Devices.{Devices}
use Rattle.spec_play.specs.Effects.{dma_commit}
use Rattle.spec_play.specs.Progress.{Progress}
use Rattle.spec_play.specs.Transfers.{DmaVerdict, DmaGoes, DmaFails}
use Rattle.spec_play.specs.declared.interval.Interval.{Interval}
use Rattle.spec_play.specs.declared.used.Used.{Used}
use Rattle.spec_play.specs.Effects.{Effect}
use Rattle.spec_play.specs.Turns.{TurnOrEnd, Ended}
use Rattle.spec_log.specs.declared.LogParts.{LogParts}
use Rattle.spec_strata.specs.Standing.{Standing, place_of}
use Rattle.spec_play.specs.Verdicts.{LogVerdict, Goes, Fails}
use Rattle.spec_sphere.specs.sphere.Commits.{Diverged, Granted, MovedSphere, by_verdict, dma_by_verdict}
use Rattle.spec_sphere.specs.sphere.Spheres.{Replay, Role, Sphere}
use Rattle.dl_kernel.specs.declared.past.Past.{Past}
use Rattle.dl_kernel.specs.States.{PlayState as State}
use Rattle.dl_kernel.specs.InOrder.{listed}
use Rattle.dl_replay.specs.Following.{Following, cursor_of}
use Rattle.dl_replay.specs.Judged.{Judged, judged, dma_judged}
use Rattle.dl_replay.specs.Replays.{Agrees}
use Rattle.dl_replay.specs.declared.verdict.Verdict.{Verdict}
use Rattle.dl_sphere.specs.Pasts.{sphere_at, sphere_with}
use Rattle.dl_sphere.specs.Roles.{IsCounted}
use Rattle.dl_sphere.specs.Moving.{put_at}
use Rattle.dl_sphere.proofs.Replays.Judging.{IfGoes}

not-went : (why : Why) → Verdict.Diverged why ≡ Verdict.Went → ⊥
not-went why e = cc

-- the sphere's commits with one more of thread k
abbrev pub put_in : Past → Following → (thread : ℕ) → Commit → List Commit
put_in past r k c = put_at (option_map (place_of k) r.strata) c (listed past.commits)

-- The sphere has come so far; these are the loads of the pieces of its present commit, and the devices.
module _ (past : Past) (loads : List Load) (d : Devices) where
  -- the sphere in a state, with these commits, and so far in its log
  abbrev pub in_state : State → List Commit → Following → List Load → Sphere
  in_state s cs r ls = sphere_with past.first s.memory s.threads cs s.last s.request (Replay (cursor_of r s.used ls))

  abbrev now_at : Following → Sphere
  now_at r = in_state past.state (listed past.commits) r loads

  -- what an answer, with what it leaves, makes of the sphere: if a commit goes, it has these, and stores these words
  abbrev answered : List Commit → List Stored → Verdict → Following → State → MovedSphere
  answered cs words Verdict.Went r s =
      record { outcome = Granted; sphere = in_state s cs r []; words = words; devices = d }
  answered cs words (Verdict.Diverged why) r s =
      record { outcome = Diverged past.state.commits why; sphere = in_state s (listed past.commits) r loads; words = []; devices = d }

  abbrev pub made_of : List Commit → List Stored → Judged → MovedSphere
  made_of cs words j = answered cs words j.verdict j.replay j.state

  -- a commit that goes
  goes_in : (log : LogParts) (interval : Option Interval) (o : Option Standing) (now : TurnOrEnd) (total k : ℕ) (e : Effect) (u : Used)
      → let r : Following = record { log = log; interval = interval; strata = o; now = now; total = total } in
      made_of (put_in past r k e.commit) e.words (judged r past.state (now_at r).progress k (Goes e u)) ≡ by_verdict (cursor_of r past.state.used loads) k (Goes e u) d (now_at r)
  goes_in log interval None now total k e u = refl
  goes_in log interval (Some x) now total k e u = refl

  -- a commit of a thread
  pub commit_moved : (r : Following) (k : ℕ) (v : LogVerdict) (c : Commit) (words : List Stored) → IsCounted past → IfGoes c words v
      → made_of (put_in past r k c) words (judged r past.state (now_at r).progress k v) ≡ by_verdict (cursor_of r past.state.used loads) k v d (now_at r)
  commit_moved r k (Fails why) c words counted of =
      (λ i. record {
        outcome = Diverged (sym counted i) why;
        sphere = sphere_at past (Replay (record (cursor_of r past.state.used loads) { now = Ended (End.Diverged (sym counted i) why) }));
        words = [];
        devices = d;
      })
  commit_moved r k (Goes e u) c words counted of =
      (λ i. made_of (put_in past r k (sym of.commit i)) (sym of.stored i) (judged r past.state (now_at r).progress k (Goes e u)))
      ∙ goes_in r.log r.interval r.strata r.now r.total k e u

  -- a DMA
  abbrev pub IfStores : List Stored → DmaVerdict → Type 0
  IfStores words (DmaGoes stored) = stored ≡ words
  IfStores words (DmaFails why) = Unit {0}

  pub dma_goes : (r : Following) (v : DmaVerdict) (words : List Stored) → IsCounted past → IfStores words v
      → made_of ((listed past.commits) ++ dma_commit ∷ []) words (dma_judged r past.state (now_at r).progress v) ≡ dma_by_verdict (cursor_of r past.state.used loads) v d (now_at r)
  dma_goes r (DmaFails why) words counted of =
      (λ i. record {
        outcome = Diverged (sym counted i) why;
        sphere = sphere_at past (Replay (record (cursor_of r past.state.used loads) { now = Ended (End.Diverged (sym counted i) why) }));
        words = [];
        devices = d;
      })
  dma_goes r (DmaGoes stored) words counted of = (λ i. made_of ((listed past.commits) ++ dma_commit ∷ []) (sym of i) (dma_judged r past.state (now_at r).progress (DmaGoes stored)))

  -- the words that a DMA gives are those of its verdict
  pub dma_stores : (words : List Stored) (v : DmaVerdict) → DmaGoes words ≡ v → IfStores words v
  dma_stores words (DmaGoes stored) is = (let e : DmaGoes words ≡ DmaGoes stored = is in cc)
  dma_stores words (DmaFails why) is = tt

  -- ---- where the replay leaves its log

  fails : (why : Why) (new : Following) (t : State) (j : Judged) → record { verdict = Verdict.Diverged why; replay = new; state = t } ≡ j → (cs : List Commit) (words : List Stored) → answered cs words (Verdict.Diverged why) new t ≡ made_of cs words j
  fails why new t j is cs words = ap (made_of cs words) is

  pub commit_left : (r : Following) (k : ℕ) (v : LogVerdict) (why : Why) (new : Following) (t : State) → IsCounted past
      → record { verdict = Verdict.Diverged why; replay = new; state = t } ≡ judged r past.state (now_at r).progress k v
      → answered (listed past.commits) [] (Verdict.Diverged why) new t ≡ by_verdict (cursor_of r past.state.used loads) k v d (now_at r)
  commit_left r k (Fails other) why new t counted is = fails why new t _ is (put_in past r k dma_commit) [] ∙ commit_moved r k (Fails other) dma_commit [] counted tt
  commit_left r k (Goes e u) why new t counted is = absurd (not-went why (ap (λ (j : Judged). j.verdict) is))

  pub dma_left : (r : Following) (v : DmaVerdict) (why : Why) (new : Following) (t : State) → IsCounted past
      → record { verdict = Verdict.Diverged why; replay = new; state = t } ≡ dma_judged r past.state (now_at r).progress v
      → answered (listed past.commits) [] (Verdict.Diverged why) new t ≡ dma_by_verdict (cursor_of r past.state.used loads) v d (now_at r)
  dma_left r (DmaFails other) why new t counted is = fails why new t _ is ((listed past.commits) ++ dma_commit ∷ []) [] ∙ dma_goes r (DmaFails other) [] counted tt
  dma_left r (DmaGoes words) why new t counted is = absurd (not-went why (ap (λ (j : Judged). j.verdict) is))

-- ---- what is counted

-- an answer by which a commit goes counts one more, and one by which it doesn't leaves the state
abbrev Counts : Verdict → (before after : State) → Type 0
Counts Verdict.Went s t = t.commits ≡ s.commits + 1
Counts (Verdict.Diverged why) s t = t ≡ s

abbrev pub HasCounted : State → Judged → Type 0
HasCounted s j = Counts j.verdict s j.state

-- judging a thread's commit counts one more if it goes, and leaves the state if it diverges
pub commit_counted : (r : Following) (s : State) (p : Progress) (k : ℕ) (v : LogVerdict) → HasCounted s (judged r s p k v)
commit_counted r s p k (Fails why) = refl
commit_counted r s p k (Goes e u) = refl

-- judging a DMA counts one more if it goes, and leaves the state if it diverges
pub dma_counted : (r : Following) (s : State) (p : Progress) (v : DmaVerdict) → HasCounted s (dma_judged r s p v)
dma_counted r s p (DmaFails why) = refl
dma_counted r s p (DmaGoes words) = refl

-- ---- what stays

-- the log
pub commit_log : (r : Following) (s : State) (p : Progress) (k : ℕ) (v : LogVerdict) → (judged r s p k v).replay.log ≡ r.log
commit_log r s p k (Fails why) = refl
commit_log r s p k (Goes e u) = refl

-- judging a DMA leaves the replay's log as it is
pub dma_log : (r : Following) (s : State) (p : Progress) (v : DmaVerdict) → (dma_judged r s p v).replay.log ≡ r.log
dma_log r s p (DmaFails why) = refl
dma_log r s p (DmaGoes words) = refl

-- a sphere has come as far as its state says
pub agreed : (past : Past) (role : Role) → IsCounted past → Agrees past.state (sphere_at past role).progress
agreed past role counted = record { commits = counted; last = refl; request = refl }
