-- What each move makes of a recorded sphere and of its log; and that the play of the log, in the end, follows it.
use Rattle.std.proofs.Common.{◌≡◌, ℕ, zero, suc, ◌+◌, ◌<◌, ◌≤◌, inl, inr, Bool, true, false, not, eqb, cond, List, [], ◌∷◌, length, map, Option, Some, None, refl, sym, ap, ◌∙◌, subst, arith}
use Rattle.std.specs.Prelude.{slice_get, nat_lt, option_map}
use Rattle.std.specs.Option.{option_or}
use Rattle.std.proofs.lemmas.Bool.{true≢false, eqb-true, lt-ltb, cases_lt}
use Rattle.std.proofs.lemmas.Option.{none-some}
use Rattle.dl_entry.specs.declared.Actor.{Actor}
use Rattle.dl_entry.specs.declared.Input.{Input}
use Rattle.dl_entry.specs.declared.Request.{Request}
use Rattle.spec_isa.specs.declared.thread.Parts.{Parts}
use Rattle.spec_isa.specs.Runs.{run}
use Rattle.spec_log.specs.declared.ModeName.{ModeName}
use Rattle.spec_log.specs.declared.LogParts.{LogParts}
use Rattle.spec_log.specs.Head.{turn, first_live, next_live}
use Rattle.spec_kernel.specs.Devices.{Devices}
use Rattle.spec_kernel.specs.Copies.{dma_words}
use Rattle.spec_kernel.specs.Needs.{need}
use Rattle.spec_kernel.specs.Answers.{taken, dma_bytes, dma_taken}
use Rattle.spec_kernel.specs.Interrupts.{is_live, takes_interrupt}
use Rattle.spec_kernel.specs.Serving.{serve}
use Rattle.spec_play.specs.Effects.{Effect, chunk_effect, serial_effect, dma_commit}
use Rattle.spec_play.specs.Progress.{position}
use Rattle.spec_play.specs.Recording.{noted, interrupt_noted}
use Rattle.spec_play.specs.Plays.{Played, plays}
use Rattle.spec_sphere.specs.sphere.Spheres.{other_than, turn_in, turn_against, Recording, Role, Record, Sphere, recording_turn}
use Rattle.spec_sphere.specs.sphere.Commits.{MovedSphere, chunk_in, serial_noted, serial_in, dma_log, raised, dma_as, laid}
use Rattle.spec_sphere.specs.sphere.Moves.{SerialFits}
use Rattle.spec_sphere.proofs.Moves.Threads.{run-keeps, serve-keeps}
use Rattle.spec_sphere.proofs.Moves.Answering.{dma-most}
use Rattle.spec_sphere.specs.promises.Standing.{Stands}
use Rattle.spec_sphere.proofs.Logs.Growing.{Ahead, ThreadCommit, commit_of, HasCommitted, has_committed-parts, has_committed-stands}
use Rattle.spec_sphere.proofs.Logs.Coming.{has_committed-ahead, Transferred, transferred-stands, transferred-ahead, WasRaised, raised-stands, raised-ahead}
use Rattle.spec_sphere.proofs.PlayingBack.Following.{Follows, Effects, look-alike}
use Rattle.spec_sphere.proofs.PlayingBack.Commits.{commit-size, commit-follows}
use Rattle.spec_sphere.proofs.PlayingBack.Verdicts.{serial-goes}
use Rattle.spec_sphere.proofs.PlayingBack.Transfers.{transferred-follows, raised-follows}
use Rattle.std.specs.List.{prefix_len}
use Rattle.spec_play.proofs.Positions.{position-more}

-- ---- a sphere and its log, before and after

-- the play of L has come as far as p
abbrev pub Reaches : LogParts → Played → Sphere → LogParts → Type 0
Reaches L y p log = Follows L p log (plays L y (position p.progress))

-- q has come of p: its log stands by it, is past what was ahead, and is reached by the same play
pub record Grown (p q : Sphere) (log qlog : LogParts) : Type 0 where
  pub stands : Stands p log → Stands q qlog
  pub s : qlog.s ≡ log.s
  pub ahead : (L : LogParts) → Ahead L q qlog → Ahead L p log
  pub reaches : (L : LogParts) (y : Played) → Stands p log → Ahead L q qlog → Reaches L y p log → Reaches L y q qlog

-- nothing done is growth
pub grown_refl : (p : Sphere) (log : LogParts) → Grown p p log log
grown_refl p log = record { stands = λ s. s; s = refl; ahead = λ L a. a; reaches = λ L y s a r. r }

-- growth upon growth is growth
pub grown_trans : (p q r : Sphere) (plog qlog rlog : LogParts) → Grown p q plog qlog → Grown q r qlog rlog → Grown p r plog rlog
grown_trans p q r plog qlog rlog a b =
    record {
      stands = λ s. b.stands (a.stands s);
      s = b.s ∙ a.s;
      ahead = λ L h. a.ahead L (b.ahead L h);
      reaches = λ L y s h f. b.reaches L y (a.stands s) h (a.reaches L y s (b.ahead L h) f);
    }

-- ---- a commit of a thread

-- a sphere and its log grow by a thread's commit, if plays that follow them do it too
pub commit_grown : (c : ThreadCommit) (p q : Sphere) (log qlog : LogParts) (e : Effect) → HasCommitted c p q log qlog
    → ((L : LogParts) (y : Played) → Stands p log → Ahead L p log → Ahead L q qlog → Follows L p log y → Effects L c p q qlog y e) → Grown p q log qlog
commit_grown c p q log qlog e d effects =
    record {
      stands = has_committed-stands c p q log qlog d;
      s = (has_committed-parts c p q log qlog d).s;
      ahead = λ L a. has_committed-ahead L c p q log qlog d a;
      reaches = λ L y s a f.
          let ap_ : Ahead L p log = has_committed-ahead L c p q log qlog d a in
          let y2 : Played = plays L y (position p.progress) in
          subst (λ (n : ℕ). Follows L q qlog (plays L y n)) (sym d.position_)
          (commit-follows L c p q log qlog d s a y2 e ap_ f (effects L y2 s ap_ a f));
    }

-- ---- turns

below_cond : (b : Bool) (m n : ℕ) → (b ≡ false → m < n) → cond (not b) (1 + m) 0 < suc n
below_cond true m n l = omega arith
below_cond false m n l = let h = l refl in omega arith

first_below : (ts : List Parts) (k : ℕ) (t : Parts) → slice_get ts k ≡ Some t → is_live t ≡ true → prefix_len (λ (b : Bool). not b) (map is_live ts) < length (map is_live ts)
first_below [] k t e live = absurd (none-some t e)
first_below (x ∷ ts) zero t e live =
    below_cond (is_live x) _ _ (λ h. absurd (true≢false (sym live ∙ sym (ap is_live (let g : x ≡ t = cc in g)) ∙ h)))
first_below (x ∷ ts) (suc k) t e live = below_cond (is_live x) _ _ (λ h. first_below ts k t e live)

first_some : (ts : List Parts) (k : ℕ) (t : Parts) → slice_get ts k ≡ Some t → is_live t ≡ true → (j : ℕ) × (first_live (map is_live ts) ≡ Some j)
first_some ts k t e live =
    let n : ℕ = prefix_len (λ (b : Bool). not b) (map is_live ts) in
    (n, ap (λ (b : Bool). cond b (Some n) None) (lt-ltb n (length (map is_live ts)) (first_below ts k t e live)))

or_some : (o o2 : Option ℕ) (j : ℕ) → o2 ≡ Some j → (i : ℕ) × (option_or o o2 ≡ Some i)
or_some None o2 j e = (j, e)
or_some (Some i) o2 j e = (i, refl)

turn_some : (last : Option ℕ) (ts : List Parts) (k : ℕ) (t : Parts) → slice_get ts k ≡ Some t → is_live t ≡ true → (j : ℕ) × (turn last (map is_live ts) ≡ Some j)
turn_some None ts k t e live = first_some ts k t e live
turn_some (Some last) ts k t e live = let f = first_some ts k t e live in or_some (next_live last (map is_live ts)) (first_live (map is_live ts)) f.0 f.1

no_other : (j k : ℕ) → other_than (Actor.Thread k) (Some (Actor.Thread j)) ≡ None → j ≡ k
no_other j k e =
    eqb-true j k (elim (eqb j k) as (λ b. cond b None (Some (Actor.Thread j)) ≡ None → b ≡ true) [
      | true ↦ λ h. refl
      | false ↦ λ h. absurd (none-some (Actor.Thread j) (sym h))
    ] e)

-- in picolog the thread whose chunk or step is granted has the turn
pub taken_turn : (L : LogParts) (recording : Recording) (p : Sphere) (k : ℕ) (t : Parts) → p.role ≡ Record recording → L.mode ≡ recording.log.mode → slice_get p.threads k ≡ Some t → is_live t ≡ true → turn_against p (Actor.Thread k) ≡ None → L.mode ≡ ModeName.Picolog → turn p.progress.last (map is_live p.threads) ≡ Some k
unfolding turn_against
taken_turn L recording p k t role mode is live free pico =
    let some = turn_some p.progress.last p.threads k t is live in
    let head : other_than (Actor.Thread k) (Some (Actor.Thread some.0)) ≡ None =
    sym (
    ap (λ (r : Role). turn_in r p (Actor.Thread k)) role ∙ ap (λ (m : ModeName). other_than (Actor.Thread k) (recording_turn m p)) (sym mode ∙ pico)
    ∙ ap (λ (o : Option ℕ). other_than (Actor.Thread k) (option_map Actor.Thread o)) some.1
    )
    ∙ free
    in
    some.1 ∙ ap (λ (n : ℕ). Some n) (no_other some.0 k head)

-- ---- a chunk

-- a number that isn't less than another is at least the other
pub not_less : (m n : ℕ) → nat_lt m n ≡ false → n ≤ m
not_less m n e = elim (cases_lt m n) [
  | inl l ↦ absurd (true≢false (sym (lt-ltb m n l) ∙ e))
  | inr l ↦ l
]

-- a recorded chunk is a commit of its thread
pub chunk-committed : (recording : Recording) (p : Sphere) (k : ℕ) (t : Parts) (piece short : Bool) (n : ℕ) (devices : Devices) → slice_get p.threads k ≡ Some t
    → let r = run p.memory t n in
    let e = chunk_effect k p.progress.request r in
    HasCommitted (commit_of k short t e None) p (laid (chunk_in (Record recording) k piece short r devices p)) recording.log (noted e.commit r.thread.commits short recording.log)
chunk-committed recording p k t piece short n devices is =
    let r = run p.memory t n in
    let e = chunk_effect k p.progress.request r in
    record {
      start = is;
      threads = refl;
      commits = ap (λ (c : ℕ). c + 1) (run-keeps p.memory t n);
      new = tt;
      position_ = position-more p.progress e.commit;
      actor = refl;
      log_ = ap (λ (c : ℕ). noted e.commit c short recording.log) (run-keeps p.memory t n);
    }

-- ---- a serial step

-- what a serial step makes of a recorded sphere
abbrev pub recorded_serial : Recording → Sphere → ℕ → (moment : ℕ) → Parts → Devices → MovedSphere
recorded_serial recording p k moment t devices = serial_in (Record recording) k moment t devices p

abbrev serial_log : LogParts → Sphere → ℕ → (moment : ℕ) → Parts → Devices → LogParts
serial_log log p k moment t devices = serial_noted k t (taken (need t p.memory) devices moment) log p

abbrev effect_of : (most : ℕ) → Sphere → ℕ → (moment : ℕ) → Parts → Devices → Effect
effect_of most p k moment t devices = serial_effect k (serve most k p.threads p.progress.request t p.memory (taken (need t p.memory) devices moment).input)

-- a recorded serial step is a commit of its thread
pub serial-committed : (recording : Recording) (p : Sphere) (k moment : ℕ) (t : Parts) (devices : Devices) → slice_get p.threads k ≡ Some t
    → let e = effect_of recording.log.threads p k moment t devices in
    HasCommitted (commit_of k false t e (taken (need t p.memory) devices moment).input) p (laid (recorded_serial recording p k moment t devices)) recording.log (serial_log recording.log p k moment t devices)
serial-committed recording p k moment t devices is =
    let e = effect_of recording.log.threads p k moment t devices in
    let h = serve-keeps recording.log.threads k p.threads p.progress.request t p.memory (taken (need t p.memory) devices moment).input in
    record {
      start = is;
      threads = refl;
      commits = ap (λ (c : ℕ). c + 1) h.commits;
      new = h.fresh;
      position_ = position-more p.progress e.commit;
      actor = refl;
      log_ = refl;
    }

-- a recorded sphere and its log have grown after a serial step
pub serial-grown : (recording : Recording) (p : Sphere) (k moment : ℕ) (t : Parts) (devices : Devices) → p.role ≡ Record recording → slice_get p.threads k ≡ Some t → SerialFits p k t
    → Grown p (laid (recorded_serial recording p k moment t devices)) recording.log (serial_log recording.log p k moment t devices)
serial-grown recording p k moment t devices role is fits =
    let e = effect_of recording.log.threads p k moment t devices in
    let o : Option Input = (taken (need t p.memory) devices moment).input in
    let q = laid (recorded_serial recording p k moment t devices) in
    let qlog = serial_log recording.log p k moment t devices in
    let c = commit_of k false t e o in
    let d = serial-committed recording p k moment t devices is in
    commit_grown c p q recording.log qlog e d
    (λ L y sp ap_ aq f.
    let size = commit-size L c p q recording.log qlog d sp aq in
    record {
      thread = refl;
      spawned = refl;
      memory = refl;
      progress = refl;
      live = fits.live;
      turn_ = taken_turn L recording p k t role ap_.mode is fits.live fits.turn;
      verdict = serial-goes L y k p.memory t p.progress p.threads devices moment (noted e.commit t.commits false recording.log) ap_.threads f.memory f.progress (look-alike L p recording.log y f) f.inputs fits.serial
          (elim size [
            | inl h ↦ inl h
            | inr h ↦ inr h.0
          ]) aq.inputs;
    })

-- ---- a DMA

-- what a DMA makes of a recorded sphere
abbrev pub recorded_dma : Recording → Sphere → Devices → Request → MovedSphere
recorded_dma recording p devices request = dma_as (Record (record recording { log = dma_log recording.log devices p (Some request) })) (dma_words request (dma_bytes devices request)) (dma_taken devices request) p

-- a recorded sphere and its log have grown after a DMA
pub dma-grown : (recording : Recording) (p : Sphere) (devices : Devices) (request : Request) → p.progress.request ≡ Some request → Grown p (laid (recorded_dma recording p devices request)) recording.log (dma_log recording.log devices p (Some request))
dma-grown recording p devices request asked =
    let log = recording.log in
    let q = laid (recorded_dma recording p devices request) in
    let qlog = dma_log log devices p (Some request) in
    let bytes = dma_bytes devices request in
    let d : Transferred p q log qlog bytes = record { threads = refl; position_ = position-more p.progress dma_commit; log_ = refl } in
    record {
      stands = transferred-stands p q log qlog bytes d;
      s = refl;
      ahead = λ L a. transferred-ahead L p q log qlog bytes d a;
      reaches = λ L y s a f.
          subst (λ (n : ℕ). Follows L q qlog (plays L y n)) (sym d.position_)
          (transferred-follows L p q log qlog bytes request (plays L y (position p.progress)) d refl refl asked (dma-most devices request) s (transferred-ahead L p q log qlog bytes d a) a f);
    }

-- ---- an interrupt

-- a recorded sphere and its log have grown after an interrupt
pub raise-grown : (recording : Recording) (p : Sphere) (k value : ℕ) (t : Parts) → p.role ≡ Record recording → slice_get p.threads k ≡ Some t → takes_interrupt t ≡ true → Grown p (raised k value t p) recording.log (interrupt_noted k t.commits value recording.log)
unfolding raised
raise-grown recording p k value t role is takes =
    let q = raised k value t p in
    let qlog = interrupt_noted k t.commits value recording.log in
    let d : WasRaised k value p q recording.log qlog t = record { start = is; takes = takes; threads = refl; progress = refl; log_ = refl } in
    record {
      stands = raised-stands k value p q recording.log qlog t d;
      s = refl;
      ahead = λ L a. raised-ahead L k value p q recording.log qlog t d a;
      reaches = λ L y s a f. raised-follows L p q recording.log qlog k value t d s a (plays L y (position p.progress)) refl f;
    }
