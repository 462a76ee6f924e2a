-- What a DMA leaves alone in its sphere.
use Rattle.std.proofs.Common.{◌≡◌, ℕ, ◌-◌, Bool, true, false, cond, List, Option, Some, None, refl, sym, ap, ◌∙◌, subst}
use Rattle.std.specs.Prelude.{slice_get, max}
use Rattle.std.proofs.lemmas.Bool.{true≢false}
use Rattle.std.proofs.lemmas.Option.{none-some}
use Rattle.dl_entry.specs.declared.Actor.{Actor}
use Rattle.dl_entry.specs.declared.Request.{Request}
use Rattle.dl_entry.specs.declared.Why.{Why}
use Rattle.spec_isa.specs.declared.thread.Parts.{Parts}
use Rattle.spec_isa.specs.Words.{Stored, Apart}
use Rattle.spec_log.specs.declared.DmaRecord.{DmaRecord}
use Rattle.spec_log.specs.declared.LogParts.{LogParts}
use Rattle.spec_log.specs.Size.{size_in}
use Rattle.spec_kernel.specs.Devices.{Devices}
use Rattle.spec_kernel.specs.Copies.{dma_words}
use Rattle.spec_kernel.specs.Answers.{dma_bytes, dma_taken}
use Rattle.spec_play.specs.Progress.{Progress, position}
use Rattle.spec_play.specs.declared.used.Used.{Used}
use Rattle.spec_play.specs.Turns.{TurnOrEnd, Turn, TurnOfDma, Ended}
use Rattle.spec_play.specs.Verdicts.{serial_why}
use Rattle.spec_play.specs.Transfers.{DmaVerdict, DmaGoes, DmaFails, is_for, transferred, dma_unless, dma_verdict}
use Rattle.spec_sphere.specs.sphere.Spheres.{other_than, turn_in, turn_against, Cursor, Role, Plain, Record, Replay, Sphere, is_over, is_stopped, actor_of, whole_limit, pieces_of, limit_in, limit_of, halves, limit_after_in, limit_after, replays}
use Rattle.spec_sphere.specs.sphere.Commits.{Granted, MovedSphere, dma_as, live_dma, dma_log, dma_by_verdict, dma_in, dma_moved}
use Rattle.spec_sphere.proofs.Moves.Joining.{pieces_none}
use Rattle.spec_sphere.proofs.Moves.Granted.{bytes_apart, Divergence}

-- a DMA leaves the memory, the threads, their limits and the sphere's role
pub record DmaMoves (devices : Devices) (p : Sphere) (v : MovedSphere) : Type 0 where
  pub memory : v.sphere.memory ≡ p.memory
  pub threads : v.sphere.threads ≡ p.threads
  pub halving : halves v.sphere.role ≡ halves p.role
  pub replaying : replays v.sphere.role ≡ replays p.role
  pub limits : (s j : ℕ) (t : Parts) → is_stopped v.sphere.role ≡ false → limit_of s v.sphere.role j t ≡ limit_of s p.role j t
  pub after : (s j : ℕ) (t : Parts) → limit_after s v.sphere.role j t ≡ limit_after s p.role j t
  pub apart : Apart v.words
  pub divergence : Divergence devices p v v.outcome

words_apart : (request : Request) (bytes : List ℕ) → Apart (dma_words request bytes)
words_apart request bytes = bytes_apart _ request.buf _ tt

-- it is the DMA's turn in a replay that hasn't stopped
pub dma-turn_is : (now : TurnOrEnd) → is_over now ≡ false → other_than Actor.Dma (actor_of now) ≡ None → now ≡ TurnOfDma
dma-turn_is (Turn k) going e = absurd (none-some (Actor.Thread k) (sym e))
dma-turn_is TurnOfDma going e = refl
dma-turn_is (Ended how) going e = absurd (true≢false going)

as_moves : (role : Role) (words : List Stored) (ds devices : Devices) (p : Sphere) → halves role ≡ halves p.role → replays role ≡ replays p.role → ((s j : ℕ) (t : Parts) → limit_of s role j t ≡ limit_of s p.role j t) → ((s j : ℕ) (t : Parts) → limit_after s role j t ≡ limit_after s p.role j t) → Apart words
    → DmaMoves ds p (dma_as role words devices p)
as_moves role words ds devices p halving replaying limits after apart =
    record {
      memory = refl;
      threads = refl;
      halving = halving;
      replaying = replaying;
      limits = λ s j t going. limits s j t;
      after = after;
      apart = apart;
      divergence = tt;
    }

live_moves : (role : Role) (devices : Devices) (p : Sphere) (o : Option Request) (v : MovedSphere) → halves role ≡ halves p.role → replays role ≡ replays p.role → ((s j : ℕ) (t : Parts) → limit_of s role j t ≡ limit_of s p.role j t)
    → ((s j : ℕ) (t : Parts) → limit_after s role j t ≡ limit_after s p.role j t) → live_dma role devices p o ≡ Some v → DmaMoves devices p v
live_moves role devices p None v halving replaying limits after is = absurd (none-some v is)
live_moves role devices p (Some request) v halving replaying limits after is =
    let words = dma_words request (dma_bytes devices request) in
    subst (DmaMoves devices p) (let h : dma_as role words (dma_taken devices request) p ≡ v = cc in h)
    (as_moves role words devices (dma_taken devices request) p halving replaying limits after (words_apart request (dma_bytes devices request)))

verdict_moves : (b : Cursor) (verdict : DmaVerdict) (devices : Devices) (p : Sphere) → p.role ≡ Replay b → b.now ≡ TurnOfDma → ((ws : List Stored) → verdict ≡ DmaGoes ws → Apart ws) → DmaMoves devices p (dma_by_verdict b verdict devices p)
unfolding limit_of limit_after
verdict_moves b (DmaFails why) devices p is turn apart =
    record {
      memory = refl;
      threads = refl;
      halving = ap halves (sym is);
      replaying = ap replays (sym is);
      limits = λ s j t going. absurd (true≢false going);
      after = λ s j t. ap (λ (q : Role). limit_after_in q s j t.commits) (sym is);
      apart = tt;
      divergence = (refl, refl, refl, refl);
    }
verdict_moves b (DmaGoes words) devices p is turn apart =
    as_moves (Replay _) words devices devices p (ap halves (sym is)) (ap replays (sym is))
    (λ s j t.
    ap (λ (n : ℕ). max 1 (whole_limit b.log j t.commits - n)) (pieces_none _ j ∙ sym (ap (λ (now : TurnOrEnd). pieces_of now j b.total) turn))
    ∙ ap (λ (q : Role). limit_in q s j t.commits) (sym is))
    (λ s j t. ap (λ (q : Role). limit_after_in q s j t.commits) (sym is))
    (apart words refl)

by_fit : (b : Bool) (ws us : List Stored) → Apart ws → cond b (DmaGoes ws) (DmaFails Why.Dma) ≡ DmaGoes us → Apart us
by_fit true ws us apart e = subst Apart (let h : ws ≡ us = cc in h) apart
by_fit false ws us apart e = cc

transferred_apart : (i : ℕ) (o : Option Request) (n : Option DmaRecord) (ws : List Stored) → transferred i o n ≡ DmaGoes ws → Apart ws
transferred_apart i None n ws e = cc
transferred_apart i (Some request) None ws e = cc
transferred_apart i (Some request) (Some dma) ws e =
    by_fit (is_for i request dma) (dma_words request dma.bytes) ws (words_apart request dma.bytes) e

unless_apart : (o : Option Why) (x : DmaVerdict) → ((ws : List Stored) → x ≡ DmaGoes ws → Apart ws) → (ws : List Stored) → dma_unless o x ≡ DmaGoes ws → Apart ws
unless_apart None x each ws e = each ws e
unless_apart (Some why) x each ws e = cc

verdict_apart : (log : LogParts) (p : Progress) (u : Used) (ws : List Stored) → dma_verdict log p u ≡ DmaGoes ws → Apart ws
unfolding dma_verdict
verdict_apart log p u ws e =
    let next = slice_get log.dmas u.dmas in
    unless_apart (serial_why (size_in log Actor.Dma (position p))) (transferred (position p) p.request next) (λ vs h. transferred_apart (position p) p.request next vs h) ws e

in_moves : (role : Role) (devices : Devices) (p : Sphere) (v : MovedSphere) → p.role ≡ role → is_stopped role ≡ false → turn_in role p Actor.Dma ≡ None → dma_in role devices p ≡ Some v → DmaMoves devices p v
unfolding limit_of limit_after
in_moves Plain devices p v is going turn e =
    live_moves Plain devices p p.progress.request v (ap halves (sym is)) (ap replays (sym is)) (λ s j t. ap (λ (q : Role). limit_in q s j t.commits) (sym is)) (λ s j t. ap (λ (q : Role). limit_after_in q s j t.commits) (sym is)) e
in_moves (Record recording) devices p v is going turn e =
    live_moves (Record (record recording { log = dma_log recording.log devices p p.progress.request })) devices p p.progress.request v (ap halves (sym is)) (ap replays (sym is)) (λ s j t. ap (λ (q : Role). limit_in q s j t.commits) (sym is)) (λ s j t. ap (λ (q : Role). limit_after_in q s j t.commits) (sym is)) e
in_moves (Replay b) devices p v is going turn e =
    subst (DmaMoves devices p) (let h : dma_by_verdict b (dma_verdict b.log p.progress b.used) devices p ≡ v = cc in h)
    (verdict_moves b (dma_verdict b.log p.progress b.used) devices p is (dma-turn_is b.now going turn) (λ ws h. verdict_apart b.log p.progress b.used ws h))

-- a DMA that is done leaves the memory, the threads, their limits and the role
pub dma-moves : (devices : Devices) (p : Sphere) (v : MovedSphere) → is_stopped p.role ≡ false → turn_against p Actor.Dma ≡ None → dma_moved devices p ≡ Some v → DmaMoves devices p v
unfolding dma_moved turn_against
dma-moves devices p v going turn e = in_moves p.role devices p v refl going turn e

live_grants : (role : Role) (devices : Devices) (p : Sphere) (o : Option Request) (v : MovedSphere) → live_dma role devices p o ≡ Some v → v.outcome ≡ Granted
live_grants role devices p None v e = absurd (none-some v e)
live_grants role devices p (Some request) v e =
    let h : dma_as role (dma_words request (dma_bytes devices request)) (dma_taken devices request) p ≡ v = cc in ap (λ (u : MovedSphere). u.outcome) (sym h)

in_lives : (role : Role) (devices : Devices) (p : Sphere) (v : MovedSphere) → replays role ≡ false → dma_in role devices p ≡ Some v → v.outcome ≡ Granted
in_lives Plain devices p v live e = live_grants Plain devices p p.progress.request v e
in_lives (Record recording) devices p v live e = live_grants (Record (record recording { log = dma_log recording.log devices p p.progress.request })) devices p p.progress.request v e
in_lives (Replay b) devices p v live e = absurd (true≢false live)

-- outside replays the answer to a DMA that is done is Granted
pub dma-lives : (devices : Devices) (p : Sphere) (v : MovedSphere) → replays p.role ≡ false → dma_moved devices p ≡ Some v → v.outcome ≡ Granted
unfolding dma_moved
dma-lives devices p v live e = in_lives p.role devices p v live e
