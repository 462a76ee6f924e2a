-- What the thread whose turn it is has begun is no more than its replay has left: so what is left is never below 0.
use Rattle.std.proofs.Common.{◌≡◌, ℕ, ◌+◌, ◌-◌, ◌≤◌, eqb, List, [], Option, Some, None, refl, sym, ap, ◌∙◌, subst, arith}
use Rattle.std.specs.Prelude.{slice_get}
use Rattle.std.proofs.lemmas.Bool.{and_parts, eqb-true}
use Rattle.std.proofs.lemmas.Option.{none-some}
use Rattle.dl_entry.specs.declared.Actor.{Actor}
use Rattle.spec_isa.specs.Words.{lays}
use Rattle.spec_isa.specs.Runs.{Run, run}
use Rattle.spec_engine.specs.declared.answers.How.{How}
use Rattle.spec_engine.specs.Flights.{at}
use Rattle.spec_engine.specs.Chunks.{Chunk, is_open}
use Rattle.spec_engine.proofs.Searches.{first_some}
use Rattle.spec_sphere.specs.sphere.Spheres.{Role, Replay, Sphere, is_stopped, limit_of, replays}
use Rattle.spec_protocol.specs.machine.World.{World, Occupant, sphere_at, runs, core_of}
use Rattle.spec_protocol.specs.machine.Machine.{Setup}
use Rattle.spec_engine.specs.Flying.{flying}
use Rattle.spec_protocol.specs.promises.Invariants.{Closes, current}
use Rattle.spec_protocol.specs.promises.Currency.{IsCurrent}
use Rattle.spec_protocol.specs.machine.Finishing.{SphereTurn, least, standing}
use Rattle.spec_sphere.proofs.Moves.Joining.{its_turn}
use Rattle.spec_finishing.specs.Rank.{spheres_rank, potential, held_under_way, core_under_way, actor_under_way, turn_under_way, standing_under_way, under_way}
use Rattle.spec_finishing.proofs.Left.Slots.{one_at_most}
use Rattle.spec_finishing.proofs.Left.Pricing.{price-least}
use Rattle.spec_finishing.proofs.Paying.Affording.{Afforded}
use Rattle.spec_finishing.proofs.Paying.Plays.{paid, afford-paid}
use Rattle.spec_finishing.proofs.Paying.NextCommits.{ThreadNext}
use Rattle.spec_finishing.proofs.Paying.GoingOn.{thread-next, part-afforded}
use Rattle.spec_finishing.proofs.Left.Rows.{sphere-least}
use Rattle.spec_finishing.proofs.Paying.Commits.{rank-left}
use Rattle.spec_finishing.proofs.Left.AnyAsk.{nothing_flies}
use Rattle.spec_finishing.proofs.Ending.Knowing.{Known}
use Rattle.spec_finishing.proofs.Next.Turns.{no-flight, HasActor, has-actor, turn-of}

-- ---- a running chunk

closes_most : (capacity : ℕ) (ch : Chunk) (o : Option How) → ch.closed ≡ o → Closes capacity ch → ch.done.n ≤ ch.limit
closes_most capacity ch None e closes = let l = closes.opened e in omega (arith, l)
closes_most capacity ch (Some How.Limit) e closes = let l = closes.full e in omega (arith, l)
closes_most capacity ch (Some How.Serial) e closes = let l = closes.early How.Serial e (λ h. cc) in omega (arith, l)
closes_most capacity ch (Some How.Overflow) e closes = let l = closes.early How.Overflow e (λ h. cc) in omega (arith, l)
closes_most capacity ch (Some How.Cut) e closes = let l = closes.early How.Cut e (λ h. cc) in omega (arith, l)

-- with no flight left, a chunk is what its instructions do on its sphere's memory
chunk_ran : (s : Setup) (w : World) (c : ℕ) (h : Occupant) → Known s w → standing w ≡ None → at w.cores c ≡ Some h → (run (sphere_at w h.chunk.sphere).memory h.chunk.start h.chunk.done.n).n ≡ h.chunk.done.n
chunk_ran s w c h known none is =
    let i = h.chunk.sphere in
    let empty : flying i w.slots ≡ [] = nothing_flies i w.slots (λ k f e. absurd (none-some f (sym (no-flight w none k) ∙ e))) in
    let live : IsCurrent (current w i) h.chunk = (known.good.held c h is).chunk.live (record { misses = λ k f e same untold. absurd (none-some f (sym (no-flight w none k) ∙ e)) }) in
    subst (λ (m : List ℕ). (run m h.chunk.start h.chunk.done.n).n ≡ h.chunk.done.n) (ap (lays (sphere_at w i).memory) empty) (ap (λ (r : Run). r.n) live.runs)

-- the next commit of the thread whose turn it is
next_of : (s : Setup) (w : World) (i k : ℕ) → (a : HasActor s w i (Actor.Thread k)) → ThreadNext a.image a.sphere a.cursor k
next_of s w i k a = thread-next a.image a.sphere a.cursor k a.goes (its_turn a.cursor k (turn-of s w i k a))

held_affords : (s : Setup) (w : World) (c : ℕ) (h : Occupant) → Known s w → standing w ≡ None → at w.cores c ≡ Some h → (a : HasActor s w h.chunk.sphere (Actor.Thread h.thread)) → Afforded (next_of s w h.chunk.sphere h.thread a).work a.cursor.total h.chunk.done.n
held_affords s w c h known none is a =
    let held = known.good.held c h is in
    let role : (sphere_at w h.chunk.sphere).role ≡ Replay a.cursor = ap (λ (p : Sphere). p.role) a.at ∙ a.role in
    let fits = held.thread.limit (ap is_stopped role ∙ a.going) in
    let limited : h.chunk.limit ≡ limit_of w.numbers.s (Replay a.cursor) h.thread h.chunk.start = fits.replayed (ap replays role) ∙ ap (λ (r : Role). limit_of w.numbers.s r h.thread h.chunk.start) role in
    part-afforded a.image a.sphere a.cursor h.thread h.chunk.start w.numbers.s h.chunk.done.n (next_of s w h.chunk.sphere h.thread a)
    (sym (ap (λ (p : Sphere). slice_get p.threads h.thread) a.at) ∙ held.thread.start)
    (subst (λ (p : Sphere). (run p.memory h.chunk.start h.chunk.done.n).n ≡ h.chunk.done.n) a.at (chunk_ran s w c h known none is))
    (subst (λ (l : ℕ). h.chunk.done.n ≤ l) limited (closes_most w.numbers.capacity h.chunk h.chunk.closed refl held.chunk.closes))

-- what a replay has left pays for its running chunk
held_paid : (s : Setup) (w : World) (c : ℕ) (h : Occupant) → Known s w → standing w ≡ None → at w.cores c ≡ Some h → HasActor s w h.chunk.sphere (Actor.Thread h.thread) → paid s.cores h.chunk.done.n ≤ spheres_rank s.cores s.spheres w.spheres
held_paid s w c h known none is a =
    let n = h.chunk.done.n in
    let next = next_of s w h.chunk.sphere h.thread a in
    let afford = held_affords s w c h known none is a in
    let enough = afford-paid s.cores next.work a.cursor.total n afford in
    let before = rank-left s.cores a.image a.sphere a.cursor ((next.work + next.later) - a.cursor.total) a.role next.left in
    let more = price-least s.cores (next.work - a.cursor.total) ((next.work + next.later) - a.cursor.total) (omega arith) in
    let all = sphere-least s.cores s.spheres w.spheres h.chunk.sphere a.image a.sphere a.starts a.there in
    omega (arith, enough, before, more, all)

-- ---- the thread's core

-- core c holds that chunk of thread k of sphere i
pub record OnCore (w : World) (i k c : ℕ) (h : Occupant) : Type 0 where
  pub there : at w.cores c ≡ Some h
  pub sphere : h.chunk.sphere ≡ i
  pub thread : h.thread ≡ k

-- the core on which a thread is found holds its chunk
pub on-core : (w : World) (i k c : ℕ) → core_of w i k ≡ Some c → (h : Occupant) × OnCore w i k c h
on-core w i k c e =
    let f = first_some (runs i k) w.cores c e in
    let p = and_parts (eqb f.0.chunk.sphere i) (eqb f.0.thread k) f.2 in
    (f.0, record { there = f.1; sphere = eqb-true f.0.chunk.sphere i p.0; thread = eqb-true f.0.thread k p.1 })

-- what is left of all spheres pays for the running chunk of the thread that has the turn
pub core-paid : (s : Setup) (w : World) (i k c : ℕ) (h : Occupant) → Known s w → standing w ≡ None → HasActor s w i (Actor.Thread k) → OnCore w i k c h → paid s.cores h.chunk.done.n ≤ spheres_rank s.cores s.spheres w.spheres
core-paid s w i k c h known none a on =
    held_paid s w c h known none on.there
    (subst (λ (j : ℕ). HasActor s w j (Actor.Thread h.thread)) (sym on.sphere) (subst (λ (j : ℕ). HasActor s w i (Actor.Thread j)) (sym on.thread) a))

-- ---- what is under way

core_most : (s : Setup) (w : World) (i k : ℕ) (o : Option ℕ) → Known s w → standing w ≡ None → HasActor s w i (Actor.Thread k) → core_of w i k ≡ o → core_under_way w o ≤ potential s w
core_most s w i k None known none a e = omega arith
core_most s w i k (Some c) known none a e =
    let on = on-core w i k c e in
    let pays = core-paid s w i k c on.0 known none a on.1 in
    let is : held_under_way (at w.cores c) ≡ held_under_way (Some on.0) = ap held_under_way on.1.there in
    let one = one_at_most (is_open on.0.chunk) in
    omega (arith, pays, is, one)

actor_most : (s : Setup) (w : World) (i : ℕ) (actor : Actor) → Known s w → standing w ≡ None → HasActor s w i actor → actor_under_way w i actor ≤ potential s w
actor_most s w i Actor.Dma known none a = omega arith
actor_most s w i (Actor.Thread k) known none a = core_most s w i k (core_of w i k) known none a refl

who_most : (s : Setup) (w : World) (o : Option SphereTurn) → Known s w → standing w ≡ None → least 0 w.spheres ≡ o → turn_under_way w o ≤ potential s w
who_most s w None known none e = omega arith
who_most s w (Some who) known none e = actor_most s w who.sphere who.actor known none (has-actor s w who known none e)

standing_most : (s : Setup) (w : World) (o : Option ℕ) → Known s w → standing w ≡ o → standing_under_way w o ≤ potential s w
standing_most s w (Some k) known e = omega arith
standing_most s w None known e = who_most s w (least 0 w.spheres) known e refl

-- what is under way is no more than what is left
pub under_way-most : (s : Setup) (w : World) → Known s w → under_way w ≤ potential s w
unfolding under_way
under_way-most s w known = standing_most s w (standing w) known refl

-- ---- how much is under way

-- while there is a flight, nothing counts as under way
pub under_way-flight : (w : World) (k : ℕ) → standing w ≡ Some k → under_way w ≡ 0
unfolding under_way
under_way-flight w k e = ap (standing_under_way w) e

-- if no flight is left, what is under way is what the next replay's actor has begun
pub under_way-actor : (w : World) (who : SphereTurn) → standing w ≡ None → least 0 w.spheres ≡ Some who → under_way w ≡ actor_under_way w who.sphere who.actor
unfolding under_way
under_way-actor w who none e = ap (standing_under_way w) none ∙ ap (turn_under_way w) e
